use Rattle.std.proofs.Common.{◌≡◌, ◌∙◌, ap, subst, sym, List, ℕ, ◌+◌, ◌*◌, ◌/◌, ◌-◌, None, drop, replicate, arith, rules}
use Rattle.std.specs.Prelude.{Option}
use Rattle.std.proofs.lemmas.List.{drop-replicate}
use Rattle.smil_nodes.specs.Slots.{IsDueTree}
use Rattle.smil_nodes.proofs.DueTrees.{none_tree}
use Rattle.smil_nodes.proofs.due_tree.DueTree.new.Goals as goal

pub invariant_of-result : goal.invariant_of-result
invariant_of-result c =
    let count = c.args.count in
    let length = 8 * (count / 7 + 1) + 1 in
    let are : c.in_ok-places.places.items ≡ replicate length None = c.in_ok-places.ensures.items_if_clones_equal (λ y h. search rules) ∙ ap (replicate length) c.none.ensures in
    subst (λ (places : List (Option ℕ)). IsDueTree places (length - count)) (sym are) (none_tree count c.requires)

pub returns : goal.returns
returns c =
    let count = c.args.count in
    let length = 8 * (count / 7 + 1) + 1 in
    let are : c.in_ok-places.places.items ≡ replicate length None = c.in_ok-places.ensures.items_if_clones_equal (λ y h. search rules) ∙ ap (replicate length) c.none.ensures in
    let rest : length - (length - count) ≡ count = omega arith in
    ap (drop (length - count)) are
    ∙ drop-replicate (length - count) length None
    ∙ ap (λ (n : ℕ). replicate n None) rest
