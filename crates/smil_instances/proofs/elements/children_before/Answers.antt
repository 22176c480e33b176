use Rattle.std.proofs.Common.{◌≡◌, sym, ap, ◌∙◌, ◌++◌, [], ◌∷◌, ℕ, nat_eq, Some, List, Option, take, map, cond, get_or}
use Rattle.std.specs.Prelude.{is_some, option_and_then}
use Rattle.std.specs.HashMap.{get}
use Rattle.smil_model.specs.declared.document.Node.{Node}
use Rattle.smil_model.specs.document.Document.{elements, previous_child, time_parent, serial_of}
use Rattle.smil_model.specs.reach.Reach.{is_option}
use Rattle.smil_instances.proofs.EmptyRows.{at_place, element_at}
use Rattle.smil_instances.proofs.ListsMade.{map_next}
use Rattle.smil_instances.proofs.SiblingBefore.{before_told, last_told}
use Rattle.smil_instances.proofs.elements.children_before.Goals as goal

pub time_parent-parent-requires : goal.time_parent-parent-requires
time_parent-parent-requires c =
    let here = at_place (elements c.args.tree.now.nodes) c.args.whos.now c.loop-who.who-index c.requires c.loop-who-test.true in
    ap is_some (element_at c.args.tree.now c.valid.ensures.numbered c.loop-who.who-index _ here)

pub loop-who-preserved : goal.loop-who-preserved
loop-who-preserved c =
    let nodes = c.args.tree.now.nodes in
    let i = c.loop-who.who-index in
    let here = at_place (elements nodes) c.args.whos.now i c.requires c.loop-who-test.true in
    let d = c.valid.ensures.numbered.distinct in
    let f : Node → Option ℕ = λ n. serial_of (previous_child nodes (time_parent nodes n.serial) n.serial) in
    let parent : c.time_parent-parent.result ≡ serial_of (time_parent nodes here.node.serial) = c.time_parent-parent.ensures ∙ ap (λ s. serial_of (time_parent nodes s)) here.serial in
    let before : c.in_ok-before.before ≡ f here.node =
    c.in_ok-before.ensures.before ∙ ap (option_and_then (get nat_eq c.loop-who.last)) parent
    ∙ before_told nodes d i here.node here.at (get nat_eq c.loop-who.last) c.loop-who.invariant.last in
    record {
      befores = c.in_ok-push.ensures.items ∙ ap (λ (xs : List (Option ℕ)). xs ++ c.in_ok-before.before ∷ []) c.loop-who.invariant.befores
          ∙ ap (λ (b : Option ℕ). map f (take i (elements nodes)) ++ b ∷ []) before
          ∙ sym (map_next f (elements nodes) i here.node here.at);
      last = last_told nodes d i here.node here.at (get nat_eq c.loop-who.last) (get nat_eq c.put_last.new.last) c.loop-who.invariant.last
          (λ p. c.in_ok-before.ensures.last p
          ∙ ap (λ o. cond (is_option p o) (Some (get_or c.args.whos.now i 0)) (get nat_eq c.loop-who.last p)) parent
          ∙ ap (λ s. cond (is_option p (serial_of (time_parent nodes here.node.serial))) (Some s) (get nat_eq c.loop-who.last p)) here.serial);
    }
