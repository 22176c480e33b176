use Rattle.std.proofs.Common.{◌≡◌, refl, ◌∙◌, sym, ap, take, get_or, Bool, true, false}
use Rattle.std.specs.Prelude.{◌==◌, ◌||◌}
use Rattle.std.proofs.lemmas.List.{take_all}
use Rattle.std.proofs.lemmas.List.Folds.{list_any_more}
use Rattle.smil_model.specs.document.Closure.{has}
use Rattle.smil_laws.proofs.LineageParents.{same_eqb}
use Rattle.smil_graph.proofs.RowsBuilt.{right}
use Rattle.smil_nodes.proofs.RanksListed.{take_none}
use Rattle.smil_nodes.proofs.followers.put_ranks.Goals as goal

pub loop-rank-init : goal.loop-rank-init
loop-rank-init c = λ r. right (has c.args.agenda.now r) ∙ ap (λ xs. has c.args.agenda.now r || has xs r) (sym (take_none c.args.ranks.now))

turn : (a b c : Bool) → (a || (b || c)) ≡ (b || (c || a))
turn true true c = refl
turn true false true = refl
turn true false false = refl
turn false true c = refl
turn false false true = refl
turn false false false = refl

pub loop-rank-preserved : goal.loop-rank-preserved
loop-rank-preserved c = λ r.
    let ranks = c.args.ranks.now in
    let k = c.loop-rank.rank-index in
    let rank = get_or ranks k 0 in
    let old = c.args.agenda.now in
    c.in_ok-put.ensures.ok r
    ∙ ap (λ t. (r == rank) || t) (c.loop-rank.invariant r)
    ∙ turn (r == rank) (has old r) (has (take k ranks) r)
    ∙ ap (λ t. has old r || (has (take k ranks) r || t)) (same_eqb r rank)
    ∙ ap (λ t. has old r || t) (sym (list_any_more (λ y. y == r) ranks k 0 c.loop-rank-test.true))

pub returns : goal.returns
returns c = λ r.
    c.loop-rank.invariant r
    ∙ ap (λ xs. has c.args.agenda.now r || has xs r) (take_all c.loop-rank.rank-index c.args.ranks.now c.loop-rank-test.false)
