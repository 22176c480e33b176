use Rattle.std.proofs.Common.{◌+◌, ◌≤◌, sym, ap, ◌∙◌, length, arith}
use Rattle.std.specs.Prelude.{is_some}
use Rattle.std.proofs.lemmas.Bool.{ltb-false}
use Rattle.smil_tree.proofs.ChildSpans.{last_told, alone_told, place_told, place_within, has_place}
use Rattle.smil_tree.proofs.tree.spans.end_of.Goals as goal

pub loop-last-smaller : goal.loop-last-smaller
loop-last-smaller c =
    let told = last_told c.args.nodes.now c.requires.valid.0 c.requires.valid.1.numbered c.args.kin.now c.requires.kin c.loop-last.at c.loop-last.invariant.known c.children.result.now c.children.ensures c.in-Some.last.now c.in-Some.ensures.value in
    omega (arith, told.later, told.within)

pub loop-last-preserved : goal.loop-last-preserved
loop-last-preserved c =
    let told = last_told c.args.nodes.now c.requires.valid.0 c.requires.valid.1.numbered c.args.kin.now c.requires.kin c.loop-last.at c.loop-last.invariant.known c.children.result.now c.children.ensures c.in-Some.last.now c.in-Some.ensures.value in
    record { known = told.known; same = sym told.same ∙ c.loop-last.invariant.same }

pub unwrap-requires : goal.unwrap-requires
unwrap-requires c = ap is_some c.position.ensures ∙ has_place c.args.nodes.now c.requires.valid.0 c.requires.valid.1.numbered c.loop-last.at c.loop-last.invariant.known

pub overflow_add-result : goal.overflow_add-result
overflow_add-result c =
    omega (
      arith,
      place_told c.args.nodes.now c.requires.valid.0 c.requires.valid.1.numbered c.loop-last.at c.unwrap.result c.loop-last.invariant.known (sym c.unwrap.ensures ∙ c.position.ensures),
      place_within c.args.nodes.now c.requires.valid.0 c.requires.valid.1.numbered c.loop-last.at c.loop-last.invariant.known,
      c.requires.valid.1.nodes,
    )

pub returns : goal.returns
returns c =
    let none : length c.children.result.now ≤ 0 = ltb-false _ _ (sym c.last.ensures.item.0 ∙ ap is_some c.in_default.is) in
    ap (λ k. k + 1) (place_told c.args.nodes.now c.requires.valid.0 c.requires.valid.1.numbered c.loop-last.at c.unwrap.result c.loop-last.invariant.known (sym c.unwrap.ensures ∙ c.position.ensures))
    ∙ sym (alone_told c.args.nodes.now c.requires.valid.0 c.requires.valid.1.numbered c.args.kin.now c.requires.kin c.loop-last.at c.loop-last.invariant.known c.children.result.now c.children.ensures none)
    ∙ c.loop-last.invariant.same
