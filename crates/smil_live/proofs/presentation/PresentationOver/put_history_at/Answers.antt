use Rattle.std.proofs.Common.{refl, sym, ◌∙◌, ap, subst, ◌++◌, List, Option, IsSome}
use Rattle.std.specs.Prelude.{flat_map}
use Rattle.std.proofs.lemmas.Result.{on_ok_weaker}
use Rattle.smil_model.specs.declared.document.Node.{Node as AnyNode}
use Rattle.smil_model.specs.document.Valid.{IsNumberedTree}
use Rattle.smil_model.specs.shown.Answers.{told_line}
use Rattle.smil_model.specs.shown.Histories.{ShownInterval}
use Rattle.smil_report.specs.Words.{who_of}
use Rattle.smil_live.proofs.TextsApart.{cells_playing, cells_with, listed_with}
use Rattle.smil_live.proofs.ToldAnswers.{history_answer, named_element, twin_named}
use Rattle.smil_live.proofs.presentation.PresentationOver.put_history_at.Goals as goal

pub name_of-requires : goal.name_of-requires
name_of-requires g c =
    let r = c.requires in
    let numbered = subst IsNumberedTree c.tree.ensures.document c.tree.ensures.valid.numbered in
    let at = named_element c.args.self.now c.tree.result.now r.0 r.1 c.args.serial numbered c.tree.ensures.document r.2 r.3 in
    let P : Option AnyNode → Type 0 = λ o. IsSome o in subst P (sym at.node) refl

pub put_intervals-requires-clause-sound : goal.put_intervals-requires-clause-sound
put_intervals-requires-clause-sound g c = c.self.invariant.playing.shown_is.sound

pub put_intervals-requires-clause-state : goal.put_intervals-requires-clause-state
put_intervals-requires-clause-state g c = c.self.invariant.playing.shown_is.state

pub put_intervals-requires-clause-settled : goal.put_intervals-requires-clause-settled
put_intervals-requires-clause-settled g c = c.self.invariant.playing.shown_is.settled

pub put_intervals-requires-clause-element : goal.put_intervals-requires-clause-element
put_intervals-requires-clause-element g c =
    let r = c.requires in
    let other = twin_named c.self.inside.viewer.cells c.self.inside.viewer.seen c.self.inside.edited c.args.self.now c.self.invariant c.self.view_is c.args.serial r.0 r.1 r.2 r.3 in
    (other.twin, other.found)

pub returns-clause-told : goal.returns-clause-told
returns-clause-told g c = λ w n q own.
    let cells = c.self.inside.viewer.cells in
    let numbered = subst IsNumberedTree c.tree.ensures.document c.tree.ensures.valid.numbered in
    let named = named_element c.args.self.now c.tree.result.now w n c.args.serial numbered c.tree.ensures.document q own in
    let other = twin_named cells c.self.inside.viewer.seen c.self.inside.edited c.args.self.now c.self.invariant c.self.view_is c.args.serial w n q own in
    let listed = listed_with cells c.self.inside.viewer.seen c.self.inside.edited other.twin n c.self.invariant other.alike in
    let is = cells_playing cells c.self.inside.viewer.seen c.self.inside.edited c.self.invariant in
    on_ok_weaker c.put_intervals.result
    (λ told.
    history_answer (cells_with cells c.self.inside.edited) c.args.self.now n (who_of c.name_of.result) c.args.out.now c.put_intervals.new.out c.self.view_is is.shown_is.settled (c.name_of.ensures ∙ named.name)
    (told ∙ ap (λ (ts : List ShownInterval). c.args.out.now ++ flat_map (told_line (who_of c.name_of.result)) ts) listed))
    (c.put_intervals.ensures.told other.twin other.found)
