use Rattle.std.proofs.Common.{◌∙◌, ap, subst, drop, List}
use Rattle.std.proofs.lemmas.List.{take_rest}
use Rattle.smil_model.specs.declared.diary.Entry.{Entry}
use Rattle.smil_rounds.specs.Current.{interval_in}
use Rattle.smil_cells.proofs.ElementsShown.{entries_from}
use Rattle.smil_cells.specs.Evaluated.{is_noted_at, is_noted_by}
use Rattle.smil_nodes.specs.Noted.{AreNoted}
use Rattle.smil_nodes.proofs.RanksListed.{all_noted, more_noted, none_taken}
use Rattle.smil_nodes.proofs.concerned.note_concerned.Goals as goal

pub loop-entry-init : goal.loop-entry-init
loop-entry-init c =
    let graph = c.args.graph.now in
    none_taken graph.order (is_noted_at graph.nodes c.args.past.now.log (interval_in c.args.schedule.now)) (entries_from c.entries.result.now c.args.from) c.args.agenda.now

pub loop-entry-preserved : goal.loop-entry-preserved
loop-entry-preserved c =
    let graph = c.args.graph.now in
    more_noted graph.order (is_noted_at graph.nodes c.args.past.now.log (interval_in c.args.schedule.now)) (entries_from c.entries.result.now c.args.from) c.loop-entry.entry-index _ c.args.agenda.now c.loop-entry.agenda c.note_step.new.agenda
    c.loop-entry-test.true c.loop-entry.invariant c.in_ok-note_step.ensures

pub returns : goal.returns
returns c =
    let graph = c.args.graph.now in
    let log = c.args.past.now.log in
    let entries = c.entries.result.now in
    subst (λ (es : List Entry). AreNoted graph.order (is_noted_by graph.nodes log (interval_in c.args.schedule.now) es) c.args.agenda.now c.loop-entry.agenda)
    (take_rest entries c.args.from ∙ ap (λ (es : List Entry). drop c.args.from es) (c.entries.ensures ∙ c.book.ensures))
    (all_noted graph.order (is_noted_at graph.nodes log (interval_in c.args.schedule.now)) (entries_from entries c.args.from) c.loop-entry.entry-index c.args.agenda.now c.loop-entry.agenda c.loop-entry-test.false c.loop-entry.invariant)
