use Rattle.std.proofs.Common.{sym, ◌∙◌, ap, subst, pos}
use Rattle.std.proofs.lemmas.Result.{on_ok_weaker}
use Rattle.smil_model.specs.diary.Lawful.{IsLawful}
use Rattle.smil_model.specs.document.Document.{Document, elements}
use Rattle.smil_tree.proofs.AttributesChanged.{serial_of as own_serial}
use Rattle.smil_model.proofs.GrowingTexts.{begins_by}
use Rattle.smil_cells.specs.CellsState.{history_of}
use Rattle.smil_report.specs.Words.{who_of}
use Rattle.smil_shown.specs.Histories.{end_at, present_line}
use Rattle.smil_shown.proofs.LineTexts.{begins_either}
use Rattle.smil_shown.proofs.PresentPlays.{told_all}
use Rattle.smil_shown.proofs.intervals.put_intervals.Goals as goal

pub follow_all-requires-clause-may : goal.follow_all-requires-clause-may
follow_all-requires-clause-may g c = record {
  past = history_of c.args.cells.now;
  start = c.args.out.now;
  same_diary = sym c.book.ensures;
  lawful = subst IsLawful c.past.ensures c.possible.ensures.lawful;
  nothing_told = c.in_ok-told.ensures.nothing (history_of c.args.cells.now) (who_of c.args.subject.name) c.args.out.now (ap (λ (d : Document). d.nodes) (sym c.tree.ensures));
}

pub returns-clause-told : goal.returns-clause-told
returns-clause-told g c = λ e here.
    let s = c.args.cells.now in
    let h = history_of s in
    let own = own_serial (elements s.presentation.document.nodes) c.args.subject.serial e here in
    let nothing = c.in_ok-told.ensures.nothing h (who_of c.args.subject.name) c.args.out.now (ap (λ (d : Document). d.nodes) (sym c.tree.ensures)) in
    let told = c.in_ok-follow_all.ensures.told h c.args.out.now (sym c.book.ensures) (subst IsLawful c.past.ensures c.possible.ensures.lawful) nothing in
    on_ok_weaker c.put_present.result
    (told_all h (pos s.presentation.now) e (who_of c.args.subject.name) c.args.out.now c.follow_all.new.self c.follow_all.new.out c.put_present.new.out told
    (c.follow_all.ensures.who ∙ c.in_ok-told.ensures.who ∙ sym own))
    (c.put_present.ensures.ok e own)

pub returns-clause-begins : goal.returns-clause-begins
returns-clause-begins g c =
    let s = c.args.cells.now in
    let e = c.requires.element in
    let own = own_serial (elements s.presentation.document.nodes) c.args.subject.serial e.0 e.1 in
    begins_by c.args.out.now c.follow_all.new.out c.put_present.new.out c.follow_all.ensures.begins
    (begins_either c.put_present.result c.follow_all.new.out c.put_present.new.out
    (present_line (who_of c.args.subject.name) c.follow_all.new.self.present (end_at (history_of s) (pos s.presentation.now) e.0))
    (c.put_present.ensures.ok e.0 own) c.put_present.ensures.err)
