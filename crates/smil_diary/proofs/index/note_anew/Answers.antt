use Rattle.std.proofs.Common.{ap, sym, ◌∙◌}
use Rattle.std.specs.Prelude.{is_some}
use Rattle.smil_diary.specs.ElementPlaces.{kept, row_of}
use Rattle.smil_diary.proofs.IndexNoted.{given}
use Rattle.smil_diary.proofs.IndexRows.{kept_cleared, row_cleared}
use Rattle.smil_diary.proofs.index.note_anew.Goals as goal

pub note_each-requires-clause-rows : goal.note_each-requires-clause-rows
note_each-requires-clause-rows c = λ who.
    c.requires.rows who ∙ sym (ap (λ es. row_of es who) c.clear_each.ensures ∙ row_cleared c.args.elements.now who)

pub note_each-requires-clause-none : goal.note_each-requires-clause-none
note_each-requires-clause-none c = λ who.
    ap (λ es. kept es who) c.clear_each.ensures ∙ kept_cleared c.args.elements.now who

pub returns-clause-same : goal.returns-clause-same
returns-clause-same c = λ who.
    c.note_each.ensures.same who ∙ ap (λ es. row_of es who) c.clear_each.ensures ∙ row_cleared c.args.elements.now who

pub returns-clause-kept : goal.returns-clause-kept
returns-clause-kept c = λ who.
    c.note_each.ensures.kept who
    ∙ ap (λ o. given (is_some o) c.args.entries.now who)
    (ap (λ es. row_of es who) c.clear_each.ensures ∙ row_cleared c.args.elements.now who)
