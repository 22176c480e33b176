use Rattle.std.proofs.Common.{ap, sym, subst, ◌∙◌, ◌≤◌, refl}
use Rattle.std.specs.Prelude.{IfSome, if◌then◌else◌, is_some}
use Rattle.smil_diary.specs.declared.element.ElementPlaces.{ElementPlaces}
use Rattle.smil_diary.specs.declared.element.TheConstants.{NOTHING}
use Rattle.smil_diary.specs.ElementPlaces.{kept, noted_by, row_of}
use Rattle.smil_diary.proofs.IndexNoted.{row_noted}
use Rattle.smil_diary.proofs.IndexRows.{kept_at}
use Rattle.smil_diary.proofs.index.note_step.Goals as goal

pub note-requires-clause-few : goal.note-requires-clause-few
note-requires-clause-few c =
    let who = c.in-Some.who in
    subst (λ (e : ElementPlaces). IfSome e.repeats (λ repeats. repeats ≤ c.args.place))
    (kept_at c.args.elements.now who c.in-Some-get.row (0, NOTHING) (sym (c.in-Some-get.ensures ∙ c.requires.rows who)))
    (c.requires.few who)

pub returns-in-Some-get-clause-kept : goal.returns-in-Some-get-clause-kept
returns-in-Some-get-clause-kept c = λ s.
    let es = c.args.elements.now in
    let who = c.in-Some.who in
    row_noted es who c.in-Some-get.row c.in-Some.kind c.args.place (0, NOTHING) _ c.note.new.self (sym (c.in-Some-get.ensures ∙ c.requires.rows who)) refl c.note.ensures s
    ∙ ap (λ on. if is_some (row_of es s) then noted_by on c.args.place s (kept es s) else kept es s) c.in-Some.ensures
