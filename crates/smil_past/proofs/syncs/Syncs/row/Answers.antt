use Rattle.std.proofs.Common.{◌≡◌, ◌∙◌, ap, Some, None}
use Rattle.std.specs.Prelude.{slice_get}
use Rattle.std.specs.FinMap.{get}
use Rattle.smil_past.proofs.ItemReferences.{row_found}
use Rattle.smil_past.proofs.syncs.Syncs.row.Goals as goal

pub returns-in-Some : goal.returns-in-Some
returns-in-Some c = λ nodes e same known.
    let found = row_found nodes c.args.who e c.self.inside.rows.items (get c.self.inside.places.value) c.self.invariant (c.self.view_is ∙ same) known in
    let both : Some c.in-Some.place ≡ Some found.0 = c.in-Some.ensures ∙ found.1 in
    let place : c.in-Some.place ≡ found.0 = cc in
    c.row_at.ensures
    ∙ ap (λ rows. slice_get rows c.in-Some.place) c.deref.ensures.value
    ∙ ap (slice_get c.self.inside.rows.items) place
    ∙ found.2

pub returns-in-None : goal.returns-in-None
returns-in-None c = λ nodes e same known.
    let found = row_found nodes c.args.who e c.self.inside.rows.items (get c.self.inside.places.value) c.self.invariant (c.self.view_is ∙ same) known in
    let both : None ≡ Some found.0 = c.in-None.ensures ∙ found.1 in
    absurd (cc)
