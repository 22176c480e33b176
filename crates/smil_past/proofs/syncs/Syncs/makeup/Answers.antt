use Rattle.std.proofs.Common.{◌≡◌, ◌∙◌, ap, Some, None}
use Rattle.smil_past.specs.declared.makeup.Makeup.{Makeup}
use Rattle.smil_past.specs.Syncs.{SyncRow, sync_row}
use Rattle.smil_past.proofs.syncs.Syncs.makeup.Goals as goal

pub returns-in-Some : goal.returns-in-Some
returns-in-Some c = λ nodes e same known.
    let both : Some c.in-Some.row.now ≡ Some (sync_row nodes e) = c.in-Some.ensures nodes e same known in
    let one : c.in-Some.row.now ≡ sync_row nodes e = cc in
    ap (λ (m : Makeup). Some m) c.makeup.ensures ∙ ap (λ (r : SyncRow). Some r.makeup) one

pub returns-in-None : goal.returns-in-None
returns-in-None c = λ nodes e same known.
    let both : None ≡ Some (sync_row nodes e) = c.in-None.ensures nodes e same known in
    absurd (cc)
