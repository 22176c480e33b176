use Rattle.std.proofs.Common.{◌≡◌, ◌∙◌, ap, Some, None}
use Rattle.smil_past.specs.Syncs.{sync_row, syncs_on}
use Rattle.smil_past.proofs.ItemReferences.{side_told}
use Rattle.smil_past.proofs.syncs.Syncs.of_element.Goals as goal

pub returns-in-Some : goal.returns-in-Some
returns-in-Some c = λ nodes e same known.
    let both : Some c.in-Some.row.now ≡ Some (sync_row nodes e) = c.in-Some.ensures nodes e same known in
    let one : c.in-Some.row.now ≡ sync_row nodes e = cc in
    c.side.ensures ∙ ap (syncs_on c.args.side) one ∙ side_told nodes c.args.side e

pub returns-in-None : goal.returns-in-None
returns-in-None c = λ nodes e same known.
    let both : None ≡ Some (sync_row nodes e) = c.in-None.ensures nodes e same known in
    absurd (cc)
