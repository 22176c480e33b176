use Rattle.std.proofs.Common.{◌∙◌, ap, sym}
use Rattle.std.specs.Prelude.{is_some, slice_get}
use Rattle.std.proofs.lemmas.Option.{same_Some}
use Rattle.smil_nodes.proofs.EndingPlaces.{position_found}
use Rattle.smil_nodes.proofs.endings.place_among.Goals as goal

pub unwrap-requires : goal.unwrap-requires
unwrap-requires c = ap is_some (c.position_in.ensures.place ∙ (position_found c.args.who c.args.serials.now c.requires).1)

pub returns : goal.returns
returns c =
    let at = position_found c.args.who c.args.serials.now c.requires in
    ap (slice_get c.args.serials.now) (same_Some _ _ (sym c.unwrap.ensures ∙ c.position_in.ensures.place ∙ at.1)) ∙ at.2
