use Rattle.std.proofs.Common.{◌∙◌, sym, ap, arith}
use Rattle.std.specs.Prelude.{is_some}
use Rattle.smil_past.proofs.ElementPlaces.{place_told, place_within}
use Rattle.smil_past.proofs.KnownNodes.{known_place}
use Rattle.smil_past.proofs.makeup.node_place.Goals as goal

pub unwrap-requires : goal.unwrap-requires
unwrap-requires c = ap is_some c.position.ensures ∙ known_place c.args.tree.now.nodes c.args.who c.requires

pub overflow_cast-result : goal.overflow_cast-result
overflow_cast-result c =
    let within = place_within c.args.tree.now.nodes c.args.who c.unwrap.result (sym c.unwrap.ensures ∙ c.position.ensures) in
    omega (arith, within, c.valid.ensures.nodes)

pub returns : goal.returns
returns c = place_told c.args.tree.now.nodes c.args.who c.unwrap.result (sym c.unwrap.ensures ∙ c.position.ensures)
