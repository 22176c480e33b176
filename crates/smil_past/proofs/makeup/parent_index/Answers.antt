use Rattle.std.proofs.Common.{◌∙◌, sym, ap, arith}
use Rattle.std.specs.Prelude.{is_some}
use Rattle.smil_laws.proofs.Lists.{filter_shorter}
use Rattle.smil_model.specs.document.Document.{elements, is_element}
use Rattle.smil_past.proofs.ElementPlaces.{no_parent, parent_is, parent_known, place_told, place_within}
use Rattle.smil_past.proofs.makeup.parent_index.Goals as goal

pub returns-in_err-serial : goal.returns-in_err-serial
returns-in_err-serial c =
    c.from_residual.ensures ∙ no_parent c.args.tree.now.nodes c.args.who (sym c.in_err-serial.was ∙ c.time_parent.ensures)

pub unwrap-index-requires : goal.unwrap-index-requires
unwrap-index-requires c =
    ap is_some c.element_index.ensures
    ∙ parent_known c.args.tree.now.nodes c.args.who c.in_ok-serial.serial c.valid.ensures.numbered.distinct c.requires (sym c.in_ok-serial.was ∙ c.time_parent.ensures)

pub overflow_cast-index : goal.overflow_cast-index
overflow_cast-index c =
    let nodes = c.args.tree.now.nodes in
    let within = place_within (elements nodes) c.in_ok-serial.serial c.unwrap-index.result (sym c.unwrap-index.ensures ∙ c.element_index.ensures) in
    omega (arith, within, filter_shorter is_element nodes, c.valid.ensures.nodes)

pub returns : goal.returns
returns c =
    let nodes = c.args.tree.now.nodes in
    parent_is nodes c.args.who c.in_ok-serial.serial c.unwrap-index.result (sym c.in_ok-serial.was ∙ c.time_parent.ensures)
    (place_told (elements nodes) c.in_ok-serial.serial c.unwrap-index.result (sym c.unwrap-index.ensures ∙ c.element_index.ensures))
