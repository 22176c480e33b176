use Rattle.std.proofs.Common.{sym, ap, ◌∙◌, true, false}
use Rattle.std.specs.Prelude.{is_some}
use Rattle.smil_model.specs.document.Valid.{kind_of}
use Rattle.smil_model.specs.shown.Orders.{node_of}
use Rattle.smil_instances.proofs.NodesFound.{name_found, only_of, some_serial}
use Rattle.smil_instances.proofs.sources.element_of.Goals as goal

pub kind-requires : goal.kind-requires
kind-requires c =
    ap is_some (name_found c.args.tree.now c.valid.ensures.numbered c.args.who.now c.in_ok-serial.serial c.in_ok-serial.ensures)
    ∙ some_serial (node_of c.args.tree.now.nodes c.args.who.now) c.in_ok-serial.serial c.in_ok-serial.ensures

pub returns-then-is_element : goal.returns-then-is_element
returns-then-is_element c =
    only_of (node_of c.args.tree.now.nodes c.args.who.now) c.in_ok-serial.serial c.kind.result true c.in_ok-serial.ensures
    (c.kind.ensures ∙ ap kind_of (name_found c.args.tree.now c.valid.ensures.numbered c.args.who.now c.in_ok-serial.serial c.in_ok-serial.ensures))
    (sym c.if-is_element.true ∙ c.is_element.ensures)

pub returns-else-is_element : goal.returns-else-is_element
returns-else-is_element c =
    only_of (node_of c.args.tree.now.nodes c.args.who.now) c.in_ok-serial.serial c.kind.result false c.in_ok-serial.ensures
    (c.kind.ensures ∙ ap kind_of (name_found c.args.tree.now c.valid.ensures.numbered c.args.who.now c.in_ok-serial.serial c.in_ok-serial.ensures))
    (sym c.if-is_element.false ∙ c.is_element.ensures)
