use Rattle.std.proofs.Common.{◌-◌, Option, sym, subst, arith}
use Rattle.std.specs.Prelude.{IfSome}
use Rattle.smil_grammar.specs.Nodes.{Shape}
use Rattle.smil_attrs.specs.Within.{AllWithin}
use Rattle.smil_attrs.proofs.AttributeColumns.{shape_near}
use Rattle.smil_switch.proofs.chooser.shape_in.Goals as goal

pub returns-clause-within : goal.returns-clause-within
returns-clause-within c =
    subst (λ (o : Option Shape). IfSome o (λ shape. AllWithin (2147483648 - c.args.spaces) shape.attributes)) (sym c.of.ensures)
    (shape_near (2147483648 - c.args.spaces) c.args.text.now (omega (arith, c.requires)))
