use Rattle.std.proofs.Common.{ℕ, Option, sym, subst}
use Rattle.std.specs.Prelude.{IfSome}
use Rattle.smil_grammar.specs.Nodes.{Shape}
use Rattle.smil_outline.specs.Steps.{IsInLine}
use Rattle.smil_outline.proofs.FaultColumns.{plain_in_line, saved_in_line}
use Rattle.smil_outline.proofs.builder.Builder.shape.Goals as goal

pub returns-in-Some-clause-near : goal.returns-in-Some-clause-near
returns-in-Some-clause-near c = subst (λ (o : Option (ℕ × Shape)). IfSome o (λ s. IsInLine s.1)) (sym c.numbered.ensures) (saved_in_line c.args.text.now c.requires)

pub returns-in_ok-shape-in-None-clause-near : goal.returns-in_ok-shape-in-None-clause-near
returns-in_ok-shape-in-None-clause-near c = subst (λ (o : Option Shape). IfSome o IsInLine) (sym c.in_ok-shape-in-None.ensures) (plain_in_line c.args.text.now c.requires)
