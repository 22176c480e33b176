use Rattle.std.proofs.Common.{Ok, ap, ◌∙◌}
use Rattle.smil_grammar.specs.declared.read.Read.TheVariants.{Load, LoadAt}
use Rattle.smil_top.proofs.ShortNames.{read-short}
use Rattle.smil_top.proofs.load.read_head.Goals as goal

pub named-requires : goal.named-requires
named-requires c = read-short c.args.head.now (Load c.in-Ok-Load.name) (c.in-Ok-Load.ensures.reading ∙ ap Ok c.in-Ok-Load.field-0-is)

pub named-requires-in-Ok-LoadAt : goal.named-requires-in-Ok-LoadAt
named-requires-in-Ok-LoadAt c =
    read-short c.args.head.now (LoadAt c.in-Ok-LoadAt.name c.in-Ok-LoadAt.start) (c.in-Ok-LoadAt.ensures.reading ∙ ap Ok c.in-Ok-LoadAt.field-0-is)
