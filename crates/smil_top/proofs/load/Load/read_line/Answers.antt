use Rattle.std.proofs.Common.{sym, ◌∙◌}
use Rattle.smil_top.proofs.LoadsGiven.{loud-read, silent-read}
use Rattle.smil_top.proofs.load.Load.read_line.Goals as goal

pub returns-then-is_silent : goal.returns-then-is_silent
returns-then-is_silent c wanted lines read =
    silent-read c.args.self c.args.number c.args.line.now (sym (c.is_silent.ensures c.args.line.now c.shown-text.ensures.line) ∙ c.if-is_silent.true) wanted lines read

pub returns : goal.returns
returns c wanted lines read =
    loud-read c.push.new.self c.args.number c.args.line.now (sym (c.is_silent.ensures c.args.line.now c.shown-text.ensures.line) ∙ c.if-is_silent.false) wanted lines
    (c.push.ensures wanted lines c.args.line.now read c.shown-text.ensures.line)
