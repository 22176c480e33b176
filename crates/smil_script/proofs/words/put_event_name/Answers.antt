use Rattle.std.proofs.Common.{sym, ◌∙◌}
use Rattle.smil_script.proofs.EventNames.{event_given, put_name}
use Rattle.smil_script.proofs.words.put_event_name.Goals as goal

pub returns-clause-name : goal.returns-clause-name
returns-clause-name c =
    put_name c.put.result c.put.new.bytes c.args.text.now c.put.ensures.same (event_given c.args.text.now (sym c.is_event_name.ensures ∙ c.if-not-is_event_name.false))
