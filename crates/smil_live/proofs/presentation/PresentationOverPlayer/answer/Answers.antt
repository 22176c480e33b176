use Rattle.std.proofs.Common.{sym, ◌∙◌, drop, length}
use Rattle.std.proofs.lemmas.Result.{on_ok_weaker}
use Rattle.smil_live.proofs.RecordLines.{accepted}
use Rattle.smil_live.proofs.presentation.PresentationOverPlayer.answer.Goals as goal

pub returns-else-is_telling-clause-ok : goal.returns-else-is_telling-clause-ok
returns-else-is_telling-clause-ok g c =
    on_ok_weaker c.change.result
    (accepted c.args.self.now c.change.new.self c.args.order.now (drop (length c.args.out.now) c.change.new.out) (sym c.is_telling.ensures ∙ c.if-is_telling.false))
    c.change.ensures.ok
