use Rattle.std.proofs.Common.{◌-◌, Ok, Err, refl, ◌∙◌}
use Rattle.smil_top.proofs.SessionCounts.{ended-status}
use Rattle.smil_top.proofs.ServeStep.{AnswersOrders-handed, AnswersOrders-unhanded}
use Rattle.smil_top.proofs.reading.end.Goals as goal

pub returns-in-Ok-hand_on_text-clause-ends : goal.returns-in-Ok-hand_on_text-clause-ends
returns-in-Ok-hand_on_text-clause-ends g c checks cut told running =
    let answers = AnswersOrders-handed tt c.in-Ok-hand_on_text.ensures.bytes c.in-Ok-hand_on_text.ensures.room (c.in-Ok.ensures.answers checks cut told running) in
    record {
      result = Ok tt;
      answers = answers;
      ended_is = c.status.ensures ∙ ended-status c.end.new.self.counts _ answers.more answers.tells.counted;
    }

pub returns-in-Err-hand_on_text-clause-ends : goal.returns-in-Err-hand_on_text-clause-ends
returns-in-Err-hand_on_text-clause-ends g c checks cut told running =
    let failed = c.in-Err-hand_on_text.ensures.err in
    let quiet = g.met.K.Sink.unsure c.args.sink.now failed.1 in
    record {
      result = Err c.in-Err-hand_on_text.field-0;
      answers = AnswersOrders-unhanded tt c.in-Err-hand_on_text.field-0 (c.in-Ok.ensures.answers checks cut told running) quiet.0 quiet.1 failed.0;
      ended_is = refl;
    }

pub returns-in-Err-clause-ends : goal.returns-in-Err-clause-ends
returns-in-Err-clause-ends g c checks cut told running = record {
  result = Err c.in-Err.field-0;
  answers = c.in-Err.ensures.answers checks cut told running;
  ended_is = refl;
}
