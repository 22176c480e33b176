use Rattle.std.proofs.Common.{true, subst}
use Rattle.smil_switch.specs.Preferences.{with_preference}
use Rattle.smil_switch.specs.Gives.{Prefers}
use Rattle.smil_top.proofs.AnswersMade.{preferred}
use Rattle.smil_top.proofs.session.Session.prefer.Goals as goal

pub returns-then-branch-clause-preferring : goal.returns-then-branch-clause-preferring
returns-then-branch-clause-preferring c session keeps =
    let so_far = c.args.self.now in
    let word = c.args.word.now in
    let value = c.args.value.now in
    preferred so_far c.prefer.new.self session word value true keeps
    (subst (λ w. Prefers so_far.preferences true c.prefer.new.self (with_preference so_far.preferences w value)) c.slice.ensures
    (subst (λ v. Prefers so_far.preferences true c.prefer.new.self (with_preference so_far.preferences c.slice.result.now v)) c.slice-2.ensures
    (subst (λ b. Prefers so_far.preferences b c.prefer.new.self (with_preference so_far.preferences c.slice.result.now c.slice-2.result.now)) c.if-branch.true c.in_ok-prefer.ensures.ok)))
