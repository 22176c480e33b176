use Rattle.std.proofs.Common.{rules, ◌≡◌, ℤ, true, sym, subst, ◌∙◌}
use mir.Syntax.{w64}
use mir.Val.{SFits}
use Rattle.std.proofs.lemmas.Int.{to_z-of_z}
use Rattle.smil_model.specs.diary.Lawful.{IsLawful}
use Rattle.smil_stretch.specs.Clocks.{AreClocksOf, ends_pause}
use Rattle.smil_model.specs.diary.Diary.{with_entry}
use Rattle.smil_stretch.proofs.LawfulDiaries.{lawful_last, ended_known}
use Rattle.smil_stretch.proofs.ClocksLeft.{others_leave, plain, not_paused, ending}
use Rattle.smil_stretch.proofs.clocks.Clocks.follow.Goals as goal

pub returns-in_default : goal.returns-in_default
returns-in_default c = λ h are lawful.
    others_leave c.args.self.now h c.args.entry are lawful
    (plain h c.args.entry.step c.in_default.not-Ended c.in_default.not-Cut c.in_default.not-Paused c.in_default.not-Resumed)

pub returns-then-is_paused : goal.returns-then-is_paused
returns-then-is_paused c = λ h are lawful.
    let step = c.args.entry.step in
    let fits : SFits w64 c.args.entry.moment = search rules in
    subst (λ (m : ℤ). IsLawful (with_entry h (record { moment = m; step = step })) → AreClocksOf c.resume.new.self (with_entry h (record { moment = m; step = step }))) (to_z-of_z w64 c.args.entry.moment fits)
    (c.resume.ensures h step are (ending c.in-Resumed.who step c.in-Resumed.is)) lawful

pub returns-else-is_paused : goal.returns-else-is_paused
returns-else-is_paused c = λ h are lawful.
    let ends : ends_pause c.in-Resumed.who c.args.entry.step ≡ true = ending c.in-Resumed.who c.args.entry.step c.in-Resumed.is in
    others_leave c.args.self.now h c.args.entry are lawful
    (not_paused h c.in-Resumed.who c.args.entry.step ends
    (sym (c.is_paused.ensures h are (ended_known h c.in-Resumed.who c.args.entry.step ends (lawful_last h c.args.entry lawful))) ∙ c.if-is_paused.false))
