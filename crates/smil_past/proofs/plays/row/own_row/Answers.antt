use Rattle.std.proofs.Common.{◌≡◌, ℤ, refl, ◌∙◌, ap, subst, rules, true, false}
use mir.Syntax.{w64}
use mir.Val.{SFits}
use Rattle.std.specs.Prelude.{◌≤ℤ◌}
use Rattle.std.proofs.lemmas.Int.{to_z-of_z}
use Rattle.smil_model.specs.diary.Clocks.{outer}
use Rattle.smil_model.specs.diary.Diary.{last_moment}
use Rattle.smil_model.specs.reach.Reach.{subject_of}
use Rattle.smil_instances.proofs.SumsFit.{moment_fits}
use Rattle.smil_past.specs.Followed.{began_row, deferred_row, finished_row}
use Rattle.smil_past.proofs.OwnRows.{own_began, own_cut, own_deferred, own_ended, read_row}
use Rattle.smil_past.proofs.plays.row.own_row.Goals as goal

pub returns-in-Began : goal.returns-in-Began
returns-in-Began c = λ h are log.
    let fits : SFits w64 c.in-Began.begin = search rules in
    read_row began_row h c.args.own.now.clocks.now c.args.own.now.entry c.args.own.now.who c.in-Began.begin _ _ c.args.row.now c.began.new.row
    refl (to_z-of_z w64 c.in-Began.begin fits) c.began.ensures are
    (own_began h c.args.own.now.entry c.args.own.now.who c.in-Began.who c.in-Began.begin c.args.row.now c.in-Began.is (ap (λ l. subject_of l c.args.own.now.entry.step) log ∙ c.requires.on))

pub returns-in-Ended : goal.returns-in-Ended
returns-in-Ended c = λ h are log.
    let fits : SFits w64 c.in-Ended.end = search rules in
    read_row (λ k s m v r. finished_row k s m v false r) h c.args.own.now.clocks.now c.args.own.now.entry c.args.own.now.who c.in-Ended.end _ _ c.args.row.now c.finished.new.row
    refl (to_z-of_z w64 c.in-Ended.end fits) c.finished.ensures are
    (own_ended h c.args.own.now.entry c.args.own.now.who c.in-Ended.who c.in-Ended.end c.args.row.now c.in-Ended.is (ap (λ l. subject_of l c.args.own.now.entry.step) log ∙ c.requires.on))

pub returns-in-Cut : goal.returns-in-Cut
returns-in-Cut c = λ h are log.
    let at = to_z-of_z w64 c.args.own.now.entry.moment (moment_fits c.args.own.now.entry.moment c.requires.moment) in
    let fits : SFits w64 c.outer-finish.result = search rules in
    read_row (λ k s m v r. finished_row k s m v true r) h c.args.own.now.clocks.now c.args.own.now.entry c.args.own.now.who (outer h c.args.own.now.who c.args.own.now.entry.moment) _ _ c.args.row.now c.finished-in-Cut.new.row refl
    (to_z-of_z w64 c.outer-finish.result fits ∙ subst (λ (m : ℤ). last_moment h.diary ≤ℤ m → c.outer-finish.result ≡ outer h c.args.own.now.who m) at (c.outer-finish.ensures.value h are.known) are.after)
    c.finished-in-Cut.ensures are
    (own_cut h c.args.own.now.entry c.args.own.now.who c.in-Cut.who c.args.row.now c.in-Cut.is (ap (λ l. subject_of l c.args.own.now.entry.step) log ∙ c.requires.on))

pub returns-in-Deferred : goal.returns-in-Deferred
returns-in-Deferred c = λ h are log.
    let fits : SFits w64 c.in-Deferred.begin = search rules in
    read_row deferred_row h c.args.own.now.clocks.now c.args.own.now.entry c.args.own.now.who c.in-Deferred.begin _ _ c.args.row.now c.put_off.new.row
    refl (to_z-of_z w64 c.in-Deferred.begin fits) c.put_off.ensures are
    (own_deferred h c.args.own.now.entry c.args.own.now.who c.in-Deferred.who c.in-Deferred.begin c.args.row.now c.in-Deferred.is (ap (λ l. subject_of l c.args.own.now.entry.step) log ∙ c.requires.on))
