use Rattle.std.proofs.Common.{sym, subst, List}
use Rattle.std.proofs.lemmas.Result.{on_ok_weaker}
use Rattle.smil_stretch.specs.Clocks.{AreClocksOf}
use Rattle.smil_stretch.specs.declared.clock.NodeClock.{NodeClock}
use Rattle.smil_report.specs.Words.{who_of}
use Rattle.smil_shown.proofs.ToldIntervals.{followed}
use Rattle.smil_shown.proofs.interval_teller.IntervalTeller.follow.Goals as goal

pub returns-clause-told : goal.returns-clause-told
returns-clause-told c = λ h start is lawful.
    let known : AreClocksOf c.tell-told.new.self.clocks h = subst (λ (cs : List NodeClock). AreClocksOf cs h) (sym c.tell-told.ensures.clocks) is.clocks_are in
    on_ok_weaker c.tell-told.result
    (λ appended.
    followed h c.args.entry (who_of c.args.name) start c.args.self.now (record { who = c.tell-told.new.self.who; clocks = c.follow.new.self; present = c.tell-told.new.self.present }) c.args.out.now c.tell-told.new.out is lawful
    c.tell-told.ensures.who (c.follow.ensures h known lawful) (c.tell-told.ensures.present h is.clocks_are lawful is.present_is) appended)
    (c.tell-told.ensures.text h is.clocks_are lawful is.present_is)
