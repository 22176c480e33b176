use Rattle.std.proofs.Common.{◌≡◌, ◌+◌}
use Rattle.smil_past.specs.Past.{history_of}
use Rattle.smil_rounds.specs.Current.{interval_in}
use Rattle.smil_rounds.specs.Round.{AreRowsEvaluated}
use Rattle.smil_nodes.specs.Endings.{AreKnown}
use Rattle.smil_nodes.specs.Work.{IsBelow}
use Rattle.smil_nodes.proofs.live.LiveTable.evaluate_all.Given as goal

-- the first elements of the order are evaluated, each in one step, and their endings put
abbrev pub invariant-loop-who : goal.invariant-loop-who
invariant-loop-who g l =
    AreRowsEvaluated (history_of l.past) l.moment l.who-items l.who-index l.self.schedule
    × (l.self.has_mark ≡ l.fn.self.has_mark)
    × (l.steps ≡ l.fn.steps + l.who-index)
    × AreKnown (history_of l.past) (interval_in l.self.schedule) (IsBelow l.who-items l.who-index) l.self.endings
