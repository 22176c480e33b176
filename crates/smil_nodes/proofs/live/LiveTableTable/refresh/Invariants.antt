use Rattle.std.proofs.Common.{◌≡◌, ◌≤◌, drop, length}
use Rattle.smil_model.specs.document.Closure.{has}
use Rattle.smil_past.specs.Past.{history_of}
use Rattle.smil_rounds.specs.Current.{interval_in}
use Rattle.smil_rounds.specs.Round.{StayUnchanged}
use Rattle.smil_nodes.specs.Endings.{AreKnown}
use Rattle.smil_nodes.specs.Marked.{GoesBack}
use Rattle.smil_cells.specs.Evaluated.{AreChanged}
use Rattle.smil_nodes.specs.Work.{AreSettled, HasKeptEnding, IsCounted, gap_from}
use Rattle.smil_nodes.proofs.live.LiveTableTable.refresh.Given as goal

-- the elements that are not listed are settled, with their endings, and those that were evaluated are counted; the mark stays
abbrev pub invariant-loop-rank : goal.invariant-loop-rank
invariant-loop-rank g l =
    AreSettled (history_of l.past) l.moment l.order (has l.self.agenda) l.self.schedule
    × IsCounted (history_of l.past) l.moment l.past.document.nodes l.past.log (drop l.since.from l.past.diary) l.order (has l.self.agenda) l.fn.self.schedule l.self.schedule l.fn.steps l.steps
    × StayUnchanged l.fn.changed l.changed l.fn.self.schedule l.self.schedule
    × GoesBack l.fn.self l.self
    × (l.self.has_mark ≡ l.fn.self.has_mark)
    × (l.fn.steps ≤ l.steps)
    × AreKnown (history_of l.past) (interval_in l.self.schedule) (HasKeptEnding l.past.document.nodes l.order (has l.self.agenda)) l.self.endings
    × AreChanged l.fn.changed l.changed (interval_in l.fn.self.schedule) (interval_in l.self.schedule)

-- the least listed rank rises
abbrev pub decreases-loop-rank : goal.decreases-loop-rank
decreases-loop-rank g l = gap_from (has l.self.agenda) (length l.order) 0
