use Rattle.std.proofs.Common.{◌≡◌, take}
use Rattle.std.specs.Prelude.{flat_map}
use Rattle.smil_past.specs.Syncs.{expected_by}
use Rattle.smil_past.specs.Past.{history_of}
use Rattle.smil_element.specs.Pouring.{with_times}
use Rattle.smil_element.proofs.expected.pour.Given as goal

-- the expected times of the first items are put in
abbrev pub invariant-loop-sync : goal.invariant-loop-sync
invariant-loop-sync g l = l.times.items ≡ with_times g.T.Instant.at_most g.T.Instant.choose (flat_map (expected_by (history_of l.reading.subject.now.present.past.now) (g.J.Intervals.given l.reading.intervals.now) l.reading.subject.now.present.moment l.reading.subject.now.present.who) (take l.sync-index l.syncs)) l.initial.times.items
