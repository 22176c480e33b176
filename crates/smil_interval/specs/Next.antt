-- The next interval of an element, by the last one that finished.
use Rattle.std.specs.Prelude.{ℤ, List, Option, Some, None}
use Rattle.smil_model.specs.declared.times.Time.{Time}
use Rattle.smil_model.specs.declared.interval.Interval.{Interval}
use Rattle.smil_model.specs.declared.interval.Facts.{Facts}
use Rattle.smil_model.specs.interval.Intervals.{coming_interval}

-- the interval from a begin to an end
abbrev pub interval_to : ℤ → Time → Interval
interval_to b end' = record { begin = b; «end» = end' }

-- there is a next interval only where one has finished
abbrev pub interval_after : Facts → List ℤ → List Time → Option Interval → Option Interval
interval_after facts begins ends None = None
interval_after facts begins ends (Some last) = coming_interval facts begins ends (Some last)
