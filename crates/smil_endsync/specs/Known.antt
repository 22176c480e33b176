-- Times that may be absent.
use Rattle.std.specs.Prelude.{Option, Some, None}
use Rattle.smil_model.specs.declared.times.Time.{Time}
use Rattle.smil_model.specs.Times.{greatest_time}

-- the greater of two times, of which either may be absent
abbrev pub greatest_known : Option Time → Option Time → Option Time
greatest_known None b = b
greatest_known (Some x) None = Some x
greatest_known (Some x) (Some y) = Some (greatest_time x y)
