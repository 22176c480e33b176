-- What a call that fills a value in place gives.
use Rattle.std.specs.Prelude.{Result, Ok, Err}

-- the value that was filled, where the call was not refused
abbrev pub filled : {A E : Type 0} → Result (Unit {0}) E → A → Result A E
filled (Ok done) value = Ok value
filled (Err refusal) value = Err refusal
