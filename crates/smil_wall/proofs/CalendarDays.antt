-- Days that the calendar has.
use Rattle.std.proofs.Common.{◌≡◌, ℕ, ◌<◌, ◌≤◌, Some, refl, pos}
use Rattle.std.proofs.lemmas.Bool.{lt-ltb, le-leb}
use Rattle.jiff_core.specs.Calendar.{days_in_month, days_from_civil}
use Rattle.smil_grammar.specs.Instants.{day_of}

pub day_is : (year month day : ℕ) → 0 < year → 0 < month → month ≤ 12 → 0 < day → day ≤ days_in_month (pos year) month
    → Some (days_from_civil (pos year) month day) ≡ day_of year month day
day_is year month day y m last d least =
    rw (lt-ltb 0 year y, lt-ltb 0 month m, le-leb month 12 last, lt-ltb 0 day d, le-leb day (days_in_month (pos year) month) least) refl
