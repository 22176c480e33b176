-- How large the numbers among the facts of a view may be.
use Rattle.std.specs.Prelude.{ℤ}
use Rattle.std.specs.Option.{ForSome}
use Rattle.smil_model.specs.Times.{IsCarried}
use Rattle.smil_model.specs.declared.times.Time.{Time}
use Rattle.smil_model.specs.declared.times.Time.TheVariants.{At, Indefinite, Unresolved}
use Rattle.smil_model.specs.declared.interval.Interval.{Interval}
use Rattle.smil_model.specs.declared.view.ViewFacts.{ViewFacts}

-- a time from -10^13 to 10^13, or no number
abbrev pub IsTimeCarried : Time → Type 0
IsTimeCarried (At number) = IsCarried number
IsTimeCarried Indefinite = Unit {0}
IsTimeCarried Unresolved = Unit {0}

-- each number among the facts is from -10^13 to 10^13
pub record HasNumbersWithin (facts : ViewFacts) : Type 0 where
  pub deferred : ForSome facts.deferred IsCarried
  pub interval :
      ForSome facts.interval (λ (i : Interval). IsCarried i.begin × IsTimeCarried i.«end»)
  pub begun : ForSome facts.begun IsCarried
  pub last : ForSome facts.last (λ (last : ℤ × ℤ). IsCarried last.0 × IsCarried last.1)
  pub shift : IsCarried facts.shift
