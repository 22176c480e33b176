-- The time that gives a value to a list of instance times.
use Rattle.std.specs.Prelude.{◌≡◌, refl, ℤ, Some}
use Rattle.std.proofs.Common.{sym, ◌∙◌, ap}
use Rattle.std.specs.Option.{option_map_or, unwrap_or}
use Rattle.smil_model.specs.declared.times.Time.{Time}
use Rattle.smil_model.specs.declared.times.Time.TheVariants.{At, Indefinite, Unresolved}
use Rattle.smil_model.specs.interval.Instances.{number_of}

number_back : (t : Time) → option_map_or At (number_of t) t ≡ t
number_back (At x) = refl
number_back Indefinite = refl
number_back Unresolved = refl

pub gives_number : (t : Time) (v : ℤ) → number_of t ≡ Some v → At v ≡ t
gives_number t v q = sym (ap (λ o. option_map_or At o t) q) ∙ number_back t

pub gives_time : (t v : Time) → Some t ≡ Some v → v ≡ t
gives_time t v q = sym (ap (λ o. unwrap_or o t) q)
