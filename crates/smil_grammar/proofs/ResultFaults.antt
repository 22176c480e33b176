-- What holds of the faults of two readings holds of those of the one that goes on with the other.
use Rattle.std.proofs.Common.{Result, Ok, Err}
use Rattle.std.specs.Prelude.{IfErr}
use Rattle.smil_grammar.specs.Results.{◌>>=◌}

pub after : {A B E : Type 0} (P : E → Type 0) (r : Result A E) (f : A → Result B E) → IfErr r P → ((x : A) → IfErr (f x) P) → IfErr (r >>= f) P
after P (Ok x) f h k = k x
after P (Err e) f h k = h
