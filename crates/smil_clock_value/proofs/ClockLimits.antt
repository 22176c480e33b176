-- Clock values with their limit.
use Rattle.std.proofs.Common.{◌≡◌, ℕ, Bool, true, false, cond, ltb, Option, Some, None, option_map, List, Result, Ok, Err, refl, ap, ◌∙◌}
use Rattle.std.specs.Prelude.{ℤ, pos}
use Rattle.smil_grammar.specs.Clock.{clock_of, clock_answer}
use Rattle.smil_grammar.specs.Clock.{within, clock_within}
use Rattle.smil_grammar.specs.Texts.{◌>>=◌}
use Rattle.smil_grammar.specs.declared.fault.ClockFault.{ClockFault}
use Rattle.smil_grammar.specs.declared.fault.ClockFault.TheVariants.{TooLong}

abbrev value_of : Result ℤ ClockFault → Option ℤ
value_of (Ok x) = Some x
value_of (Err e) = None

either : (t : Bool) (n : ℕ) → value_of (cond t (Err TooLong) (Ok (pos n))) ≡ option_map pos (cond t None (Some n))
either true n = refl
either false n = refl

same : (o : Option ℕ) → value_of (clock_answer o) ≡ option_map pos (o >>= within)
same None = refl
same (Some n) = either (ltb 1_000_000_000_000 n) n

pub clock_ok : (text : List ℕ) (x : ℤ) → Ok x ≡ clock_answer (clock_of text) → Some x ≡ option_map pos (clock_within text)
clock_ok text x e = ap value_of e ∙ same (clock_of text)

pub clock_err : (text : List ℕ) (f : ClockFault) → Err f ≡ clock_answer (clock_of text) → None ≡ option_map pos (clock_within text)
clock_err text f e = ap value_of e ∙ same (clock_of text)
