-- What was written, of one text and of two.
use Rattle.std.proofs.Common.{◌≡◌, ℕ, ◌+◌, ◌<◌, ◌≤◌, false, List, ◌++◌, length, take, Option, Result, Ok, Err, sym, subst, arith, inl, inr}
use Rattle.std.specs.Prelude.{is_err, IsOk, OnOk, OnErr}
use Rattle.std.proofs.Math.Seq.{take-append-add}
use Rattle.std.proofs.lemmas.Bool.{cases_lt}
use Rattle.std.proofs.lemmas.List.{length-append}
use Rattle.std.specs.Io.KnownBytes.{Appends}
use Rattle.smil_outside.specs.declared.failed.Failed.{Failed}
use Rattle.std.proofs.KnownBytes.{Appends-trans}
use Rattle.smil_top.specs.Running.{WritesAll, Writes}

-- what `write_all` ensures
pub Writes-of : (r : Result (Unit {0}) Failed) (before after : Option (List ℕ)) (room left : ℕ) (text : List ℕ) →
    OnOk r (Appends before after text) → OnErr r ((n : ℕ) × (n < length text) × Appends before after (take n text)) →
    (length text ≤ room → IsOk r) → OnOk r (room ≤ left + length text) → Writes r before after room left text
Writes-of (Ok done) before after room left text ok err sure more = (ok, more)
Writes-of (Err e) before after room left text ok err sure more =
    (err.0, err.1, err.2, elim (cases_lt room (length text)) [ inl less ↦ less | inr enough ↦ cc (sure enough) ])

-- one text, and then another
pub Writes-two : (r : Result (Unit {0}) Failed) (before middle after : Option (List ℕ)) (room between left : ℕ) (first second : List ℕ) →
    WritesAll before middle room between first → Writes r middle after between left second → Writes r before after room left (first ++ second)
Writes-two (Ok done) before middle after room between left first second one two =
    (Appends-trans before middle after first second one.0 two.0, omega (arith, one.1, two.1, length-append first second))
Writes-two (Err e) before middle after room between left first second one two = (
  length first + two.0,
  omega (arith, two.1, length-append first second),
  subst (λ zs. Appends before after zs) (sym (take-append-add first second two.0)) (Appends-trans before middle after first (take two.0 second) one.0 two.2),
  omega (arith, one.1, two.3, length-append first second),
)

-- what is said of a value, where there is one
pub where_ok : {A E : Type 0} (r : Result A E) (P : Type 0) → is_err r ≡ false → OnOk r P → P
where_ok (Ok x) P q h = h
where_ok (Err e) P q h = cc
