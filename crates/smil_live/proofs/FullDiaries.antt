-- A course that has too many entries for a diary has too many with a longer log and a later last
-- moment.
use Rattle.std.proofs.Common.{◌≡◌, refl, subst, ℕ, suc, zero, ◌<◌, ◌≤◌, ◌+◌, List, [], ◌∷◌, ◌++◌, Some, None, Bool, true, false, ℤ, arith, length, take, drop}
use Rattle.std.specs.Prelude.{cond, pos, int_le, nat_le, slice_get}
use Rattle.std.specs.List.{AllByRecursion}
use Rattle.std.proofs.lemmas.List.{append-nil, take-append-drop}
use Rattle.std.proofs.lemmas.Bool.{and_parts}
use Rattle.smil_model.specs.declared.diary.LogEntry.{LogEntry}
use Rattle.smil_model.specs.declared.limits.TheConstants.{DIARY_ENTRIES}
use Rattle.smil_model.specs.document.Document.{Document}
use Rattle.smil_model.specs.document.Valid.{IsNumberedTree}
use Rattle.smil_model.specs.diary.Logs.{moments_rise}
use Rattle.smil_model.specs.happening.Resolution.{Course, Progress, resolved, diary_of}
use Rattle.smil_model.proofs.NumberOrders.{le_both, le_self}
use Rattle.smil_laws.specs.Agreement.{course_on}
use Rattle.smil_laws.proofs.Lists.{each_weaker}
use Rattle.smil_laws.proofs.ResolutionEnds.{too_long_is_full}
use Rattle.smil_laws.proofs.CourseFurther.{reaches_further}
use Rattle.smil_shown.proofs.SettledDiaries.{comes_within}
use Rattle.smil_live.proofs.LogParts.{no_later, none_before}

many_entries : (r : Progress) (most : ℕ) → cond (nat_le (length r.diary) most) (Some r.diary) None ≡ None → most < length r.diary
many_entries r most e = by_test (nat_le (length r.diary) most) refl e
  where
    by_test : (t : Bool) → nat_le (length r.diary) most ≡ t → cond t (Some r.diary) None ≡ None → most < length r.diary
    by_test true t e = let never : Some r.diary ≡ None = e in cc
    by_test false t e = grind arith

-- no entry is before a moment
abbrev pub AreFrom : ℤ → List LogEntry → Type 0
AreFrom moment log = AllByRecursion (λ (x : LogEntry). int_le moment x.moment ≡ true) log

pub from_sooner : (a b : ℤ) (log : List LogEntry) → int_le a b ≡ true → AreFrom b log → AreFrom a log
from_sooner a b log p each = each_weaker _ _ log each (λ x q. le_both a b x.moment p q)

-- with more log entries, none of them before the last moment
pub full_further : (d : Document) (log more : List LogEntry) (last later : ℕ) → IsNumberedTree d → AreFrom (pos last) more → last ≤ later → diary_of (course_on d.nodes log last) ≡ None → diary_of (course_on d.nodes (log ++ more) later) ≡ None
full_further d log more last later numbered after further e =
    let c : Course = course_on d.nodes log last in
    let within = comes_within c (suc (DIARY_ENTRIES + c.last)) in
    too_long_is_full (course_on d.nodes (log ++ more) later) (resolved c)
    (reaches_further d log more last later (resolved c) numbered (suc (DIARY_ENTRIES + c.last), refl) (from_sooner (pos (resolved c).moment) (pos last) more (no_later (resolved c).moment last (pos (resolved c).moment) within (le_self (pos (resolved c).moment))) after) further)
    (many_entries (resolved c) DIARY_ENTRIES e)

-- with the same log
pub full_later : (d : Document) (log : List LogEntry) (last later : ℕ) → IsNumberedTree d → last ≤ later → diary_of (course_on d.nodes log last) ≡ None → diary_of (course_on d.nodes log later) ≡ None
full_later d log last later numbered further e =
    subst (λ (l : List LogEntry). diary_of (course_on d.nodes l later) ≡ None) (append-nil log) (full_further d log [] last later numbered tt further e)

-- ---- the first entries of a log

-- a log whose first entries are too many by a moment before which none of the others is
pub full_by_first : (d : Document) (log : List LogEntry) (k last later : ℕ) → IsNumberedTree d → AreFrom (pos last) (drop k log) → last ≤ later → diary_of (course_on d.nodes (take k log) last) ≡ None → diary_of (course_on d.nodes log later) ≡ None
full_by_first d log k last later numbered after further e =
    subst (λ (l : List LogEntry). diary_of (course_on d.nodes l later) ≡ None) (take-append-drop k log) (full_further d (take k log) (drop k log) last later numbered after further e)

-- the moments of a log do not fall
pub rising_from : (from : ℤ) (log : List LogEntry) → moments_rise from log ≡ true → AreFrom from log
rising_from from log rise = none_before from from log (le_self from) rise

-- from an entry on none is before it, and none of those behind it
pub rising_at : (from : ℤ) (log : List LogEntry) (k : ℕ) (entry : LogEntry) → moments_rise from log ≡ true → slice_get log k ≡ Some entry → AreFrom entry.moment (drop k log)
rising_at from [] k entry q e = cc
rising_at from (x ∷ xs) zero entry q e =
    let one : x ≡ entry = cc in
    let rest = (and_parts (int_le from x.moment) (moments_rise x.moment xs) q).1 in
    subst (λ (y : LogEntry). AreFrom y.moment (x ∷ xs)) one (le_self x.moment, rising_from x.moment xs rest)
rising_at from (x ∷ xs) (suc k) entry q e = rising_at x.moment xs k entry (and_parts (int_le from x.moment) (moments_rise x.moment xs) q).1 e

pub rising_behind : (from : ℤ) (log : List LogEntry) (k : ℕ) (entry : LogEntry) → moments_rise from log ≡ true → slice_get log k ≡ Some entry → AreFrom entry.moment (drop (suc k) log)
rising_behind from [] k entry q e = cc
rising_behind from (x ∷ xs) zero entry q e =
    let one : x ≡ entry = cc in
    let rest = (and_parts (int_le from x.moment) (moments_rise x.moment xs) q).1 in
    subst (λ (y : LogEntry). AreFrom y.moment xs) one (rising_from x.moment xs rest)
rising_behind from (x ∷ xs) (suc k) entry q e = rising_behind x.moment xs k entry (and_parts (int_le from x.moment) (moments_rise x.moment xs) q).1 e
