-- The part of a diary that stays, and what a resolution comes to by it and by the part of the log
-- that it names.
use Rattle.std.proofs.Common.{◌≡◌, refl, sym, ◌∙◌, ap, subst, ℕ, suc, zero, ◌≤◌, ◌+◌, List, [], ◌∷◌, Some, None, ℤ, Bool, true, false, arith, length, take, drop}
use Rattle.std.specs.Prelude.{cond, pos, int_le, slice_get, map, filter, position, not, min, nat_lt, ◌&&◌}
use Rattle.std.specs.List.{position_or_len}
use Rattle.std.proofs.Math.Seq.{take-length}
use Rattle.std.proofs.lemmas.Bool.{and_parts, ltb-true, ltb-false}
use Rattle.std.proofs.lemmas.Int.{ints}
use Rattle.smil_model.specs.declared.diary.Entry.{Entry}
use Rattle.smil_model.specs.declared.diary.LogEntry.{LogEntry}
use Rattle.smil_model.specs.declared.diary.StepKind.TheVariants as kind
use Rattle.smil_model.specs.declared.document.Node.{Node}
use Rattle.smil_model.specs.document.Document.{Document}
use Rattle.smil_model.specs.document.Valid.{IsNumberedTree}
use Rattle.smil_model.specs.diary.Clocks.{until}
use Rattle.smil_model.specs.diary.Diary.{is_step, last_moment}
use Rattle.smil_model.specs.diary.Logs.{is_log, is_logged_by, moments_rise}
use Rattle.smil_model.specs.happening.Resolution.{Course, Progress, outset, Reaches, diary_of}
use Rattle.smil_model.specs.reach.Bounds.{through_begin}
use Rattle.smil_model.proofs.NumberOrders.{is_le, le_both}
use Rattle.smil_laws.specs.Agreement.{course_on}
use Rattle.smil_laws.specs.Courses.{heard_by}
use Rattle.smil_laws.specs.Cut.{is_logged, logged}
use Rattle.smil_laws.proofs.CourseEarlier.{reaches_back}
use Rattle.smil_laws.proofs.CourseCut.{reaches_at_last}
use Rattle.smil_laws.proofs.CourseFurther.{is_past}
use Rattle.smil_rounds.proofs.MomentEntries.{is_late}
use Rattle.smil_shown.proofs.PresentMoments.{from_zero}
use Rattle.smil_shown.proofs.SettledDiaries.{comes_to}
use Rattle.smil_live.proofs.LogParts.{log_parts, no_later}
use Rattle.smil_live.proofs.RebuiltLogs.{has_heard, heard_moments, log_moments}

-- ---- logs

-- from a place on a log rises from each moment that its entry there is not before
rise_from : (from m : ℤ) (log : List LogEntry) (k : ℕ) → moments_rise from log ≡ true → ((x : LogEntry) → slice_get log k ≡ Some x → int_le m x.moment ≡ true) → moments_rise m (drop k log) ≡ true
rise_from from m [] zero rise first = refl
rise_from from m [] (suc k) rise first = refl
rise_from from m (x ∷ xs) zero rise first =
    ap (λ (t : Bool). t && moments_rise x.moment xs) (first x refl) ∙ (and_parts (int_le from x.moment) (moments_rise x.moment xs) rise).1
rise_from from m (x ∷ xs) (suc k) rise first = rise_from x.moment m xs k (and_parts (int_le from x.moment) (moments_rise x.moment xs) rise).1 first

-- no entry behind a moment passes
pub none_passes : (m from : ℤ) (log : List LogEntry) → int_le from m ≡ false → moments_rise from log ≡ true → filter (λ (x : LogEntry). int_le x.moment m) log ≡ []
none_passes m from [] late rise = refl
none_passes m from (x ∷ xs) late rise =
    let parts = and_parts (int_le from x.moment) (moments_rise x.moment xs) rise in
    let here : int_le x.moment m ≡ false = later from x.moment m parts.0 late in
    ap (λ (t : Bool). cond t (x ∷ filter (λ (y : LogEntry). int_le y.moment m) xs) (filter (λ (y : LogEntry). int_le y.moment m) xs)) here
    ∙ none_passes m x.moment xs here parts.1
  where
    later : (a b c : ℤ) → int_le a b ≡ true → int_le a c ≡ false → int_le b c ≡ false
    later a b c p q = grind (arith, ints)

-- the entries up to a moment are the first ones
pub front_until : (m from : ℤ) (log : List LogEntry) → moments_rise from log ≡ true → take (length (filter (λ (x : LogEntry). int_le x.moment m) log)) log ≡ filter (λ (x : LogEntry). int_le x.moment m) log
front_until m from [] rise = refl
front_until m from (x ∷ xs) rise =
    let rest = (and_parts (int_le from x.moment) (moments_rise x.moment xs) rise).1 in
    by_test (int_le x.moment m) refl rest (front_until m x.moment xs rest)
  where
    by_test : (t : Bool) → int_le x.moment m ≡ t → moments_rise x.moment xs ≡ true → take (length (filter (λ (y : LogEntry). int_le y.moment m) xs)) xs ≡ filter (λ (y : LogEntry). int_le y.moment m) xs → take (length (cond t (x ∷ filter (λ (y : LogEntry). int_le y.moment m) xs) (filter (λ (y : LogEntry). int_le y.moment m) xs))) (x ∷ xs) ≡ cond t (x ∷ filter (λ (y : LogEntry). int_le y.moment m) xs) (filter (λ (y : LogEntry). int_le y.moment m) xs)
    by_test true e rest front = ap (λ (l : List LogEntry). x ∷ l) front
    by_test false e rest front =
        let none = none_passes m x.moment xs e rest in
        ap (λ (l : List LogEntry). take (length l) (x ∷ xs)) none ∙ sym none

-- ---- what is logged of the entries up to a moment

count_until : (m : ℤ) (d : List Entry) → logged (until m d) ≡ length (filter (λ z. int_le z m) (heard_moments d))
count_until m [] = refl
count_until m (x ∷ xs) = by_tests (int_le x.moment m) (is_logged x.step) refl refl (count_until m xs)
  where
    by_tests : (s t : Bool) → int_le x.moment m ≡ s → is_logged x.step ≡ t → logged (until m xs) ≡ length (filter (λ z. int_le z m) (heard_moments xs))
        → logged (cond s (x ∷ until m xs) (until m xs)) ≡ length (filter (λ z. int_le z m) (map (λ (y : Entry). y.moment) (cond t (x ∷ filter (λ (y : Entry). is_logged y.step) xs) (filter (λ (y : Entry). is_logged y.step) xs))))
    by_tests true true e f rest =
        ap (λ (t : Bool). length (cond t (x ∷ filter (λ (y : Entry). is_logged y.step) (until m xs)) (filter (λ (y : Entry). is_logged y.step) (until m xs)))) f
        ∙ (ap suc rest
        ∙ sym (ap (λ (s : Bool). length (cond s (x.moment ∷ filter (λ z. int_le z m) (heard_moments xs)) (filter (λ z. int_le z m) (heard_moments xs)))) e))
    by_tests true false e f rest =
        ap (λ (t : Bool). length (cond t (x ∷ filter (λ (y : Entry). is_logged y.step) (until m xs)) (filter (λ (y : Entry). is_logged y.step) (until m xs)))) f
        ∙ rest
    by_tests false true e f rest =
        rest ∙ sym (ap (λ (s : Bool). length (cond s (x.moment ∷ filter (λ z. int_le z m) (heard_moments xs)) (filter (λ z. int_le z m) (heard_moments xs)))) e)
    by_tests false false e f rest = rest

count_log : (m : ℤ) (log : List LogEntry) → length (filter (λ z. int_le z m) (log_moments log)) ≡ length (filter (λ (x : LogEntry). int_le x.moment m) log)
count_log m [] = refl
count_log m (x ∷ xs) = by_test (int_le x.moment m) (count_log m xs)
  where
    by_test : (t : Bool) → length (filter (λ z. int_le z m) (log_moments xs)) ≡ length (filter (λ (y : LogEntry). int_le y.moment m) xs) → length (cond t (x.moment ∷ filter (λ z. int_le z m) (log_moments xs)) (filter (λ z. int_le z m) (log_moments xs))) ≡ length (cond t (x ∷ filter (λ (y : LogEntry). int_le y.moment m) xs) (filter (λ (y : LogEntry). int_le y.moment m) xs))
    by_test true rest = ap suc rest
    by_test false rest = rest

-- the entries up to a moment of a whole diary name the log entries up to it
pub log_until : (c : Course) (d : List Entry) (m : ℤ) → is_log c.log ≡ true → is_logged_by (pos c.last) c.log ≡ true → diary_of c ≡ Some d → take (logged (until m d)) c.log ≡ filter (λ (x : LogEntry). int_le x.moment m) c.log
log_until c d m log by settled =
    let rise = (log_parts c.log log).0 in
    let heard = has_heard c (heard_by c.log d c.last) rise (comes_to c d by settled) in
    let moments : heard_moments d ≡ log_moments c.log = heard.moments ∙ ap log_moments (take-length c.log) in
    ap (λ (n : ℕ). take n c.log) (count_until m d ∙ (ap (λ (l : List ℤ). length (filter (λ z. int_le z m) l)) moments ∙ count_log m c.log))
    ∙ front_until m (pos 0) c.log rise

-- ---- moments of entries

-- the last of entries that are not later than a moment is not
last_within : (n : ℕ) (d : List Entry) → until (pos n) d ≡ d → int_le (last_moment d) (pos n) ≡ true
last_within n d e = is_le (last_moment d) (pos n) (is_late (pos n) d (from_zero n) e)

-- the log entries that a course has not heard are not before the last entry of its diary
pub rise_after : (c : Course) (p : Progress) → is_log c.log ≡ true → Reaches c p → moments_rise (last_moment p.diary) (drop (logged p.diary) c.log) ≡ true
rise_after c p log reached =
    let rise = (log_parts c.log log).0 in
    let heard = has_heard c p rise reached in
    let past = is_past c p reached in
    subst (λ (n : ℕ). moments_rise (last_moment p.diary) (drop n c.log) ≡ true) (sym heard.count)
    (rise_from (pos 0) (last_moment p.diary) c.log p.heard rise (λ x e. le_both (last_moment p.diary) (pos p.moment) x.moment (last_within p.moment p.diary past.entries) (heard.next x e)))

-- ---- what comes to a part of a diary

-- a resolution with the part of the log that these entries name comes to them at the last one's
-- moment, which is not after another; and what is logged behind them is not before it
pub record IsPart (nodes : List Node) (log : List LogEntry) (part : List Entry) (bound : ℕ) : Type 0 where
  pub at : Progress
  pub diary_is : at.diary ≡ part
  pub moment_is : pos at.moment ≡ last_moment at.diary
  pub reached : Reaches (course_on nodes (take (logged at.diary) log) at.moment) at
  pub rise : moments_rise (last_moment part) (drop (logged part) log) ≡ true
  pub until : int_le (last_moment part) (pos bound) ≡ true

-- the diary of any progress is such a part
pub part_of : (document : Document) (log : List LogEntry) (last bound : ℕ) (p : Progress) (part : List Entry) → IsNumberedTree document → is_log log ≡ true → Reaches (course_on document.nodes log last) p → p.moment ≤ bound → p.diary ≡ part → IsPart document.nodes log part bound
part_of document log last bound p part numbered is_a_log reached before same =
    let cut = reaches_at_last document log last p numbered reached in
    let c = course_on document.nodes log last in
    record {
      at = cut.0;
      diary_is = cut.1 ∙ same;
      moment_is = cut.2;
      reached = cut.3;
      rise = subst (λ (d : List Entry). moments_rise (last_moment d) (drop (logged d) log) ≡ true) same (rise_after c p is_a_log reached);
      until = subst (λ (d : List Entry). int_le (last_moment d) (pos bound) ≡ true) same (no_later p.moment bound (last_moment p.diary) before (last_within p.moment p.diary (is_past c p reached).entries));
    }

-- so are the entries up to an earlier moment
pub part_until : (document : Document) (log : List LogEntry) (last earlier : ℕ) (d : List Entry) → IsNumberedTree document → is_log log ≡ true → is_logged_by (pos last) log ≡ true → diary_of (course_on document.nodes log last) ≡ Some d → earlier ≤ last → IsPart document.nodes log (until (pos earlier) d) earlier
part_until document log last earlier d numbered is_a_log by settled before =
    let c = course_on document.nodes log last in
    let back = reaches_back document log last earlier (heard_by log d last) (comes_to c d by settled) before in
    part_of document log last earlier back.0 (until (pos earlier) d) numbered is_a_log back.3 (omega (arith, back.1)) back.2

-- and so is none
pub no_part : (document : Document) (log : List LogEntry) (bound : ℕ) → IsNumberedTree document → is_log log ≡ true → IsPart document.nodes log [] bound
no_part document log bound numbered is_a_log = part_of document log 0 bound outset [] numbered is_a_log (0, refl) (omega arith) refl

-- ---- through the first begin

-- the entries through the first begin are the first ones
pub through_first : (p : ℕ) (d : List Entry) → take (length (through_begin p d)) d ≡ through_begin p d
through_first p [] = refl
through_first p (x ∷ xs) = by_test (is_step kind.Began p x.step) (through_first p xs)
  where
    by_test : (t : Bool) → take (length (through_begin p xs)) xs ≡ through_begin p xs → take (length (cond t (x ∷ []) (x ∷ through_begin p xs))) (x ∷ xs) ≡ cond t (x ∷ []) (x ∷ through_begin p xs)
    by_test true rest = ap (λ (l : List Entry). x ∷ l) refl
    by_test false rest = ap (λ (l : List Entry). x ∷ l) rest

pub through_within : (p : ℕ) (d : List Entry) → length (through_begin p d) ≤ length d
through_within p [] = omega arith
through_within p (x ∷ xs) = by_test (is_step kind.Began p x.step) (through_within p xs)
  where
    by_test : (t : Bool) → length (through_begin p xs) ≤ length xs → length (cond t (x ∷ []) (x ∷ through_begin p xs)) ≤ suc (length xs)
    by_test true rest = omega arith
    by_test false rest = omega (arith, rest)

-- how many they are
through_length : (p : ℕ) (d : List Entry) → length (through_begin p d) ≡ min (1 + position_or_len (λ (x : Entry). is_step kind.Began p x.step) d) (length d)
through_length p [] = refl
through_length p (x ∷ xs) = by_test (is_step kind.Began p x.step) (through_length p xs)
  where
    by_test : (t : Bool) → length (through_begin p xs) ≡ min (1 + position_or_len (λ (y : Entry). is_step kind.Began p y.step) xs) (length xs)
        → length (cond t (x ∷ []) (x ∷ through_begin p xs)) ≡ min (1 + cond (not t) (1 + position_or_len (λ (y : Entry). is_step kind.Began p y.step) xs) 0) (suc (length xs))
    by_test true rest = omega arith
    by_test false rest = omega (arith, rest)

-- as many as its place says, and all where it has not begun
pub through_place : (p : ℕ) (d : List Entry) (place : ℕ) → position (λ (x : Entry). is_step kind.Began p x.step) d ≡ Some place → length (through_begin p d) ≡ place + 1
through_place p d place e = by_test (nat_lt (position_or_len (λ (x : Entry). is_step kind.Began p x.step) d) (length d)) refl e
  where
    by_test : (t : Bool) → nat_lt (position_or_len (λ (x : Entry). is_step kind.Began p x.step) d) (length d) ≡ t → cond t (Some (position_or_len (λ (x : Entry). is_step kind.Began p x.step) d)) None ≡ Some place → length (through_begin p d) ≡ place + 1
    by_test true t e =
        let same : position_or_len (λ (x : Entry). is_step kind.Began p x.step) d ≡ place = cc in
        let below = ltb-true (position_or_len (λ (x : Entry). is_step kind.Began p x.step) d) (length d) t in
        let whole = through_length p d in
        omega (arith, same, below, whole)
    by_test false t e = cc

pub through_whole : (p : ℕ) (d : List Entry) → position (λ (x : Entry). is_step kind.Began p x.step) d ≡ None → length (through_begin p d) ≡ length d
through_whole p d e = by_test (nat_lt (position_or_len (λ (x : Entry). is_step kind.Began p x.step) d) (length d)) refl e
  where
    by_test : (t : Bool) → nat_lt (position_or_len (λ (x : Entry). is_step kind.Began p x.step) d) (length d) ≡ t → cond t (Some (position_or_len (λ (x : Entry). is_step kind.Began p x.step) d)) None ≡ None → length (through_begin p d) ≡ length d
    by_test true t e = cc
    by_test false t e =
        let above = ltb-false (position_or_len (λ (x : Entry). is_step kind.Began p x.step) d) (length d) t in
        let whole = through_length p d in
        omega (arith, above, whole)
