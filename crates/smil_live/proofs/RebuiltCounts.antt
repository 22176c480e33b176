-- How often cells that are rebuilt, or made anew, have intervals evaluated.
use Rattle.std.proofs.Common.{◌≡◌, refl, sym, ◌∙◌, ap, subst, ℕ, suc, zero, ◌≤◌, ◌+◌, ◌-◌, List, [], ◌∷◌, ◌++◌, Option, Some, None, Bool, true, false, arith, length, drop}
use Rattle.std.specs.Prelude.{cond, filter, is_some, not, pos, ◌&&◌}
use Rattle.std.proofs.Math.Seq.{drop-length}
use Rattle.std.proofs.lemmas.List.Sums.{sum_by-cons}
use Rattle.std.proofs.Math.Seq.{drop-length}
use Rattle.smil_model.specs.declared.diary.Entry.{Entry}
use Rattle.smil_model.specs.declared.diary.LogEntry.{LogEntry}
use Rattle.smil_model.specs.declared.diary.Step.{Step}
use Rattle.smil_model.specs.declared.diary.Step.TheVariants.{Began, Repeated, Ended, Cut, Paused, Resumed, Deferred, Passed, Logged}
use Rattle.smil_model.specs.declared.document.Node.{Node}
use Rattle.smil_model.specs.declared.interval.Interval.{Interval}
use Rattle.smil_model.specs.document.Document.{Document, elements}
use Rattle.smil_model.specs.diary.Diary.{History}
use Rattle.smil_model.specs.happening.Resolution.{Course, diary_of}
use Rattle.smil_model.specs.interval.Current.{current_interval}
use Rattle.smil_model.specs.reach.Bounds.{reaches}
use Rattle.smil_model.specs.reach.Reach.{key_of, logged_key, logged_subject, reach, reach_by, subject_of}
use Rattle.smil_model.specs.shown.Orders.{Presentation, course_of}
use Rattle.smil_laws.specs.Cut.{IsNamedBelow, NamesBelow}
use Rattle.smil_laws.proofs.CourseFurther.{is_past}
use Rattle.smil_laws.proofs.CourseCut.{names_weaker}
use Rattle.smil_laws.proofs.LongerLogs.{get_longer}
use Rattle.smil_cells.specs.CellsState.{GoesOn, IsSettled, CellsState, WhereTold, any_interval, fresh, fresh_since, interval_at, is_same_interval, reached_since}
use Rattle.smil_cells.proofs.SettlingSteps.{drops}
use Rattle.smil_live.specs.Counts.{interval_by, least_loading, reached_behind}
use Rattle.smil_live.specs.Moves.{IsReplayed}
use Rattle.smil_live.proofs.CellCounts.{IsCounted, counted_by}
use Rattle.smil_shown.proofs.SettledDiaries.{diary_is, has_ended}
use Rattle.smil_live.proofs.ResolvedHistory.{resolved_is}

-- ---- a longer log

-- an entry that names none of the new log entries reaches the same elements
reach_longer : (nodes : List Node) (log rest : List LogEntry) (step : Step) → IsNamedBelow (length log) step → reach_by nodes (key_of (log ++ rest) step) (subject_of (log ++ rest) step) ≡ reach_by nodes (key_of log step) (subject_of log step)
reach_longer nodes log rest (Logged place) l = ap (λ (o : Option LogEntry). reach_by nodes (logged_key o) (logged_subject o)) (get_longer log rest place l)
reach_longer nodes log rest (Began who begin) l = refl
reach_longer nodes log rest (Repeated who start) l = refl
reach_longer nodes log rest (Ended who end') l = refl
reach_longer nodes log rest (Cut who) l = refl
reach_longer nodes log rest (Paused who) l = refl
reach_longer nodes log rest (Resumed who) l = refl
reach_longer nodes log rest (Deferred who begin) l = refl
reach_longer nodes log rest (Passed who begin) l = refl

reaches_longer : (nodes : List Node) (log rest : List LogEntry) (xs : List Entry) → NamesBelow (length log) xs → reaches nodes (log ++ rest) xs ≡ reaches nodes log xs
reaches_longer nodes log rest [] named = refl
reaches_longer nodes log rest (x ∷ xs) named =
    let one : length (reach nodes (log ++ rest) x) ≡ length (reach nodes log x) = ap (λ (l : List ℕ). length l) (reach_longer nodes log rest x.step named.0) in
    let more = reaches_longer nodes log rest xs named.1 in
    let longer = sum_by-cons (λ (y : Entry). length (reach nodes (log ++ rest) y)) x xs in
    let shorter = sum_by-cons (λ (y : Entry). length (reach nodes log y)) x xs in
    numbers (reaches nodes (log ++ rest) (x ∷ xs)) (reaches nodes log (x ∷ xs)) (length (reach nodes (log ++ rest) x)) (length (reach nodes log x)) (reaches nodes (log ++ rest) xs) (reaches nodes log xs) one more longer shorter
  where
    numbers : (a b c d e f : ℕ) → c ≡ d → e ≡ f → a ≡ c + e → b ≡ d + f → a ≡ b
    numbers a b c d e f p q r s = omega (arith, p, q, r, s)

names_behind : (n k : ℕ) (ds : List Entry) → NamesBelow n ds → NamesBelow n (drop k ds)
names_behind n zero ds named = named
names_behind n (suc k) [] named = tt
names_behind n (suc k) (x ∷ xs) named = names_behind n k xs named.1

-- a whole diary names no others than the entries of its log
settled_names : (c : Course) (d : List Entry) → diary_of c ≡ Some d → NamesBelow (length c.log) d
settled_names c d settled =
    let end = has_ended c d settled in
    subst (λ (l : List Entry). NamesBelow (length c.log) l) end.diary_is (names_weaker end.at.heard (length c.log) end.at.diary end.heard (is_past c end.at end.reached).named)

-- so do the entries that were appended to another one
pub named_since : (old mid : CellsState) → IsSettled mid → NamesBelow (length mid.presentation.log) (drop (length old.diary) mid.diary)
named_since old mid settled = names_behind (length mid.presentation.log) (length old.diary) mid.diary (settled_names (course_of mid.presentation) mid.diary settled)

pub none_since : (n : ℕ) (s : CellsState) → NamesBelow n (drop (length s.diary) s.diary)
none_since n s = subst (λ (l : List Entry). NamesBelow n l) (sym (drop-length s.diary)) tt

-- ---- one standing after another, with a longer log

-- a standing with a longer log that goes on from the one before
pub counted_more : (counts : Bool) (old mid new : CellsState) (rest : List LogEntry) (a b c : ℕ) → mid.presentation.document ≡ old.presentation.document → new.presentation.log ≡ mid.presentation.log ++ rest
    → NamesBelow (length mid.presentation.log) (drop (length old.diary) mid.diary) → IsCounted counts old mid a b → (n : List Entry) × (new.diary ≡ mid.diary ++ n) → b ≤ c
    → WhereTold counts (c - b ≤ reached_since mid new) → WhereTold counts (fresh_since mid new ≤ c - b) → IsCounted counts old new a c
counted_more counts old mid new rest a b c document log named is grown later most least =
    let nodes = old.presentation.document.nodes in
    let by_mid : reached_since old mid ≡ reaches nodes new.presentation.log is.diary.0 =
    sym (reaches_longer nodes mid.presentation.log rest (drop (length old.diary) mid.diary) named)
    ∙ (ap (λ (l : List LogEntry). reaches nodes l (drop (length old.diary) mid.diary)) (sym log) ∙ ap (reaches nodes new.presentation.log) (drops old.diary is.diary.0 mid.diary is.diary.1)) in
    counted_by old mid new document is.diary.0 grown.0 is.diary.1 grown.1 by_mid a b c later counts is most least

-- two steps onward, the first of them with the same log
pub counted_twice : (counts : Bool) (old mid new : CellsState) (rest : List LogEntry) (a b c : ℕ) → mid.presentation.document ≡ old.presentation.document → new.presentation.log ≡ mid.presentation.log ++ rest
    → IsSettled mid → GoesOn old mid → GoesOn mid new → a ≤ b → b ≤ c → WhereTold counts (b - a ≤ reached_since old mid) → WhereTold counts (fresh_since old mid ≤ b - a)
    → WhereTold counts (c - b ≤ reached_since mid new) → WhereTold counts (fresh_since mid new ≤ c - b) → IsCounted counts old new a c
counted_twice counts old mid new rest a b c document log settled first second before later most least then_most then_least =
    counted_more counts old mid new rest a b c document log (named_since old mid settled) (record { diary = first.diary; from = before; most = most; least = least }) second.diary later then_most then_least

-- ---- a load

-- who has an interval in the end had one at first, or got it on the way
any_more : (before after : ℕ → Option Interval) (es : List Node)
    → length (filter (λ (e : Node). is_some (after e.serial)) es) ≤ length (filter (λ (e : Node). is_some (before e.serial)) es) + length (filter (λ (e : Node). is_some (after e.serial) && not (is_same_interval (before e.serial) (after e.serial))) es)
any_more before after [] = omega arith
any_more before after (e ∷ es) =
    one (before e.serial) (after e.serial) (filter (λ (x : Node). is_some (after x.serial)) es) (filter (λ (x : Node). is_some (before x.serial)) es) (filter (λ (x : Node). is_some (after x.serial) && not (is_same_interval (before x.serial) (after x.serial))) es) (any_more before after es)
  where
    at_least : (t : Bool) (xs : List Node) → length xs ≤ length (cond t (e ∷ xs) xs)
    at_least true xs = omega arith
    at_least false xs = omega arith

    one : (o p : Option Interval) (xs ys zs : List Node) → length xs ≤ length ys + length zs
        → length (cond (is_some p) (e ∷ xs) xs) ≤ length (cond (is_some o) (e ∷ ys) ys) + length (cond (is_some p && not (is_same_interval o p)) (e ∷ zs) zs)
    one None None xs ys zs l = l
    one None (Some j) xs ys zs l = omega (arith, l)
    one (Some i) None xs ys zs l = omega (arith, l)
    one (Some i) (Some j) xs ys zs l = let more = at_least (not (is_same_interval (Some i) (Some j))) zs in omega (arith, l, more)

-- the entries that were appended behind so many
pub reached_is : (p : Presentation) (old new : CellsState) (len : ℕ) → IsReplayed p new → old.presentation.document ≡ p.document → length old.diary ≡ len → reached_since old new ≡ reached_behind len p
reached_is p old new len is document count =
    let settled : diary_of (course_of p) ≡ Some new.diary = subst (λ (q : Presentation). diary_of (course_of q) ≡ Some new.diary) is.presentation_is is.settled in
    ap (λ (d : Document). reaches d.nodes new.presentation.log (drop (length old.diary) new.diary)) document
    ∙ (ap (λ (q : Presentation). reaches p.document.nodes q.log (drop (length old.diary) new.diary)) is.presentation_is
    ∙ (ap (λ (n : ℕ). reaches p.document.nodes p.log (drop n new.diary)) count
    ∙ ap (λ (l : List Entry). reaches p.document.nodes p.log (drop len l)) (sym (diary_is (course_of p) new.diary settled))))

-- each element once, and the reaches behind so many entries
pub most_rebuilt : (counts : Bool) (p : Presentation) (old new : CellsState) (len elements_count a b c : ℕ) → IsReplayed p new → old.presentation.document ≡ p.document → length old.diary ≡ len → elements_count ≡ length (elements p.document.nodes) → a ≤ b → b ≤ c
    → WhereTold counts (b - a ≤ elements_count) → WhereTold counts (c - b ≤ reached_since old new) → WhereTold counts (c - a ≤ length (elements p.document.nodes) + reached_behind len p)
most_rebuilt false p old new len elements_count a b c is document count all before later first second = tt
most_rebuilt true p old new len elements_count a b c is document count all before later first second =
    let same = reached_is p old new len is document count in
    omega (arith, same, all, before, later, first, second)

interval_is : (p : Presentation) (new : CellsState) → IsReplayed p new → (s : ℕ) → interval_at new s ≡ interval_by p s
interval_is p new is s =
    ap (λ (h : History). current_interval h (pos new.presentation.now) s) (sym (resolved_is new.presentation new.diary is.settled))
    ∙ ap (λ (q : Presentation). interval_by q s) is.presentation_is

same_count : (f g : ℕ → Option Interval) → ((s : ℕ) → f s ≡ g s) → (es : List Node) → length (filter (λ (e : Node). is_some (f e.serial)) es) ≡ length (filter (λ (e : Node). is_some (g e.serial)) es)
same_count f g same [] = refl
same_count f g same (e ∷ es) =
    ap (λ (o : Option Interval). length (cond (is_some o) (e ∷ filter (λ (x : Node). is_some (f x.serial)) es) (filter (λ (x : Node). is_some (f x.serial)) es))) (same e.serial)
    ∙ by_test (is_some (g e.serial)) (same_count f g same es)
  where
    by_test : (t : Bool) → length (filter (λ (x : Node). is_some (f x.serial)) es) ≡ length (filter (λ (x : Node). is_some (g x.serial)) es) → length (cond t (e ∷ filter (λ (x : Node). is_some (f x.serial)) es) (filter (λ (x : Node). is_some (f x.serial)) es)) ≡ length (cond t (e ∷ filter (λ (x : Node). is_some (g x.serial)) es) (filter (λ (x : Node). is_some (g x.serial)) es))
    by_test true q = ap suc q
    by_test false q = q

-- the elements that have an interval
pub least_anew : (counts : Bool) (p : Presentation) (d : Document) (old new : CellsState) (a b c : ℕ) → IsReplayed p new → old.presentation.document ≡ p.document → d ≡ p.document → a ≤ b → b ≤ c
    → WhereTold counts (any_interval d.nodes (interval_at old) ≤ b - a) → WhereTold counts (fresh_since old new ≤ c - b) → WhereTold counts (least_loading p ≤ c - a)
least_anew false p d old new a b c is document same before later first second = tt
least_anew true p d old new a b c is document same before later first second =
    let es = elements p.document.nodes in
    let more = any_more (interval_at old) (interval_at new) es in
    let all = same_count (interval_at new) (interval_by p) (interval_is p new is) es in
    let start : length (filter (λ (e : Node). is_some (interval_at old e.serial)) es) ≤ b - a = subst (λ (x : Document). any_interval x.nodes (interval_at old) ≤ b - a) same first in
    let on : length (filter (λ (e : Node). is_some (interval_at new e.serial) && not (is_same_interval (interval_at old e.serial) (interval_at new e.serial))) es) ≤ c - b = subst (λ (x : Document). fresh x.nodes (interval_at old) (interval_at new) ≤ c - b) document second in
    numbers (length (filter (λ (e : Node). is_some (interval_at new e.serial)) es)) (least_loading p) (length (filter (λ (e : Node). is_some (interval_at old e.serial)) es)) (length (filter (λ (e : Node). is_some (interval_at new e.serial) && not (is_same_interval (interval_at old e.serial) (interval_at new e.serial))) es)) all more start on
  where
    numbers : (x y z w : ℕ) → x ≡ y → x ≤ z + w → z ≤ b - a → w ≤ c - b → y ≤ c - a
    numbers x y z w e f g h = omega (arith, e, f, g, h, before, later)
