-- Elements that have no interval: those that are neither active nor may begin, and those whose begins
-- are all before the end from which the next one is looked for.
use Rattle.std.proofs.Common.{◌≡◌, refl, sym, ◌∙◌, ap, ℕ, suc, ℤ, List, [], ◌∷◌, length, Bool, true, false, Option, Some, None, ◌-◌, arith}
use Rattle.std.specs.Prelude.{cond, filter, int_le, not, option_map, ◌&&◌, ◌+ℤ◌, pos, slice_get, slice_index_or}
use Rattle.std.proofs.lemmas.Int.{ints}
use Rattle.std.proofs.lemmas.List.{drop_all}
use Rattle.std.proofs.lemmas.Option.{get_or_from_slice_get, none-some, slice_get-get_or, slice_get_within}
use Rattle.smil_model.specs.declared.times.Time.{Time}
use Rattle.smil_model.specs.declared.times.Time.TheVariants.{At}
use Rattle.smil_model.specs.declared.interval.Interval.{Interval}
use Rattle.smil_model.specs.declared.interval.Facts.{Facts}
use Rattle.smil_model.specs.declared.document.Node.{Node}
use Rattle.smil_model.specs.diary.Diary.{History}
use Rattle.smil_model.specs.diary.Plays.{FinishedInterval, last_finished}
use Rattle.smil_model.specs.interval.Current.{facts_of, finish_time}
use Rattle.smil_past.specs.declared.plays.facts.PastInterval.{PastInterval}
use Rattle.smil_past.specs.Played.{played}
use Rattle.smil_element.specs.Element.{interval_in}
use Rattle.smil_element.proofs.FactsByParts.{last_is}
use Rattle.smil_model.specs.Times.{time_eq, time_le}
use Rattle.smil_model.specs.Rising.{IsRising}
use Rattle.smil_model.specs.interval.Intervals.{after_end, coming_interval, counts_after, interval_by, interval_end, interval_of, is_from, may_restart, next_from}
use Rattle.smil_model.proofs.NumberOrders.{is_le, le_both}
use Rattle.smil_interval.proofs.OrderedLists.{drop_is_filter, twice_not}
use Rattle.smil_interval.proofs.SearchParts.{before_parted}
use Rattle.smil_interval.proofs.Thresholds.{none_passes}

turned : (t : Bool) → not t ≡ true → t ≡ false
turned true is = sym is
turned false is = refl

-- where the last of them is before a time, all are
pub none_from : (from : Time) (xs : List ℤ) (k : ℕ) (y : ℤ) → IsRising int_le xs → length xs ≡ suc k → y ≡ slice_index_or xs k y → time_le from (At y) ≡ false → filter (is_from (Some from)) xs ≡ []
none_from from xs k y up len at before =
    sym (drop_is_filter (is_from (Some from)) (λ v. not (time_le from (At v))) (λ v. twice_not (time_le from (At v))) xs (length xs)
    (none_passes (λ v. not (time_le from (At v))) xs k y (before_parted from xs up) len at (ap not before)))
    ∙ drop_all (length xs) xs (omega arith)

-- a number before an end is before where the search goes on from it
pub before_end : (begin finish y : ℤ) → not (int_le finish y) ≡ true → time_le (after_end begin (At finish)) (At y) ≡ false
before_end begin finish y before = by (time_eq (At begin) (At finish))
  where
    here : int_le finish y ≡ false
    here = turned (int_le finish y) before

    next : (t : Bool) → int_le (finish +ℤ pos 1) y ≡ t → t ≡ false
    next false at = refl
    next true at = sym (le_both finish (finish +ℤ pos 1) y (is_le finish (finish +ℤ pos 1) (omega (arith, ints))) at) ∙ here

    by : (t : Bool) → time_le (cond t (At (finish +ℤ pos 1)) (At finish)) (At y) ≡ false
    by true = next (int_le (finish +ℤ pos 1) y) refl
    by false = here

-- from there on no interval is found, whichever begins count
module _ (end_of : ℤ → Option Time) (from : Time) (counts : ℤ → Bool) where
  abbrev found_by : ℤ → Option Interval → Bool → Bool → Option Interval
  found_by x rest t true = cond t (option_map (λ end'. record { begin = x; «end» = end' }) (end_of x)) rest
  found_by x rest t false = rest

  join : (x : ℤ) (xs : List ℤ) (u : Bool) → next_from end_of from (cond u (x ∷ xs) xs) ≡ found_by x (next_from end_of from xs) (time_le from (At x)) u
  join x xs true = refl
  join x xs false = refl

  step : (x : ℤ) (rest : Option Interval) (late : List ℤ) (t u : Bool) → cond t (x ∷ late) late ≡ [] → (late ≡ [] → rest ≡ None) → found_by x rest t u ≡ None
  step x rest late true u q later = absurd (cc)
  step x rest late false true q later = later q
  step x rest late false false q later = later q

  next_absent : (xs : List ℤ) → filter (is_from (Some from)) xs ≡ [] → next_from end_of from (filter counts xs) ≡ None
  next_absent [] none = refl
  next_absent (x ∷ xs) none =
      join x (filter counts xs) (counts x)
      ∙ step x (next_from end_of from (filter counts xs)) (filter (is_from (Some from)) xs) (time_le from (At x)) (counts x) none (next_absent xs)

-- so an element that isn't active has no interval
pub spent : (facts : Facts) (begins : List ℤ) (ends : List Time) (last : Interval) (finish : ℤ) → facts.play ≡ None → facts.last ≡ Some last → last.«end» ≡ At finish → ((begin : ℤ) → filter (is_from (Some (after_end begin (At finish)))) begins ≡ []) → interval_of facts begins ends ≡ None
spent facts begins ends last finish idle is at none =
    ap (interval_by facts begins ends) idle
    ∙ by (facts.alive && not facts.deferred)
  where
    next : next_from (interval_end facts begins ends) (after_end last.begin last.«end») (filter (counts_after facts.passed) begins) ≡ None
    next = next_absent (interval_end facts begins ends) (after_end last.begin last.«end») (counts_after facts.passed) begins (ap (λ t. filter (is_from (Some (after_end last.begin t))) begins) at ∙ none last.begin)

    restarts : (u : Bool) → cond u (next_from (interval_end facts begins ends) (after_end last.begin last.«end») (filter (counts_after facts.passed) begins)) None ≡ None
    restarts true = next
    restarts false = refl

    by : (t : Bool) → cond t (coming_interval facts begins ends facts.last) None ≡ None
    by true = ap (coming_interval facts begins ends) is ∙ restarts (may_restart facts.restart)
    by false = refl

-- nor has one that is neither active nor may begin
pub absent : (facts : Facts) (begins : List ℤ) (ends : List Time) → facts.play ≡ None → (facts.alive && not facts.deferred) ≡ false → None ≡ interval_of facts begins ends
absent facts begins ends idle out =
    sym (ap (interval_by facts begins ends) idle ∙ ap (λ t. cond t (coming_interval facts begins ends facts.last) None) out)

-- the last finished interval that the facts have
pub last_told : (h : History) (who : ℕ) (e : Node) (given : ℕ → Option Interval) (now : ℤ) (o : Option PastInterval) (last : PastInterval) → e.serial ≡ who → o ≡ (played h who).last_finished → o ≡ Some last → (facts_of h given now e).last ≡ Some (interval_in last)
last_told h who e given now o last same told is =
    ap (λ k. option_map (λ (f : FinishedInterval). record { begin = f.begin.value; «end» = finish_time f }) (last_finished h k)) same
    ∙ sym (last_is h who o told)
    ∙ ap (option_map interval_in) is

-- where the last of them is that, and where there is none
pub last_from : (from : Time) (xs : List ℤ) (y : ℤ) → IsRising int_le xs → slice_get xs (length xs - 1) ≡ Some y → time_le from (At y) ≡ false → filter (is_from (Some from)) xs ≡ []
last_from from xs y up at before =
    none_from from xs (length xs - 1) y up (omega (arith, slice_get_within xs (length xs - 1) y at))
    (sym (get_or_from_slice_get xs (length xs - 1) y y at)) before

pub without : (from : Time) (xs : List ℤ) → slice_get xs (length xs - 1) ≡ None → filter (is_from (Some from)) xs ≡ []
without from [] none = refl
without from (x ∷ xs) none =
    let there = slice_get-get_or (x ∷ xs) (length (x ∷ xs) - 1) x (omega arith) in
    absurd (none-some _ (sym none ∙ there))
