-- What comes of an element, with its key.
use Rattle.std.proofs.Common.{◌≡◌, refl, sym, ◌∙◌, ap, ℕ, List, [], ◌∷◌, ◌++◌, Bool, true, false, Option, Some, None, ℤ}
use Rattle.std.proofs.lemmas.List.{append-nil}
use Rattle.std.specs.Prelude.{cond, int_lt, pos, ◌+ℤ◌, ◌-ℤ◌, not, ◌&&◌, ◌||◌, is_some}
use Rattle.smil_model.specs.declared.times.Time.{Time}
use Rattle.smil_model.specs.declared.times.Time.TheVariants.{At, Indefinite, Unresolved}
use Rattle.smil_model.specs.declared.document.Node.{Node}
use Rattle.smil_model.specs.declared.interval.Interval.{Interval}
use Rattle.smil_model.specs.declared.interval.Play.{Play}
use Rattle.smil_model.specs.Times.{later_time, time_le}
use Rattle.smil_model.specs.interval.Durations.{Bounds, bounds_of, intermediate_end}
use Rattle.smil_model.specs.diary.Diary.{History, is_active, iteration}
use Rattle.smil_model.specs.diary.Clocks.{run, to_document, stands, outer_stands, iteration_start, play_start}
use Rattle.smil_model.specs.happening.Keys.{Change, DueChange, ends, repeats, is_repeating, coming_at, coming_begin, coming_end, coming_end_at, coming_repeat_at, coming_by, coming_repeat}
use Rattle.smil_element.specs.declared.happening.change.DueChange.{DueChange as Moved}
use Rattle.smil_element.specs.Element.{and_coming, both, goes_on, moved_by}

abbrev pub keyed : ℤ → ℕ → ℕ → ℕ → Change → DueChange
keyed value class place s change = record {
  key = record { value = value; class = class; position = place; serial = s; repeat = is_repeating change };
  change = change;
}

module _ (h : History) (who : ℕ) (e : Node) (same : e.serial ≡ who) where
  -- at a value on the outer clock
  pub timed : (value v now : ℤ) (class place : ℕ) (change : Change) → value ≡ to_document h who v now → keyed value class place who change ∷ [] ≡ coming_at (to_document h e.serial v now) class place e change ∷ []
  timed value v now class place change is =
      ap (λ x. keyed x class place who change ∷ []) is ∙ ap (λ k. keyed (to_document h k v now) class place k change ∷ []) (sym same)

  pub end_timed : (value begin v now : ℤ) (class place : ℕ) (t : Bool) (finish : Time) → value ≡ to_document h who v now → int_lt begin v ≡ t → cond t 1 3 ≡ class → finish ≡ At v → keyed value class place who (ends v) ∷ [] ≡ coming_end_at h now place e begin finish
  end_timed value begin v now class place t finish is shorter of_class ends_at =
      timed value v now class place (ends v) is
      ∙ ap (λ n. coming_at (to_document h e.serial v now) n place e (ends v) ∷ []) (sym of_class ∙ ap (λ b. cond b 1 3) (sym shorter))
      ∙ ap (coming_end_at h now place e begin) (sym ends_at)

  -- the repeat, while the own clock runs
  abbrev repeat_at : Time → ℤ → ℕ → ℕ → List DueChange
  repeat_at simple now place k = coming_repeat_at h now place e simple (later_time simple (iteration_start h k))

  abbrev may : ℕ → Bool
  may k = (is_some e.attrs.repeat_count || is_some e.attrs.repeat_dur) && not (stands h k)

  pub repeat_is : (simple : Time) (now : ℤ) (place : ℕ) (t : Bool) (cs : List DueChange) → t ≡ may who → cs ≡ cond t (repeat_at simple now place who) [] → cs ≡ coming_repeat h simple now place e
  repeat_is simple now place t cs may_be told =
      told ∙ ap (λ b. cond b (repeat_at simple now place who) []) may_be
      ∙ ap (λ k. cond (may k) (repeat_at simple now place k) []) (sym same)

-- ---- whether there is one

pub and_told : (a b r s : Bool) → r ≡ a → s ≡ b → r ≡ true → not s ≡ (a && not b)
and_told a b r s p q t = rw (← p, ← q, t)

pub and_not : (a b r : Bool) → r ≡ a → r ≡ false → r ≡ (a && not b)
and_not a b r p t = rw (← p, t)

-- one after another
pub one_then : (first : Option Moved) (cs : List DueChange) → and_coming first cs ≡ and_coming first [] ++ cs
one_then None cs = refl
one_then (Some c) cs = refl

abbrev ends_or_none : History → Option Interval → ℤ → ℕ → Node → List DueChange
ends_or_none h interval now place e = cond (outer_stands h e.serial) [] (coming_end h now place e interval)

abbrev begins_or_none : History → Option Interval → ℤ → ℕ → Node → List DueChange
begins_or_none h interval now place e = cond (outer_stands h e.serial) [] (coming_begin h now place e interval)

-- what comes of an active element, and of another
pub both_are : (h : History) (interval : Option Interval) (simple : Time) (now : ℤ) (place : ℕ) (e : Node) (t : Bool) (first second : Option Moved) → t ≡ is_active h.diary e.serial → and_coming first [] ≡ moved_by h interval now place e → and_coming second [] ≡ cond t (coming_repeat h simple now place e) [] → both first second ≡ coming_by h interval simple now place e
both_are h interval simple now place e t first second active is again =
    one_then first (and_coming second []) ∙ ap (λ cs. and_coming first [] ++ cs) again ∙ ap (λ cs. cs ++ cond t (coming_repeat h simple now place e) []) is
    ∙ by t active
  where
    by : (b : Bool) → b ≡ is_active h.diary e.serial → moved_by h interval now place e ++ cond b (coming_repeat h simple now place e) [] ≡ coming_by h interval simple now place e
    by true q =
        ap (λ u. cond u (ends_or_none h interval now place e) (begins_or_none h interval now place e) ++ coming_repeat h simple now place e) (sym q)
        ∙ ap (λ u. cond u (ends_or_none h interval now place e ++ coming_repeat h simple now place e) (begins_or_none h interval now place e)) q
    by false q =
        ap (λ u. cond u (ends_or_none h interval now place e) (begins_or_none h interval now place e) ++ []) (sym q)
        ∙ append-nil (begins_or_none h interval now place e)
        ∙ ap (λ u. cond u (ends_or_none h interval now place e ++ coming_repeat h simple now place e) (begins_or_none h interval now place e)) q

-- while the time parent's clock stands
pub none_moves : (h : History) (interval : Option Interval) (now : ℤ) (place : ℕ) (e : Node) (t : Bool) → t ≡ outer_stands h e.serial → t ≡ true → [] ≡ moved_by h interval now place e
none_moves h interval now place e t told stands_now =
    by (is_active h.diary e.serial)
    ∙ ap (λ u. cond (is_active h.diary e.serial) (cond u [] (coming_end h now place e interval)) (cond u [] (coming_begin h now place e interval))) (sym stands_now ∙ told)
  where
    by : (b : Bool) → [] ≡ cond b (cond true [] (coming_end h now place e interval)) (cond true [] (coming_begin h now place e interval))
    by true = refl
    by false = refl

pub no_other : (o : Option Interval) → ((i : Interval) → o ≡ Some i → ⊥) → o ≡ None
no_other None never = refl
no_other (Some i) never = absurd (never i refl)

pub none_comes : (h : History) (interval : Option Interval) (now : ℤ) (place : ℕ) (e : Node) → interval ≡ None → [] ≡ moved_by h interval now place e
none_comes h interval now place e none = rw none (by (is_active h.diary e.serial) (outer_stands h e.serial))
  where
    by : (b t : Bool) → [] ≡ cond b (cond t [] (coming_end h now place e None)) (cond t [] (coming_begin h now place e None))
    by true true = refl
    by true false = refl
    by false true = refl
    by false false = refl

pub end_moves : (h : History) (interval : Option Interval) (now : ℤ) (place : ℕ) (e : Node) (t b : Bool) → t ≡ outer_stands h e.serial → t ≡ false → b ≡ is_active h.diary e.serial → b ≡ true → coming_end h now place e interval ≡ moved_by h interval now place e
end_moves h interval now place e t b told runs active on =
    ap (λ u. cond u [] (coming_end h now place e interval)) (sym runs ∙ told)
    ∙ ap (λ u. cond u (ends_or_none h interval now place e) (begins_or_none h interval now place e)) (sym on ∙ active)

pub begin_moves : (h : History) (interval : Option Interval) (now : ℤ) (place : ℕ) (e : Node) (t b : Bool) → t ≡ outer_stands h e.serial → t ≡ false → b ≡ is_active h.diary e.serial → b ≡ false → coming_begin h now place e interval ≡ moved_by h interval now place e
begin_moves h interval now place e t b told runs active off =
    ap (λ u. cond u [] (coming_begin h now place e interval)) (sym runs ∙ told)
    ∙ ap (λ u. cond u (ends_or_none h interval now place e) (begins_or_none h interval now place e)) (sym off ∙ active)

-- ---- the repeat by what is told of the play

pub no_number : (h : History) (now : ℤ) (place : ℕ) (e : Node) (simple t : Time) → ((x : ℤ) → t ≡ At x → ⊥) → [] ≡ coming_repeat_at h now place e simple t
no_number h now place e simple (At x) never = absurd (never x refl)
no_number h now place e simple Indefinite never = refl
no_number h now place e simple Unresolved never = refl

module _ (h : History) (who : ℕ) (e : Node) (same : e.serial ≡ who) (simple : Time) (b : Bounds) (p : Play) (bounds : b ≡ bounds_of e.attrs) (first : p.first ≡ play_start h who) (start : p.start ≡ iteration_start h who) (number : p.iteration ≡ iteration h who) where
  abbrev goes : ℤ → ℕ → Bool
  goes v k =
      not (time_le simple (At (pos 0)))
      && not (time_le (intermediate_end (bounds_of e.attrs) simple (play_start h k) (iteration_start h k) (iteration h k)) (At v))

  goes_is : (r : Bool) (over v : ℤ) → r ≡ goes_on b simple p over → over ≡ v → r ≡ goes v e.serial
  goes_is r over v told is = told ∙ rw (bounds, first, start, number, is) (ap (goes v) (sym same))

  pub stops : (now : ℤ) (place : ℕ) (t : Time) (r : Bool) (over v : ℤ) → t ≡ At v → over ≡ v → r ≡ goes_on b simple p over → r ≡ false → [] ≡ coming_repeat_at h now place e simple t
  stops now place t r over v at is told off =
      ap (λ u. cond u (coming_at (now +ℤ (v -ℤ run h e.serial now)) 1 place e (repeats v) ∷ []) []) (sym off ∙ goes_is r over v told is)
      ∙ ap (coming_repeat_at h now place e simple) (sym at)

  pub follows : (now : ℤ) (place : ℕ) (t : Time) (r : Bool) (over v value : ℤ) → t ≡ At v → over ≡ v → r ≡ goes_on b simple p over → r ≡ true → value ≡ now +ℤ (v -ℤ run h who now) → keyed value 1 place who (repeats over) ∷ [] ≡ coming_repeat_at h now place e simple t
  follows now place t r over v value at is told on value_is =
      ap (λ x. keyed value 1 place who (repeats x) ∷ []) is ∙ ap (λ x. keyed x 1 place who (repeats v) ∷ []) value_is
      ∙ ap (λ k. keyed (now +ℤ (v -ℤ run h k now)) 1 place k (repeats v) ∷ []) (sym same)
      ∙ ap (λ u. cond u (coming_at (now +ℤ (v -ℤ run h e.serial now)) 1 place e (repeats v) ∷ []) []) (sym on ∙ goes_is r over v told is)
      ∙ ap (coming_repeat_at h now place e simple) (sym at)
