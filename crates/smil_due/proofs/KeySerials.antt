-- Each key that the model gives has the serial of the element at its place.
use Rattle.std.proofs.Common.{◌≡◌, ◌∙◌, ap, sym, ℕ, ℤ, zero, suc, ◌+◌, Bool, true, false, List, [], ◌∷◌, ◌++◌, arith}
use Rattle.std.specs.Prelude.{cond, pos, ◌+ℤ◌, ◌-ℤ◌, not, ◌&&◌, ◌||◌, Option, None, Some, is_some}
use Rattle.std.specs.List.{All}
use Rattle.std.proofs.lemmas.List.Elements.{All-nil, All-cons, All-append, All-map}
use Rattle.smil_model.specs.declared.times.Time.{Time}
use Rattle.smil_model.specs.declared.times.Time.TheVariants.{At, Indefinite, Unresolved}
use Rattle.smil_model.specs.declared.interval.Interval.{Interval}
use Rattle.smil_model.specs.declared.document.Node.{Node}
use Rattle.smil_model.specs.document.Document.{elements}
use Rattle.smil_model.specs.Times.{time_le, later_time}
use Rattle.smil_model.specs.diary.Diary.{History, is_active, iteration}
use Rattle.smil_model.specs.diary.Clocks.{run, stands, outer_stands, play_start, iteration_start}
use Rattle.smil_model.specs.interval.Durations.{bounds_of, intermediate_end}
use Rattle.smil_model.specs.interval.Current.{simple_of, current_table, in_table}
use Rattle.smil_model.specs.happening.Keys.{Change, repeats, DueChange, coming_at, coming_begin, coming_end, coming_end_at, coming_repeat, coming_repeat_at, coming_of, coming_from, coming}
use Rattle.smil_due.specs.Laws.{HasSerial, KeysHaveSerials}

-- the serial of the element at a place
abbrev serial_at : List Node → ℕ → ℕ
serial_at [] place = 0
serial_at (e ∷ es) zero = e.serial
serial_at (e ∷ es) (suc place) = serial_at es place

module _ (f : ℕ → ℕ) where
  abbrev Has : DueChange → Type 0
  Has c = HasSerial f c.key

  choice : (t : Bool) (xs ys : List DueChange) → All Has xs → All Has ys → All Has (cond t xs ys)
  choice true xs ys a b = a
  choice false xs ys a b = b

  none : All Has []
  none = All-nil Has

  one : (c : DueChange) → Has c → All Has (c ∷ [])
  one c has = All-cons Has c [] has none

  module _ (h : History) (intervals : ℕ → Option Interval) (now : ℤ) (place : ℕ) (e : Node) (has : e.serial ≡ f place) where
    begin_has : (i : Option Interval) → All Has (coming_begin h now place e i)
    begin_has None = none
    begin_has (Some i) = one _ has

    end_at_has : (begin : ℤ) (time : Time) → All Has (coming_end_at h now place e begin time)
    end_at_has begin (At v) = one _ has
    end_at_has begin Indefinite = none
    end_at_has begin Unresolved = none

    end_has : (i : Option Interval) → All Has (coming_end h now place e i)
    end_has None = none
    end_has (Some i) = end_at_has i.begin i.«end»

    repeat_at_has : (simple over : Time) → All Has (coming_repeat_at h now place e simple over)
    repeat_at_has simple (At v) =
        choice
        (not (time_le simple (At (pos 0))) && not (time_le (intermediate_end (bounds_of e.attrs) simple (play_start h e.serial) (iteration_start h e.serial) (iteration h e.serial)) (At v)))
        (comes (repeats v) ∷ []) [] (one (comes (repeats v)) has) none
      where
        comes : Change → DueChange
        comes change = coming_at (now +ℤ (v -ℤ run h e.serial now)) 1 place e change
    repeat_at_has simple Indefinite = none
    repeat_at_has simple Unresolved = none

    repeat_has : All Has (coming_repeat h (simple_of h intervals e) now place e)
    repeat_has =
        let simple = simple_of h intervals e in
        let over = later_time simple (iteration_start h e.serial) in
        choice ((is_some e.attrs.repeat_count || is_some e.attrs.repeat_dur) && not (stands h e.serial))
        (coming_repeat_at h now place e simple over) [] (repeat_at_has simple over) none

    element_has : All Has (coming_of h intervals now place e)
    element_has =
        let stand = outer_stands h e.serial in
        let i = intervals e.serial in
        let ends = cond stand [] (coming_end h now place e i) in
        let more = coming_repeat h (simple_of h intervals e) now place e in
        let begins = cond stand [] (coming_begin h now place e i) in
        choice (is_active h.diary e.serial) (ends ++ more) begins
        (All-append Has ends more (choice stand [] (coming_end h now place e i) none (end_has i)) repeat_has)
        (choice stand [] (coming_begin h now place e i) none (begin_has i))

  all_have : (h : History) (intervals : ℕ → Option Interval) (now : ℤ) (place : ℕ) (es : List Node) → ((k : ℕ) → f (place + k) ≡ serial_at es k) → All Has (coming_from h intervals now place es)
  all_have h intervals now place [] at = none
  all_have h intervals now place (e ∷ es) at =
      All-append Has (coming_of h intervals now place e) (coming_from h intervals now (suc place) es)
      (element_has h intervals now place e (sym (at 0) ∙ ap f (omega arith)))
      (all_have h intervals now (suc place) es (λ k. ap f (omega arith) ∙ at (suc k)))

pub keys_have_serials : KeysHaveSerials
keys_have_serials h now =
    let es = elements h.nodes in
    let f = serial_at es in (
      f,
      All-map (HasSerial f) (λ (c : DueChange). c.key) (coming h now) (all_have f h (in_table (current_table h now)) now 0 es (λ k. ap f (omega arith))),
    )
