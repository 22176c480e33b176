-- A schedule: each element in document order, with its interval and what comes of it, and the slots
-- of the numbers of the keys of what comes first of each.
use Rattle.std.specs.Prelude.{◌≡◌, ◌≤◌, ℕ, zero, suc, nat_eq, ℤ, List, [], ◌∷◌, length, map, Option, option_map}
use Rattle.std.specs.List.{AllByRecursion, IsDistinct}
use Rattle.smil_model.specs.declared.interval.Interval.{Interval}
use Rattle.smil_model.specs.declared.limits.TheConstants.{NODES}
use Rattle.smil_model.specs.diary.Diary.{History}
use Rattle.smil_model.specs.happening.Keys.{DueChange as AnyDueChange, coming, first_coming}
use Rattle.smil_element.specs.declared.comings.DueChanges.{DueChanges}
use Rattle.smil_element.specs.declared.happening.change.DueChange.{DueChange}
use Rattle.smil_element.specs.Parts.{coming_meant}
use Rattle.smil_rounds.specs.declared.current_rows.CurrentRow.{CurrentRow}
use Rattle.smil_rounds.specs.Current.{AreCurrent}
use Rattle.smil_rounds.specs.Rows.{AreNear}
use Rattle.smil_nodes.specs.Slots.{IsNearKey, earlier_of, number_of}

-- an interval, and what comes, in the row at an index; where there is none nothing changes
abbrev pub row_put : List CurrentRow → ℕ → Option Interval → DueChanges → List CurrentRow
row_put [] index interval comings = []
row_put (r ∷ rs) zero interval comings =
    record { serial = r.serial; interval = interval; comings = comings } ∷ rs
row_put (r ∷ rs) (suc index) interval comings = r ∷ row_put rs index interval comings

-- the number of the key of what comes
abbrev pub coming_number : Option DueChange → Option ℕ
coming_number coming = option_map (λ (c : DueChange). number_of c.key) coming

-- that of what comes first of an element
abbrev pub slot_of : DueChanges → Option ℕ
slot_of comings = earlier_of (coming_number comings.moved) (coming_number comings.repeat)

-- a slot a row
abbrev pub slots_of : List CurrentRow → List (Option ℕ)
slots_of rows = map (λ (r : CurrentRow). slot_of r.comings) rows

-- the numbers of the keys of all that comes tell these apart
abbrev pub HaveNearKeys : List AnyDueChange → Type 0
HaveNearKeys comings = AllByRecursion (λ (c : AnyDueChange). IsNearKey c.key) comings

-- the rows have near numbers, are of different elements and as few as those of a document, and the
-- slots are theirs
pub record IsScheduled (rows : List CurrentRow) (slots : List (Option ℕ)) : Type 0 where
  pub near : AreNear rows
  pub few : length rows ≤ NODES
  pub apart : IsDistinct nat_eq (map (λ (r : CurrentRow). r.serial) rows)
  pub slots_are : slots ≡ slots_of rows

-- this comes first by the rows, where they are current and keys are near
abbrev pub ComesFirst : List CurrentRow → Option DueChange → Type 0
ComesFirst rows first =
    (h : History) (now : ℤ) → HaveNearKeys (coming h now) → AreCurrent rows h now
    → option_map coming_meant first ≡ first_coming (coming h now)
