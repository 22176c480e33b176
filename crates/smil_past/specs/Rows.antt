-- Lists of rows, one for each element, and rows that are put in the place of others.
use Rattle.std.specs.Prelude.{◌≡◌, ℕ, List, Bool, true, not, ◌==◌, if◌then◌else◌, Option, option_map, find, map}
use Rattle.std.specs.List.{list_any}
use Rattle.smil_model.specs.declared.diary.Entry.{Entry}
use Rattle.smil_model.specs.declared.diary.Step.{Step}
use Rattle.smil_model.specs.declared.document.Node.{Node}
use Rattle.smil_model.specs.diary.Diary.{History}
use Rattle.smil_model.specs.diary.Lawful.{has_element}
use Rattle.smil_past.specs.declared.plays.facts.PlayFacts.{PlayFacts}
use Rattle.smil_past.specs.declared.plays.TheConstants.{IDLE}
use Rattle.smil_past.specs.Followed.{own_after, child_after, child_step}

-- the row of an element to which nothing has happened yet
abbrev pub idle_row : ℕ → ℕ × PlayFacts
idle_row s = (s, IDLE)

-- the row of the same element as if nothing had happened to it yet
abbrev pub reset_row : ℕ × PlayFacts → ℕ × PlayFacts
reset_row row = (row.0, IDLE)

-- what a list of rows has for an element
abbrev pub row_of : List (ℕ × PlayFacts) → ℕ → Option PlayFacts
row_of rows s =
    option_map (λ (row : ℕ × PlayFacts). row.1) (find (λ (row : ℕ × PlayFacts). row.0 == s) rows)

abbrev pub keys_of : List (ℕ × PlayFacts) → List ℕ
keys_of rows = map (λ (row : ℕ × PlayFacts). row.0) rows

-- the same rows, but for one element
pub record IsPut (who : ℕ) (played : PlayFacts) (before after : List (ℕ × PlayFacts)) : Type 0 where
  pub same_keys : keys_of after ≡ keys_of before
  pub rows : (s : ℕ) → row_of after s
      ≡ (if who == s then option_map (λ (r : PlayFacts). played) (row_of before s)
      else row_of before s)

-- each row after what an entry makes of its own element
pub record IsOwnTaken (h : History) (y : Entry) (before after : List (ℕ × PlayFacts)) : Type 0 where
  pub same_keys : keys_of after ≡ keys_of before
  pub rows : (s : ℕ) → row_of after s ≡ option_map (own_after h y s) (row_of before s)

-- a row after a birth, or else an end, of the time parent, where that is one of the element
abbrev pub turned : Bool → Bool → Option PlayFacts → Option PlayFacts
turned turns birth row = if turns then option_map (child_after birth (not birth)) row else row

-- the row of one element after a birth, or else an end, of its time parent
pub record IsAfterParent
    (who : ℕ) (birth : Bool) (before after : List (ℕ × PlayFacts)) : Type 0 where
  pub same_keys : keys_of after ≡ keys_of before
  pub rows : (s : ℕ) → row_of after s ≡ turned (who == s) birth (row_of before s)

-- each row of one of these nodes after a birth, or else an end, of their time parent
pub record AreAfterParent
    (nodes : List Node) (birth : Bool) (before after : List (ℕ × PlayFacts)) : Type 0 where
  pub same_keys : keys_of after ≡ keys_of before
  pub rows : (s : ℕ) → row_of after s
      ≡ turned (list_any (λ (n : Node). n.serial == s) nodes) birth (row_of before s)

-- each row after what a step makes of the time children of its element
pub record AreChildrenTaken
    (nodes : List Node) (step : Step) (before after : List (ℕ × PlayFacts)) : Type 0 where
  pub same_keys : keys_of after ≡ keys_of before
  pub rows : (s : ℕ) → has_element nodes s ≡ true
      → row_of after s ≡ option_map (child_step nodes step s) (row_of before s)
