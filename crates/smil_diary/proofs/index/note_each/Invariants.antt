use Rattle.std.proofs.Common.{◌≡◌, ℕ, List, take}
use Rattle.std.specs.Prelude.{is_some}
use Rattle.smil_model.specs.declared.diary.Entry.{Entry}
use Rattle.smil_diary.specs.declared.element.ElementPlaces.{ElementPlaces}
use Rattle.smil_diary.specs.ElementPlaces.{kept, row_of}
use Rattle.smil_diary.proofs.IndexNoted.{given}
use Rattle.smil_diary.proofs.index.note_each.Given as goal

-- each row has what its element has of these entries
pub record AreNoted (before now : List (ℕ × ElementPlaces)) (past : List Entry) : Type 0 where
  pub same : (who : ℕ) → row_of now who ≡ row_of before who
  pub kept : (who : ℕ) → kept now who ≡ given (is_some (row_of before who)) past who

abbrev pub invariant-loop-place : goal.invariant-loop-place
invariant-loop-place l = AreNoted l.initial.elements l.elements (take l.place l.entries)
