-- The entries of a diary with those before them.
use Rattle.std.proofs.Common.{◌≡◌, suc, List, [], ◌∷◌, ◌++◌, length, refl, ap}
use Rattle.smil_model.specs.declared.diary.Entry.{Entry}
use Rattle.smil_model.specs.diary.Diary.{with_past}

pub past-length : (before xs : List Entry) → length (with_past before xs) ≡ length xs
past-length before [] = refl
past-length before (x ∷ xs) = ap suc (past-length (before ++ x ∷ []) xs)
