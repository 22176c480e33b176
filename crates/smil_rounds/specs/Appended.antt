-- Entries that are appended one after another.
use Rattle.std.specs.Prelude.{◌≡◌, ℕ, List, [], ◌∷◌, ◌++◌, take}
use Rattle.smil_model.specs.declared.diary.Entry.{Entry}
use Rattle.smil_past.specs.Past.{MarkedHistory, MayFollow, with_diary}

-- each of the entries may follow those before it
abbrev pub MayAppendAll : MarkedHistory → List Entry → Type 0
MayAppendAll past [] = Unit {0}
MayAppendAll past (entry ∷ entries) =
    MayFollow past entry × MayAppendAll (with_diary past (past.diary ++ entry ∷ [])) entries

-- some of the entries were appended
pub record IsPart (old : MarkedHistory) (entries : List Entry) (new : MarkedHistory) : Type 0 where
  pub some : ℕ
  pub new_is : new ≡ with_diary old (old.diary ++ take some entries)
