-- What was before the last entry of a diary.
use Rattle.std.specs.Prelude.{◌≡◌, List, [], ◌∷◌, ◌++◌, true}
use Rattle.smil_model.specs.declared.diary.Entry.{Entry}
use Rattle.smil_model.specs.diary.Diary.{History}
use Rattle.smil_model.specs.diary.Lawful.{is_lawful_step}

-- the diary is that of a history and one entry more, whose step is lawful by the history
pub record IsBefore (h : History) (y : Entry) (diary : List Entry) : Type 0 where
  pub diary_is : diary ≡ h.diary ++ y ∷ []
  pub lawful : is_lawful_step h y.step ≡ true
