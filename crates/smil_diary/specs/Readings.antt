-- Which history a diary and a time parent belong to.
use Rattle.std.specs.Prelude.{◌≡◌, ℕ, List, Option}
use Rattle.smil_model.specs.declared.diary.Entry.{Entry}
use Rattle.smil_model.specs.document.Document.{time_parent, serial_of}
use Rattle.smil_model.specs.diary.Diary.{History}

-- the history has this diary, and its document gives the element this time parent
pub record IsOf (h : History) (diary : List Entry) (who : ℕ) (parent : Option ℕ) : Type 0 where
  pub diary_is : h.diary ≡ diary
  pub parent_is : serial_of (time_parent h.nodes who) ≡ parent
