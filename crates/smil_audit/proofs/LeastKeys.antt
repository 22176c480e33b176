-- What comes first, by the least of the keys of what comes.
use Rattle.std.proofs.Common.{◌≡◌, ◌∙◌, ap, sym, refl, List, Option, Some, None, ℤ}
use Rattle.std.specs.Prelude.{option_map, slice_get}
use Rattle.smil_model.specs.declared.happening.Key.{Key}
use Rattle.smil_model.specs.diary.Diary.{History}
use Rattle.smil_model.specs.happening.Keys.{coming, first_coming, least_key}
use Rattle.smil_element.specs.declared.happening.change.DueChange.{DueChange}
use Rattle.smil_element.specs.Parts.{coming_meant}
use Rattle.smil_rounds.specs.declared.current_rows.CurrentRow.{CurrentRow}
use Rattle.smil_rounds.specs.Current.{IsCurrent}
use Rattle.smil_rounds.specs.Round.{due_in, keys_in}
use Rattle.smil_rounds.specs.Rows.{IsChosen}
use Rattle.smil_rounds.proofs.FirstComing.{first_by_key, none_first}
use Rattle.smil_rounds.proofs.KeyQueues.{keys_come}

module _ (h : History) (now : ℤ) (rows : List CurrentRow) (given : List Key) (is : IsCurrent rows (due_in rows) h now) (are : given ≡ keys_in rows) where
  pub first_chosen : (key : Key) (chosen : Option DueChange) → Some key ≡ least_key given → ((r : CurrentRow) → slice_get rows key.position ≡ Some r → IsChosen key r.comings.moved r.comings.repeat chosen) → option_map coming_meant chosen ≡ first_coming (coming h now)
  first_chosen key chosen least by_row = first_by_key h now rows (due_in rows) key chosen is (least ∙ ap least_key (are ∙ keys_come h now rows is.current)) by_row

  pub first_none : None ≡ least_key given → None ≡ first_coming (coming h now)
  first_none least = sym (none_first h now None (least ∙ ap least_key (are ∙ keys_come h now rows is.current)) refl)
