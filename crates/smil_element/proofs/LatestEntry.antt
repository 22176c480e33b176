-- The present moment of what has happened is not before its last entry.
use Rattle.std.proofs.Common.{◌≡◌, sym, ◌∙◌, ap, subst, Option, Some, None, ℕ, ◌≤◌, List, ℤ, Bool, false}
use Rattle.std.specs.Prelude.{cond, ◌≤ℤ◌, ◌-ℤ◌}
use Rattle.std.proofs.lemmas.Int.{to_z-of_z}
use Rattle.std.proofs.Common.{SFits}
use mir.Syntax.{w64}
use mir.Val.{to_z, of_z}
use Rattle.smil_model.specs.declared.diary.Entry.{Entry}
use Rattle.smil_model.specs.document.Document.{serial_of, time_parent}
use Rattle.smil_model.specs.diary.Diary.{is_paused, last_moment}
use Rattle.smil_model.specs.diary.Clocks.{run, outer}
use Rattle.smil_diary.specs.Readings.{IsOf}
use Rattle.smil_element.specs.Element.{shift_of}
use Rattle.smil_past.specs.Past.{MarkedHistory, IsPresent, history_of}
use Rattle.smil_element.proofs.PresentMoment.{last_up_to}

-- the history has this diary and this time parent
pub reads : (past : MarkedHistory) (diary : List Entry) (who : ℕ) (parent : Option ℕ) → diary ≡ past.diary → parent ≡ serial_of (time_parent past.document.nodes who) → IsOf (history_of past) diary who parent
reads past diary who parent same is = record { diary_is = sym same; parent_is = sym is }

-- what is told of this moment, as it is passed
pub told_now : (past : MarkedHistory) (now : ℤ) → SFits w64 now → IsPresent past now → (P : ℤ → Type 0) → (last_moment past.diary ≤ℤ to_z w64 (of_z w64 now) → P (to_z w64 (of_z w64 now))) → P now
told_now past now fits is P told =
    let same = to_z-of_z w64 now fits in
    subst P same (told (subst (λ m. last_moment past.diary ≤ℤ m) (sym same) (last_up_to past now is)))

pub shifted : (past : MarkedHistory) (diary : List Entry) (who : ℕ) (now by o r : ℤ) (t : Bool) → diary ≡ past.diary → t ≡ is_paused diary who → t ≡ false → o ≡ outer (history_of past) who now → r ≡ run (history_of past) who now → by ≡ o -ℤ r → Some by ≡ shift_of (history_of past) who now
shifted past diary who now by o r t same told runs out own is =
    ap Some (is ∙ ap (λ v. v -ℤ r) out ∙ ap (λ v. outer (history_of past) who now -ℤ v) own)
    ∙ sym (ap (λ b. cond b None (Some (outer (history_of past) who now -ℤ run (history_of past) who now))) (ap (λ ds. is_paused ds who) (sym same) ∙ sym told ∙ runs))
