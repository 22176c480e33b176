-- What a table goes back to.
use Rattle.std.specs.Prelude.{◌≡◌, ℤ, List, Bool, true, false}
use Rattle.std.proofs.Common.{subst, sym}
use Rattle.smil_model.specs.diary.Diary.{History}
use Rattle.smil_model.specs.happening.Keys.{coming}
use Rattle.smil_laws.specs.Same.{IsSame}
use Rattle.smil_element.specs.Comings.{coming_stays}
use Rattle.smil_rounds.specs.declared.current_rows.CurrentRow.{CurrentRow}
use Rattle.smil_rounds.specs.Current.{AreCurrent, interval_in, stay_current}
use Rattle.smil_nodes.specs.declared.live.LiveTable.{LiveTable}
use Rattle.smil_nodes.specs.declared.undo.Note.{Note}
use Rattle.smil_nodes.specs.Endings.{KeptEnds, AreKnown, anyone, stay_known}
use Rattle.smil_nodes.specs.Schedule.{HaveNearKeys}
use Rattle.smil_nodes.specs.Undo.{Kept, all_back}

-- the rows are current, all ends are right by their intervals, and the keys of what comes are near
pub record IsUpToDate
    (rows : List CurrentRow) (kept : KeptEnds) (h : History) (now : ℤ) : Type 0 where
  pub rows_are : AreCurrent rows h now
  pub ends_are : AreKnown h (interval_in rows) anyone kept
  pub keys_are : HaveNearKeys (coming h now)

-- they are so by another history by which the same is
pub stay_up_to_date : (rows : List CurrentRow) (kept : KeptEnds) (h k : History) (m n : ℤ)
    → IsSame h m k n → IsUpToDate rows kept h m → IsUpToDate rows kept k n
stay_up_to_date rows kept h k m n same is = record {
  rows_are = stay_current rows h k m n same is.rows_are;
  ends_are = stay_known h k (interval_in rows) anyone kept same.nodes same.diary is.ends_are;
  keys_are = subst HaveNearKeys (sym (coming_stays h k m n same)) is.keys_are;
}

-- what `back` gives
abbrev pub back_from : List Note → List CurrentRow → KeptEnds → Kept
back_from notes rows ends = all_back (record { rows = rows; ends = ends }) notes

-- it is right where a mark stands
abbrev pub IsMarked : Bool → List Note → List CurrentRow → KeptEnds → History → ℤ → Type 0
IsMarked false notes rows ends h now = Unit {0}
IsMarked true notes rows ends h now =
    let kept = back_from notes rows ends in IsUpToDate kept.rows kept.ends h now

-- where a mark stands, `back` gives the same as before
abbrev pub GoesBack : LiveTable → LiveTable → Type 0
GoesBack old new =
    old.has_mark ≡ true
    → back_from new.undo new.schedule new.endings ≡ back_from old.undo old.schedule old.endings
