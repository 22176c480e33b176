-- The last entry of a diary: its place, its moment, and the clocks before it.
use Rattle.std.proofs.Common.{◌≡◌, sym, ◌∙◌, ap, subst, ℕ, ◌-◌, List, [], ◌∷◌, ◌++◌, length, arith, length-append}
use Rattle.std.specs.Prelude.{pos}
use Rattle.smil_model.specs.declared.diary.Entry.{Entry}
use Rattle.smil_model.specs.declared.diary.LogEntry.{LogEntry}
use Rattle.smil_model.specs.document.Document.{Document}
use Rattle.smil_model.specs.diary.Diary.{History, last_moment}
use Rattle.smil_stretch.specs.declared.clock.NodeClock.{NodeClock}
use Rattle.smil_model.specs.Times.{IsMoment}
use Rattle.smil_model.proofs.NumberOrders.{le_from}
use Rattle.smil_stretch.proofs.ClockAtMoment.{rising_push}
use Rattle.smil_stretch.proofs.PauseTurns.{entry_moment}
use Rattle.smil_instances.specs.Entry.{IsEntryOf}
use Rattle.smil_instances.specs.Contribution.{AreClocksAt}

pub last_place : (front : List Entry) (y : Entry) → length (front ++ y ∷ []) - 1 ≡ length front
last_place front y = omega (arith, length-append front (y ∷ []))

module _ (document : Document) (clocks : List NodeClock) (log : List LogEntry) (diary : List Entry) (h : History) (y : Entry) (is : IsEntryOf h y document clocks log diary) where
  -- the place of the entry
  pub place_is : length diary - 1 ≡ length h.diary
  place_is = ap (λ (d : List Entry). length d - 1) is.same_diary ∙ last_place h.diary y

  pub clocks_at : AreClocksAt h clocks y.moment
  clocks_at = record { known = is.known; after = le_from (last_moment h.diary) y.moment (rising_push (pos 0) h.diary y is.lawful.moments).1 }

  pub moment_is : IsMoment y.moment
  moment_is = entry_moment h y is.lawful

  pub place_read : (len : ℕ) → len ≡ length diary → len - 1 ≡ length h.diary
  place_read len at = ap (λ n. n - 1) at ∙ place_is

  pub clocks_read : (z : Entry) → z ≡ y → AreClocksAt h clocks z.moment
  clocks_read z same = subst (λ (w : Entry). AreClocksAt h clocks w.moment) (sym same) clocks_at
