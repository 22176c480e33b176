-- The elements at the places that are put in while a table is refreshed.
use Rattle.std.proofs.Common.{◌≡◌, sym, ap, subst, ℕ, ℤ, List, true, false}
use Rattle.std.specs.Prelude.{is_some}
use Rattle.smil_model.specs.document.Document.{Document, elements, node_at}
use Rattle.smil_model.specs.document.Closure.{has}
use Rattle.smil_model.specs.interval.Current.{current_interval}
use Rattle.smil_instances.proofs.IdTargets.{known_node}
use Rattle.smil_past.specs.Past as past_of
use Rattle.smil_past.specs.Past.{MarkedHistory}
use Rattle.smil_cells.specs.CellsState.{CellsState, IsPassed}
use Rattle.smil_cells.specs.Shown.{ArePut, StayIn, elements_at, touched_at}
use Rattle.smil_cells.proofs.CellsGrown.{StayBefore, StayListed}
use Rattle.smil_cells.proofs.SettlingSteps.{untouched}
use Rattle.smil_cells.proofs.ElementsByPlace.{stands_there, still_stands}

-- a history whose document is the same as before
module _ (document : Document) (new : MarkedHistory) (same : new.document ≡ document) where
  pub stay_listed : (before mid : List ℕ) → StayIn before mid → StayListed (elements_at document.nodes before) (elements_at new.document.nodes mid) new
  stay_listed before mid more e here q =
      still_stands new.document.nodes before mid more e.serial
      (subst (λ (d : Document). has (elements_at d.nodes before) e.serial ≡ true) (sym same) q)

-- the elements that a table tells as changed are put in
pub stay_before : (z : ℤ) (start : ℕ) (changed after : List ℕ) (new : MarkedHistory) (tree : Document) → tree ≡ new.document → ArePut tree.nodes changed after
    → ((s : ℕ) → has changed s ≡ false → current_interval (past_of.history_of new) z s ≡ current_interval (past_of.front new start) z s)
    → StayBefore z start (elements_at new.document.nodes after) new
stay_before z start changed after new tree is put stay e here free =
    stay e.serial (untouched (has changed e.serial) (has (elements_at new.document.nodes after) e.serial) free in_it)
  where
    known : is_some (node_at (elements new.document.nodes) e.serial) ≡ true
    known = ap (λ o. is_some o) here

    in_it : has changed e.serial ≡ true → has (elements_at new.document.nodes after) e.serial ≡ true
    in_it h =
        stands_there new.document.nodes after e.serial known
        (subst (λ (d : Document). ArePut d.nodes changed after) is put e.serial h (known_node new.document.nodes e.serial known))

-- time that passes leaves the elements at the places
pub passed_at : (s t : CellsState) (places : List ℕ) → IsPassed s t → IsPassed (touched_at s places) (touched_at t places)
passed_at s t places passed = record {
  presentation_is = passed.presentation_is;
  from = passed.from;
  diary_is = passed.diary_is;
  sound = passed.sound;
  marked = passed.marked;
  touched_is = ap (λ p. elements_at p.document.nodes places) passed.presentation_is;
  same = passed.same;
}
