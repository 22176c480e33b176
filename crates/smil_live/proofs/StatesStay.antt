-- Presentations that stay states: at a later moment, and with an entry at the present moment.
use Rattle.std.proofs.Common.{◌≡◌, refl, ◌∙◌, ap, ℕ, ◌≤◌, List, [], ◌∷◌, ◌++◌, true, ℤ, arith}
use Rattle.std.specs.Prelude.{pos, int_le, ◌≤ℤ◌}
use Rattle.std.specs.List.{list_all}
use Rattle.std.proofs.lemmas.Int.{ints}
use Rattle.std.proofs.lemmas.Bool.{and_from, and_parts}
use Rattle.smil_model.specs.declared.diary.LogEntry.{LogEntry}
use Rattle.smil_model.specs.declared.times.TheConstants.{HORIZON}
use Rattle.smil_model.specs.diary.Logs.{is_logged_by, may_happen, moments_rise}
use Rattle.smil_model.specs.shown.Orders.{IsState, Presentation, as_of}
use Rattle.smil_model.proofs.NumberOrders.{is_le}
use Rattle.smil_rounds.proofs.HeardLogEntries.{all_one}
use Rattle.smil_cells.proofs.CellsHeard.{from_first}
use Rattle.smil_live.proofs.LogParts.{log_parts}
use Rattle.smil_live.proofs.QuietViews.{logged_later}

-- at a later moment
pub state_moved : (p : Presentation) (n : ℕ) → IsState p → p.now ≤ n → pos n ≤ℤ HORIZON → IsState (as_of p n)
state_moved p n state from within = record {
  document = state.document;
  log = state.log;
  logged = logged_later p.now n p.log from state.logged;
  now = is_le (pos n) HORIZON within;
}

-- ---- with one more entry

rises_more : (from m : ℤ) (log : List LogEntry) (entry : LogEntry) → moments_rise from log ≡ true → is_logged_by m log ≡ true → int_le from m ≡ true → entry.moment ≡ m → moments_rise from (log ++ entry ∷ []) ≡ true
rises_more from m [] entry q l f e = and_from (int_le from entry.moment) true (ap (int_le from) e ∙ f) refl
rises_more from m (x ∷ xs) entry q l f e =
    and_from (int_le from x.moment) (moments_rise x.moment (xs ++ entry ∷ []))
    (and_parts (int_le from x.moment) (moments_rise x.moment xs) q).0
    (rises_more x.moment m xs entry (and_parts (int_le from x.moment) (moments_rise x.moment xs) q).1 (and_parts (int_le x.moment m) (is_logged_by m xs) l).1 (and_parts (int_le x.moment m) (is_logged_by m xs) l).0 e)

at_or_before : (x y : ℤ) → x ≡ y → int_le x y ≡ true
at_or_before x y e = grind (arith, ints)

-- with an entry at the present moment
pub state_logged : (p : Presentation) (entry : LogEntry) → IsState p → entry.moment ≡ pos p.now → may_happen entry.what ≡ true → IsState (record { document = p.document; log = p.log ++ entry ∷ []; now = p.now })
state_logged p entry state here may = record {
  document = state.document;
  log =
      and_from (moments_rise (pos 0) (p.log ++ entry ∷ [])) (list_all (λ (x : LogEntry). may_happen x.what) (p.log ++ entry ∷ []))
      (rises_more (pos 0) (pos p.now) p.log entry (log_parts p.log state.log).0 state.logged (from_first p.now) here)
      (all_one (λ (x : LogEntry). may_happen x.what) p.log entry (log_parts p.log state.log).1 may);
  logged = all_one (λ (x : LogEntry). int_le x.moment (pos p.now)) p.log entry state.logged (at_or_before entry.moment (pos p.now) here);
  now = state.now;
}
