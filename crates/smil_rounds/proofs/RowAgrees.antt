-- The row of an element stays right while the intervals that feed it without a loop stay.
use Rattle.std.proofs.Common.{◌≡◌, refl, ◌∙◌, ap, ℕ, ◌<◌, ◌≤◌, List, length, Option, Some, ℤ, Bool, true, false, get_or, arith}
use Rattle.std.specs.Prelude.{◌==◌}
use Rattle.std.proofs.lemmas.Bool.{or_left, or_right, and_from, eq-eqb, eqb-true, not_from_false}
use Rattle.smil_model.specs.declared.interval.Interval.{Interval}
use Rattle.smil_model.specs.declared.document.Node.{Node}
use Rattle.smil_model.specs.declared.document.Kind.TheVariants as kind
use Rattle.smil_model.specs.document.Document.{elements, node_at, has_serial}
use Rattle.smil_model.specs.diary.Diary.{History}
use Rattle.smil_model.specs.happening.Keys.{coming_by}
use Rattle.smil_laws.proofs.IntervalLocality.{AgreeFor, same_interval, same_simple}
use Rattle.smil_graph.specs.Graph.{follows_unlooped, IsGraphOrder}
use Rattle.smil_rounds.specs.declared.current_rows.CurrentRow.{CurrentRow}
use Rattle.smil_rounds.specs.Round.{IsRowOf}

module _ (h : History) (J K : ℕ → Option Interval) (now : ℤ) (e : Node) where
  pub row_stays : (place : ℕ) (row : CurrentRow) → AgreeFor h J K e → IsRowOf h J now place e row → IsRowOf h K now place e row
  row_stays place row agree is = record {
    serial = is.serial;
    interval = is.interval ∙ same_interval h J K now e agree;
    comings = is.comings ∙ ap (λ simple. coming_by h row.interval simple now place e) (same_simple h J K now e agree);
  }

  -- an element that stands in the order where another stands or before it does not follow from that one without a loop
  pub agree_by_order : (order : List ℕ) (i j : ℕ) → IsGraphOrder h.nodes order → node_at (elements h.nodes) e.serial ≡ Some e → i < length order → j ≤ i → get_or order j 0 ≡ e.serial → ((x : ℕ) → get_or order i 0 == x ≡ false → J x ≡ K x) → AgreeFor h J K e
  agree_by_order order i j is here lt before at others = record {
    children = λ s t q. apart s (or_left _ _ (or_left _ _ (and_from _ _ t q)));
    before = λ b q. apart b.serial (or_left _ _ (or_right _ _ (ap (has_serial b.serial) q ∙ eq-eqb b.serial b.serial refl)));
    named = λ x t c. apart x (or_right _ _ (and_from _ _ t (not_from_false _ c)));
  }
    where
      apart : (x : ℕ) → follows_unlooped h.nodes x e ≡ true → J x ≡ K x
      apart x follows = by_test (get_or order i 0 == x) refl
        where
          by_test : (t : Bool) → get_or order i 0 == x ≡ t → J x ≡ K x
          by_test false q = others x q
          by_test true q =
              let same : get_or order i 0 ≡ x = eqb-true (get_or order i 0) x q in
              let less : i < j = is.forward e i j here lt (omega (arith, lt, before)) at (ap (λ y. follows_unlooped h.nodes y e) same ∙ follows) in
              absurd (omega (arith, less, before))
