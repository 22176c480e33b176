-- The rounds of a document whose parents stand before their children: they rest, and intervals that agree are theirs.
use Rattle.std.proofs.Common.{◌≡◌, refl, sym, ◌∙◌, ap, ℕ, suc, zero, ◌+◌, List, [], ◌∷◌, length, Option, Some, None, Bool, true, false, ℤ, arith}
use Rattle.std.specs.Prelude.{reverse, option_and_then, cond}
use Rattle.std.proofs.lemmas.Bool.{or_parts}
use Rattle.smil_model.specs.declared.document.Node.{Node}
use Rattle.smil_model.specs.declared.interval.Interval.{Interval}
use Rattle.smil_laws.specs.Locality.{ParentsBefore}
use Rattle.smil_model.specs.document.Document.{elements, node_at, serials}
use Rattle.smil_model.specs.document.Closure.{has}
use Rattle.smil_model.specs.diary.Diary.{History}
use Rattle.smil_model.specs.interval.Current.{interval_given, table, in_table, current_interval}
use Rattle.smil_laws.proofs.RoundsRest.{after_rounds, after_rounds-suc, all_rest, rests, agrees}
use Rattle.smil_laws.specs.Rounds.{IsRank}
use Rattle.smil_laws.proofs.DependencyRanks.{rank, rank_below, rank_le, is_ranked, serials_length}

module _ (h : History) (first : ParentsBefore (reverse h.nodes)) (now : ℤ) where
  -- rounds past the number of elements change nothing
  pub rounds_rest : (j s : ℕ) → has (serials (elements h.nodes)) s ≡ true → current_interval h now s ≡ after_rounds h now (length (elements h.nodes) + j) s
  rounds_rest j s i =
      all_rest h now (rank h.nodes first) (is_ranked h.nodes first) (length (elements h.nodes)) j s
      (omega (arith, rank_below h.nodes first s i, serials_length (elements h.nodes)))

  -- intervals each of which is the one that the others give are the current ones
  pub agreeing : (J : ℕ → Option Interval) → ((s : ℕ) → J s ≡ option_and_then (interval_given h J now) (node_at (elements h.nodes) s)) → (s : ℕ) → has (serials (elements h.nodes)) s ≡ true → J s ≡ current_interval h now s
  agreeing J fixed s i =
      agrees h now (rank h.nodes first) (is_ranked h.nodes first) (suc (length (elements h.nodes)))
      (λ x. omega (arith, rank_le h.nodes first x, serials_length (elements h.nodes))) J fixed (suc (length (elements h.nodes))) s
      (omega (arith, rank_le h.nodes first s, serials_length (elements h.nodes)))
      ∙ sym (rests h now (rank h.nodes first) (is_ranked h.nodes first) (length (elements h.nodes)) s (omega (arith, rank_below h.nodes first s i, serials_length (elements h.nodes))))

-- ---- also for serials that no element has

not_found : (s : ℕ) (ns : List Node) → has (serials ns) s ≡ false → node_at ns s ≡ None
not_found s [] q = refl
not_found s (n ∷ ns) q =
    let parts = or_parts _ _ q in
    ap (λ t. cond t (Some n) (node_at ns s)) parts.0 ∙ not_found s ns parts.1

none_beyond : (h : History) (now : ℤ) (s : ℕ) → has (serials (elements h.nodes)) s ≡ false → (k : ℕ) → after_rounds h now k s ≡ None
none_beyond h now s q zero = refl
none_beyond h now s q (suc k) =
    after_rounds-suc h now k s ∙ ap (option_and_then (interval_given h (after_rounds h now k) now)) (not_found s (elements h.nodes) q)

by_element : {P : Type 0} (t : Bool) → (t ≡ true → P) → (t ≡ false → P) → P
by_element true f g = f refl
by_element false f g = g refl

-- the laws
pub come_to_rest : (h : History) (now : ℤ) (more s : ℕ) → ParentsBefore (reverse h.nodes) → in_table (table h now (length (elements h.nodes) + more)) s ≡ current_interval h now s
come_to_rest h now more s first =
    by_element (has (serials (elements h.nodes)) s) (λ i. sym (rounds_rest h first now more s i))
    (λ q. none_beyond h now s q (length (elements h.nodes) + more) ∙ sym (none_beyond h now s q (length (elements h.nodes))))

pub agreeing_all : (h : History) (now : ℤ) (J : ℕ → Option Interval) → ParentsBefore (reverse h.nodes) → ((s : ℕ) → J s ≡ option_and_then (interval_given h J now) (node_at (elements h.nodes) s)) → (s : ℕ) → J s ≡ current_interval h now s
agreeing_all h now J first fixed s =
    by_element (has (serials (elements h.nodes)) s) (λ i. agreeing h first now J fixed s i)
    (λ q. fixed s ∙ ap (option_and_then (interval_given h J now)) (not_found s (elements h.nodes) q) ∙ sym (none_beyond h now s q (length (elements h.nodes))))

pub has_rank : (nodes : List Node) → ParentsBefore (reverse nodes) → (r : ℕ → ℕ) × ((e : Node) → node_at (elements nodes) e.serial ≡ Some e → IsRank nodes r e)
has_rank nodes first = (rank nodes first, is_ranked nodes first)
