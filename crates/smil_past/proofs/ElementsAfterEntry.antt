-- What is kept of all elements after one entry more.
use Rattle.std.proofs.Common.{◌≡◌, refl, sym, ◌∙◌, ap, subst, ℕ, List, [], ◌∷◌, Option, Some, None, true, false}
use Rattle.std.specs.Prelude.{cond, ◌==◌, map, option_map, is_some}
use Rattle.smil_model.specs.declared.diary.Entry.{Entry}
use Rattle.smil_model.specs.declared.diary.LogEntry.{LogEntry}
use Rattle.smil_model.specs.declared.document.Node.{Node}
use Rattle.smil_model.specs.document.Document.{Document, elements, node_at, time_parent}
use Rattle.smil_model.specs.diary.Diary.{History, with_entry}
use Rattle.smil_laws.proofs.DescendantOrder.{below_none, parent_apart}
use Rattle.smil_laws.proofs.NumberedTrees.{ordered}
use Rattle.smil_stretch.specs.declared.clock.NodeClock.{NodeClock}
use Rattle.smil_past.specs.declared.plays.facts.PlayFacts.{PlayFacts}
use Rattle.smil_past.specs.Played.{played, all_played}
use Rattle.smil_past.specs.Rows.{row_of, keys_of, IsOwnTaken, AreChildrenTaken}
use Rattle.smil_past.specs.Followed.{own_after, child_step, IsEntryAfter}
use Rattle.smil_past.proofs.PlayRows.{row_map, row_of_found, found_any, rows_are}
use Rattle.smil_past.proofs.ElementAfterEntry.{played_with}

keys_map : (f : ℕ → PlayFacts) (ns : List Node) → keys_of (map (λ (e : Node). (e.serial, f e.serial)) ns) ≡ map (λ (n : Node). n.serial) ns
keys_map f [] = refl
keys_map f (n ∷ ns) = ap (λ ks. n.serial ∷ ks) (keys_map f ns)

abbrev find_in : List Node → ℕ → Option Node
find_in ns s = node_at (elements ns) s

abbrev find_node : History → ℕ → Option Node
find_node h s = find_in h.nodes s

-- what is kept of an element of the document
pub row_known : (h : History) (s : ℕ) → is_some (find_node h s) ≡ true → row_of (all_played h) s ≡ Some (played h s)
row_known h s q = row_map (played h) (elements h.nodes) s ∙ ap (λ t. cond t (Some (played h s)) None) (sym (found_any s (elements h.nodes)) ∙ q)

pub row_is : (h : History) (s : ℕ) → row_of (all_played h) s ≡ option_map (λ (e : Node). played h e.serial) (node_at (elements h.nodes) s)
row_is h s = row_of_found (played h) (elements h.nodes) s

module _ (h : History) (y : Entry) (document : Document) (clocks : List NodeClock) (log : List LogEntry) (is : IsEntryAfter h y document clocks log) where
  abbrev tree : Document
  tree = record { nodes = h.nodes; next = is.known.next }

  apart : (s : ℕ) (p : Node) → time_parent h.nodes s ≡ Some p → p.serial == s ≡ false
  apart s p q = (parent_apart h.nodes (ordered tree is.known.document) s s p (below_none h.nodes (ordered tree is.known.document) s) q).0

  pub taken : (old mid new : List (ℕ × PlayFacts)) → old ≡ all_played h → IsOwnTaken h y old mid → AreChildrenTaken document.nodes y.step mid new → new ≡ all_played (with_entry h y)
  taken old mid new before own children =
      rows_are (played (with_entry h y)) h.nodes new is.known.document.distinct
      (children.same_keys ∙ own.same_keys ∙ ap keys_of before ∙ keys_map (played h) (elements h.nodes))
      (λ s among.
      let known : is_some (find_node h s) ≡ true = found_any s (elements h.nodes) ∙ among in
      subst (λ ns. (q : is_some (find_in ns s) ≡ true) → row_of new s ≡ option_map (child_step ns y.step s) (row_of mid s)) (sym is.same_nodes) (children.rows s) known
      ∙ ap (option_map (child_step h.nodes y.step s)) (own.rows s ∙ ap (λ rows. option_map (own_after h y s) (row_of rows s)) before ∙ ap (option_map (own_after h y s)) (row_known h s known))
      ∙ ap Some (sym (played_with h y s is.lawful (apart s) is.few)))
