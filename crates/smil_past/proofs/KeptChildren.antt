-- Whether one of the time children of a node freezes, one child after another.
use Rattle.std.proofs.Common.{◌≡◌, sym, ◌∙◌, ap, ℕ, ◌+◌, ◌<◌, List, Some, Bool, true, false, length, get_or, take}
use Rattle.std.specs.Prelude.{◌||◌, slice_get}
use Rattle.std.specs.List.{list_any}
use Rattle.std.proofs.lemmas.Bool.{or_from}
use Rattle.std.proofs.lemmas.List.Folds.{list_any_at, list_any_more}
use Rattle.std.proofs.lemmas.Option.{get_or_from_slice_get, slice_get_within}
use Rattle.smil_model.specs.declared.document.Node.{Node}
use Rattle.smil_model.specs.document.Document.{Document, is_time_child, node_at, serials, time_children}
use Rattle.smil_model.specs.document.Valid.{IsNumberedTree}
use Rattle.smil_laws.proofs.Lists.{each_at, each_kept}
use Rattle.smil_tree.proofs.NodeSpans.{all_known}
use Rattle.smil_instances.proofs.EmptyRows.{IsAt, at_place}

-- a time child at its place, by its serial
pub record IsTimeChild (nodes : List Node) (who k child : ℕ) : Type 0 where
  pub node : Node
  pub at : slice_get (time_children nodes who) k ≡ Some node
  pub known : node_at nodes child ≡ Some node

pub time_child : (document : Document) → IsNumberedTree document → (who k : ℕ) (whos : List ℕ) → whos ≡ serials (time_children document.nodes who) → k < length whos → IsTimeChild document.nodes who k (get_or whos k 0)
time_child document numbered who k whos are inside =
    let nodes = document.nodes in
    let here : IsAt (time_children nodes who) k (get_or whos k 0) = at_place (time_children nodes who) whos k are inside in
    let known = each_kept (λ (m : Node). node_at nodes m.serial ≡ Some m) (is_time_child nodes who) nodes (all_known nodes document.next numbered) in
    record {
      node = here.node;
      at = here.at;
      known = ap (node_at nodes) here.serial ∙ each_at (λ (m : Node). node_at nodes m.serial ≡ Some m) (time_children nodes who) k here.node known here.at;
    }

module _ (test : Node → Bool) (ns : List Node) (k : ℕ) (n : Node) (at : slice_get ns k ≡ Some n) where
  pub none_more : list_any test (take k ns) ≡ false → test n ≡ false → list_any test (take (k + 1) ns) ≡ false
  none_more none fails =
      list_any_more test ns k n (slice_get_within ns k n at)
      ∙ ap (λ (m : Node). list_any test (take k ns) || test m) (get_or_from_slice_get ns k n n at)
      ∙ or_from _ _ none fails

  pub one_found : test n ≡ true → list_any test ns ≡ true
  one_found passes = list_any_at test ns k n (slice_get_within ns k n at) (ap test (get_or_from_slice_get ns k n n at) ∙ passes)
