-- What a graph keeps of a document it keeps of each one that is alike.
use Rattle.std.proofs.Common.{◌≡◌, refl, sym, ◌∙◌, ap, subst, ℕ, suc, List, [], ◌∷◌, length, Bool, true, false, Option, Some, None, arith}
use Rattle.std.specs.Prelude.{cond, ◌==◌, ◌&&◌, drop, filter, option_map, reverse, slice_get, slice_index, slice_index_or}
use Rattle.std.specs.List.{AllByRecursion, list_any, range_with_len}
use Rattle.std.specs.List.Sorted.{IsPermutation}
use Rattle.smil_model.specs.declared.document.Edge.{Edge}
use Rattle.smil_model.specs.declared.document.Edge.TheVariants.{Begin, End}
use Rattle.smil_model.specs.declared.document.Node.{Node}
use Rattle.smil_model.specs.document.Defaults.{items_of}
use Rattle.smil_model.specs.document.Document.{Document, elements, is_element, node_at, serials, time_parent, upwards}
use Rattle.smil_model.specs.document.Valid.{IsDistinct}
use Rattle.smil_model.specs.reach.Reach.{is_option}
use Rattle.smil_laws.proofs.AsideDocuments.{each_drop, each_reverse, find_each}
use Rattle.smil_tree.proofs.NodeFamilies.{node_of_place}
use Rattle.smil_graph.specs.declared.tables.Tables.{Tables}
use Rattle.smil_graph.specs.Graph.{follows_unlooped, followers_of, has_rank, is_looped_item, readers_of, IsGraphOrder}
use Rattle.smil_graph.specs.Places.{at_place, is_element_at, reads_place, up, IsTable, AreTimeChildren}
use Rattle.smil_graph.specs.Reduced.{all_reduced, reduced}
use Rattle.smil_graph.specs.Tables.{waits, AreFollowerRanks, AreHeads, AreMarks, AreReaderRanks, AreTables, AreWaiting}
use Rattle.smil_graph.proofs.AlikeDocuments.{count_reduced, element_at_reduced, element_serials_reduced, filter_each, followers_reduced, follows_reduced, get_reduced, is_element_at_reduced, mark_reduced, readers_reduced, reads_place_reduced, time_parent_reduced, waits_reduced}

each_from : (P : Node → Type 0) (ns : List Node) → ((p : ℕ) (n : Node) → slice_get ns p ≡ Some n → P n) → AllByRecursion P ns
each_from P [] f = tt
each_from P (n ∷ ns) f = (f 0 n refl, each_from P ns (λ p m q. f (suc p) m q))

each_upwards : (P : Node → Type 0) (rs : List Node) (s : ℕ) → AllByRecursion P rs → AllByRecursion P (upwards rs s)
each_upwards P [] s each = tt
each_upwards P (n ∷ before) s each = step (n.serial == s) (each_upwards P before n.parent each.1) (each_upwards P before s each.1)
  where
    step : (t : Bool) → AllByRecursion P (upwards before n.parent) → AllByRecursion P (upwards before s) → AllByRecursion P (cond t (n ∷ upwards before (cond t n.parent s)) (upwards before (cond t n.parent s)))
    step true above here = (each.0, above)
    step false above here = here

-- the node of a document, if there is one
abbrev IsKnown : List Node → Option Node → Type 0
IsKnown ns o = (n : Node) → o ≡ Some n → node_at ns n.serial ≡ Some n

known_place : (ns : List Node) → IsDistinct ns → (o : Option ℕ) → IsKnown ns (at_place ns o)
known_place ns distinct None n q = cc
known_place ns distinct (Some p) n q = node_of_place ns p n distinct q

known_parent : (ns : List Node) → IsDistinct ns → (s : ℕ) → IsKnown ns (time_parent ns s)
known_parent ns distinct s n q =
    find_each (λ (m : Node). node_at ns m.serial ≡ Some m) is_element (drop 1 (upwards (reverse ns) s)) n
    (each_drop (λ (m : Node). node_at ns m.serial ≡ Some m) 1 (upwards (reverse ns) s)
    (each_upwards (λ (m : Node). node_at ns m.serial ≡ Some m) (reverse ns) s
    (each_reverse (λ (m : Node). node_at ns m.serial ≡ Some m) ns (each_from (λ (m : Node). node_at ns m.serial ≡ Some m) ns (λ p m at. node_of_place ns p m distinct at)))))
    q

known_same : (ns : List Node) (a b : Option Node) → IsKnown ns a → IsKnown ns b → option_map reduced a ≡ option_map reduced b → a ≡ b
known_same ns None None k l e = refl
known_same ns None (Some m) k l e = cc
known_same ns (Some n) None k l e = cc
known_same ns (Some n) (Some m) k l e =
    let same : reduced n ≡ reduced m = cc in
    sym (k n refl) ∙ ap (λ (x : Node). node_at ns x.serial) same ∙ l m refl

-- what is the same of reduced nodes is the same of nodes that are alike
pub across : {A : Type 0} (f : List Node → A) → ((ns : List Node) → f (all_reduced ns) ≡ f ns) → (old new : List Node) → all_reduced old ≡ all_reduced new → f old ≡ f new
across f same old new alike = sym (same old) ∙ ap f alike ∙ same new

pub across_node : (f : List Node → Option Node) → ((ns : List Node) → f (all_reduced ns) ≡ option_map reduced (f ns)) → (old new : List Node) → all_reduced old ≡ all_reduced new → option_map reduced (f old) ≡ option_map reduced (f new)
across_node f same old new alike = sym (same old) ∙ ap f alike ∙ same new

-- a node that is the same in what a graph reads
pub twin : (a : Option Node) (m : Node) → option_map reduced a ≡ Some (reduced m) → (n : Node) × (a ≡ Some n) × (reduced n ≡ reduced m)
twin None m q = cc
twin (Some n) m q = let same : reduced n ≡ reduced m = cc in (n, refl, same)

module _ (old new : List Node) (alike : all_reduced old ≡ all_reduced new) where
  long : length old ≡ length new
  long = across length count_reduced old new alike

  twin_at : (p : ℕ) (m : Node) → slice_get new p ≡ Some m → (n : Node) × (slice_get old p ≡ Some n) × (reduced n ≡ reduced m)
  twin_at p m at = twin (slice_get old p) m (across_node (λ ns. slice_get ns p) (λ ns. get_reduced ns p) old new alike ∙ ap (option_map reduced) at)

  place_alike : (o : Option ℕ) → option_map reduced (at_place old o) ≡ option_map reduced (at_place new o)
  place_alike None = refl
  place_alike (Some p) = across_node (λ ns. slice_get ns p) (λ ns. get_reduced ns p) old new alike

  mark_alike : (side : Edge) (k : ℕ) (n m : Node) → reduced n ≡ reduced m → (is_element n && is_looped_item old n.serial (slice_get (items_of old side n) k)) ≡ (is_element m && is_looped_item new m.serial (slice_get (items_of new side m) k))
  mark_alike side k n m same =
      sym (mark_reduced old side k n)
      ∙ ap (λ ns. is_element (reduced n) && is_looped_item ns n.serial (slice_get (items_of ns side (reduced n)) k)) alike
      ∙ ap (λ (e : Node). is_element e && is_looped_item (all_reduced new) e.serial (slice_get (items_of (all_reduced new) side e) k)) same
      ∙ mark_reduced new side k m

  marks_alike : (side : Edge) (rows : List (List Bool)) → AreMarks old side rows → AreMarks new side rows
  marks_alike side rows are j k m at = let n = twin_at j m at in are j k n.0 n.1 ∙ mark_alike side k n.0 m n.2

  follows_alike : (x : ℕ) (n m : Node) → reduced n ≡ reduced m → follows_unlooped old x n ≡ follows_unlooped new x m
  follows_alike x n m same = sym (follows_reduced old x n) ∙ ap (λ ns. follows_unlooped ns x (reduced n)) alike ∙ ap (follows_unlooped (all_reduced new) x) same ∙ follows_reduced new x m

  order_alike : (order : List ℕ) → IsGraphOrder old order → IsGraphOrder new order
  order_alike order is = record {
    all = subst (λ all. IsPermutation all order) (across (λ ns. serials (elements ns)) element_serials_reduced old new alike) is.all;
    forward = λ m i j here a b at follows.
        let n = twin (node_at (elements old) m.serial) m (across_node (λ ns. node_at (elements ns) m.serial) (λ ns. element_at_reduced ns m.serial) old new alike ∙ ap (option_map reduced) here) in
        let serial : n.0.serial ≡ m.serial = ap (λ (x : Node). x.serial) n.2 in
        is.forward n.0 i j (ap (node_at (elements old)) serial ∙ n.1) a b (at ∙ sym serial) (follows_alike (slice_index_or order i 0) n.0 m n.2 ∙ follows);
  }

  module _ (distinct : IsDistinct new) where
    table_alike : (table : List (Option ℕ)) → IsTable old (λ n. time_parent old n.serial) table → IsTable new (λ n. time_parent new n.serial) table
    table_alike table is = record {
      count = is.count ∙ long;
      node = λ p m at.
          let n = twin_at p m at in
          let serial : n.0.serial ≡ m.serial = ap (λ (x : Node). x.serial) n.2 in
          known_same new (time_parent new m.serial) (at_place new (up table p)) (known_parent new distinct m.serial) (known_place new distinct (up table p))
          (sym (across_node (λ ns. time_parent ns m.serial) (λ ns. time_parent_reduced ns m.serial) old new alike) ∙ ap (option_map reduced) (ap (time_parent old) (sym serial) ∙ is.node p n.0 n.1) ∙ place_alike (up table p));
      before = is.before;
    }

  children_alike : (table : List (Option ℕ)) (rows : List (List ℕ)) → AreTimeChildren old table rows → AreTimeChildren new table rows
  children_alike table rows are q =
      are q
      ∙ ap (λ k. filter (λ p. is_element_at old p && is_option q (up table p)) (range_with_len 0 k)) long
      ∙ filter_each (λ p. is_element_at old p && is_option q (up table p)) (λ p. is_element_at new p && is_option q (up table p))
      (λ p. ap (λ b. b && is_option q (up table p)) (across (λ ns. is_element_at ns p) (λ ns. is_element_at_reduced ns p) old new alike)) (range_with_len 0 (length new))

  heads_alike : (rows : List (List ℕ)) → AreHeads old rows → AreHeads new rows
  heads_alike rows are = record {
    count = are.count ∙ long;
    each = λ i l.
        are.each i (omega (arith, l, long))
        ∙ ap (λ k. filter (λ j. reads_place old j i) (range_with_len 0 k)) long
        ∙ filter_each (λ j. reads_place old j i) (λ j. reads_place new j i) (λ j. across (λ ns. reads_place ns j i) (λ ns. reads_place_reduced ns j i) old new alike) (range_with_len 0 (length new));
  }

  reader_ranks_alike : (order : List ℕ) (rows : List (List ℕ)) → AreReaderRanks old order rows → AreReaderRanks new order rows
  reader_ranks_alike order rows are = record {
    long = are.long;
    each = λ rank r l. are.each rank r l ∙ ap (list_any (has_rank order r)) (across (λ ns. readers_of ns (slice_index order rank)) (λ ns. readers_reduced ns (slice_index order rank)) old new alike);
  }

  follower_ranks_alike : (order : List ℕ) (rows : List (List ℕ)) → AreFollowerRanks old order rows → AreFollowerRanks new order rows
  follower_ranks_alike order rows are = record {
    long = are.long;
    each = λ rank r l. are.each rank r l ∙ ap (list_any (has_rank order r)) (across (λ ns. followers_of ns (slice_index order rank)) (λ ns. followers_reduced ns (slice_index order rank)) old new alike);
  }

  waiting_alike : (rows : List (List ℕ)) → AreWaiting old rows → AreWaiting new rows
  waiting_alike rows are key place = are key place ∙ across (λ ns. waits ns key (slice_get ns place)) (λ ns. waits_reduced ns key place) old new alike

pub tables_alike : (old new : Document) → IsDistinct new.nodes → all_reduced old.nodes ≡ all_reduced new.nodes → (t : Tables) → AreTables old t → AreTables new t
tables_alike old new distinct alike t are = record {
  above = table_alike old.nodes new.nodes alike distinct t.time_parents.items are.above;
  count = are.count ∙ long old.nodes new.nodes alike;
  under = children_alike old.nodes new.nodes alike t.time_parents.items t.time_children.items are.under;
  begun = marks_alike old.nodes new.nodes alike Begin t.begins are.begun;
  ended = marks_alike old.nodes new.nodes alike End t.ends are.ended;
  headed = heads_alike old.nodes new.nodes alike t.heads.items are.headed;
  waiting = waiting_alike old.nodes new.nodes alike t.waiting.items are.waiting;
  ordered = order_alike old.nodes new.nodes alike t.order are.ordered;
  ranked = are.ranked;
  read_ranked = reader_ranks_alike old.nodes new.nodes alike t.order t.reader_ranks are.read_ranked;
  followed = follower_ranks_alike old.nodes new.nodes alike t.order t.follower_ranks are.followed;
}
