-- Which elements follow from which by an item that is not looped, or as the next in a seq: by
-- places, and by ranks.
use Rattle.std.proofs.Common.{◌≡◌, refl, sym, ◌∙◌, ap, ℕ, ◌<◌, ◌+◌, List, [], ◌∷◌, length, take, Bool, true, false, Option, Some, None, arith, inl, inr}
use Rattle.std.specs.Prelude.{cond, map, not, ◌==◌, ◌||◌, ◌&&◌, ◌⊎◌, filter, slice_get, slice_index, slice_index_or}
use Rattle.std.specs.List.{list_any}
use Rattle.std.proofs.lemmas.Bool.{or_cases, or_left, or_right, and_parts, eqb-true}
use Rattle.smil_model.specs.declared.document.Node.{Node}
use Rattle.smil_model.specs.declared.document.Item.{Item}
use Rattle.smil_model.specs.document.Closure.{has}
use Rattle.smil_model.specs.document.Defaults.{items_or}
use Rattle.smil_model.specs.document.Dependencies.{all_items, feeds, feeds_node, is_sync_with, leads_to}
use Rattle.smil_model.specs.document.Document.{element_named, elements, has_serial, is_element, node_at, previous_in_seq, serials, time_parent}
use Rattle.smil_model.specs.document.Valid.{IsDistinct}
use Rattle.smil_model.specs.reach.Reach.{is_option, reads, reads_node}
use Rattle.smil_laws.proofs.RoundsRest.{find-serial}
use Rattle.smil_graph.specs.Graph.{follows, follows_by_item, followers_of, has_rank}
use Rattle.smil_graph.specs.Links.{row, AreRows}
use Rattle.smil_graph.specs.Places.{at_place, element_follows_off_level, follows_from, follows_off_level, follows_place, leads_to_place, named_by, named_off_level, off_level, place_of, up, AreTimeChildren, IsIndex, IsTable}
use Rattle.smil_graph.specs.Tables.{is_rank_at, rank_of, row_of, serials_of_places, with_serial, AreElementLevels, AreFollowers, AreRanked}
use Rattle.smil_graph.proofs.DefinitionsByPlace.{all_any, has_at, sync_is}
use Rattle.smil_graph.proofs.GraphAnswers.{none_reads}
use Rattle.smil_graph.proofs.GraphTables.{guarded, low_in, named_low, past, place_is, row_map, serials_filter}
use Rattle.smil_graph.proofs.LinksAreDependencies.{element_one, feeds_is}
use Rattle.smil_graph.proofs.NodesByPlace.{none_each, there, there_below}
use Rattle.smil_graph.proofs.PlaceLists.{any_each}
use Rattle.smil_graph.proofs.RowsBuilt.{any_more_at}

-- ---- items that lead to another level

never_and : (b : Bool) → false ≡ (b && false)
never_and true = refl
never_and false = refl

always_and : (b : Bool) → b ≡ (b && true)
always_and true = refl
always_and false = refl

off_is : (levels : List ℕ) (i j : ℕ) (o : Option ℕ) → is_option i (off_level levels j o) ≡ (is_option i o && not (slice_index_or levels i 0 == slice_index_or levels j 0))
off_is levels i j None = refl
off_is levels i j (Some p) = by_place (i == p) refl
  where
    by_level : (t : Bool) → is_option i (cond t None (Some p)) ≡ ((i == p) && not t)
    by_level true = never_and (i == p)
    by_level false = always_and (i == p)

    by_place : (b : Bool) → i == p ≡ b → is_option i (cond (slice_index_or levels p 0 == slice_index_or levels j 0) None (Some p)) ≡ ((i == p) && not (slice_index_or levels i 0 == slice_index_or levels j 0))
    by_place true q =
        by_level (slice_index_or levels p 0 == slice_index_or levels j 0)
        ∙ ap (λ k. (i == p) && not (slice_index_or levels k 0 == slice_index_or levels j 0)) (sym (eqb-true i p q))
    by_place false q =
        by_level (slice_index_or levels p 0 == slice_index_or levels j 0)
        ∙ ap (λ b. b && not (slice_index_or levels p 0 == slice_index_or levels j 0)) q
        ∙ sym (ap (λ b. b && not (slice_index_or levels i 0 == slice_index_or levels j 0)) q)

any_and : (f : Item → Bool) (c : Bool) (items : List Item) → list_any (λ (item : Item). f item && c) items ≡ (list_any f items && c)
any_and f c [] = refl
any_and f c (item ∷ items) = ap (λ b. (f item && c) || b) (any_and f c items) ∙ apart (f item) (list_any f items) c
  where
    apart : (a b c : Bool) → ((a && c) || (b && c)) ≡ ((a || b) && c)
    apart true true true = refl
    apart true true false = refl
    apart true false true = refl
    apart true false false = refl
    apart false b c = refl

module _ (nodes : List Node) (distinct : IsDistinct nodes) (named : List ℕ → Option ℕ) (ids : IsIndex nodes (element_named nodes) named) (levels : List ℕ) (ranked : AreElementLevels nodes levels) (previous : List (Option ℕ)) (befores : IsTable nodes (λ n. previous_in_seq nodes n.serial) previous) where
  abbrev off : ℕ → ℕ → Bool
  off i j = not (slice_index_or levels i 0 == slice_index_or levels j 0)

  leads_off : (i j : ℕ) (items : List Item) → leads_to_place (named_off_level levels named j) items i ≡ (leads_to_place (named_by named) items i && off i j)
  leads_off i j items =
      any_each (λ (item : Item). is_option i (named_off_level levels named j item)) (λ (item : Item). is_option i (named_by named item) && off i j) items (λ item. off_is levels i j (named_by named item))
      ∙ any_and (λ (item : Item). is_option i (named_by named item)) (off i j) items

  joined : (p a b c : Bool) → ((p || (a && c)) || (b && c)) ≡ (p || ((a || b) && c))
  joined true a b c = refl
  joined false true true true = refl
  joined false true true false = refl
  joined false true false true = refl
  joined false true false false = refl
  joined false false b c = refl

  -- a reference leads to another level where it is not looped
  by_sync : (i j : ℕ) (x e : Node) → slice_get nodes i ≡ Some x → slice_get nodes j ≡ Some e → is_element e ≡ true → (s : Bool) → list_any (is_sync_with nodes x.serial) (all_items nodes e) ≡ s → (s && off i j) ≡ (s && not (leads_to nodes e.serial x.serial))
  by_sync i j x e a b is false q = refl
  by_sync i j x e a b is true q =
      let fed : feeds nodes x.serial e.serial ≡ true = feeds_is nodes distinct x.serial j e b ∙ ap (λ t. t && feeds_node nodes x.serial e) is ∙ or_right _ _ q in
      ap not (ranked.looped i j x e a b fed)

  follows_at : (i j : ℕ) (x e : Node) → slice_get nodes i ≡ Some x → slice_get nodes j ≡ Some e → is_element e ≡ true → follows_off_level levels named (up previous j) j e i ≡ follows_by_item nodes x.serial e
  follows_at i j x e a b is =
      let sync : list_any (is_sync_with nodes x.serial) (all_items nodes e) ≡ (leads_to_place (named_by named) (items_or [] e.attrs.begin) i || leads_to_place (named_by named) (items_or [] e.attrs.«end») i) =
      any_each (is_sync_with nodes x.serial) (λ (item : Item). is_option i (named_by named item)) (all_items nodes e) (sync_is nodes distinct named ids i x a) ∙ all_any nodes (λ (item : Item). is_option i (named_by named item)) refl refl e in
      ap (λ t. (is_option i (up previous j) || t) || leads_to_place (named_off_level levels named j) (items_or [] e.attrs.«end») i) (leads_off i j (items_or [] e.attrs.begin))
      ∙ ap (λ t. (is_option i (up previous j) || (leads_to_place (named_by named) (items_or [] e.attrs.begin) i && off i j)) || t) (leads_off i j (items_or [] e.attrs.«end»))
      ∙ joined (is_option i (up previous j)) (leads_to_place (named_by named) (items_or [] e.attrs.begin) i) (leads_to_place (named_by named) (items_or [] e.attrs.«end») i) (off i j)
      ∙ ap (λ t. is_option i (up previous j) || (t && off i j)) (sym sync)
      ∙ ap (λ t. t || (list_any (is_sync_with nodes x.serial) (all_items nodes e) && off i j)) (sym (ap (has_serial x.serial) (befores.node j e b) ∙ has_at nodes distinct i x (up previous j) a))
      ∙ ap (λ t. has_serial x.serial (previous_in_seq nodes e.serial) || t) (by_sync i j x e a b is (list_any (is_sync_with nodes x.serial) (all_items nodes e)) refl)

  off_low : (i j : ℕ) (item : Item) → is_option i (named_off_level levels named j item) ≡ true → i < length nodes
  off_low i j item q = named_low nodes distinct named ids i item (and_parts (is_option i (named_by named item)) (off i j) (sym (off_is levels i j (named_by named item)) ∙ q)).0

  follows_off_low : (i j : ℕ) (e : Node) → j < length nodes → follows_off_level levels named (up previous j) j e i ≡ true → i < length nodes
  follows_off_low i j e l q = by_end (or_cases _ _ q)
    where
      by_begin : (is_option i (up previous j) ≡ true) ⊎ (leads_to_place (named_off_level levels named j) (items_or [] e.attrs.begin) i ≡ true) → i < length nodes
      by_begin (inl t) = omega (arith, l, befores.before j i (place_is i (up previous j) t))
      by_begin (inr t) = low_in nodes distinct named ids (named_off_level levels named j) i (off_low i j) (items_or [] e.attrs.begin) t

      by_end : ((is_option i (up previous j) || leads_to_place (named_off_level levels named j) (items_or [] e.attrs.begin) i) ≡ true) ⊎ (leads_to_place (named_off_level levels named j) (items_or [] e.attrs.«end») i ≡ true) → i < length nodes
      by_end (inl t) = by_begin (or_cases _ _ t)
      by_end (inr t) = low_in nodes distinct named ids (named_off_level levels named j) i (off_low i j) (items_or [] e.attrs.«end») t

  element_at : (j i : ℕ) (e : Node) → slice_get nodes j ≡ Some e → (o : Option Node) → slice_get nodes i ≡ o → (is_element e && follows_off_level levels named (up previous j) j e i) ≡ follows_from nodes (Some e) o
  element_at j i e b (Some x) a = by_kind (is_element e) refl
    where
      by_kind : (t : Bool) → is_element e ≡ t → (t && follows_off_level levels named (up previous j) j e i) ≡ (t && follows_by_item nodes x.serial e)
      by_kind true is = follows_at i j x e a b is
      by_kind false is = refl
  element_at j i e b None a = guarded nodes distinct named ids (is_element e) (follows_off_level levels named (up previous j) j e i) (λ t. past nodes distinct named ids i a (follows_off_low i j e (there_below nodes j e b) (and_parts (is_element e) (follows_off_level levels named (up previous j) j e i) t).1))

  pub followed_is : (j i : ℕ) (e : Node) → slice_get nodes j ≡ Some e → element_follows_off_level levels named (up previous j) j (slice_get nodes j) i ≡ follows_place nodes j i
  followed_is j i e b =
      ap (λ z. element_follows_off_level levels named (up previous j) j z i) b
      ∙ element_at j i e b (slice_get nodes i) refl
      ∙ sym (ap (λ z. follows_from nodes z (slice_get nodes i)) b)

pub followed_row : (levels : List ℕ) (named : List ℕ → Option ℕ) (previous given : Option ℕ) (place : ℕ) (o : Option Node) (n : Node) (i : ℕ) (new empty : List ℕ) → empty ≡ [] → Some n ≡ o → given ≡ previous → has new i ≡ (has empty i || (is_element n && follows_off_level levels named given place n i)) → has new i ≡ element_follows_off_level levels named previous place o i
followed_row levels named previous given place o n i new empty none at same pushed =
    pushed
    ∙ ap (λ r. has r i || (is_element n && follows_off_level levels named given place n i)) none
    ∙ ap (λ p. is_element n && follows_off_level levels named p place n i) same
    ∙ ap (λ z. element_follows_off_level levels named previous place z i) at

-- ---- rows turned round

pub follows_low : (nodes : List Node) (j i : ℕ) → follows_place nodes j i ≡ true → i < length nodes
follows_low nodes j i e = by_node (slice_get nodes j) (slice_get nodes i) refl e
  where
    by_node : (y z : Option Node) → slice_get nodes i ≡ z → follows_from nodes y z ≡ true → i < length nodes
    by_node None z q t = cc
    by_node (Some y) None q t = cc
    by_node (Some y) (Some x) q t = there_below nodes i x q

-- ---- serials

-- the rows of the serials of the followers
abbrev HaveFollowers : List Node → List (List ℕ) → Type 0
HaveFollowers nodes rows = (i : ℕ) (x : Node) → slice_get nodes i ≡ Some x → row rows i ≡ followers_of nodes x.serial

serials_are : (nodes : List Node) → IsDistinct nodes → (heads : List (List ℕ)) → AreFollowers nodes heads → HaveFollowers nodes (map (serials_of_places nodes) heads)
serials_are nodes distinct heads are i x a =
    row_map (serials_of_places nodes) refl heads i
    ∙ ap (serials_of_places nodes) (are.each i (there_below nodes i x a))
    ∙ serials_filter nodes (λ j. follows_place nodes j i) (follows nodes x.serial) same
  where
    twice : (b t : Bool) → (b && t) ≡ (b && (b && t))
    twice true t = refl
    twice false t = refl

    same : (k : ℕ) (m : Node) → slice_get nodes k ≡ Some m → follows_place nodes k i ≡ (is_element m && follows nodes x.serial m.serial)
    same k m b =
        ap (λ z. follows_from nodes z (slice_get nodes i)) b
        ∙ ap (follows_from nodes (Some m)) a
        ∙ twice (is_element m) (follows_by_item nodes x.serial m)
        ∙ sym (ap (λ t. is_element m && t) (element_one nodes distinct (follows_by_item nodes x.serial) k m b))

-- who follows from an element reads it
follows_reads_node : (nodes : List Node) (x : ℕ) (e : Node) → follows_by_item nodes x e ≡ true → reads_node nodes x e ≡ true
follows_reads_node nodes x e q = or_left _ _ (by_case (or_cases _ _ q))
  where
    by_case : (has_serial x (previous_in_seq nodes e.serial) ≡ true) ⊎ ((list_any (is_sync_with nodes x) (all_items nodes e) && not (leads_to nodes e.serial x)) ≡ true) → feeds_node nodes x e ≡ true
    by_case (inl t) = or_left _ _ (or_right _ _ t)
    by_case (inr t) = or_right _ _ (and_parts (list_any (is_sync_with nodes x) (all_items nodes e)) (not (leads_to nodes e.serial x)) t).0

any_more : (f g : Node → Bool) → ((n : Node) → f n ≡ true → g n ≡ true) → (ns : List Node) → list_any f ns ≡ true → list_any g ns ≡ true
any_more f g more [] q = cc
any_more f g more (n ∷ ns) q = by_case (or_cases (f n) (list_any f ns) q) (any_more f g more ns)
  where
    by_case : (f n ≡ true) ⊎ (list_any f ns ≡ true) → (list_any f ns ≡ true → list_any g ns ≡ true) → list_any g (n ∷ ns) ≡ true
    by_case (inl t) later = or_left _ _ (more n t)
    by_case (inr t) later = or_right _ _ (later t)

both_parts : (a b c : Bool) → (b ≡ true → c ≡ true) → (a && b) ≡ true → (a && c) ≡ true
both_parts true b c more q = more q
both_parts false b c more q = q

pub follows_reads : (nodes : List Node) (x y : ℕ) → follows nodes x y ≡ true → reads nodes x y ≡ true
follows_reads nodes x y = any_more (λ (e : Node). (e.serial == y) && follows_by_item nodes x e) (λ (e : Node). (e.serial == y) && reads_node nodes x e) (λ e. both_parts (e.serial == y) (follows_by_item nodes x e) (reads_node nodes x e) (follows_reads_node nodes x e)) (elements nodes)

module _ (nodes : List Node) (distinct : IsDistinct nodes) (index : ℕ → Option ℕ) (all : IsIndex nodes (node_at nodes) index) (tps : List (Option ℕ)) (children : List (List ℕ)) (table : IsTable nodes (λ n. time_parent nodes n.serial) tps) (under : AreTimeChildren nodes tps children) where
  no_followers : (s : ℕ) → index s ≡ None → (ys : List ℕ) → filter (follows nodes s) ys ≡ []
  no_followers s q [] = refl
  no_followers s q (y ∷ ys) = ap (λ t. cond t (y ∷ filter (follows nodes s) ys) (filter (follows nodes s) ys)) (none_follows (follows nodes s y) refl) ∙ no_followers s q ys
    where
      none_follows : (t : Bool) → follows nodes s y ≡ t → follows nodes s y ≡ false
      none_follows false r = r
      none_follows true r =
          let never : false ≡ true = sym (none_reads nodes distinct index all tps children table under s (none_each s nodes (all.node s ∙ ap (at_place nodes) q)) y) ∙ follows_reads nodes s y r in
          absurd (cc)

  pub followers_answer : (heads : List (List ℕ)) → AreFollowers nodes heads → (s : ℕ) → row_of (map (serials_of_places nodes) heads) (index s) ≡ followers_of nodes s
  followers_answer heads are s = by_index (index s) refl
    where
      by_index : (o : Option ℕ) → index s ≡ o → row_of (map (serials_of_places nodes) heads) (index s) ≡ followers_of nodes s
      by_index None q = ap (row_of (map (serials_of_places nodes) heads)) q ∙ sym (no_followers s q (serials (elements nodes)))
      by_index (Some p) q =
          let m = there nodes p (all.below s p q) in
          ap (row_of (map (serials_of_places nodes) heads)) q ∙ serials_are nodes distinct heads are p m.0 m.1 ∙ ap (followers_of nodes) (find-serial s nodes m.0 (all.node s ∙ ap (at_place nodes) q ∙ m.1))

-- ---- ranks

rank_by_serial : (nodes : List Node) (order : List ℕ) (r : ℕ) (places : List ℕ) → is_rank_at nodes order places r ≡ list_any (has_rank order r) (serials_of_places nodes places)
rank_by_serial nodes order r [] = refl
rank_by_serial nodes order r (p ∷ places) = by_node (slice_get nodes p) (rank_by_serial nodes order r places)
  where
    by_node : (o : Option Node) → is_rank_at nodes order places r ≡ list_any (has_rank order r) (serials_of_places nodes places) → (is_option r (rank_of order o) || is_rank_at nodes order places r) ≡ list_any (has_rank order r) (with_serial o (serials_of_places nodes places))
    by_node None later = later
    by_node (Some n) later = ap (λ t. has_rank order r n.serial || t) later

row_of_map : (nodes : List Node) (rows : List (List ℕ)) (o : Option ℕ) → serials_of_places nodes (row_of rows o) ≡ row_of (map (serials_of_places nodes) rows) o
row_of_map nodes rows None = refl
row_of_map nodes rows (Some p) = sym (row_map (serials_of_places nodes) refl rows p)

-- ranks of what the rows are by serials
pub ranked_by : (nodes : List Node) (order : List ℕ) (rows : List (List ℕ)) (of : ℕ → List ℕ) → ((s : ℕ) → row_of (map (serials_of_places nodes) rows) (place_of nodes s) ≡ of s) → (ranked : List (List ℕ)) → AreRanked nodes order rows (length order) ranked → AreRows (length order) (λ rank r. list_any (has_rank order r) (of (slice_index order rank))) ranked
ranked_by nodes order rows of same ranked are = record {
  long = are.long;
  each = λ rank r l.
      are.each rank r l
      ∙ rank_by_serial nodes order r (row_of rows (place_of nodes (slice_index order rank)))
      ∙ ap (list_any (has_rank order r)) (row_of_map nodes rows (place_of nodes (slice_index order rank)) ∙ same (slice_index order rank));
}

-- one place more
pub ranks_more : (nodes : List Node) (order places : List ℕ) (k r : ℕ) (o : Option ℕ) (old mid new : Bool) → k < length places → o ≡ rank_of order (slice_get nodes (slice_index_or places k 0)) → mid ≡ (old || is_rank_at nodes order (take k places) r) → new ≡ (mid || is_option r o) → new ≡ (old || is_rank_at nodes order (take (k + 1) places) r)
ranks_more nodes order places k r o old mid new low is so pushed =
    any_more_at (λ p. is_option r (rank_of order (slice_get nodes p))) places k old mid new (is_option r o) low (ap (is_option r) is) so pushed
