-- Documents that are the same in what a graph reads of them have the same dependencies.
use Rattle.std.proofs.Common.{◌≡◌, refl, sym, ◌∙◌, ap, ℕ, suc, zero, List, [], ◌∷◌, ◌++◌, length, Bool, true, false, Option, Some, None}
use Rattle.std.specs.Prelude.{cond, not, pos, ◌==◌, ◌&&◌, ◌||◌, drop, filter, find, option_map, reverse, slice_get}
use Rattle.std.specs.List.{list_any}
use Rattle.std.proofs.lemmas.List.{reverse-append}
use Rattle.smil_model.specs.declared.document.Dur.TheVariants as dur
use Rattle.smil_model.specs.declared.document.Edge.{Edge}
use Rattle.smil_model.specs.declared.document.Edge.TheVariants.{Begin, End}
use Rattle.smil_model.specs.declared.document.Item.{Item}
use Rattle.smil_model.specs.declared.document.Item.TheVariants.{Offset, Sync, Event, Repeat, Key, Indefinite}
use Rattle.smil_model.specs.declared.document.Kind.{Kind}
use Rattle.smil_model.specs.declared.document.Node.{Node}
use Rattle.smil_model.specs.document.Closure.{closure, has, round, rounds}
use Rattle.smil_model.specs.document.Defaults.{begin_list, end_list, items_of, items_or, takes_implicit}
use Rattle.smil_model.specs.document.Dependencies.{all_items, feeds, feeds_node, has_implicit_duration, is_looped, is_looped_to, is_sync_with, leads_to}
use Rattle.smil_model.specs.document.Document.{ancestors, element_named, elements, has_id, has_kind, has_serial, is_element, is_excl_kind, is_in_excl, is_seq_kind, is_time_child, just_before, node_at, previous_child, previous_in_seq, serial_of, serials, target, time_children, time_parent, upwards}
use Rattle.smil_model.specs.reach.Reach.{is_event_of, is_key_item, is_option, reads, reads_node}
use Rattle.smil_graph.specs.Graph.{follows, follows_by_item, follows_unlooped, followers_of, is_looped_item, readers_of}
use Rattle.smil_graph.specs.Places.{has_element, is_element_at, reads_from, reads_place}
use Rattle.smil_graph.specs.Reduced.{all_reduced, reduced, reduced_attrs, reduced_item, reduced_items}
use Rattle.smil_graph.specs.Tables.{waits}

-- ---- lists

find_reduced : (t u : Node → Bool) → ((n : Node) → t (reduced n) ≡ u n) → (ns : List Node) → find t (all_reduced ns) ≡ option_map reduced (find u ns)
find_reduced t u same [] = refl
find_reduced t u same (n ∷ ns) = ap (λ b. cond b (Some (reduced n)) (find t (all_reduced ns))) (same n) ∙ step (u n) (find_reduced t u same ns)
  where
    step : (b : Bool) → find t (all_reduced ns) ≡ option_map reduced (find u ns) → cond b (Some (reduced n)) (find t (all_reduced ns)) ≡ option_map reduced (cond b (Some n) (find u ns))
    step true q = refl
    step false q = q

filter_reduced : (t u : Node → Bool) → ((n : Node) → t (reduced n) ≡ u n) → (ns : List Node) → filter t (all_reduced ns) ≡ all_reduced (filter u ns)
filter_reduced t u same [] = refl
filter_reduced t u same (n ∷ ns) = ap (λ b. cond b (reduced n ∷ filter t (all_reduced ns)) (filter t (all_reduced ns))) (same n) ∙ step (u n) (filter_reduced t u same ns)
  where
    step : (b : Bool) → filter t (all_reduced ns) ≡ all_reduced (filter u ns) → cond b (reduced n ∷ filter t (all_reduced ns)) (filter t (all_reduced ns)) ≡ all_reduced (cond b (n ∷ filter u ns) (filter u ns))
    step true q = ap (λ xs. reduced n ∷ xs) q
    step false q = q

any_reduced : (t u : Node → Bool) → ((n : Node) → t (reduced n) ≡ u n) → (ns : List Node) → list_any t (all_reduced ns) ≡ list_any u ns
any_reduced t u same [] = refl
any_reduced t u same (n ∷ ns) = ap (λ b. b || list_any t (all_reduced ns)) (same n) ∙ ap (λ b. u n || b) (any_reduced t u same ns)

append_reduced : (ns ms : List Node) → all_reduced (ns ++ ms) ≡ all_reduced ns ++ all_reduced ms
append_reduced [] ms = refl
append_reduced (n ∷ ns) ms = ap (λ xs. reduced n ∷ xs) (append_reduced ns ms)

reverse_reduced : (ns : List Node) → reverse (all_reduced ns) ≡ all_reduced (reverse ns)
reverse_reduced [] = refl
reverse_reduced (n ∷ ns) =
    reverse-append (reduced n ∷ []) (all_reduced ns) ∙ ap (λ xs. xs ++ reduced n ∷ []) (reverse_reduced ns) ∙ sym (append_reduced (reverse ns) (n ∷ [])) ∙ sym (ap all_reduced (reverse-append (n ∷ []) ns))

drop_reduced : (ns : List Node) → drop 1 (all_reduced ns) ≡ all_reduced (drop 1 ns)
drop_reduced [] = refl
drop_reduced (n ∷ ns) = refl

pub count_reduced : (ns : List Node) → length (all_reduced ns) ≡ length ns
count_reduced [] = refl
count_reduced (n ∷ ns) = ap suc (count_reduced ns)

pub get_reduced : (ns : List Node) (k : ℕ) → slice_get (all_reduced ns) k ≡ option_map reduced (slice_get ns k)
get_reduced [] k = refl
get_reduced (n ∷ ns) zero = refl
get_reduced (n ∷ ns) (suc k) = get_reduced ns k

serials_reduced : (ns : List Node) → serials (all_reduced ns) ≡ serials ns
serials_reduced [] = refl
serials_reduced (n ∷ ns) = ap (λ xs. n.serial ∷ xs) (serials_reduced ns)

pub filter_each : (f g : ℕ → Bool) → ((x : ℕ) → f x ≡ g x) → (xs : List ℕ) → filter f xs ≡ filter g xs
filter_each f g same [] = refl
filter_each f g same (x ∷ xs) = ap (λ b. cond b (x ∷ filter f xs) (filter f xs)) (same x) ∙ ap (λ ys. cond (g x) (x ∷ ys) ys) (filter_each f g same xs)

any_each : (f g : ℕ → Bool) → ((x : ℕ) → f x ≡ g x) → (xs : List ℕ) → list_any f xs ≡ list_any g xs
any_each f g same [] = refl
any_each f g same (x ∷ xs) = ap (λ b. b || list_any f xs) (same x) ∙ ap (λ b. g x || b) (any_each f g same xs)

rounds_each : (f g : ℕ → ℕ → Bool) → ((x y : ℕ) → f x y ≡ g x y) → (all set : List ℕ) (k : ℕ) → rounds f all k set ≡ rounds g all k set
rounds_each f g same all set zero = refl
rounds_each f g same all set (suc k) =
    ap (round f all) (rounds_each f g same all set k)
    ∙ filter_each (λ y. has (rounds g all k set) y || list_any (λ x. f x y) (rounds g all k set)) (λ y. has (rounds g all k set) y || list_any (λ x. g x y) (rounds g all k set))
    (λ y. ap (λ b. has (rounds g all k set) y || b) (any_each (λ x. f x y) (λ x. g x y) (λ x. same x y) (rounds g all k set))) all

closure_each : (f g : ℕ → ℕ → Bool) → ((x y : ℕ) → f x y ≡ g x y) → (all set : List ℕ) → closure f all set ≡ closure g all set
closure_each f g same all set = rounds_each f g same all set (suc (length all))

-- ---- items

any_items : (f g : Item → Bool) → ((item : Item) → f (reduced_item item) ≡ g item) → (items : List Item) → list_any f (reduced_items items) ≡ list_any g items
any_items f g same [] = refl
any_items f g same (item ∷ items) = ap (λ b. b || list_any f (reduced_items items)) (same item) ∙ ap (λ b. g item || b) (any_items f g same items)

append_items : (xs ys : List Item) → reduced_items (xs ++ ys) ≡ reduced_items xs ++ reduced_items ys
append_items [] ys = refl
append_items (x ∷ xs) ys = ap (λ zs. reduced_item x ∷ zs) (append_items xs ys)

pub get_item : (items : List Item) (k : ℕ) → slice_get (reduced_items items) k ≡ option_map reduced_item (slice_get items k)
get_item [] k = refl
get_item (item ∷ items) zero = refl
get_item (item ∷ items) (suc k) = get_item items k

items_or_reduced : (without : List Item) (o : Option (List Item)) → items_or (reduced_items without) (option_map reduced_items o) ≡ reduced_items (items_or without o)
items_or_reduced without None = refl
items_or_reduced without (Some items) = refl

-- ---- nodes that may be absent

pub has_serial_reduced : (x : ℕ) (o : Option Node) → has_serial x (option_map reduced o) ≡ has_serial x o
has_serial_reduced x None = refl
has_serial_reduced x (Some n) = refl

has_kind_reduced : (t : Kind → Bool) (o : Option Node) → has_kind t (option_map reduced o) ≡ has_kind t o
has_kind_reduced t None = refl
has_kind_reduced t (Some n) = refl

pub serial_of_reduced : (o : Option Node) → serial_of (option_map reduced o) ≡ serial_of o
serial_of_reduced None = refl
serial_of_reduced (Some n) = refl

has_element_reduced : (o : Option Node) → has_element (option_map reduced o) ≡ has_element o
has_element_reduced None = refl
has_element_reduced (Some n) = refl

implicit_reduced : (e : Node) → has_implicit_duration (reduced e) ≡ has_implicit_duration e
implicit_reduced e = by_test (takes_implicit e.attrs e.attrs.dur)
  where
    by_test : (t : Bool) → takes_implicit (reduced_attrs e.attrs) (Some (cond t dur.Media dur.Indefinite)) ≡ t
    by_test true = refl
    by_test false = refl

three : (a b c p q r : Bool) → a ≡ p → b ≡ q → c ≡ r → (a || b || c) ≡ (p || q || r)
three a b c p q r x y z = ap (λ t. t || b || c) x ∙ ap (λ t. p || t || c) y ∙ ap (λ t. p || q || t) z

-- ---- the tree

upwards_reduced : (rs : List Node) (s : ℕ) → upwards (all_reduced rs) s ≡ all_reduced (upwards rs s)
upwards_reduced [] s = refl
upwards_reduced (n ∷ before) s = step (n.serial == s) (upwards_reduced before n.parent) (upwards_reduced before s)
  where
    step : (t : Bool) → upwards (all_reduced before) n.parent ≡ all_reduced (upwards before n.parent) → upwards (all_reduced before) s ≡ all_reduced (upwards before s)
        → cond t (reduced n ∷ upwards (all_reduced before) (cond t n.parent s)) (upwards (all_reduced before) (cond t n.parent s)) ≡ all_reduced (cond t (n ∷ upwards before (cond t n.parent s)) (upwards before (cond t n.parent s)))
    step true above here = ap (λ xs. reduced n ∷ xs) above
    step false above here = here

module _ (ns : List Node) where
  abbrev rs : List Node
  rs = all_reduced ns

  ancestors_reduced : (s : ℕ) → ancestors rs s ≡ all_reduced (ancestors ns s)
  ancestors_reduced s = ap (λ xs. drop 1 (upwards xs s)) (reverse_reduced ns) ∙ ap (drop 1) (upwards_reduced (reverse ns) s) ∙ drop_reduced (upwards (reverse ns) s)

  pub time_parent_reduced : (s : ℕ) → time_parent rs s ≡ option_map reduced (time_parent ns s)
  time_parent_reduced s = ap (find is_element) (ancestors_reduced s) ∙ find_reduced is_element is_element (λ n. refl) (ancestors ns s)

  pub elements_reduced : elements rs ≡ all_reduced (elements ns)
  elements_reduced = filter_reduced is_element is_element (λ n. refl) ns

  pub element_serials_reduced : serials (elements rs) ≡ serials (elements ns)
  element_serials_reduced = ap serials elements_reduced ∙ serials_reduced (elements ns)

  pub element_at_reduced : (s : ℕ) → node_at (elements rs) s ≡ option_map reduced (node_at (elements ns) s)
  element_at_reduced s = ap (λ xs. node_at xs s) elements_reduced ∙ find_reduced (λ (n : Node). n.serial == s) (λ (n : Node). n.serial == s) (λ n. refl) (elements ns)

  pub is_element_at_reduced : (p : ℕ) → is_element_at rs p ≡ is_element_at ns p
  is_element_at_reduced p = ap has_element (get_reduced ns p) ∙ has_element_reduced (slice_get ns p)

  child_reduced : (p : ℕ) (n : Node) → is_time_child rs p (reduced n) ≡ is_time_child ns p n
  child_reduced p n = ap (λ o. is_element n && has_serial p o) (time_parent_reduced n.serial) ∙ ap (λ b. is_element n && b) (has_serial_reduced p (time_parent ns n.serial))

  children_reduced : (p : ℕ) → time_children rs p ≡ all_reduced (time_children ns p)
  children_reduced p = filter_reduced (is_time_child rs p) (is_time_child ns p) (child_reduced p) ns

just_before_reduced : (s : ℕ) (b : Option Node) (ns : List Node) → just_before s (option_map reduced b) (all_reduced ns) ≡ option_map reduced (just_before s b ns)
just_before_reduced s b [] = refl
just_before_reduced s b (n ∷ ns) = step (n.serial == s) (just_before_reduced s (Some n) ns)
  where
    step : (t : Bool) → just_before s (Some (reduced n)) (all_reduced ns) ≡ option_map reduced (just_before s (Some n) ns) → cond t (option_map reduced b) (just_before s (Some (reduced n)) (all_reduced ns)) ≡ option_map reduced (cond t b (just_before s (Some n) ns))
    step true q = refl
    step false q = q

module _ (ns : List Node) where
  abbrev us : List Node
  us = all_reduced ns

  previous_child_reduced : (o : Option Node) (s : ℕ) → previous_child us (option_map reduced o) s ≡ option_map reduced (previous_child ns o s)
  previous_child_reduced None s = refl
  previous_child_reduced (Some p) s = ap (just_before s None) (children_reduced ns p.serial) ∙ just_before_reduced s None (time_children ns p.serial)

  pub previous_reduced : (s : ℕ) → previous_in_seq us s ≡ option_map reduced (previous_in_seq ns s)
  previous_reduced s = ap (λ o. cond (has_kind is_seq_kind o) (previous_child us o s) None) (time_parent_reduced ns s) ∙ by_parent (time_parent ns s)
    where
      step : (t : Bool) (a : Option Node) (b : Option Node) → a ≡ option_map reduced b → cond t a None ≡ option_map reduced (cond t b None)
      step true a b q = q
      step false a b q = refl

      by_parent : (o : Option Node) → cond (has_kind is_seq_kind (option_map reduced o)) (previous_child us (option_map reduced o) s) None ≡ option_map reduced (cond (has_kind is_seq_kind o) (previous_child ns o s) None)
      by_parent None = refl
      by_parent (Some p) = step (is_seq_kind p.kind) (previous_child us (Some (reduced p)) s) (previous_child ns (Some p) s) (previous_child_reduced (Some p) s)

  pub named_reduced : (id : List ℕ) → element_named us id ≡ option_map reduced (element_named ns id)
  named_reduced id = find_reduced (λ (n : Node). is_element n && has_id id n.attrs.id) (λ (n : Node). is_element n && has_id id n.attrs.id) (λ n. refl) ns

  -- ---- the items of a node

  excl_reduced : (s : ℕ) → is_in_excl us s ≡ is_in_excl ns s
  excl_reduced s = ap (has_kind is_excl_kind) (time_parent_reduced ns s) ∙ has_kind_reduced is_excl_kind (time_parent ns s)

  begin_list_reduced : (e : Node) → begin_list us (reduced e) ≡ reduced_items (begin_list ns e)
  begin_list_reduced e =
      ap (λ b. items_or (cond b (Indefinite ∷ []) (Offset (pos 0) ∷ [])) (option_map reduced_items e.attrs.begin)) (excl_reduced e.serial) ∙ by_excl (is_in_excl ns e.serial)
    where
      by_excl : (b : Bool) → items_or (cond b (Indefinite ∷ []) (Offset (pos 0) ∷ [])) (option_map reduced_items e.attrs.begin) ≡ reduced_items (items_or (cond b (Indefinite ∷ []) (Offset (pos 0) ∷ [])) e.attrs.begin)
      by_excl true = items_or_reduced (Indefinite ∷ []) e.attrs.begin
      by_excl false = items_or_reduced (Offset (pos 0) ∷ []) e.attrs.begin

  pub items_of_reduced : (side : Edge) (e : Node) → items_of us side (reduced e) ≡ reduced_items (items_of ns side e)
  items_of_reduced Begin e = begin_list_reduced e
  items_of_reduced End e = items_or_reduced [] e.attrs.«end»

  pub all_items_reduced : (e : Node) → all_items us (reduced e) ≡ reduced_items (all_items ns e)
  all_items_reduced e =
      ap (λ xs. xs ++ end_list (reduced e)) (begin_list_reduced e) ∙ ap (λ xs. reduced_items (begin_list ns e) ++ xs) (items_or_reduced [] e.attrs.«end») ∙ sym (append_items (begin_list ns e) (end_list e))

  -- whether an item passes
  any_item : (f g : Item → Bool) → ((item : Item) → f (reduced_item item) ≡ g item) → (e : Node) → list_any f (all_items us (reduced e)) ≡ list_any g (all_items ns e)
  any_item f g same e = ap (list_any f) (all_items_reduced e) ∙ any_items f g same (all_items ns e)

  sync_reduced : (x : ℕ) (item : Item) → is_sync_with us x (reduced_item item) ≡ is_sync_with ns x item
  sync_reduced x (Offset o) = refl
  sync_reduced x (Sync who edge o) = ap (has_serial x) (named_reduced who) ∙ has_serial_reduced x (element_named ns who)
  sync_reduced x (Event who name o) = refl
  sync_reduced x (Repeat who n o) = refl
  sync_reduced x (Key key o) = refl
  sync_reduced x Indefinite = refl

  pub target_reduced : (e : ℕ) (who : Option (List ℕ)) → target us e who ≡ target ns e who
  target_reduced e None = refl
  target_reduced e (Some id) = ap serial_of (named_reduced id) ∙ serial_of_reduced (element_named ns id)

  event_reduced : (e x : ℕ) (item : Item) → is_event_of us e x (reduced_item item) ≡ is_event_of ns e x item
  event_reduced e x (Offset o) = refl
  event_reduced e x (Sync who edge o) = refl
  event_reduced e x (Event who name o) = ap (is_option x) (target_reduced e who)
  event_reduced e x (Repeat who n o) = ap (is_option x) (target_reduced e who)
  event_reduced e x (Key key o) = refl
  event_reduced e x Indefinite = refl

  key_reduced : (key : ℕ) (item : Item) → is_key_item key (reduced_item item) ≡ is_key_item key item
  key_reduced key (Offset o) = refl
  key_reduced key (Sync who edge o) = refl
  key_reduced key (Event who name o) = refl
  key_reduced key (Repeat who n o) = refl
  key_reduced key (Key own o) = refl
  key_reduced key Indefinite = refl

  -- ---- dependencies

  follows_child_reduced : (x : ℕ) (e : Node) → (has_implicit_duration (reduced e) && list_any (λ (c : Node). (c.serial == x) && is_time_child us e.serial c) us) ≡ (has_implicit_duration e && list_any (λ (c : Node). (c.serial == x) && is_time_child ns e.serial c) ns)
  follows_child_reduced x e =
      ap (λ b. b && list_any (λ (c : Node). (c.serial == x) && is_time_child us e.serial c) us) (implicit_reduced e)
      ∙ ap (λ b. has_implicit_duration e && b) (any_reduced (λ (c : Node). (c.serial == x) && is_time_child us e.serial c) (λ (c : Node). (c.serial == x) && is_time_child ns e.serial c)
      (λ c. ap (λ b. (c.serial == x) && b) (child_reduced ns e.serial c)) ns)

  follows_previous_reduced : (x : ℕ) (e : Node) → has_serial x (previous_in_seq us e.serial) ≡ has_serial x (previous_in_seq ns e.serial)
  follows_previous_reduced x e = ap (has_serial x) (previous_reduced e.serial) ∙ has_serial_reduced x (previous_in_seq ns e.serial)

  feeds_node_reduced : (x : ℕ) (e : Node) → feeds_node us x (reduced e) ≡ feeds_node ns x e
  feeds_node_reduced x e = three
      (has_implicit_duration (reduced e) && list_any (λ (c : Node). (c.serial == x) && is_time_child us e.serial c) us) (has_serial x (previous_in_seq us e.serial)) (list_any (is_sync_with us x) (all_items us (reduced e)))
      (has_implicit_duration e && list_any (λ (c : Node). (c.serial == x) && is_time_child ns e.serial c) ns) (has_serial x (previous_in_seq ns e.serial)) (list_any (is_sync_with ns x) (all_items ns e))
      (follows_child_reduced x e) (follows_previous_reduced x e) (any_item (is_sync_with us x) (is_sync_with ns x) (sync_reduced x) e)

  -- whether an element with this serial passes
  any_element : (y : ℕ) (t u : Node → Bool) → ((e : Node) → t (reduced e) ≡ u e) → list_any (λ (e : Node). (e.serial == y) && t e) (elements us) ≡ list_any (λ (e : Node). (e.serial == y) && u e) (elements ns)
  any_element y t u same =
      ap (list_any (λ (e : Node). (e.serial == y) && t e)) (elements_reduced ns)
      ∙ any_reduced (λ (e : Node). (e.serial == y) && t e) (λ (e : Node). (e.serial == y) && u e) (λ e. ap (λ b. (e.serial == y) && b) (same e)) (elements ns)

  feeds_reduced : (x y : ℕ) → feeds us x y ≡ feeds ns x y
  feeds_reduced x y = any_element y (feeds_node us x) (feeds_node ns x) (feeds_node_reduced x)

  leads_to_reduced : (e x : ℕ) → leads_to us e x ≡ leads_to ns e x
  leads_to_reduced e x =
      ap (λ all. has (closure (feeds us) all (e ∷ [])) x) (element_serials_reduced ns) ∙ ap (λ set. has set x) (closure_each (feeds us) (feeds ns) feeds_reduced (serials (elements ns)) (e ∷ []))

  pub looped_reduced : (s : ℕ) (item : Item) → is_looped us s (reduced_item item) ≡ is_looped ns s item
  looped_reduced s (Offset o) = refl
  looped_reduced s (Sync who edge o) = ap (is_looped_to us s) (named_reduced who) ∙ by_node (element_named ns who)
    where
      by_node : (o : Option Node) → is_looped_to us s (option_map reduced o) ≡ is_looped_to ns s o
      by_node None = refl
      by_node (Some x) = leads_to_reduced s x.serial
  looped_reduced s (Event who name o) = refl
  looped_reduced s (Repeat who n o) = refl
  looped_reduced s (Key key o) = refl
  looped_reduced s Indefinite = refl

  pub mark_reduced : (side : Edge) (k : ℕ) (e : Node) → (is_element (reduced e) && is_looped_item us e.serial (slice_get (items_of us side (reduced e)) k)) ≡ (is_element e && is_looped_item ns e.serial (slice_get (items_of ns side e) k))
  mark_reduced side k e =
      ap (λ b. is_element e && b)
      (ap (λ xs. is_looped_item us e.serial (slice_get xs k)) (items_of_reduced side e) ∙ ap (is_looped_item us e.serial) (get_item (items_of ns side e) k) ∙ by_item (slice_get (items_of ns side e) k))
    where
      by_item : (o : Option Item) → is_looped_item us e.serial (option_map reduced_item o) ≡ is_looped_item ns e.serial o
      by_item None = refl
      by_item (Some item) = looped_reduced e.serial item

  reads_node_reduced : (x : ℕ) (e : Node) → reads_node us x (reduced e) ≡ reads_node ns x e
  reads_node_reduced x e =
      ap (λ b. b || list_any (is_event_of us e.serial x) (all_items us (reduced e))) (feeds_node_reduced x e)
      ∙ ap (λ b. feeds_node ns x e || b) (any_item (is_event_of us e.serial x) (is_event_of ns e.serial x) (event_reduced e.serial x) e)

  reads_reduced : (x y : ℕ) → reads us x y ≡ reads ns x y
  reads_reduced x y = any_element y (reads_node us x) (reads_node ns x) (reads_node_reduced x)

  pub readers_reduced : (x : ℕ) → readers_of us x ≡ readers_of ns x
  readers_reduced x = ap (filter (reads us x)) (element_serials_reduced ns) ∙ filter_each (reads us x) (reads ns x) (reads_reduced x) (serials (elements ns))

  follows_by_item_reduced : (x : ℕ) (e : Node) → follows_by_item us x (reduced e) ≡ follows_by_item ns x e
  follows_by_item_reduced x e =
      ap (λ b. b || (list_any (is_sync_with us x) (all_items us (reduced e)) && not (leads_to us e.serial x))) (follows_previous_reduced x e)
      ∙ ap (λ b. has_serial x (previous_in_seq ns e.serial) || (b && not (leads_to us e.serial x))) (any_item (is_sync_with us x) (is_sync_with ns x) (sync_reduced x) e)
      ∙ ap (λ b. has_serial x (previous_in_seq ns e.serial) || (list_any (is_sync_with ns x) (all_items ns e) && not b)) (leads_to_reduced e.serial x)

  pub followers_reduced : (x : ℕ) → followers_of us x ≡ followers_of ns x
  followers_reduced x =
      ap (filter (follows us x)) (element_serials_reduced ns)
      ∙ filter_each (follows us x) (follows ns x) (λ y. any_element y (follows_by_item us x) (follows_by_item ns x) (follows_by_item_reduced x)) (serials (elements ns))

  pub reads_place_reduced : (j i : ℕ) → reads_place us j i ≡ reads_place ns j i
  reads_place_reduced j i = ap (λ o. reads_from us o (slice_get us i)) (get_reduced ns j) ∙ ap (reads_from us (option_map reduced (slice_get ns j))) (get_reduced ns i) ∙ by_nodes (slice_get ns j) (slice_get ns i)
    where
      by_nodes : (o p : Option Node) → reads_from us (option_map reduced o) (option_map reduced p) ≡ reads_from ns o p
      by_nodes None None = refl
      by_nodes None (Some x) = refl
      by_nodes (Some e) None = refl
      by_nodes (Some e) (Some x) = ap (λ b. is_element e && b) (reads_node_reduced x.serial e)

  pub waits_reduced : (key place : ℕ) → waits us key (slice_get us place) ≡ waits ns key (slice_get ns place)
  waits_reduced key place = ap (waits us key) (get_reduced ns place) ∙ by_node (slice_get ns place)
    where
      by_node : (o : Option Node) → waits us key (option_map reduced o) ≡ waits ns key o
      by_node None = refl
      by_node (Some e) = ap (λ b. is_element e && b) (any_item (is_key_item key) (is_key_item key) (key_reduced key) e)

  pub follows_reduced : (x : ℕ) (e : Node) → follows_unlooped us x (reduced e) ≡ follows_unlooped ns x e
  follows_reduced x e = three
      (has_implicit_duration (reduced e) && list_any (λ (c : Node). (c.serial == x) && is_time_child us e.serial c) us) (has_serial x (previous_in_seq us e.serial)) (list_any (is_sync_with us x) (all_items us (reduced e)) && not (leads_to us e.serial x))
      (has_implicit_duration e && list_any (λ (c : Node). (c.serial == x) && is_time_child ns e.serial c) ns) (has_serial x (previous_in_seq ns e.serial)) (list_any (is_sync_with ns x) (all_items ns e) && not (leads_to ns e.serial x))
      (follows_child_reduced x e) (follows_previous_reduced x e)
      (ap (λ b. b && not (leads_to us e.serial x)) (any_item (is_sync_with us x) (is_sync_with ns x) (sync_reduced x) e) ∙ ap (λ b. list_any (is_sync_with ns x) (all_items ns e) && not b) (leads_to_reduced e.serial x))
