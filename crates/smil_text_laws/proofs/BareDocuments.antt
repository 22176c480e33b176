-- Nodes without their plain texts: their lineage, time parents and time children, what ids mean,
-- defaults and dependencies.
use Rattle.std.proofs.Common.{◌≡◌, refl, ◌∙◌, ap, ℕ, List, [], ◌∷◌, ◌++◌, Option, Some, None, Bool, true, false}
use Rattle.std.specs.Prelude.{cond, ◌==◌, ◌&&◌, ◌||◌, drop, find, filter, reverse, option_map, option_and_then}
use Rattle.std.specs.List.{list_any}
use Rattle.smil_model.specs.declared.document.Node.{Node}
use Rattle.smil_model.specs.declared.document.Kind.{Kind}
use Rattle.smil_model.specs.declared.document.Item.{Item}
use Rattle.smil_model.specs.declared.document.Item.TheVariants.{Sync}
use Rattle.smil_model.specs.declared.document.Restart.TheVariants.{Always}
use Rattle.smil_model.specs.declared.document.Fill.{Fill}
use Rattle.smil_model.specs.declared.document.Fill.TheVariants.{Auto}
use Rattle.smil_model.specs.document.Document.{is_element, elements, serials, serial_of, node_at, upwards, lineage, ancestors, time_parent, has_serial, is_time_child, time_children, is_below, descendants, just_before, has_kind, is_in_seq, is_in_excl, is_seq_kind, is_excl_kind, previous_child, previous_in_seq, has_id, element_named, target, is_within}
use Rattle.smil_model.specs.document.Defaults.{begin_list, end_list, first_stated, inherited, restart_stated, restart_or, restart_of, default_restart, fill_stated, fill_or, fill_of, fill_by, default_fill, effective_fill}
use Rattle.smil_model.specs.document.Dependencies.{has_implicit_duration, all_items, is_sync_with, feeds_node, feeds, leads_to}
use Rattle.smil_model.specs.document.Closure.{closure, has}
use Rattle.smil_text_laws.specs.PlainTexts.{without_texts, bare}
use Rattle.smil_text_laws.proofs.BareLists.{find_mapped, filter_mapped, any_mapped, map_mapped, reverse_mapped, drop_mapped}

pub serial_same : (x : ℕ) (o : Option Node) → has_serial x (option_map without_texts o) ≡ has_serial x o
serial_same x None = refl
serial_same x (Some n) = refl

pub kind_same : (test : Kind → Bool) (o : Option Node) → has_kind test (option_map without_texts o) ≡ has_kind test o
kind_same test None = refl
kind_same test (Some n) = refl

pub serial_of_same : (o : Option Node) → serial_of (option_map without_texts o) ≡ serial_of o
serial_of_same None = refl
serial_of_same (Some n) = refl

upwards_bare : (ns : List Node) (s : ℕ) → upwards (bare ns) s ≡ bare (upwards ns s)
upwards_bare [] s = refl
upwards_bare (n ∷ ns) s = step (n.serial == s) (λ k. upwards_bare ns k)
  where
    step : (t : Bool) → ((k : ℕ) → upwards (bare ns) k ≡ bare (upwards ns k)) → cond t (without_texts n ∷ upwards (bare ns) (cond t n.parent s)) (upwards (bare ns) (cond t n.parent s)) ≡ bare (cond t (n ∷ upwards ns (cond t n.parent s)) (upwards ns (cond t n.parent s)))
    step true r = ap (λ ms. without_texts n ∷ ms) (r n.parent)
    step false r = r s

before_bare : (s : ℕ) (o : Option Node) (ns : List Node) → just_before s (option_map without_texts o) (bare ns) ≡ option_map without_texts (just_before s o ns)
before_bare s o [] = refl
before_bare s o (n ∷ ns) = step (n.serial == s) (before_bare s (Some n) ns)
  where
    step : (t : Bool) → just_before s (Some (without_texts n)) (bare ns) ≡ option_map without_texts (just_before s (Some n) ns) → cond t (option_map without_texts o) (just_before s (Some (without_texts n)) (bare ns)) ≡ option_map without_texts (cond t o (just_before s (Some n) ns))
    step true r = refl
    step false r = r

module _ (ns : List Node) where
  pub elements_bare : elements (bare ns) ≡ bare (elements ns)
  elements_bare = filter_mapped without_texts is_element is_element (λ n. refl) ns

  pub serials_same : serials (bare ns) ≡ serials ns
  serials_same = map_mapped without_texts (λ (n : Node). n.serial) (λ (n : Node). n.serial) (λ n. refl) ns

  pub node_bare : (s : ℕ) → node_at (bare ns) s ≡ option_map without_texts (node_at ns s)
  node_bare s = find_mapped without_texts (λ (n : Node). n.serial == s) (λ (n : Node). n.serial == s) (λ n. refl) ns

  pub lineage_bare : (s : ℕ) → lineage (bare ns) s ≡ bare (lineage ns s)
  lineage_bare s = ap (λ ms. upwards ms s) (reverse_mapped without_texts ns) ∙ upwards_bare (reverse ns) s

  pub ancestors_bare : (s : ℕ) → ancestors (bare ns) s ≡ bare (ancestors ns s)
  ancestors_bare s = ap (drop 1) (lineage_bare s) ∙ drop_mapped without_texts 1 (lineage ns s)

  pub parent_bare : (s : ℕ) → time_parent (bare ns) s ≡ option_map without_texts (time_parent ns s)
  parent_bare s = ap (find is_element) (ancestors_bare s) ∙ find_mapped without_texts is_element is_element (λ n. refl) (ancestors ns s)

  pub child_same : (p : ℕ) (n : Node) → is_time_child (bare ns) p (without_texts n) ≡ is_time_child ns p n
  child_same p n = ap (λ o. is_element n && has_serial p o) (parent_bare n.serial) ∙ ap (λ t. is_element n && t) (serial_same p (time_parent ns n.serial))

  pub children_bare : (p : ℕ) → time_children (bare ns) p ≡ bare (time_children ns p)
  children_bare p = filter_mapped without_texts (is_time_child (bare ns) p) (is_time_child ns p) (child_same p) ns

  pub below_same : (x y : ℕ) → is_below (bare ns) x y ≡ is_below ns x y
  below_same x y =
      ap (list_any (λ (a : Node). a.serial == x)) (ancestors_bare y)
      ∙ any_mapped without_texts (λ (a : Node). a.serial == x) (λ (a : Node). a.serial == x) (λ n. refl) (ancestors ns y)

  pub within_same : (x y : ℕ) → is_within (bare ns) x y ≡ is_within ns x y
  within_same x y =
      ap (list_any (λ (a : Node). a.serial == x)) (lineage_bare y)
      ∙ any_mapped without_texts (λ (a : Node). a.serial == x) (λ (a : Node). a.serial == x) (λ n. refl) (lineage ns y)

  pub descendants_bare : (s : ℕ) → descendants (bare ns) s ≡ bare (descendants ns s)
  descendants_bare s = filter_mapped without_texts (λ (n : Node). is_below (bare ns) s n.serial) (λ (n : Node). is_below ns s n.serial) (λ n. below_same s n.serial) ns

  pub seq_same : (s : ℕ) → is_in_seq (bare ns) s ≡ is_in_seq ns s
  seq_same s = ap (has_kind is_seq_kind) (parent_bare s) ∙ kind_same is_seq_kind (time_parent ns s)

  pub excl_same : (s : ℕ) → is_in_excl (bare ns) s ≡ is_in_excl ns s
  excl_same s = ap (has_kind is_excl_kind) (parent_bare s) ∙ kind_same is_excl_kind (time_parent ns s)

  child_before_bare : (o : Option Node) (s : ℕ) → previous_child (bare ns) (option_map without_texts o) s ≡ option_map without_texts (previous_child ns o s)
  child_before_bare None s = refl
  child_before_bare (Some p) s = ap (just_before s None) (children_bare p.serial) ∙ before_bare s None (time_children ns p.serial)

  pub previous_bare : (s : ℕ) → previous_in_seq (bare ns) s ≡ option_map without_texts (previous_in_seq ns s)
  previous_bare s =
      (λ i. cond (seq_same s i) ((ap (λ o. previous_child (bare ns) o s) (parent_bare s) ∙ child_before_bare (time_parent ns s) s) i) None)
      ∙ by_test (is_in_seq ns s)
    where
      by_test : (t : Bool) → cond t (option_map without_texts (previous_child ns (time_parent ns s) s)) None ≡ option_map without_texts (cond t (previous_child ns (time_parent ns s) s) None)
      by_test true = refl
      by_test false = refl

  pub named_bare : (id : List ℕ) → element_named (bare ns) id ≡ option_map without_texts (element_named ns id)
  named_bare id = find_mapped without_texts (λ (n : Node). is_element n && has_id id n.attrs.id) (λ (n : Node). is_element n && has_id id n.attrs.id) (λ n. refl) ns

  pub target_same : (e : ℕ) (who : Option (List ℕ)) → target (bare ns) e who ≡ target ns e who
  target_same e None = refl
  target_same e (Some id) = ap serial_of (named_bare id) ∙ serial_of_same (element_named ns id)

  -- ---- defaults

  pub begins_same : (e : Node) → begin_list (bare ns) (without_texts e) ≡ begin_list ns e
  begins_same e = rw (excl_same e.serial)

  stated_same : {A : Type 0} (stated : Node → Option A) (without : A) → ((n : Node) → stated (without_texts n) ≡ stated n) → (ms : List Node) → first_stated stated without (bare ms) ≡ first_stated stated without ms
  stated_same stated without e [] = refl
  stated_same stated without e (n ∷ ms) = rw (e n, stated_same stated without e ms)

  inherited_same : {A : Type 0} (stated : Node → Option A) (without : A) → ((n : Node) → stated (without_texts n) ≡ stated n) → (s : ℕ) → inherited (bare ns) stated without s ≡ inherited ns stated without s
  inherited_same stated without e s =
      ap (λ ms. first_stated stated without (filter is_element ms)) (lineage_bare s)
      ∙ ap (first_stated stated without) (filter_mapped without_texts is_element is_element (λ n. refl) (lineage ns s))
      ∙ stated_same stated without e (filter is_element (lineage ns s))

  default_restart_same : (s : ℕ) → default_restart (bare ns) s ≡ default_restart ns s
  default_restart_same = inherited_same (λ (n : Node). option_and_then restart_stated n.attrs.restart_default) Always (λ n. refl)

  default_fill_same : (s : ℕ) → default_fill (bare ns) s ≡ default_fill ns s
  default_fill_same = inherited_same (λ (n : Node). option_and_then fill_stated n.attrs.fill_default) Auto (λ n. refl)

  pub restart_same : (e : Node) → restart_of (bare ns) (without_texts e) ≡ restart_of ns e
  restart_same e = ap (λ r. restart_or r e.attrs.restart) (default_restart_same e.serial)

  pub fill_same : (e : Node) → effective_fill (bare ns) (without_texts e) ≡ effective_fill ns e
  fill_same e = ap (λ f. effective (fill_or f e.attrs.fill)) (default_fill_same e.serial) ∙ by_fill (fill_of ns e)
    where
      effective : Fill → Fill
      effective f = fill_by (without_texts e).attrs f

      by_fill : (f : Fill) → effective f ≡ fill_by e.attrs f
      by_fill _ = refl

  -- ---- dependencies

  pub sync_same : (x : ℕ) (i : Item) → is_sync_with (bare ns) x i ≡ is_sync_with ns x i
  sync_same x (Sync who edge offset) = ap (has_serial x) (named_bare who) ∙ serial_same x (element_named ns who)
  sync_same x _ = refl

  pub items_same : (e : Node) → all_items (bare ns) (without_texts e) ≡ all_items ns e
  items_same e = ap (λ is. is ++ end_list e) (begins_same e)

  pub implicit_same : (e : Node) → has_implicit_duration (without_texts e) ≡ has_implicit_duration e
  implicit_same e = refl

  pub feeds_node_same : (x : ℕ) (e : Node) → feeds_node (bare ns) x (without_texts e) ≡ feeds_node ns x e
  feeds_node_same x e = λ i. (has_implicit_duration e && children i) || before i || named i
    where
      children : list_any (λ (c : Node). (c.serial == x) && is_time_child (bare ns) e.serial c) (bare ns) ≡ list_any (λ (c : Node). (c.serial == x) && is_time_child ns e.serial c) ns
      children = any_mapped without_texts (λ (c : Node). (c.serial == x) && is_time_child (bare ns) e.serial c) (λ (c : Node). (c.serial == x) && is_time_child ns e.serial c) (λ c. ap (λ t. (c.serial == x) && t) (child_same e.serial c)) ns

      before : has_serial x (previous_in_seq (bare ns) e.serial) ≡ has_serial x (previous_in_seq ns e.serial)
      before = ap (has_serial x) (previous_bare e.serial) ∙ serial_same x (previous_in_seq ns e.serial)

      named : list_any (is_sync_with (bare ns) x) (all_items (bare ns) (without_texts e)) ≡ list_any (is_sync_with ns x) (all_items ns e)
      named = λ i. list_any (λ item. sync_same x item i) (items_same e i)

  feeds_same : (x y : ℕ) → feeds (bare ns) x y ≡ feeds ns x y
  feeds_same x y =
      ap (list_any (λ (e : Node). (e.serial == y) && feeds_node (bare ns) x e)) elements_bare
      ∙ any_mapped without_texts (λ (e : Node). (e.serial == y) && feeds_node (bare ns) x e) (λ (e : Node). (e.serial == y) && feeds_node ns x e) (λ e. ap (λ t. (e.serial == y) && t) (feeds_node_same x e)) (elements ns)

  pub element_serials_same : serials (elements (bare ns)) ≡ serials (elements ns)
  element_serials_same = ap serials elements_bare ∙ map_mapped without_texts (λ (n : Node). n.serial) (λ (n : Node). n.serial) (λ n. refl) (elements ns)

  pub leads_same : (e x : ℕ) → leads_to (bare ns) e x ≡ leads_to ns e x
  leads_same e x = λ i. has (closure (λ a b. feeds_same a b i) (element_serials_same i) (e ∷ [])) x

-- what is read of a node that may be there, and of a time parent
pub read_same : {A : Type 0} (f g : Option Node → A) → f None ≡ g None → ((n : Node) → f (Some (without_texts n)) ≡ g (Some n)) → (o : Option Node) → f (option_map without_texts o) ≡ g o
read_same f g none some None = none
read_same f g none some (Some n) = some n

pub under_same : {A : Type 0} (f g : Option Node → A) → f None ≡ g None → ((p : Node) → f (Some (without_texts p)) ≡ g (Some p)) → (ns : List Node) (s : ℕ) → f (time_parent (bare ns) s) ≡ g (time_parent ns s)
under_same f g none some ns s = ap f (parent_bare ns s) ∙ read_same f g none some (time_parent ns s)
