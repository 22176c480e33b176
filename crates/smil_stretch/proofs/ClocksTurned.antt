-- The clocks after a pause began or ended, each by that of its time parent.
use Rattle.std.proofs.Common.{◌≡◌, refl, sym, ◌∙◌, ap, subst, ℕ, zero, suc, ◌+◌, ◌-◌, ◌<◌, List, [], ◌∷◌, ◌++◌, Option, Some, None, Bool, true, false, arith}
use Rattle.std.specs.Prelude.{◌==◌, ◌&&◌, ◌||◌, map, take, drop, set, reverse, slice_get, option_map}
use Rattle.std.specs.List.{AllByRecursion}
use Rattle.std.proofs.lemmas.Bool.{and_right, or_parts, or_from, leb-false}
use Rattle.std.proofs.lemmas.List.{length-map, take-map, drop-map, drop-drop}
use Rattle.std.proofs.lemmas.Option.{slice_get-map, same_Some}
use Rattle.smil_model.specs.declared.diary.Entry.{Entry}
use Rattle.smil_model.specs.declared.document.Node.{Node}
use Rattle.smil_model.specs.document.Document.{node_at, is_element, upwards, lineage, time_parent}
use Rattle.smil_model.specs.document.Valid.{IsDistinct, IsTree}
use Rattle.smil_model.specs.diary.Diary.{History, is_paused, with_entry, last_moment}
use Rattle.smil_model.specs.diary.Lawful.{IsLawful}
use Rattle.smil_model.specs.diary.Clocks.{run, stands}
use Rattle.smil_laws.specs.Edited.{IsOrdered}
use Rattle.smil_laws.proofs.LineageParents.{swap_eqb}
use Rattle.smil_laws.proofs.AsideDocuments.{map_all, each_drop, each_reverse}
use Rattle.smil_laws.proofs.DescendantChains.{each_upwards}
use Rattle.smil_laws.proofs.Lists.{each_at}
use Rattle.smil_diary.specs.Places.{is_from}
use Rattle.smil_stretch.specs.declared.clock.NodeClock.{NodeClock}
use Rattle.smil_stretch.specs.Clocks.{shown, clock_by, clock_of, node_clock, clocks_of}
use Rattle.smil_tree.specs.Outline.{parent_place}
use Rattle.smil_stretch.specs.NodeClocks.{at_place, stands_by, IsTurned, Turns}
use Rattle.smil_stretch.proofs.ClockAtMoment.{clock_with, clock_same}
use Rattle.smil_stretch.proofs.NodesAbove.{any_in, any_under, none_in, others_before, others_after, lineage_before, any_node, known_element, Clear, Known, clear_after}
use Rattle.smil_stretch.proofs.NodePlaces.{IsParentAt, parent_at_place, no_parent_place}
use Rattle.smil_stretch.proofs.ClockLoop.{at_front}
use Rattle.smil_stretch.proofs.ReadingsByClock.{standing}
use Rattle.smil_tree.proofs.NodeFamilies.{node_of_place}

-- ---- lists by places

pub each_place : (P : Node → Type 0) (ns : List Node) → ((j : ℕ) (m : Node) → slice_get ns j ≡ Some m → P m) → AllByRecursion P ns
each_place P [] each = tt
each_place P (n ∷ ns) each = (each 0 n refl, each_place P ns (λ j m at. each (suc j) m at))

front_at : (ns : List Node) (i j : ℕ) (m : Node) → j < i → slice_get ns j ≡ Some m → slice_get (take i ns) j ≡ Some m
front_at ns i j m l at = at_front ns i j l ∙ at

in_front : (ns : List Node) (i j : ℕ) (m : Node) → slice_get (take i ns) j ≡ Some m → (j < i) × (slice_get ns j ≡ Some m)
in_front ns zero j m at = cc
in_front [] (suc i) j m at = cc
in_front (n ∷ ns) (suc i) zero m at = (omega arith, at)
in_front (n ∷ ns) (suc i) (suc j) m at = let rest = in_front ns i j m at in (omega (arith, rest.0), rest.1)

-- one of a mapped list set
set_one : (f g : Node → NodeClock) (ns : List Node) (i : ℕ) (n : Node) → IsDistinct ns → slice_get ns i ≡ Some n → ((m : Node) → m.serial == n.serial ≡ false → f m ≡ g m) → set (map f ns) i (g n) ≡ map g ns
set_one f g [] i n d at same = cc
set_one f g (m ∷ ns) zero n d at same =
    let one : m ≡ n = cc in
    ap (λ k. g k ∷ map f ns) (sym one)
    ∙ ap (λ cs. g m ∷ cs) (map_all (λ (k : Node). k.serial == n.serial ≡ false) f g ns (others_after (m ∷ ns) zero n d at) same)
set_one f g (m ∷ ns) (suc i) n d at same =
    ap (λ c. c ∷ set (map f ns) i (g n)) (same m (others_before (m ∷ ns) (suc i) n d at).0)
    ∙ ap (λ cs. g m ∷ cs) (set_one f g ns i n d.1 at same)

-- tests that agree on all but the element x agree where x is not in the lineage
alike : (p q : Node → Bool) (x : ℕ) (chain : List Node) → ((m : Node) → m.serial == x ≡ false → p m ≡ q m) → any_in (λ (m : Node). m.serial == x) chain ≡ false → any_in p chain ≡ any_in q chain
alike p q x [] same free = refl
alike p q x (m ∷ ms) same free =
    let parts = or_parts _ _ free in
    ap (λ t. t || any_in p ms) (here (is_element m) parts.0) ∙ ap (λ t. (is_element m && q m) || t) (alike p q x ms same parts.1)
  where
    here : (t : Bool) → (t && (m.serial == x)) ≡ false → (t && p m) ≡ (t && q m)
    here true e = same m e
    here false e = refl

module _ (h : History) (y : Entry) (i : ℕ) (n : Node) (paused : Bool) (o : IsOrdered h.nodes) (tree : IsTree h.nodes) (old : IsLawful h) (new : IsLawful (with_entry h y)) (at : slice_get h.nodes i ≡ Some n) (turns : Turns h y n.serial paused) where
  abbrev after : History
  after = with_entry h y

  -- the clock of a node where only its own pause is changed yet
  abbrev pub flagged : Node → NodeClock
  flagged m = record (node_clock h m) { paused = is_element m && is_paused (h.diary ++ y ∷ []) m.serial }

  pub set_flag : set (clocks_of h) i (record (node_clock h n) { paused = paused }) ≡ map flagged h.nodes
  set_flag =
      ap (λ t. set (clocks_of h) i (record (node_clock h n) { paused = t }))
      (sym turns.own ∙ ap (λ t. t && is_paused (h.diary ++ y ∷ []) n.serial) (sym (known_element h.nodes i n o.distinct at turns.known)))
      ∙ set_one (node_clock h) flagged h.nodes i n o.distinct at
      (λ m other. ap (λ t. record (node_clock h m) { paused = is_element m && t }) (sym (turns.others m.serial other)))

  -- ---- nodes that are not below the element

  abbrev IsClear : ℕ → Type 0
  IsClear s = Clear h.nodes o n.serial s

  known : Known h.nodes o n.serial h.nodes
  known = each_place (λ (m : Node). node_at h.nodes m.serial ≡ Some m) h.nodes (λ j m q. node_of_place h.nodes j m o.distinct q)

  clear_stands : (s : ℕ) → IsClear s → stands after s ≡ stands h s
  clear_stands s clear =
      alike (λ (m : Node). is_paused (h.diary ++ y ∷ []) m.serial) (λ (m : Node). is_paused h.diary m.serial) n.serial (lineage h.nodes s)
      (λ m other. turns.others m.serial other) clear

  clear_same : (m : Node) → IsClear m.serial → node_clock after m ≡ flagged m
  clear_same m clear =
      ap (λ c. record (flagged m) { clock = c })
      (clock_with h y m.serial old new
      ∙ ap (λ t. clock_by t (shown (clock_of h m.serial) y.moment) y.moment) (clear_stands m.serial clear)
      ∙ clock_same (stands h m.serial) (run h m.serial (last_moment h.diary)) (last_moment h.diary) y.moment)

  -- those before it
  before_clear : (j : ℕ) (m : Node) → j < i → slice_get h.nodes j ≡ Some m → IsClear m.serial
  before_clear j m less q =
      ap (any_in (λ (k : Node). k.serial == n.serial)) (lineage_before h.nodes j m o.distinct q)
      ∙ none_in n.serial (m ∷ upwards (reverse (take j h.nodes)) m.parent) (
        each_at (λ (k : Node). k.serial == n.serial ≡ false) (take i h.nodes) j m free (front_at h.nodes i j m less q),
        each_upwards (λ (k : Node). k.serial == n.serial ≡ false) (reverse (take j h.nodes)) m.parent (each_reverse (λ (k : Node). k.serial == n.serial ≡ false) (take j h.nodes) front),
      )
    where
      free : AllByRecursion (λ (k : Node). k.serial == n.serial ≡ false) (take i h.nodes)
      free = others_before h.nodes i n o.distinct at

      front : AllByRecursion (λ (k : Node). k.serial == n.serial ≡ false) (take j h.nodes)
      front =
          each_place (λ (k : Node). k.serial == n.serial ≡ false) (take j h.nodes)
          (λ l k r. let inside = in_front h.nodes j l k r in each_at (λ (z : Node). z.serial == n.serial ≡ false) (take i h.nodes) l k free (front_at h.nodes i l k (omega (arith, inside.0, less)) inside.1))

  -- ---- the clock of the time parent

  parent_stands : (j : ℕ) (m : Node) → slice_get h.nodes j ≡ Some m → any_under h.nodes (λ (k : Node). is_paused (h.diary ++ y ∷ []) k.serial) (time_parent h.nodes m.serial) ≡ stands_by (at_place (clocks_of after) (parent_place h.nodes m.serial))
  parent_stands j m q = by_parent (time_parent h.nodes m.serial) refl
    where
      by_parent : (p : Option Node) → time_parent h.nodes m.serial ≡ p → any_under h.nodes (λ (k : Node). is_paused (h.diary ++ y ∷ []) k.serial) p ≡ stands_by (at_place (clocks_of after) (parent_place h.nodes m.serial))
      by_parent None r = ap (λ k. stands_by (at_place (clocks_of after) k)) (sym (no_parent_place h.nodes m.serial r))
      by_parent (Some p) r =
          let found : IsParentAt h.nodes j m.serial p.serial = parent_at_place h.nodes j m p o.distinct q r in
          sym
          (ap (λ k. stands_by (at_place (clocks_of after) k)) found.is_place
          ∙ ap stands_by (slice_get-map (node_clock after) h.nodes found.parent ∙ ap (option_map (node_clock after)) found.found.at)
          ∙ standing (stands after found.found.node.serial) (run after found.found.node.serial (last_moment after.diary)) (last_moment after.diary)
          ∙ ap (stands after) found.found.serial)

  stands_by_parent : (j : ℕ) (m : Node) → slice_get h.nodes j ≡ Some m → stands after m.serial ≡ ((flagged m).paused || stands_by (at_place (clocks_of after) (parent_place h.nodes m.serial)))
  stands_by_parent j m q =
      any_node h.nodes o (λ (k : Node). is_paused (h.diary ++ y ∷ []) k.serial) m (node_of_place h.nodes j m o.distinct q)
      ∙ ap (λ t. (flagged m).paused || t) (parent_stands j m q)

  -- ---- from the first node behind it that is not below it, all are clear

  outside_under : (j : ℕ) (m : Node) → slice_get h.nodes j ≡ Some m → is_from i (parent_place h.nodes m.serial) ≡ false → any_under h.nodes (λ (k : Node). k.serial == n.serial) (time_parent h.nodes m.serial) ≡ false
  outside_under j m q outside = by_parent (time_parent h.nodes m.serial) refl
    where
      by_parent : (p : Option Node) → time_parent h.nodes m.serial ≡ p → any_under h.nodes (λ (k : Node). k.serial == n.serial) p ≡ false
      by_parent None r = refl
      by_parent (Some p) r =
          let found : IsParentAt h.nodes j m.serial p.serial = parent_at_place h.nodes j m p o.distinct q r in
          let less : found.parent < i = leb-false i found.parent (ap (is_from i) (sym found.is_place) ∙ outside) in
          subst IsClear found.found.serial (before_clear found.parent found.found.node less found.found.at)

  outside_clear : (j : ℕ) (m : Node) → i < j → slice_get h.nodes j ≡ Some m → is_from i (parent_place h.nodes m.serial) ≡ false → AllByRecursion (λ (k : Node). IsClear k.serial) (drop j h.nodes)
  outside_clear j m less q outside =
      clear_after h.nodes o n.serial j m tree known behind (omega (arith, less)) q
      (any_node h.nodes o (λ (k : Node). k.serial == n.serial) m (node_of_place h.nodes j m o.distinct q)
      ∙ or_from _ _ (and_right (is_element m) (m.serial == n.serial) other) (outside_under j m q outside))
    where
      other : m.serial == n.serial ≡ false
      other = swap_eqb n.serial m.serial (each_at (λ (k : Node). k.serial == m.serial ≡ false) (take j h.nodes) i n (others_before h.nodes j m o.distinct q) (front_at h.nodes j i n less at))

      behind : AllByRecursion (λ (k : Node). k.serial == n.serial ≡ false) (drop (suc j) h.nodes)
      behind =
          let place : suc i + (j - i) ≡ suc j = omega (arith, less) in
          subst (λ l. AllByRecursion (λ (k : Node). k.serial == n.serial ≡ false) (drop l h.nodes)) place
          (subst (λ (ns : List Node). AllByRecursion (λ (k : Node). k.serial == n.serial ≡ false) ns) (drop-drop (j - i) (suc i) h.nodes)
          (each_drop (λ (k : Node). k.serial == n.serial ≡ false) (j - i) (drop (suc i) h.nodes) (others_after h.nodes i n o.distinct at)))

  -- ---- the whole

  flagged_at : (j : ℕ) (c : NodeClock) → slice_get (map flagged h.nodes) j ≡ Some c → (m : Node) × (slice_get h.nodes j ≡ Some m) × (flagged m ≡ c)
  flagged_at j c q = by_node (slice_get h.nodes j) refl (sym (slice_get-map flagged h.nodes j) ∙ q)
    where
      by_node : (r : Option Node) → slice_get h.nodes j ≡ r → option_map flagged r ≡ Some c → (m : Node) × (slice_get h.nodes j ≡ Some m) × (flagged m ≡ c)
      by_node None e f = cc
      by_node (Some m) e f = (m, e, same_Some (flagged m) c f)

  parent_less : (j k : ℕ) (m : Node) → slice_get h.nodes j ≡ Some m → parent_place h.nodes m.serial ≡ Some k → k < j
  parent_less j k m q is = by_parent (time_parent h.nodes m.serial) refl
    where
      by_parent : (p : Option Node) → time_parent h.nodes m.serial ≡ p → k < j
      by_parent None r = let never : None ≡ Some k = sym (no_parent_place h.nodes m.serial r) ∙ is in cc
      by_parent (Some p) r =
          let found : IsParentAt h.nodes j m.serial p.serial = parent_at_place h.nodes j m p o.distinct q r in
          let one : found.parent ≡ k = same_Some found.parent k (sym found.is_place ∙ is) in
          omega (arith, found.before, one)

  pub is_turned : IsTurned i y.moment (map flagged h.nodes) (clocks_of after)
  is_turned = record {
    same_length = length-map h.nodes (node_clock after) ∙ sym (length-map h.nodes flagged);
    earlier =
        take-map (node_clock after) i h.nodes
        ∙ map_all (λ (m : Node). IsClear m.serial) (node_clock after) flagged (take i h.nodes)
        (each_place (λ (m : Node). IsClear m.serial) (take i h.nodes) (λ j m q. let inside = in_front h.nodes i j m q in before_clear j m inside.0 inside.1))
        clear_same
        ∙ sym (take-map flagged i h.nodes);
    parents = λ j c k q is. let m = flagged_at j c q in parent_less j k m.0 m.1 (ap (λ (d : NodeClock). d.parent) m.2 ∙ is);
    turned = λ j c le q.
        let m = flagged_at j c q in
        slice_get-map (node_clock after) h.nodes j ∙ ap (option_map (node_clock after)) m.1
        ∙ ap (λ d. Some (record (flagged m.0) { clock = d }))
        (clock_with h y (m.0).serial old new ∙ ap (λ t. clock_by t (shown (clock_of h (m.0).serial) y.moment) y.moment) (stands_by_parent j m.0 m.1))
        ∙ ap (λ (d : NodeClock). Some (record d { clock = clock_by (d.paused || stands_by (at_place (clocks_of after) d.parent)) (shown d.clock y.moment) y.moment })) m.2;
    later = λ j c less q outside.
        let m = flagged_at j c q in
        drop-map (node_clock after) j h.nodes
        ∙ map_all (λ (k : Node). IsClear k.serial) (node_clock after) flagged (drop j h.nodes)
        (outside_clear j m.0 less m.1 (ap (λ (d : NodeClock). is_from i d.parent) m.2 ∙ outside))
        clear_same
        ∙ sym (drop-map flagged j h.nodes);
  }
