-- The current interval of an element follows from its own readings and the intervals of those that feed it.
use Rattle.std.proofs.Common.{◌≡◌, refl, ◌∙◌, ap, ℕ, List, [], ◌∷◌, ◌++◌, Option, Some, None, ℤ, Bool, true, false}
use Rattle.std.specs.Prelude.{◌&&◌, ◌==◌, map, filter, cond, flat_map}
use Rattle.std.specs.List.{list_any}
use Rattle.std.proofs.lemmas.Bool.{or_left, or_right, and_from, eq-eqb}
use Rattle.std.proofs.lemmas.List.Folds.{list_any-append}
use Rattle.smil_model.specs.declared.interval.Interval.{Interval}
use Rattle.smil_model.specs.declared.document.Node.{Node}
use Rattle.smil_model.specs.declared.document.Kind.{Kind}
use Rattle.smil_model.specs.declared.document.Kind.TheVariants as kind
use Rattle.smil_model.specs.declared.document.Edge.{Edge}
use Rattle.smil_model.specs.declared.document.Edge.TheVariants.{Begin, End}
use Rattle.smil_model.specs.declared.document.Item.{Item}
use Rattle.smil_model.specs.declared.document.Item.TheVariants.{Offset, Sync, Event, Repeat, Key, Indefinite}
use Rattle.smil_model.specs.Times.{rising_times, rising, numbers}
use Rattle.smil_model.specs.document.Document.{element_named, has_serial, previous_in_seq, is_time_child}
use Rattle.smil_model.specs.document.Defaults.{begin_list, end_list}
use Rattle.smil_model.specs.document.Dependencies.{has_implicit_duration, is_sync_with, all_items, leads_to}
use Rattle.smil_model.specs.diary.Diary.{History}
use Rattle.smil_model.specs.interval.Durations.{stated_duration}
use Rattle.smil_model.specs.interval.Instances.{sync_times, offset_times, named_times, item_times, begin_times, end_times}
use Rattle.smil_model.specs.interval.Intervals.{interval_of}
use Rattle.smil_model.specs.interval.Current.{child_end, container_implicit, implicit_of, implicit_duration, simple_of, facts_of, interval_given}

-- the two assignments of intervals agree on what feeds the element by a dependency that is not looped
pub record AgreeFor (h : History) (J K : ℕ → Option Interval) (e : Node) : Type 0 where
  pub children : (s : ℕ) → has_implicit_duration e ≡ true → list_any (λ (c : Node). (c.serial == s) && is_time_child h.nodes e.serial c) h.nodes ≡ true → J s ≡ K s
  pub before : (b : Node) → previous_in_seq h.nodes e.serial ≡ Some b → J b.serial ≡ K b.serial
  pub named : (x : ℕ) → list_any (is_sync_with h.nodes x) (all_items h.nodes e) ≡ true → leads_to h.nodes e.serial x ≡ false → J x ≡ K x

module _ (h : History) (J K : ℕ → Option Interval) (now : ℤ) (e : Node) where
  same_sync : (x : ℕ) (offset : ℤ) (edge : Edge) (cyclic : Bool) → (cyclic ≡ false → J x ≡ K x) → sync_times h J now e.serial x offset edge cyclic ≡ sync_times h K now e.serial x offset edge cyclic
  same_sync x offset edge true f = refl
  same_sync x offset edge false f = rw (f refl)

  same_offset : (offset : ℤ) (o : Option Node) → ((b : Node) → o ≡ Some b → J b.serial ≡ K b.serial) → offset_times h J now e.serial offset o ≡ offset_times h K now e.serial offset o
  same_offset offset None f = refl
  same_offset offset (Some b) f = same_sync b.serial offset End false (λ _. f b refl)

  same_named : (offset : ℤ) (edge : Edge) (o : Option Node) → ((x : Node) → o ≡ Some x → leads_to h.nodes e.serial x.serial ≡ false → J x.serial ≡ K x.serial) → named_times h J now e.serial offset edge o ≡ named_times h K now e.serial offset edge o
  same_named offset edge None f = refl
  same_named offset edge (Some x) f = same_sync x.serial offset edge (leads_to h.nodes e.serial x.serial) (f x refl)

  same_item : (side : Edge) (i : Item) → ((b : Node) → previous_in_seq h.nodes e.serial ≡ Some b → J b.serial ≡ K b.serial) → ((x : ℕ) → is_sync_with h.nodes x i ≡ true → leads_to h.nodes e.serial x ≡ false → J x ≡ K x) → item_times h J now e side i ≡ item_times h K now e side i
  same_item side (Offset offset) before f = same_offset offset (previous_in_seq h.nodes e.serial) before
  same_item side (Sync who edge offset) before f =
      same_named offset edge (element_named h.nodes who)
      (λ x q c. f x.serial (ap (has_serial x.serial) q ∙ eq-eqb x.serial x.serial refl) c)
  same_item side (Event who name offset) before f = refl
  same_item side (Repeat who n offset) before f = refl
  same_item side (Key key offset) before f = refl
  same_item Begin Indefinite before f = refl
  same_item End Indefinite before f = refl

  same_items : (side : Edge) (is : List Item) → ((b : Node) → previous_in_seq h.nodes e.serial ≡ Some b → J b.serial ≡ K b.serial) → ((x : ℕ) → list_any (is_sync_with h.nodes x) is ≡ true → leads_to h.nodes e.serial x ≡ false → J x ≡ K x) → flat_map (item_times h J now e side) is ≡ flat_map (item_times h K now e side) is
  same_items side [] before f = refl
  same_items side (i ∷ is) before f =
      let here = same_item side i before (λ x t c. f x (or_left _ _ t) c) in
      let rest = same_items side is before (λ x t c. f x (or_right _ _ t) c) in
      ap (λ ts. ts ++ flat_map (item_times h J now e side) is) here ∙ ap (λ ts. item_times h K now e side i ++ ts) rest

  same_begins : AgreeFor h J K e → begin_times h J now e ≡ begin_times h K now e
  same_begins agree =
      ap (λ ts. rising (numbers ts))
      (same_items Begin (begin_list h.nodes e) agree.before
      (λ x t c. agree.named x (list_any-append (is_sync_with h.nodes x) (begin_list h.nodes e) (end_list e) ∙ or_left _ _ t) c))

  same_ends : AgreeFor h J K e → end_times h J now e ≡ end_times h K now e
  same_ends agree =
      ap rising_times
      (same_items End (end_list e) agree.before
      (λ x t c. agree.named x (list_any-append (is_sync_with h.nodes x) (begin_list h.nodes e) (end_list e) ∙ or_right _ _ t) c))

  -- ---- the implicit duration

  pub same_child : (c : Node) → J c.serial ≡ K c.serial → child_end h J e c ≡ child_end h K e c
  same_child c p = rw p

  pub same_children_in : (test : Node → Bool) (ns : List Node) → ((s : ℕ) → list_any (λ (c : Node). (c.serial == s) && test c) ns ≡ true → J s ≡ K s) → map (child_end h J e) (filter test ns) ≡ map (child_end h K e) (filter test ns)
  same_children_in test [] f = refl
  same_children_in test (n ∷ ns) f = step (test n) (λ t. f n.serial (or_left _ _ (and_from _ _ (eq-eqb n.serial n.serial refl) t))) (same_children_in test ns (λ s t. f s (or_right _ _ t)))
    where
      step : (t : Bool) → (t ≡ true → J n.serial ≡ K n.serial) → map (child_end h J e) (filter test ns) ≡ map (child_end h K e) (filter test ns) → map (child_end h J e) (cond t (n ∷ filter test ns) (filter test ns)) ≡ map (child_end h K e) (cond t (n ∷ filter test ns) (filter test ns))
      step true p q = ap (λ x. x ∷ map (child_end h J e) (filter test ns)) (same_child n (p refl)) ∙ ap (λ xs. child_end h K e n ∷ xs) q
      step false p q = q

  pub same_container : ((s : ℕ) → list_any (λ (c : Node). (c.serial == s) && is_time_child h.nodes e.serial c) h.nodes ≡ true → J s ≡ K s) → container_implicit h J e ≡ container_implicit h K e
  same_container f = rw (same_children_in (is_time_child h.nodes e.serial) h.nodes f)

  pub same_implicit : (k : Kind) → ((s : ℕ) → list_any (λ (c : Node). (c.serial == s) && is_time_child h.nodes e.serial c) h.nodes ≡ true → J s ≡ K s) → implicit_of h J e k ≡ implicit_of h K e k
  same_implicit kind.Par f = same_container f
  same_implicit kind.Seq f = same_container f
  same_implicit kind.Excl f = same_container f
  same_implicit _ f = refl

  pub same_stated : (t : Bool) → (t ≡ true → implicit_duration h J e ≡ implicit_duration h K e) → cond t (implicit_duration h J e) (stated_duration e.attrs.dur) ≡ cond t (implicit_duration h K e) (stated_duration e.attrs.dur)
  same_stated true f = f refl
  same_stated false f = refl

  pub same_simple : AgreeFor h J K e → simple_of h J e ≡ simple_of h K e
  same_simple agree =
      same_stated (has_implicit_duration e) (λ t. same_implicit e.kind (λ c q. agree.children c t q))

  -- ---- the interval

  same_facts : AgreeFor h J K e → facts_of h J now e ≡ facts_of h K now e
  same_facts agree = rw (same_simple agree)

  pub same_interval : AgreeFor h J K e → interval_given h J now e ≡ interval_given h K now e
  same_interval agree =
      ap (λ f. interval_of f (begin_times h J now e) (end_times h J now e)) (same_facts agree)
      ∙ ap (λ bs. interval_of (facts_of h K now e) bs (end_times h J now e)) (same_begins agree)
      ∙ ap (λ es. interval_of (facts_of h K now e) (begin_times h K now e) es) (same_ends agree)
