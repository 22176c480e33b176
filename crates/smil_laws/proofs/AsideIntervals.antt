-- Two documents that are the same but for the descendants of an element that has not begun: the same current intervals.
use Rattle.std.proofs.Common.{◌≡◌, refl, sym, ◌∙◌, ap, ℕ, suc, zero, ◌+◌, List, [], ◌∷◌, ◌++◌, length, Option, Some, None, ℤ, Bool, true, false, arith}
use Rattle.std.specs.Prelude.{cond, not, ◌==◌, ◌||◌, ◌&&◌, drop, find, filter, map, filter_map, flat_map, option_map, option_and_then, ◌+ℤ◌}
use Rattle.std.specs.List.{list_any}
use Rattle.std.proofs.lemmas.Bool.{or_left, or_right, eqb-true, eq-eqb}
use Rattle.std.proofs.lemmas.List.Folds.{list_any-append}
use Rattle.smil_model.specs.declared.times.Time.{Time}
use Rattle.smil_model.specs.declared.times.Time.TheVariants as time
use Rattle.smil_model.specs.declared.diary.Entry.{Entry}
use Rattle.smil_model.specs.declared.diary.LogEntry.{LogEntry}
use Rattle.smil_model.specs.declared.interval.Interval.{Interval}
use Rattle.smil_model.specs.declared.diary.Step.{Step}
use Rattle.smil_model.specs.declared.diary.Step.TheVariants.{Began, Repeated, Ended, Cut}
use Rattle.smil_model.specs.declared.document.Node.{Node}
use Rattle.smil_model.specs.declared.document.Edge.{Edge}
use Rattle.smil_model.specs.declared.document.Edge.TheVariants.{Begin, End}
use Rattle.smil_model.specs.declared.document.Item.{Item}
use Rattle.smil_model.specs.declared.document.Item.TheVariants.{Offset, Sync, Event, Repeat, Key, Indefinite}
use Rattle.smil_model.specs.declared.document.Kind.{Kind}
use Rattle.smil_model.specs.declared.document.Kind.TheVariants as kind
use Rattle.smil_model.specs.Times.{rising_times, within_horizon, rising, numbers}
use Rattle.smil_model.specs.document.Document.{is_element, elements, node_at, time_parent, has_kind, has_serial, is_excl_kind, is_in_excl, is_in_seq, is_time_child, time_children, just_before, previous_child, previous_in_seq, element_named, target, serials}
use Rattle.smil_model.specs.document.Defaults.{begin_list, end_list}
use Rattle.smil_model.specs.diary.Diary.{History, is_active, birth, up_to, with_past}
use Rattle.smil_model.specs.diary.Clocks.{outer}
use Rattle.smil_model.specs.document.Dependencies.{leads_to, is_sync_with, has_implicit_duration}
use Rattle.smil_model.specs.document.Closure.{has}
use Rattle.smil_laws.proofs.AsideDocuments.{SameLogged, NamesAlike, event_same, press_same, media_same, each_both, each_drop, each_filter, map_all, filter_map_all, filter_map_none, any_each, find_within, filter_swap, with_past_each, inactive, is_out, is_aside, other_who, closed, parent_out, child_kept, no_interval}
use Rattle.smil_model.specs.interval.Instances.{is_press, edge_time, is_same_event, hears, heard_times, is_event, is_repeat, event_times, repeat_times, offset_times, named_times, sync_times, item_times, begin_times, end_times}
use Rattle.smil_model.specs.interval.Durations.{stated_duration}
use Rattle.smil_model.specs.interval.Intervals.{interval_of}
use Rattle.smil_model.specs.interval.Current.{child_end, container_implicit, implicit_of, simple_of, present_play, facts_of, interval_given, current_interval}
use Rattle.smil_laws.specs.Agreement.{IsAside, DifferBelow, is_on, SparesAll}
use Rattle.smil_model.specs.reach.Bounds.{has_begun}
use Rattle.smil_laws.proofs.KeptNodes.{parent_same, restart_same, alive_same, reset_same, deferral_same, iteration_same, passed_same, in_seq_same, own_same, parent_time_same, parent_held_same, play_start_same, iteration_start_same, parent_start_same, plays_same, children_same, sync_same}
use Rattle.smil_laws.proofs.RoundsRest.{after_rounds, after_rounds-suc, find-serial}
use Rattle.smil_laws.proofs.ReachClosed.{own_is_all}
use Rattle.smil_laws.proofs.SettledRounds.{rounds_rest}

-- ---- lists

module _ (aside : ℕ → Bool) (p : ℕ) (n1 n2 : List Node) (differ : DifferBelow aside p n1 n2) (log1 log2 : List LogEntry) where
  abbrev k : ℕ → Bool
  k s = not (aside s)

  abbrev with1 : List Entry → History
  with1 ds = record { nodes = n1; log = log1; diary = ds }

  abbrev with2 : List Entry → History
  with2 ds = record { nodes = n2; log = log2; diary = ds }

  pub far : (s : ℕ) → aside s ≡ false → (q : Node) → time_parent n1 s ≡ Some q → is_out aside p q.serial ≡ false
  far s a q f = parent_out aside p n1 differ.in_old s q f ∙ a

  pub children_ok : (q : ℕ) → is_out aside p q ≡ false → time_children n1 q ≡ time_children n2 q
  children_ok q o =
      children_same k n1 n2 differ.same (closed aside p n1 differ.in_old) (closed aside p n2 differ.in_new) log1 log2 [] q (λ c t. ap not (child_kept aside p n1 differ.in_old q o c t)) (λ c t. ap not (child_kept aside p n2 differ.in_new q o c t))

  pub excl_same : (s : ℕ) → aside s ≡ false → is_in_excl n1 s ≡ is_in_excl n2 s
  excl_same s a = ap (has_kind is_excl_kind) (parent_same k n1 n2 differ.same (closed aside p n1 differ.in_old) (closed aside p n2 differ.in_new) log1 log2 [] s (ap not a))

  begin_list_same : (e : Node) → aside e.serial ≡ false → begin_list n1 e ≡ begin_list n2 e
  begin_list_same e a = rw (excl_same e.serial a)

  previous_same : (s : ℕ) → aside s ≡ false → previous_in_seq n1 s ≡ previous_in_seq n2 s
  previous_same s a =
      ap (λ t. cond t (previous_child n1 (time_parent n1 s) s) None) (in_seq_same k n1 n2 differ.same (closed aside p n1 differ.in_old) (closed aside p n2 differ.in_new) log1 log2 [] s (ap not a))
      ∙ ap (λ o. cond (is_in_seq n2 s) o None) (under (time_parent n1 s) (far s a) ∙ ap (λ o. previous_child n2 o s) (parent_same k n1 n2 differ.same (closed aside p n1 differ.in_old) (closed aside p n2 differ.in_new) log1 log2 [] s (ap not a)))
    where
      under : (o : Option Node) → ((q : Node) → o ≡ Some q → is_out aside p q.serial ≡ false) → previous_child n1 o s ≡ previous_child n2 o s
      under None f = refl
      under (Some q) f = ap (just_before s None) (children_ok q.serial (f q refl))

  target_same : (e : ℕ) (who : Option (List ℕ)) → target n1 e who ≡ target n2 e who
  target_same e None = refl
  target_same e (Some id) = differ.ids id

  same_event_same : (e : ℕ) (i j : Item) → is_same_event n1 e i j ≡ is_same_event n2 e i j
  same_event_same e (Event a name o) (Event b name' o') = rw (target_same e a, target_same e b)
  same_event_same e (Repeat a n o) (Repeat b n' o') = rw (target_same e a, target_same e b)
  same_event_same e _ _ = refl

  hears_same : (past : List Entry) (e : Node) (side : Edge) (item : Item) → aside e.serial ≡ false → hears (with1 past) e side item ≡ hears (with2 past) e side item
  hears_same past e side item a =
      rw (alive_same k n1 n2 differ.same (closed aside p n1 differ.in_old) (closed aside p n2 differ.in_new) log1 log2 past e.serial (ap not a), parent_held_same k n1 n2 differ.same (closed aside p n1 differ.in_old) (closed aside p n2 differ.in_new) log1 log2 past e.serial (ap not a), restart_same k n1 n2 differ.same (closed aside p n1 differ.in_old) (closed aside p n2 differ.in_new) log1 log2 past e (ap not a), doubled)
    where
      doubled : list_any (is_same_event n1 e.serial item) (begin_list n1 e) ≡ list_any (is_same_event n2 e.serial item) (begin_list n2 e)
      doubled = ap (list_any (is_same_event n1 e.serial item)) (begin_list_same e a) ∙ any_each (is_same_event n1 e.serial item) (is_same_event n2 e.serial item) (begin_list n2 e) (λ i. same_event_same e.serial item i)

  repeat_same : (past : List Entry) (x n : ℕ) (step : Step) → is_on aside step ≡ false → is_repeat (with1 past) x n step ≡ is_repeat (with2 past) x n step
  repeat_same past x n (Repeated who start) q = by_case (aside x) refl
    where
      by_case : (t : Bool) → aside x ≡ t → is_repeat (with1 past) x n (Repeated who start) ≡ is_repeat (with2 past) x n (Repeated who start)
      by_case true d = let other = other_who aside p who x q d in rw other
      by_case false d = rw (iteration_same k n1 n2 differ.same (closed aside p n1 differ.in_old) (closed aside p n2 differ.in_new) log1 log2 past x (ap not d))
  repeat_same past x n _ q = refl

  -- ---- a diary that spares what is set aside, and in which p has not begun

  module _ (ds : List Entry) (free : SparesAll aside ds) (never : has_begun ds p ≡ false) (named : NamesAlike log1 log2 ds) where
    abbrev h1 : History
    h1 = with1 ds

    abbrev h2 : History
    h2 = with2 ds

    heard_same : (e : Node) (side : Edge) (item : Item) (offset : ℤ) (occ1 occ2 : History → Step → Bool) → aside e.serial ≡ false → ((past : List Entry) (step : Step) → (is_on aside step ≡ false) × SameLogged log1 log2 step → occ1 (with1 past) step ≡ occ2 (with2 past) step) → heard_times h1 e side item offset occ1 ≡ heard_times h2 e side item offset occ2
    heard_same e side item offset occ1 occ2 a occur =
        ap (λ r. filter_map (hear h1 occ1) (drop r (with_past [] ds))) (reset_same k n1 n2 differ.same (closed aside p n1 differ.in_old) (closed aside p n2 differ.in_new) log1 log2 ds e.serial (ap not a))
        ∙ filter_map_all (λ (w : List Entry × Entry). (is_on aside (w.1).step ≡ false) × SameLogged log1 log2 (w.1).step) (hear h1 occ1) (hear h2 occ2) (drop (birth h2 e.serial) (with_past [] ds))
        (each_drop (λ (w : List Entry × Entry). (is_on aside (w.1).step ≡ false) × SameLogged log1 log2 (w.1).step) (birth h2 e.serial) (with_past [] ds) (with_past_each (λ (x : Entry). (is_on aside x.step ≡ false) × SameLogged log1 log2 x.step) [] ds (each_both (λ (x : Entry). is_on aside x.step ≡ false) (λ (x : Entry). SameLogged log1 log2 x.step) ds free named)))
        (λ w q.
        ap (λ m. cond (occ1 (with1 w.0) (w.1).step && hears (with1 w.0) e side item) (Some (within_horizon (m +ℤ offset))) None) (parent_time_same k n1 n2 differ.same (closed aside p n1 differ.in_old) (closed aside p n2 differ.in_new) log1 log2 ds e.serial (w.1).moment (ap not a))
        ∙ ap (λ t. cond (t && hears (with1 w.0) e side item) (Some (within_horizon (outer h2 e.serial (w.1).moment +ℤ offset))) None) (occur w.0 (w.1).step q)
        ∙ ap (λ t. cond (occ2 (with2 w.0) (w.1).step && t) (Some (within_horizon (outer h2 e.serial (w.1).moment +ℤ offset))) None) (hears_same w.0 e side item a))
      where
        hear : History → (History → Step → Bool) → List Entry × Entry → Option Time
        hear h occ = λ (w : List Entry × Entry). cond (occ (up_to h w.0) (w.1).step && hears (up_to h w.0) e side item) (Some (within_horizon (outer h e.serial (w.1).moment +ℤ offset))) None

    quiet : (e : Node) (h : History) (x j : ℕ) (offset : ℤ) (edge : Edge) → k x ≡ false → filter_map (λ (y : Entry). edge_time h e.serial x offset y.moment edge y.step) (drop j ds) ≡ []
    quiet e h x j offset edge kx =
        filter_map_none (λ (y : Entry). is_on aside y.step ≡ false) (λ (y : Entry). edge_time h e.serial x offset y.moment edge y.step) (drop j ds)
        (each_drop (λ (y : Entry). is_on aside y.step ≡ false) j ds free) (λ y q. nothing y.moment edge y.step q)
      where
        a : aside x ≡ true
        a = is_aside aside p x kx

        nothing : (m : ℤ) (edge : Edge) (step : Step) → is_on aside step ≡ false → edge_time h e.serial x offset m edge step ≡ None
        nothing m Begin (Began who begin) q = rw (other_who aside p who x q a)
        nothing m End (Ended who end') q = rw (other_who aside p who x q a)
        nothing m End (Cut who) q = rw (other_who aside p who x q a)
        nothing m Begin _ q = refl
        nothing m End _ q = refl

    module _ (J1 J2 : ℕ → Option Interval) (agree : (x : ℕ) → J1 x ≡ J2 x) (e : Node) (a : aside e.serial ≡ false) where
      -- ---- the implicit duration

      child_same : (c : Node) → aside c.serial ≡ false → child_end h1 J1 e c ≡ child_end h2 J2 e c
      child_same c b = rw (plays_same k n1 n2 differ.same (closed aside p n1 differ.in_old) (closed aside p n2 differ.in_new) log1 log2 ds c.serial (ap not b), deferral_same k n1 n2 differ.same (closed aside p n1 differ.in_old) (closed aside p n2 differ.in_new) log1 log2 ds c.serial (ap not b), agree c.serial)

      container_same : container_implicit h1 J1 e ≡ container_implicit h2 J2 e
      container_same = by_case (e.serial == p) refl
        where
          by_case : (t : Bool) → e.serial == p ≡ t → container_implicit h1 J1 e ≡ container_implicit h2 J2 e
          by_case true d = let idle : is_active ds e.serial ≡ false = inactive ds e.serial (ap (has_begun ds) (eqb-true e.serial p d) ∙ never) in rw idle
          by_case false d =
              let o : is_out aside p e.serial ≡ false = ap (λ t. t || aside e.serial) d ∙ a in
              let cs : map (child_end h1 J1 e) (time_children n1 e.serial) ≡ map (child_end h2 J2 e) (time_children n2 e.serial) =
              ap (map (child_end h1 J1 e)) (children_ok e.serial o)
              ∙ map_all (λ (c : Node). aside c.serial ≡ false) (child_end h1 J1 e) (child_end h2 J2 e) (time_children n2 e.serial)
              (each_filter (λ (c : Node). aside c.serial ≡ false) (is_time_child n2 e.serial) n2 (child_kept aside p n2 differ.in_new e.serial o)) child_same in
              rw (iteration_start_same k n1 n2 differ.same (closed aside p n1 differ.in_old) (closed aside p n2 differ.in_new) log1 log2 ds e.serial (ap not a), cs)

      implicit_same : (kd : Kind) → implicit_of h1 J1 e kd ≡ implicit_of h2 J2 e kd
      implicit_same kind.Par = container_same
      implicit_same kind.Seq = container_same
      implicit_same kind.Excl = container_same
      implicit_same kind.Img = refl
      implicit_same kind.Text = refl
      implicit_same kind.Brush = refl
      implicit_same kind.Set = refl
      implicit_same _ = media_same log1 log2 n1 n2 ds named e.serial

      pub simple_same : simple_of h1 J1 e ≡ simple_of h2 J2 e
      simple_same = ap (λ t. cond (has_implicit_duration e) t (stated_duration e.attrs.dur)) (implicit_same e.kind)

    module _ (J1 J2 : ℕ → Option Interval) (agree : (x : ℕ) → J1 x ≡ J2 x) (none : (x : ℕ) → k x ≡ false → J1 x ≡ None) (now : ℤ) (e : Node) (here : node_at (elements n1) e.serial ≡ Some e) (a : aside e.serial ≡ false) where
      syncs : (x : ℕ) (offset : ℤ) (edge : Edge) (cyclic : Bool) → sync_times h1 J1 now e.serial x offset edge cyclic ≡ sync_times h2 J2 now e.serial x offset edge cyclic
      syncs x offset edge cyclic = sync_same k n1 n2 differ.same (closed aside p n1 differ.in_old) (closed aside p n2 differ.in_new) log1 log2 ds J1 J2 agree none now e (ap not a) (quiet e) x offset edge cyclic

      offsets : (offset : ℤ) → offset_times h1 J1 now e.serial offset (previous_in_seq n1 e.serial) ≡ offset_times h2 J2 now e.serial offset (previous_in_seq n2 e.serial)
      offsets offset = ap (offset_times h1 J1 now e.serial offset) (previous_same e.serial a) ∙ by_option (previous_in_seq n2 e.serial)
        where
          by_option : (o : Option Node) → offset_times h1 J1 now e.serial offset o ≡ offset_times h2 J2 now e.serial offset o
          by_option None = ap (λ v. within_horizon (v +ℤ offset) ∷ []) (parent_start_same k n1 n2 differ.same (closed aside p n1 differ.in_old) (closed aside p n2 differ.in_new) log1 log2 ds e.serial (ap not a))
          by_option (Some b) = syncs b.serial offset End false

      nameds : (offset : ℤ) (edge : Edge) (o1 o2 : Option Node) → option_map (λ (n : Node). n.serial) o1 ≡ option_map (λ (n : Node). n.serial) o2 → ((x : ℕ) → has_serial x o1 ≡ true → leads_to n1 e.serial x ≡ leads_to n2 e.serial x) → named_times h1 J1 now e.serial offset edge o1 ≡ named_times h2 J2 now e.serial offset edge o2
      nameds offset edge None None q mark = refl
      nameds offset edge None (Some y) q mark = cc
      nameds offset edge (Some x) None q mark = cc
      nameds offset edge (Some x) (Some y) q mark =
          let one : x.serial ≡ y.serial = cc in
          syncs x.serial offset edge (leads_to n1 e.serial x.serial)
          ∙ ap (sync_times h2 J2 now e.serial x.serial offset edge) (mark x.serial (eq-eqb x.serial x.serial refl))
          ∙ ap (λ s. sync_times h2 J2 now e.serial s offset edge (leads_to n2 e.serial s)) one

      events : (side : Edge) (item : Item) (offset : ℤ) (name : List ℕ) (o : Option ℕ) → event_times h1 e side item offset name o ≡ event_times h2 e side item offset name o
      events side item offset name None = refl
      events side item offset name (Some x) = heard_same e side item offset (λ past step. is_event past.log x name step) (λ past step. is_event past.log x name step) a (λ past step q. event_same log1 log2 x name step q.1)

      repeats : (side : Edge) (item : Item) (offset : ℤ) (n : ℕ) (o : Option ℕ) → repeat_times h1 e side item offset n o ≡ repeat_times h2 e side item offset n o
      repeats side item offset n None = refl
      repeats side item offset n (Some x) = heard_same e side item offset (λ past step. is_repeat past x n step) (λ past step. is_repeat past x n step) a (λ past step q. repeat_same past x n step q.0)

      item_same : (side : Edge) (i : Item) → ((x : ℕ) → is_sync_with n1 x i ≡ true → leads_to n1 e.serial x ≡ leads_to n2 e.serial x) → item_times h1 J1 now e side i ≡ item_times h2 J2 now e side i
      item_same side (Offset offset) mark = offsets offset
      item_same side (Sync who edge offset) mark = nameds offset edge (element_named n1 who) (element_named n2 who) (differ.ids who) mark
      item_same side (Event who name offset) mark =
          events side (Event who name offset) offset name (target n1 e.serial who) ∙ ap (event_times h2 e side (Event who name offset) offset name) (target_same e.serial who)
      item_same side (Repeat who n offset) mark =
          repeats side (Repeat who n offset) offset n (target n1 e.serial who) ∙ ap (repeat_times h2 e side (Repeat who n offset) offset n) (target_same e.serial who)
      item_same side (Key key offset) mark =
          heard_same e side (Key key offset) offset (λ past step. is_press past.log key step) (λ past step. is_press past.log key step) a (λ past step q. press_same log1 log2 key step q.1)
      item_same Begin Indefinite mark = refl
      item_same End Indefinite mark = refl

      items_same : (side : Edge) (is : List Item) → ((x : ℕ) → list_any (is_sync_with n1 x) is ≡ true → leads_to n1 e.serial x ≡ leads_to n2 e.serial x) → flat_map (item_times h1 J1 now e side) is ≡ flat_map (item_times h2 J2 now e side) is
      items_same side [] mark = refl
      items_same side (i ∷ is) mark =
          let one = item_same side i (λ x t. mark x (or_left _ _ t)) in
          let rest = items_same side is (λ x t. mark x (or_right _ _ t)) in
          ap (λ ts. ts ++ flat_map (item_times h1 J1 now e side) is) one ∙ ap (λ ts. item_times h2 J2 now e side i ++ ts) rest

      begins_same : begin_times h1 J1 now e ≡ begin_times h2 J2 now e
      begins_same =
          ap (λ ts. rising (numbers ts))
          (items_same Begin (begin_list n1 e) (λ x t. differ.loops e x here a (list_any-append (is_sync_with n1 x) (begin_list n1 e) (end_list e) ∙ or_left _ _ t))
          ∙ ap (flat_map (item_times h2 J2 now e Begin)) (begin_list_same e a))

      ends_same : end_times h1 J1 now e ≡ end_times h2 J2 now e
      ends_same =
          ap rising_times (items_same End (end_list e) (λ x t. differ.loops e x here a (list_any-append (is_sync_with n1 x) (begin_list n1 e) (end_list e) ∙ or_right _ _ t)))

      play_same : present_play h1 now e ≡ present_play h2 now e
      play_same =
          rw (plays_same k n1 n2 differ.same (closed aside p n1 differ.in_old) (closed aside p n2 differ.in_new) log1 log2 ds e.serial (ap not a), play_start_same k n1 n2 differ.same (closed aside p n1 differ.in_old) (closed aside p n2 differ.in_new) log1 log2 ds e.serial (ap not a), iteration_start_same k n1 n2 differ.same (closed aside p n1 differ.in_old) (closed aside p n2 differ.in_new) log1 log2 ds e.serial (ap not a), iteration_same k n1 n2 differ.same (closed aside p n1 differ.in_old) (closed aside p n2 differ.in_new) log1 log2 ds e.serial (ap not a), parent_time_same k n1 n2 differ.same (closed aside p n1 differ.in_old) (closed aside p n2 differ.in_new) log1 log2 ds e.serial now (ap not a), own_same k n1 n2 differ.same (closed aside p n1 differ.in_old) (closed aside p n2 differ.in_new) log1 log2 ds e.serial now (ap not a))

      facts_same : facts_of h1 J1 now e ≡ facts_of h2 J2 now e
      facts_same =
          rw (deferral_same k n1 n2 differ.same (closed aside p n1 differ.in_old) (closed aside p n2 differ.in_new) log1 log2 ds e.serial (ap not a), alive_same k n1 n2 differ.same (closed aside p n1 differ.in_old) (closed aside p n2 differ.in_new) log1 log2 ds e.serial (ap not a), play_same, parent_start_same k n1 n2 differ.same (closed aside p n1 differ.in_old) (closed aside p n2 differ.in_new) log1 log2 ds e.serial (ap not a), plays_same k n1 n2 differ.same (closed aside p n1 differ.in_old) (closed aside p n2 differ.in_new) log1 log2 ds e.serial (ap not a), passed_same k n1 n2 differ.same (closed aside p n1 differ.in_old) (closed aside p n2 differ.in_new) log1 log2 ds e.serial (ap not a), restart_same k n1 n2 differ.same (closed aside p n1 differ.in_old) (closed aside p n2 differ.in_new) log1 log2 ds e (ap not a), simple_same J1 J2 agree e a)

      pub interval_same : interval_given h1 J1 now e ≡ interval_given h2 J2 now e
      interval_same =
          ap (λ f. interval_of f (begin_times h1 J1 now e) (end_times h1 J1 now e)) facts_same
          ∙ ap (λ bs. interval_of (facts_of h2 J2 now e) bs (end_times h1 J1 now e)) begins_same
          ∙ ap (λ es. interval_of (facts_of h2 J2 now e) (begin_times h2 J2 now e) es) ends_same

    -- ---- the rounds

    -- an element that is kept stands in both, and the same node
    pub node_same : (s : ℕ) → aside s ≡ false → node_at (elements n1) s ≡ node_at (elements n2) s
    node_same s a =
        find_within (λ (n : Node). n.serial == s) (λ (n : Node). k n.serial) (elements n1) (λ n t. ap not (ap aside (eqb-true n.serial s t) ∙ a))
        ∙ ap (find (λ (n : Node). n.serial == s)) (elements_same)
        ∙ sym (find_within (λ (n : Node). n.serial == s) (λ (n : Node). k n.serial) (elements n2) (λ n t. ap not (ap aside (eqb-true n.serial s t) ∙ a)))
      where
        elements_same : filter (λ (n : Node). k n.serial) (elements n1) ≡ filter (λ (n : Node). k n.serial) (elements n2)
        elements_same = filter_swap (λ (n : Node). k n.serial) is_element n1 ∙ ap (filter is_element) differ.same ∙ sym (filter_swap (λ (n : Node). k n.serial) is_element n2)

    module _ (now : ℤ) where
      none_after : (log : List LogEntry) (nodes : List Node) → IsAside aside p nodes → (j s : ℕ) → aside s ≡ true → after_rounds (record { nodes = nodes; log = log; diary = ds }) now j s ≡ None
      none_after log nodes b zero s t = refl
      none_after log nodes b (suc j) s t =
          after_rounds-suc (record { nodes = nodes; log = log; diary = ds }) now j s ∙ at_node (node_at (elements nodes) s) refl (find-serial s (elements nodes))
        where
          at_node : (o : Option Node) → node_at (elements nodes) s ≡ o → ((e : Node) → o ≡ Some e → e.serial ≡ s) → option_and_then (interval_given (record { nodes = nodes; log = log; diary = ds }) (after_rounds (record { nodes = nodes; log = log; diary = ds }) now j) now) o ≡ None
          at_node None q f = refl
          at_node (Some e) q f =
              let one : e.serial ≡ s = f e refl in
              no_interval aside p nodes b log ds free never (after_rounds (record { nodes = nodes; log = log; diary = ds }) now j) now e (ap (node_at (elements nodes)) one ∙ q) (ap aside one ∙ t)

      rounds_same : (j s : ℕ) → after_rounds h1 now j s ≡ after_rounds h2 now j s
      rounds_same zero s = refl
      rounds_same (suc j) s = by_case (aside s) refl (rounds_same j)
        where
          at_node : (o : Option Node) → aside s ≡ false → node_at (elements n1) s ≡ o → ((e : Node) → o ≡ Some e → e.serial ≡ s) → ((x : ℕ) → after_rounds h1 now j x ≡ after_rounds h2 now j x) → option_and_then (interval_given h1 (after_rounds h1 now j) now) o ≡ option_and_then (interval_given h2 (after_rounds h2 now j) now) o
          at_node None a q f below = refl
          at_node (Some e) a q f below =
              let one : e.serial ≡ s = f e refl in
              interval_same (after_rounds h1 now j) (after_rounds h2 now j) below (λ x kx. none_after log1 n1 differ.in_old j x (is_aside aside p x kx)) now e (ap (node_at (elements n1)) one ∙ q) (ap aside one ∙ a)

          by_case : (t : Bool) → aside s ≡ t → ((x : ℕ) → after_rounds h1 now j x ≡ after_rounds h2 now j x) → after_rounds h1 now (suc j) s ≡ after_rounds h2 now (suc j) s
          by_case true a below = none_after log1 n1 differ.in_old (suc j) s a ∙ sym (none_after log2 n2 differ.in_new (suc j) s a)
          by_case false a below =
              after_rounds-suc h1 now j s
              ∙ at_node (node_at (elements n1) s) a refl (find-serial s (elements n1)) below
              ∙ ap (option_and_then (interval_given h2 (after_rounds h2 now j) now)) (node_same s a)
              ∙ sym (after_rounds-suc h2 now j s)

      pub current_none : (s : ℕ) → aside s ≡ true → current_interval h1 now s ≡ None
      current_none s a = none_after log1 n1 differ.in_old (length (elements n1)) s a

      absent : (h : History) (j s : ℕ) → node_at (elements h.nodes) s ≡ None → after_rounds h now j s ≡ None
      absent h zero s q = refl
      absent h (suc j) s q = after_rounds-suc h now j s ∙ ap (option_and_then (interval_given h (after_rounds h now j) now)) q

      -- both give the same current interval to each element, and none to what is set aside
      pub current_same : (s : ℕ) → current_interval h1 now s ≡ current_interval h2 now s
      current_same s = by_case (aside s) refl
        where
          at_node : (o : Option Node) → aside s ≡ false → node_at (elements n1) s ≡ o → ((e : Node) → o ≡ Some e → e.serial ≡ s) → current_interval h1 now s ≡ current_interval h2 now s
          at_node None a q f = absent h1 (length (elements n1)) s q ∙ sym (absent h2 (length (elements n2)) s (sym (node_same s a) ∙ q))
          at_node (Some e) a q f =
              let one : e.serial ≡ s = f e refl in
              let i1 : has (serials (elements n1)) s ≡ true = sym (ap (has (serials (elements n1))) one) ∙ own_is_all n1 e.serial e (ap (node_at (elements n1)) one ∙ q) in
              let i2 : has (serials (elements n2)) s ≡ true = sym (ap (has (serials (elements n2))) one) ∙ own_is_all n2 e.serial e (ap (node_at (elements n2)) one ∙ sym (node_same s a) ∙ q) in
              let both : length (elements n1) + length (elements n2) ≡ length (elements n2) + length (elements n1) = omega arith in
              rounds_rest h1 differ.in_old.first now (length (elements n2)) s i1
              ∙ rounds_same (length (elements n1) + length (elements n2)) s
              ∙ ap (λ j. after_rounds h2 now j s) both
              ∙ sym (rounds_rest h2 differ.in_new.first now (length (elements n1)) s i2)

          by_case : (t : Bool) → aside s ≡ t → current_interval h1 now s ≡ current_interval h2 now s
          by_case true a = current_none s a ∙ sym (none_after log2 n2 differ.in_new (length (elements n2)) s a)
          by_case false a = at_node (node_at (elements n1) s) a refl (find-serial s (elements n1))
