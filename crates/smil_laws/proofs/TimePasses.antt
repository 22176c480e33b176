-- While nothing happens, the passing of time changes no current interval and no key.
use Rattle.std.proofs.Common.{◌≡◌, refl, sym, ◌∙◌, ap, ℕ, suc, zero, ◌+◌, List, [], ◌∷◌, ◌++◌, Option, Some, None, ℤ, Bool, true, false, arith, add-one}
use Rattle.std.specs.Prelude.{pos, ◌+ℤ◌, ◌-ℤ◌, ◌||◌, ◌&&◌, not, map, cond, flat_map, option_to_list, length, is_some}
use Rattle.std.proofs.lemmas.Bool.{or_parts}
use Rattle.std.proofs.lemmas.Int.{ints}
use Rattle.smil_model.specs.declared.times.Time.{Time}
use Rattle.smil_model.specs.declared.times.Time.TheVariants as time
use Rattle.smil_model.specs.declared.interval.Interval.{Interval}
use Rattle.smil_model.specs.declared.document.Node.{Node}
use Rattle.smil_model.specs.declared.document.Edge.{Edge}
use Rattle.smil_model.specs.declared.document.Edge.TheVariants.{Begin, End}
use Rattle.smil_model.specs.declared.document.Item.{Item}
use Rattle.smil_model.specs.declared.document.Item.TheVariants.{Offset, Sync, Event, Repeat, Key, Indefinite}
use Rattle.smil_model.specs.declared.view.State.{State}
use Rattle.smil_model.specs.declared.view.State.TheVariants as state
use Rattle.smil_model.specs.declared.view.Shown.TheVariants as shown
use Rattle.smil_model.specs.declared.view.Shown.{Shown}
use Rattle.smil_model.specs.declared.view.View.{View}
use Rattle.smil_model.specs.declared.view.ViewFacts.{ViewFacts}
use Rattle.smil_model.specs.shown.Views.{shown_time, shown_or, shown_begin, shown_end, state_by, view_by, view_facts, shows_under, is_frozen_in, time_ancestors, view_of, views}
use Rattle.smil_model.specs.Times.{later_time, rising_times, rising, numbers, within_horizon}
use Rattle.smil_model.specs.document.Document.{elements, element_named, previous_in_seq, time_parent}
use Rattle.smil_model.specs.document.Defaults.{begin_list, end_list}
use Rattle.smil_model.specs.diary.Diary.{History, is_active, is_paused}
use Rattle.smil_model.specs.diary.Clocks.{until, stands_by, elapsed, run, outer_under, outer, stands, stands_under, outer_stands, to_document, between, iteration_start}
use Rattle.smil_model.specs.document.Dependencies.{leads_to}
use Rattle.smil_model.specs.interval.Instances.{happened_times, expected_times, interval_edge, sync_times, offset_times, named_times, item_times, begin_times, end_times}
use Rattle.smil_model.specs.interval.Intervals.{interval_of}
use Rattle.smil_model.specs.interval.Current.{present_play, facts_of, interval_given, in_table, table, simple_of}
use Rattle.smil_model.specs.happening.Keys.{coming_begin, coming_end, coming_end_at, coming_repeat, coming_repeat_at, coming_of, coming_from, coming}

run_on : (a b v : ℤ) → (a +ℤ pos 1) +ℤ (v -ℤ (b +ℤ pos 1)) ≡ a +ℤ (v -ℤ b)
run_on a b v = omega (arith, ints)

ahead_stays : (a b : ℤ) (n : ℕ) → (a +ℤ pos n) -ℤ (b +ℤ pos n) ≡ a -ℤ b
ahead_stays a b n = omega (arith, ints)

map_option : {A B : Type 0} (f g : A → B) (o : Option A) → ((x : A) → f x ≡ g x) → map f (option_to_list o) ≡ map g (option_to_list o)
map_option f g None same = refl
map_option f g (Some x) same = ap (λ y. y ∷ []) (same x)

map_each : {A B : Type 0} (f g : A → B) (xs : List A) → ((x : A) → f x ≡ g x) → map f xs ≡ map g xs
map_each f g [] same = refl
map_each f g (x ∷ xs) same = ap (λ y. y ∷ map f xs) (same x) ∙ ap (λ ys. g x ∷ ys) (map_each f g xs same)

flat_map_each : {A B : Type 0} (f g : A → List B) (xs : List A) → ((x : A) → f x ≡ g x) → flat_map f xs ≡ flat_map g xs
flat_map_each f g [] same = refl
flat_map_each f g (x ∷ xs) same = ap (λ y. y ++ flat_map f xs) (same x) ∙ ap (λ ys. g x ++ ys) (flat_map_each f g xs same)

-- while the clock stands, nothing that is shown depends on the shift
still_time : (f : ViewFacts) (a b : ℤ) (t : Time) → f.standing ≡ true → shown_time (record f { shift = a }) t ≡ shown_time (record f { shift = b }) t
still_time f a b (time.At v) q = ap (λ t. cond t shown.Standing (shown.At (v +ℤ a))) q ∙ sym (ap (λ t. cond t shown.Standing (shown.At (v +ℤ b))) q)
still_time f a b time.Indefinite q = refl
still_time f a b time.Unresolved q = refl

still_begin : (f : ViewFacts) (a b : ℤ) (t : State) → f.standing ≡ true → shown_begin (record f { shift = a }) t ≡ shown_begin (record f { shift = b }) t
still_begin f a b state.Waiting q = waits f.interval
  where
    waits : (o : Option Interval) → shown_or (λ (i : Interval). shown_time (record f { shift = a }) (time.At i.begin)) o ≡ shown_or (λ (i : Interval). shown_time (record f { shift = b }) (time.At i.begin)) o
    waits None = refl
    waits (Some i) = still_time f a b (time.At i.begin) q
still_begin f a b state.Idle q = refl
still_begin f a b state.Active q = refl
still_begin f a b state.Paused q = refl
still_begin f a b state.Deferred q = refl
still_begin f a b state.Frozen q = refl
still_begin f a b state.Done q = refl

still_present : (f : ViewFacts) (a b : ℤ) (o : Option Interval) → f.standing ≡ true → shown_or (λ (i : Interval). shown_time (record f { shift = a }) i.«end») o ≡ shown_or (λ (i : Interval). shown_time (record f { shift = b }) i.«end») o
still_present f a b None q = refl
still_present f a b (Some i) q = still_time f a b i.«end» q

still_end : (f : ViewFacts) (a b : ℤ) (t : State) → f.standing ≡ true → shown_end (record f { shift = a }) t ≡ shown_end (record f { shift = b }) t
still_end f a b state.Idle q = refl
still_end f a b state.Waiting q = still_present f a b f.interval q
still_end f a b state.Active q = still_present f a b f.interval q
still_end f a b state.Paused q = still_present f a b f.interval q
still_end f a b state.Deferred q = refl
still_end f a b state.Frozen q = refl
still_end f a b state.Done q = refl

shown_as : ViewFacts → Shown → Shown → View
shown_as f begin finish = record {
  serial = f.serial;
  state = state_by f;
  begin = begin;
  «end» = finish;
  iteration = f.iteration;
  finished = f.finished;
}

still_view : (f : ViewFacts) (a b : ℤ) → f.standing ≡ true → view_by (record f { shift = a }) ≡ view_by (record f { shift = b })
unfolding shown_as
still_view f a b q =
    ap (λ x. shown_as f x (shown_end (record f { shift = a }) (state_by f))) (still_begin f a b (state_by f) q)
    ∙ ap (shown_as f (shown_begin (record f { shift = b }) (state_by f))) (still_end f a b (state_by f) q)

-- no entry is later than the moment, and an element that is not paused is held where its parent is
module _ (h : History) (m : ℕ) (settled : until (pos m) h.diary ≡ h.diary) (chained : (s : ℕ) → is_paused h.diary s ≡ false → stands h s ≡ outer_stands h s) where
  own-next : (s : ℕ) → run h s (pos (suc m)) ≡ run h s (pos m) +ℤ pos (cond (stands h s) 0 1)
  own-next s = ap (λ d. pos (elapsed h s m + cond (stands_by h.nodes d s) 0 1)) settled

  under-next : (o : Option Node) → outer_under h o (pos (suc m)) ≡ outer_under h o (pos m) +ℤ pos (cond (stands_under h o) 0 1)
  under-next None = ap pos (sym (add-one m))
  under-next (Some p) = own-next p.serial

  parent-next : (s : ℕ) → outer h s (pos (suc m)) ≡ outer h s (pos m) +ℤ pos (cond (outer_stands h s) 0 1)
  parent-next s = under-next (time_parent h.nodes s)

  own-runs : (s : ℕ) → stands h s ≡ false → run h s (pos (suc m)) ≡ run h s (pos m) +ℤ pos 1
  own-runs s runs = own-next s ∙ ap (λ t. run h s (pos m) +ℤ pos (cond t 0 1)) runs

  parent-runs : (s : ℕ) → outer_stands h s ≡ false → outer h s (pos (suc m)) ≡ outer h s (pos m) +ℤ pos 1
  parent-runs s runs = parent-next s ∙ ap (λ t. outer h s (pos m) +ℤ pos (cond t 0 1)) runs

  carried-next : (x e : ℕ) (v : ℤ) → outer_stands h e ≡ false → outer_stands h x ≡ false → between h x e v (pos (suc m)) ≡ between h x e v (pos m)
  carried-next x e v p q =
      ap (λ a. a +ℤ (v -ℤ outer h x (pos (suc m)))) (parent-runs e p)
      ∙ ap (λ b. (outer h e (pos m) +ℤ pos 1) +ℤ (v -ℤ b)) (parent-runs x q)
      ∙ run_on (outer h e (pos m)) (outer h x (pos m)) v

  moment-next : (s : ℕ) (v : ℤ) → outer_stands h s ≡ false → to_document h s v (pos (suc m)) ≡ to_document h s v (pos m)
  moment-next s v p =
      ap (λ b. pos (suc m) +ℤ (v -ℤ b)) (parent-runs s p)
      ∙ ap (λ a. pos a +ℤ (v -ℤ (outer h s (pos m) +ℤ pos 1))) (sym (add-one m))
      ∙ run_on (pos m) (outer h s (pos m)) v

  -- ---- instance times

  module _ (J : ℕ → Option Interval) (e : Node) where
    expected-next : (x : ℕ) (offset : ℤ) (edge : Edge) → expected_times h J (pos (suc m)) e.serial x offset edge ≡ expected_times h J (pos m) e.serial x offset edge
    expected-next x offset edge = by_held (outer_stands h e.serial || outer_stands h x) refl
      where
        by_held : (t : Bool) → (outer_stands h e.serial || outer_stands h x) ≡ t → cond t [] (map (λ v. within_horizon (between h x e.serial v (pos (suc m)) +ℤ offset)) (option_to_list (interval_edge edge (is_active h.diary x) (J x)))) ≡ cond t [] (map (λ v. within_horizon (between h x e.serial v (pos m) +ℤ offset)) (option_to_list (interval_edge edge (is_active h.diary x) (J x))))
        by_held true q = refl
        by_held false q =
            let runs = or_parts (outer_stands h e.serial) (outer_stands h x) q in
            map_option (λ v. within_horizon (between h x e.serial v (pos (suc m)) +ℤ offset)) (λ v. within_horizon (between h x e.serial v (pos m) +ℤ offset))
            (interval_edge edge (is_active h.diary x) (J x))
            (λ v. ap (λ z. within_horizon (z +ℤ offset)) (carried-next x e.serial v runs.0 runs.1))

    sync-next : (x : ℕ) (offset : ℤ) (edge : Edge) (cyclic : Bool) → sync_times h J (pos (suc m)) e.serial x offset edge cyclic ≡ sync_times h J (pos m) e.serial x offset edge cyclic
    sync-next x offset edge true = refl
    sync-next x offset edge false = ap (λ ts. happened_times h e.serial x offset edge ++ ts) (expected-next x offset edge)

    offset-next : (offset : ℤ) (o : Option Node) → offset_times h J (pos (suc m)) e.serial offset o ≡ offset_times h J (pos m) e.serial offset o
    offset-next offset None = refl
    offset-next offset (Some b) = sync-next b.serial offset End false

    named-next : (offset : ℤ) (edge : Edge) (o : Option Node) → named_times h J (pos (suc m)) e.serial offset edge o ≡ named_times h J (pos m) e.serial offset edge o
    named-next offset edge None = refl
    named-next offset edge (Some x) = sync-next x.serial offset edge (leads_to h.nodes e.serial x.serial)

    item-next : (side : Edge) (i : Item) → item_times h J (pos (suc m)) e side i ≡ item_times h J (pos m) e side i
    item-next side (Offset offset) = offset-next offset (previous_in_seq h.nodes e.serial)
    item-next side (Sync who edge offset) = named-next offset edge (element_named h.nodes who)
    item-next side (Event who name offset) = refl
    item-next side (Repeat who n offset) = refl
    item-next side (Key key offset) = refl
    item-next Begin Indefinite = refl
    item-next End Indefinite = refl

    begins-next : begin_times h J (pos (suc m)) e ≡ begin_times h J (pos m) e
    begins-next = ap (λ ts. rising (numbers ts)) (flat_map_each (item_times h J (pos (suc m)) e Begin) (item_times h J (pos m) e Begin) (begin_list h.nodes e) (item-next Begin))

    ends-next : end_times h J (pos (suc m)) e ≡ end_times h J (pos m) e
    ends-next = ap rising_times (flat_map_each (item_times h J (pos (suc m)) e End) (item_times h J (pos m) e End) (end_list e) (item-next End))

    -- ---- the interval

    ahead-next : (t : Bool) → is_paused h.diary e.serial ≡ t → cond t None (Some (outer h e.serial (pos (suc m)) -ℤ run h e.serial (pos (suc m)))) ≡ cond t None (Some (outer h e.serial (pos m) -ℤ run h e.serial (pos m)))
    ahead-next true q = refl
    ahead-next false q =
        ap (λ a. Some (a -ℤ run h e.serial (pos (suc m)))) (parent-next e.serial)
        ∙ ap (λ b. Some ((outer h e.serial (pos m) +ℤ pos (cond (outer_stands h e.serial) 0 1)) -ℤ b)) (own-next e.serial)
        ∙ ap (λ t. Some ((outer h e.serial (pos m) +ℤ pos (cond (outer_stands h e.serial) 0 1)) -ℤ (run h e.serial (pos m) +ℤ pos (cond t 0 1)))) (chained e.serial q)
        ∙ ap Some (ahead_stays (outer h e.serial (pos m)) (run h e.serial (pos m)) (cond (outer_stands h e.serial) 0 1))

    play-next : present_play h (pos (suc m)) e ≡ present_play h (pos m) e
    play-next = rw (ahead-next (is_paused h.diary e.serial) refl)

    facts-next : facts_of h J (pos (suc m)) e ≡ facts_of h J (pos m) e
    facts-next = rw play-next

    interval-next : interval_given h J (pos (suc m)) e ≡ interval_given h J (pos m) e
    interval-next =
        ap (λ f. interval_of f (begin_times h J (pos (suc m)) e) (end_times h J (pos (suc m)) e)) facts-next
        ∙ ap (λ bs. interval_of (facts_of h J (pos m) e) bs (end_times h J (pos (suc m)) e)) begins-next
        ∙ ap (λ es. interval_of (facts_of h J (pos m) e) (begin_times h J (pos m) e) es) ends-next

  pub table-next : (k : ℕ) → table h (pos (suc m)) k ≡ table h (pos m) k
  table-next zero = refl
  table-next (suc k) =
      ap (λ known. map (λ (e : Node). (e.serial, interval_given h (in_table known) (pos (suc m)) e)) (elements h.nodes)) (table-next k)
      ∙ map_each (λ (e : Node). (e.serial, interval_given h (in_table (table h (pos m) k)) (pos (suc m)) e)) (λ (e : Node). (e.serial, interval_given h (in_table (table h (pos m) k)) (pos m) e)) (elements h.nodes)
      (λ e. ap (λ i. (e.serial, i)) (interval-next (in_table (table h (pos m) k)) e))

  -- ---- what comes

  begin-key-next : (place : ℕ) (e : Node) (o : Option Interval) → outer_stands h e.serial ≡ false → coming_begin h (pos (suc m)) place e o ≡ coming_begin h (pos m) place e o
  begin-key-next place e None p = refl
  begin-key-next place e (Some i) p = rw (moment-next e.serial i.begin p)

  end-at-next : (place : ℕ) (e : Node) (b : ℤ) (t : Time) → outer_stands h e.serial ≡ false → coming_end_at h (pos (suc m)) place e b t ≡ coming_end_at h (pos m) place e b t
  end-at-next place e b (time.At v) p = rw (moment-next e.serial v p)
  end-at-next place e b time.Indefinite p = refl
  end-at-next place e b time.Unresolved p = refl

  end-key-next : (place : ℕ) (e : Node) (o : Option Interval) → outer_stands h e.serial ≡ false → coming_end h (pos (suc m)) place e o ≡ coming_end h (pos m) place e o
  end-key-next place e None p = refl
  end-key-next place e (Some i) p = end-at-next place e i.begin i.«end» p

  own-moment-next : (s : ℕ) (v : ℤ) → stands h s ≡ false → pos (suc m) +ℤ (v -ℤ run h s (pos (suc m))) ≡ pos m +ℤ (v -ℤ run h s (pos m))
  own-moment-next s v p =
      ap (λ b. pos (suc m) +ℤ (v -ℤ b)) (own-runs s p)
      ∙ ap (λ a. pos a +ℤ (v -ℤ (run h s (pos m) +ℤ pos 1))) (sym (add-one m))
      ∙ run_on (pos m) (run h s (pos m)) v

  repeat-at-next : (place : ℕ) (e : Node) (d t : Time) → stands h e.serial ≡ false → coming_repeat_at h (pos (suc m)) place e d t ≡ coming_repeat_at h (pos m) place e d t
  repeat-at-next place e d (time.At over) p = rw (own-moment-next e.serial over p)
  repeat-at-next place e d time.Indefinite p = refl
  repeat-at-next place e d time.Unresolved p = refl

  repeat-next : (J : ℕ → Option Interval) (place : ℕ) (e : Node) → coming_repeat h (simple_of h J e) (pos (suc m)) place e ≡ coming_repeat h (simple_of h J e) (pos m) place e
  repeat-next J place e = by_held (is_some e.attrs.repeat_count || is_some e.attrs.repeat_dur) (stands h e.serial) refl
    where
      by_held : (r t : Bool) → stands h e.serial ≡ t → cond (r && not t) (coming_repeat_at h (pos (suc m)) place e (simple_of h J e) (later_time (simple_of h J e) (iteration_start h e.serial))) [] ≡ cond (r && not t) (coming_repeat_at h (pos m) place e (simple_of h J e) (later_time (simple_of h J e) (iteration_start h e.serial))) []
      by_held true false q = repeat-at-next place e (simple_of h J e) (later_time (simple_of h J e) (iteration_start h e.serial)) q
      by_held true true q = refl
      by_held false t q = refl

  pub keys-of-next : (J : ℕ → Option Interval) (place : ℕ) (e : Node) → coming_of h J (pos (suc m)) place e ≡ coming_of h J (pos m) place e
  keys-of-next J place e = by_held (is_active h.diary e.serial) (outer_stands h e.serial) refl
    where
      by_held : (a t : Bool) → outer_stands h e.serial ≡ t → cond a (cond t [] (coming_end h (pos (suc m)) place e (J e.serial)) ++ coming_repeat h (simple_of h J e) (pos (suc m)) place e) (cond t [] (coming_begin h (pos (suc m)) place e (J e.serial))) ≡ cond a (cond t [] (coming_end h (pos m) place e (J e.serial)) ++ coming_repeat h (simple_of h J e) (pos m) place e) (cond t [] (coming_begin h (pos m) place e (J e.serial)))
      by_held true true q = repeat-next J place e
      by_held true false q =
          ap (λ ks. ks ++ coming_repeat h (simple_of h J e) (pos (suc m)) place e) (end-key-next place e (J e.serial) q)
          ∙ ap (λ ks. coming_end h (pos m) place e (J e.serial) ++ ks) (repeat-next J place e)
      by_held false true q = refl
      by_held false false q = begin-key-next place e (J e.serial) q

  keys-from-next : (J : ℕ → Option Interval) (place : ℕ) (es : List Node) → coming_from h J (pos (suc m)) place es ≡ coming_from h J (pos m) place es
  keys-from-next J place [] = refl
  keys-from-next J place (e ∷ es) =
      ap (λ ks. ks ++ coming_from h J (pos (suc m)) (suc place) es) (keys-of-next J place e)
      ∙ ap (λ ks. coming_of h J (pos m) place e ++ ks) (keys-from-next J (suc place) es)

  -- what comes is the same a millisecond later
  pub keys-next : coming h (pos (suc m)) ≡ coming h (pos m)
  keys-next =
      ap (λ rows. coming_from h (in_table rows) (pos (suc m)) 0 (elements h.nodes)) (table-next (length (elements h.nodes)))
      ∙ keys-from-next (in_table (table h (pos m) (length (elements h.nodes)))) 0 (elements h.nodes)

  -- ---- views

  shift-next : (s : ℕ) → outer_stands h s ≡ false → pos (suc m) -ℤ outer h s (pos (suc m)) ≡ pos m -ℤ outer h s (pos m)
  shift-next s q = no_value (pos (suc m)) (outer h s (pos (suc m))) ∙ moment-next s (pos 0) q ∙ sym (no_value (pos m) (outer h s (pos m)))
    where
      no_value : (a b : ℤ) → a -ℤ b ≡ a +ℤ (pos 0 -ℤ b)
      no_value a b = omega (arith, ints)

  pub view-next : (J : ℕ → Option Interval) (e : Node) → view_of h (pos (suc m)) J e ≡ view_of h (pos m) J e
  view-next J e = by_held (outer_stands h e.serial) refl
    where
      above : List Node
      above = time_ancestors h.nodes e.serial

      facts : ViewFacts
      facts = view_facts h (pos m) (J e.serial) (shows_under h (is_frozen_in h above) above) (is_frozen_in h above) e

      by_held : (t : Bool) → outer_stands h e.serial ≡ t → view_of h (pos (suc m)) J e ≡ view_of h (pos m) J e
      by_held true q = still_view facts (pos (suc m) -ℤ outer h e.serial (pos (suc m))) (pos m -ℤ outer h e.serial (pos m)) q
      by_held false q = ap (λ z. view_by (record facts { shift = z })) (shift-next e.serial q)

  -- and so are the views
  pub views-next : views h (pos (suc m)) ≡ views h (pos m)
  views-next =
      ap (λ rows. map (view_of h (pos (suc m)) (in_table rows)) (elements h.nodes)) (table-next (length (elements h.nodes)))
      ∙ map_each (view_of h (pos (suc m)) (in_table (table h (pos m) (length (elements h.nodes))))) (view_of h (pos m) (in_table (table h (pos m) (length (elements h.nodes))))) (elements h.nodes) (view-next (in_table (table h (pos m) (length (elements h.nodes)))))
