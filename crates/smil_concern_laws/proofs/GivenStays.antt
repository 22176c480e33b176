-- What an entry leaves of the times of an element that reads nothing that it changes.
use Rattle.std.proofs.Common.{◌≡◌, refl, sym, ◌∙◌, ap, ℕ, suc, List, [], ◌∷◌, ◌++◌, length, Option, Some, None, ℤ, Bool, true, false, arith, append_assoc, inl, inr}
use Rattle.std.specs.Prelude.{◌||◌, ◌&&◌, ◌+ℤ◌, cond, not, drop, min, filter_map, flat_map, is_some}
use Rattle.std.specs.List.{cons_option, list_any}
use Rattle.std.proofs.lemmas.Bool.{or_left, or_right}
use Rattle.std.proofs.lemmas.List.{append-nil}
use Rattle.std.proofs.lemmas.List.Elements.{filter_map-append}
use Rattle.std.proofs.lemmas.List.Folds.{list_any-append}
use Rattle.smil_model.specs.declared.times.Time.{Time}
use Rattle.smil_model.specs.declared.times.Time.TheVariants.{At, Indefinite, Unresolved}
use Rattle.smil_model.specs.declared.diary.Entry.{Entry}
use Rattle.smil_model.specs.declared.diary.Step.{Step}
use Rattle.smil_model.specs.declared.diary.Step.TheVariants.{Began, Ended, Cut}
use Rattle.smil_model.specs.declared.document.Edge.{Edge}
use Rattle.smil_model.specs.declared.document.Edge.TheVariants.{Begin, End}
use Rattle.smil_model.specs.declared.document.Item.{Item}
use Rattle.smil_model.specs.declared.document.Item.TheVariants as item
use Rattle.smil_model.specs.declared.document.Node.{Node}
use Rattle.smil_model.specs.declared.interval.Facts.{Facts}
use Rattle.smil_model.specs.declared.interval.Interval.{Interval}
use Rattle.smil_model.specs.Times.{rising_times, within_horizon, rising, numbers, later_time}
use Rattle.smil_model.specs.document.Document.{previous_in_seq, element_named, target}
use Rattle.smil_model.specs.document.Defaults.{begin_list, end_list}
use Rattle.smil_model.specs.document.Dependencies.{leads_to, all_items}
use Rattle.smil_model.specs.diary.Diary.{History, birth, is_active, up_to, with_past}
use Rattle.smil_model.specs.diary.Clocks.{outer, stands, iteration_start}
use Rattle.smil_model.specs.interval.Instances.{interval_edge, edge_time, happened_times, expected_times, sync_times, is_event, is_repeat, is_press, hears, heard_times, offset_times, named_times, event_times, repeat_times, item_times, begin_times, end_times}
use Rattle.smil_model.specs.interval.Intervals.{interval_of}
use Rattle.smil_model.specs.interval.Current.{media_length, present_play, facts_of}
use Rattle.smil_model.specs.happening.Keys.{DueChange, coming_begin, coming_end_at, coming_end, coming_repeat_at, coming_repeat, coming_by}
use Rattle.smil_laws.proofs.ForeignEntries.{filter_map_each}
use Rattle.smil_concern_laws.specs.Unconcerned.{SameDone}
use Rattle.smil_concern_laws.proofs.Readings.{Shifts, AroundSame, ReadingsSame}
use Rattle.smil_concern_laws.proofs.ReadingsStay.{tail_same}

-- ---- lists

-- a member of a list: each test that passes it passes one of the list
abbrev pub Member : Item → List Item → Type 0
Member i is = (test : Item → Bool) → test i ≡ true → list_any test is ≡ true

pub flat_same : (f g : Item → List Time) (is : List Item) → ((i : Item) → Member i is → f i ≡ g i) → flat_map f is ≡ flat_map g is
flat_same f g [] same = refl
flat_same f g (i ∷ is) same =
    ap (λ ts. ts ++ flat_map f is) (same i (λ test q. or_left _ _ q))
    ∙ ap (λ ts. g i ++ ts) (flat_same f g is (λ j m. same j (λ test q. or_right _ _ (m test q))))

filter_map-ignores : {A B : Type 0} (f : A → Option B) (w : A) → f w ≡ None → (ws : List A) → filter_map f (ws ++ w ∷ []) ≡ filter_map f ws
filter_map-ignores f w none ws = filter_map-append f ws (w ∷ []) ∙ ap (λ o. filter_map f ws ++ cons_option o []) none ∙ append-nil (filter_map f ws)

with_past-push : (before ds : List Entry) (y : Entry) → with_past before (ds ++ y ∷ []) ≡ with_past before ds ++ (before ++ ds, y) ∷ []
with_past-push before [] y = ap (λ b. (b, y) ∷ []) (sym (append-nil before))
with_past-push before (z ∷ zs) y =
    ap (λ ws. (before, z) ∷ ws) (with_past-push (before ++ z ∷ []) zs y)
    ∙ ap (λ b. (before, z) ∷ (with_past (before ++ z ∷ []) zs ++ (b, y) ∷ [])) (append_assoc before (z ∷ []) zs)

with_past-length : (before ds : List Entry) → length (with_past before ds) ≡ length ds
with_past-length before [] = refl
with_past-length before (z ∷ zs) = ap suc (with_past-length (before ++ z ∷ []) zs)

min_shifts : (n a' a b' b : ℕ) → Shifts n a' a → Shifts n b' b → Shifts n (min a' b') (min a b)
min_shifts n a' a b' b (inl p) (inl q) = inl (omega arith, omega arith)
min_shifts n a' a b' b (inl p) (inr q) = inl (omega arith, omega arith)
min_shifts n a' a b' b (inr p) (inl q) = inl (omega arith, omega arith)
min_shifts n a' a b' b (inr p) (inr q) = inr (omega arith, omega arith)

-- ---- what an entry leaves

module _ (h : History) (y : Entry) where
  abbrev then : History
  then = up_to h (h.diary ++ y ∷ [])

  -- what is read of an edge of the element b
  pub record EdgeStays (b : ℕ) (edge : Edge) : Type 0 where
    pub around : AroundSame h then b
    pub nothing : (e : ℕ) (offset : ℤ) → edge_time then e b offset y.moment edge y.step ≡ None
    pub expects : (o : Option Interval) → interval_edge edge (is_active then.diary b) o ≡ interval_edge edge (is_active h.diary b) o

  -- what an item of e reads
  abbrev pub ItemStays : Node → Item → Type 0
  ItemStays e (item.Offset offset) = (b : Node) → previous_in_seq h.nodes e.serial ≡ Some b → EdgeStays b.serial End
  ItemStays e (item.Sync who edge offset) = (b : Node) → element_named h.nodes who ≡ Some b → EdgeStays b.serial edge
  ItemStays e (item.Event who name offset) = (t : ℕ) → target h.nodes e.serial who ≡ Some t → is_event h.log t name y.step ≡ false
  ItemStays e (item.Repeat who n offset) = (t : ℕ) → target h.nodes e.serial who ≡ Some t → is_repeat h t n y.step ≡ false
  ItemStays e (item.Key key offset) = is_press h.log key y.step ≡ false
  ItemStays e item.Indefinite = Unit {0}

  -- all that an element reads but the ends of its time children
  pub record AllStays (e : Node) : Type 0 where
    pub readings : ReadingsSame h then e.serial
    pub media : media_length then e.serial ≡ media_length h e.serial
    pub items : (i : Item) → Member i (all_items h.nodes e) → ItemStays e i

  -- ---- the begins and ends of another element

  edge_same : (e b : ℕ) (offset m : ℤ) (edge : Edge) (step : Step) → AroundSame h then e → AroundSame h then b → edge_time then e b offset m edge step ≡ edge_time h e b offset m edge step
  edge_same e b offset m Begin (Began who begin) p q = rw (p.outer_same m, q.outer_same m)
  edge_same e b offset m End (Ended who end') p q = rw (p.outer_same m, q.outer_same m)
  edge_same e b offset m End (Cut who) p q = rw (p.outer_same m)
  edge_same e b offset m Begin _ p q = refl
  edge_same e b offset m End _ p q = refl

  happened_same : (e b : ℕ) (offset : ℤ) (edge : Edge) → AroundSame h then e → EdgeStays b edge → happened_times then e b offset edge ≡ happened_times h e b offset edge
  happened_same e b offset edge p q =
      tail_same (filter_map (λ (z : Entry). edge_time then e b offset z.moment edge z.step)) (length h.diary) h.diary y (min (birth then e) (birth then b)) (min (birth h e) (birth h b)) refl
      (filter_map-ignores (λ (z : Entry). edge_time then e b offset z.moment edge z.step) y (q.nothing e offset))
      (min_shifts (length h.diary) (birth then e) (birth h e) (birth then b) (birth h b) p.birth_shifts q.around.birth_shifts)
      ∙ filter_map_each (λ (z : Entry). edge_time then e b offset z.moment edge z.step) (λ (z : Entry). edge_time h e b offset z.moment edge z.step) (drop (min (birth h e) (birth h b)) h.diary)
      (λ z. edge_same e b offset z.moment edge z.step p q.around)

  expected_same : (J : ℕ → Option Interval) (now : ℤ) (e b : ℕ) (offset : ℤ) (edge : Edge) → AroundSame h then e → EdgeStays b edge → expected_times then J now e b offset edge ≡ expected_times h J now e b offset edge
  expected_same J now e b offset edge p q =
      rw (p.outer_held, q.around.outer_held, q.expects (J b), p.outer_same now, q.around.outer_same now) refl

  sync_same : (J : ℕ → Option Interval) (now : ℤ) (e b : ℕ) (offset : ℤ) (edge : Edge) (looped : Bool) → AroundSame h then e → EdgeStays b edge → sync_times then J now e b offset edge looped ≡ sync_times h J now e b offset edge looped
  sync_same J now e b offset edge looped p q =
      ap (λ ts. ts ++ cond looped [] (expected_times then J now e b offset edge)) (happened_same e b offset edge p q)
      ∙ ap (λ ts. happened_times h e b offset edge ++ cond looped [] ts) (expected_same J now e b offset edge p q)

  -- ---- events

  heard_same : (e : Node) (side : Edge) (i : Item) (offset : ℤ) (occurs : History → Step → Bool) → AroundSame h then e.serial → occurs h y.step ≡ false → heard_times then e side i offset occurs ≡ heard_times h e side i offset occurs
  heard_same e side i offset occurs p not_now =
      ap (λ ws. filter_map (hear then) (drop (birth then e.serial) ws)) (with_past-push [] h.diary y)
      ∙ tail_same (filter_map (hear then)) (length h.diary) (with_past [] h.diary) (h.diary, y) (birth then e.serial) (birth h e.serial) (with_past-length [] h.diary)
      (filter_map-ignores (hear then) (h.diary, y) (ap (λ t. cond (t && hears h e side i) (Some (within_horizon (outer then e.serial y.moment +ℤ offset))) None) not_now))
      p.birth_shifts
      ∙ filter_map_each (hear then) (hear h) (drop (birth h e.serial) (with_past [] h.diary))
      (λ w. ap (λ m. cond (occurs (up_to h w.0) (w.1).step && hears (up_to h w.0) e side i) (Some (within_horizon (m +ℤ offset))) None) (p.outer_same (w.1).moment))
    where
      hear : History → List Entry × Entry → Option Time
      hear k = λ (w : List Entry × Entry). cond (occurs (up_to k w.0) (w.1).step && hears (up_to k w.0) e side i) (Some (within_horizon (outer k e.serial (w.1).moment +ℤ offset))) None

  -- ---- the instance times

  module _ (J : ℕ → Option Interval) (now : ℤ) (e : Node) (r : ReadingsSame h then e.serial) where
    offset_same : (offset : ℤ) (o : Option Node) → ((b : Node) → o ≡ Some b → EdgeStays b.serial End) → offset_times then J now e.serial offset o ≡ offset_times h J now e.serial offset o
    offset_same offset None far = rw r.parent_starts
    offset_same offset (Some b) far = sync_same J now e.serial b.serial offset End false r.around (far b refl)

    named_same : (offset : ℤ) (edge : Edge) (o : Option Node) → ((b : Node) → o ≡ Some b → EdgeStays b.serial edge) → named_times then J now e.serial offset edge o ≡ named_times h J now e.serial offset edge o
    named_same offset edge None far = refl
    named_same offset edge (Some b) far = sync_same J now e.serial b.serial offset edge (leads_to h.nodes e.serial b.serial) r.around (far b refl)

    event_same : (side : Edge) (i : Item) (offset : ℤ) (name : List ℕ) (o : Option ℕ) → ((t : ℕ) → o ≡ Some t → is_event h.log t name y.step ≡ false) → event_times then e side i offset name o ≡ event_times h e side i offset name o
    event_same side i offset name None far = refl
    event_same side i offset name (Some t) far = heard_same e side i offset (λ past step. is_event past.log t name step) r.around (far t refl)

    repeat_same : (side : Edge) (i : Item) (offset : ℤ) (n : ℕ) (o : Option ℕ) → ((t : ℕ) → o ≡ Some t → is_repeat h t n y.step ≡ false) → repeat_times then e side i offset n o ≡ repeat_times h e side i offset n o
    repeat_same side i offset n None far = refl
    repeat_same side i offset n (Some t) far = heard_same e side i offset (λ past step. is_repeat past t n step) r.around (far t refl)

    item_same : (side : Edge) (i : Item) → ItemStays e i → item_times then J now e side i ≡ item_times h J now e side i
    item_same side (item.Offset offset) far = offset_same offset (previous_in_seq h.nodes e.serial) far
    item_same side (item.Sync who edge offset) far = named_same offset edge (element_named h.nodes who) far
    item_same side (item.Event who name offset) far = event_same side (item.Event who name offset) offset name (target h.nodes e.serial who) far
    item_same side (item.Repeat who n offset) far = repeat_same side (item.Repeat who n offset) offset n (target h.nodes e.serial who) far
    item_same side (item.Key key offset) far = heard_same e side (item.Key key offset) offset (λ past step. is_press past.log key step) r.around far
    item_same Begin item.Indefinite far = refl
    item_same End item.Indefinite far = refl

-- ---- the interval by a simple duration

abbrev pub facts_by : History → Time → ℤ → Node → Facts
facts_by h simple now e = record (facts_of h (λ _. None) now e) { simple = simple }

abbrev pub interval_by : History → (ℕ → Option Interval) → Time → ℤ → Node → Option Interval
interval_by h J simple now e = interval_of (facts_by h simple now e) (begin_times h J now e) (end_times h J now e)

-- given the intervals of the others and a simple duration, what is given of the element is the same
pub record StaysGiven (h k : History) (J : ℕ → Option Interval) (now : ℤ) (e : Node) : Type 0 where
  pub done : SameDone h k e.serial
  pub active : is_active k.diary e.serial ≡ is_active h.diary e.serial
  pub iteration_starts : iteration_start k e.serial ≡ iteration_start h e.serial
  pub media : media_length k e.serial ≡ media_length h e.serial
  pub interval : (simple : Time) → interval_by k J simple now e ≡ interval_by h J simple now e
  pub coming : (o : Option Interval) (simple : Time) (place : ℕ) → coming_by k o simple now place e ≡ coming_by h o simple now place e

module _ (h : History) (y : Entry) (J : ℕ → Option Interval) (now : ℤ) (e : Node) (a : AllStays h y e) where
  abbrev next : History
  next = up_to h (h.diary ++ y ∷ [])

  abbrev r : ReadingsSame h next e.serial
  r = a.readings

  play_same : present_play next now e ≡ present_play h now e
  play_same =
      rw (r.paused, r.active, r.plays_same, r.play_starts, r.iteration_starts, r.iteration_same, r.around.outer_same now, r.own now)

  facts_same : (simple : Time) → facts_by next simple now e ≡ facts_by h simple now e
  facts_same simple = rw (r.deferral_same, r.alive, play_same, r.parent_starts, r.plays_same, r.passed_same)

  begins_same : begin_times next J now e ≡ begin_times h J now e
  begins_same =
      ap (λ ts. rising (numbers ts))
      (flat_same (item_times next J now e Begin) (item_times h J now e Begin) (begin_list h.nodes e)
      (λ i m. item_same h y J now e r Begin i (a.items i (λ test q. list_any-append test (begin_list h.nodes e) (end_list e) ∙ or_left _ _ (m test q)))))

  ends_same : end_times next J now e ≡ end_times h J now e
  ends_same =
      ap rising_times
      (flat_same (item_times next J now e End) (item_times h J now e End) (end_list e)
      (λ i m. item_same h y J now e r End i (a.items i (λ test q. list_any-append test (begin_list h.nodes e) (end_list e) ∙ or_right _ _ (m test q)))))

  interval_same : (simple : Time) → interval_by next J simple now e ≡ interval_by h J simple now e
  interval_same simple =
      ap (λ f. interval_of f (begin_times next J now e) (end_times next J now e)) (facts_same simple)
      ∙ ap (λ bs. interval_of (facts_by h simple now e) bs (end_times next J now e)) begins_same
      ∙ ap (λ es. interval_of (facts_by h simple now e) (begin_times h J now e) es) ends_same

  -- ---- what comes

  begin_comes : (place : ℕ) (o : Option Interval) → coming_begin next now place e o ≡ coming_begin h now place e o
  begin_comes place None = refl
  begin_comes place (Some i) = rw (r.around.outer_same now) refl

  end_comes_at : (place : ℕ) (begin : ℤ) (t : Time) → coming_end_at next now place e begin t ≡ coming_end_at h now place e begin t
  end_comes_at place begin (At v) = rw (r.around.outer_same now) refl
  end_comes_at place begin Indefinite = refl
  end_comes_at place begin Unresolved = refl

  end_comes : (place : ℕ) (o : Option Interval) → coming_end next now place e o ≡ coming_end h now place e o
  end_comes place None = refl
  end_comes place (Some i) = end_comes_at place i.begin i.«end»

  repeat_comes_at : (place : ℕ) (simple t : Time) → coming_repeat_at next now place e simple t ≡ coming_repeat_at h now place e simple t
  repeat_comes_at place simple (At over) = rw (r.play_starts, r.iteration_starts, r.iteration_same, r.own now) refl
  repeat_comes_at place simple Indefinite = refl
  repeat_comes_at place simple Unresolved = refl

  abbrev asks : Bool
  asks = is_some e.attrs.repeat_count || is_some e.attrs.repeat_dur

  repeat_comes : (place : ℕ) (simple : Time) → coming_repeat next simple now place e ≡ coming_repeat h simple now place e
  repeat_comes place simple =
      ap (λ t. cond (asks && not t) (coming_repeat_at next now place e simple (later_time simple (iteration_start next e.serial))) []) r.own_held
      ∙ ap (λ i. cond (asks && not (stands h e.serial)) (coming_repeat_at next now place e simple (later_time simple i)) []) r.iteration_starts
      ∙ ap (λ cs. cond (asks && not (stands h e.serial)) cs []) (repeat_comes_at place simple (later_time simple (iteration_start h e.serial)))

  -- what comes, by what its parts are
  abbrev comes : Bool → Bool → List DueChange → List DueChange → List DueChange → List DueChange
  comes active held begin finish repeat = cond active (cond held [] finish ++ repeat) (cond held [] begin)

  coming_same : (o : Option Interval) (simple : Time) (place : ℕ) → coming_by next o simple now place e ≡ coming_by h o simple now place e
  coming_same o simple place = λ i. comes (r.active i) (r.around.outer_held i) (begin_comes place o i) (end_comes place o i) (repeat_comes place simple i)

  pub stays_given : StaysGiven h next J now e
  stays_given = record {
    done = record { plays_are = r.plays_same; deferred = ap is_some r.deferral_same };
    active = r.active;
    iteration_starts = r.iteration_starts;
    media = a.media;
    interval = interval_same;
    coming = coming_same;
  }
