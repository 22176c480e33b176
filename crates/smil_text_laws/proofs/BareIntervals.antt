-- Instance times, durations and current intervals: the same without the plain texts.
use Rattle.std.proofs.Common.{◌≡◌, refl, ◌∙◌, ap, ℕ, suc, zero, List, [], ◌∷◌, ◌++◌, length, Option, Some, None, ℤ, Bool, false}
use Rattle.std.specs.Prelude.{cond, not, ◌==◌, ◌&&◌, ◌||◌, drop, map, min, filter_map, flat_map, ◌+ℤ◌, ◌-ℤ◌, option_map, option_to_list}
use Rattle.std.specs.List.{list_any, last_or}
use Rattle.std.specs.Option.{option_or}
use Rattle.std.specs.Str.{bytes_eq}
use Rattle.smil_model.specs.declared.times.Time.TheVariants.{Unresolved}
use Rattle.smil_model.specs.declared.diary.Entry.{Entry}
use Rattle.smil_model.specs.declared.diary.Step.{Step}
use Rattle.smil_model.specs.declared.diary.Step.TheVariants.{Began, Repeated, Ended, Cut}
use Rattle.smil_model.specs.declared.interval.Interval.{Interval}
use Rattle.smil_model.specs.declared.document.Node.{Node}
use Rattle.smil_model.specs.declared.document.Kind.{Kind}
use Rattle.smil_model.specs.declared.document.Kind.TheVariants as kind
use Rattle.smil_model.specs.declared.document.Edge.{Edge}
use Rattle.smil_model.specs.declared.document.Edge.TheVariants.{Begin, End}
use Rattle.smil_model.specs.declared.document.Item.{Item}
use Rattle.smil_model.specs.declared.document.Item.TheVariants.{Offset, Sync, Event, Repeat, Key, Indefinite}
use Rattle.smil_model.specs.declared.document.Endsync.{Endsync}
use Rattle.smil_model.specs.declared.document.Endsync.TheVariants.{Child}
use Rattle.smil_model.specs.Times.{rising_times, within_horizon, rising, numbers}
use Rattle.smil_model.specs.document.Document.{elements, time_children, previous_in_seq, element_named, target}
use Rattle.smil_model.specs.document.Defaults.{items_or, endsync_of, min_of, max_of}
use Rattle.smil_model.specs.document.Dependencies.{leads_to}
use Rattle.smil_model.specs.diary.Diary.{History, is_active, is_paused, up_to, with_past}
use Rattle.smil_model.specs.diary.Plays.{PlayEdge, FinishedInterval, first_of}
use Rattle.smil_model.specs.interval.Instances.{edge_time, happened_times, interval_edge, expected_times, sync_times, same_target, is_same_event, is_sensitive, hears, heard_times, is_event, is_repeat, is_press, event_times, repeat_times, offset_times, named_times, item_times, begin_times, end_times}
use Rattle.smil_model.specs.interval.Durations.{simple_duration, container_duration}
use Rattle.smil_model.specs.interval.Intervals.{interval_of}
use Rattle.smil_model.specs.interval.Current.{finish_time, is_named_child, present_end, child_end, container_implicit, implicit_of, simple_of, end_list_of, present_play, facts_of, interval_given, table, in_table, current_table, current_interval}
use Rattle.smil_text_laws.specs.PlainTexts.{without_texts, bare}
use Rattle.smil_text_laws.proofs.BareLists.{map_mapped, length_mapped}
use Rattle.smil_text_laws.proofs.BareDocuments.{elements_bare, children_bare, previous_bare, named_bare, target_same, begins_same, restart_same, leads_same}
use Rattle.smil_text_laws.proofs.BareHistories.{bare_of, birth_same, alive_same, deferred_same, iteration_same, passed_same, run_same, outer_same, outer_stands_same, between_same, play_start_same, iteration_start_same, parent_start_same, plays_same, last_finished_same}

-- ---- what an element hears

same_event_same : (ns : List Node) (e : ℕ) (i j : Item) → is_same_event (bare ns) e i j ≡ is_same_event ns e i j
same_event_same ns e (Event a name o) (Event b name' o') = λ i. same_target (target_same ns e a i) (target_same ns e b i) && bytes_eq name name'
same_event_same ns e (Repeat a n o) (Repeat b n' o') = λ i. same_target (target_same ns e a i) (target_same ns e b i) && (n == n')
same_event_same ns e _ _ = refl

hears_same : (past : History) (e : Node) (side : Edge) (item : Item) → hears (bare_of past) (without_texts e) side item ≡ hears past e side item
hears_same past e side item =
    λ i. alive_same past e.serial i
    && not (outer_stands_same past e.serial i)
    && is_sensitive (is_active past.diary e.serial) (restart_same past.nodes e i) side
    (list_any (λ other. same_event_same past.nodes e.serial item other i) (begins_same past.nodes e i))

repeats_same : (past : History) (x n : ℕ) (step : Step) → is_repeat (bare_of past) x n step ≡ is_repeat past x n step
repeats_same past x n (Repeated who start) = λ i. (who == x) && (suc (iteration_same past x i) == n)
repeats_same past x n _ = refl

module _ (h : History) where
  heard_same : (e : Node) (side : Edge) (item : Item) (offset : ℤ) (here there : History → Step → Bool) → ((past : List Entry) (step : Step) → here (bare_of (up_to h past)) step ≡ there (up_to h past) step) → heard_times (bare_of h) (without_texts e) side item offset here ≡ heard_times h e side item offset there
  heard_same e side item offset here there occur =
      λ i. filter_map
      (λ (p : List Entry × Entry).
      cond (occur p.0 (p.1).step i && hears_same (up_to h p.0) e side item i)
      (Some (within_horizon (outer_same h e.serial (p.1).moment i +ℤ offset)))
      None)
      (drop (birth_same h e.serial i) (with_past [] h.diary))

  event_same : (e : Node) (side : Edge) (item : Item) (offset : ℤ) (name : List ℕ) (o : Option ℕ) → event_times (bare_of h) (without_texts e) side item offset name o ≡ event_times h e side item offset name o
  event_same e side item offset name None = refl
  event_same e side item offset name (Some x) =
      heard_same e side item offset (λ past step. is_event past.log x name step) (λ past step. is_event past.log x name step) (λ past step. refl)

  repeat_same : (e : Node) (side : Edge) (item : Item) (offset : ℤ) (n : ℕ) (o : Option ℕ) → repeat_times (bare_of h) (without_texts e) side item offset n o ≡ repeat_times h e side item offset n o
  repeat_same e side item offset n None = refl
  repeat_same e side item offset n (Some x) =
      heard_same e side item offset (λ past step. is_repeat past x n step) (λ past step. is_repeat past x n step) (λ past step. repeats_same (up_to h past) x n step)

  -- ---- begins and ends of others

  edge_same : (e x : ℕ) (offset moment : ℤ) (edge : Edge) (step : Step) → edge_time (bare_of h) e x offset moment edge step ≡ edge_time h e x offset moment edge step
  edge_same e x offset moment Begin (Began who begin) = ap (λ m. cond (who == x) (Some (within_horizon (m +ℤ offset))) None) (between_same h x e begin moment)
  edge_same e x offset moment End (Ended who finish) = ap (λ m. cond (who == x) (Some (within_horizon (m +ℤ offset))) None) (between_same h x e finish moment)
  edge_same e x offset moment End (Cut who) = ap (λ m. cond (who == x) (Some (within_horizon (m +ℤ offset))) None) (outer_same h e moment)
  edge_same e x offset moment _ _ = refl

  happened_same : (e x : ℕ) (offset : ℤ) (edge : Edge) → happened_times (bare_of h) e x offset edge ≡ happened_times h e x offset edge
  happened_same e x offset edge =
      λ i. filter_map (λ (y : Entry). edge_same e x offset y.moment edge y.step i) (drop (min (birth_same h e i) (birth_same h x i)) h.diary)

  module _ (intervals : ℕ → Option Interval) (now : ℤ) where
    expected_same : (e x : ℕ) (offset : ℤ) (edge : Edge) → expected_times (bare_of h) intervals now e x offset edge ≡ expected_times h intervals now e x offset edge
    expected_same e x offset edge =
        λ i. cond (outer_stands_same h e i || outer_stands_same h x i) []
        (map (λ value. within_horizon (between_same h x e value now i +ℤ offset))
        (option_to_list (interval_edge edge (is_active h.diary x) (intervals x))))

    sync_times_same : (e x : ℕ) (offset : ℤ) (edge : Edge) (looped : Bool) → sync_times (bare_of h) intervals now e x offset edge looped ≡ sync_times h intervals now e x offset edge looped
    sync_times_same e x offset edge looped = λ i. happened_same e x offset edge i ++ cond looped [] (expected_same e x offset edge i)

    -- ---- items and lists

    offset_same : (e : ℕ) (offset : ℤ) (o : Option Node) → offset_times (bare_of h) intervals now e offset (option_map without_texts o) ≡ offset_times h intervals now e offset o
    offset_same e offset None = ap (λ m. within_horizon (m +ℤ offset) ∷ []) (parent_start_same h e)
    offset_same e offset (Some b) = sync_times_same e b.serial offset End false

    named_same : (e : ℕ) (offset : ℤ) (edge : Edge) (o : Option Node) → named_times (bare_of h) intervals now e offset edge (option_map without_texts o) ≡ named_times h intervals now e offset edge o
    named_same e offset edge None = refl
    named_same e offset edge (Some x) =
        ap (sync_times (bare_of h) intervals now e x.serial offset edge) (leads_same h.nodes e x.serial)
        ∙ sync_times_same e x.serial offset edge (leads_to h.nodes e x.serial)

    item_same : (e : Node) (side : Edge) (item : Item) → item_times (bare_of h) intervals now (without_texts e) side item ≡ item_times h intervals now e side item
    item_same e side (Offset offset) =
        ap (offset_times (bare_of h) intervals now e.serial offset) (previous_bare h.nodes e.serial)
        ∙ offset_same e.serial offset (previous_in_seq h.nodes e.serial)
    item_same e side (Sync who edge offset) =
        ap (named_times (bare_of h) intervals now e.serial offset edge) (named_bare h.nodes who)
        ∙ named_same e.serial offset edge (element_named h.nodes who)
    item_same e side (Event who name offset) =
        ap (event_times (bare_of h) (without_texts e) side (Event who name offset) offset name) (target_same h.nodes e.serial who)
        ∙ event_same e side (Event who name offset) offset name (target h.nodes e.serial who)
    item_same e side (Repeat who n offset) =
        ap (repeat_times (bare_of h) (without_texts e) side (Repeat who n offset) offset n) (target_same h.nodes e.serial who)
        ∙ repeat_same e side (Repeat who n offset) offset n (target h.nodes e.serial who)
    item_same e side (Key key offset) =
        heard_same e side (Key key offset) offset (λ past step. is_press past.log key step) (λ past step. is_press past.log key step) (λ past step. refl)
    item_same e Begin Indefinite = refl
    item_same e End Indefinite = refl

    pub begin_times_same : (e : Node) → begin_times (bare_of h) intervals now (without_texts e) ≡ begin_times h intervals now e
    begin_times_same e = λ i. rising (numbers (flat_map (λ item. item_same e Begin item i) (begins_same h.nodes e i)))

    pub end_times_same : (e : Node) → end_times (bare_of h) intervals now (without_texts e) ≡ end_times h intervals now e
    end_times_same e = λ i. rising_times (flat_map (λ item. item_same e End item i) (items_or [] e.attrs.«end»))

  -- ---- durations

  is_named_same : (endsync : Option Endsync) (c : Node) → is_named_child endsync (without_texts c) ≡ is_named_child endsync c
  is_named_same (Some (Child id)) c = refl
  is_named_same _ c = refl

  module _ (intervals : ℕ → Option Interval) where
    child_end_same : (e c : Node) → child_end (bare_of h) intervals (without_texts e) (without_texts c) ≡ child_end h intervals e c
    child_end_same e c =
        λ i. record {
          named = is_named_same e.attrs.endsync c i;
          first = option_or (option_map finish_time (first_of (plays_same h c.serial i).finished)) (present_end (intervals c.serial));
          latest = option_or (present_end (intervals c.serial)) (cond (deferred_same h c.serial i) (Some Unresolved) (option_map finish_time (last_or None (plays_same h c.serial i).finished)));
        }

    child_ends_same : (e : Node) → map (child_end (bare_of h) intervals (without_texts e)) (time_children (bare h.nodes) e.serial) ≡ map (child_end h intervals e) (time_children h.nodes e.serial)
    child_ends_same e =
        ap (map (child_end (bare_of h) intervals (without_texts e))) (children_bare h.nodes e.serial)
        ∙ map_mapped without_texts (child_end (bare_of h) intervals (without_texts e)) (child_end h intervals e) (child_end_same e) (time_children h.nodes e.serial)

    container_same : (e : Node) → container_implicit (bare_of h) intervals (without_texts e) ≡ container_implicit h intervals e
    container_same e =
        λ i. cond (is_active h.diary e.serial)
        (container_duration e.kind (endsync_of e.attrs) (iteration_start_same h e.serial i) (child_ends_same e i))
        Unresolved

    implicit_of_same : (e : Node) (k : Kind) → implicit_of (bare_of h) intervals (without_texts e) k ≡ implicit_of h intervals e k
    implicit_of_same e kind.Par = container_same e
    implicit_of_same e kind.Seq = container_same e
    implicit_of_same e kind.Excl = container_same e
    implicit_of_same e _ = refl

    pub simple_same : (e : Node) → simple_of (bare_of h) intervals (without_texts e) ≡ simple_of h intervals e
    simple_same e = ap (simple_duration e.attrs) (implicit_of_same e e.kind)

  -- ---- the interval of an element

  present_play_same : (now : ℤ) (e : Node) → present_play (bare_of h) now (without_texts e) ≡ present_play h now e
  present_play_same now e =
      λ i. cond (is_active h.diary e.serial)
      (option_map
      (λ (begin : PlayEdge). record {
        begin = begin.value;
        first = play_start_same h e.serial i;
        start = iteration_start_same h e.serial i;
        iteration = iteration_same h e.serial i;
        shift = cond (is_paused h.diary e.serial) None (Some (outer_same h e.serial now i -ℤ run_same h e.serial now i));
      })
      ((plays_same h e.serial i).present))
      None

  facts_same : (intervals : ℕ → Option Interval) (now : ℤ) (e : Node) → facts_of (bare_of h) intervals now (without_texts e) ≡ facts_of h intervals now e
  facts_same intervals now e =
      λ i. record {
        alive = alive_same h e.serial i;
        deferred = deferred_same h e.serial i;
        play = present_play_same now e i;
        parent_start = parent_start_same h e.serial i;
        last = option_map (λ (f : FinishedInterval). record { begin = f.begin.value; «end» = finish_time f }) (last_finished_same h e.serial i);
        passed = passed_same h e.serial i;
        end_list = end_list_of e.attrs.«end»;
        restart = restart_same h.nodes e i;
        min = min_of e.attrs;
        max = max_of e.attrs;
        simple = simple_same intervals e i;
        count = e.attrs.repeat_count;
        repeat_dur = e.attrs.repeat_dur;
      }

  pub given_same : (intervals : ℕ → Option Interval) (now : ℤ) (e : Node) → interval_given (bare_of h) intervals now (without_texts e) ≡ interval_given h intervals now e
  given_same intervals now e = λ i. interval_of (facts_same intervals now e i) (begin_times_same intervals now e i) (end_times_same intervals now e i)

  -- ---- rounds

  table_same : (now : ℤ) (k : ℕ) → table (bare_of h) now k ≡ table h now k
  table_same now zero = refl
  table_same now (suc k) = step (table_same now k)
    where
      step : table (bare_of h) now k ≡ table h now k → table (bare_of h) now (suc k) ≡ table h now (suc k)
      step r =
          (λ i. map (λ (e : Node). (e.serial, interval_given (bare_of h) (in_table (r i)) now e)) (elements_bare h.nodes i))
          ∙ map_mapped without_texts (λ (e : Node). (e.serial, interval_given (bare_of h) (in_table (table h now k)) now e)) (λ (e : Node). (e.serial, interval_given h (in_table (table h now k)) now e)) (λ e. ap (λ o. (e.serial, o)) (given_same (in_table (table h now k)) now e)) (elements h.nodes)

  pub current_table_same : (now : ℤ) → current_table (bare_of h) now ≡ current_table h now
  current_table_same now =
      ap (table (bare_of h) now) (ap length (elements_bare h.nodes) ∙ length_mapped without_texts (elements h.nodes))
      ∙ table_same now (length (elements h.nodes))

  pub current_same : (now : ℤ) (s : ℕ) → current_interval (bare_of h) now s ≡ current_interval h now s
  current_same now s = ap (λ rows. in_table rows s) (current_table_same now)
