-- What comes and in which order, excl, groups of entries and the resolution: the same without the
-- plain texts.
use Rattle.std.proofs.Common.{◌≡◌, refl, ◌∙◌, ap, ℕ, suc, zero, ◌+◌, List, [], ◌∷◌, ◌++◌, length, Option, Some, None, ℤ, Bool, true, false}
use Rattle.std.specs.Prelude.{cond, not, ◌==◌, ◌&&◌, ◌||◌, find, filter, fold, map, position, pos, nat_le, nat_lt, int_lt, reverse, ◌+ℤ◌, ◌-ℤ◌, option_map, unwrap_or, is_some, slice_get}
use Rattle.std.specs.Option.{option_map_or}
use Rattle.smil_model.specs.declared.times.Time.{Time}
use Rattle.smil_model.specs.declared.times.Time.TheVariants.{At}
use Rattle.smil_model.specs.declared.diary.Entry.{Entry}
use Rattle.smil_model.specs.declared.diary.Step.{Step}
use Rattle.smil_model.specs.declared.diary.Step.TheVariants.{Began, Repeated, Ended, Cut, Paused, Resumed, Deferred}
use Rattle.smil_model.specs.declared.interval.Interval.{Interval}
use Rattle.smil_model.specs.declared.happening.TheConstants.{BEGIN_CLASS, EMPTY_END_CLASS, END_CLASS}
use Rattle.smil_model.specs.declared.limits.TheConstants.{DIARY_ENTRIES}
use Rattle.smil_model.specs.declared.document.Node.{Node}
use Rattle.smil_model.specs.declared.document.Act.{Act}
use Rattle.smil_model.specs.declared.document.Act.TheVariants.{Stop}
use Rattle.smil_model.specs.Times.{time_le, later_time}
use Rattle.smil_model.specs.document.Document.{elements, node_at, has_serial, is_class_kind, is_excl_kind, time_parent, time_children, descendants}
use Rattle.smil_model.specs.document.Defaults.{peers_of, higher_of, lower_of}
use Rattle.smil_model.specs.diary.Diary.{History, is_active, is_paused}
use Rattle.smil_model.specs.interval.Durations.{bounds_of, intermediate_end}
use Rattle.smil_model.specs.interval.Current.{simple_of, in_table, current_table}
use Rattle.smil_model.specs.happening.Keys.{Change, begins, ends, repeats, DueChange, coming_at, coming_begin, coming_end_at, coming_end, coming_repeat_at, coming_repeat, coming_by, coming_of, coming_from, coming, first_coming, is_due}
use Rattle.smil_model.specs.happening.Queue.{class_if, parent_of, class_of, place_of, rank, class_facts, decide_by, decision, is_playing, playing_child, put_paused, put_deferred, without, is_child_of, queue_after, queue_of}
use Rattle.smil_model.specs.happening.Groups.{cut_steps, cuts, follower, followers, interruption, begin_beside, begin_under, steps_of, at_moment, group}
use Rattle.smil_model.specs.happening.Resolution.{Course, Progress, outset, history_at, after_settling, after_coming, next_step, after_steps, resolved, diary_within}
use Rattle.smil_text_laws.specs.PlainTexts.{without_texts, bare}
use Rattle.smil_text_laws.proofs.BareLists.{find_mapped, filter_mapped, map_mapped, reverse_mapped, position_mapped}
use Rattle.smil_text_laws.proofs.BareDocuments.{elements_bare, node_bare, children_bare, descendants_bare, read_same, under_same, serial_same}
use Rattle.smil_text_laws.proofs.BareHistories.{bare_of, iteration_same, run_same, outer_same, stands_same, outer_stands_same, to_document_same, play_start_same, iteration_start_same}
use Rattle.smil_text_laws.proofs.BareIntervals.{simple_same, current_table_same}

-- ---- what comes

module _ (h : History) (now : ℤ) (place : ℕ) (e : Node) where
  begin_same : (o : Option Interval) → coming_begin (bare_of h) now place (without_texts e) o ≡ coming_begin h now place e o
  begin_same None = refl
  begin_same (Some found) = ap (λ m. coming_at m BEGIN_CLASS place e (begins found.begin) ∷ []) (to_document_same h e.serial found.begin now)

  end_at_same : (begin : ℤ) (t : Time) → coming_end_at (bare_of h) now place (without_texts e) begin t ≡ coming_end_at h now place e begin t
  end_at_same begin (At v) = ap (λ m. coming_at m (cond (int_lt begin v) END_CLASS EMPTY_END_CLASS) place e (ends v) ∷ []) (to_document_same h e.serial v now)
  end_at_same begin _ = refl

  end_same : (o : Option Interval) → coming_end (bare_of h) now place (without_texts e) o ≡ coming_end h now place e o
  end_same None = refl
  end_same (Some found) = end_at_same found.begin found.«end»

  repeat_at_same : (simple over : Time) → coming_repeat_at (bare_of h) now place (without_texts e) simple over ≡ coming_repeat_at h now place e simple over
  repeat_at_same simple (At over) =
      λ i. cond
      (not (time_le simple (At (pos 0)))
      && not (time_le (intermediate_end (bounds_of e.attrs) simple (play_start_same h e.serial i) (iteration_start_same h e.serial i) (iteration_same h e.serial i)) (At over)))
      (coming_at (now +ℤ (over -ℤ run_same h e.serial now i)) END_CLASS place e (repeats over) ∷ [])
      []
  repeat_at_same simple _ = refl

  repeat_same : (simple : Time) → coming_repeat (bare_of h) simple now place (without_texts e) ≡ coming_repeat h simple now place e
  repeat_same simple =
      λ i. cond ((is_some e.attrs.repeat_count || is_some e.attrs.repeat_dur) && not (stands_same h e.serial i))
      (repeat_at_same simple (later_time simple (iteration_start_same h e.serial i)) i)
      []

  coming_by_same : (interval : Option Interval) (simple : Time) → coming_by (bare_of h) interval simple now place (without_texts e) ≡ coming_by h interval simple now place e
  coming_by_same interval simple =
      λ i. cond (is_active h.diary e.serial)
      (cond (outer_stands_same h e.serial i) [] (end_same interval i) ++ repeat_same simple i)
      (cond (outer_stands_same h e.serial i) [] (begin_same interval i))

  coming_of_same : (intervals : ℕ → Option Interval) → coming_of (bare_of h) intervals now place (without_texts e) ≡ coming_of h intervals now place e
  coming_of_same intervals =
      ap (λ simple. coming_by (bare_of h) (intervals e.serial) simple now place (without_texts e)) (simple_same h intervals e)
      ∙ coming_by_same (intervals e.serial) (simple_of h intervals e)

coming_from_same : (h : History) (intervals : ℕ → Option Interval) (now : ℤ) (place : ℕ) (es : List Node) → coming_from (bare_of h) intervals now place (bare es) ≡ coming_from h intervals now place es
coming_from_same h intervals now place [] = refl
coming_from_same h intervals now place (e ∷ es) = step (coming_from_same h intervals now (suc place) es)
  where
    step : coming_from (bare_of h) intervals now (suc place) (bare es) ≡ coming_from h intervals now (suc place) es → coming_from (bare_of h) intervals now place (bare (e ∷ es)) ≡ coming_from h intervals now place (e ∷ es)
    step r = λ i. coming_of_same h now place e intervals i ++ r i

pub coming_same : (h : History) (now : ℤ) → coming (bare_of h) now ≡ coming h now
coming_same h now =
    (λ i. coming_from (bare_of h) (in_table (current_table_same h now i)) now 0 (elements_bare h.nodes i))
    ∙ coming_from_same h (in_table (current_table h now)) now 0 (elements h.nodes)

-- ---- excl

module _ (ns : List Node) where
  class_if_bare : (o : Option Node) → class_if (bare ns) (option_map without_texts o) ≡ option_map without_texts (class_if ns o)
  class_if_bare None = refl
  class_if_bare (Some p) = by_test (is_class_kind p.kind)
    where
      by_test : (t : Bool) → cond t (Some (without_texts p)) None ≡ option_map without_texts (cond t (Some p) None)
      by_test true = refl
      by_test false = refl

  parent_of_bare : (o : Option Node) → parent_of (bare ns) (option_map without_texts o) ≡ option_map without_texts (parent_of ns o)
  parent_of_bare None = refl
  parent_of_bare (Some n) = node_bare ns n.parent

  class_bare : (s : ℕ) → class_of (bare ns) s ≡ option_map without_texts (class_of ns s)
  class_bare s =
      ap (λ o. class_if (bare ns) (parent_of (bare ns) o)) (node_bare ns s)
      ∙ ap (class_if (bare ns)) (parent_of_bare (node_at ns s))
      ∙ class_if_bare (parent_of ns (node_at ns s))

  place_same : (o : Option Node) → place_of (bare ns) (option_map without_texts o) ≡ place_of ns o
  place_same None = refl
  place_same (Some n) =
      ap (λ ms. unwrap_or (position (λ (m : Node). m.serial == n.serial) ms) 0) (filter_mapped without_texts (λ (m : Node). m.parent == n.parent) (λ (m : Node). m.parent == n.parent) (λ m. refl) ns)
      ∙ ap (λ k. unwrap_or k 0) (position_mapped without_texts (λ (m : Node). m.serial == n.serial) (λ (m : Node). m.serial == n.serial) (λ m. refl) (filter (λ (m : Node). m.parent == n.parent) ns))

  rank_same : (s : ℕ) → rank (bare ns) s ≡ rank ns s
  rank_same s = ap (place_of (bare ns)) (class_bare s) ∙ place_same (class_of ns s)

  class_read_same : {A : Type 0} (f : Option Node → A) → ((n : Node) → f (Some (without_texts n)) ≡ f (Some n)) → (s : ℕ) → f (class_of (bare ns) s) ≡ f (class_of ns s)
  class_read_same f some s = ap f (class_bare s) ∙ read_same f f refl some (class_of ns s)

  class_facts_same : (s : ℕ) → class_facts (bare ns) s ≡ class_facts ns s
  class_facts_same s =
      λ i. record {
        rank = rank_same s i;
        peers = class_read_same peers_of (λ n. refl) s i;
        higher = class_read_same higher_of (λ n. refl) s i;
        lower = class_read_same lower_of (λ n. refl) s i;
      }

  decision_same : (playing newcomer : ℕ) → decision (bare ns) playing newcomer ≡ decision ns playing newcomer
  decision_same playing newcomer = λ i. decide_by (class_facts_same playing i) (rank_same newcomer i)

  put_paused_same : (s : ℕ) (queue : List ℕ) → put_paused (bare ns) s queue ≡ put_paused ns s queue
  put_paused_same s [] = refl
  put_paused_same s (other ∷ others) = step (put_paused_same s others)
    where
      step : put_paused (bare ns) s others ≡ put_paused ns s others → put_paused (bare ns) s (other ∷ others) ≡ put_paused ns s (other ∷ others)
      step r = λ i. cond (nat_le (rank_same s i) (rank_same other i)) (s ∷ other ∷ others) (other ∷ r i)

  put_deferred_same : (s : ℕ) (queue : List ℕ) → put_deferred (bare ns) s queue ≡ put_deferred ns s queue
  put_deferred_same s [] = refl
  put_deferred_same s (other ∷ others) = step (put_deferred_same s others)
    where
      step : put_deferred (bare ns) s others ≡ put_deferred ns s others → put_deferred (bare ns) s (other ∷ others) ≡ put_deferred ns s (other ∷ others)
      step r = λ i. cond (nat_lt (rank_same s i) (rank_same other i)) (s ∷ other ∷ others) (other ∷ r i)

  child_of_same : (excl s : ℕ) → is_child_of (bare ns) excl s ≡ is_child_of ns excl s
  child_of_same excl = under_same (has_serial excl) (has_serial excl) refl (λ p. refl) ns

  queue_after_same : (excl : ℕ) (queue : List ℕ) (step : Step) → queue_after (bare ns) excl queue step ≡ queue_after ns excl queue step
  queue_after_same excl queue (Paused who) = λ i. cond (child_of_same excl who i) (put_paused_same who (without who queue) i) queue
  queue_after_same excl queue (Deferred who begin) = λ i. cond (child_of_same excl who i) (put_deferred_same who (without who queue) i) queue
  queue_after_same excl queue _ = refl

module _ (h : History) where
  playing_bare : (excl : ℕ) → playing_child (bare_of h) excl ≡ option_map without_texts (playing_child h excl)
  playing_bare excl = ap (find (is_playing h.diary)) (children_bare h.nodes excl) ∙ find_mapped without_texts (is_playing h.diary) (is_playing h.diary) (λ n. refl) (time_children h.nodes excl)

  pub queue_same : (excl : ℕ) → queue_of (bare_of h) excl ≡ queue_of h excl
  queue_same excl = λ i. fold (λ queue (x : Entry). queue_after_same h.nodes excl queue x.step i) [] h.diary

  -- ---- groups of entries

  cut_steps_same : (diary : List Entry) (ms : List Node) → cut_steps diary (bare ms) ≡ cut_steps diary ms
  cut_steps_same diary ms =
      ap (λ ns. map (λ (n : Node). Cut n.serial) (reverse ns)) (filter_mapped without_texts (λ (n : Node). is_active diary n.serial) (λ (n : Node). is_active diary n.serial) (λ n. refl) ms)
      ∙ ap (map (λ (n : Node). Cut n.serial)) (reverse_mapped without_texts (filter (λ (n : Node). is_active diary n.serial) ms))
      ∙ map_mapped without_texts (λ (n : Node). Cut n.serial) (λ (n : Node). Cut n.serial) (λ n. refl) (reverse (filter (λ (n : Node). is_active diary n.serial) ms))

  cuts_same : (s : ℕ) → cuts (bare_of h) s ≡ cuts h s
  cuts_same s = ap (cut_steps h.diary) (descendants_bare h.nodes s) ∙ cut_steps_same h.diary (descendants h.nodes s)

  follower_same : (moment : ℤ) (queue : List ℕ) → follower (bare_of h) moment queue ≡ follower h moment queue
  follower_same moment [] = refl
  follower_same moment (first ∷ rest) = ap (λ m. cond (is_paused h.diary first) (Resumed first ∷ []) (Began first m ∷ [])) (outer_same h first moment)

  followers_same : (moment : ℤ) (s : ℕ) → followers (bare_of h) moment s (time_parent (bare h.nodes) s) ≡ followers h moment s (time_parent h.nodes s)
  followers_same moment s = under_same (followers (bare_of h) moment s) (followers h moment s) refl (λ p i. cond (is_excl_kind p.kind && plays p i) (follower_same moment (queue_same p.serial i) i) []) h.nodes s
    where
      plays : (p : Node) → has_serial s (playing_child (bare_of h) p.serial) ≡ has_serial s (playing_child h p.serial)
      plays p = ap (has_serial s) (playing_bare p.serial) ∙ serial_same s (playing_child h p.serial)

  interruption_same : (moment : ℤ) (s : ℕ) (value : ℤ) (playing : ℕ) (act : Act) → interruption (bare_of h) moment s value playing act ≡ interruption h moment s value playing act
  interruption_same moment s value playing Stop = λ i. cuts_same playing i ++ (Ended playing (outer_same h playing moment i) ∷ Began s value ∷ [])
  interruption_same moment s value playing _ = refl

  beside_same : (moment : ℤ) (s : ℕ) (value : ℤ) (o : Option Node) → begin_beside (bare_of h) moment s value (option_map without_texts o) ≡ begin_beside h moment s value o
  beside_same moment s value None = refl
  beside_same moment s value (Some p) =
      ap (interruption (bare_of h) moment s value p.serial) (decision_same h.nodes p.serial s)
      ∙ interruption_same moment s value p.serial (decision h.nodes p.serial s)

  begin_under_same : (moment : ℤ) (s : ℕ) (value : ℤ) → begin_under (bare_of h) moment s value (time_parent (bare h.nodes) s) ≡ begin_under h moment s value (time_parent h.nodes s)
  begin_under_same moment s value = under_same (begin_under (bare_of h) moment s value) (begin_under h moment s value) refl (λ p i. cond (is_excl_kind p.kind) (besides p i) (Began s value ∷ [])) h.nodes s
    where
      besides : (p : Node) → begin_beside (bare_of h) moment s value (playing_child (bare_of h) p.serial) ≡ begin_beside h moment s value (playing_child h p.serial)
      besides p = ap (begin_beside (bare_of h) moment s value) (playing_bare p.serial) ∙ beside_same moment s value (playing_child h p.serial)

  steps_same : (moment : ℤ) (s : ℕ) (change : Change) → steps_of (bare_of h) moment s change ≡ steps_of h moment s change
  steps_same moment s (begins value) = begin_under_same moment s value
  steps_same moment s (ends value) = λ i. cuts_same s i ++ (Ended s value ∷ followers_same moment s i)
  steps_same moment s (repeats start) = ap (λ steps. steps ++ Repeated s start ∷ []) (cuts_same s)

  pub group_same : (moment : ℤ) (s : ℕ) (change : Change) → group (bare_of h) moment s change ≡ group h moment s change
  group_same moment s change = ap (at_moment moment) (steps_same moment s change)

-- ---- the resolution

-- the course of the document without plain texts
abbrev pub bare_course : Course → Course
bare_course c = record { nodes = bare c.nodes; log = c.log; last = c.last }

module _ (c : Course) where
  after_coming_same : (p : Progress) (o : Option DueChange) → after_coming (bare_course c) p o ≡ after_coming c p o
  after_coming_same p None = refl
  after_coming_same p (Some next) =
      ap (λ entries. cond (is_due (pos p.moment) next.key) (Some (record { moment = p.moment; heard = p.heard; diary = p.diary ++ entries })) (after_settling c p (slice_get c.log p.heard)))
      (group_same (history_at c p) (pos p.moment) next.key.serial next.change)

  next_same : (p : Progress) → next_step (bare_course c) p ≡ next_step c p
  next_same p =
      ap (λ cs. after_coming (bare_course c) p (first_coming cs)) (coming_same (history_at c p) (pos p.moment))
      ∙ after_coming_same p (first_coming (coming (history_at c p) (pos p.moment)))

  pub after_steps_same : (k : ℕ) (p : Progress) → after_steps (bare_course c) k p ≡ after_steps c k p
  after_steps_same zero p = refl
  after_steps_same (suc k) p = step (after_steps_same k)
    where
      step : ((q : Progress) → after_steps (bare_course c) k q ≡ after_steps c k q) → after_steps (bare_course c) (suc k) p ≡ after_steps c (suc k) p
      step r = λ i. option_map_or (λ q. r q i) (next_same p i) p

  pub resolved_same : resolved (bare_course c) ≡ resolved c
  resolved_same = after_steps_same (suc (DIARY_ENTRIES + c.last)) outset

  pub diary_same : (entries : ℕ) → diary_within entries (bare_course c) ≡ diary_within entries c
  diary_same entries = ap (λ (p : Progress). cond (nat_le (length p.diary) entries) (Some p.diary) None) resolved_same
