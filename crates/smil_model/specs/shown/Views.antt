-- What is shown of each element at a moment: its state, its times,
-- its iteration and its finished intervals.
use Rattle.std.specs.Prelude.{ℕ, suc, ℤ, pos, ◌+ℤ◌, ◌-ℤ◌, List, [], ◌∷◌, drop, length, map, filter, Bool, true, false, not, ◌&&◌, ◌||◌, ◌==◌, if◌then◌else◌, Option, Some, None, is_some, option_map, option_and_then}
use Rattle.std.specs.List.{list_any}
use Rattle.std.specs.Option.{option_map_or}
use Rattle.smil_model.specs.declared.times.Time.{Time}
use Rattle.smil_model.specs.declared.times.Time.TheVariants as time
use Rattle.smil_model.specs.declared.diary.Entry.{Entry}
use Rattle.smil_model.specs.declared.interval.Interval.{Interval}
use Rattle.smil_model.specs.declared.diary.Step.{Step}
use Rattle.smil_model.specs.declared.diary.Step.TheVariants.{Began, Ended, Cut, Resumed, Deferred}
use Rattle.smil_model.specs.declared.document.Node.{Node}
use Rattle.smil_model.specs.declared.document.Fill.{Fill}
use Rattle.smil_model.specs.declared.document.Fill.TheVariants.{Freeze, Hold}
use Rattle.smil_model.specs.declared.view.State.{State}
use Rattle.smil_model.specs.declared.view.State.TheVariants as state
use Rattle.smil_model.specs.declared.view.Shown.{Shown}
use Rattle.smil_model.specs.declared.view.Shown.TheVariants as shown
use Rattle.smil_model.specs.declared.view.View.{View}
use Rattle.smil_model.specs.declared.view.ViewFacts.{ViewFacts}
use Rattle.smil_model.specs.document.Document.{elements, is_element, lineage, time_parent, has_serial, is_in_seq, is_in_excl, previous_in_seq}
use Rattle.smil_model.specs.document.Defaults.{effective_fill}
use Rattle.smil_model.specs.diary.Diary.{History, last_place, since_birth, is_active, is_paused, is_deferred, deferral, iteration}
use Rattle.smil_model.specs.diary.Clocks.{outer, to_document, outer_stands}
use Rattle.smil_model.specs.diary.Plays.{PlayEdge, FinishedInterval, plays, last_finished}
use Rattle.smil_model.specs.interval.Current.{current_table, in_table}

-- ---- the view by its facts

-- whether the element is frozen: its fill keeps it while its parent is active or frozen,
-- freeze only until it is displaced; or its last interval was cut and its parent is frozen
abbrev pub keeps : Fill → Bool → Bool
keeps Hold displaced = true
keeps Freeze displaced = not displaced
keeps _ displaced = false

abbrev pub is_frozen_by : ViewFacts → Bool
is_frozen_by facts =
    is_some facts.last
    && ((keeps facts.fill facts.displaced && facts.parent_shows)
    || (facts.cut && facts.parent_frozen))

-- the state of an element that is neither active nor deferred: the first that applies
abbrev pub resting_state : Bool → Bool → Bool → State
resting_state frozen waits finished =
    if frozen then state.Frozen
    else (if waits then state.Waiting else (if finished then state.Done else state.Idle))

-- the first state that applies
abbrev pub state_by : ViewFacts → State
state_by facts =
    if facts.active
    then (if facts.paused then state.Paused else state.Active)
    else if is_some facts.deferred
    then state.Deferred
    else resting_state (is_frozen_by facts) (is_some facts.interval) (is_some facts.last)

-- a value on the time parent's clock is carried to document time at the present moment,
-- and is shown as standing while that clock stands
abbrev pub shown_time : ViewFacts → Time → Shown
shown_time facts (time.At v) =
    if facts.standing then shown.Standing else shown.At (v +ℤ facts.shift)
shown_time facts time.Indefinite = shown.Indefinite
shown_time facts time.Unresolved = shown.Unresolved

abbrev pub shown_or : {A : Type 0} → (A → Shown) → Option A → Shown
shown_or of None = shown.Nothing
shown_or of (Some x) = of x

-- idle shows no times, waiting its interval, active and paused the begun value,
-- deferred the deferred begin, frozen and done the last finished interval
abbrev pub shown_begin : ViewFacts → State → Shown
shown_begin facts state.Idle = shown.Nothing
shown_begin facts state.Waiting =
    shown_or (λ (i : Interval). shown_time facts (time.At i.begin)) facts.interval
shown_begin facts state.Active = shown_or shown.At facts.begun
shown_begin facts state.Paused = shown_or shown.At facts.begun
shown_begin facts state.Deferred = shown_or shown.At facts.deferred
shown_begin facts state.Frozen = shown_or (λ (last : ℤ × ℤ). shown.At last.0) facts.last
shown_begin facts state.Done = shown_or (λ (last : ℤ × ℤ). shown.At last.0) facts.last

-- idle and deferred show no end, frozen and done that of the last finished interval,
-- all others the present end
abbrev pub shown_end : ViewFacts → State → Shown
shown_end facts state.Idle = shown.Nothing
shown_end facts state.Deferred = shown.Nothing
shown_end facts state.Frozen = shown_or (λ (last : ℤ × ℤ). shown.At last.1) facts.last
shown_end facts state.Done = shown_or (λ (last : ℤ × ℤ). shown.At last.1) facts.last
shown_end facts _ = shown_or (λ (i : Interval). shown_time facts i.«end») facts.interval

abbrev pub view_by : ViewFacts → View
view_by facts =
    let of_state = state_by facts in
    record {
      serial = facts.serial;
      state = of_state;
      begin = shown_begin facts of_state;
      «end» = shown_end facts of_state;
      iteration = facts.iteration;
      finished = facts.finished;
    }

-- ---- what displaces a frozen element

abbrev pub is_finish : ℕ → Step → Bool
is_finish serial (Ended who end') = who == serial
is_finish serial (Cut who) = who == serial
is_finish serial _ = false

-- how many entries there are up to the last end of an element; all where there is none
abbrev pub finished_by : List Entry → ℕ → ℕ
finished_by diary serial =
    option_map_or suc (last_place (λ (x : Entry). is_finish serial x.step) diary) (length diary)

-- the entries after the last end of the element
abbrev pub since_finish : List Entry → ℕ → List Entry
since_finish diary serial = drop (finished_by diary serial) diary

abbrev pub is_sibling : List Node → Option Node → ℕ → ℕ → Bool
is_sibling nodes None serial other = false
is_sibling nodes (Some p) serial other =
    not (other == serial) && has_serial p.serial (time_parent nodes other)

-- a begin or resume of another child of the same time parent
abbrev pub sets_off_sibling : List Node → ℕ → Step → Bool
sets_off_sibling nodes serial (Began who begin) =
    is_sibling nodes (time_parent nodes serial) serial who
sets_off_sibling nodes serial (Resumed who) = is_sibling nodes (time_parent nodes serial) serial who
sets_off_sibling nodes serial _ = false

-- a begin of the next child of a seq, which counts as after the end of this one in whichever order
-- the two stand
abbrev pub begins_next : List Node → ℕ → Step → Bool
begins_next nodes serial (Began who begin) = has_serial serial (previous_in_seq nodes who)
begins_next nodes serial _ = false

-- in a seq or an excl another child began or resumed after the last end
abbrev pub is_displaced : History → ℕ → Bool
is_displaced h serial =
    ((is_in_seq h.nodes serial || is_in_excl h.nodes serial)
    && list_any (λ (x : Entry). sets_off_sibling h.nodes serial x.step)
    (since_finish h.diary serial))
    || (is_in_seq h.nodes serial
    && list_any (λ (x : Entry). begins_next h.nodes serial x.step) (since_birth h serial))

-- ---- the facts

-- a value that stands in the diary is carried to document time at its entry's moment
abbrev pub document_value : History → ℕ → PlayEdge → ℤ
document_value h serial mark = to_document h serial mark.value mark.moment

abbrev pub deferred_begin : History → ℕ → ℤ → Step → Option ℤ
deferred_begin h serial moment (Deferred who begin) = Some (to_document h serial begin moment)
deferred_begin h serial moment _ = None

abbrev pub finished_values : History → ℕ → FinishedInterval → ℤ × ℤ
finished_values h serial f = (document_value h serial f.begin, document_value h serial f.finish)

abbrev pub was_cut : Option FinishedInterval → Bool
was_cut None = false
was_cut (Some f) = f.was_cut

abbrev pub present_begin : History → ℕ → Option ℤ
present_begin h serial =
    if is_active h.diary serial then option_map (document_value h serial) (plays h serial).present
    else None

-- the facts of an element, given its current interval,
-- whether its time parent is active or frozen or there is none,
-- and whether the time parent is frozen
abbrev pub view_facts : History → ℤ → Option Interval → Bool → Bool → Node → ViewFacts
view_facts h now interval parent_shows parent_frozen e = record {
  serial = e.serial;
  active = is_active h.diary e.serial;
  paused = is_paused h.diary e.serial;
  deferred = option_and_then (λ (x : Entry). deferred_begin h e.serial x.moment x.step)
      (deferral h e.serial);
  interval = interval;
  begun = present_begin h e.serial;
  last = option_map (finished_values h e.serial) (last_finished h e.serial);
  cut = was_cut (last_finished h e.serial);
  fill = effective_fill h.nodes e;
  displaced = is_displaced h e.serial;
  parent_shows = parent_shows;
  parent_frozen = parent_frozen;
  standing = outer_stands h e.serial;
  shift = now -ℤ outer h e.serial now;
  iteration = iteration h e.serial;
  finished = length (plays h e.serial).finished;
}

-- an element is frozen where that is its state
abbrev pub is_frozen_under : History → Bool → Bool → Node → Bool
is_frozen_under h parent_shows parent_frozen e =
    not (is_active h.diary e.serial)
    && not (is_deferred h e.serial)
    && is_frozen_by (view_facts h (pos 0) None parent_shows parent_frozen e)

abbrev pub shows_under : History → Bool → List Node → Bool
shows_under h frozen [] = true
shows_under h frozen (p ∷ ps) = is_active h.diary p.serial || frozen

-- whether the first of these is frozen, where each is followed by its time parent
abbrev pub is_frozen_in : History → List Node → Bool
is_frozen_in h [] = false
is_frozen_in h (e ∷ parents) =
    let above = is_frozen_in h parents in
    is_frozen_under h (shows_under h above parents) above e

-- the elements above this one, from its time parent up to the root
abbrev pub time_ancestors : List Node → ℕ → List Node
time_ancestors nodes serial = drop 1 (filter is_element (lineage nodes serial))

-- ---- the views of a presentation

abbrev pub view_of : History → ℤ → (ℕ → Option Interval) → Node → View
view_of h now intervals e =
    let parents = time_ancestors h.nodes e.serial in
    let frozen = is_frozen_in h parents in
    view_by (view_facts h now (intervals e.serial) (shows_under h frozen parents) frozen e)

-- the views of all elements, in document order
abbrev pub views : History → ℤ → List View
views h now =
    let rows = current_table h now in
    map (view_of h now (in_table rows)) (elements h.nodes)

-- the view of an element of which nothing is known: idle, no times
abbrev pub blank : ℕ → View
blank serial = record {
  serial = serial;
  state = state.Idle;
  begin = shown.Nothing;
  «end» = shown.Nothing;
  iteration = 0;
  finished = 0;
}
