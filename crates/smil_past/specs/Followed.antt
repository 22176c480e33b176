-- What one entry more makes of what is kept of an element.
use Rattle.std.specs.Prelude.{◌≡◌, ℕ, ◌+◌, ◌-◌, ◌^◌, ◌<◌, min, ℤ, List, length, Bool, true, false, not, ◌&&◌, ◌||◌, ◌==◌, if◌then◌else◌, Option, Some, None, is_some, unwrap_or}
use Rattle.std.specs.Option.{option_or}
use Rattle.smil_model.specs.declared.times.Time.{Time}
use Rattle.smil_model.specs.declared.times.Time.TheVariants.{Unresolved}
use Rattle.smil_model.specs.declared.diary.Entry.{Entry}
use Rattle.smil_model.specs.declared.diary.LogEntry.{LogEntry}
use Rattle.smil_model.specs.declared.diary.Step.{Step}
use Rattle.smil_model.specs.declared.diary.Step.TheVariants.{Began, Repeated, Ended, Cut, Paused, Resumed, Deferred, Passed}
use Rattle.smil_model.specs.declared.document.Node.{Node}
use Rattle.smil_model.specs.declared.limits.TheConstants.{DIARY_ENTRIES}
use Rattle.smil_model.specs.document.Document.{Document, time_parent}
use Rattle.smil_model.specs.diary.Diary.{History, with_entry}
use Rattle.smil_model.specs.diary.Lawful.{IsLawful}
use Rattle.smil_model.specs.diary.Clocks.{outer, to_document, start_of, play_start_after, iteration_start_after}
use Rattle.smil_model.specs.diary.Plays.{is_birth_under, passed_after}
use Rattle.smil_model.specs.interval.Current.{length_of, length_after}
use Rattle.smil_stretch.specs.declared.clock.NodeClock.{NodeClock}
use Rattle.smil_stretch.specs.Clocks.{AreClocksOf}
use Rattle.smil_past.specs.declared.plays.facts.PastInterval.{PastInterval}
use Rattle.smil_past.specs.declared.plays.facts.PlayFacts.{PlayFacts}

-- an end or a cut of the time parent
abbrev pub is_death_under : Option Node → Step → Bool
is_death_under (Some p) (Ended who end') = who == p.serial
is_death_under (Some p) (Cut who) = who == p.serial
is_death_under _ _ = false

-- the begin of the present play, and the same in document time
abbrev pub begun_after : ℕ → Option ℤ → Step → Option ℤ
begun_after s before (Began who begin) = if who == s then Some begin else before
begun_after s before (Ended who end') = if who == s then None else before
begun_after s before (Cut who) = if who == s then None else before
begun_after s before _ = before

abbrev pub shown_begun_after : History → ℕ → ℤ → Option ℤ → Step → Option ℤ
shown_begun_after h s m before (Began who begin) =
    if who == s then Some (to_document h s begin m) else before
shown_begun_after h s m before (Ended who end') = if who == s then None else before
shown_begun_after h s m before (Cut who) = if who == s then None else before
shown_begun_after h s m before _ = before

-- the interval of a play that finishes with a value
abbrev pub finished_interval :
    History → ℕ → ℤ → ℤ → Bool → Option ℤ → Option ℤ → Option PastInterval
finished_interval h s m finish was_cut (Some begin) (Some shown) = Some (record {
  begin = begin;
  finish = finish;
  shown_begin = shown;
  shown_finish = to_document h s finish m;
  was_cut = was_cut;
})
finished_interval h s m finish was_cut _ _ = None

-- the interval that a step finishes
abbrev pub interval_finished_by : History → ℕ → ℤ → Option ℤ → Option ℤ → Step → Option PastInterval
interval_finished_by h s m begun shown (Ended who end') =
    if who == s then finished_interval h s m end' false begun shown else None
interval_finished_by h s m begun shown (Cut who) =
    if who == s then finished_interval h s m (outer h s m) true begun shown else None
interval_finished_by h s m begun shown _ = None

-- the begin that an excl has deferred, in document time
abbrev pub shown_deferred_after : History → ℕ → ℤ → Option ℤ → Step → Option ℤ
shown_deferred_after h s m before (Began who begin) = if who == s then None else before
shown_deferred_after h s m before (Ended who end') = if who == s then None else before
shown_deferred_after h s m before (Cut who) = if who == s then None else before
shown_deferred_after h s m before (Deferred who begin) =
    if who == s then Some (to_document h s begin m) else before
shown_deferred_after h s m before (Passed who begin) = if who == s then None else before
shown_deferred_after h s m before _ = before

-- the last length that the diary tells
abbrev pub told_by : ℕ → Option LogEntry → Time → Time
told_by s entry before = unwrap_or (length_of s entry (Some before)) Unresolved

abbrev pub told_after : List LogEntry → ℕ → Time → Step → Time
told_after log s before step = unwrap_or (length_after log s (Some before) step) Unresolved

-- whether the element is paused
abbrev pub is_paused_after : ℕ → Bool → Step → Bool
is_paused_after s before (Began who begin) = if who == s then false else before
is_paused_after s before (Ended who end') = if who == s then false else before
is_paused_after s before (Cut who) = if who == s then false else before
is_paused_after s before (Paused who) = (who == s) || before
is_paused_after s before (Resumed who) = if who == s then false else before
is_paused_after s before _ = before

-- one more, up to the greatest number that is kept
abbrev pub one_more : ℕ → ℕ
one_more n = min (n + 1) (2 ^ 32 - 1)

-- how many intervals there are with one that finishes
abbrev pub finished_after : Option PastInterval → ℕ → ℕ
finished_after None before = before
finished_after (Some x) before = one_more before

-- the iteration that a repeat starts, where the element began since birth
abbrev pub next_iteration : Bool → ℕ → ℕ
next_iteration true before = one_more before
next_iteration false before = before

-- the number of the iteration
abbrev pub number_after : ℕ → Bool → ℕ → Step → ℕ
number_after s began before (Began who begin) = if who == s then 0 else before
number_after s began before (Repeated who start) =
    if who == s then next_iteration began before else before
number_after s began before _ = before

-- whether the element began
abbrev pub has_begun_after : ℕ → Bool → Step → Bool
has_begun_after s before (Began who begin) = (who == s) || before
has_begun_after s before _ = before

-- 0 after it, else what was
abbrev pub zero_if : Bool → ℕ → ℕ
zero_if gone before = if gone then 0 else before

-- none after it, else what was
abbrev pub none_if : {A : Type 0} → Bool → Option A → Option A
none_if gone before = if gone then None else before

-- the entry's own part of it
abbrev pub own_after : History → Entry → ℕ → PlayFacts → PlayFacts
own_after h y s r = record {
  begun = begun_after s r.begun y.step;
  shown_begun = shown_begun_after h s y.moment r.shown_begun y.step;
  first = play_start_after h s y.moment r.first y.step;
  start = iteration_start_after h s y.moment r.start y.step;
  first_finished =
      option_or r.first_finished (interval_finished_by h s y.moment r.begun r.shown_begun y.step);
  last_finished =
      option_or (interval_finished_by h s y.moment r.begun r.shown_begun y.step) r.last_finished;
  shown_deferred = shown_deferred_after h s y.moment r.shown_deferred y.step;
  passed = passed_after s r.passed y.step;
  length = told_after h.log s r.length y.step;
  paused = is_paused_after s r.paused y.step;
  iteration = number_after s r.began_since_birth r.iteration y.step;
  finished =
      finished_after (interval_finished_by h s y.moment r.begun r.shown_begun y.step) r.finished;
  began_since_birth = has_begun_after s r.began_since_birth y.step;
}

-- what a birth or an end of the time parent leaves: a birth forgets what began, finished,
-- was deferred or passed since the last one, and after an end nothing is deferred
abbrev pub child_after : Bool → Bool → PlayFacts → PlayFacts
child_after birth death r = record r {
  first_finished = none_if birth r.first_finished;
  last_finished = none_if birth r.last_finished;
  shown_deferred = none_if (birth || death) r.shown_deferred;
  passed = none_if birth r.passed;
  iteration = zero_if birth r.iteration;
  finished = zero_if birth r.finished;
  began_since_birth = not birth && r.began_since_birth;
}

-- what a step leaves of what is kept of an element by its time parent
abbrev pub child_step : List Node → Step → ℕ → PlayFacts → PlayFacts
child_step nodes step s =
    child_after (is_birth_under (time_parent nodes s) step)
    (is_death_under (time_parent nodes s) step)

-- what is kept of an element after one entry more
abbrev pub row_after : History → Entry → ℕ → PlayFacts → PlayFacts
row_after h y s r = child_step h.nodes y.step s (own_after h y s r)

-- what a begin, and a finish with a value, make of the element's own row
abbrev pub began_row : History → ℕ → ℤ → ℤ → PlayFacts → PlayFacts
began_row h s m begin r = record r {
  begun = Some begin;
  shown_begun = Some (to_document h s begin m);
  first = start_of h s m begin;
  start = start_of h s m begin;
  shown_deferred = None;
  paused = false;
  iteration = 0;
  began_since_birth = true;
}

-- a row with one more interval that finished, where there is one
abbrev pub with_finished : Option PastInterval → PlayFacts → PlayFacts
with_finished interval r = record r {
  first_finished = option_or r.first_finished interval;
  last_finished = option_or interval r.last_finished;
  finished = finished_after interval r.finished;
}

abbrev pub finished_row : History → ℕ → ℤ → ℤ → Bool → PlayFacts → PlayFacts
finished_row h s m finish was_cut r = record r {
  begun = None;
  shown_begun = None;
  first_finished =
      option_or r.first_finished (finished_interval h s m finish was_cut r.begun r.shown_begun);
  last_finished =
      option_or (finished_interval h s m finish was_cut r.begun r.shown_begun) r.last_finished;
  shown_deferred = None;
  paused = false;
  finished =
      finished_after (finished_interval h s m finish was_cut r.begun r.shown_begun) r.finished;
}

abbrev pub deferred_row : History → ℕ → ℤ → ℤ → PlayFacts → PlayFacts
deferred_row h s m begin r = record r { shown_deferred = Some (to_document h s begin m) }

-- whether an element with this row may be in a queue before a step that takes it out of there
abbrev pub may_wait : PlayFacts → Step → Bool
may_wait r (Began who begin) = is_some r.shown_deferred || is_some r.passed
may_wait r (Deferred who begin) = is_some r.shown_deferred || is_some r.passed
may_wait r (Ended who end') = r.paused
may_wait r (Cut who) = r.paused
may_wait r step = true

-- ---- what is at hand

-- the entry comes after this history, by the document, the clocks before it, and the log
pub record IsEntryAfter (h : History) (y : Entry) (document : Document) (clocks : List NodeClock)
    (log : List LogEntry) : Type 0 where
  pub same_nodes : h.nodes ≡ document.nodes
  pub same_log : h.log ≡ log
  pub known : AreClocksOf clocks h
  pub lawful : IsLawful (with_entry h y)
  pub few : length h.diary < DIARY_ENTRIES

-- there is such a history
pub record MayBeTaken
    (y : Entry) (document : Document) (clocks : List NodeClock) (log : List LogEntry) : Type 0 where
  pub past : History
  pub before : IsEntryAfter past y document clocks log
