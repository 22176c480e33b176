-- What a diary says of the plays of each element, with what the clocks of each entry's own moment
-- showed.
use Rattle.std.specs.Prelude.{Option, ◌≡◌, ℕ, List, length, map, is_some, option_map, option_and_then}
use Rattle.smil_model.specs.declared.diary.Entry.{Entry}
use Rattle.smil_model.specs.declared.document.Node.{Node}
use Rattle.smil_model.specs.document.Document.{elements, node_at}
use Rattle.smil_model.specs.diary.Diary.{History, deferral, is_paused, iteration, iteration_from, since_birth, with_entry}
use Rattle.smil_model.specs.diary.Clocks.{play_start, iteration_start}
use Rattle.smil_model.specs.diary.Plays.{PlayEdge, FinishedInterval, plays, first_of, last_finished, passed}
use Rattle.smil_model.specs.interval.Current.{media_length}
use Rattle.smil_model.specs.shown.Views.{document_value, deferred_begin, present_begin}
use Rattle.smil_past.specs.declared.plays.facts.PastInterval.{PastInterval}
use Rattle.smil_past.specs.declared.plays.facts.PlayFacts.{PlayFacts}

-- a finished interval: its begin and its finish on the time parent's clock, both in document time,
-- and whether it was cut
abbrev pub past_interval : History → ℕ → FinishedInterval → PastInterval
past_interval h serial f = record {
  begin = f.begin.value;
  finish = f.finish.value;
  shown_begin = document_value h serial f.begin;
  shown_finish = document_value h serial f.finish;
  was_cut = f.was_cut;
}

-- what is kept of an element
abbrev pub played : History → ℕ → PlayFacts
played h serial = record {
  begun = option_map (λ (m : PlayEdge). m.value) (plays h serial).present;
  shown_begun = present_begin h serial;
  first = play_start h serial;
  start = iteration_start h serial;
  first_finished = option_map (past_interval h serial) (first_of (plays h serial).finished);
  last_finished = option_map (past_interval h serial) (last_finished h serial);
  shown_deferred =
      option_and_then (λ (x : Entry). deferred_begin h serial x.moment x.step) (deferral h serial);
  passed = passed h serial;
  length = media_length h serial;
  paused = is_paused h.diary serial;
  iteration = iteration h serial;
  finished = length (plays h serial).finished;
  began_since_birth = is_some (iteration_from serial (since_birth h serial));
}

-- what is kept of all elements, in document order
abbrev pub all_played : History → List (ℕ × PlayFacts)
all_played h = map (λ (e : Node). (e.serial, played h e.serial)) (elements h.nodes)

-- what is kept of one, where the document has such an element
abbrev pub played_at : History → ℕ → Option PlayFacts
played_at h serial =
    option_map (λ (e : Node). played h e.serial) (node_at (elements h.nodes) serial)

-- from what is kept of a history to what is kept after one entry more
abbrev pub TakesIn : History → Entry → List (ℕ × PlayFacts) → List (ℕ × PlayFacts) → Type 0
TakesIn h y before after = before ≡ all_played h → after ≡ all_played (with_entry h y)
