-- The intervals of an element over the whole diary, as the order `history` lists them.
use Rattle.std.specs.Prelude.{ℕ, ℤ, List, [], ◌++◌, map, fold, true, false, if◌then◌else◌, None, option_map, option_to_list}
use Rattle.smil_model.specs.declared.diary.Entry.{Entry}
use Rattle.smil_model.specs.declared.interval.Interval.{Interval}
use Rattle.smil_model.specs.declared.document.Node.{Node}
use Rattle.smil_model.specs.declared.view.Shown.{Shown}
use Rattle.smil_model.specs.declared.view.Shown.TheVariants as shown
use Rattle.smil_model.specs.declared.view.How.{How}
use Rattle.smil_model.specs.declared.view.How.TheVariants as how
use Rattle.smil_model.specs.diary.Diary.{History}
use Rattle.smil_model.specs.diary.Plays.{PlayEdge, FinishedInterval, Plays, play_after}
use Rattle.smil_model.specs.interval.Current.{current_interval}
use Rattle.smil_model.specs.shown.Views.{document_value, view_facts, shown_time, shown_or}

-- an interval as it is shown: its times in document time, and how it ended
pub record ShownInterval : Type 0 where
  pub begin : Shown
  pub finish : Shown
  pub how : How

-- the plays of the element over the whole diary: no birth forgets them
abbrev pub all_plays : History → ℕ → Plays
all_plays h serial =
    fold
    (λ (so_far : Plays) (x : Entry). play_after h serial x.moment so_far x.step)
    (record { present = None; finished = [] })
    h.diary

abbrev pub told_finished : History → ℕ → FinishedInterval → ShownInterval
told_finished h serial f = record {
  begin = shown.At (document_value h serial f.begin);
  finish = shown.At (document_value h serial f.finish);
  how = if f.was_cut then how.Cut else how.Ended;
}

-- the present play ends as its view shows it
abbrev pub told_present : History → ℤ → Node → PlayEdge → ShownInterval
told_present h now e begin = record {
  begin = shown.At (document_value h e.serial begin);
  finish =
      shown_or
      (λ (i : Interval). shown_time (view_facts h now None true false e) i.«end»)
      (current_interval h now e.serial);
  how = how.Playing;
}

-- the intervals of the element, in order
abbrev pub intervals_of : History → ℤ → Node → List ShownInterval
intervals_of h now e =
    map (told_finished h e.serial) (all_plays h e.serial).finished
    ++ option_to_list (option_map (told_present h now e) (all_plays h e.serial).present)
