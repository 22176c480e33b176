-- Entries leave an element that they do not concern with the ends that it had.
use Rattle.std.proofs.Common.{ℕ, Option, Some, None}
use Rattle.std.specs.Prelude.{pos, cond, option_map}
use Rattle.std.specs.List.{last_or}
use Rattle.std.specs.Option.{option_or}
use Rattle.smil_model.specs.declared.interval.Interval.{Interval}
use Rattle.smil_model.specs.declared.times.Time.TheVariants.{Unresolved}
use Rattle.smil_model.specs.diary.Diary.{History}
use Rattle.smil_model.specs.diary.Plays.{first_of}
use Rattle.smil_model.specs.interval.Current.{finish_time, present_end}
use Rattle.smil_concern_laws.specs.Unconcerned.{LeavesEnds, SameDone, SameEnds}
use Rattle.smil_concern_laws.proofs.UnconcernedStay.{entries_stay}

pub leaves_ends : LeavesEnds
leaves_ends h entries c first here free = (entries_stay (λ _. None) (pos 0) c h entries first here free).done

-- so the ends by one interval are the same
pub same_ends : (h k : History) (interval : Option Interval) (s : ℕ) → SameDone h k s → SameEnds h k interval interval s
same_ends h k interval s same = record {
  first = λ i. option_or (option_map finish_time (first_of (same.plays_are i).finished)) (present_end interval);
  latest = λ i.
      option_or (present_end interval)
      (cond (same.deferred i) (Some Unresolved) (option_map finish_time (last_or None (same.plays_are i).finished)));
}
