-- What the steps of a resolution that is made anew come to.
use Rattle.std.specs.Prelude.{◌≡◌, ℕ, ◌<◌, ◌≤◌, pos, nat_abs, ◌≤ℤ◌, List, ◌++◌, length, take, Option, Some, None, ◌+◌}
use Rattle.smil_model.specs.declared.diary.Entry.{Entry}
use Rattle.smil_model.specs.declared.diary.Step.{Step}
use Rattle.smil_model.specs.declared.times.TheConstants.{HORIZON}
use Rattle.smil_model.specs.happening.Groups.{at_moment}
use Rattle.smil_model.specs.happening.Resolution.{Reaches, next_step}
use Rattle.smil_past.specs.Past.{IsPresent, MarkedHistory, with_diary}
use Rattle.smil_rounds.specs.Appended.{MayAppendAll}
use Rattle.smil_rounds.specs.Round.{AreOfElements}
use Rattle.smil_audit.specs.declared.replay.Agreement.{Agreement}
use Rattle.smil_audit.specs.declared.replay.Replay.{Replay}
use Rattle.smil_audit.specs.declared.replay.Went.{Went}
use Rattle.smil_audit.specs.declared.replay.Went.TheVariants.{On, Off, Ended}
use Rattle.smil_audit.specs.Entries.{agreed}
use Rattle.smil_audit.specs.Replayed.{AgreesBy, Replayed, DiffersAt, Follows, course_of, with_progress}

-- what a replay stands for
abbrev pub replayed : Replay → Replayed
replayed r = record {
  document = r.past.document;
  log = r.past.log;
  last = nat_abs r.last;
  at = record { moment = nat_abs r.moment; heard = r.heard; diary = r.past.diary };
}

-- its diary is what the resolution comes to, and its rows are of the document's elements
pub record IsReplay (r : Replay) : Type 0 where
  pub present : IsPresent r.past r.moment
  pub from : pos 0 ≤ℤ r.moment
  pub within : r.moment ≤ℤ r.last
  pub horizon : r.last ≤ℤ HORIZON
  pub reached : Reaches (course_of (replayed r)) (replayed r).at
  pub of_elements : AreOfElements r.past.document.nodes r.known

-- ---- one step, and all

-- the resolution went on, and all that it came to agrees with the diary
pub record WentOn (old new : Replayed) (given : List Entry) : Type 0 where
  pub same : new ≡ with_progress old new.at
  pub follows : Follows new given
  pub more : length old.at.diary < length new.at.diary
  pub within : length new.at.diary ≤ length given

-- it has ended
pub record HasEnded (old new : Replayed) : Type 0 where
  pub same : new ≡ with_progress old new.at
  pub diary_is : new.at.diary ≡ old.at.diary
  pub ended : next_step (course_of new) new.at ≡ None

abbrev pub WentBy : Replayed → Replayed → List Entry → Went → Type 0
WentBy old new given On = WentOn old new given
WentBy old new given (Off index) = DiffersAt old given index
WentBy old new given Ended = HasEnded old new

abbrev pub AgreesTo : Replayed → List Entry → Agreement → Type 0
AgreesTo r given a = AgreesBy r given a.same a.ended

-- ---- the entries of a step

-- the entries at hand are those of the next step, after which so much was heard, and each may follow
pub record MayTakeIn (r : Replay) (heard : ℕ) : Type 0 where
  pub step : next_step (course_of (replayed r)) (replayed r).at
      ≡ Some (record {
        moment = nat_abs r.moment;
        heard = heard;
        diary = r.past.diary ++ r.group.items;
      })
  pub filled : 0 < length r.group.items
  pub may : MayAppendAll r.past r.group.items
  pub steps : List Step
  pub steps_are : r.group.items ≡ at_moment r.moment steps

-- all of them agree with a diary and were appended, or the first that differs is at an index
abbrev pub TakenIn :
    MarkedHistory → List Entry → List Entry → MarkedHistory → Option ℕ → Type 0
TakenIn old group given new None =
    (new ≡ with_diary old (old.diary ++ group))
    × (take (length old.diary + length group) given ≡ old.diary ++ group)
TakenIn old group given new (Some index) =
    (new ≡ old) × (agreed given (old.diary ++ group) ≡ index)
    × (index < length old.diary + length group)
