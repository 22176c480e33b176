-- The intervals of an element, told one after another.
use Rattle.std.specs.Prelude.{◌≡◌, ℕ, ℤ, List, [], ◌++◌, map, flat_map, ◌==◌, if◌then◌else◌, true, false, Option, Some, None, option_map}
use Rattle.smil_model.specs.declared.diary.Entry.{Entry}
use Rattle.smil_model.specs.declared.diary.Step.{Step}
use Rattle.smil_model.specs.declared.diary.Step.TheVariants.{Ended, Cut}
use Rattle.smil_model.specs.declared.document.Node.{Node}
use Rattle.smil_model.specs.declared.interval.Interval.{Interval}
use Rattle.smil_model.specs.declared.order.Who.{Who}
use Rattle.smil_model.specs.declared.view.How.{How}
use Rattle.smil_model.specs.declared.view.How.TheVariants as how
use Rattle.smil_model.specs.declared.view.Shown.{Shown as AnyShown}
use Rattle.smil_model.specs.declared.view.Shown.TheVariants as shown
use Rattle.smil_model.specs.diary.Clocks.{to_document}
use Rattle.smil_model.specs.diary.Diary.{History, up_to}
use Rattle.smil_model.specs.diary.Lawful.{IsLawful}
use Rattle.smil_model.specs.interval.Current.{current_interval}
use Rattle.smil_model.specs.shown.Answers.{told_line}
use Rattle.smil_model.specs.shown.Histories.{all_plays, told_finished}
use Rattle.smil_model.specs.shown.Lines.{interval_line}
use Rattle.smil_model.specs.shown.Views.{document_value, shown_or, shown_time, view_facts}
use Rattle.smil_stretch.specs.Clocks.{AreClocksOf}
use Rattle.smil_past.specs.Followed.{shown_begun_after}
use Rattle.smil_shown.specs.declared.interval_teller.IntervalTeller.{IntervalTeller}

-- the lines of the intervals that have finished
abbrev pub finished_text : History → ℕ → Who → List ℕ
finished_text h serial name =
    flat_map (told_line name) (map (told_finished h serial) (all_plays h serial).finished)

-- the begin of the present play, in document time
abbrev pub told_begin : History → ℕ → Option ℤ
told_begin h serial = option_map (document_value h serial) (all_plays h serial).present

-- the line of a play that finishes
abbrev pub finish_line : Who → Option ℤ → ℤ → How → List ℕ
finish_line name None finish how = []
finish_line name (Some begin) finish how = interval_line name (shown.At begin) (shown.At finish) how

-- what an entry makes of the begin of the present play
abbrev pub begin_after : History → Entry → ℕ → Option ℤ
begin_after h y serial = shown_begun_after h serial y.moment (told_begin h serial) y.step

-- the line of the interval that a step finishes
abbrev pub closed_by : History → ℕ → Who → ℤ → Option ℤ → Step → List ℕ
closed_by h serial name moment before (Ended who end') =
    if who == serial then finish_line name before (to_document h serial end' moment) how.Ended
    else []
closed_by h serial name moment before (Cut who) =
    if who == serial then finish_line name before moment how.Cut else []
closed_by h serial name moment before _ = []

-- the line of the interval that an entry finishes
abbrev pub closed_text : History → Entry → ℕ → Who → List ℕ
closed_text h y serial name = closed_by h serial name y.moment (told_begin h serial) y.step

-- what is told of an element after what has happened so far, behind a text
pub record IsTold
    (h : History) (name : Who) (start : List ℕ) (told : IntervalTeller) (text : List ℕ)
    : Type 0 where
  pub clocks_are : AreClocksOf told.clocks h
  pub present_is : told.present ≡ told_begin h told.who
  pub text_is : text ≡ start ++ finished_text h told.who name

-- there is a lawful history of this diary, of which nothing is told yet
pub record MayTell
    (diary : List Entry) (name : Who) (told : IntervalTeller) (text : List ℕ) : Type 0 where
  pub past : History
  pub start : List ℕ
  pub same_diary : past.diary ≡ diary
  pub lawful : IsLawful past
  pub nothing_told : IsTold (up_to past []) name start told text

-- ---- the present play

-- its end, as it is shown at a moment
abbrev pub end_at : History → ℤ → Node → AnyShown
end_at h now e =
    shown_or
    (λ (i : Interval). shown_time (view_facts h now None true false e) i.«end»)
    (current_interval h now e.serial)

-- its line, by its begin, where there is one
abbrev pub present_line : Who → Option ℤ → AnyShown → List ℕ
present_line name None finish = []
present_line name (Some begin) finish = interval_line name (shown.At begin) finish how.Playing
