-- The plays of an element: the present one, and the intervals that finished since birth.
use Rattle.std.specs.Prelude.{ℕ, ℤ, List, [], ◌∷◌, ◌++◌, fold, Bool, true, false, ◌==◌, if◌then◌else◌, Option, Some, None, int_lt}
use Rattle.std.specs.List.{last_or}
use Rattle.smil_model.specs.declared.diary.Entry.{Entry}
use Rattle.smil_model.specs.declared.diary.Step.{Step}
use Rattle.smil_model.specs.declared.diary.Step.TheVariants.{Began, Ended, Cut, Passed}
use Rattle.smil_model.specs.declared.document.Node.{Node}
use Rattle.smil_model.specs.document.Document.{time_parent}
use Rattle.smil_model.specs.diary.Diary.{History, gives_birth, since_birth}
use Rattle.smil_model.specs.diary.Clocks.{outer}

-- a begin or an end: its value on the time parent's clock, and its moment
pub record PlayEdge : Type 0 where
  pub value : ℤ
  pub moment : ℤ

-- a finished interval; it was finished by an end, or by a cut,
-- whose value is that of the clock at its moment
pub record FinishedInterval : Type 0 where
  pub begin : PlayEdge
  pub finish : PlayEdge
  pub was_cut : Bool

-- the begin of the present play, and the finished intervals in order
pub record Plays : Type 0 where
  pub present : Option PlayEdge
  pub finished : List FinishedInterval

-- an end or a cut finishes the interval that began
abbrev pub finish_with :
    Option PlayEdge → PlayEdge → Bool → List FinishedInterval → List FinishedInterval
finish_with None finish was_cut done = done
finish_with (Some begin) finish was_cut done =
    done ++ record { begin = begin; finish = finish; was_cut = was_cut } ∷ []

abbrev pub play_after : History → ℕ → ℤ → Plays → Step → Plays
play_after h serial moment plays (Began who begin) =
    if who == serial
    then record {
      present = Some (record { value = begin; moment = moment });
      finished = plays.finished;
    }
    else plays
play_after h serial moment plays (Ended who end') =
    if who == serial
    then record {
      present = None;
      finished =
          finish_with plays.present (record { value = end'; moment = moment }) false plays.finished;
    }
    else plays
play_after h serial moment plays (Cut who) =
    if who == serial
    then record {
      present = None;
      finished =
          finish_with plays.present
          (record { value = outer h serial moment; moment = moment }) true plays.finished;
    }
    else plays
play_after h serial moment plays _ = plays

-- whether the step is a birth of the children of this time parent
abbrev pub is_birth_under : Option Node → Step → Bool
is_birth_under None step = false
is_birth_under (Some p) step = gives_birth p.serial step

-- a birth forgets the finished intervals; the present play goes on until it is ended or cut
abbrev pub plays : History → ℕ → Plays
plays h serial =
    fold
    (λ (so_far : Plays) (x : Entry).
    if is_birth_under (time_parent h.nodes serial) x.step
    then record { present = so_far.present; finished = [] }
    else play_after h serial x.moment so_far x.step)
    (record { present = None; finished = [] })
    h.diary

-- the first one, where there is one
abbrev pub first_of : {A : Type 0} → List A → Option A
first_of [] = None
first_of (x ∷ xs) = Some x

-- the last interval that finished since birth
abbrev pub last_finished : History → ℕ → Option FinishedInterval
last_finished h serial = last_or None (plays h serial).finished

-- the greatest begin since birth that an excl let pass
abbrev pub greater_begin : Option ℤ → ℤ → Option ℤ
greater_begin None b = Some b
greater_begin (Some a) b = if int_lt a b then Some b else Some a

abbrev pub passed_after : ℕ → Option ℤ → Step → Option ℤ
passed_after serial before (Passed who begin) =
    if who == serial then greater_begin before begin else before
passed_after serial before _ = before

abbrev pub passed : History → ℕ → Option ℤ
passed h serial =
    fold (λ before (x : Entry). passed_after serial before x.step) None (since_birth h serial)
