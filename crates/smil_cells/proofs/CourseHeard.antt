-- The course has heard a log entry.
use Rattle.std.proofs.Common.{◌≡◌, refl, ◌∙◌, ap, ℕ, suc, ◌+◌, List, [], ◌∷◌, ◌++◌, Option, Some, None, ℤ, Bool, true, false, arith, length}
use Rattle.std.specs.Prelude.{pos, int_le, cond, slice_get}
use Rattle.smil_model.specs.declared.diary.Entry.{Entry}
use Rattle.smil_model.specs.declared.diary.LogEntry.{LogEntry}
use Rattle.smil_model.specs.declared.diary.Step.TheVariants.{Logged}
use Rattle.smil_model.specs.document.Document.{Document}
use Rattle.smil_model.specs.document.Valid.{IsNumberedTree}
use Rattle.smil_model.specs.happening.Keys.{DueChange, coming, first_coming, is_due}
use Rattle.smil_model.specs.happening.Groups.{group}
use Rattle.smil_model.specs.happening.Resolution.{Course, Progress, Reaches, after_coming, after_settling, after_quiet, history_at, outset}
use Rattle.smil_laws.specs.Agreement.{course_on}
use Rattle.smil_laws.specs.Courses.{ReachesFurther}
use Rattle.smil_laws.proofs.CourseCut.{one_more}
use Rattle.smil_model.proofs.NumberOrders.{le_self}

seen : (log : List LogEntry) (entry : LogEntry) → slice_get (log ++ entry ∷ []) (length log) ≡ Some entry
seen [] entry = refl
seen (x ∷ xs) entry = seen xs entry

module _ (document : Document) (log : List LogEntry) (now : ℕ) (diary : List Entry) (entry : LogEntry) (here : entry.moment ≡ pos now) where
  abbrev course : Course
  course = course_on document.nodes (log ++ entry ∷ []) now

  abbrev at : Progress
  at = record { moment = now; heard = length log; diary = diary }

  abbrev then : Progress
  then = record { moment = now; heard = suc (length log); diary = diary ++ record { moment = pos now; step = Logged (length log) } ∷ [] }

  told : after_settling course at (slice_get (log ++ entry ∷ []) (length log)) ≡ Some then
  told = ap (λ (x : Option LogEntry). after_settling course at x) (seen log entry) ∙ by_test (int_le entry.moment (pos now)) (ap (λ (z : ℤ). int_le z (pos now)) here ∙ le_self (pos now))
    where
      by_test : (b : Bool) → b ≡ true → cond b (Some then) (after_quiet course at) ≡ Some then
      by_test true e = refl
      by_test false e = cc

  pub hears : (f : Option DueChange) → ((x : DueChange) → f ≡ Some x → is_due (pos now) x.key ≡ false) → after_coming course at f ≡ Some then
  hears None none = told
  hears (Some x) none = by_test (is_due (pos now) x.key) (none x refl) (Some (record { moment = now; heard = length log; diary = diary ++ group (history_at course at) (pos now) x.key.serial x.change }))
    where
      by_test : (b : Bool) → b ≡ false → (y : Option Progress) → cond b y (after_settling course at (slice_get (log ++ entry ∷ []) (length log))) ≡ Some then
      by_test true e y = cc
      by_test false e y = told

  pub reached_heard : ReachesFurther → IsNumberedTree document → int_le (pos now) entry.moment ≡ true
      → ((x : DueChange) → first_coming (coming (history_at course at) (pos now)) ≡ Some x → is_due (pos now) x.key ≡ false)
      → Reaches (course_on document.nodes log now) at → Reaches course then
  reached_heard further numbered late quiet reached =
      let on = further document log (entry ∷ []) now now at numbered reached (late, tt) (omega arith) in
      (suc on.0, one_more course on.0 outset at then on.1 (hears (first_coming (coming (history_at course at) (pos now))) quiet))
