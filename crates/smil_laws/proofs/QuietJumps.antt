-- Quiet moments jumped by a course that has heard its log.
use Rattle.std.proofs.Common.{◌≡◌, sym, ◌∙◌, ap, ℕ, ◌+◌, List, [], ◌++◌, Some, None, arith, length}
use Rattle.std.proofs.lemmas.List.{append-nil}
use Rattle.std.proofs.lemmas.Option.{slice_get_past}
use Rattle.smil_model.specs.declared.diary.LogEntry.{LogEntry}
use Rattle.smil_model.specs.document.Document.{Document}
use Rattle.smil_model.specs.happening.Resolution.{Course, Progress, outset, after_steps, Reaches}
use Rattle.smil_laws.specs.Agreement.{course_on}
use Rattle.smil_laws.proofs.NumberedTrees.{ordered}
use Rattle.smil_laws.proofs.QuietResolution.{jumped}
use Rattle.smil_laws.specs.Courses.{ReachesOverQuiet}
use Rattle.smil_laws.proofs.ResolutionEnds.{then}
use Rattle.smil_laws.proofs.CourseFurther.{is_past, reaches_further}

same_log : (d : Document) (xs ys : List LogEntry) (last : ℕ) (p : Progress) → xs ≡ ys → Reaches (course_on d.nodes xs last) p → Reaches (course_on d.nodes ys last) p
same_log d xs ys last p e r = rw (sym e) r

pub over_quiet : ReachesOverQuiet
over_quiet d log now n diary numbered r quiet =
    let p : Progress = record { moment = now; heard = length log; diary = diary } in
    let c : Course = course_on d.nodes log (now + n) in
    let far = same_log d (log ++ []) log (now + n) p (append-nil log) (reaches_further d log [] now (now + n) p numbered r tt (omega arith)) in
    let jump =
    jumped c p n (ordered d numbered).first
    (record {
      past = (is_past (course_on d.nodes log now) p r).entries;
      coming = quiet;
      log = λ entry e. let never : None ≡ Some entry = sym (slice_get_past log (length log) (omega arith)) ∙ e in cc;
      last = omega arith;
    }) in
    (far.0 + n, then c far.0 n outset ∙ ap (after_steps c n) far.1 ∙ jump)
