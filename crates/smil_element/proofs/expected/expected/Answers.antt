use Rattle.std.proofs.Common.{◌≡◌, ◌∙◌, ap, ◌∷◌, [], w64, FitsSigned, rules}
use Rattle.std.specs.Prelude.{None, Some, if◌then◌else◌, option_to_list, ◌||◌, ◌+ℤ◌}
use Rattle.std.proofs.lemmas.Int.{to_z-of_z}
use Rattle.smil_model.specs.declared.times.Time.{Time}
use Rattle.smil_model.specs.Times.{within_horizon}
use Rattle.smil_model.specs.diary.Diary.{History}
use Rattle.smil_model.specs.diary.Clocks.{between, outer_stands}
use Rattle.smil_past.specs.Past.{history_of}
use Rattle.smil_element.proofs.ExpectedTimes.{none_given, one_given}
use Rattle.smil_element.proofs.PresentMoment.{near_fits}
use Rattle.smil_element.proofs.expected.expected.Goals as goal

pub returns-in_err-value : goal.returns-in_err-value
returns-in_err-value g c =
    ap option_to_list c.from_residual.ensures
    ∙ none_given (history_of c.args.reading.now.subject.now.present.past.now) (g.J.Intervals.given c.args.reading.now.intervals.now) c.args.reading.now.subject.now.present.moment c.args.reading.now.subject.now.present.who c.args.sync
    c.in_err-value.ensures.value

pub returns-in_err-shown : goal.returns-in_err-shown
returns-in_err-shown g c =
    let h : History = history_of c.args.reading.now.subject.now.present.past.now in
    let now = c.args.reading.now.subject.now.present.moment in
    let v = c.in_ok-value.value in
    ap option_to_list c.from_residual-in_err-shown.ensures
    ∙ one_given h (g.J.Intervals.given c.args.reading.now.intervals.now) now c.args.reading.now.subject.now.present.who c.args.sync None v c.in_ok-value.ensures.value
    (c.in_err-shown.ensures
    ∙ (λ i. if outer_stands h c.args.reading.now.subject.now.present.who || outer_stands h c.args.sync.of then None else Some (between h c.args.sync.of c.args.reading.now.subject.now.present.who (to_z-of_z w64 v (near_fits v c.in_ok-value.ensures.near) i) now)))

pub returns : goal.returns
returns g c =
    let h : History = history_of c.args.reading.now.subject.now.present.past.now in
    let now = c.args.reading.now.subject.now.present.moment in
    let v = c.in_ok-value.value in
    let s = c.in_ok-shown.shown in
    let offset = c.args.sync.offset in
    let fits : FitsSigned w64 offset = search rules in
    let shown_fits : FitsSigned w64 s = search rules in
    let value : c.moved.result ≡ within_horizon (s +ℤ offset) =
    c.moved.ensures ∙ (λ i. within_horizon (to_z-of_z w64 s shown_fits i +ℤ to_z-of_z w64 offset fits i)) in
    ap (λ (t : Time). t ∷ []) value
    ∙ one_given h (g.J.Intervals.given c.args.reading.now.intervals.now) now c.args.reading.now.subject.now.present.who c.args.sync (Some s) v c.in_ok-value.ensures.value
    (c.in_ok-shown.ensures
    ∙ (λ i. if outer_stands h c.args.reading.now.subject.now.present.who || outer_stands h c.args.sync.of then None else Some (between h c.args.sync.of c.args.reading.now.subject.now.present.who (to_z-of_z w64 v (near_fits v c.in_ok-value.ensures.near) i) now)))
