use Rattle.std.proofs.Common.{◌≡◌, ◌∙◌, sym, subst, ℕ, ℤ, List}
use Rattle.std.specs.Prelude.{Option, int_le}
use Rattle.smil_model.specs.declared.times.Time.{Time}
use Rattle.smil_model.specs.declared.interval.Interval.{Interval}
use Rattle.smil_model.specs.Times.{time_le}
use Rattle.smil_model.specs.diary.Diary.{History}
use Rattle.smil_model.specs.interval.Current.{facts_of}
use Rattle.smil_model.specs.interval.Instances.{begin_times, end_times}
use Rattle.smil_model.specs.interval.Intervals.{interval_of}
use Rattle.smil_model.specs.Rising.{IsRising}
use Rattle.smil_past.specs.Past.{history_of}
use Rattle.smil_element.proofs.ExpectedTimes.{begins_rise, ends_rise}
use Rattle.smil_instances.proofs.IdTargets.{element_of}
use Rattle.smil_element.proofs.evaluation.evaluation_of.Goals as goal

pub evaluate-requires-clause-begins_rise : goal.evaluate-requires-clause-begins_rise
evaluate-requires-clause-begins_rise g c =
    let h : History = history_of c.args.subject.now.present.past.now in
    let given : ℕ → Option Interval = g.J.Intervals.given c.args.intervals.now in
    let now = c.args.subject.now.present.moment in
    let found = element_of h.nodes c.args.subject.now.present.who c.requires.found.element in
    let begins : c.in_ok-begins.begins.now ≡ begin_times h given now found.0 =
    c.in_ok-begins.ensures found.0 found.1 in
    subst (λ (xs : List ℤ). IsRising int_le xs) (sym begins) (begins_rise h given now found.0)

pub evaluate-requires-clause-ends_rise : goal.evaluate-requires-clause-ends_rise
evaluate-requires-clause-ends_rise g c =
    let h : History = history_of c.args.subject.now.present.past.now in
    let given : ℕ → Option Interval = g.J.Intervals.given c.args.intervals.now in
    let now = c.args.subject.now.present.moment in
    let found = element_of h.nodes c.args.subject.now.present.who c.requires.found.element in
    let ends : c.in_ok-ends.ends.now ≡ end_times h given now found.0 =
    c.in_ok-ends.ensures found.0 found.1 in
    subst (λ (xs : List Time). IsRising time_le xs) (sym ends) (ends_rise h given now found.0)

pub returns-clause-made : goal.returns-clause-made
returns-clause-made g c = λ e here.
    let h : History = history_of c.args.subject.now.present.past.now in
    let given : ℕ → Option Interval = g.J.Intervals.given c.args.intervals.now in
    let now = c.args.subject.now.present.moment in
    let begins : c.in_ok-begins.begins.now ≡ begin_times h given now e =
    c.in_ok-begins.ensures e here in
    let ends : c.in_ok-ends.ends.now ≡ end_times h given now e =
    c.in_ok-ends.ensures e here in
    let facts : c.facts_of.result ≡ facts_of h given now e = c.facts_of.ensures e given here (c.in_ok-simple.ensures e here) in
    record {
      interval = c.evaluate.ensures.interval ∙ (λ i. interval_of (facts i) (begins i) (ends i));
      simple = c.in_ok-simple.ensures e here;
    }
