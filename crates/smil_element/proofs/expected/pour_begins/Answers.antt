use Rattle.std.proofs.Common.{◌≡◌, ◌∙◌, sym, ap, subst, ℕ, ℤ, List}
use Rattle.std.specs.Prelude.{Option, int_le, flat_map}
use Rattle.std.proofs.lemmas.Result.{on_ok_weaker}
use Rattle.smil_model.specs.declared.interval.Interval.{Interval}
use Rattle.smil_model.specs.declared.document.Edge.TheVariants.{Begin}
use Rattle.smil_model.specs.document.Document.{elements}
use Rattle.smil_model.specs.diary.Diary.{History}
use Rattle.smil_model.specs.interval.Instances.{no_interval, number_of, settled_begins}
use Rattle.smil_model.specs.Rising.{IsRising}
use Rattle.smil_past.specs.Syncs.{expected_by, syncs_of, syncs_on}
use Rattle.smil_past.proofs.ItemReferences.{stands}
use Rattle.smil_past.specs.Past.{history_of}
use Rattle.smil_element.specs.Pouring.{with_times}
use Rattle.smil_element.proofs.ExpectedTimes.{begins_merged, begins_rise}
use Rattle.smil_instances.proofs.IdTargets.{element_of}
use Rattle.smil_element.proofs.IndexedElements.{element_here, times_within}
use Rattle.smil_element.proofs.expected.pour_begins.Goals as goal

pub begins_at-requires : goal.begins_at-requires
begins_at-requires g c =
    let subject = c.args.reading.now.subject.now in
    let nodes = subject.present.past.now.document.nodes in
    times_within (history_of subject.present.past.now) c.instances.result.now.rows subject.index c.instances.ensures.rows (element_here nodes subject.index subject.present.who c.requires.element c.requires.here).within

pub pour-requires-clause-rising : goal.pour-requires-clause-rising
pour-requires-clause-rising g c =
    let h : History = history_of c.args.reading.now.subject.now.present.past.now in
    let found = element_of h.nodes c.args.reading.now.subject.now.present.who c.requires.element in
    let items : c.refill.new.times.items ≡ settled_begins h c.args.reading.now.subject.now.present.moment found.0 =
    c.in_ok-refill.ensures
    ∙ c.begins_at.ensures h c.args.reading.now.subject.now.present.moment found.0 (record { rows = c.instances.ensures.rows; here = c.requires.here ∙ found.1 }) in
    subst (λ (xs : List ℤ). IsRising int_le xs) (sym items) (begins_rise h no_interval c.args.reading.now.subject.now.present.moment found.0)

pub returns : goal.returns
returns g c = λ e here.
    let h : History = history_of c.args.reading.now.subject.now.present.past.now in
    let given : ℕ → Option Interval = g.J.Intervals.given c.args.reading.now.intervals.now in
    let items : c.refill.new.times.items ≡ settled_begins h c.args.reading.now.subject.now.present.moment e =
    c.in_ok-refill.ensures
    ∙ c.begins_at.ensures h c.args.reading.now.subject.now.present.moment e (record { rows = c.instances.ensures.rows; here = c.requires.here ∙ here }) in
    let syncs : c.side.result.now ≡ syncs_of h.nodes Begin e = c.side.ensures ∙ ap (syncs_on Begin) (c.requires.row_is e here) in
    let serial : c.args.reading.now.subject.now.present.who ≡ e.serial = sym (stands (elements h.nodes) c.args.reading.now.subject.now.present.who e here).serial in
    on_ok_weaker c.pour.result
    (λ (is : c.pour.new.times.items ≡ with_times int_le number_of (flat_map (expected_by h given c.args.reading.now.subject.now.present.moment c.args.reading.now.subject.now.present.who) c.side.result.now) c.refill.new.times.items).
    is
    ∙ (λ i. with_times int_le number_of (flat_map (expected_by h given c.args.reading.now.subject.now.present.moment (serial i)) (syncs i)) (items i))
    ∙ begins_merged h c.args.reading.now.subject.now.present.moment e given)
    c.pour.ensures
