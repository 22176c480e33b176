use Rattle.std.proofs.Common.{◌≡◌, ◌∙◌, sym, []}
use Rattle.smil_model.specs.declared.document.Edge.TheVariants.{End}
use Rattle.smil_model.specs.diary.Diary.{History}
use Rattle.smil_past.specs.Syncs.{syncs_of}
use Rattle.smil_past.specs.Past.{history_of}
use Rattle.smil_element.proofs.ExpectedTimes.{none_there, ends_settled}
use Rattle.smil_element.proofs.EndLists.{no_ends}
use Rattle.smil_element.proofs.IndexedElements.{element_here, times_within}
use Rattle.smil_element.proofs.evaluation.ends_of.Goals as goal

pub ends_at-requires : goal.ends_at-requires
ends_at-requires g c =
    let subject = c.args.reading.now.subject.now in
    let nodes = subject.present.past.now.document.nodes in
    times_within (history_of subject.present.past.now) c.instances.result.now.rows subject.index c.instances.ensures.rows (element_here nodes subject.index subject.present.who c.requires.element c.requires.here).within

pub returns-then-not-has_end_list : goal.returns-then-not-has_end_list
returns-then-not-has_end_list g c = λ e here.
    no_ends (history_of c.args.reading.now.subject.now.present.past.now) (g.J.Intervals.given c.args.reading.now.intervals.now) c.args.reading.now.subject.now.present.moment e (sym (c.has_end_list.ensures e here) ∙ c.if-not-has_end_list.true)

pub returns-then-is_settled : goal.returns-then-is_settled
returns-then-is_settled g c = λ e here.
    let h : History = history_of c.args.reading.now.subject.now.present.past.now in
    let none : syncs_of h.nodes End e ≡ [] = none_there (syncs_of h.nodes End e) (sym (c.is_settled.ensures e here) ∙ c.if-is_settled.true) in
    c.ends_at.ensures h c.args.reading.now.subject.now.present.moment e (record { rows = c.instances.ensures.rows; here = c.requires.here ∙ here }) ∙ ends_settled h c.args.reading.now.subject.now.present.moment e (g.J.Intervals.given c.args.reading.now.intervals.now) none
