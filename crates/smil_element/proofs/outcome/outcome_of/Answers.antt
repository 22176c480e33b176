use Rattle.std.proofs.Common.{◌≡◌, ◌∙◌, ap, subst, Some, sym, true}
use Rattle.std.specs.Prelude.{IfSome}
use Rattle.smil_model.specs.declared.document.Node.{Node}
use Rattle.smil_model.specs.document.Document.{elements, node_at}
use Rattle.smil_model.specs.document.Dependencies.{has_implicit_duration}
use Rattle.smil_model.specs.interval.Current.{simple_of}
use Rattle.smil_model.specs.happening.Keys.{coming_by}
use Rattle.smil_laws.specs.Near.{IsIntervalNear}
use Rattle.smil_instances.proofs.IdTargets.{element_of}
use Rattle.smil_past.specs.Past.{history_of}
use Rattle.smil_element.specs.declared.present.Present.{Present}
use Rattle.smil_element.specs.Changes.{ChangesDue}
use Rattle.smil_element.specs.Element.{IsEvaluated, both}
use Rattle.smil_element.proofs.OutcomeParts.{nothing_comes, outcome_near}
use Rattle.smil_element.proofs.outcome.outcome_of.Given.{Over}
use Rattle.smil_element.proofs.outcome.outcome_of.Goals as goal
use Rattle.smil_element.proofs.outcome.outcome_of.Goals.{In_ok-made}

pub returns-then-has_none-clause-made : goal.returns-then-has_none-clause-made
returns-then-has_none-clause-made g c = λ e here.
    let present = c.args.present.now in
    let h = history_of present.past.now in
    let given = g.J.Intervals.given c.args.intervals.now in
    let idle = c.has_none.ensures.idle c.if-has_none.true in
    record {
      interval = c.evaluate_absent.ensures.none ∙ sym (c.has_none.ensures.none c.if-has_none.true e here);
      comings = ap (λ (d : ChangesDue). both d.moved d.repeat) c.nothing.ensures ∙ nothing_comes h present.moment present.who e here idle c.args.place (simple_of h given e) c.evaluate_absent.result c.evaluate_absent.ensures.none;
    }

pub returns-then-has_none-clause-near : goal.returns-then-has_none-clause-near
returns-then-has_none-clause-near g c = subst (λ o. IfSome o IsIntervalNear) (sym c.evaluate_absent.ensures.none) tt

pub evaluation_of-requires-clause-known : goal.evaluation_of-requires-clause-known
evaluation_of-requires-clause-known g c =
    subst (λ (p : Present). (e : Node) → node_at (elements p.past.now.document.nodes) p.who ≡ Some e → has_implicit_duration e ≡ true → g.J.Containers.knows_ends c.args.intervals.now (history_of p.past.now) p.who)
    (sym c.subject_under-subject.ensures.same) c.requires.known

-- what was evaluated of the element
evaluated : (g : Over) (c : In_ok-made g) (e : Node) → node_at (elements c.args.present.now.past.now.document.nodes) c.args.present.now.who ≡ Some e → IsEvaluated (history_of c.args.present.now.past.now) (g.J.Intervals.given c.args.intervals.now) c.args.present.now.moment e c.in_ok-made.made
evaluated g c = subst (λ (p : Present). (e : Node) → node_at (elements p.past.now.document.nodes) p.who ≡ Some e → IsEvaluated (history_of p.past.now) (g.J.Intervals.given c.args.intervals.now) p.moment e c.in_ok-made.made) c.subject_under-subject.ensures.same c.in_ok-made.ensures.made

near : (g : Over) (c : In_ok-made g) → IfSome (c.in_ok-made.made).interval IsIntervalNear
near g c =
    let present = c.args.present.now in
    let found = element_of present.past.now.document.nodes present.who c.requires.element in
    outcome_near (history_of present.past.now) (g.J.Intervals.given c.args.intervals.now) present.moment found.0 c.possible.ensures.near (c.in_ok-made.made).interval (evaluated g c found.0 found.1).interval

pub comings_of-requires-clause-near : goal.comings_of-requires-clause-near
comings_of-requires-clause-near g c = near g (goal.at.comings_of-requires-clause-near g c).In_ok-made

pub returns-clause-made : goal.returns-clause-made
returns-clause-made g c = λ e here.
    let present = c.args.present.now in
    let made = c.in_ok-made.made in
    let is = evaluated g (goal.at.returns-clause-made g c).In_ok-made e here in
    let come = subst (λ (p : Present). (e : Node) → node_at (elements p.past.now.document.nodes) p.who ≡ Some e → both c.comings_of.result.moved c.comings_of.result.repeat ≡ coming_by (history_of p.past.now) made.interval made.simple p.moment c.args.place e) c.subject_under-subject.ensures.same c.comings_of.ensures e here in
    record {
      interval = is.interval;
      comings = come ∙ ap (λ simple. coming_by (history_of present.past.now) made.interval simple present.moment c.args.place e) is.simple;
    }

pub returns-clause-near : goal.returns-clause-near
returns-clause-near g c = near g (goal.at.returns-clause-near g c).In_ok-made
