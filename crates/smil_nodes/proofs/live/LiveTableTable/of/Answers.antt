use Rattle.std.proofs.Common.{◌∙◌, ◌+◌, ◌≤◌, ap, length, arith}
use Rattle.smil_model.specs.document.Document.{Document, elements, serials}
use Rattle.smil_model.specs.interval.Current.{current_interval}
use Rattle.smil_past.specs.Past.{history_of}
use Rattle.smil_rounds.proofs.RowsEmpty.{empty_serials}
use Rattle.smil_rounds.proofs.RowsBesideElements.{serials_in}
use Rattle.smil_nodes.proofs.AgendaEmpty.{any_least}
use Rattle.std.proofs.Common.{◌≡◌, List, map, subst, sym}
use Rattle.smil_model.specs.declared.document.Node.{Node}
use Rattle.smil_rounds.specs.Current.{interval_in}
use Rattle.smil_nodes.specs.Endings.{AreHomes, named_ends}
use Rattle.smil_nodes.proofs.KnownEnds.{none_known}
use Rattle.smil_nodes.proofs.live.LiveTableTable.of.Goals as goal

pub evaluate_all-requires-clause-of_elements : goal.evaluate_all-requires-clause-of_elements
evaluate_all-requires-clause-of_elements g c =
    ap serials_in c.in_ok-schedule.ensures ∙ empty_serials (elements c.args.past.now.document.nodes)

pub returns-in_err-evaluate_all-clause-most : goal.returns-in_err-evaluate_all-clause-most
returns-in_err-evaluate_all-clause-most g c =
    let most : c.evaluate_all.new.steps ≤ c.args.steps.now + length (elements c.args.past.now.document.nodes) = c.evaluate_all.ensures.most in
    omega (arith, most)

pub returns-clause-least : goal.returns-clause-least
returns-clause-least g c =
    any_least c.args.past.now.document.nodes (current_interval (history_of c.args.past.now) c.args.moment) c.args.steps.now c.evaluate_all.new.steps c.in_ok-evaluate_all.ensures.steps

pub of-requires-2 : goal.of-requires-2
of-requires-2 g c =
    ap serials_in c.in_ok-schedule.ensures ∙ empty_serials (elements c.args.past.now.document.nodes)
    ∙ ap (λ (d : Document). serials (elements d.nodes)) (sym c.tree.ensures)

pub evaluate_all-requires-clause-known : goal.evaluate_all-requires-clause-known
evaluate_all-requires-clause-known g c =
    let nodes_are : c.tree.result.now.nodes ≡ c.args.past.now.document.nodes = ap (λ (d : Document). d.nodes) c.tree.ensures in
    none_known (history_of c.args.past.now) (interval_in c.in_ok-schedule.schedule) c.in_ok-of.field-0
    (subst (λ (nodes : List Node). AreHomes nodes c.in_ok-of.field-0.homes) nodes_are c.in_ok-of.ensures.homes)
    (c.in_ok-of.ensures.ends ∙ ap (λ (nodes : List Node). map (named_ends nodes) (elements nodes)) nodes_are)
