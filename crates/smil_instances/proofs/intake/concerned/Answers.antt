use Rattle.std.proofs.Common.{sym, ◌∙◌, ap, subst, Some, None, []}
use Rattle.smil_model.specs.reach.Reach.{key_of}
use Rattle.smil_laws.specs.Resolved.{is_opening}
use Rattle.smil_instances.specs.Sources.{AreThose}
use Rattle.smil_instances.specs.Dependents.{cells_in}
use Rattle.smil_instances.specs.Intake.{is_concerned_cell, keyed_by}
use Rattle.smil_instances.proofs.ConcernedCells.{those_keyed, those_of, those_unplaced}
use Rattle.smil_instances.proofs.intake.concerned.Goals as goal

pub returns-in-Some-index_of : goal.returns-in-Some-index_of
returns-in-Some-index_of c =
    let nodes = c.args.arrival.now.history.tree.now.nodes in
    let birth = is_opening c.args.step in
    let key = key_of c.args.arrival.now.history.log.now c.args.step in
    record {
      those =
          subst (λ on. AreThose (is_concerned_cell nodes birth on key) c.cells.result.now) c.in-Some.ensures
          (subst (AreThose (is_concerned_cell nodes birth (Some c.in-Some.on) key)) (sym (c.cells.ensures ∙ ap (cells_in c.args.arrival.now.dependents.now.rows c.in-Some-index_of.row) c.is_birth.ensures))
          (those_of nodes c.valid.ensures.numbered.distinct c.args.rows.now c.args.arrival.now.dependents.now birth c.in-Some.on key c.in-Some-index_of.row c.requires.rows c.requires.dependents (sym c.index_of.ensures ∙ c.in-Some-index_of.is)));
    }

pub returns-in-None : goal.returns-in-None
returns-in-None c =
    let nodes = c.args.arrival.now.history.tree.now.nodes in
    let birth = is_opening c.args.step in
    let key = key_of c.args.arrival.now.history.log.now c.args.step in
    record {
      those =
          subst (λ on. AreThose (is_concerned_cell nodes birth on key) []) c.in-Some.ensures
          (those_unplaced nodes c.valid.ensures.numbered.distinct c.bases_are_elements.ensures c.args.rows.now birth c.in-Some.on key c.requires.rows (sym c.index_of.ensures ∙ c.in-None.is));
    }

pub returns-in_default : goal.returns-in_default
returns-in_default c =
    let nodes = c.args.arrival.now.history.tree.now.nodes in
    let birth = is_opening c.args.step in
    let key = key_of c.args.arrival.now.history.log.now c.args.step in
    record {
      those =
          subst (λ on. AreThose (is_concerned_cell nodes birth on key) c.keyed.result.now) c.in_default.ensures
          (subst (AreThose (is_concerned_cell nodes birth None key)) (sym (c.keyed.ensures ∙ ap (keyed_by c.args.arrival.now.dependents.now) c.key.ensures))
          (those_keyed nodes c.valid.ensures.numbered.distinct c.args.arrival.now.dependents.now birth key c.requires.dependents));
    }
