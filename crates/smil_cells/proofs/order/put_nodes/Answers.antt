use Rattle.std.proofs.Common.{◌∙◌, subst, ℕ, List, get_or}
use Rattle.std.specs.Prelude.{◌==◌}
use Rattle.smil_model.specs.document.Closure.{has}
use Rattle.smil_cells.specs.Shown.{ArePut, OnlyMore}
use Rattle.smil_cells.proofs.ElementsByPlace.{none_put, one_more_put, whole}
use Rattle.smil_cells.proofs.ElementsTouched.{listed_at, only_same, only_then}
use Rattle.smil_cells.proofs.order.put_nodes.Goals as goal

pub loop-serial-init : goal.loop-serial-init
loop-serial-init c = record {
  more = λ p q. q;
  put = none_put c.args.tree.now.nodes c.slice-serial-items.result.now c.args.places.now;
  only = only_same c.args.tree.now.nodes c.args.places.now (has c.slice-serial-items.result.now);
}

pub loop-serial-preserved : goal.loop-serial-preserved
loop-serial-preserved c = record {
  more = λ p q. c.in_ok-put_node.ensures.more p (c.loop-serial.invariant.more p q);
  put =
      one_more_put c.args.tree.now.nodes c.slice-serial-items.result.now c.loop-serial.serial-index c.loop-serial.places c.put_node.new.places c.loop-serial-test.true
      c.in_ok-put_node.ensures.more c.in_ok-put_node.ensures.put c.loop-serial.invariant.put;
  only =
      only_then c.args.tree.now.nodes c.args.places.now c.loop-serial.places c.put_node.new.places (has c.slice-serial-items.result.now) (λ s. get_or c.slice-serial-items.result.now c.loop-serial.serial-index 0 == s) c.loop-serial.invariant.only c.in_ok-put_node.ensures.only
      (λ s. listed_at c.slice-serial-items.result.now c.loop-serial.serial-index s c.loop-serial-test.true);
}

pub returns-clause-more : goal.returns-clause-more
returns-clause-more c = c.loop-serial.invariant.more

pub returns-clause-put : goal.returns-clause-put
returns-clause-put c =
    subst (λ (l : List ℕ). ArePut c.args.tree.now.nodes l c.loop-serial.places)
    (whole c.slice-serial-items.result.now c.loop-serial.serial-index c.loop-serial-test.false ∙ c.slice-serial-items.ensures)
    c.loop-serial.invariant.put

pub returns-clause-only : goal.returns-clause-only
returns-clause-only c =
    subst (λ (l : List ℕ). OnlyMore c.args.tree.now.nodes c.args.places.now c.loop-serial.places (has l)) c.slice-serial-items.ensures c.loop-serial.invariant.only
