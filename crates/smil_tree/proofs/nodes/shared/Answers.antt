use Rattle.std.proofs.Common.{◌≡◌, ◌∷◌, [], ◌++◌, length, sym, ap, ◌∙◌, append_assoc, append-nil, arith}
use Rattle.std.specs.Vec.Iter.{into_iter_items}
use Rattle.smil_tree.proofs.ListCuts.{nothing_left}
use Rattle.smil_tree.proofs.nodes.shared.Goals as goal

pub loop-node-preserved : goal.loop-node-preserved
loop-node-preserved c =
    let at = c.loop-node in
    let node = c.in-Some.node in
    let steps : into_iter_items at.node-iterator ≡ node ∷ into_iter_items c.next.new.self = c.in-Some.ensures.steps.0 in
    record {
      whole = ap (λ ns. ns ++ into_iter_items c.next.new.self) (c.in_ok-push.ensures.items ∙ ap (λ n. at.list.items ++ n ∷ []) c.in_ok-new.ensures)
          ∙ append_assoc at.list.items (node ∷ []) (into_iter_items c.next.new.self)
          ∙ ap (λ ns. at.list.items ++ ns) (sym steps) ∙ at.invariant.whole;
      long = omega (arith, at.invariant.long, ap length steps, c.in-Some.ensures.steps.1);
    }

pub returns : goal.returns
returns c =
    let at = c.loop-node in
    sym (append-nil at.list.items)
    ∙ ap (λ ns. at.list.items ++ ns) (sym (nothing_left (into_iter_items at.node-iterator) (sym at.invariant.long ∙ c.in-None.ensures.steps.0)))
    ∙ at.invariant.whole
