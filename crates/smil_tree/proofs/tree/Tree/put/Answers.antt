use Rattle.std.proofs.Common.{◌≡◌, ◌+◌, ◌≤◌, sym, ap, subst, ◌∙◌, suc, length, insert, cond, Some, arith}
use Rattle.std.specs.Prelude.{find, slice_get, count_by}
use Rattle.smil_model.specs.document.Document.{Document, is_element, serial_of}
use Rattle.smil_model.specs.document.Valid.{IsValid}
use Rattle.smil_laws.specs.Edited.{IsOrdered}
use Rattle.smil_laws.proofs.NumberedTrees.{ordered}
use Rattle.smil_tree.specs.Places.{cut}
use Rattle.smil_tree.specs.TreeFields.{bears, IsTableOf, owner}
use Rattle.smil_tree.specs.Kin.{IsKinOf}
use Rattle.smil_tree.specs.Outline.{IsOutlineOf}
use Rattle.smil_tree.proofs.ListCuts.{get_inserted, owner_put}
use Rattle.smil_tree.proofs.NodeFamilies.{above_of, node_of_place}
use Rattle.smil_tree.proofs.TreeMade.{once_of}
use Rattle.smil_tree.proofs.NodePut.{next_fresh, back, leaf, keeps_back, keeps_put}
use Rattle.smil_tree.proofs.tree.Tree.put.Goals as goal
use Rattle.smil_tree.proofs.tree.Tree.put.Goals.{In_ok-insert}

-- the node has a place among the others
within : (c : In_ok-insert) → c.args.at ≤ length c.self.inside.nodes
within c = omega (arith, c.requires.within, ap (λ (d : Document). length d.nodes) c.self.view_is)

-- the document with the node
valid : (c : In_ok-insert) → IsValid (record { nodes = insert c.self.inside.nodes c.args.at c.args.node; next = suc c.self.inside.next })
valid c = subst (λ (d : Document). IsValid (record { nodes = insert d.nodes c.args.at c.args.node; next = suc d.next })) (sym c.self.view_is) c.requires.valid

rest : (c : In_ok-insert) → cut c.args.at (c.args.at + 1) c.insert.new.self ≡ c.self.inside.nodes
rest c = back c.self.inside.nodes c.insert.new.self c.self.inside.next c.args.at c.args.node (within c) c.in_ok-insert.ensures.ok

is_ordered : (c : In_ok-insert) → IsOrdered c.insert.new.self
is_ordered c = subst IsOrdered (sym c.in_ok-insert.ensures.ok) (ordered _ (valid c).numbered)

there : (c : In_ok-insert) → slice_get c.insert.new.self c.args.at ≡ Some c.args.node
there c = ap (λ ns. slice_get ns c.args.at) c.in_ok-insert.ensures.ok ∙ get_inserted c.self.inside.nodes c.args.at c.args.node (within c)

-- the table with its id
tabled : (c : In_ok-insert) → IsTableOf c.in_ok-ids.ids.value c.insert.new.self
tabled c q =
    let once : count_by (bears q) c.insert.new.self ≤ 1 = rw c.in_ok-insert.ensures.ok (once_of _ (valid c) q) in
    c.in_ok-ids.ensures q
    ∙ ap (λ o. cond (bears q c.args.node) (Some c.args.node.serial) o) (c.self.invariant.keeps.ids q ∙ ap (owner q) (sym (rest c)))
    ∙ sym (owner_put q c.insert.new.self c.args.at c.args.node once (there c))

pub insert-requires-clause-fresh : goal.insert-requires-clause-fresh
insert-requires-clause-fresh c = next_fresh c.self.inside.nodes c.self.inside.next c.args.node.serial c.self.invariant.keeps.valid.numbered (c.requires.serial ∙ ap (λ d. d.next) (sym c.self.view_is))

pub insert-requires-clause-few : goal.insert-requires-clause-few
insert-requires-clause-few c = omega (arith, c.self.invariant.keeps.valid.nodes)

pub element_from-time_parent-requires : goal.element_from-time_parent-requires
element_from-time_parent-requires c = is_ordered (goal.at.element_from-time_parent-requires c).In_ok-insert

pub grown-requires-clause-kin : goal.grown-requires-clause-kin
grown-requires-clause-kin c = subst (IsKinOf c.self.inside.kin.value) (sym (rest (goal.at.grown-requires-clause-kin c).In_ok-insert)) c.self.invariant.keeps.kin

pub grown-requires-clause-ordered : goal.grown-requires-clause-ordered
grown-requires-clause-ordered c = is_ordered (goal.at.grown-requires-clause-ordered c).In_ok-insert

pub grown-requires-clause-leaf : goal.grown-requires-clause-leaf
grown-requires-clause-leaf c =
    let i = (goal.at.grown-requires-clause-leaf c).In_ok-insert in
    let known = node_of_place c.insert.new.self c.args.at c.args.node (is_ordered i).distinct (there i) in (
      c.args.node,
      there i,
      leaf c.self.inside.nodes c.insert.new.self c.self.inside.next c.args.at c.args.node (within i) c.in_ok-insert.ensures.ok
          c.self.invariant.keeps.valid.numbered (c.requires.serial ∙ ap (λ d. d.next) (sym c.self.view_is)) c.args.node (there i),
      c.element_from-time_parent.ensures ∙ ap (λ l. serial_of (find is_element l)) (sym (above_of c.insert.new.self (is_ordered i) c.args.node.serial c.args.node known)),
    )

pub invariant_of-self-in-Err : goal.invariant_of-self-in-Err
invariant_of-self-in-Err c =
    let i = (goal.at.invariant_of-self-in-Err c).In_ok-insert in
    let kept = keeps_back c.self.inside.nodes c.insert.new.self c.self.inside.next c.args.at c.args.node (within i) c.in_ok-insert.ensures.ok
    c.remove.new.self c.self.inside.ids.value c.self.inside.ids.value c.self.inside.references c.self.inside.kin.value c.self.inside.kin.value c.self.invariant.keeps c.remove.ensures
    (subst (IsTableOf c.self.inside.ids.value) (sym (rest i)) c.self.invariant.keeps.ids) (subst (IsKinOf c.self.inside.kin.value) (sym (rest i)) c.self.invariant.keeps.kin) in
    record {
      keeps = kept;
      outline_is =
          subst (λ ns. IsOutlineOf ns c.reserve.new.self)
          (sym (c.remove.ensures ∙ rest i))
          (c.reserve.ensures.same c.self.inside.nodes c.self.invariant.outline_is);
    }

pub returns-in-Err-clause-err : goal.returns-in-Err-clause-err
returns-in-Err-clause-err c =
    ap (λ ns. record { nodes = ns; next = c.self.inside.next }) (c.remove.ensures ∙ rest (goal.at.returns-in-Err-clause-err c).In_ok-insert)
    ∙ c.self.view_is

pub invariant_of-self-2 : goal.invariant_of-self-2
invariant_of-self-2 c =
    let i = (goal.at.invariant_of-self-2 c).In_ok-insert in
    let kept = keeps_put c.self.inside.nodes c.insert.new.self c.self.inside.next c.args.at c.args.node (within i) c.in_ok-insert.ensures.ok
    c.self.inside.ids.value c.in_ok-ids.ids.value c.self.inside.references c.references_in-references.result c.self.inside.kin.value c.in-Ok.kin.value c.self.invariant.keeps (valid i)
    (tabled i) c.in-Ok.ensures c.references_in-references.ensures in
    record { keeps = kept; outline_is = c.refresh.ensures }
