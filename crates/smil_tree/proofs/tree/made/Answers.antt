use Rattle.std.proofs.Common.{ℕ, List, ◌∙◌, sym, ap, subst, length, arith}
use Rattle.smil_tree.specs.Kin.{Families, IsKinOf}
use Rattle.smil_tree.specs.TreeFields.{IsTableOf}
use Rattle.smil_model.specs.declared.document.Node.{Node}
use Rattle.smil_model.specs.document.Valid.{IsDistinct, IsValid}
use Rattle.smil_laws.specs.Edited.{IsOrdered}
use Rattle.smil_laws.proofs.NumberedTrees.{ordered}
use Rattle.smil_tree.proofs.AttributeEdits.{keeps_made}
use Rattle.smil_tree.proofs.tree.made.Goals as goal

pub of-requires-clause-few : goal.of-requires-clause-few
of-requires-clause-few c = omega (arith, ap length c.into_nodes.ensures, c.requires.nodes)

pub of-requires-clause-apart : goal.of-requires-clause-apart
of-requires-clause-apart c = subst IsDistinct (sym c.into_nodes.ensures) c.requires.numbered.distinct

pub of-requires-2 : goal.of-requires-2
of-requires-2 c = subst IsOrdered (sym (c.in_ok-nodes.ensures ∙ c.into_nodes.ensures)) (ordered c.args.doc c.requires.numbered)

pub refresh-requires-clause-valid : goal.refresh-requires-clause-valid
refresh-requires-clause-valid c =
    (c.args.doc.next, subst (λ (ns : List Node). IsValid (record { nodes = ns; next = c.args.doc.next })) (sym (c.in_ok-nodes.ensures ∙ c.into_nodes.ensures)) c.requires)

pub invariant_of-result : goal.invariant_of-result
invariant_of-result c =
    let nodes = c.in_ok-nodes.ensures ∙ c.into_nodes.ensures in
    let kept = keeps_made c.args.doc c.in_ok-nodes.nodes c.next-next.result c.in_ok-ids.ids.value c.references_of-references.result c.in_ok-kin.kin.value
    c.requires nodes c.next-next.ensures (subst (λ (table : List (List ℕ × ℕ)). IsTableOf table c.args.doc.nodes) (sym c.in_ok-ids.ensures.ok) c.in_ok-table.ensures) c.references_of-references.ensures (subst (λ (k : Families). IsKinOf k c.args.doc.nodes) (sym c.in_ok-kin.ensures.ok) (subst (IsKinOf c.in_ok-families.families) nodes c.in_ok-families.ensures)) in
    record { keeps = kept; outline_is = c.refresh.ensures }
