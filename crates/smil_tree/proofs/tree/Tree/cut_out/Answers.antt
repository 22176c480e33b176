use Rattle.std.proofs.Common.{◌≡◌, ◌≤◌, length, sym, ap, subst, ◌∙◌, Some, false, arith}
use Rattle.std.specs.Prelude.{◌==◌, is_some}
use Rattle.std.specs.Option.{option_copied}
use Rattle.smil_model.specs.document.Document.{node_at}
use Rattle.smil_model.specs.document.Edits.{node_removed}
use Rattle.smil_laws.proofs.NumberedTrees.{ordered}
use Rattle.smil_tree.specs.Kin.{IsKinOf}
use Rattle.smil_tree.specs.Outcomes.{is_root}
use Rattle.smil_tree.specs.Places.{cut}
use Rattle.smil_tree.proofs.ChildSpans.{place_told, has_place, end_within}
use Rattle.smil_tree.proofs.TreeMade.{once_of}
use Rattle.smil_tree.proofs.NodeRemoved.{keeps_removed, removed_is, subtree, time_parent_told}
use Rattle.smil_tree.proofs.tree.Tree.cut_out.Goals as goal
use Rattle.smil_tree.proofs.tree.Tree.cut_out.Goals.{After-end_of-end}

inside : (c : After-end_of-end) → c.end_of-end.result ≤ length c.self.inside.nodes
inside c =
    let within = end_within c.self.inside.nodes c.self.inside.next c.self.invariant.keeps.valid.numbered c.args.serial (ap (λ d. is_some (node_at d.nodes c.args.serial)) c.self.view_is ∙ c.requires.known) in
    omega (arith, within.1, c.end_of-end.ensures)

pub unwrap-start-requires : goal.unwrap-start-requires
unwrap-start-requires c =
    ap is_some c.position.ensures ∙ has_place c.self.inside.nodes c.self.inside.next c.self.invariant.keeps.valid.numbered c.args.serial (ap (λ d. is_some (node_at d.nodes c.args.serial)) c.self.view_is ∙ c.requires.known)

pub element_from-time_parent-requires : goal.element_from-time_parent-requires
element_from-time_parent-requires c = ordered _ c.self.invariant.keeps.valid.numbered

pub without_nodes-requires-clause-within : goal.without_nodes-requires-clause-within
without_nodes-requires-clause-within c = inside (goal.at.without_nodes-requires-clause-within c).After-end_of-end

pub without_nodes-requires-clause-once : goal.without_nodes-requires-clause-once
without_nodes-requires-clause-once c = once_of _ c.self.invariant.keeps.valid

pub references_between-requires-clause-within : goal.references_between-requires-clause-within
references_between-requires-clause-within c = inside (goal.at.references_between-requires-clause-within c).After-end_of-end

pub shrink-requires-clause-ordered : goal.shrink-requires-clause-ordered
shrink-requires-clause-ordered c = ordered _ c.self.invariant.keeps.valid.numbered

pub shrink-requires-clause-within : goal.shrink-requires-clause-within
shrink-requires-clause-within c = inside (goal.at.shrink-requires-clause-within c).After-end_of-end

pub shrink-requires-clause-subtree : goal.shrink-requires-clause-subtree
shrink-requires-clause-subtree c =
    let at : node_at c.self.inside.nodes c.args.serial ≡ Some c.unwrap.result.now = sym c.get.ensures ∙ ap option_copied c.unwrap.ensures in
    let start = place_told c.self.inside.nodes c.self.inside.next c.self.invariant.keeps.valid.numbered c.args.serial c.unwrap-start.result (ap is_some at) (sym c.unwrap-start.ensures ∙ c.position.ensures) in (
      c.unwrap.result.now,
      subtree c.self.inside.nodes c.self.inside.next c.self.invariant.keeps.valid c.args.serial c.unwrap.result.now at c.unwrap-start.result c.end_of-end.result start c.end_of-end.ensures,
      time_parent_told c.self.inside.nodes c.self.inside.next c.self.invariant.keeps.valid c.args.serial c.unwrap.result.now at c.element_from-time_parent.result c.element_from-time_parent.ensures,
    )

pub remove-requires-clause-within : goal.remove-requires-clause-within
remove-requires-clause-within c = inside (goal.at.remove-requires-clause-within c).After-end_of-end

pub refresh-requires-clause-valid : goal.refresh-requires-clause-valid
refresh-requires-clause-valid c =
    let at : node_at c.self.inside.nodes c.args.serial ≡ Some c.unwrap.result.now = sym c.get.ensures ∙ ap option_copied c.unwrap.ensures in
    let start = place_told c.self.inside.nodes c.self.inside.next c.self.invariant.keeps.valid.numbered c.args.serial c.unwrap-start.result (ap is_some at) (sym c.unwrap-start.ensures ∙ c.position.ensures) in
    let parented : c.unwrap.result.now.parent == 0 ≡ false = sym (ap is_root at) ∙ ap (λ d. is_root (node_at d.nodes c.args.serial)) c.self.view_is ∙ c.requires.parented in
    let kept = keeps_removed c.self.inside.nodes c.remove.new.self c.self.inside.next c.args.serial c.unwrap-start.result c.end_of-end.result c.unwrap.result.now c.self.inside.ids.value c.in_ok-ids.ids.value c.self.inside.references c.references_between.result c.self.inside.kin.value c.in_ok-kin.kin.value
    c.self.invariant.keeps at parented start c.end_of-end.ensures c.remove.ensures c.in_ok-ids.ensures (subst (λ k. IsKinOf k (cut c.unwrap-start.result c.end_of-end.result c.self.inside.nodes)) (sym c.in_ok-kin.ensures.ok) c.shrink.ensures) c.references_between.ensures in
    (c.self.inside.next, kept.valid)

pub invariant_of-self : goal.invariant_of-self
invariant_of-self c =
    let at : node_at c.self.inside.nodes c.args.serial ≡ Some c.unwrap.result.now = sym c.get.ensures ∙ ap option_copied c.unwrap.ensures in
    let start = place_told c.self.inside.nodes c.self.inside.next c.self.invariant.keeps.valid.numbered c.args.serial c.unwrap-start.result (ap is_some at) (sym c.unwrap-start.ensures ∙ c.position.ensures) in
    let parented : c.unwrap.result.now.parent == 0 ≡ false = sym (ap is_root at) ∙ ap (λ d. is_root (node_at d.nodes c.args.serial)) c.self.view_is ∙ c.requires.parented in
    let kept = keeps_removed c.self.inside.nodes c.remove.new.self c.self.inside.next c.args.serial c.unwrap-start.result c.end_of-end.result c.unwrap.result.now c.self.inside.ids.value c.in_ok-ids.ids.value c.self.inside.references c.references_between.result c.self.inside.kin.value c.in_ok-kin.kin.value
    c.self.invariant.keeps at parented start c.end_of-end.ensures c.remove.ensures c.in_ok-ids.ensures (subst (λ k. IsKinOf k (cut c.unwrap-start.result c.end_of-end.result c.self.inside.nodes)) (sym c.in_ok-kin.ensures.ok) c.shrink.ensures) c.references_between.ensures in
    record { keeps = kept; outline_is = c.refresh.ensures }

pub returns-clause-ok : goal.returns-clause-ok
returns-clause-ok c =
    let at : node_at c.self.inside.nodes c.args.serial ≡ Some c.unwrap.result.now = sym c.get.ensures ∙ ap option_copied c.unwrap.ensures in
    let start = place_told c.self.inside.nodes c.self.inside.next c.self.invariant.keeps.valid.numbered c.args.serial c.unwrap-start.result (ap is_some at) (sym c.unwrap-start.ensures ∙ c.position.ensures) in
    removed_is (record { nodes = c.self.inside.nodes; next = c.self.inside.next }) c.remove.new.self c.args.serial c.unwrap-start.result c.end_of-end.result c.unwrap.result.now c.self.invariant.keeps.valid at start c.end_of-end.ensures c.remove.ensures
    ∙ ap (λ d. node_removed d c.args.serial) c.self.view_is
