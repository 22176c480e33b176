use Rattle.std.proofs.Common.{◌≡◌, Some, sym, ap, subst, length, inl, ◌∙◌}
use Rattle.std.specs.Option.{option_copied}
use Rattle.std.specs.Prelude.{is_some}
use Rattle.smil_model.specs.declared.document.Attrs.{Attrs}
use Rattle.smil_model.specs.document.Document.{Document, node_at}
use Rattle.smil_model.specs.document.Edits.{attr_unset, changed_at, without_attr}
use Rattle.smil_model.specs.document.Valid.{references}
use Rattle.smil_tree.specs.Kin.{Families, IsKinOf}
use Rattle.smil_tree.specs.Outline.{HasRoomFor, IsOutlineOf}
use Rattle.smil_tree.specs.TreeFields.{Keeps}
use Rattle.smil_tree.proofs.Listed.{long_changed}
use Rattle.smil_tree.proofs.IdOwners.{owned}
use Rattle.smil_tree.proofs.AttributesChanged.{fewer_ids, once_stays, renamed}
use Rattle.smil_tree.proofs.AttributeEdits.{keeps_unset}
use Rattle.smil_tree.proofs.UnreadAttributes.{keeps_without, outline_stays}
use Rattle.smil_tree.proofs.TreeMade.{once_of}
use Rattle.smil_tree.proofs.tree.Tree.unset.Goals as goal
use Rattle.smil_tree.proofs.tree.Tree.unset.Goals.{After-replace}

pub replace-requires : goal.replace-requires
replace-requires c =
    let at : node_at c.self.inside.nodes c.args.serial ≡ Some c.unwrap-old.result.now = sym c.get.ensures ∙ ap option_copied c.unwrap-old.ensures in
    ((λ attrs. without_attr attrs c.args.name), c.unwrap-old.result.now, at, c.in_ok-node.ensures c.unwrap-old.result.now at)

-- the nodes once one is changed
changed : (c : After-replace) → c.replace.new.self ≡ changed_at (λ attrs. without_attr attrs c.args.name) c.args.serial c.self.inside.nodes
changed c =
    let at : node_at c.self.inside.nodes c.args.serial ≡ Some c.unwrap-old.result.now = sym c.get.ensures ∙ ap option_copied c.unwrap-old.ensures in
    c.replace.ensures (λ attrs. without_attr attrs c.args.name) c.unwrap-old.result.now at (c.in_ok-node.ensures c.unwrap-old.result.now at)

-- what is kept of them
kept : (c : After-replace) → Keeps c.replace.new.self c.self.inside.next c.in_ok-ids.ids.value c.references_unset-references.result c.self.inside.kin.value
kept c =
    let nodes = c.self.inside.nodes in
    let name = c.args.name in
    let old = c.unwrap-old.result.now in
    let change : Attrs → Attrs = λ attrs. without_attr attrs name in
    let distinct = c.self.invariant.keeps.valid.numbered.distinct in
    let at : node_at nodes c.args.serial ≡ Some old = sym c.get.ensures ∙ ap option_copied c.unwrap-old.ensures in
    let once = once_of _ c.self.invariant.keeps.valid in
    let still = once_stays change c.args.serial nodes old distinct at once (λ q h. inl (fewer_ids old name q h)) in
    keeps_unset nodes c.replace.new.self c.args.serial c.self.inside.next name c.self.inside.ids.value c.in_ok-ids.ids.value c.self.inside.references c.references_unset-references.result c.self.inside.kin.value
    c.self.invariant.keeps (ap is_some at) (changed c)
    (renamed change c.args.serial nodes old c.node-2.result.now c.self.inside.ids.value c.in_ok-ids.ids.value distinct at (c.node-2.ensures ∙ c.in_ok-node.ensures old at) once still c.self.invariant.keeps.ids c.in_ok-ids.ensures)
    (c.references_unset-references.ensures ∙ ap (λ d. references (changed_at change c.args.serial d.nodes)) (sym c.self.view_is))

pub follow-requires-clause-kin : goal.follow-requires-clause-kin
follow-requires-clause-kin c = let k = kept (goal.at.follow-requires-clause-kin c).After-replace in subst (λ (families : Families). IsKinOf families c.replace.new.self) (sym c.as_ref.ensures) k.kin

pub follow-requires-clause-room : goal.follow-requires-clause-room
follow-requires-clause-room c =
    let same = ap length (changed (goal.at.follow-requires-clause-room c).After-replace) ∙ long_changed (λ attrs. without_attr attrs c.args.name) c.args.serial c.self.inside.nodes in
    subst (HasRoomFor c.self.inside.outline) (sym same) c.self.invariant.outline_is.room

pub follow-requires-clause-valid : goal.follow-requires-clause-valid
follow-requires-clause-valid c = let k = kept (goal.at.follow-requires-clause-valid c).After-replace in (c.self.inside.next, k.valid)

pub invariant_of-self : goal.invariant_of-self
invariant_of-self c = record { keeps = kept (goal.at.invariant_of-self c).After-replace; outline_is = c.follow.ensures }

pub renamed-requires : goal.renamed-requires
renamed-requires c q bears_it =
    let at : node_at c.self.inside.nodes c.args.serial ≡ Some c.unwrap-old.result.now = sym c.get.ensures ∙ ap option_copied c.unwrap-old.ensures in
    c.self.invariant.keeps.ids q ∙ owned c.args.serial c.self.inside.nodes c.unwrap-old.result.now c.self.invariant.keeps.valid.numbered.distinct at (once_of _ c.self.invariant.keeps.valid) q bears_it

pub follow-requires-clause-same : goal.follow-requires-clause-same
follow-requires-clause-same c same =
    subst (λ ns. IsOutlineOf ns c.self.inside.outline) (sym (changed (goal.at.follow-requires-clause-same c).After-replace))
    (outline_stays (λ attrs. without_attr attrs c.args.name) c.args.serial (keeps_without c.args.name (sym c.reads_name-differs.ensures ∙ same)) c.self.inside.nodes c.self.inside.outline c.self.invariant.outline_is)

pub returns-clause-ok : goal.returns-clause-ok
returns-clause-ok c =
    ap (λ ns. record { nodes = ns; next = c.self.inside.next }) (changed (goal.at.returns-clause-ok c).After-replace)
    ∙ ap (λ (d : Document). attr_unset d c.args.serial c.args.name) c.self.view_is
