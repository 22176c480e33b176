use Rattle.std.proofs.Common.{◌≡◌, Some, sym, ap, subst, length, ◌∙◌, Bool, false, cond, Ok, Err, arith}
use Rattle.std.specs.Prelude.{nat_lt}
use Rattle.std.proofs.lemmas.Bool.{le-ltb}
use Rattle.std.specs.Option.{option_copied}
use Rattle.smil_model.specs.declared.document.Attrs.{Attrs}
use Rattle.smil_model.specs.declared.limits.TheConstants.{REFERENCES}
use Rattle.smil_model.specs.document.Document.{Document, node_at}
use Rattle.smil_model.specs.document.Edits.{attr_set, changed_at, with_attr}
use Rattle.smil_model.specs.document.Valid.{references, is_id_taken}
use Rattle.smil_model.specs.shown.Orders.{id_in}
use Rattle.smil_tree.specs.declared.fault.TreeFault.TheVariants.{DuplicateId, TooManyReferences}
use Rattle.smil_tree.specs.Outcomes.{may_take}
use Rattle.smil_tree.specs.Kin.{Families, IsKinOf}
use Rattle.smil_tree.specs.Outline.{HasRoomFor, IsOutlineOf}
use Rattle.smil_tree.specs.TreeFields.{Keeps}
use Rattle.smil_tree.proofs.Listed.{long_changed}
use Rattle.smil_tree.proofs.IdOwners.{owned}
use Rattle.smil_tree.proofs.AttributesChanged.{once_set, renamed, taker_known}
use Rattle.smil_tree.proofs.AttributeEdits.{keeps_set}
use Rattle.smil_tree.proofs.UnreadAttributes.{keeps_with, outline_stays}
use Rattle.smil_tree.proofs.TreeMade.{once_of}
use Rattle.smil_tree.proofs.tree.Tree.set.Goals as goal
use Rattle.smil_tree.proofs.tree.Tree.set.Goals.{After-replace}

pub replace-requires : goal.replace-requires
replace-requires c =
    let at : node_at c.self.inside.nodes c.args.serial ≡ Some c.unwrap-old.result.now = sym c.get.ensures ∙ ap option_copied c.unwrap-old.ensures in
    ((λ attrs. with_attr attrs c.args.attr), c.unwrap-old.result.now, at, c.in_ok-node.ensures c.unwrap-old.result.now at)

-- the nodes once one is changed
changed : (c : After-replace) → c.replace.new.self ≡ changed_at (λ attrs. with_attr attrs c.args.attr) c.args.serial c.self.inside.nodes
changed c =
    let at : node_at c.self.inside.nodes c.args.serial ≡ Some c.unwrap-old.result.now = sym c.get.ensures ∙ ap option_copied c.unwrap-old.ensures in
    c.replace.ensures (λ attrs. with_attr attrs c.args.attr) c.unwrap-old.result.now at (c.in_ok-node.ensures c.unwrap-old.result.now at)

-- what is kept of them
kept : (c : After-replace) → Keeps c.replace.new.self c.self.inside.next c.in_ok-ids.ids.value c.references_set-references.result c.self.inside.kin.value
kept c =
    let nodes = c.self.inside.nodes in
    let given = c.args.attr in
    let old = c.unwrap-old.result.now in
    let change : Attrs → Attrs = λ attrs. with_attr attrs given in
    let distinct = c.self.invariant.keeps.valid.numbered.distinct in
    let takes = ap (λ d. may_take d.nodes c.args.serial given) c.self.view_is ∙ c.requires in
    let at : node_at nodes c.args.serial ≡ Some old = sym c.get.ensures ∙ ap option_copied c.unwrap-old.ensures in
    let once = once_of _ c.self.invariant.keeps.valid in
    let still = once_set nodes c.args.serial given distinct (taker_known nodes c.args.serial given takes) once (ap (λ d. is_id_taken d.nodes c.args.serial (id_in given)) c.self.view_is ∙ sym c.takes_id.ensures ∙ c.if-takes_id.false) in
    keeps_set nodes c.replace.new.self c.args.serial c.self.inside.next given c.self.inside.ids.value c.in_ok-ids.ids.value c.self.inside.references c.references_set-references.result c.self.inside.kin.value
    c.self.invariant.keeps takes (changed c) still
    (renamed change c.args.serial nodes old c.node-2.result.now c.self.inside.ids.value c.in_ok-ids.ids.value distinct at (c.node-2.ensures ∙ c.in_ok-node.ensures old at) once still c.self.invariant.keeps.ids c.in_ok-ids.ensures)
    (c.references_set-references.ensures ∙ ap (λ d. references (changed_at change c.args.serial d.nodes)) (sym c.self.view_is))
    c.if-references-gt-REFERENCES.false

pub follow-requires-clause-kin : goal.follow-requires-clause-kin
follow-requires-clause-kin c = let k = kept (goal.at.follow-requires-clause-kin c).After-replace in subst (λ (families : Families). IsKinOf families c.replace.new.self) (sym c.as_ref.ensures) k.kin

pub follow-requires-clause-room : goal.follow-requires-clause-room
follow-requires-clause-room c =
    let same = ap length (changed (goal.at.follow-requires-clause-room c).After-replace) ∙ long_changed (λ attrs. with_attr attrs c.args.attr) c.args.serial c.self.inside.nodes in
    subst (HasRoomFor c.self.inside.outline) (sym same) c.self.invariant.outline_is.room

pub follow-requires-clause-valid : goal.follow-requires-clause-valid
follow-requires-clause-valid c = let k = kept (goal.at.follow-requires-clause-valid c).After-replace in (c.self.inside.next, k.valid)

pub invariant_of-self : goal.invariant_of-self
invariant_of-self c = record { keeps = kept (goal.at.invariant_of-self c).After-replace; outline_is = c.follow.ensures }

pub renamed-requires : goal.renamed-requires
renamed-requires c q bears_it =
    let at : node_at c.self.inside.nodes c.args.serial ≡ Some c.unwrap-old.result.now = sym c.get.ensures ∙ ap option_copied c.unwrap-old.ensures in
    c.self.invariant.keeps.ids q ∙ owned c.args.serial c.self.inside.nodes c.unwrap-old.result.now c.self.invariant.keeps.valid.numbered.distinct at (once_of _ c.self.invariant.keeps.valid) q bears_it

pub follow-requires-clause-same : goal.follow-requires-clause-same
follow-requires-clause-same c same =
    subst (λ ns. IsOutlineOf ns c.self.inside.outline) (sym (changed (goal.at.follow-requires-clause-same c).After-replace))
    (outline_stays (λ attrs. with_attr attrs c.args.attr) c.args.serial (keeps_with c.args.attr (sym c.reads-differs.ensures ∙ same)) c.self.inside.nodes c.self.inside.outline c.self.invariant.outline_is)

pub returns-clause-ok : goal.returns-clause-ok
returns-clause-ok c =
    let after = attr_set c.args.self.now c.args.serial c.args.attr in
    let free : is_id_taken c.args.self.now.nodes c.args.serial (id_in c.args.attr) ≡ false = sym c.takes_id.ensures ∙ c.if-takes_id.false in
    let few : nat_lt REFERENCES (references after.nodes) ≡ false = le-ltb REFERENCES (references after.nodes) (omega (arith, c.references_set-references.ensures, c.if-references-gt-REFERENCES.false)) in
    let same = ap (λ ns. record { nodes = ns; next = c.self.inside.next }) (changed (goal.at.returns-clause-ok c).After-replace) ∙ ap (λ (d : Document). attr_set d c.args.serial c.args.attr) c.self.view_is in
    ap (λ (t : Bool). cond t (Err DuplicateId) (cond (nat_lt REFERENCES (references after.nodes)) (Err TooManyReferences) (Ok after))) free
    ∙ ap (λ (t : Bool). cond t (Err TooManyReferences) (Ok after)) few
    ∙ ap Ok (sym same)
