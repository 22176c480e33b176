use Rattle.std.proofs.Common.{sym, ap, ◌∙◌, Ok, Err, cond}
use Rattle.std.specs.Option.{option_copied}
use Rattle.smil_laws.proofs.NumberedTrees.{ordered}
use Rattle.smil_model.specs.ListTables.{list_in}
use Rattle.smil_tree.specs.Kin.{Families}
use Rattle.smil_tree.specs.declared.fault.TreeFault.TheVariants.{BadPlace}
use Rattle.smil_tree.specs.Outcomes.{place_outcome}
use Rattle.smil_tree.proofs.InsertPlaces.{too_deep, placed, may_place_told, first_known}
use Rattle.smil_tree.proofs.tree.Tree.may_insert.Goals as goal

pub height-requires : goal.height-requires
height-requires c = ordered _ c.self.invariant.keeps.valid.numbered

pub returns-then-height-ge-DEPTH : goal.returns-then-height-ge-DEPTH
returns-then-height-ge-DEPTH c =
    sym (too_deep c.self.inside.nodes (ordered _ c.self.invariant.keeps.valid.numbered) c.args.parent c.unwrap-node.result.now (sym c.get.ensures ∙ ap option_copied c.unwrap-node.ensures) c.args.place c.args.kind c.height.result c.height.ensures c.if-height-ge-DEPTH.true)
    ∙ ap (λ d. place_outcome d.nodes c.args.parent c.args.place c.args.kind) c.self.view_is

pub may_place-requires : goal.may_place-requires
may_place-requires c = first_known c.self.inside.nodes c.self.inside.next c.self.invariant.keeps.valid c.args.parent c.args.kind c.self.inside.kin.value c.self.invariant.keeps.kin c.children.result.now
    (c.children.ensures ∙ ap (λ (families : Families). list_in families.children c.args.parent) c.as_ref.ensures)

pub returns-then-may_place : goal.returns-then-may_place
returns-then-may_place c =
    let at = sym c.get.ensures ∙ ap option_copied c.unwrap-node.ensures in
    let told = may_place_told c.self.inside.nodes c.self.inside.next c.self.invariant.keeps.valid c.args.parent c.args.kind c.self.inside.kin.value c.self.invariant.keeps.kin c.children.result.now
    (c.children.ensures ∙ ap (λ (families : Families). list_in families.children c.args.parent) c.as_ref.ensures) c.unwrap-node.result.now.kind c.args.place in
    sym (placed c.self.inside.nodes (ordered _ c.self.invariant.keeps.valid.numbered) c.args.parent c.unwrap-node.result.now at c.args.place c.args.kind c.height.result c.may_place.result c.height.ensures c.if-height-ge-DEPTH.false (c.may_place.ensures ∙ told)
    ∙ ap (λ t. cond t (Ok tt) (Err BadPlace)) c.if-may_place.true)
    ∙ ap (λ d. place_outcome d.nodes c.args.parent c.args.place c.args.kind) c.self.view_is

pub returns-else-may_place : goal.returns-else-may_place
returns-else-may_place c =
    let at = sym c.get.ensures ∙ ap option_copied c.unwrap-node.ensures in
    let told = may_place_told c.self.inside.nodes c.self.inside.next c.self.invariant.keeps.valid c.args.parent c.args.kind c.self.inside.kin.value c.self.invariant.keeps.kin c.children.result.now
    (c.children.ensures ∙ ap (λ (families : Families). list_in families.children c.args.parent) c.as_ref.ensures) c.unwrap-node.result.now.kind c.args.place in
    sym (placed c.self.inside.nodes (ordered _ c.self.invariant.keeps.valid.numbered) c.args.parent c.unwrap-node.result.now at c.args.place c.args.kind c.height.result c.may_place.result c.height.ensures c.if-height-ge-DEPTH.false (c.may_place.ensures ∙ told)
    ∙ ap (λ t. cond t (Ok tt) (Err BadPlace)) c.if-may_place.false)
    ∙ ap (λ d. place_outcome d.nodes c.args.parent c.args.place c.args.kind) c.self.view_is
