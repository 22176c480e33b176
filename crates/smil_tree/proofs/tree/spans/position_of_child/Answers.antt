use Rattle.std.proofs.Common.{◌-◌, refl, sym, ap, ◌∙◌, length}
use Rattle.std.specs.Prelude.{is_some}
use Rattle.std.proofs.lemmas.Option.{slice_get_read, slice_get_past}
use Rattle.smil_model.specs.document.Edits.{place_in, child_place}
use Rattle.smil_tree.proofs.ChildSpans.{child_told, no_child_told, place_told, has_place}
use Rattle.smil_tree.proofs.tree.spans.position_of_child.Goals as goal

pub unwrap-requires : goal.unwrap-requires
unwrap-requires c =
    let child = child_told c.args.nodes.now c.requires.valid.0 c.requires.valid.1.numbered c.args.kin.now c.requires.kin c.args.parent c.children.result.now c.children.ensures (c.args.place - 1) c.in-Some.child.now (sym (slice_get_read c.children.result.now (length c.children.result.now) (c.args.place - 1) c.in-Some.child.now refl c.in-Some.ensures.lookup.3.0 c.in-Some.ensures.lookup.1)) in
    ap is_some c.position.ensures ∙ has_place c.args.nodes.now c.requires.valid.0 c.requires.valid.1.numbered c.in-Some.child.now (ap is_some child.known)

pub returns-in-Some : goal.returns-in-Some
returns-in-Some c =
    let child = child_told c.args.nodes.now c.requires.valid.0 c.requires.valid.1.numbered c.args.kin.now c.requires.kin c.args.parent c.children.result.now c.children.ensures (c.args.place - 1) c.in-Some.child.now (sym (slice_get_read c.children.result.now (length c.children.result.now) (c.args.place - 1) c.in-Some.child.now refl c.in-Some.ensures.lookup.3.0 c.in-Some.ensures.lookup.1)) in
    place_told c.args.nodes.now c.requires.valid.0 c.requires.valid.1.numbered c.in-Some.child.now c.unwrap.result (ap is_some child.known) (sym c.unwrap.ensures ∙ c.position.ensures)
    ∙ ap (place_in c.args.nodes.now) (sym child.serial)
    ∙ ap (child_place c.args.nodes.now c.args.parent) (sym child.at)

pub returns-in-None : goal.returns-in-None
returns-in-None c =
    c.end_of.ensures
    ∙ ap (child_place c.args.nodes.now c.args.parent) (sym (no_child_told c.args.nodes.now c.requires.valid.0 c.requires.valid.1.numbered c.args.kin.now c.requires.kin c.args.parent c.children.result.now c.children.ensures (c.args.place - 1) (sym (slice_get_past c.children.result.now (c.args.place - 1) c.in-None.ensures.lookup.3))))
