use Rattle.std.proofs.Common.{◌≡◌, sym, ap, ◌∙◌, Some, length, arith}
use Rattle.std.specs.Prelude.{◌==◌, is_some, option_map, unwrap_or}
use Rattle.std.specs.List.{position}
use Rattle.std.proofs.lemmas.List.{length-map}
use Rattle.smil_model.specs.declared.document.Node.{Node}
use Rattle.smil_model.specs.document.Document.{node_at}
use Rattle.smil_model.specs.document.Edits.{children}
use Rattle.smil_laws.proofs.Lists.{filter_shorter}
use Rattle.smil_past.proofs.NodeClasses.{class_parent, parent_is, place_is, place_of_serial}
use Rattle.smil_past.proofs.queues.classes.place_among_classes.Goals as goal

pub unwrap-excl-requires : goal.unwrap-excl-requires
unwrap-excl-requires c = ap is_some c.parent.ensures ∙ class_parent c.args.tree.now.nodes c.args.class c.valid.ensures.placed c.requires.kind

pub overflow_cast-result : goal.overflow_cast-result
overflow_cast-result c =
    let nodes = c.args.tree.now.nodes in
    let excl = c.unwrap-excl.result in
    omega (
      arith,
      c.place_in.ensures.bound,
      ap length c.children.ensures,
      length-map (children nodes excl) (λ (n : Node). n.serial),
      filter_shorter (λ (n : Node). n.parent == excl) nodes,
      c.valid.ensures.nodes,
    )

pub returns : goal.returns
returns c =
    let nodes = c.args.tree.now.nodes in
    let class = c.args.class in
    let excl = c.unwrap-excl.result in
    let parent : Some excl ≡ option_map (λ (n : Node). n.parent) (node_at nodes class) = parent_is nodes class excl (sym c.unwrap-excl.ensures ∙ c.parent.ensures) in
    c.place_in.ensures.place
    ∙ ap (λ xs. unwrap_or (position (λ other. other == class) xs) 0) c.children.ensures
    ∙ ap (λ o. unwrap_or o 0) (place_of_serial class (children nodes excl))
    ∙ sym (place_is nodes class excl parent)
