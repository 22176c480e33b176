use Rattle.std.proofs.Common.{ap, ◌∙◌, ◌+◌, arith}
use Rattle.std.specs.Prelude.{slice_range}
use Rattle.smil_model.specs.document.Document.{Document}
use Rattle.smil_tree.proofs.ChildSpans.{span_fits}
use Rattle.smil_tree.proofs.tree.Tree.below.Goals as goal

pub overflow_add-start : goal.overflow_add-start
overflow_add-start c =
    let fits = span_fits c.self.inside.nodes c.self.inside.next c.self.invariant.keeps.valid.numbered _ c.args.serial c.span-start.result c.self.view_is c.requires c.span-start.ensures.places in
    omega (arith, fits.0, fits.1, c.self.invariant.keeps.valid.nodes)

pub between-requires : goal.between-requires
between-requires c =
    let fits = span_fits c.self.inside.nodes c.self.inside.next c.self.invariant.keeps.valid.numbered _ c.args.serial c.span-start.result c.self.view_is c.requires c.span-start.ensures.places in
    record { in_order = omega (arith, fits.0); within = fits.1 }

pub returns : goal.returns
returns c =
    c.between.ensures
    ∙ ap (λ (d : Document). slice_range d.nodes (c.span-start.result.0 + 1) c.span-start.result.1) c.self.view_is
    ∙ c.span-start.ensures.below
