use Rattle.std.proofs.Common.{◌++◌, sym, ap, ◌∙◌, List}
use Rattle.std.specs.Iterator.Adapters.{rev_source}
use Rattle.std.proofs.lemmas.List.{append-nil}
use Rattle.smil_model.specs.declared.document.Node.{Node}
use Rattle.smil_model.specs.happening.Groups.{at_moment, cut_steps}
use Rattle.smil_element.proofs.CutsJoined.{one_less}
use Rattle.smil_element.proofs.happening.cuts.cut_descendants.Goals as goal

pub loop-node-init : goal.loop-node-init
loop-node-init c =
    ap (λ (ns : List Node). c.args.entries.now.items ++ at_moment c.args.parts.now.moment (cut_steps c.args.parts.now.book.now ns))
    (sym (ap rev_source c.into_iter-node-iterator.ensures.into_iter_gives ∙ c.rev-node-items.ensures.source ∙ c.below.ensures))

pub loop-node-preserved : goal.loop-node-preserved
loop-node-preserved c =
    let m = c.args.parts.now.moment in
    let diary = c.args.parts.now.book.now in
    c.loop-node.invariant
    ∙ ap (λ (ns : List Node). c.loop-node.entries.items ++ at_moment m (cut_steps diary ns)) c.in-Some.ensures.steps
    ∙ one_less diary m c.next.new.self.iter c.in-Some.node.now c.loop-node.entries.items c.cut.new.entries.items c.in_ok-cut.ensures

pub returns : goal.returns
returns c =
    let m = c.args.parts.now.moment in
    let entries = c.loop-node.entries.items in
    sym
    (c.loop-node.invariant
    ∙ ap (λ (ns : List Node). entries ++ at_moment m (cut_steps c.args.parts.now.book.now ns)) c.in-None.ensures.steps.0
    ∙ append-nil entries)
