use Rattle.std.proofs.Common.{arith, ◌≡◌, ◌<◌, ap, sym, ◌∙◌, length, true}
use Rattle.std.proofs.lemmas.List.{take_rest}
use Rattle.smil_model.specs.document.Closure.{has}
use Rattle.smil_graph.specs.Components.{Grouping}
use Rattle.smil_graph.proofs.SearchLeaves.{from_drop}
use Rattle.smil_graph.proofs.components.Components.close.Goals as goal

pub mark_all-requires : goal.mark_all-requires
mark_all-requires c = λ i q.
    let past = rw (take_rest c.deref.result.now c.args.start) at q in
    let read : has c.self.inside.members.items i ≡ true = ap (λ xs. has xs i) (sym c.deref.ensures.value) ∙ from_drop c.deref.result.now c.args.start i past in
    let low : i < length c.args.self.now.marks = c.requires.below i (rw (← c.self.view_is) read) in
    omega (arith, low, ap (λ (g : Grouping). length g.marks) c.self.view_is)
