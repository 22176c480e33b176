use Rattle.std.proofs.Common.{◌∙◌, ap, map, arith}
use Rattle.std.proofs.lemmas.List.{take_at}
use Rattle.smil_past.specs.Queues.{KeptQueues, emptied}
use Rattle.smil_past.proofs.Emptied.{emptied_queues}
use Rattle.smil_past.proofs.queues.Queues.reset.Goals as goal

pub returns : goal.returns
returns c = λ h k are same.
    let was = c.self.view_is ∙ are in
    let first = take_at c.clear_each.new.queues _ c.self.inside.queues.len (omega (arith, c.clear_each.auto.queues, c.deref_mut.ensures.len)) ∙ c.clear_each.ensures ∙ ap (map emptied) (c.deref_mut.ensures.value ∙ ap (λ (q : KeptQueues). q.queues) was) in
    let second = take_at c.clear_each-2.new.queues _ c.self.inside.playing.len (omega (arith, c.clear_each-2.auto.queues, c.deref_mut-2.ensures.len)) ∙ c.clear_each-2.ensures ∙ ap (map emptied) (c.deref_mut-2.ensures.value ∙ ap (λ (q : KeptQueues). q.playing) was) in
    (λ i. record { queues = first i; playing = second i; classes = (was i).classes }) ∙ emptied_queues h k same
