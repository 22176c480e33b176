use Rattle.std.proofs.Common.{◌≡◌, ℕ, subst, Some, []}
use Rattle.smil_model.specs.declared.document.Node.{Node}
use Rattle.smil_model.specs.document.Document.{elements, node_at}
use Rattle.smil_model.specs.Times.{later_time}
use Rattle.smil_model.specs.diary.Clocks.{iteration_start}
use Rattle.smil_model.specs.happening.Keys.{coming_repeat_at}
use Rattle.smil_past.specs.Past.{history_of}
use Rattle.smil_element.specs.declared.present.Present.{Present}
use Rattle.smil_element.specs.Element.{and_coming}
use Rattle.smil_element.specs.Packed.{repeat_at}
use Rattle.smil_element.proofs.comings.repeat_found.Goals as goal

pub returns-clause-repeat : goal.returns-clause-repeat
returns-clause-repeat c =
    subst (λ (p : Present). (place : ℕ) (e : Node) → node_at (elements p.past.now.document.nodes) p.who ≡ Some e → and_coming (repeat_at place p.who c.repeat_after.result) [] ≡ coming_repeat_at (history_of p.past.now) p.moment place e c.args.simple (later_time c.args.simple (iteration_start (history_of p.past.now) p.who)))
    c.subject_at.ensures.same c.repeat_after.ensures.repeat
