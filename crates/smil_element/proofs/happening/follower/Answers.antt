use Rattle.std.proofs.Common.{[], ◌∷◌, ap, ◌∙◌}
use Rattle.smil_model.specs.happening.Groups.{follower}
use Rattle.smil_model.specs.happening.Queue.{queue_of}
use Rattle.smil_element.proofs.LastAppended.{nothing_appended, told}
use Rattle.smil_element.proofs.EndFollowers.{first_follows, none_follows}
use Rattle.smil_element.proofs.happening.follower.Goals as goal

pub returns-in-Some : goal.returns-in-Some
returns-in-Some c =
    let now = c.args.parts.now in
    told c.put.result now c.args.entries.now c.put.new.entries (c.next_step.result ∷ []) (λ h m. follower h m (queue_of h c.args.excl)) c.put.ensures
    (λ h parts.
    ap (λ s. s ∷ []) (c.next_step.ensures h parts)
    ∙ first_follows h now.moment (queue_of h c.args.excl) c.in-Some.first (c.in-Some.ensures h parts.queues_are))

pub returns-in-None : goal.returns-in-None
returns-in-None c = λ h parts.
    nothing_appended c.args.parts.now c.args.entries.now _ (none_follows h c.args.parts.now.moment (queue_of h c.args.excl) (c.in-None.ensures h parts.queues_are))
