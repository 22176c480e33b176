use Rattle.std.proofs.Common.{sym, ap, ◌∙◌, List}
use Rattle.std.specs.Prelude.{is_some}
use Rattle.smil_model.specs.declared.document.Node.{Node}
use Rattle.smil_model.specs.document.Document.{node_at, time_parent}
use Rattle.smil_model.specs.happening.Groups.{follower, followers}
use Rattle.smil_model.specs.happening.Queue.{queue_of}
use Rattle.smil_past.proofs.TimeParents.{parent_node}
use Rattle.smil_element.proofs.LastAppended.{nothing_appended, retold}
use Rattle.smil_element.proofs.PlayingChild.{left_known}
use Rattle.smil_element.proofs.EndFollowers.{followers_in, no_followers}
use Rattle.smil_element.proofs.happening.followers.Goals as goal

pub follower-requires-clause-known : goal.follower-requires-clause-known
follower-requires-clause-known c =
    let h = c.requires.parts.0 in
    let parts = c.requires.parts.1 in
    let who = c.args.who in
    let known = ap (λ (ns : List Node). is_some (node_at ns who)) parts.same_nodes ∙ c.requires.known in
    left_known h who c.in-Some.excl c.args.parts.now.tree.now.nodes (time_parent h.nodes who)
    (λ p e. ap (λ (ns : List Node). is_some (node_at ns p.serial)) (sym parts.same_nodes) ∙ ap is_some (parent_node h.nodes who p parts.clocks_are.document.distinct known e))
    (c.in-Some.ensures h parts)

pub returns-in-Some : goal.returns-in-Some
returns-in-Some c =
    let now = c.args.parts.now in
    let who = c.args.who in
    retold c.follower.result now c.args.entries.now c.follower.new.entries (λ h m. follower h m (queue_of h c.in-Some.excl)) (λ h m. followers h m who (time_parent h.nodes who)) c.follower.ensures
    (λ h parts. followers_in h now.moment who c.in-Some.excl (time_parent h.nodes who) (c.in-Some.ensures h parts))

pub returns-in-None : goal.returns-in-None
returns-in-None c = λ h parts.
    nothing_appended c.args.parts.now c.args.entries.now _ (no_followers h c.args.parts.now.moment c.args.who (time_parent h.nodes c.args.who) (c.in-None.ensures h parts))
