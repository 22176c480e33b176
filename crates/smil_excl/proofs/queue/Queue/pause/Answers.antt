use Rattle.std.proofs.Common.{◌≡◌, ◌∙◌, ap, rules, List}
use Rattle.std.specs.Prelude.{nat_le}
use Rattle.std.specs.List.{insert, position_or_len}
use Rattle.smil_excl.specs.declared.queued_child.QueuedChild.{QueuedChild}
use Rattle.smil_excl.specs.QueueState.{paused_before}
use Rattle.smil_excl.proofs.QueuePlaces.{changed, put_at, or_length}
use Rattle.smil_excl.proofs.queue.Queue.pause.Goals as goal

pub returns : goal.returns
returns c =
    let child : QueuedChild = record { who = c.args.who; rank = c.args.rank } in
    let held : List QueuedChild = c.self.inside.held.items in
    let placed : c.insert.new.self.items ≡ insert held c.unwrap_or-place.result child = search rules in
    let place : c.unwrap_or-place.result ≡ position_or_len (λ (o : QueuedChild). nat_le c.args.rank o.rank) held =
    let found = or_length (λ (o : QueuedChild). nat_le c.args.rank o.rank) held in search (rules, found) in
    changed (paused_before child) _ _ _ _ c.self.view_is (placed ∙ ap (λ i. insert held i child) place ∙ put_at (λ (o : QueuedChild). nat_le c.args.rank o.rank) child held)
