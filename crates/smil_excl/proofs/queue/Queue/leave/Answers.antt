use Rattle.std.proofs.Common.{rules}
use Rattle.std.proofs.lemmas.Fn.{filter_same}
use Rattle.smil_excl.specs.QueueState.{without}
use Rattle.smil_excl.proofs.QueuePlaces.{changed}
use Rattle.smil_excl.proofs.queue.Queue.leave.Goals as goal

pub returns-clause-rest : goal.returns-clause-rest
returns-clause-rest c =
    changed (without c.args.who) _ _ _ _ c.self.view_is (filter_same _ _ _ (λ x b f' k. search rules) _ _ c.retain.ensures.filtered)
