use Rattle.smil_model.specs.happening.Queue.{queue_of}
use Rattle.smil_excl.proofs.QueueEntries.{first_of, follow}
use Rattle.smil_excl.proofs.QueueDistinct.{first_leaves}
use Rattle.smil_excl.proofs.laws.queues_follow_entries.Goals as goal

pub returns-clause-follow : goal.returns-clause-follow
returns-clause-follow c = λ h excl y. follow h excl y

pub returns-clause-first : goal.returns-clause-first
returns-clause-first c = λ h excl. first_of h.nodes (queue_of h excl)

pub returns-clause-taken : goal.returns-clause-taken
returns-clause-taken c = λ child others once. first_leaves child others once
