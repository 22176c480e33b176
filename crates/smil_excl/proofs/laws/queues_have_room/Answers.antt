use Rattle.smil_excl.proofs.QueueMembers.{fits, put_in_fits}
use Rattle.smil_excl.proofs.laws.queues_have_room.Goals as goal

pub returns-clause-fit : goal.returns-clause-fit
returns-clause-fit c = λ h excl lawful. fits h excl lawful

pub returns-clause-room : goal.returns-clause-room
returns-clause-room c = λ h excl who lawful known child. put_in_fits h excl who lawful known child
