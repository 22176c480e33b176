use Rattle.smil_wall_laws.proofs.RootReferenceTime.{gives}
use Rattle.smil_wall_laws.proofs.references.references_give_offsets.Goals as goal

pub returns : goal.returns
returns c = λ allowed document log last steps intervals now root e id side offset valid anchor ran there. gives allowed document valid root id anchor log last steps e ran intervals now side offset there
