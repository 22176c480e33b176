use Rattle.smil_laws.proofs.ViewsLeft.{leaves_views}
use Rattle.smil_laws.proofs.stays.other_views_stay.Goals as goal

pub returns : goal.returns
returns c = leaves_views
