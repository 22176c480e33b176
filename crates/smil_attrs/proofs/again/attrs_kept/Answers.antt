use Rattle.smil_attrs.proofs.EditedAttributes.{with_stays, without_stays, attrs_anywhere}
use Rattle.smil_attrs.proofs.again.attrs_kept.Goals as goal

pub returns : goal.returns
returns c = record { set = with_stays; unset = without_stays; anywhere = attrs_anywhere }
