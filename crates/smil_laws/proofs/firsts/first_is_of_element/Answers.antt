use Rattle.smil_laws.proofs.FirstElement.{first_of_element}
use Rattle.smil_laws.proofs.firsts.first_is_of_element.Goals as goal

pub returns : goal.returns
returns c = first_of_element
