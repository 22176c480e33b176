use Rattle.smil_instances.proofs.NamedElements.{is_element_of}
use Rattle.smil_instances.proofs.laws.bases_are_elements.Goals as goal

pub returns : goal.returns
returns c = λ nodes e item x here base. is_element_of nodes e item x here base
