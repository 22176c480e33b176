use Rattle.smil_text_laws.proofs.BarePresentations.{set_differs, unset_differs}
use Rattle.smil_text_laws.proofs.laws.text_edits_leave_rest.Goals as goal

pub returns : goal.returns
returns c = λ document serial given text. record { set = set_differs document serial given text; unset = unset_differs document serial given }
