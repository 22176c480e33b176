use Rattle.std.proofs.Common.{sym, ◌∙◌, length}
use Rattle.std.proofs.lemmas.Bool.{eqb-true}
use Rattle.smil_instances.proofs.ChildlessElements.{no_members}
use Rattle.smil_instances.proofs.intake.is_childless.Goals as goal

pub returns : goal.returns
returns c = λ none. sym c.time_children.ensures ∙ no_members c.time_children.result.now (eqb-true (length c.time_children.result.now) 0 (sym c.is_empty.ensures ∙ none))
