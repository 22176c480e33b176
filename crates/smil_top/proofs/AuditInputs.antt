-- What holds of an input in its outline, and of one behind it, holds of each.
use Rattle.smil_grammar.specs.Outlines.{Outline}
use Rattle.smil_top.specs.declared.audit.AuditInput.TheVariants as input
use Rattle.smil_top.specs.AuditInputs.{Input, Recording, in_diary, in_outline}

pub by_input : (P : Input → Type 0) → ((outline : Outline) → P (in_outline outline)) → ((diary : Recording) → P (in_diary diary)) → (x : Input) → P x
by_input P outlined recorded (input.Outline outline) = outlined outline
by_input P outlined recorded (input.Diary diary) = recorded diary
