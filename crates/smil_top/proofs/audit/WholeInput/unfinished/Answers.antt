use Rattle.std.proofs.Common.{ℕ, false, subst}
use Rattle.std.specs.Prelude.{Err}
use Rattle.smil_model.specs.declared.order.Refusal.TheVariants.{UnfinishedLoad}
use Rattle.smil_top.specs.Auditing.{TellsOf}
use Rattle.smil_top.proofs.audit.WholeInput.unfinished.Goals as goal

pub returns : goal.returns
returns c = subst (λ (n : ℕ). TellsOf false c.refused.result (Err (record { line = n; refusal = UnfinishedLoad }))) c.max.ensures (c.refused.ensures.fault (λ e. absurd cc))
