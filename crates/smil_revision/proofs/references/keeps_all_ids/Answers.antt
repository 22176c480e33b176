use Rattle.std.proofs.Common.{◌∙◌, sym}
use Rattle.smil_revision.proofs.AlikeIds.{keeps_each}
use Rattle.smil_revision.proofs.references.keeps_all_ids.Goals as goal

pub returns-then-are_alike : goal.returns-then-are_alike
returns-then-are_alike c = sym (keeps_each c.args.old.now.nodes c.args.new.now.nodes (sym c.are_alike.ensures ∙ c.if-are_alike.true))
