use Rattle.std.proofs.Common.{suc, ◌+◌}
use Rattle.std.specs.Prelude.{pos}
use Rattle.smil_model.specs.declared.limits.TheConstants.{DIARY_ENTRIES}
use Rattle.smil_model.specs.document.Limits.{limits}
use Rattle.smil_model.specs.interval.Current.{current_interval}
use Rattle.smil_model.specs.shown.Orders.{resolved_history}
use Rattle.smil_wall_laws.proofs.RootReferenceTime.{gives}
use Rattle.smil_wall_laws.proofs.references.presented_references_give_offsets.Goals as goal

pub returns : goal.returns
returns c = λ p root e id side offset state anchor ran there. gives limits p.document state.document root id anchor p.log p.now (suc (DIARY_ENTRIES + p.now)) e ran (current_interval (resolved_history p) (pos p.now)) (pos p.now) side offset there
