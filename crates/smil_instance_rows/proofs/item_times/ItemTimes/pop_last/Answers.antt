use Rattle.std.proofs.Common.{◌≡◌, [], subst}
use Rattle.std.specs.Prelude.{IfNone}
use Rattle.smil_instance_rows.proofs.TimesByPlace.{none_at_end, rest_of_back}
use Rattle.smil_instance_rows.proofs.item_times.ItemTimes.pop_last.Goals as goal

pub invariant_of-self : goal.invariant_of-self
invariant_of-self c = rest_of_back c.self.inside.kept c.pop_back.new.self c.pop_back.result c.pop_back.ensures.items c.self.invariant

pub returns-clause-none : goal.returns-clause-none
returns-clause-none c = subst (λ ks. IfNone c.pop_back.result (ks ≡ [])) c.self.view_is (none_at_end c.pop_back.result c.self.inside.kept c.pop_back.ensures.value)
