use Rattle.std.proofs.Common.{◌∙◌, sym, length}
use Rattle.std.proofs.lemmas.Bool.{ltb-true}
use Rattle.smil_instance_rows.proofs.TimesByPlace.{rest_of_front, some_in_front}
use Rattle.smil_instance_rows.proofs.item_times.ItemTimes.pop_more.Goals as goal

pub invariant_of-self : goal.invariant_of-self
invariant_of-self c = rest_of_front c.self.inside.kept c.pop_front.new.self c.pop_front.result c.pop_front.ensures.items c.self.invariant

pub returns-then-has_more-clause-none : goal.returns-then-has_more-clause-none
returns-then-has_more-clause-none c =
    some_in_front _ c.pop_front.result c.self.inside.kept c.pop_front.ensures.value (ltb-true 1 (length c.self.inside.kept) (sym c.has_more.ensures ∙ c.if-has_more.true))
