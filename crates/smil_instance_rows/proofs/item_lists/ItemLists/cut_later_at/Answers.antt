use Rattle.smil_instance_rows.specs.Rows.{before_place}
use Rattle.smil_instance_rows.proofs.IdleItems.{changed_item}
use Rattle.smil_instance_rows.proofs.MergedValues.{merged_replaced}
use Rattle.smil_instance_rows.proofs.item_lists.ItemLists.cut_later_at.Goals as goal

pub invariant_of-self : goal.invariant_of-self
invariant_of-self g c =
    merged_replaced g.T.Instant.at_most g.T.Instant.order g.T.Instant.choose c.self.inside.items.items c.args.item c.in-Some.list.now c.cut_later.new.kept c.self.inside.sorted c.cut_later.new.sorted c.in-Some.ensures.item.3.0 c.in-Some.ensures.value c.self.invariant c.cut_later.ensures.sorted

pub returns-in-Some : goal.returns-in-Some
returns-in-Some g c =
    changed_item (before_place c.args.place) c.self.inside.idle c.args.item c.self.inside.items.items c.args.self.now c.in-Some.list.now c.cut_later.new.kept c.in-Some.ensures.item.3.0 c.in-Some.ensures.value c.self.view_is c.cut_later.ensures.kept
