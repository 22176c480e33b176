use Rattle.std.proofs.Common.{◌∙◌, ◌≤◌, sym, subst, length}
use Rattle.std.proofs.lemmas.Bool.{ltb-false}
use Rattle.smil_instance_rows.proofs.TimesByPlace.{last_of_few}
use Rattle.smil_instance_rows.proofs.item_times.ItemTimes.has_more.Goals as goal

pub returns : goal.returns
returns c = λ few.
    sym (last_of_few c.args.self.now (subst (λ ks. length ks ≤ 1) c.self.view_is (ltb-false 1 (length c.self.inside.kept) (sym c.has_more.ensures ∙ few))))
