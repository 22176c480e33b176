use Rattle.std.proofs.Common.{◌≡◌, refl, sym, ap, subst, ◌∙◌}
use Rattle.std.proofs.lemmas.Bool.{ltb-false}
use Rattle.smil_instance_rows.specs.Rows.{from_place}
use Rattle.smil_instance_rows.proofs.TimesByPlace.{empty_front, from_first}
use Rattle.smil_instance_rows.proofs.item_times.ItemTimes.has_before.Goals as goal

pub returns-in-Some : goal.returns-in-Some
returns-in-Some c = λ late.
    ap (from_place c.args.place) (sym c.self.view_is)
    ∙ from_first c.args.place c.self.inside.kept c.in-Some.first c.self.invariant (sym c.first.ensures ∙ c.in-Some.is) (ltb-false c.in-Some.first.place c.args.place late)
    ∙ c.self.view_is

pub returns-in-None : goal.returns-in-None
returns-in-None c = λ _.
    subst (λ ks. from_place c.args.place ks ≡ ks) (sym (empty_front c.self.inside.kept (sym c.first.ensures ∙ c.in-None.is)) ∙ c.self.view_is) refl
