use Rattle.std.proofs.Common.{◌≡◌, refl, ◌∙◌, sym, ap, subst, Some}
use Rattle.std.specs.Prelude.{IfNone}
use Rattle.smil_instance_rows.specs.Rows.{from_place}
use Rattle.smil_instance_rows.proofs.TimesByPlace.{empty_front, from_first, rest_of_front}
use Rattle.smil_instance_rows.proofs.item_times.ItemTimes.pop_before.Goals as goal

pub returns-in-None-clause-none : goal.returns-in-None-clause-none
returns-in-None-clause-none c = (
  refl,
  subst (λ ks. from_place c.args.place ks ≡ ks) (sym (empty_front c.self.inside.kept (sym c.first.ensures ∙ c.in-None.is)) ∙ c.self.view_is) refl,
)

pub returns-then-first-place-clause-none : goal.returns-then-first-place-clause-none
returns-then-first-place-clause-none c =
    (refl, ap (from_place c.args.place) (sym c.self.view_is) ∙ from_first c.args.place c.self.inside.kept c.in-Some.first c.self.invariant (sym c.first.ensures ∙ c.in-Some.is) c.if-first-place.true ∙ c.self.view_is)

pub invariant_of-self : goal.invariant_of-self
invariant_of-self c = rest_of_front c.self.inside.kept c.pop_front.new.self c.pop_front.result c.pop_front.ensures.items c.self.invariant

pub returns-clause-none : goal.returns-clause-none
returns-clause-none c =
    let is : c.pop_front.result ≡ Some c.in-Some.first = c.pop_front.ensures.value ∙ sym c.first.ensures ∙ c.in-Some.is in
    subst (λ taken. IfNone taken ((c.pop_front.new.self ≡ c.args.self.now) × (from_place c.args.place c.args.self.now ≡ c.args.self.now))) (sym is) tt
