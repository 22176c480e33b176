use Rattle.std.proofs.Common.{◌≡◌, refl, ◌∙◌, ◌++◌, sym, ap, subst, Some, arith}
use Rattle.std.specs.Prelude.{IfNone, IfSome}
use Rattle.std.specs.Option.{option_to_list}
use Rattle.smil_instance_rows.specs.Rows.{before_place}
use Rattle.smil_instance_rows.specs.Places.{TakesLast}
use Rattle.smil_instance_rows.proofs.TimesByPlace.{before_last, empty_back, rest_of_back}
use Rattle.smil_instance_rows.proofs.item_times.ItemTimes.pop_from.Goals as goal

pub returns-in-None-clause-none : goal.returns-in-None-clause-none
returns-in-None-clause-none c = (
  refl,
  subst (λ ks. before_place c.args.place ks ≡ ks) (sym (empty_back c.self.inside.kept (sym c.last.ensures ∙ c.in-None.is)) ∙ c.self.view_is) refl,
)

pub returns-then-last-place-clause-none : goal.returns-then-last-place-clause-none
returns-then-last-place-clause-none c = (
  refl,
  ap (before_place c.args.place) (sym c.self.view_is)
      ∙ before_last c.args.place c.self.inside.kept c.in-Some.last c.self.invariant (sym c.last.ensures ∙ c.in-Some.is) c.if-last-place.true
      ∙ c.self.view_is,
)

pub invariant_of-self : goal.invariant_of-self
invariant_of-self c = rest_of_back c.self.inside.kept c.pop_back.new.self c.pop_back.result c.pop_back.ensures.items c.self.invariant

pub returns-clause-some : goal.returns-clause-some
returns-clause-some c =
    let is : c.pop_back.result ≡ Some c.in-Some.last = c.pop_back.ensures.value ∙ sym c.last.ensures ∙ c.in-Some.is in
    subst (λ taken. IfSome taken (TakesLast c.args.place c.args.self.now c.pop_back.new.self)) (sym is)
    (sym c.self.view_is ∙ c.pop_back.ensures.items ∙ ap (λ taken. c.pop_back.new.self ++ option_to_list taken) is, omega (arith, c.if-last-place.false))

pub returns-clause-none : goal.returns-clause-none
returns-clause-none c =
    let is : c.pop_back.result ≡ Some c.in-Some.last = c.pop_back.ensures.value ∙ sym c.last.ensures ∙ c.in-Some.is in
    subst (λ taken. IfNone taken ((c.pop_back.new.self ≡ c.args.self.now) × (before_place c.args.place c.args.self.now ≡ c.args.self.now))) (sym is) tt
