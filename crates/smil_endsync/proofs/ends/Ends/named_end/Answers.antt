use Rattle.std.proofs.Common.{◌∙◌, ap, sym, ℤ, List, w64}
use Rattle.std.specs.Prelude.{find, unwrap_or}
use Rattle.smil_model.specs.declared.times.Time.TheVariants.{Unresolved}
use Rattle.std.specs.List.{position}
use Rattle.std.proofs.lemmas.Int.{to_z-of_z}
use Rattle.std.proofs.lemmas.List.Quantifiers.{position-Some}
use Rattle.smil_model.specs.declared.interval.ChildEnd.{ChildEnd}
use Rattle.smil_model.specs.interval.Durations.{last_end, named_end}
use Rattle.smil_endsync.proofs.NamedChild.{named_found, nobody_named}
use Rattle.smil_endsync.proofs.ends.Ends.named_end.Goals as goal

pub returns-in-Some : goal.returns-in-Some
returns-in-Some c =
    let cs = c.self.inside.children.items in
    let at = position-Some (λ (x : ChildEnd). x.named) cs c.in-Some.child c.index.result.now (sym c.self.invariant.named_is ∙ c.in-Some.is) in
    c.unwrap_or.ensures
    ∙ ap (λ (x : ChildEnd). unwrap_or x.first Unresolved) c.index.ensures
    ∙ named_found c.args.start cs c.in-Some.child c.index.result.now (sym c.in-Some.is ∙ c.self.invariant.named_is) at.0
    ∙ ap (λ (xs : List ChildEnd). named_end c.args.start xs (find (λ (x : ChildEnd). x.named) xs)) c.self.view_is

pub returns-in-None : goal.returns-in-None
returns-in-None c =
    c.last_end.ensures
    ∙ ap (λ (x : ℤ). last_end x c.args.self.now) (to_z-of_z w64 c.args.start c.ranges.start)
    ∙ sym (nobody_named c.args.start c.args.self.now (sym c.in-None.is ∙ c.self.invariant.named_is ∙ ap (position (λ (x : ChildEnd). x.named)) c.self.view_is))
