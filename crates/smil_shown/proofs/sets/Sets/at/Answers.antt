use Rattle.std.proofs.Common.{sym, subst, ℕ, List}
use Rattle.smil_model.specs.declared.view.Layer.{Layer as AnyLayer}
use Rattle.smil_sandwich.specs.Stacks.{AreKept}
use Rattle.smil_sandwich.proofs.LayersSorted.{applied_are_kept}
use Rattle.smil_shown.specs.Sets.{AreSetsOf}
use Rattle.smil_shown.proofs.sets.Sets.at.Goals as goal

pub returns : goal.returns
returns c = λ all are.
    let P : List (ℕ × AnyLayer) → Type 0 = λ kept. AreKept all kept in
    let here = subst (λ sets. AreSetsOf sets all) (sym c.self.view_is) are in
    c.at.ensures.model all (subst P (sym here.kept) (applied_are_kept all are.apart))
