-- The time that an entry gives for an edge, step by step.
use Rattle.std.proofs.Common.{◌≡◌, ◌∙◌, ap, ℕ, ℤ, Some, None}
use Rattle.std.specs.Prelude.{cond, ◌+ℤ◌}
use Rattle.std.proofs.lemmas.Bool.{eq-eqb}
use Rattle.smil_model.specs.declared.diary.Step.{Step}
use Rattle.smil_model.specs.declared.diary.Step.TheVariants.{Began, Ended}
use Rattle.smil_model.specs.declared.document.Edge.{Edge}
use Rattle.smil_model.specs.declared.document.Edge.TheVariants.{Begin, End}
use Rattle.smil_model.specs.Times.{within_horizon}
use Rattle.smil_model.specs.diary.Diary.{History}
use Rattle.smil_model.specs.diary.Clocks.{between}
use Rattle.smil_model.specs.interval.Instances.{edge_time}

module _ (h : History) (e x : ℕ) (offset moment : ℤ) (edge : Edge) (step : Step) (on : ℕ) (value : ℤ) where
  pub began_is : edge ≡ Begin → step ≡ Began on value → on ≡ x → edge_time h e x offset moment edge step ≡ Some (within_horizon (between h x e value moment +ℤ offset))
  began_is q r s =
      ap (λ d. edge_time h e x offset moment d step) q ∙ ap (edge_time h e x offset moment Begin) r
      ∙ ap (λ t. cond t (Some (within_horizon (between h x e value moment +ℤ offset))) None) (eq-eqb on x s)

  pub ended_is : edge ≡ End → step ≡ Ended on value → on ≡ x → edge_time h e x offset moment edge step ≡ Some (within_horizon (between h x e value moment +ℤ offset))
  ended_is q r s =
      ap (λ d. edge_time h e x offset moment d step) q ∙ ap (edge_time h e x offset moment End) r
      ∙ ap (λ t. cond t (Some (within_horizon (between h x e value moment +ℤ offset))) None) (eq-eqb on x s)
