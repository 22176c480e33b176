-- The layers of sets, kept from the top down.
use Rattle.std.specs.Prelude.{◌≡◌, ℕ, List, [], ◌∷◌, ◌++◌, filter, fold, false, not, ◌==◌, Option, Some, None}
use Rattle.std.specs.List.{AllByRecursion}
use Rattle.smil_model.specs.declared.view.Layer.{Layer}
use Rattle.smil_model.specs.shown.Sandwich.{put_layer, stack_of}

-- all layers but that of a set
abbrev pub without : ℕ → List (ℕ × Layer) → List (ℕ × Layer)
without setter layers = filter (λ (l : ℕ × Layer). not (l.0 == setter)) layers

-- the present layer of a set in place of its old one
abbrev pub applied : ℕ → Option Layer → List (ℕ × Layer) → List (ℕ × Layer)
applied setter None layers = without setter layers
applied setter (Some layer) layers = put_layer (without setter layers) (setter, layer)

-- two sets that stand at different places
abbrev pub IsApart : ℕ × Layer → ℕ × Layer → Type 0
IsApart l m = ((l.0 == m.0) ≡ false) × (((l.1).position == (m.1).position) ≡ false)

-- of different sets that stand at different places
abbrev pub AreApart : List (ℕ × Layer) → Type 0
AreApart [] = Unit {0}
AreApart (l ∷ layers) = AllByRecursion (IsApart l) layers × AreApart layers

-- no layer is of this set
abbrev pub IsAbsent : ℕ → List (ℕ × Layer) → Type 0
IsAbsent setter layers = AllByRecursion (λ (l : ℕ × Layer). (l.0 == setter) ≡ false) layers

-- the layers from the top down
abbrev pub sorted : List (ℕ × Layer) → List (ℕ × Layer)
sorted layers = fold put_layer [] layers

-- what is kept is these layers from the top down
pub record AreKept (layers kept : List (ℕ × Layer)) : Type 0 where
  pub apart : AreApart layers
  pub from_top : kept ≡ sorted layers

-- layers with that of a set among them, where it has one
abbrev pub with_layer : List (ℕ × Layer) → ℕ → Option Layer → List (ℕ × Layer) → List (ℕ × Layer)
with_layer before setter None after = before ++ after
with_layer before setter (Some layer) after = before ++ ((setter, layer) ∷ after)

-- the layers of these sets, applied one after another
abbrev pub all_applied : List (ℕ × Layer) → List (ℕ × Layer) → List (ℕ × Layer)
all_applied before [] = before
all_applied before (l ∷ layers) = all_applied (applied l.0 (Some l.1) before) layers

-- ---- the laws

abbrev pub AppliedIsStack : Type 0
AppliedIsStack =
    (layers : List (ℕ × Layer)) (target : ℕ) (name : List ℕ) → AreApart layers
    → stack_of (all_applied [] layers) target name ≡ stack_of layers target name

abbrev pub AppliedAreKept : Type 0
AppliedAreKept =
    (layers : List (ℕ × Layer)) → AreApart layers → AreKept layers (all_applied [] layers)

abbrev pub ChangeIsKept : Type 0
ChangeIsKept =
    (before after kept : List (ℕ × Layer)) (setter : ℕ) (old new : Option Layer)
    → IsAbsent setter before → IsAbsent setter after → AreApart (with_layer before setter new after)
    → AreKept (with_layer before setter old after) kept
    → AreKept (with_layer before setter new after) (applied setter new kept)
