-- A list whose items are alike in pairs, as what is kept of each item.
use Rattle.std.proofs.Common.{◌≡◌, refl, List, [], ◌∷◌, map}
use Rattle.std.specs.List.{AllZip}

pub same_mapped : {X Y : Type 0} (R : X → X → Type 0) (f : X → Y) → ((x y : X) → R x y → f y ≡ f x) → (xs ys : List X) → AllZip R xs ys → map f ys ≡ map f xs
same_mapped R f alike [] [] all = refl
same_mapped R f alike [] (y ∷ ys) all = absurd all
same_mapped R f alike (x ∷ xs) [] all = absurd all
same_mapped R f alike (x ∷ xs) (y ∷ ys) all = λ i. alike x y all.0 i ∷ same_mapped R f alike xs ys all.1 i
