-- Functions of what a test chooses.
use Rattle.std.proofs.Common.{◌≡◌, refl, Bool, true, false}
use Rattle.std.specs.Prelude.{cond}

-- two functions that agree on each of two choices agree on the one that a test makes
pub chosen : {A B C : Type 0} (f : A → C) (g : B → C) (t : Bool) (a b : A) (c d : B) → f a ≡ g c → f b ≡ g d → f (cond t a b) ≡ g (cond t c d)
chosen f g true a b c d one other = one
chosen f g false a b c d one other = other

pub same_choice : {A : Type 0} (t : Bool) (a : A) → cond t a a ≡ a
same_choice true a = refl
same_choice false a = refl
