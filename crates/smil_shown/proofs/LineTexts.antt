-- Texts that are written line by line.
use Rattle.std.proofs.Common.{◌≡◌, sym, ◌∙◌, ap, ℕ, ◌+◌, ◌<◌, ◌≤◌, List, [], ◌∷◌, ◌++◌, append-nil, append_assoc, length, get_or, take, Some, Result, Ok, Err, OnOk, arith}
use Rattle.std.specs.Prelude.{OnErr, flat_map, slice_get}
use Rattle.std.proofs.lemmas.Grind.{flat_map-append}
use Rattle.std.proofs.lemmas.List.{take_all, take_more}
use Rattle.std.proofs.lemmas.Option.{get_or_from_slice_get, slice_get_within}
use Rattle.std.proofs.Math.Seq.{take-append_seam}
use Rattle.smil_model.specs.document.Words.{Begins}

module _ {X : Type 0} (f : X → List ℕ) (xs : List X) (start : List ℕ) where
  -- one more
  pub lines_more : (i : ℕ) (d : X) (out new : List ℕ) → i < length xs → out ≡ start ++ flat_map f (take i xs) → new ≡ out ++ f (get_or xs i d) → new ≡ start ++ flat_map f (take (i + 1) xs)
  lines_more i d out new l so_far one =
      one ∙ ap (λ t. t ++ f (get_or xs i d)) so_far
      ∙ append_assoc start (flat_map f (take i xs)) (f (get_or xs i d))
      ∙ ap (λ t. start ++ t)
      (ap (λ t. flat_map f (take i xs) ++ t) (sym (append-nil (f (get_or xs i d))))
      ∙ sym (flat_map-append f (take i xs) (get_or xs i d ∷ []))
      ∙ ap (flat_map f) (sym (take_more xs i d l)))

  pub lines_next : (i : ℕ) (x : X) (out new : List ℕ) → slice_get xs i ≡ Some x → out ≡ start ++ flat_map f (take i xs) → new ≡ out ++ f x → new ≡ start ++ flat_map f (take (i + 1) xs)
  lines_next i x out new at so_far one = lines_more i x out new (slice_get_within xs i x at) so_far (one ∙ ap (λ y. out ++ f y) (sym (get_or_from_slice_get xs i x x at)))

  -- all at the end
  pub lines_all : (i : ℕ) (out : List ℕ) → length xs ≤ i → out ≡ start ++ flat_map f (take i xs) → out ≡ start ++ flat_map f xs
  lines_all i out l so_far = so_far ∙ ap (λ ys. start ++ flat_map f ys) (take_all i xs l)

-- what was there begins it
pub begins_with : (a x : List ℕ) → Begins a (a ++ x)
begins_with a x = take-append_seam a x

pub begins_same : (a b : List ℕ) → b ≡ a → Begins a b
begins_same a b is = ap (take (length a)) is ∙ take_all (length a) a (omega arith)

pub begins_more : (a b x : List ℕ) → b ≡ a ++ x → Begins a b
begins_more a b x is = ap (take (length a)) is ∙ begins_with a x

pub begins_either : {A E : Type 0} (r : Result A E) (a b x : List ℕ) → OnOk r (b ≡ a ++ x) → OnErr r (b ≡ a) → Begins a b
begins_either (Ok y) a b x more same = begins_more a b x more
begins_either (Err y) a b x more same = begins_same a b same
