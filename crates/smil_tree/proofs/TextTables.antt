-- A table by texts, as the pairs of texts and numbers.
use Rattle.std.proofs.Common.{◌≡◌, refl, sym, ◌∙◌, ap, ℕ, List, [], ◌∷◌, Option, Some, Bool, true, false, cond, map}
use Rattle.std.specs.Str.{bytes_eq}
use Rattle.std.specs.Map.{lookup, KeepsOthers}
use Rattle.std.specs.Cmp.Lexicographic.{bytes_decides}
use Rattle.smil_laws.proofs.Lists.{bytes_swap}

module _ {K : Type 0} (text : K → List ℕ) where
  abbrev pub pairs : List (K × ℕ) → List (List ℕ × ℕ)
  pairs es = map (λ (e : K × ℕ). (text e.0, e.1)) es

  pub lookup-pairs : (q : List ℕ) (es : List (K × ℕ)) → lookup (bytes_eq q) (pairs es) ≡ lookup (λ k. bytes_eq q (text k)) es
  lookup-pairs q [] = refl
  lookup-pairs q (e ∷ es) = ap (cond (bytes_eq q (text e.0)) (Some e.1)) (lookup-pairs q es)

  keeps : (q id : List ℕ) (old new : List (K × ℕ)) → bytes_eq q id ≡ false → KeepsOthers (λ x y. bytes_eq (text x) (text y)) (λ k. bytes_eq id (text k)) old new → lookup (λ k. bytes_eq q (text k)) new ≡ lookup (λ k. bytes_eq q (text k)) old
  unfolding KeepsOthers
  keeps q id old new differs others =
      others (λ k. bytes_eq q (text k))
      (λ x y here. ap (λ p. bytes_eq p (text y)) ((bytes_decides q (text x)).0 here))
      (λ k here. ap (bytes_eq q) (sym ((bytes_decides id (text k)).0 here)) ∙ differs)

  pub updated : (id : List ℕ) (w : Option ℕ) (old new : List (K × ℕ)) → lookup (λ k. bytes_eq id (text k)) new ≡ w → KeepsOthers (λ x y. bytes_eq (text x) (text y)) (λ k. bytes_eq id (text k)) old new → (q : List ℕ) → lookup (bytes_eq q) (pairs new) ≡ cond (bytes_eq id q) w (lookup (bytes_eq q) (pairs old))
  updated id w old new here others q = by_test (bytes_eq q id) refl ∙ ap (λ t. cond t w (lookup (bytes_eq q) (pairs old))) (bytes_swap q id)
    where
      by_test : (t : Bool) → bytes_eq q id ≡ t → lookup (bytes_eq q) (pairs new) ≡ cond t w (lookup (bytes_eq q) (pairs old))
      by_test true e = lookup-pairs q new ∙ ap (λ p. lookup (λ k. bytes_eq p (text k)) new) ((bytes_decides q id).0 e) ∙ here
      by_test false e = lookup-pairs q new ∙ keeps q id old new e others ∙ sym (lookup-pairs q old)
