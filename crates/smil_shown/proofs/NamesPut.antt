-- A name put among names in the order of their bytes.
use Rattle.std.proofs.Common.{◌≡◌, refl, sym, ◌∙◌, ap, suc, ℕ, List, [], ◌∷◌, true, false, Some, arith}
use Rattle.std.specs.Prelude.{slice_get}
use Rattle.std.specs.Ordering.{nat_cmp, is_le, is_eq}
use Rattle.std.specs.declared.cmp.Ordering.{Ordering}
use Rattle.std.specs.declared.cmp.Ordering.TheVariants.{Less, Equal, Greater}
use Rattle.std.specs.Cmp.Lexicographic.{slice_cmp}
use Rattle.std.specs.List.{insert, position_or_len}
use Rattle.smil_model.specs.shown.Sandwich.{put_name}
use Rattle.smil_shown.specs.Names.{is_there, is_up_to}

abbrev place : List ℕ → List (List ℕ) → ℕ
place n ns = position_or_len (is_up_to n) ns

-- where a name stands by how it compares with the first
at_first : (n o : List ℕ) (os : List (List ℕ)) (r : Ordering) → slice_cmp nat_cmp n o ≡ r → is_le r ≡ true → place n (o ∷ os) ≡ 0
at_first n o os r e le = let t : is_up_to n o ≡ true = ap is_le e ∙ le in rw t refl

at_rest : (n o : List ℕ) (os : List (List ℕ)) → slice_cmp nat_cmp n o ≡ Greater → place n (o ∷ os) ≡ suc (place n os)
at_rest n o os e = let t : is_up_to n o ≡ false = ap is_le e in rw t (omega arith)

pub put_kept : (n : List ℕ) (ns : List (List ℕ)) → is_there n (slice_get ns (place n ns)) ≡ true → put_name ns n ≡ ns
put_kept n [] q = cc
put_kept n (o ∷ os) q = step (slice_cmp nat_cmp n o) refl (put_kept n os)
  where
    step : (r : Ordering) → slice_cmp nat_cmp n o ≡ r → (is_there n (slice_get os (place n os)) ≡ true → put_name os n ≡ os) → put_name (o ∷ os) n ≡ o ∷ os
    step Less e rest =
        let here : is_there n (Some o) ≡ true = sym (ap (λ i. is_there n (slice_get (o ∷ os) i)) (at_first n o os Less e refl)) ∙ q in
        let never : false ≡ true = sym (ap is_eq e) ∙ here in cc
    step Equal e rest = rw e refl
    step Greater e rest =
        let there : is_there n (slice_get os (place n os)) ≡ true = sym (ap (λ i. is_there n (slice_get (o ∷ os) i)) (at_rest n o os e)) ∙ q in
        rw e (ap (λ ns. o ∷ ns) (rest there))

pub put_new : (n : List ℕ) (ns : List (List ℕ)) → is_there n (slice_get ns (place n ns)) ≡ false → put_name ns n ≡ insert ns (place n ns) n
put_new n [] q = refl
put_new n (o ∷ os) q = step (slice_cmp nat_cmp n o) refl (put_new n os)
  where
    step : (r : Ordering) → slice_cmp nat_cmp n o ≡ r → (is_there n (slice_get os (place n os)) ≡ false → put_name os n ≡ insert os (place n os) n)
        → put_name (o ∷ os) n ≡ insert (o ∷ os) (place n (o ∷ os)) n
    step Less e rest =
        let put : put_name (o ∷ os) n ≡ insert (o ∷ os) 0 n = rw e refl in
        put ∙ ap (λ i. insert (o ∷ os) i n) (sym (at_first n o os Less e refl))
    step Equal e rest =
        let here : is_there n (Some o) ≡ false = sym (ap (λ i. is_there n (slice_get (o ∷ os) i)) (at_first n o os Equal e refl)) ∙ q in
        let never : true ≡ false = sym (ap is_eq e) ∙ here in cc
    step Greater e rest =
        let there : is_there n (slice_get os (place n os)) ≡ false = sym (ap (λ i. is_there n (slice_get (o ∷ os) i)) (at_rest n o os e)) ∙ q in
        let put : put_name (o ∷ os) n ≡ o ∷ put_name os n = rw e refl in
        put ∙ ap (λ ns. o ∷ ns) (rest there) ∙ ap (λ i. insert (o ∷ os) i n) (sym (at_rest n o os e))
