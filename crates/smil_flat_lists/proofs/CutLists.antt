-- Lists cut out of one list.
use Rattle.std.proofs.Common.{◌≡◌, ℕ, ◌≤◌, ◌<◌, ◌+◌, ◌-◌, List, [], ◌∷◌, ◌++◌, length, drop, zero, suc, arith, refl, sym, ap, ◌∙◌}
use Rattle.std.specs.List.{between}
use Rattle.std.proofs.Math.ListN.{get_or}
use Rattle.std.proofs.lemmas.List.{take-append-le, take_all}
use Rattle.std.proofs.lemmas.Slice.{between_is}
use Rattle.std.proofs.Math.Seq.{drop-append_seam}
use Rattle.smil_flat_lists.specs.Cuts.{cut, RiseTo}

-- where ends rise to a number, none of them is above it
pub rise_below : (start : ℕ) (ends : List ℕ) (last : ℕ) → RiseTo start ends last → start ≤ last
rise_below start [] last r = omega arith
rise_below start (end ∷ ends) last r = omega (arith, rise_below end ends last r.1)

-- what is appended
seam : {X : Type 0} (values more : List X)
    → between (length values) (length values + length more) (values ++ more) ≡ more
seam values more = rw (drop-append_seam values more) (take_all (length values + length more - length values) more (omega arith))

-- a part that ends before what is appended
within : {X : Type 0} (start end : ℕ) (values more : List X) → end ≤ length values
    → between start end (values ++ more) ≡ between start end values
within start end values more h =
    between_is (values ++ more) start end ∙ (ap (drop start) (take-append-le end values more h) ∙ sym (between_is values start end))

-- one more list at the end
pub cut_push : {X : Type 0} (start : ℕ) (ends : List ℕ) (values more : List X) → RiseTo start ends (length values)
    → cut start (ends ++ (length values + length more) ∷ []) (values ++ more) ≡ cut start ends values ++ more ∷ []
cut_push start [] values more r = ap (λ list. list ∷ []) (rw r (seam values more))
cut_push start (end ∷ ends) values more r =
    rw (within start end values more (rise_below end ends (length values) r.1), cut_push end ends values more r.1) refl

pub rise_push : (start : ℕ) (ends : List ℕ) (last more : ℕ) → RiseTo start ends last
    → RiseTo start (ends ++ (last + more) ∷ []) (last + more)
rise_push start [] last more r = (omega arith, refl)
rise_push start (end ∷ ends) last more r = (r.0, rise_push end ends last more r.1)

pub length_cut : {X : Type 0} (start : ℕ) (ends : List ℕ) (values : List X) → length (cut start ends values) ≡ length ends
length_cut start [] values = refl
length_cut start (end ∷ ends) values = ap suc (length_cut end ends values)

pub cut_at : {X : Type 0} (start : ℕ) (ends : List ℕ) (values : List X) (i : ℕ) → i < length ends
    → get_or (cut start ends values) i [] ≡ between (get_or (start ∷ ends) i 0) (get_or ends i 0) values
cut_at start [] values i h = absurd (omega arith)
cut_at start (end ∷ ends) values zero h = refl
cut_at start (end ∷ ends) values (suc i) h = cut_at end ends values i (omega arith)

pub rise_at : (start : ℕ) (ends : List ℕ) (last i : ℕ) → RiseTo start ends last → i < length ends
    → (get_or (start ∷ ends) i 0 ≤ get_or ends i 0) × (get_or ends i 0 ≤ last)
rise_at start [] last i r h = absurd (omega arith)
rise_at start (end ∷ ends) last zero r h = (r.0, rise_below end ends last r.1)
rise_at start (end ∷ ends) last (suc i) r h = rise_at end ends last i r.1 (omega arith)
