-- Ids in a set.
use Rattle.std.proofs.Common.{◌≡◌, ℕ, Bool, true, false, not, ◌||◌, List, [], ◌∷◌, map, refl, sym, ap, ◌∙◌}
use Rattle.std.specs.Bool.{MatchBool}
use Rattle.std.specs.List.{list_any}
use Rattle.std.specs.List.Sorted.{IsPermutation}
use Rattle.std.specs.Str.{bytes_eq}
use Rattle.std.proofs.lemmas.List.Sorted.{list_any-IsPermutation}
use Rattle.std.proofs.lemmas.Slice.Eq.{bytes_eq-Decides}
use Rattle.smil_laws.proofs.Lists.{bytes_swap}
use Rattle.smil_outline.specs.Branches.{is_among_ids}

-- whether a key has this id
abbrev has_bytes : {V : Type 0} → (V → List ℕ) → List ℕ → V → Bool
has_bytes bytes id k = bytes_eq (bytes k) id

among : {V : Type 0} (bytes : V → List ℕ) (keys : List V) (id : List ℕ) → is_among_ids (map bytes keys) id ≡ list_any (has_bytes bytes id) keys
among bytes [] id = refl
among bytes (k ∷ keys) id = ap (λ b. bytes_eq (bytes k) id || b) (among bytes keys id)

pub found : {V : Type 0} (bytes : V → List ℕ) (keys : List V) (id : List ℕ) → list_any (λ k. bytes_eq id (bytes k)) keys ≡ is_among_ids (map bytes keys) id
found bytes [] id = refl
found {V} bytes (k ∷ keys) id =
    ap (λ b. b || list_any (λ (other : V). bytes_eq id (bytes other)) keys) (bytes_swap id (bytes k))
    ∙ ap (λ b. bytes_eq (bytes k) id || b) (found bytes keys id)

swap_or : (a b : Bool) → (a || b) ≡ (b || a)
swap_or true true = refl
swap_or true false = refl
swap_or false true = refl
swap_or false false = refl

stays : (among same : Bool) → (same ≡ true → among ≡ true) → among ≡ (among || same)
stays true same h = refl
stays false true h = h refl
stays false false h = refl

-- an id that is put in where it isn't yet
pub inserted : {V : Type 0} (bytes : V → List ℕ) (keys new : List V) (k : V) (added : Bool) → MatchBool added (IsPermutation (k ∷ keys) new) (new ≡ keys) → added ≡ not (list_any (λ (other : V). bytes_eq (bytes k) (bytes other)) keys)
    → (id : List ℕ) → is_among_ids (map bytes new) id ≡ (is_among_ids (map bytes keys) id || bytes_eq (bytes k) id)
inserted bytes keys new k true puts absent id =
    among bytes new id
    ∙ sym (list_any-IsPermutation (has_bytes bytes id) (k ∷ keys) new puts)
    ∙ swap_or (bytes_eq (bytes k) id) (list_any (has_bytes bytes id) keys)
    ∙ ap (λ b. b || bytes_eq (bytes k) id) (sym (among bytes keys id))
inserted {V} bytes keys new k false puts there id =
    ap (λ (ks : List V). is_among_ids (map bytes ks) id) puts
    ∙ stays (is_among_ids (map bytes keys) id) (bytes_eq (bytes k) id) (λ is.
    let same : bytes k ≡ id = (bytes_eq-Decides (bytes k) id).0 is in
    ap (λ (other : List ℕ). is_among_ids (map bytes keys) other) (sym same) ∙ sym (found bytes keys (bytes k)) ∙ known (list_any (λ (other : V). bytes_eq (bytes k) (bytes other)) keys) there)
  where
    known : (b : Bool) → false ≡ not b → b ≡ true
    known true e = refl
    known false e = e
