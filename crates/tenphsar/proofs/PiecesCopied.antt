-- A text in two pieces that is copied from a byte on.
use Rattle.std.proofs.Common.{◌≡◌, ℕ, ◌+◌, ◌-◌, ◌<◌, ◌≤◌, min, List, [], ◌∷◌, ◌++◌, length, take, drop, get_or, slice_range, ap, sym, subst, ◌∙◌, arith, append_assoc, inl, inr}
use Rattle.std.proofs.lemmas.Bool.{cases_lt}
use Rattle.std.specs.Prelude.{map, set}
use Rattle.std.proofs.Math.ListN.{get_or-map}
use Rattle.std.proofs.lemmas.Grind.{drop_more_same}
use Rattle.std.proofs.lemmas.List.{append-nil, drop-append-le, drop-map, drop-set-lt, length-map, length-set, take_more, take_more_set, drop_all, length-append, length-drop, length-take-le, take-append-drop, take-append-le, take_all}
use Rattle.std.proofs.Math.Seq.{drop-append-add, drop-append_seam, take-append-add, take-append_seam}
use Rattle.tenphsar.specs.Calls.{Copies}

-- a text is dropped in two steps
drop-more : (n m : ℕ) (text : List ℕ) → n ≤ length text → drop (n + m) text ≡ drop m (drop n text)
drop-more n m text within =
    ap (λ zs. drop (n + m) zs) (sym (take-append-drop n text))
    ∙ ap (λ k. drop (k + m) (take n text ++ drop n text)) (sym (length-take-le n text within))
    ∙ drop-append-add (take n text) (drop n text) m

-- no more is dropped than there is
drop-min : {A : Type 0} (n : ℕ) (text : List A) → drop n text ≡ drop (min n (length text)) text
drop-min n text = elim (cases_lt (length text) n) [
  | inl past ↦ drop_all n text (omega (arith, past)) ∙ sym (drop_all (min n (length text)) text (omega (arith, past)))
  | inr within ↦ ap (λ k. drop k text) (omega (arith, within))
]

-- of each piece what stands behind that byte
pub drop-pieces : (first last : List ℕ) (from : ℕ) →
    drop from (first ++ last) ≡ drop (min from (length first)) first ++ drop (min (from - length first) (length last)) last
drop-pieces first last from = elim (cases_lt (length first) from) [
  | inl past ↦
      (let k : ℕ = from - length first in
      ap (λ n. drop n (first ++ last)) (omega (arith, past))
      ∙ drop-append-add first last k
      ∙ drop-min k last
      ∙ ap (λ zs. zs ++ drop (min k (length last)) last) (sym (drop_all (min from (length first)) first (omega (arith, past)))))
  | inr within ↦
      (let all : from ≡ min from (length first) = omega (arith, within) in
      let none : 0 ≡ min (from - length first) (length last) = omega (arith, within) in
      drop-append-le from first last within
      ∙ ap (λ n. drop n first ++ last) all
      ∙ ap (λ n. drop (min from (length first)) first ++ drop n last) none)
]

module _ (first last old between tail new : List ℕ) (n m : ℕ) (one : Copies n first old between) (two : Copies m last (drop n between) tail) (is : new ≡ take n between ++ tail) where
  -- there is no room for all of the first piece
  part : length old < length first → Copies (n + m) (first ++ last) old new
  part less =
      let all : n ≡ length old = omega (arith, one.as_fits, less) in
      let none : drop n old ≡ [] = drop_all n old (omega (arith, all)) in
      let between_is : between ≡ take n first = one.new_is ∙ ap (λ zs. take n first ++ zs) none ∙ append-nil (take n first) in
      let long : length between ≡ n = ap length between_is ∙ length-take-le n first (omega (arith, all, less)) in
      let left : drop n between ≡ [] = drop_all n between (omega (arith, long)) in
      let nothing : m ≡ 0 = omega (arith, two.as_fits, ap length left) in
      let tail_is : tail ≡ [] = two.new_is ∙ ap (λ k. take k last ++ drop k (drop n between)) nothing ∙ left in
      let sum : n + m ≡ n = omega (arith, nothing) in
      record {
        as_fits = omega (arith, all, less, nothing, length-append first last);
        new_is =
            is
            ∙ ap (λ zs. take n between ++ zs) tail_is
            ∙ append-nil (take n between)
            ∙ take_all n between (omega (arith, long))
            ∙ between_is
            ∙ sym (ap (λ k. take k (first ++ last) ++ drop k old) sum ∙ ap (λ zs. take n (first ++ last) ++ zs) none ∙ append-nil (take n (first ++ last)) ∙ take-append-le n first last (omega (arith, all, less)));
      }

  -- there is
  whole : length first ≤ length old → Copies (n + m) (first ++ last) old new
  whole enough =
      let all : n ≡ length first = omega (arith, one.as_fits, enough) in
      let behind : List ℕ = drop n old in
      let between_is : between ≡ first ++ behind = one.new_is ∙ ap (λ zs. zs ++ behind) (take_all n first (omega (arith, all))) in
      let front : take n between ≡ first = ap (take n) between_is ∙ ap (λ k. take k (first ++ behind)) all ∙ take-append_seam first behind in
      let back : drop n between ≡ behind = ap (drop n) between_is ∙ ap (λ k. drop k (first ++ behind)) all ∙ drop-append_seam first behind in
      let room : length (drop n between) ≡ length old - n = ap length back ∙ length-drop n old in
      record {
        as_fits = omega (arith, all, enough, two.as_fits, room, length-append first last);
        new_is =
            is
            ∙ ap (λ zs. zs ++ tail) front
            ∙ ap (λ zs. first ++ zs) (two.new_is ∙ ap (λ zs. take m last ++ drop m zs) back)
            ∙ sym (append_assoc first (take m last) (drop m behind))
            ∙ ap (λ zs. zs ++ drop m behind) (sym (ap (λ k. take (k + m) (first ++ last)) all ∙ take-append-add first last m))
            ∙ ap (λ zs. take (n + m) (first ++ last) ++ zs) (sym (drop-more n m old (omega (arith, all, enough))));
      }

  -- both pieces, one behind the other
  pub copies-two : Copies (n + m) (first ++ last) old new
  copies-two = elim (cases_lt (length old) (length first)) [ inl less ↦ part less | inr enough ↦ whole enough ]

-- what stands from a place to the end
to-end : {A : Type 0} (k : ℕ) (text : List A) → slice_range text k (length text) ≡ drop k text
to-end k text = take_all (length text - k) (drop k text) (omega (arith, length-drop k text))

-- the two pieces from a byte on are copied one behind the other
module _ (first last old between tail : List ℕ) (from k behind n m : ℕ) (k_is : k ≡ min from (length first)) (behind_is : behind ≡ min (from - length first) (length last)) where
  pub copies-pieces : Copies n (slice_range first k (length first)) old between → Copies m (slice_range last behind (length last)) (slice_range between n (length between)) tail
      → Copies (n + m) (drop from (first ++ last)) old (take n between ++ (tail ++ drop (length between - n) (drop n between)))
  copies-pieces one two =
      let text : drop from (first ++ last) ≡ drop k first ++ drop behind last =
      drop-pieces first last from
      ∙ ap (λ i. drop i first ++ drop (min (from - length first) (length last)) last) (sym k_is)
      ∙ ap (λ j. drop k first ++ drop j last) (sym behind_is) in
      let none : drop (length between - n) (drop n between) ≡ [] = drop_all (length between - n) (drop n between) (omega (arith, length-drop n between)) in
      let all : List ℕ = take n between ++ (tail ++ drop (length between - n) (drop n between)) in
      subst (λ t. Copies (n + m) t old all) (sym text)
      (copies-two (drop k first) (drop behind last) old between tail all n m
      (subst (λ t. Copies n t old between) (to-end k first) one)
      (subst (λ o. Copies m (drop behind last) o tail) (to-end n between)
      (subst (λ t. Copies m t (slice_range between n (length between)) tail) (to-end behind last) two))
      (ap (λ zs. take n between ++ (tail ++ zs)) none ∙ ap (λ zs. take n between ++ zs) (append-nil tail)))

-- one more element is copied by a function
pub copied-more : {A B : Type 0} (f : A → B) (xs : List A) (out old : List B) (i : ℕ) (d : A) (y : B) → y ≡ f (get_or xs i d) → i < length xs → i < length out →
    take i out ≡ take i (map f xs) → drop i out ≡ drop i old → length out ≡ length old →
    (take (i + 1) (set out i y) ≡ take (i + 1) (map f xs)) × (drop (i + 1) (set out i y) ≡ drop (i + 1) old) × (length (set out i y) ≡ length old)
copied-more f xs out old i d y is here room front back same = (
  take_more_set out i y room
      ∙ ap (λ zs. zs ++ y ∷ []) front
      ∙ ap (λ z. take i (map f xs) ++ z ∷ []) (is ∙ sym (get_or-map f xs i d))
      ∙ sym (take_more (map f xs) i (f d) (omega (arith, here, length-map xs f))),
  drop-set-lt (i + 1) out i y (omega arith) ∙ drop_more_same out old i back,
  length-set out i y ∙ same,
)

-- what stands behind an element is copied by a function
pub copies-behind : {A B : Type 0} (f : A → B) (xs : List A) (old new : List B) (from k n : ℕ) → k ≡ min from (length xs) →
    Copies n (map f (slice_range xs k (length xs))) old new → Copies n (drop from (map f xs)) old new
copies-behind f xs old new from k n k_is copies =
    subst (λ zs. Copies n zs old new)
    (ap (map f) (to-end k xs)
    ∙ sym (drop-map f k xs)
    ∙ ap (λ j. drop j (map f xs)) (k_is ∙ ap (min from) (sym (length-map xs f)))
    ∙ sym (drop-min from (map f xs)))
    copies

-- all that there is room for is copied
pub copies-all : {A : Type 0} (given old out : List A) (n i : ℕ) → n ≡ min (length given) (length old) → i ≡ n → take i out ≡ take i given → drop i out ≡ drop i old → Copies n given old out
copies-all given old out n i n_is at front back = record {
  as_fits = n_is;
  new_is = sym (take-append-drop i out) ∙ ap (λ zs. zs ++ drop i out) front ∙ ap (λ zs. take i given ++ zs) back ∙ ap (λ k. take k given ++ drop k old) at;
}
