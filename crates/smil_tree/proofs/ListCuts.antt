-- Lists without what stands between two places, and with one more item.
use Rattle.std.proofs.Common.{◌≡◌, refl, sym, ◌∙◌, ap, subst, ℕ, zero, suc, ◌+◌, ◌≤◌, List, [], ◌∷◌, ◌++◌, Some, None, Bool, true, false, cond, length, take, drop, insert, arith}
use Rattle.std.specs.Prelude.{count_by, sum_by, slice_get, slice_range}
use Rattle.std.specs.Map.{lookup}
use Rattle.std.specs.Str.{bytes_eq}
use Rattle.std.proofs.lemmas.List.{take-append-drop, length-take-le}
use Rattle.std.proofs.lemmas.List.Sums.{sum_by-cons, sum_by-append}
use Rattle.smil_model.specs.declared.document.Node.{Node}
use Rattle.smil_model.specs.document.Valid.{references, references_of}
use Rattle.smil_tree.specs.Places.{cut}
use Rattle.smil_tree.specs.TreeFields.{bears, owner, IsTableOf}
use Rattle.smil_tree.proofs.NodeFamilies.{drop_at}
use Rattle.smil_tree.proofs.KinLists.{parts}
use Rattle.smil_tree.proofs.IdOwners.{count-one, count-append, owner-between, owner-without}

pub nothing_left : {A : Type 0} (xs : List A) → length xs ≡ 0 → xs ≡ []
nothing_left [] none = refl
nothing_left (x ∷ xs) none = absurd (omega (arith, none))

-- ---- one more taken out

pub cut_before : {A : Type 0} (xs : List A) (start i : ℕ) (x : A) → slice_get xs i ≡ Some x → cut start i xs ≡ take start xs ++ x ∷ drop (i + 1) xs
cut_before xs start i x at = ap (λ ys. take start xs ++ ys) (drop_at xs i x at)

sum_drop : (f : Node → ℕ) (k : ℕ) (ns : List Node) → sum_by f (drop k ns) ≤ sum_by f ns
sum_drop f zero ns = omega arith
sum_drop f (suc k) [] = omega arith
sum_drop f (suc k) (n ∷ ns) = omega (arith, sum_drop f k ns, sum_by-cons f n ns)

pub sum_cut : (f : Node → ℕ) (start past : ℕ) (ns : List Node) → start ≤ past → sum_by f (cut start past ns) ≤ sum_by f ns
sum_cut f zero past ns le = sum_drop f past ns
sum_cut f (suc start) zero ns le = absurd (omega (arith, le))
sum_cut f (suc start) (suc past) [] le = omega arith
sum_cut f (suc start) (suc past) (n ∷ ns) le = omega (arith, sum_cut f start past ns (omega (arith, le)), sum_by-cons f n ns, sum_by-cons f n (cut start past ns))

pub owner_cut : (q : List ℕ) (ns : List Node) (start i : ℕ) (n : Node) → count_by (bears q) ns ≤ 1 → start ≤ i → slice_get ns i ≡ Some n → owner q (cut start (i + 1) ns) ≡ cond (bears q n) None (owner q (cut start i ns))
owner_cut q ns start i n once le at =
    let before = cut_before ns start i n at in
    owner-without q (take start ns) n (drop (i + 1) ns) (omega (arith, once, sum_cut (λ (m : Node). cond (bears q m) 1 0) start i ns le, ap (count_by (bears q)) before))
    ∙ ap (λ ms. cond (bears q n) None (owner q ms)) (sym before)

-- a part that is let go node by node: what is left of it, between those before it and those behind it
pub record IsTableLeft (table : List (List ℕ × ℕ)) (front left back : List Node) : Type 0 where
  pub ids : IsTableOf table (front ++ (left ++ back))
  pub once : (q : List ℕ) → count_by (bears q) (front ++ (left ++ back)) ≤ 1

pub none_forgotten : (table : List (List ℕ × ℕ)) (ns left : List Node) (start past : ℕ) → start ≤ past → ((q : List ℕ) → count_by (bears q) ns ≤ 1) → IsTableOf table ns → left ≡ slice_range ns start past → IsTableLeft table (take start ns) left (drop past ns)
none_forgotten table ns left start past le once ids is =
    let whole : take start ns ++ (left ++ drop past ns) ≡ ns = ap (λ ms. take start ns ++ (ms ++ drop past ns)) is ∙ parts start past ns le in
    record {
      ids = λ q. ids q ∙ ap (owner q) (sym whole);
      once = λ q. omega (arith, once q, ap (count_by (bears q)) whole);
    }

pub forgotten_more : (old new : List (List ℕ × ℕ)) (front left rest back : List Node) (n : Node) → left ≡ n ∷ rest → ((q : List ℕ) → lookup (bytes_eq q) new ≡ cond (bears q n) None (lookup (bytes_eq q) old)) → IsTableLeft old front left back → IsTableLeft new front rest back
forgotten_more old new front left rest back n at forgot so = record {
  ids = λ q.
      forgot q
      ∙ ap (cond (bears q n) None) (so.ids q ∙ ap (λ ms. owner q (front ++ (ms ++ back))) at)
      ∙ sym (owner-without q front n (rest ++ back) (few q));
  once = λ q. omega (arith, few q, count-one q front n (rest ++ back), count-append q front (rest ++ back));
}
  where
    few : (q : List ℕ) → count_by (bears q) (front ++ n ∷ (rest ++ back)) ≤ 1
    few q = subst (λ ms. count_by (bears q) (front ++ (ms ++ back)) ≤ 1) at (so.once q)

pub all_forgotten : (table : List (List ℕ × ℕ)) (ns left : List Node) (start past : ℕ) → left ≡ [] → IsTableLeft table (take start ns) left (drop past ns) → IsTableOf table (cut start past ns)
all_forgotten table ns left start past none so = λ q. so.ids q ∙ ap (λ ms. owner q (take start ns ++ (ms ++ drop past ns))) none

pub references_parts : (ns left : List Node) (start past : ℕ) → start ≤ past → left ≡ slice_range ns start past → references left + references (cut start past ns) ≡ references ns
references_parts ns left start past le is =
    omega (
      arith,
      ap references is,
      ap references (parts start past ns le),
      sum_by-append references_of (take start ns) (slice_range ns start past ++ drop past ns),
      sum_by-append references_of (slice_range ns start past) (drop past ns),
      sum_by-append references_of (take start ns) (drop past ns),
    )

pub references_first : (left rest : List Node) (n : Node) → left ≡ n ∷ rest → references left ≡ references_of n + references rest
references_first left rest n at = ap references at ∙ sum_by-cons references_of n rest

pub nothing_cut : {A : Type 0} (xs : List A) (i : ℕ) → cut i i xs ≡ xs
nothing_cut xs i = take-append-drop i xs

-- ---- one more put in

pub get_seam : {A : Type 0} (xs ys : List A) (x : A) → slice_get (xs ++ x ∷ ys) (length xs) ≡ Some x
get_seam [] ys x = refl
get_seam (y ∷ xs) ys x = get_seam xs ys x

pub get_inserted : {A : Type 0} (xs : List A) (i : ℕ) (x : A) → i ≤ length xs → slice_get (insert xs i x) i ≡ Some x
get_inserted xs i x within =
    ap (slice_get (insert xs i x)) (sym (length-take-le i xs within)) ∙ get_seam (take i xs) (drop i xs) x

pub sum_inserted : (f : Node → ℕ) (ns : List Node) (i : ℕ) (n : Node) → sum_by f (insert ns i n) ≡ sum_by f ns + f n
sum_inserted f ns i n =
    omega (arith, sum_by-append f (take i ns) (n ∷ drop i ns), sum_by-cons f n (drop i ns), sum_by-append f (take i ns) (drop i ns), ap (sum_by f) (take-append-drop i ns))

-- ---- ids

pub owner_put : (q : List ℕ) (ns : List Node) (i : ℕ) (n : Node) → count_by (bears q) ns ≤ 1 → slice_get ns i ≡ Some n → owner q ns ≡ cond (bears q n) (Some n.serial) (owner q (cut i (i + 1) ns))
owner_put q ns i n once at =
    let whole : ns ≡ take i ns ++ n ∷ drop (i + 1) ns = sym (nothing_cut ns i) ∙ cut_before ns i i n at in
    ap (owner q) whole ∙ owner-between q (take i ns) n (drop (i + 1) ns) (omega (arith, once, ap (count_by (bears q)) whole))

-- the owner as before, once a node's id was noted and forgotten
pub owner_back : (q : List ℕ) (ns : List Node) (i : ℕ) (n : Node) → count_by (bears q) ns ≤ 1 → slice_get ns i ≡ Some n → cond (bears q n) None (cond (bears q n) (Some n.serial) (owner q (cut i (i + 1) ns))) ≡ owner q (cut i (i + 1) ns)
owner_back q ns i n once at = by_test (bears q n) (owner_cut q ns i i n once (omega arith) at)
  where
    by_test : (t : Bool) → owner q (cut i (i + 1) ns) ≡ cond t None (owner q (cut i i ns)) → cond t None (cond t (Some n.serial) (owner q (cut i (i + 1) ns))) ≡ owner q (cut i (i + 1) ns)
    by_test true e = sym e
    by_test false e = refl
