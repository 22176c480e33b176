-- The branch that is open where the next node stands.
use Rattle.std.proofs.Common.{◌≡◌, ℕ, zero, suc, ◌+◌, ◌-◌, ◌<◌, ◌≤◌, Bool, true, false, eqb, List, [], ◌∷◌, ◌++◌, length, take, drop, map, reverse, get_or, Some, refl, sym, ap, subst, ◌∙◌, arith, length-take, length-append}
use Rattle.std.specs.Prelude.{slice_get}
use Rattle.std.specs.List.{prefix_len, suffix_len}
use Rattle.std.proofs.lemmas.List.{take_all, take_more, take-append-le, reverse-append, reverse-reverse, length-reverse, map-append, length-map}
use Rattle.std.proofs.lemmas.List.Sums.{prefix_len-le-length}
use Rattle.std.proofs.lemmas.Option.{get_or_from_slice_get, slice_get-get_or}
use Rattle.smil_model.specs.declared.document.Kind.{Kind}
use Rattle.smil_model.specs.declared.document.Kind.TheVariants.{Par}
use Rattle.smil_model.specs.document.Valid.{open_from}
use Rattle.smil_grammar.specs.Outlines.{last_of}
use Rattle.smil_outline.specs.Open.{upwards, is_other}

pub upwards_on : (branch : List (ℕ × Kind)) (n : ℕ × Kind) → upwards (branch ++ n ∷ []) ≡ n.0 ∷ upwards branch
upwards_on branch n = ap reverse (map-append (λ (m : ℕ × Kind). m.0) branch (n ∷ [])) ∙ reverse-append (map (λ (m : ℕ × Kind). m.0) branch) (n.0 ∷ [])

pub length_upwards : (branch : List (ℕ × Kind)) → length (upwards branch) ≡ length branch
length_upwards branch = length-reverse (map (λ (m : ℕ × Kind). m.0) branch) ∙ length-map branch (λ (m : ℕ × Kind). m.0)

pub get_or_behind : {A : Type 0} (xs ys : List A) (d : A) → get_or (xs ++ ys) (length xs) d ≡ get_or ys 0 d
get_or_behind [] ys d = refl
get_or_behind (x ∷ xs) ys d = get_or_behind xs ys d

last_on : {A : Type 0} (xs : List A) (x y : A) → last_of (xs ++ x ∷ []) ≡ Some y → x ≡ y
last_on xs x y e =
    let place : length (xs ++ x ∷ []) - 1 ≡ length xs = omega (arith, length-append xs (x ∷ [])) in
    sym (get_or_behind xs (x ∷ []) x) ∙ get_or_from_slice_get (xs ++ x ∷ []) (length xs) y x (subst (λ (i : ℕ). slice_get (xs ++ x ∷ []) i ≡ Some y) place e)

more : (branch : List (ℕ × Kind)) (depth : ℕ) (n : ℕ × Kind) → depth < length branch → last_of (take (depth + 1) branch) ≡ Some n → upwards (take (depth + 1) branch) ≡ n.0 ∷ upwards (take depth branch)
more branch depth n lt last =
    let taken : take (depth + 1) branch ≡ take depth branch ++ get_or branch depth n ∷ [] = take_more branch depth n lt in
    let same : get_or branch depth n ≡ n = last_on (take depth branch) (get_or branch depth n) n (subst (λ (xs : List (ℕ × Kind)). last_of xs ≡ Some n) taken last) in
    ap upwards taken ∙ upwards_on (take depth branch) (get_or branch depth n) ∙ ap (λ (m : ℕ × Kind). m.0 ∷ upwards (take depth branch)) same

last_some : (branch : List (ℕ × Kind)) → 0 < length branch → (n : ℕ × Kind) × (last_of branch ≡ Some n)
last_some branch some = (get_or branch (length branch - 1) (0, Par), slice_get-get_or branch (length branch - 1) (0, Par) (omega arith))

-- a node of the branch, and those above it
pub record Level (branch : List (ℕ × Kind)) (depth : ℕ) : Type 0 where
  pub node : ℕ × Kind
  pub last : last_of (take depth branch) ≡ Some node
  pub up : upwards (take depth branch) ≡ node.0 ∷ upwards (take (depth - 1) branch)

pub level : (branch : List (ℕ × Kind)) (depth : ℕ) → 0 < depth → depth ≤ length branch → Level branch depth
level branch depth some le =
    let back : depth - 1 + 1 ≡ depth = omega arith in
    let found = last_some (take depth branch) (omega (arith, length-take depth branch)) in
    record {
      node = found.0;
      last = found.1;
      up = subst (λ (i : ℕ). upwards (take i branch) ≡ found.0.0 ∷ upwards (take (depth - 1) branch)) back (more branch (depth - 1) found.0 (omega arith) (subst (λ (i : ℕ). last_of (take i branch) ≡ Some found.0) (sym back) found.1));
    }

map_reverse : {A B : Type 0} (f : A → B) (xs : List A) → reverse (map f xs) ≡ map f (reverse xs)
map_reverse f [] = refl
map_reverse f (x ∷ xs) =
    reverse-append (f x ∷ []) (map f xs)
    ∙ ap (λ (ys : List _). ys ++ f x ∷ []) (map_reverse f xs)
    ∙ sym (map-append f (reverse xs) (x ∷ []))
    ∙ ap (map f) (sym (reverse-append (x ∷ []) xs))

-- what is left where as many are taken from the end of a list as stand at the front of its reverse
front_reversed : {A : Type 0} (up : List A) (k : ℕ) → k ≤ length up → take (length up - k) (reverse up) ≡ reverse (drop k up)
front_reversed up zero le = let len : length up - 0 ≡ length up = omega arith in rw len (take_all (length up) (reverse up) (omega (arith, length-reverse up)))
front_reversed [] (suc k) le = absurd (omega arith)
front_reversed (x ∷ up) (suc k) le =
    let len : length (x ∷ up) - suc k ≡ length up - k = omega arith in
    ap (λ (n : ℕ). take n (reverse (x ∷ up))) len
    ∙ ap (take (length up - k)) (reverse-append (x ∷ []) up)
    ∙ take-append-le (length up - k) (reverse up) (x ∷ []) (omega (arith, length-reverse up))
    ∙ front_reversed up k (omega arith)

-- up to the parent all nodes are closed
closed : (parent : ℕ) (up : List (ℕ × Kind)) → map (λ (n : ℕ × Kind). n.0) (drop (prefix_len (is_other parent) up) up) ≡ open_from parent (map (λ (n : ℕ × Kind). n.0) up)
closed parent [] = refl
closed parent (n ∷ up) = by (eqb n.0 parent) refl (closed parent up)
  where
    by : (t : Bool) → eqb n.0 parent ≡ t → map (λ (m : ℕ × Kind). m.0) (drop (prefix_len (is_other parent) up) up) ≡ open_from parent (map (λ (m : ℕ × Kind). m.0) up)
        → map (λ (m : ℕ × Kind). m.0) (drop (prefix_len (is_other parent) (n ∷ up)) (n ∷ up)) ≡ open_from parent (map (λ (m : ℕ × Kind). m.0) (n ∷ up))
    by true e further = rw e refl
    by false e further = let more : 1 + prefix_len (is_other parent) up ≡ suc (prefix_len (is_other parent) up) = omega arith in rw (e, more) further

-- the parent is open, with what stands above it
pub left_open : (branch : List (ℕ × Kind)) (parent n : ℕ) → n ≡ suffix_len (is_other parent) branch → upwards (take (length branch - n) branch) ≡ open_from parent (upwards branch)
left_open branch parent n is =
    let up : List (ℕ × Kind) = reverse branch in
    let k : ℕ = prefix_len (is_other parent) up in
    let left : take (length branch - n) branch ≡ reverse (drop k up) =
    ap (λ (m : ℕ). take (length branch - m) branch) is
    ∙ ap (λ (m : ℕ). take (m - k) branch) (sym (length-reverse branch))
    ∙ ap (take (length up - k)) (sym (reverse-reverse branch))
    ∙ front_reversed up k (prefix_len-le-length (is_other parent) up)
    in
    map_reverse (λ (m : ℕ × Kind). m.0) (take (length branch - n) branch)
    ∙ ap (λ (xs : List (ℕ × Kind)). map (λ (m : ℕ × Kind). m.0) (reverse xs)) left
    ∙ ap (map (λ (m : ℕ × Kind). m.0)) (reverse-reverse (drop k up))
    ∙ closed parent up
    ∙ ap (open_from parent) (sym (map_reverse (λ (m : ℕ × Kind). m.0) branch))
