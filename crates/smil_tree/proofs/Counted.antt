-- The places of nodes by their serials, as one comes in, a part goes, and they are counted anew.
use Rattle.std.proofs.Common.{◌≡◌, refl, sym, ◌∙◌, ap, ℕ, zero, suc, ◌+◌, ◌<◌, ◌≤◌, List, [], ◌∷◌, ◌++◌, Option, Some, None, Bool, true, false, cond, length, take, drop, insert, get_or, arith, ◌⊎◌, inl, inr}
use Rattle.std.specs.Prelude.{◌==◌, ◌||◌, ◌-◌, option_map, is_some, IsSome, slice_get, slice_range, unwrap_or}
use Rattle.std.specs.FinMap.{FinMap, get as place_of}
use Rattle.std.specs.List.{list_any}
use Rattle.std.specs.Ordering.{nat_cmp}
use Rattle.std.proofs.lemmas.Bool.{cases_lt, eq-eqb, eqb-true, or_from, or_parts, or_right}
use Rattle.std.proofs.lemmas.List.{take-append-drop}
use Rattle.std.proofs.lemmas.List.Folds.{list_any-append, list_any_more}
use Rattle.std.proofs.lemmas.Option.{slice_get-get_or, slice_get_within}
use Rattle.smil_model.specs.declared.document.Node.{Node}
use Rattle.smil_model.specs.document.Valid.{IsDistinct}
use Rattle.smil_model.proofs.FirstPlaces.{position_cons}
use Rattle.smil_laws.proofs.LineageParents.{swap_eqb}
use Rattle.smil_tree.proofs.KinLists.{parts}
use Rattle.smil_tree.specs.Places.{IsCounted, IsIndexed, cut, place_among}

some_same : (a b : ℕ) → Some a ≡ Some b → a ≡ b
some_same a b is = ap (λ o. unwrap_or o a) is

-- ---- what passes among fewer, and among one more

module _ {A : Type 0} (t : A → Bool) where
  pub any_drop : (xs : List A) (q : ℕ) → list_any t xs ≡ false → list_any t (drop q xs) ≡ false
  any_drop xs zero all = all
  any_drop [] (suc q) all = refl
  any_drop (x ∷ xs) (suc q) all = any_drop xs q ((or_parts (t x) (list_any t xs) all).1)

  pub any_take : (xs : List A) (q : ℕ) → list_any t xs ≡ false → list_any t (take q xs) ≡ false
  any_take xs zero all = refl
  any_take [] (suc q) all = refl
  any_take (x ∷ xs) (suc q) all = let parts = or_parts (t x) (list_any t xs) all in or_from _ _ parts.0 (any_take xs q parts.1)

  pub any_cut : (xs : List A) (p q : ℕ) → p ≤ q → list_any t xs ≡ false → list_any t (cut p q xs) ≡ false
  any_cut xs zero q le all = any_drop xs q all
  any_cut xs (suc p) zero le all = absurd (omega arith)
  any_cut [] (suc p) (suc q) le all = refl
  any_cut (x ∷ xs) (suc p) (suc q) le all = let parts = or_parts (t x) (list_any t xs) all in or_from _ _ parts.0 (any_cut xs p q (omega arith) parts.1)

  pub any_inserted : (xs : List A) (p : ℕ) (x : A) → list_any t (insert xs p x) ≡ (t x || list_any t xs)
  any_inserted [] zero x = refl
  any_inserted [] (suc p) x = refl
  any_inserted (y ∷ xs) zero x = refl
  any_inserted (y ∷ xs) (suc p) x = ap (λ b. t y || b) (any_inserted xs p x) ∙ swap (t y) (t x)
    where
      swap : (a b : Bool) → (a || (b || list_any t xs)) ≡ (b || (a || list_any t xs))
      swap true true = refl
      swap true false = refl
      swap false b = refl

  -- a part and the rest
  pub any_parts : (xs : List A) (p q : ℕ) → p ≤ q → list_any t xs ≡ (list_any t (slice_range xs p q) || list_any t (cut p q xs))
  any_parts xs p q le =
      ap (list_any t) (sym (parts p q xs le)) ∙ list_any-append t (take p xs) (slice_range xs p q ++ drop q xs)
      ∙ ap (λ b. list_any t (take p xs) || b) (list_any-append t (slice_range xs p q) (drop q xs))
      ∙ swap (list_any t (take p xs)) (list_any t (slice_range xs p q)) (list_any t (drop q xs))
      ∙ ap (λ b. list_any t (slice_range xs p q) || b) (sym (list_any-append t (take p xs) (drop q xs)))
    where
      swap : (a b c : Bool) → (a || (b || c)) ≡ (b || (a || c))
      swap true true c = refl
      swap true false c = refl
      swap false b c = refl

  pub any_at : (xs : List A) (k : ℕ) (x : A) → slice_get xs k ≡ Some x → t x ≡ true → list_any t xs ≡ true
  any_at [] k x at pass = let never : None ≡ Some x = at in cc
  any_at (y ∷ xs) zero x at pass = let one : y ≡ x = cc in ap (λ b. b || list_any t xs) (ap t one ∙ pass)
  any_at (y ∷ xs) (suc k) x at pass = or_right (t y) _ (any_at xs k x at pass)

  pub none_at : (xs : List A) (k : ℕ) (x : A) → slice_get xs k ≡ Some x → list_any t xs ≡ false → t x ≡ false
  none_at xs k x at none = by (t x) refl
    where
      by : (b : Bool) → t x ≡ b → b ≡ false
      by false is = refl
      by true is = let never : true ≡ false = sym (any_at xs k x at is) ∙ none in cc

-- ---- what stands before a place

pub front_inserted : {A : Type 0} (xs : List A) (p k : ℕ) (x : A) → k < p → p ≤ length xs → slice_get (insert xs p x) k ≡ slice_get xs k
front_inserted xs zero k x less within = absurd (omega (arith, less))
front_inserted [] (suc p) k x less within = absurd (omega (arith, within))
front_inserted (y ∷ xs) (suc p) zero x less within = refl
front_inserted (y ∷ xs) (suc p) (suc k) x less within = front_inserted xs p k x (omega (arith, less)) (omega (arith, within))

pub front_cut : {A : Type 0} (xs : List A) (p q k : ℕ) → k < p → p ≤ q → p ≤ length xs → slice_get (cut p q xs) k ≡ slice_get xs k
front_cut xs zero q k less le within = absurd (omega (arith, less))
front_cut xs (suc p) zero k less le within = absurd (omega (arith, le))
front_cut [] (suc p) (suc q) k less le within = absurd (omega (arith, within))
front_cut (y ∷ xs) (suc p) (suc q) zero less le within = refl
front_cut (y ∷ xs) (suc p) (suc q) (suc k) less le within = front_cut xs p q k (omega (arith, less)) (omega (arith, le)) (omega (arith, within))

pub longer : {A : Type 0} (xs ys : List A) (x : A) → length (xs ++ x ∷ ys) ≡ suc (length (xs ++ ys))
longer [] ys x = refl
longer (y ∷ xs) ys x = ap suc (longer xs ys x)

pub long_inserted : {A : Type 0} (xs : List A) (i : ℕ) (x : A) → length (insert xs i x) ≡ suc (length xs)
long_inserted xs i x = longer (take i xs) (drop i xs) x ∙ ap (λ ys. suc (length ys)) (take-append-drop i xs)

pub long_cut : {A : Type 0} (xs : List A) (p q : ℕ) → p ≤ q → length (cut p q xs) ≤ length xs
long_cut xs zero q le = short xs q
  where
    short : {A : Type 0} (xs : List A) (q : ℕ) → length (drop q xs) ≤ length xs
    short xs zero = omega arith
    short [] (suc q) = omega arith
    short (x ∷ xs) (suc q) = omega (arith, short xs q)
long_cut xs (suc p) zero le = absurd (omega (arith, le))
long_cut [] (suc p) (suc q) le = omega arith
long_cut (x ∷ xs) (suc p) (suc q) le = omega (arith, long_cut xs p q (omega (arith, le)))

-- ---- nodes with different serials

pub apart_inserted : (xs : List Node) (p : ℕ) (x : Node) → list_any (λ (y : Node). y.serial == x.serial) xs ≡ false → IsDistinct xs → IsDistinct (insert xs p x)
apart_inserted [] zero x free apart = (refl, tt)
apart_inserted [] (suc p) x free apart = (refl, tt)
apart_inserted (y ∷ xs) zero x free apart = (free, apart)
apart_inserted (y ∷ xs) (suc p) x free apart =
    let parts = or_parts (y.serial == x.serial) (list_any (λ (z : Node). z.serial == x.serial) xs) free in (
      any_inserted (λ (z : Node). z.serial == y.serial) xs p x ∙ or_from _ _ (swap_eqb y.serial x.serial parts.0) apart.0,
      apart_inserted xs p x parts.1 apart.1,
    )

apart_drop : (xs : List Node) (q : ℕ) → IsDistinct xs → IsDistinct (drop q xs)
apart_drop xs zero apart = apart
apart_drop [] (suc q) apart = tt
apart_drop (x ∷ xs) (suc q) apart = apart_drop xs q apart.1

pub apart_cut : (xs : List Node) (p q : ℕ) → p ≤ q → IsDistinct xs → IsDistinct (cut p q xs)
apart_cut xs zero q le apart = apart_drop xs q apart
apart_cut xs (suc p) zero le apart = absurd (omega (arith, le))
apart_cut [] (suc p) (suc q) le apart = tt
apart_cut (x ∷ xs) (suc p) (suc q) le apart =
    (any_cut (λ (y : Node). y.serial == x.serial) xs p q (omega (arith, le)) apart.0, apart_cut xs p q (omega (arith, le)) apart.1)

-- the serial of a node is that of no other
front_apart : (xs : List Node) (q v : ℕ) → IsDistinct xs → list_any (λ (x : Node). x.serial == v) (drop q xs) ≡ true → list_any (λ (x : Node). x.serial == v) (take q xs) ≡ false
front_apart xs zero v apart among = refl
front_apart [] (suc q) v apart among = refl
front_apart (x ∷ xs) (suc q) v apart among = or_from _ _ (by_test (x.serial == v) refl) (front_apart xs q v apart.1 among)
  where
    by_test : (t : Bool) → (x.serial == v) ≡ t → t ≡ false
    by_test false is = refl
    by_test true is =
        let none : list_any (λ (y : Node). y.serial == v) xs ≡ false = ap (λ k. list_any (λ (y : Node). y.serial == k) xs) (sym (eqb-true x.serial v is)) ∙ apart.0 in
        let never : true ≡ false = sym among ∙ any_drop (λ (y : Node). y.serial == v) xs q none in
        cc

-- no serial of a part is one of those that stay
pub apart_parts : (xs : List Node) (p q v : ℕ) → p ≤ q → IsDistinct xs → list_any (λ (x : Node). x.serial == v) (cut p q xs) ≡ true → list_any (λ (x : Node). x.serial == v) (slice_range xs p q) ≡ false
apart_parts xs zero q v le apart among =
    let whole : q - 0 ≡ q = omega arith in
    ap (λ n. list_any (λ (x : Node). x.serial == v) (take n xs)) whole ∙ front_apart xs q v apart among
apart_parts xs (suc p) zero v le apart among = absurd (omega (arith, le))
apart_parts [] (suc p) (suc q) v le apart among = cc
apart_parts (x ∷ xs) (suc p) (suc q) v le apart among =
    let less : suc q - suc p ≡ q - p = omega arith in
    ap (λ n. list_any (λ (y : Node). y.serial == v) (take n (drop p xs))) less
    ∙ by_test (x.serial == v) refl among (apart_parts xs p q v (omega (arith, le)) apart.1)
  where
    by_test : (t : Bool) → (x.serial == v) ≡ t → (t || list_any (λ (y : Node). y.serial == v) (cut p q xs)) ≡ true → (list_any (λ (y : Node). y.serial == v) (cut p q xs) ≡ true → list_any (λ (y : Node). y.serial == v) (slice_range xs p q) ≡ false) → list_any (λ (y : Node). y.serial == v) (slice_range xs p q) ≡ false
    by_test false is among rest = rest among
    by_test true is among rest =
        let none : list_any (λ (y : Node). y.serial == v) xs ≡ false = ap (λ k. list_any (λ (y : Node). y.serial == k) xs) (sym (eqb-true x.serial v is)) ∙ apart.0 in
        any_take (λ (y : Node). y.serial == v) (drop p xs) (q - p) (any_drop (λ (y : Node). y.serial == v) xs p none)

-- ---- the place of a serial

place_cons : (x : Node) (xs : List Node) (s : ℕ) → place_among (x ∷ xs) s ≡ cond (x.serial == s) (Some 0) (option_map suc (place_among xs s))
place_cons x xs s = position_cons (λ (y : Node). y.serial == s) x xs

pub some_place : (xs : List Node) (s : ℕ) → is_some (place_among xs s) ≡ list_any (λ (x : Node). x.serial == s) xs
some_place [] s = refl
some_place (x ∷ xs) s = ap is_some (place_cons x xs s) ∙ by (x.serial == s) (place_among xs s) (some_place xs s)
  where
    by : (t : Bool) (o : Option ℕ) → is_some o ≡ list_any (λ (y : Node). y.serial == s) xs → is_some (cond t (Some 0) (option_map suc o)) ≡ (t || list_any (λ (y : Node). y.serial == s) xs)
    by true o rest = refl
    by false None rest = rest
    by false (Some k) rest = rest

pub apart_place : (xs : List Node) (k : ℕ) (x : Node) → IsDistinct xs → slice_get xs k ≡ Some x → place_among xs x.serial ≡ Some k
apart_place [] k x apart at = let never : None ≡ Some x = at in cc
apart_place (y ∷ xs) zero x apart at =
    let one : y ≡ x = cc in
    place_cons y xs x.serial ∙ ap (λ t. cond t (Some 0) (option_map suc (place_among xs x.serial))) (eq-eqb y.serial x.serial (ap (λ (n : Node). n.serial) one))
apart_place (y ∷ xs) (suc k) x apart at =
    place_cons y xs x.serial
    ∙ ap (λ t. cond t (Some 0) (option_map suc (place_among xs x.serial))) (swap_eqb x.serial y.serial (none_at (λ (z : Node). z.serial == y.serial) xs k x at apart.0))
    ∙ ap (option_map suc) (apart_place xs k x apart.1 at)

-- the node at the place of a serial
pub record At (xs : List Node) (s k : ℕ) : Type 0 where
  pub node : Node
  pub at : slice_get xs k ≡ Some node
  pub its : node.serial ≡ s

pub node_at_place : (xs : List Node) (s k : ℕ) → place_among xs s ≡ Some k → At xs s k
node_at_place [] s k is = let never : None ≡ Some k = is in cc
node_at_place (x ∷ xs) s k is = by (x.serial == s) refl (place_among xs s) refl k (sym (place_cons x xs s) ∙ is) (λ k there. node_at_place xs s k there)
  where
    by : (t : Bool) → (x.serial == s) ≡ t → (o : Option ℕ) → place_among xs s ≡ o → (k : ℕ) → cond t (Some 0) (option_map suc o) ≡ Some k → ((k : ℕ) → place_among xs s ≡ Some k → At xs s k) → At (x ∷ xs) s k
    by true same o there zero is later = record { node = x; at = refl; its = eqb-true x.serial s same }
    by true same o there (suc k) is later = absurd (omega (arith, some_same 0 (suc k) is))
    by false differ None there k is later = let never : None ≡ Some k = is in cc
    by false differ (Some r) there zero is later = absurd (omega (arith, some_same (suc r) 0 is))
    by false differ (Some r) there (suc k) is later =
        let rest = later k (there ∙ ap Some (omega (arith, some_same (suc r) (suc k) is))) in
        record { node = rest.node; at = rest.at; its = rest.its }

-- ---- the table of places

module _ (xs : List Node) (old new : FinMap nat_cmp ℕ) where
  -- a node with a new serial
  pub counted_inserted : (p : ℕ) (x : Node) → IsIndexed xs old → list_any (λ (y : Node). y.serial == x.serial) xs ≡ false → p ≤ length xs → ((s : ℕ) → place_of new s ≡ cond (x.serial == s) (Some p) (place_of old s)) → IsCounted (insert xs p x) new p
  counted_inserted p x indexed free within put = record {
    right = λ k y less at.
        let was : slice_get xs k ≡ Some y = sym (front_inserted xs p k x less within) ∙ at in
        put y.serial
        ∙ ap (λ t. cond t (Some p) (place_of old y.serial)) (swap_eqb y.serial x.serial (none_at (λ (z : Node). z.serial == x.serial) xs k y was free))
        ∙ indexed.placed y.serial
        ∙ apart_place xs k y indexed.apart was;
    known = λ s.
        ap is_some (put s) ∙ by (x.serial == s) (place_of old s) (ap is_some (indexed.placed s) ∙ some_place xs s)
        ∙ sym (any_inserted (λ (y : Node). y.serial == s) xs p x);
  }
    where
      by : {b : Bool} (t : Bool) (o : Option ℕ) → is_some o ≡ b → is_some (cond t (Some p) o) ≡ (t || b)
      by true o is = refl
      by false o is = is

  -- a part taken out
  pub counted_cut : (p q : ℕ) → IsIndexed xs old → p ≤ q → p ≤ length xs → ((s : ℕ) → place_of new s ≡ cond (list_any (λ (y : Node). y.serial == s) (slice_range xs p q)) None (place_of old s)) → IsCounted (cut p q xs) new p
  counted_cut p q indexed le within gone = record {
    right = λ k y less at.
        let was : slice_get xs k ≡ Some y = sym (front_cut xs p q k less le within) ∙ at in
        let stays : list_any (λ (z : Node). z.serial == y.serial) (cut p q xs) ≡ true = any_at (λ (z : Node). z.serial == y.serial) (cut p q xs) k y at (eq-eqb y.serial y.serial refl) in
        gone y.serial
        ∙ ap (λ t. cond t None (place_of old y.serial)) (apart_parts xs p q y.serial le indexed.apart stays)
        ∙ indexed.placed y.serial
        ∙ apart_place xs k y indexed.apart was;
    known = λ s.
        ap is_some (gone s)
        ∙ by s (list_any (λ (y : Node). y.serial == s) (slice_range xs p q)) refl (list_any (λ (y : Node). y.serial == s) (cut p q xs)) refl
        (ap is_some (indexed.placed s) ∙ some_place xs s ∙ any_parts (λ (y : Node). y.serial == s) xs p q le);
  }
    where
      by : (s : ℕ) (t : Bool) → list_any (λ (y : Node). y.serial == s) (slice_range xs p q) ≡ t → (u : Bool) → list_any (λ (y : Node). y.serial == s) (cut p q xs) ≡ u → is_some (place_of old s) ≡ (list_any (λ (y : Node). y.serial == s) (slice_range xs p q) || list_any (λ (y : Node). y.serial == s) (cut p q xs)) → is_some (cond t None (place_of old s)) ≡ u
      by s true among true stays is = let never : true ≡ false = sym among ∙ apart_parts xs p q s le indexed.apart stays in cc
      by s true among false stays is = refl
      by s false among u stays is = is ∙ ap (λ t. t || list_any (λ (y : Node). y.serial == s) (cut p q xs)) among ∙ stays

  -- the next node counted
  pub counted_more : (k : ℕ) (x : Node) → IsDistinct xs → IsCounted xs old k → slice_get xs k ≡ Some x → ((s : ℕ) → place_of new s ≡ cond (x.serial == s) (Some k) (place_of old s)) → IsCounted xs new (k + 1)
  counted_more k x apart counted here put = record {
    right = λ j y less at. put y.serial ∙ by_place j y less at (x.serial == y.serial) refl;
    known = λ s. ap is_some (put s) ∙ by_serial s (x.serial == s) refl;
  }
    where
      by_place : (j : ℕ) (y : Node) → j < k + 1 → slice_get xs j ≡ Some y → (t : Bool) → (x.serial == y.serial) ≡ t → cond t (Some k) (place_of old y.serial) ≡ Some j
      by_place j y less at true same = sym (apart_place xs k x apart here) ∙ ap (place_among xs) (eqb-true x.serial y.serial same) ∙ apart_place xs j y apart at
      by_place j y less at false differ = by_order (cases_lt j k)
        where
          by_order : (j < k) ⊎ (k ≤ j) → place_of old y.serial ≡ Some j
          by_order (inl before) = counted.right j y before at
          by_order (inr from) =
              let one : j ≡ k = omega (arith, less, from) in
              let both : Some y ≡ Some x = sym at ∙ ap (slice_get xs) one ∙ here in
              let same : y ≡ x = cc in
              let never : false ≡ true = sym differ ∙ eq-eqb x.serial y.serial (ap (λ (n : Node). n.serial) (sym same)) in
              cc

      by_serial : (s : ℕ) (t : Bool) → (x.serial == s) ≡ t → is_some (cond t (Some k) (place_of old s)) ≡ list_any (λ (y : Node). y.serial == s) xs
      by_serial s true same = sym (any_at (λ (y : Node). y.serial == s) xs k x here same)
      by_serial s false differ = counted.known s

-- a node that is counted next has a place already
pub counted_has : (xs : List Node) (places : FinMap nat_cmp ℕ) (k : ℕ) (d : Node) → IsCounted xs places k → k < length xs → IsSome (place_of places (get_or xs k d).serial)
counted_has xs places k d counted less =
    let x = get_or xs k d in
    counted.known x.serial ∙ any_at (λ (y : Node). y.serial == x.serial) xs k x (slice_get-get_or xs k d less) (eq-eqb x.serial x.serial refl)

pub counted_all : (xs : List Node) (places : FinMap nat_cmp ℕ) (k : ℕ) → IsCounted xs places k → length xs ≤ k → (s : ℕ) → place_of places s ≡ place_among xs s
counted_all xs places k counted over s = by (place_among xs s) refl
  where
    none : (o : Option ℕ) → is_some o ≡ false → o ≡ None
    none None is = refl
    none (Some j) is = let never : true ≡ false = is in cc

    by : (o : Option ℕ) → place_among xs s ≡ o → place_of places s ≡ o
    by None is = none (place_of places s) (counted.known s ∙ sym (some_place xs s) ∙ ap is_some is)
    by (Some j) is =
        let found = node_at_place xs s j is in
        ap (place_of places) (sym found.its)
        ∙ counted.right j found.node (omega (arith, over, slice_get_within xs j found.node found.at)) found.at

-- ---- places forgotten one after another

pub forgotten_more : (xs : List Node) (i s : ℕ) (x : Node) (first old new : Option ℕ) → i < length xs → x ≡ get_or xs i x → new ≡ cond (x.serial == s) None old → old ≡ cond (list_any (λ (y : Node). y.serial == s) (take i xs)) None first → new ≡ cond (list_any (λ (y : Node). y.serial == s) (take (i + 1) xs)) None first
forgotten_more xs i s x first old new less is forgot was =
    forgot ∙ ap (cond (x.serial == s) None) was
    ∙ ap (λ (y : Node). cond (y.serial == s) None (cond (list_any (λ (z : Node). z.serial == s) (take i xs)) None first)) is
    ∙ by ((get_or xs i x).serial == s) (list_any (λ (y : Node). y.serial == s) (take i xs))
    ∙ ap (λ t. cond t None first) (sym (list_any_more (λ (y : Node). y.serial == s) xs i x less))
  where
    by : (t u : Bool) → cond t None (cond u None first) ≡ cond (u || t) None first
    by true true = refl
    by true false = refl
    by false true = refl
    by false false = refl
