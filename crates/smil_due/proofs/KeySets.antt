-- A sorted list of keys as a set, and the least key of a set.
use Rattle.std.proofs.Common.{◌≡◌, ◌≢◌, ◌∙◌, ap, sym, subst, refl, ℕ, Bool, true, false, List, [], ◌∷◌, length, ◌<◌, arith}
use mathlib.Core.Bool.{true≢false}
use Rattle.std.specs.Prelude.{cond, not, ◌&&◌, ◌||◌, if◌then◌else◌, Option, None, Some, fold, IsTrue, IsSome, IfSome}
use Rattle.std.specs.Option.{option_map}
use denote.Bor.{Bor}
use Rattle.std.specs.Ordering.{is_eq, is_gt, eq_by_cmp}
use Rattle.std.specs.List.{All, list_any}
use Rattle.std.proofs.lemmas.List.Elements.{All-head, All-tail}
use Rattle.std.specs.Cmp.{eq_by_cmp_equiv, tied_itself, Equal-is}
use Rattle.std.specs.FinSet as set
use Rattle.smil_model.specs.declared.happening.Key.{Key}
use Rattle.smil_due.specs.Order.{key_cmp, key_cmp_total}
use Rattle.smil_model.specs.happening.Keys.{comes_before, earlier_key, least_key}
use Rattle.smil_due.specs.Laws.{HasSerial, IsLeast}
use Rattle.smil_due.proofs.KeyOrder.{key_cmp_antisymmetric, irreflexive, asymmetric, before_others}

abbrev pub is_key : Key → Key → Bool
is_key = eq_by_cmp key_cmp

pub or_cond : (b c : Bool) → cond b true c ≡ (b || c)
or_cond true c = refl
or_cond false c = refl

pub and_cond : (b c : Bool) → cond b false c ≡ (not b && c)
and_cond true c = refl
and_cond false c = refl

-- what std says of the keys before and after a change of one key, said of their sets
pub inserted : (old new : List Key) (key : Key) → ((q : Key) → list_any (is_key q) new ≡ cond (is_key key q) true (list_any (is_key q) old)) → set.from_list {R = key_cmp} new ≡ set.insert (set.from_list old) key
inserted old new key updates =
    set.same_set key_cmp_total key_cmp_antisymmetric _ _ (λ q.
    set.contains-from_list key_cmp_total new q
    ∙ updates q
    ∙ or_cond (is_key key q) _
    ∙ (λ i. (eq_by_cmp_equiv key_cmp_total).symm key q i || sym (set.contains-from_list key_cmp_total old q) i)
    ∙ sym (set.contains-insert key_cmp_total _ key q))

pub removed : (old new : List Key) (key : Key) → ((q : Key) → list_any (is_key q) new ≡ cond (is_key key q) false (list_any (is_key q) old)) → set.from_list {R = key_cmp} new ≡ set.remove (set.from_list old) key
removed old new key updates =
    set.same_set key_cmp_total key_cmp_antisymmetric _ _ (λ q.
    set.contains-from_list key_cmp_total new q
    ∙ updates q
    ∙ and_cond (is_key key q) _
    ∙ (λ i. not ((eq_by_cmp_equiv key_cmp_total).symm key q i) && sym (set.contains-from_list key_cmp_total old q) i)
    ∙ sym (set.contains-remove key_cmp_total _ key q))

-- ---- the least key

or_true : (b : Bool) → (b || true) ≡ true
or_true true = refl
or_true false = refl

head_there : (y : Key) (ys : List Key) → list_any (is_key y) (y ∷ ys) ≡ true
head_there y ys = ap (λ o. is_eq o || list_any (is_key y) ys) (tied_itself key_cmp_total y)

tail_there : (q y : Key) (ys : List Key) → list_any (is_key q) ys ≡ true → list_any (is_key q) (y ∷ ys) ≡ true
tail_there q y ys there = ap (λ b. is_key q y || b) there ∙ or_true (is_key q y)

same_key : (q y : Key) → is_key q y ≡ true → q ≡ y
same_key q y e = key_cmp_antisymmetric q y ((Equal-is (key_cmp q y)).0 e)

apart : (q y : Key) → is_key q y ≡ false → q ≢ y
apart q y differ e = true≢false (sym (ap is_eq (tied_itself key_cmp_total q)) ∙ ap (λ z. is_key q z) e ∙ differ)

-- what all keys of a list have, each has that is in it
each_has : (P : Key → Type 0) (ks : List Key) → All P ks → (q : Key) → list_any (is_key q) ks ≡ true → P q
each_has P [] all q there = absurd (cc)
each_has P (y ∷ ys) all q there =
    elim (is_key q y) as (λ b. is_key q y ≡ b → (b || list_any (is_key q) ys) ≡ true → P q) [
      | true ↦ λ same _. subst P (sym (same_key q y same)) (All-head P y ys all)
      | false ↦ λ _ there. each_has P ys (All-tail P y ys all) q there
    ] refl there

-- a key that none comes before stays the least
least_stays : (k : Key) (ks : List Key) → ((q : Key) → list_any (is_key q) ks ≡ true → comes_before q k ≡ false) → fold earlier_key (Some k) ks ≡ Some k
least_stays k [] none = refl
least_stays k (y ∷ ys) none =
    ap (λ b. fold earlier_key (if b then Some y else Some k) ys) (none y (head_there y ys))
    ∙ least_stays k ys (λ q there. none q (tail_there q y ys there))

-- what was the least so far comes after it
abbrev IsAfter : Key → Option Key → Type 0
IsAfter k None = Unit {0}
IsAfter k (Some l) = comes_before k l ≡ true

taken : (k : Key) (sofar : Option Key) → IsAfter k sofar → earlier_key sofar k ≡ Some k
taken k None after = refl
taken k (Some l) after = ap (λ b. if b then Some k else Some l) after

still_after : (k y : Key) (sofar : Option Key) → IsAfter k sofar → comes_before k y ≡ true → IsAfter k (earlier_key sofar y)
still_after k y None after before = before
still_after k y (Some l) after before =
    elim (comes_before y l) as (λ b. IsAfter k (if b then Some y else Some l)) [ true ↦ before | false ↦ after ]

-- a key of the list that comes before each other one is found as the least
least_found : (k : Key) (sofar : Option Key) (ks : List Key) → IsAfter k sofar → list_any (is_key k) ks ≡ true → ((q : Key) → list_any (is_key q) ks ≡ true → k ≢ q → comes_before k q ≡ true) → fold earlier_key sofar ks ≡ Some k
least_found k sofar [] after there first = absurd (cc)
least_found k sofar (y ∷ ys) after there first =
    elim (is_key k y) as (λ b. is_key k y ≡ b → (b || list_any (is_key k) ys) ≡ true → fold earlier_key (earlier_key sofar y) ys ≡ Some k) [
      | true ↦ λ same _.
          ap (λ z. fold earlier_key (earlier_key sofar z) ys) (sym (same_key k y same))
          ∙ ap (λ l. fold earlier_key l ys) (taken k sofar after)
          ∙ least_stays k ys (λ q there. none_before q (first q (tail_there q y ys there)))
      | false ↦ λ differ there.
          least_found k (earlier_key sofar y) ys (still_after k y sofar after (first y (head_there y ys) (apart k y differ))) there (λ q there. first q (tail_there q y ys there))
    ] refl there
  where
    none_before : (q : Key) → (k ≢ q → comes_before k q ≡ true) → comes_before q k ≡ false
    none_before q first =
        elim (is_key k q) as (λ b. is_key k q ≡ b → comes_before q k ≡ false) [
          | true ↦ λ same. ap (λ z. comes_before z k) (sym (same_key k q same)) ∙ irreflexive k
          | false ↦ λ differ. asymmetric k q (first (apart k q differ))
        ] refl

pub there_from_contains : (ks : List Key) (q : Key) → list_any (is_key q) ks ≡ true → set.contains (set.from_list {R = key_cmp} ks) q ≡ true
there_from_contains ks q there = set.contains-from_list key_cmp_total ks q ∙ there

-- the least key of a list of one document is the least of its set
pub least_of_list : (serial_at : ℕ → ℕ) (ks : List Key) → All (HasSerial serial_at) ks → (k : Key) → IsLeast (set.from_list ks) k → least_key ks ≡ Some k
least_of_list serial_at ks all k least =
    let there : list_any (is_key k) ks ≡ true = sym (set.contains-from_list key_cmp_total ks k) ∙ least.member in
    least_found k None ks tt there (λ q q_there differ.
    before_others serial_at k q
    (each_has (HasSerial serial_at) ks all k there)
    (each_has (HasSerial serial_at) ks all q q_there)
    (least.least q (there_from_contains ks q q_there))
    differ)

not_empty : (y : Key) (ys : List Key) → set.from_list {R = key_cmp} (y ∷ ys) ≡ set.empty → ⊥
not_empty y ys e =
    true≢false (sym (there_from_contains (y ∷ ys) y (head_there y ys)) ∙ ap (λ s. set.contains s y) e ∙ set.contains-empty key_cmp y)

pub none_of_empty : (ks : List Key) → set.from_list {R = key_cmp} ks ≡ set.empty → least_key ks ≡ None
none_of_empty [] e = refl
none_of_empty (y ∷ ys) e = absurd (not_empty y ys e)

-- ---- what std says of the first of the keys that are stored, said of their set

abbrev pub first_key : Option (Bor Key) → Option Key
first_key first = option_map (λ (key : Bor Key). key.now) first

pub first_is_least : (stored : List Key) (first : Option (Bor Key)) → IfSome first (λ k. IsTrue (list_any (is_key k.now) stored)) → IfSome first (λ k. (q : Key) → IsTrue (list_any (is_key q) stored) → is_gt (key_cmp k.now q) ≡ false) → IfSome (first_key first) (IsLeast (set.from_list stored))
first_is_least stored None member least = tt
first_is_least stored (Some key) member least = record {
  member = there_from_contains stored key.now member;
  least = λ q there. least q (sym (set.contains-from_list key_cmp_total stored q) ∙ there);
}

pub no_first : (stored : List Key) (first : Option (Bor Key)) → (0 < length stored → IsSome first) → first_key first ≡ None → set.from_list {R = key_cmp} stored ≡ set.empty
no_first [] first some none = refl
no_first (y ∷ ys) None some none = absurd (true≢false (sym (some (omega arith))))
no_first (y ∷ ys) (Some key) some none = absurd (cc)

pub first_of_none : (stored : List Key) (first : Option (Bor Key)) → (IsSome first → 0 < length stored) → set.from_list {R = key_cmp} stored ≡ set.empty → first_key first ≡ None
first_of_none stored None some none = refl
first_of_none [] (Some key) some none = absurd (omega (arith, some refl))
first_of_none (y ∷ ys) (Some key) some none = absurd (not_empty y ys none)

-- the least of a set is the least of each list of one document with these keys
pub least_by_model : (keys : set.FinSet key_cmp) (least : Option Key) → (least ≡ None → keys ≡ set.empty) → IfSome least (IsLeast keys) → (serial_at : ℕ → ℕ) (ks : List Key) → All (HasSerial serial_at) ks → keys ≡ set.from_list ks → least ≡ least_key ks
least_by_model keys None none least serial_at ks all same = sym (none_of_empty ks (sym same ∙ none refl))
least_by_model keys (Some k) none least serial_at ks all same = sym (least_of_list serial_at ks all k (subst (λ s. IsLeast s k) same least))
