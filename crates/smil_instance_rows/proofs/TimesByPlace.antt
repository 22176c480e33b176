-- Instance times in the order of their places.
use Rattle.std.proofs.Common.{◌≡◌, sym, refl, subst, ◌∙◌, ap, ℕ, suc, ◌≤◌, ◌<◌, List, [], ◌∷◌, ◌++◌, length, Bool, true, false, Option, Some, None, arith}
use Rattle.std.proofs.lemmas.List.{same_from_push, length-append, get_or_append_left}
use Rattle.std.proofs.lemmas.Option.{get_or_from_slice_get, slice_get-get_or}
use Rattle.std.specs.Option.{option_to_list}
use Rattle.std.specs.Prelude.{◌-◌, ◌+◌, cond, get_or, drop, nat_le, nat_lt, slice_get, IfNone}
use Rattle.smil_model.specs.declared.times.Time.{Time}
use Rattle.smil_instance_rows.specs.declared.item_times.InstanceTime.{InstanceTime}
use Rattle.smil_instance_rows.specs.Rows.{before_place, from_place}
use Rattle.smil_model.specs.Rising.{IsOrder, poured}
use Rattle.smil_instance_rows.specs.Values.{values_of, with_value, without_value}
use Rattle.smil_instance_rows.specs.Places.{IsInOrder, last_alone, Replaces, IsUndone}
use Rattle.smil_model.proofs.RisingLists.{taken_put, default_free}
use Rattle.smil_instance_rows.proofs.MergedValues.{first_value, last_value}

from_all : (place : ℕ) (ks : List InstanceTime) → ((j : ℕ) (d : InstanceTime) → j < length ks → place ≤ (get_or ks j d).place) → from_place place ks ≡ ks
from_all place [] all = refl
from_all place (k ∷ ks) all =
    let here : place ≤ k.place = all 0 k (omega arith) in
    let yes : nat_le place k.place ≡ true = grind (arith, here) in
    ap (λ t. cond t (k ∷ from_place place ks) (from_place place ks)) yes
    ∙ ap (λ rest. k ∷ rest) (from_all place ks (λ j d inside. all (suc j) d (omega (arith, inside))))

-- nothing is taken out where the first stays
from_front : (place : ℕ) (ks : List InstanceTime) (first : InstanceTime) → IsInOrder ks → first ≡ get_or ks 0 first → place ≤ first.place → from_place place ks ≡ ks
from_front place ks first order is_first late =
    from_all place ks (λ j d inside. let up : (get_or ks 0 first).place ≤ (get_or ks j first).place = order 0 j first (omega arith) inside in let one : first.place ≡ (get_or ks 0 first).place = ap (λ (k : InstanceTime). k.place) is_first in let same : (get_or ks j first).place ≡ (get_or ks j d).place = ap (λ (k : InstanceTime). k.place) (default_free ks j first d inside) in omega (arith, up, one, late, same))

pub from_first : (place : ℕ) (ks : List InstanceTime) (first : InstanceTime) → IsInOrder ks → slice_get ks 0 ≡ Some first → place ≤ first.place → from_place place ks ≡ ks
from_first place ks first order is late = from_front place ks first order (sym (get_or_from_slice_get ks 0 first first is)) late

rest_in_order : (ks : List InstanceTime) → IsInOrder ks → IsInOrder (drop 1 ks)
rest_in_order [] order = order
rest_in_order (k ∷ ks) order = λ i j d le inside. order (suc i) (suc j) d (omega (arith, le)) (omega (arith, inside))

-- ---- the ends of a list

impossible : {A G : Type 0} (o : Option A) (x : A) → o ≡ Some x → o ≡ None → G
impossible o x some none = cc

pub empty_front : (ks : List InstanceTime) → slice_get ks 0 ≡ None → ks ≡ []
empty_front [] is = refl
empty_front (k ∷ ks) is = impossible (slice_get (k ∷ ks) 0) (get_or (k ∷ ks) 0 k) (slice_get-get_or (k ∷ ks) 0 k (omega arith)) is

pub empty_back : (ks : List InstanceTime) → slice_get ks (length ks - 1) ≡ None → ks ≡ []
empty_back [] is = refl
empty_back (k ∷ ks) is =
    let n = length (k ∷ ks) - 1 in
    impossible (slice_get (k ∷ ks) n) (get_or (k ∷ ks) n k) (slice_get-get_or (k ∷ ks) n k (omega arith)) is

-- where none is taken from the end there is none
pub none_at_end : (taken : Option InstanceTime) (ks : List InstanceTime) → taken ≡ slice_get ks (length ks - 1) → IfNone taken (ks ≡ [])
none_at_end None ks is = empty_back ks (sym is)
none_at_end (Some k) ks is = tt

-- where there are several, one is taken from the front
pub some_in_front : (G : Type 0) (taken : Option InstanceTime) (ks : List InstanceTime) → taken ≡ slice_get ks 0 → 1 < length ks → IfNone taken G
some_in_front G None ks is more =
    let none : 1 < 0 = subst (λ (xs : List InstanceTime). 1 < length xs) (empty_front ks (sym is)) more in
    absurd (omega (arith, none))
some_in_front G (Some k) ks is more = tt

-- what is left in order behind the first, where there is one
pub rest_of_front : (ks rest : List InstanceTime) (first : Option InstanceTime) → ks ≡ option_to_list first ++ rest → IsInOrder ks → IsInOrder rest
rest_of_front ks rest None is order = subst IsInOrder is order
rest_of_front ks rest (Some first) is order = rest_in_order (first ∷ rest) (subst IsInOrder is order)

-- what is left in order before the last, where there is one
pub rest_of_back : (ks rest : List InstanceTime) (last : Option InstanceTime) → ks ≡ rest ++ option_to_list last → IsInOrder ks → IsInOrder rest
rest_of_back ks rest last is order = λ i j d le inside.
    let own = option_to_list last in
    let whole : IsInOrder (rest ++ own) = subst IsInOrder is order in
    let long : length (rest ++ own) ≡ length rest + length own = length-append rest own in
    let at : (get_or (rest ++ own) i d).place ≤ (get_or (rest ++ own) j d).place = whole i j d le (omega (arith, inside, long)) in
    let one : (get_or (rest ++ own) i d).place ≡ (get_or rest i d).place = ap (λ (k : InstanceTime). k.place) (get_or_append_left rest own d i (omega (arith, le, inside))) in
    let other : (get_or (rest ++ own) j d).place ≡ (get_or rest j d).place = ap (λ (k : InstanceTime). k.place) (get_or_append_left rest own d j inside) in
    omega (arith, at, one, other)

-- the first taken out
pub cut_first : (place : ℕ) (first : InstanceTime) (ks : List InstanceTime) → first.place < place → from_place place (first ∷ ks) ≡ from_place place ks
cut_first place first ks early =
    let no : nat_le place first.place ≡ false = grind (arith, early) in
    ap (λ t. cond t (first ∷ from_place place ks) (from_place place ks)) no

-- ---- before a place

before_all : (place : ℕ) (ks : List InstanceTime) → ((j : ℕ) (d : InstanceTime) → j < length ks → (get_or ks j d).place < place) → before_place place ks ≡ ks
before_all place [] all = refl
before_all place (k ∷ ks) all =
    let here : k.place < place = all 0 k (omega arith) in
    let yes : nat_lt k.place place ≡ true = grind (arith, here) in
    ap (λ t. cond t (k ∷ before_place place ks) (before_place place ks)) yes
    ∙ ap (λ rest. k ∷ rest) (before_all place ks (λ j d inside. all (suc j) d (omega (arith, inside))))

-- nothing is taken out where the last stays
before_back : (place : ℕ) (ks : List InstanceTime) (last : InstanceTime) → IsInOrder ks → last ≡ get_or ks (length ks - 1) last → last.place < place → before_place place ks ≡ ks
before_back place ks last order is_last early =
    before_all place ks (λ j d inside. let up : (get_or ks j last).place ≤ (get_or ks (length ks - 1) last).place = order j (length ks - 1) last (omega (arith, inside)) (omega (arith, inside)) in let one : last.place ≡ (get_or ks (length ks - 1) last).place = ap (λ (k : InstanceTime). k.place) is_last in let same : (get_or ks j last).place ≡ (get_or ks j d).place = ap (λ (k : InstanceTime). k.place) (default_free ks j last d inside) in omega (arith, up, one, early, same))

pub before_last : (place : ℕ) (ks : List InstanceTime) (last : InstanceTime) → IsInOrder ks → slice_get ks (length ks - 1) ≡ Some last → last.place < place → before_place place ks ≡ ks
before_last place ks last order is early = before_back place ks last order (sym (get_or_from_slice_get ks (length ks - 1) last last is)) early

-- the last taken out
pub before_push : (place : ℕ) (ks : List InstanceTime) (last : InstanceTime) → place ≤ last.place → before_place place (ks ++ last ∷ []) ≡ before_place place ks
before_push place [] last late =
    let no : nat_lt last.place place ≡ false = grind (arith, late) in
    ap (λ t. cond t (last ∷ []) []) no
before_push place (k ∷ ks) last late =
    ap (λ rest. cond (nat_lt k.place place) (k ∷ rest) rest) (before_push place ks last late)

-- ---- the last alone

pub last_of_more : (first : InstanceTime) (ks : List InstanceTime) → 0 < length ks → last_alone (first ∷ ks) ≡ last_alone ks
last_of_more first [] some = absurd (omega (arith, some))
last_of_more first (k ∷ ks) some = refl

pub last_of_few : (ks : List InstanceTime) → length ks ≤ 1 → ks ≡ last_alone ks
last_of_few [] few = refl
last_of_few (k ∷ []) few = refl
last_of_few (k ∷ l ∷ ls) few = absurd (omega (arith, few))

pub last_of_pushed : (ks : List InstanceTime) (last : InstanceTime) → last_alone (ks ++ last ∷ []) ≡ last ∷ []
last_of_pushed [] last = refl
last_of_pushed (k ∷ []) last = refl
last_of_pushed (k ∷ l ∷ ls) last = last_of_pushed (l ∷ ls) last

-- ---- what stands for the values

module _ {A : Type 0} (le : A → A → Bool) (order : IsOrder le) (choose : Time → Option A) where
  without_with : (o : Option A) (xs : List A) → without_value le o (with_value le o xs) ≡ xs
  without_with None xs = refl
  without_with (Some x) xs = taken_put le order x xs

  -- the first taken out, with its value
  pub replaces_rest : (ks : List InstanceTime) (k : InstanceTime) (ls : List InstanceTime) (old new : List A) → Replaces le choose ks (k ∷ ls) old new → Replaces le choose ks ls old (without_value le (choose k.time) new)
  replaces_rest ks k ls old new so = λ others same.
      ap (without_value le (choose k.time)) (so others same ∙ first_value le order choose (choose k.time) (values_of choose ls) others)
      ∙ without_with (choose k.time) (poured le (values_of choose ls) others)

  -- the last taken out, with its value, where others went before
  pub replaces_first : (ks ls : List InstanceTime) (last : InstanceTime) (old new : List A) → Replaces le choose ks (ls ++ last ∷ []) old new → Replaces le choose ks ls old (without_value le (choose last.time) new)
  replaces_first ks ls last old new so = λ others same.
      ap (without_value le (choose last.time)) (so others same ∙ last_value le order choose ls last others)
      ∙ without_with (choose last.time) (poured le (values_of choose ls) others)

  -- the last taken out, with its value
  pub undone_last : (kept kept' : List InstanceTime) (own : InstanceTime) (old : List A) → kept ≡ kept' ++ own ∷ [] → IsUndone le choose kept kept' old (without_value le (choose own.time) old)
  undone_last kept kept' own old was = λ first last others is put.
      let parts = same_from_push kept' first own last (sym was ∙ is) in
      let value : choose own.time ≡ choose last.time = ap (λ (k : InstanceTime). choose k.time) parts.1 in
      (parts.0, ap (λ o. without_value le o old) value ∙ ap (without_value le (choose last.time)) put ∙ without_with (choose last.time) others)
