-- A house and the session that it holds.
use Rattle.std.proofs.Common.{◌≡◌, ◌⊎◌, ℕ, zero, suc, ◌+◌, Bool, true, false, List, [], ◌∷◌, ◌++◌, length, take, drop, Option, Some, None, Ok, Err, refl, ap, sym, subst, ◌∙◌, arith, inl, inr}
use Rattle.std.specs.Prelude.{cond, map, find, not, nat_lt, bytes_eq, is_some, option_map, option_and_then, slice_get, slice_set, if◌then◌else◌}
use Rattle.std.proofs.lemmas.List.{length-map}
use Rattle.smil_model.specs.declared.limits.TheConstants.{PRESENTATIONS}
use Rattle.smil_model.specs.declared.order.Refusal.TheVariants.{NameTaken, TooManyPresentations}
use Rattle.smil_model.specs.shown.Orders.{Presentation}
use Rattle.smil_tree.proofs.KinLists.{lt-first, lt-more}
use Rattle.smil_outline.proofs.OutlineValid.{bytes_turned}
use Rattle.smil_live.proofs.AgreedReferences.{bytes_same}
use Rattle.smil_house.specs.declared.house.NamedPlayer.{NamedPlayer}
use Rattle.smil_house.specs.House.{place_of, load_refusal, without as house_without}
use Rattle.smil_top.specs.Session.{NamedPresentation, is_named, found_in, all_with, all_without, may_join}
use Rattle.smil_top.specs.Houses.{Presentations, shown, AreApart}

abbrev Place : Type 0
Place = NamedPlayer Presentation

pub either : (b : Bool) → (b ≡ true) ⊎ (b ≡ false)
either true = inl refl
either false = inr refl

-- ---- the first place

suc-cond : (b : Bool) (n : ℕ) → cond b (Some (1 + n)) None ≡ option_map suc (cond b (Some n) None)
suc-cond true n = ap Some (omega arith)
suc-cond false n = refl

first-by : (b : Bool) (n m : ℕ) → cond (nat_lt (cond (not b) (1 + n) 0) (suc m)) (Some (cond (not b) (1 + n) 0)) None
    ≡ cond b (Some 0) (option_map suc (cond (nat_lt n m) (Some n) None))
first-by true n m = ap (λ b. cond b (Some 0) None) (lt-first m)
first-by false n m = ap (λ b. cond b (Some (1 + n)) None) (lt-more n m) ∙ suc-cond (nat_lt n m) n

first-cons : (name : List ℕ) (h : Place) (hs : Presentations) →
    place_of name (h ∷ hs) ≡ cond (bytes_eq h.name name) (Some 0) (option_map suc (place_of name hs))
first-cons name h hs = first-by (bytes_eq h.name name) _ (length hs)

pub place-here : (name : List ℕ) (h : Place) (hs : Presentations) → bytes_eq h.name name ≡ true → place_of name (h ∷ hs) ≡ Some 0
place-here name h hs is = first-cons name h hs ∙ ap (λ b. cond b (Some 0) (option_map suc (place_of name hs))) is

pub place-later : (name : List ℕ) (h : Place) (hs : Presentations) → bytes_eq h.name name ≡ false → place_of name (h ∷ hs) ≡ option_map suc (place_of name hs)
place-later name h hs is = first-cons name h hs ∙ ap (λ b. cond b (Some 0) (option_map suc (place_of name hs))) is

none-later : (o : Option ℕ) → option_map suc o ≡ None → o ≡ None
none-later None h = refl
none-later (Some k) h = absurd cc

some-later : (o : Option ℕ) (place : ℕ) → option_map suc o ≡ Some place → (k : ℕ) × (o ≡ Some k) × (place ≡ suc k)
some-later None place h = absurd cc
some-later (Some k) place h = (k, refl, cc)

get-later : (h : Place) (hs : Presentations) (o : Option ℕ) → option_and_then (slice_get (h ∷ hs)) (option_map suc o) ≡ option_and_then (slice_get hs) o
get-later h hs None = refl
get-later h hs (Some k) = refl

-- ---- what is found

found-by : (b : Bool) (h : Place) (o : Option NamedPresentation) (hs : Presentations) (place : Option ℕ) →
    option_map (λ (n : NamedPresentation). n.presentation) o ≡ option_map (λ (x : Place). x.player) (option_and_then (slice_get hs) place) →
    option_map (λ (n : NamedPresentation). n.presentation) (cond b (Some (shown h)) o)
    ≡ option_map (λ (x : Place). x.player) (option_and_then (slice_get (h ∷ hs)) (cond b (Some 0) (option_map suc place)))
found-by true h o hs place same = refl
found-by false h o hs place same = same ∙ ap (λ z. option_map (λ (x : Place). x.player) z) (sym (get-later h hs place))

pub presentation-held : (name : List ℕ) (hs : Presentations) →
    found_in name (map shown hs) ≡ option_map (λ (h : Place). h.player) (option_and_then (slice_get hs) (place_of name hs))
presentation-held name [] = refl
presentation-held name (h ∷ hs) =
    found-by (bytes_eq h.name name) h (find (is_named name) (map shown hs)) hs (place_of name hs) (presentation-held name hs)
    ∙ ap (λ o. option_map (λ (x : Place). x.player) (option_and_then (slice_get (h ∷ hs)) o)) (sym (first-cons name h hs))

some-by : (b : Bool) (h : Place) (o : Option NamedPresentation) (place : Option ℕ) →
    is_some place ≡ is_some (option_map (λ (n : NamedPresentation). n.presentation) o) →
    is_some (cond b (Some 0) (option_map suc place)) ≡ is_some (option_map (λ (n : NamedPresentation). n.presentation) (cond b (Some (shown h)) o))
some-by true h o place same = refl
some-by false h o None same = same
some-by false h o (Some k) same = same

pub some-held : (name : List ℕ) (hs : Presentations) → is_some (place_of name hs) ≡ is_some (found_in name (map shown hs))
some-held name [] = refl
some-held name (h ∷ hs) =
    ap (λ (o : Option ℕ). is_some o) (first-cons name h hs)
    ∙ some-by (bytes_eq h.name name) h (find (is_named name) (map shown hs)) (place_of name hs) (some-held name hs)

-- ---- whether a name may be loaded

pub may_load-held : (name : List ℕ) (hs : Presentations) → load_refusal name hs ≡ may_join name (map shown hs)
may_load-held name hs = rw (some-held name hs) (rw length-map refl)

-- ---- another player in its place

unnamed : (name : List ℕ) (h : Place) (hs : Presentations) → place_of name (h ∷ hs) ≡ None → (bytes_eq h.name name ≡ false) × (place_of name hs ≡ None)
unnamed name h hs none = elim (either (bytes_eq h.name name)) [
  | inl is ↦ absurd (let e : Some 0 ≡ None = sym (place-here name h hs is) ∙ none in cc)
  | inr not ↦ (not, none-later (place_of name hs) (sym (place-later name h hs not) ∙ none))
]

if-false : (b : Bool) (x y : NamedPresentation) → b ≡ false → (if b then x else y) ≡ y
if-false true x y h = absurd cc
if-false false x y h = refl

if-true : (b : Bool) (x y : NamedPresentation) → b ≡ true → (if b then x else y) ≡ x
if-true true x y h = refl
if-true false x y h = absurd cc

untouched : (name : List ℕ) (p : Presentation) (hs : Presentations) → place_of name hs ≡ None → all_with name p (map shown hs) ≡ map shown hs
untouched name p [] none = refl
untouched name p (h ∷ hs) none =
    let u = unnamed name h hs none in
    let rest : all_with name p (map shown hs) ≡ map shown hs = untouched name p hs u.1 in
    ap (λ zs. (if is_named name (shown h) then record { name = h.name; presentation = p } else shown h) ∷ zs) rest
    ∙ ap (λ z. z ∷ map shown hs) (if-false (bytes_eq h.name name) (record { name = h.name; presentation = p }) (shown h) u.0)

pub turned-session : (name : List ℕ) (hs : Presentations) (place : ℕ) (before after : Place) → AreApart hs → place_of name hs ≡ Some place →
    slice_get hs place ≡ Some before → after.name ≡ before.name →
    map shown (slice_set hs place after) ≡ all_with name after.player (map shown hs)
turned-session name [] place before after apart found here same = absurd cc
turned-session name (h ∷ hs) place before after apart found here same =
    go (λ k at here. turned-session name hs k before after apart.1 at here same) place (either (bytes_eq h.name name)) found here
  where
    go : ((k : ℕ) → place_of name hs ≡ Some k → slice_get hs k ≡ Some before → map shown (slice_set hs k after) ≡ all_with name after.player (map shown hs)) →
        (place : ℕ) → (bytes_eq h.name name ≡ true) ⊎ (bytes_eq h.name name ≡ false) → place_of name (h ∷ hs) ≡ Some place →
        slice_get (h ∷ hs) place ≡ Some before → map shown (slice_set (h ∷ hs) place after) ≡ all_with name after.player (map shown (h ∷ hs))
    go rest zero (inl is) found here =
        let named : h.name ≡ name = bytes_same h.name name is in
        let head : h ≡ before = cc here in
        let others : all_with name after.player (map shown hs) ≡ map shown hs = untouched name after.player hs (subst (λ n. place_of n hs ≡ None) named apart.0) in
        ap (λ n. record { name = n; presentation = after.player } ∷ map shown hs) (same ∙ ap (λ (x : Place). x.name) (sym head))
        ∙ ap (λ zs. record { name = h.name; presentation = after.player } ∷ zs) (sym others)
        ∙ ap (λ z. z ∷ all_with name after.player (map shown hs)) (sym (if-true (bytes_eq h.name name) (record { name = h.name; presentation = after.player }) (shown h) is))
    go rest (suc k) (inl is) found here = absurd (let e : Some 0 ≡ Some (suc k) = sym (place-here name h hs is) ∙ found in cc)
    go rest zero (inr other) found here = absurd (let e = some-later (place_of name hs) zero (sym (place-later name h hs other) ∙ found) in cc e.2)
    go rest (suc k) (inr other) found here =
        let later = some-later (place_of name hs) (suc k) (sym (place-later name h hs other) ∙ found) in
        let at : place_of name hs ≡ Some k = later.1 ∙ ap Some (cc later.2) in
        ap (λ zs. shown h ∷ zs) (rest k at here)
        ∙ ap (λ z. z ∷ all_with name after.player (map shown hs)) (sym (if-false (bytes_eq h.name name) (record { name = h.name; presentation = after.player }) (shown h) other))

-- the same names stand at the same places
pub turned-place : (name : List ℕ) (hs : Presentations) (place : ℕ) (before after : Place) → slice_get hs place ≡ Some before → after.name ≡ before.name →
    place_of name (slice_set hs place after) ≡ place_of name hs
turned-place name [] place before after here same = absurd cc
turned-place name (h ∷ hs) zero before after here same =
    let head : h ≡ before = cc here in
    let name_is : after.name ≡ h.name = same ∙ ap (λ (x : Place). x.name) (sym head) in
    first-cons name after hs ∙ ap (λ n. cond (bytes_eq n name) (Some 0) (option_map suc (place_of name hs))) name_is ∙ sym (first-cons name h hs)
turned-place name (h ∷ hs) (suc k) before after here same =
    first-cons name h (slice_set hs k after)
    ∙ ap (λ o. cond (bytes_eq h.name name) (Some 0) (option_map suc o)) (turned-place name hs k before after here same)
    ∙ sym (first-cons name h hs)

pub turned-apart : (hs : Presentations) (place : ℕ) (before after : Place) → AreApart hs → slice_get hs place ≡ Some before → after.name ≡ before.name →
    AreApart (slice_set hs place after)
turned-apart [] place before after apart here same = absurd cc
turned-apart (h ∷ hs) zero before after apart here same =
    let head : h ≡ before = cc here in
    (ap (λ n. place_of n hs) (same ∙ ap (λ (x : Place). x.name) (sym head)) ∙ apart.0, apart.1)
turned-apart (h ∷ hs) (suc k) before after apart here same =
    (turned-place h.name hs k before after here same ∙ apart.0, turned-apart hs k before after apart.1 here same)

-- ---- one is closed

kept-all : (name : List ℕ) (hs : Presentations) → place_of name hs ≡ None → all_without name (map shown hs) ≡ map shown hs
kept-all name [] none = refl
kept-all name (h ∷ hs) none =
    let u = unnamed name h hs none in
    ap (λ b. cond (not b) (shown h ∷ all_without name (map shown hs)) (all_without name (map shown hs))) u.0
    ∙ ap (λ zs. shown h ∷ zs) (kept-all name hs u.1)

pub without-later : (h : Place) (hs : Presentations) (k : ℕ) → house_without (suc k) (h ∷ hs) ≡ h ∷ house_without k hs
without-later h hs k = let e : suc k + 1 ≡ suc (k + 1) = omega arith in ap (λ n. (h ∷ take k hs) ++ drop n (h ∷ hs)) e

pub closed-session : (name : List ℕ) (hs : Presentations) (place : ℕ) → AreApart hs → place_of name hs ≡ Some place →
    map shown (house_without place hs) ≡ all_without name (map shown hs)
closed-session name [] place apart found = absurd cc
closed-session name (h ∷ hs) place apart found = go (λ k at. closed-session name hs k apart.1 at) place (either (bytes_eq h.name name)) found
  where
    go : ((k : ℕ) → place_of name hs ≡ Some k → map shown (house_without k hs) ≡ all_without name (map shown hs)) → (place : ℕ) → (bytes_eq h.name name ≡ true) ⊎ (bytes_eq h.name name ≡ false) → place_of name (h ∷ hs) ≡ Some place →
        map shown (house_without place (h ∷ hs)) ≡ all_without name (map shown (h ∷ hs))
    go rest zero (inl is) found =
        sym (kept-all name hs (subst (λ n. place_of n hs ≡ None) (bytes_same h.name name is) apart.0))
        ∙ ap (λ b. cond (not b) (shown h ∷ all_without name (map shown hs)) (all_without name (map shown hs))) (sym is)
    go rest (suc k) (inl is) found = absurd (let e : Some 0 ≡ Some (suc k) = sym (place-here name h hs is) ∙ found in cc)
    go rest zero (inr other) found = absurd (let e = some-later (place_of name hs) zero (sym (place-later name h hs other) ∙ found) in cc e.2)
    go rest (suc k) (inr other) found =
        let later = some-later (place_of name hs) (suc k) (sym (place-later name h hs other) ∙ found) in
        let at : place_of name hs ≡ Some k = later.1 ∙ ap Some (cc later.2) in
        ap (λ zs. map shown zs) (without-later h hs k)
        ∙ ap (λ zs. shown h ∷ zs) (rest k at)
        ∙ ap (λ b. cond (not b) (shown h ∷ all_without name (map shown hs)) (all_without name (map shown hs))) (sym other)

without-none : (k : ℕ) → house_without {P = Presentation} k [] ≡ []
without-none zero = refl
without-none (suc k) = let e : suc k + 1 ≡ suc (k + 1) = omega arith in ap (λ n. drop {A = Place} n []) e

without-place : (name : List ℕ) (hs : Presentations) (place : ℕ) → place_of name hs ≡ None → place_of name (house_without place hs) ≡ None
without-place name [] k none = ap (place_of name) (without-none k)
without-place name (h ∷ hs) zero none = (unnamed name h hs none).1
without-place name (h ∷ hs) (suc k) none =
    let u = unnamed name h hs none in
    ap (place_of name) (without-later h hs k) ∙ place-later name h (house_without k hs) u.0 ∙ ap (option_map suc) (without-place name hs k u.1)

pub closed-apart : (hs : Presentations) (place : ℕ) → AreApart hs → AreApart (house_without place hs)
closed-apart [] k apart = subst AreApart (sym (without-none k)) tt
closed-apart (h ∷ hs) zero apart = apart.1
closed-apart (h ∷ hs) (suc k) apart =
    subst AreApart (sym (without-later h hs k)) (without-place h.name hs k apart.0, closed-apart hs k apart.1)

-- ---- one more

added-place : (name : List ℕ) (hs : Presentations) (h : Place) → place_of name hs ≡ None → bytes_eq h.name name ≡ false → place_of name (hs ++ h ∷ []) ≡ None
added-place name [] h none other = place-later name h [] other
added-place name (x ∷ hs) h none other =
    let u = unnamed name x hs none in
    place-later name x (hs ++ h ∷ []) u.0 ∙ ap (option_map suc) (added-place name hs h u.1 other)

pub added-apart : (hs : Presentations) (h : Place) → AreApart hs → place_of h.name hs ≡ None → AreApart (hs ++ h ∷ [])
added-apart [] h apart none = (refl, tt)
added-apart (x ∷ hs) h apart none =
    let u = unnamed h.name x hs none in
    (added-place x.name hs h apart.0 (bytes_turned x.name h.name u.0), added-apart hs h apart.1 u.1)

pub added-session : (hs : Presentations) (h : Place) → map shown (hs ++ h ∷ []) ≡ map shown hs ++ shown h ∷ []
added-session [] h = refl
added-session (x ∷ hs) h = ap (λ zs. shown x ∷ zs) (added-session hs h)

-- a name that may be loaded isn't held
pub may_load-free : (name : List ℕ) (hs : Presentations) → load_refusal name hs ≡ Ok tt → place_of name hs ≡ None
may_load-free name hs may = go (place_of name hs) refl
  where
    go : (o : Option ℕ) → place_of name hs ≡ o → place_of name hs ≡ None
    go None is = is
    go (Some k) is = absurd (let e : load_refusal name hs ≡ Err NameTaken = ap (λ (o : Option ℕ). if is_some o then Err NameTaken else (if nat_lt (length hs) PRESENTATIONS then Ok tt else Err TooManyPresentations)) is in cc)
