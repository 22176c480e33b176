-- Names that stand twice, one attribute further.
use Rattle.std.proofs.Common.{◌≡◌, ℕ, Bor, map, Bool, true, false, ◌||◌, List, [], ◌∷◌, ◌++◌, Option, Some, None, IsSome, is_some, refl, ap}
use Rattle.std.specs.Prelude.{bytes_eq, unwrap_or}
use Rattle.std.specs.List.{list_any}
use Rattle.std.proofs.lemmas.List.Folds.{list_any-append}
use Rattle.smil_grammar.specs.Nodes.{WrittenAttr, repeats, with_written}
use Rattle.smil_attrs.specs.Repeats.{stand_among, twice_from}

none_among : (ws : List WrittenAttr) → stand_among [] ws ≡ false
none_among [] = refl
none_among (w ∷ ws) = none_among ws

pub from_none : (ws : List WrittenAttr) → twice_from false [] ws ≡ repeats ws
from_none ws = rw (none_among ws) refl

mix : (a b s l : Bool) → ((a || (b || false)) || (s || l)) ≡ ((a || s) || (b || l))
mix true b s l = refl
mix false true true l = refl
mix false true false l = refl
mix false false true l = refl
mix false false false l = refl

-- one more name that is noted
one_more : (names : List (List ℕ)) (name : List ℕ) (ws : List WrittenAttr) → stand_among (names ++ name ∷ []) ws ≡ (stand_among names ws || list_any (λ (other : WrittenAttr). bytes_eq other.name name) ws)
one_more names name [] = refl
one_more names name (w ∷ ws) =
    rw (list_any-append (bytes_eq w.name) names (name ∷ []), one_more names name ws)
    (mix (list_any (bytes_eq w.name) names) (bytes_eq w.name name) (stand_among names ws) (list_any (λ (other : WrittenAttr). bytes_eq other.name name) ws))

seen_case : (r s l p : Bool) → ((r || true) || (s || p)) ≡ (r || ((true || s) || (l || p)))
seen_case true s l p = refl
seen_case false s l p = refl

noted_case : (r s l p : Bool) → ((r || false) || ((s || l) || p)) ≡ (r || ((false || s) || (l || p)))
noted_case true s l p = refl
noted_case false true l p = refl
noted_case false false l p = refl

full_case : (r s l p : Bool) → ((r || l) || (s || p)) ≡ (r || ((false || s) || (l || p)))
full_case true s l p = refl
full_case false true true p = refl
full_case false true false p = refl
full_case false false l p = refl

abbrev later : List ℕ → List WrittenAttr → Bool
later name ws = list_any (λ (other : WrittenAttr). bytes_eq other.name name) ws

-- a name that stood before
pub seen_before : (r : Bool) (names : List (List ℕ)) (w : WrittenAttr) (ws : List WrittenAttr) → list_any (bytes_eq w.name) names ≡ true
    → twice_from (r || true) names ws ≡ twice_from r names (w ∷ ws)
seen_before r names w ws e = rw e (seen_case r (stand_among names ws) (later w.name ws) (repeats ws))

-- a new name that is noted
pub noted : (r : Bool) (names : List (List ℕ)) (w : WrittenAttr) (ws : List WrittenAttr) → list_any (bytes_eq w.name) names ≡ false
    → twice_from (r || false) (names ++ w.name ∷ []) ws ≡ twice_from r names (w ∷ ws)
noted r names w ws e = rw (e, one_more names w.name ws) (noted_case r (stand_among names ws) (later w.name ws) (repeats ws))

-- a new name that isn't noted
pub looked_for : (r : Bool) (names : List (List ℕ)) (w : WrittenAttr) (ws : List WrittenAttr) → list_any (bytes_eq w.name) names ≡ false
    → twice_from (r || later w.name ws) names ws ≡ twice_from r names (w ∷ ws)
looked_for r names w ws e = rw e (full_case r (stand_among names ws) (later w.name ws) (repeats ws))

-- one attribute was taken from those that are left
pub on_from : (old new : Option (List WrittenAttr)) (w : WrittenAttr) → old ≡ with_written (Some w) new
    → (is_some old ≡ is_some new) × (IsSome new → IsSome old) × (IsSome new → unwrap_or old [] ≡ w ∷ unwrap_or new [])
on_from old None w e = (ap is_some e, λ some. absurd cc, λ some. absurd cc)
on_from old (Some ws) w e = (ap is_some e, λ some. ap is_some e, λ some. ap (λ (o : Option (List WrittenAttr)). unwrap_or o []) e)

-- a test of what is read through references
pub any_of : (p : List ℕ → Bool) (names : List (Bor (List ℕ))) → list_any p (map (λ (name : Bor (List ℕ)). name.now) names) ≡ list_any (λ (name : Bor (List ℕ)). p name.now) names
any_of p [] = refl
any_of p (name ∷ names) = rw (any_of p names) refl
