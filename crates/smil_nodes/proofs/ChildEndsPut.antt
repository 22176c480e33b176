-- Endings that are put among the ends of time children.
use Rattle.std.proofs.Common.{◌≡◌, refl, ◌∙◌, ap, sym, ℕ, zero, suc, List, [], ◌∷◌, length, map, Option, Some, None, Bool, true, false}
use Rattle.std.specs.Prelude.{is_some, nat_eq, slice_get, slice_index_or}
use Rattle.std.proofs.lemmas.Bool.{eqb-true, eqb-false}
use Rattle.smil_model.specs.declared.times.Time.{Time}
use Rattle.smil_model.specs.declared.interval.ChildEnd.{ChildEnd}
use Rattle.smil_endsync.specs.Ends.{set_ends}
use Rattle.smil_element.specs.declared.endings.Ending.{Ending}
use Rattle.smil_nodes.specs.declared.endings.Home.{Home}
use Rattle.smil_nodes.specs.Endings.{KeptEnds, ending_from, ending_home, ending_in, home_at, names_of, put_among, put_home, put_ending}

-- ---- among the children of one container

abbrev pub ended : ChildEnd → Option Time → Option Time → ChildEnd
ended c first latest = record { named = c.named; first = first; latest = latest }

abbrev pub names_in : List ChildEnd → List Bool
names_in cs = map (λ (c : ChildEnd). c.named) cs

set_twice : (cs : List ChildEnd) (k : ℕ) (a b x y : Option Time) → set_ends (set_ends cs k a b) k x y ≡ set_ends cs k x y
set_twice [] k a b x y = refl
set_twice (c ∷ cs) zero a b x y = refl
set_twice (c ∷ cs) (suc k) a b x y = ap (λ rest. c ∷ rest) (set_twice cs k a b x y)

set_apart : (cs : List ChildEnd) (j k : ℕ) (a b x y : Option Time) → (j ≡ k → ⊥) → set_ends (set_ends cs j a b) k x y ≡ set_ends (set_ends cs k x y) j a b
set_apart [] j k a b x y differ = refl
set_apart (c ∷ cs) zero zero a b x y differ = absurd (differ refl)
set_apart (c ∷ cs) zero (suc k) a b x y differ = refl
set_apart (c ∷ cs) (suc j) zero a b x y differ = refl
set_apart (c ∷ cs) (suc j) (suc k) a b x y differ = ap (λ rest. c ∷ rest) (set_apart cs j k a b x y (λ e. differ (ap suc e)))

-- to put what is there changes nothing
set_back : (cs : List ChildEnd) (k : ℕ) → set_ends cs k (ending_from (slice_get cs k)).first (ending_from (slice_get cs k)).latest ≡ cs
set_back [] k = refl
set_back (c ∷ cs) zero = refl
set_back (c ∷ cs) (suc k) = ap (λ rest. c ∷ rest) (set_back cs k)

set_names : (cs : List ChildEnd) (k : ℕ) (a b : Option Time) → names_in (set_ends cs k a b) ≡ names_in cs
set_names [] k a b = refl
set_names (c ∷ cs) zero a b = refl
set_names (c ∷ cs) (suc k) a b = ap (λ rest. c.named ∷ rest) (set_names cs k a b)

pub set_own : (cs : List ChildEnd) (k : ℕ) (a b : Option Time) (c : ChildEnd) → slice_get cs k ≡ Some c → slice_get (set_ends cs k a b) k ≡ Some (ended c a b)
set_own [] k a b c q = absurd (cc)
set_own (d ∷ cs) zero a b c q = let one : d ≡ c = cc in ap (λ (x : ChildEnd). Some (ended x a b)) one
set_own (d ∷ cs) (suc k) a b c q = set_own cs k a b c q

pub set_others : (cs : List ChildEnd) (j k : ℕ) (a b : Option Time) → (j ≡ k → ⊥) → slice_get (set_ends cs k a b) j ≡ slice_get cs j
set_others [] j k a b differ = refl
set_others (c ∷ cs) zero zero a b differ = absurd (differ refl)
set_others (c ∷ cs) zero (suc k) a b differ = refl
set_others (c ∷ cs) (suc j) zero a b differ = refl
set_others (c ∷ cs) (suc j) (suc k) a b differ = set_others cs j k a b (λ e. differ (ap suc e))

-- ---- among all

among_twice : (es : List (List ChildEnd)) (p k : ℕ) (x y : Ending) → put_among (put_among es p k x) p k y ≡ put_among es p k y
among_twice [] p k x y = refl
among_twice (cs ∷ es) zero k x y = ap (λ row. row ∷ es) (set_twice cs k x.first x.latest y.first y.latest)
among_twice (cs ∷ es) (suc p) k x y = ap (λ rest. cs ∷ rest) (among_twice es p k x y)

among_apart : (es : List (List ChildEnd)) (p k q j : ℕ) (x y : Ending) → (p ≡ q → k ≡ j → ⊥) → put_among (put_among es p k x) q j y ≡ put_among (put_among es q j y) p k x
among_apart [] p k q j x y differ = refl
among_apart (cs ∷ es) zero k zero j x y differ = ap (λ row. row ∷ es) (set_apart cs k j x.first x.latest y.first y.latest (λ e. differ refl e))
among_apart (cs ∷ es) zero k (suc q) j x y differ = refl
among_apart (cs ∷ es) (suc p) k zero j x y differ = refl
among_apart (cs ∷ es) (suc p) k (suc q) j x y differ = ap (λ rest. cs ∷ rest) (among_apart es p k q j x y (λ e f. differ (ap suc e) f))

among_back : (es : List (List ChildEnd)) (p k : ℕ) → put_among es p k (ending_from (slice_get (slice_index_or es p []) k)) ≡ es
among_back [] p k = refl
among_back (cs ∷ es) zero k = ap (λ row. row ∷ es) (set_back cs k)
among_back (cs ∷ es) (suc p) k = ap (λ rest. cs ∷ rest) (among_back es p k)

pub among_names : (es : List (List ChildEnd)) (p k : ℕ) (x : Ending) → names_of (put_among es p k x) ≡ names_of es
among_names [] p k x = refl
among_names (cs ∷ es) zero k x = ap (λ row. row ∷ names_of es) (set_names cs k x.first x.latest)
among_names (cs ∷ es) (suc p) k x = ap (λ rest. names_in cs ∷ rest) (among_names es p k x)

pub among_own : (es : List (List ChildEnd)) (p k : ℕ) (x : Ending) → slice_index_or (put_among es p k x) p [] ≡ set_ends (slice_index_or es p []) k x.first x.latest
among_own [] p k x = refl
among_own (cs ∷ es) zero k x = refl
among_own (cs ∷ es) (suc p) k x = among_own es p k x

pub among_others : (es : List (List ChildEnd)) (p k q : ℕ) (x : Ending) → (q ≡ p → ⊥) → slice_index_or (put_among es p k x) q [] ≡ slice_index_or es q []
among_others [] p k q x differ = refl
among_others (cs ∷ es) zero k zero x differ = absurd (differ refl)
among_others (cs ∷ es) zero k (suc q) x differ = refl
among_others (cs ∷ es) (suc p) k zero x differ = refl
among_others (cs ∷ es) (suc p) k (suc q) x differ = among_others es p k q x (λ e. differ (ap suc e))

pub among_count : (es : List (List ChildEnd)) (p k : ℕ) (x : Ending) → length (put_among es p k x) ≡ length es
among_count [] p k x = refl
among_count (cs ∷ es) zero k x = refl
among_count (cs ∷ es) (suc p) k x = ap suc (among_count es p k x)

-- all but one child have the ends that they had
pub among_stays : (es : List (List ChildEnd)) (p k q j : ℕ) (x : Ending) → (q ≡ p → j ≡ k → ⊥) → slice_get (slice_index_or (put_among es p k x) q []) j ≡ slice_get (slice_index_or es q []) j
among_stays es p k q j x differ = by_test (nat_eq q p) refl
  where
    by_test : (t : Bool) → nat_eq q p ≡ t → slice_get (slice_index_or (put_among es p k x) q []) j ≡ slice_get (slice_index_or es q []) j
    by_test true e =
        let same : q ≡ p = eqb-true q p e in
        ap (λ n. slice_get (slice_index_or (put_among es p k x) n []) j) same
        ∙ ap (λ row. slice_get row j) (among_own es p k x)
        ∙ set_others (slice_index_or es p []) j k x.first x.latest (differ same)
        ∙ ap (λ n. slice_get (slice_index_or es n []) j) (sym same)
    by_test false e = ap (λ row. slice_get row j) (among_others es p k q x (eqb-false q p e))

-- ---- for the element at a place

home_twice : (ends : List (List ChildEnd)) (o : Option Home) (x y : Ending) → put_home (put_home ends x o) y o ≡ put_home ends y o
home_twice ends None x y = refl
home_twice ends (Some h) x y = among_twice ends h.container h.child x y

pub put_twice : (kept : KeptEnds) (q : ℕ) (x y : Ending) → put_ending (put_ending kept q x) q y ≡ put_ending kept q y
put_twice kept q x y = λ i. record { homes = kept.homes; ends = home_twice kept.ends (home_at kept.homes q) x y i }

home_back : (ends : List (List ChildEnd)) (o : Option Home) → put_home ends (ending_home ends o) o ≡ ends
home_back ends None = refl
home_back ends (Some h) = among_back ends h.container h.child

-- to put the ending that is there changes nothing
pub put_back : (kept : KeptEnds) (q : ℕ) → put_ending kept q (ending_in kept q) ≡ kept
put_back kept q = λ i. record { homes = kept.homes; ends = home_back kept.ends (home_at kept.homes q) i }

-- what is put where no ending is kept does not matter
pub put_nowhere : (kept : KeptEnds) (q : ℕ) (x y : Ending) → is_some (home_at kept.homes q) ≡ false → put_ending kept q x ≡ put_ending kept q y
put_nowhere kept q x y none = λ i. record { homes = kept.homes; ends = by_home (home_at kept.homes q) none i }
  where
    by_home : (o : Option Home) → is_some o ≡ false → put_home kept.ends x o ≡ put_home kept.ends y o
    by_home None nowhere = refl
    by_home (Some home) nowhere = absurd (cc)

-- after one ending is put in either case, an ending put elsewhere or in the same place leaves both the same
home_over : (xs ys : List (List ChildEnd)) (o p : Option Home) (w z : Ending) → ((v : Ending) → put_home xs v o ≡ put_home ys v o) → put_home (put_home xs w p) z o ≡ put_home (put_home ys w p) z o
home_over xs ys o None w z agree = agree z
home_over xs ys None (Some h) w z agree = ap (λ es. put_among es h.container h.child w) (agree z)
home_over xs ys (Some g) (Some h) w z agree = by_container (nat_eq h.container g.container) refl (nat_eq h.child g.child) refl
  where
    Same : Type 0
    Same = put_among (put_among xs h.container h.child w) g.container g.child z ≡ put_among (put_among ys h.container h.child w) g.container g.child z

    apart : (h.container ≡ g.container → h.child ≡ g.child → ⊥) → Same
    apart differ =
        among_apart xs h.container h.child g.container g.child w z differ
        ∙ ap (λ es. put_among es h.container h.child w) (agree z)
        ∙ sym (among_apart ys h.container h.child g.container g.child w z differ)

    by_container : (s : Bool) → nat_eq h.container g.container ≡ s → (t : Bool) → nat_eq h.child g.child ≡ t → Same
    by_container true e true f =
        let place : h.container ≡ g.container = eqb-true h.container g.container e in
        let child : h.child ≡ g.child = eqb-true h.child g.child f in
        ap (λ (at : ℕ × ℕ). put_among (put_among xs at.0 at.1 w) g.container g.child z) (λ i. (place i, child i))
        ∙ among_twice xs g.container g.child w z
        ∙ agree z
        ∙ sym (among_twice ys g.container g.child w z)
        ∙ ap (λ (at : ℕ × ℕ). put_among (put_among ys at.0 at.1 w) g.container g.child z) (λ i. (sym place i, sym child i))
    by_container true e false f = apart (λ _ q. eqb-false h.child g.child f q)
    by_container false e t f = apart (λ p _. eqb-false h.container g.container e p)

pub put_over : (xs ys : KeptEnds) (q j : ℕ) (w z : Ending) → xs.homes ≡ ys.homes → ((v : Ending) → put_ending xs q v ≡ put_ending ys q v) → put_ending (put_ending xs j w) q z ≡ put_ending (put_ending ys j w) q z
put_over xs ys q j w z homes agree =
    λ i. record {
      homes = homes i;
      ends =
          (home_over xs.ends ys.ends (home_at xs.homes q) (home_at xs.homes j) w z
          (λ v. ap (λ (k : KeptEnds). k.ends) (agree v) ∙ ap (λ hs. put_home ys.ends v (home_at hs q)) (sym homes))
          ∙ ap (λ hs. put_home (put_home ys.ends w (home_at hs j)) z (home_at hs q)) homes) i;
    }
