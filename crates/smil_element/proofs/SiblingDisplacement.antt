-- What displaces an element, by the last entries on its siblings.
use Rattle.std.proofs.Common.{◌≡◌, refl, sym, ◌∙◌, ap, ℕ, suc, zero, List, [], ◌∷◌, ◌++◌, ◌<◌, length, drop, filter, Bool, true, false, Option, Some, None, arith}
use Rattle.std.specs.Prelude.{cond, not, ◌&&◌, ◌||◌, ◌==◌, is_some, IfSome}
use Rattle.std.specs.List.{AllByRecursion, list_any}
use Rattle.std.specs.Option.{option_map_or}
use Rattle.std.proofs.lemmas.Bool.{and_parts, eqb-true, eq-eqb}
use Rattle.smil_model.specs.declared.diary.Entry.{Entry}
use Rattle.smil_model.specs.declared.diary.Step.{Step}
use Rattle.smil_model.specs.declared.diary.Step.TheVariants.{Began, Repeated, Ended, Cut, Paused, Resumed, Deferred, Passed, Logged}
use Rattle.smil_model.specs.declared.diary.StepKind.TheVariants as kind
use Rattle.smil_model.specs.declared.document.Node.{Node}
use Rattle.smil_model.specs.document.Document.{elements, has_serial, is_element, is_time_child, serials, time_children, time_parent}
use Rattle.smil_model.specs.diary.Diary.{History, is_paused, is_step, last_place, last_step, later_place, up_to, with_past}
use Rattle.smil_model.specs.diary.Lawful.{AllLawful, IsLawful, has_element, is_lawful_step, may_begin}
use Rattle.smil_model.specs.shown.Views.{finished_by, is_sibling, sets_off_sibling}
use Rattle.smil_diary.specs.Places.{is_from, later_of}
use Rattle.smil_diary.proofs.LastPlaces.{finish-last}
use Rattle.smil_laws.proofs.AsideDocuments.{each_drop}
use Rattle.smil_laws.proofs.LineageParents.{swap_eqb}
use Rattle.smil_past.proofs.PlayRows.{found_any}
use Rattle.smil_element.specs.Displaced.{may_set_off}

-- ---- the last end

pub finish_last : (diary : List Entry) (s : ℕ) → finished_by diary s ≡ option_map_or suc (later_of (last_step diary kind.Ended s) (last_step diary kind.Cut s)) (length diary)
finish_last diary s =
    ap (λ o. option_map_or suc o (length diary)) (finish-last s diary)

-- ---- entries and their last places

any_last : {A : Type 0} (t : A → Bool) (xs : List A) → list_any t xs ≡ is_some (last_place t xs)
any_last t [] = refl
any_last t (x ∷ xs) = ap (λ b. t x || b) (any_last t xs) ∙ by (t x) (last_place t xs)
  where
    by : (b : Bool) (o : Option ℕ) → (b || is_some o) ≡ is_some (later_place b o)
    by true None = refl
    by false None = refl
    by true (Some k) = refl
    by false (Some k) = refl

is_from_zero : (o : Option ℕ) → is_some o ≡ is_from 0 o
is_from_zero None = refl
is_from_zero (Some k) = grind arith

is_from_suc : (b : ℕ) (t : Bool) (o : Option ℕ) → is_from b o ≡ is_from (suc b) (later_place t o)
is_from_suc b true None = grind arith
is_from_suc b false None = refl
is_from_suc b t (Some k) = grind arith

-- one passes from a place on where the last one that passes is not before it
pub any_place : {A : Type 0} (t : A → Bool) (b : ℕ) (xs : List A) → list_any t (drop b xs) ≡ is_from b (last_place t xs)
any_place t zero xs = any_last t xs ∙ is_from_zero (last_place t xs)
any_place t (suc b) [] = refl
any_place t (suc b) (x ∷ xs) = any_place t b xs ∙ is_from_suc b (t x) (last_place t xs)

-- ---- whether any passes

any_or : {A : Type 0} (p q : A → Bool) (xs : List A) → list_any (λ x. p x || q x) xs ≡ (list_any p xs || list_any q xs)
any_or p q [] = refl
any_or p q (x ∷ xs) = ap (λ b. (p x || q x) || b) (any_or p q xs) ∙ mix (p x) (q x) (list_any p xs) (list_any q xs)
  where
    mix : (a b c d : Bool) → ((a || b) || (c || d)) ≡ ((a || c) || (b || d))
    mix true b c d = refl
    mix false true true d = refl
    mix false true false d = refl
    mix false false c d = refl

any_and : {A : Type 0} (a : Bool) (p : A → Bool) (xs : List A) → list_any (λ x. a && p x) xs ≡ (a && list_any p xs)
any_and true p xs = refl
any_and false p [] = refl
any_and false p (x ∷ xs) = any_and false p xs

pub any_none : {A : Type 0} (xs : List A) → list_any (λ x. false) xs ≡ false
any_none [] = refl
any_none (x ∷ xs) = any_none xs

pub any_all : {A : Type 0} (P : A → Type 0) (f g : A → Bool) (xs : List A) → AllByRecursion P xs → ((x : A) → P x → f x ≡ g x) → list_any f xs ≡ list_any g xs
any_all P f g [] each same = refl
any_all P f g (x ∷ xs) each same = ap (λ b. b || list_any f xs) (same x each.0) ∙ ap (λ b. g x || b) (any_all P f g xs each.1 same)

any_each : {A : Type 0} (f g : A → Bool) (xs : List A) → ((x : A) → f x ≡ g x) → list_any f xs ≡ list_any g xs
any_each f g [] same = refl
any_each f g (x ∷ xs) same = ap (λ b. b || list_any f xs) (same x) ∙ ap (λ b. g x || b) (any_each f g xs same)

any_swap : {A B : Type 0} (t : A → B → Bool) (cs : List A) (xs : List B) → list_any (λ c. list_any (t c) xs) cs ≡ list_any (λ x. list_any (λ c. t c x) cs) xs
any_swap t cs [] = any_none cs
any_swap t cs (x ∷ xs) = any_or (λ c. t c x) (λ c. list_any (t c) xs) cs ∙ ap (λ b. list_any (λ c. t c x) cs || b) (any_swap t cs xs)

-- ---- entries are on elements

abbrev pub IsKnown : List Node → Step → Type 0
IsKnown nodes (Began who begin) = has_element nodes who ≡ true
IsKnown nodes (Resumed who) = has_element nodes who ≡ true
IsKnown nodes _ = Unit {0}

known_step : (past : History) (step : Step) → is_lawful_step past step ≡ true → IsKnown past.nodes step
known_step past (Began who begin) q = (and_parts (has_element past.nodes who) (may_begin past who) q).0
known_step past (Resumed who) q = (and_parts (has_element past.nodes who) (is_paused past.diary who) q).0
known_step past (Repeated who start) q = tt
known_step past (Ended who end') q = tt
known_step past (Cut who) q = tt
known_step past (Paused who) q = tt
known_step past (Deferred who begin) q = tt
known_step past (Passed who begin) q = tt
known_step past (Logged place) q = tt

pub known_all : (h : History) (before ds : List Entry) → AllLawful h (with_past before ds) → AllByRecursion (λ (x : Entry). IsKnown h.nodes x.step) ds
known_all h before [] all = tt
known_all h before (x ∷ xs) all = (known_step (up_to h before) x.step all.0, known_all h (before ++ x ∷ []) xs all.1)

-- ---- time children

one_test : (f : ℕ → Bool) (w : ℕ) (cs : List ℕ) → list_any (λ c. f c && (w == c)) cs ≡ (f w && list_any (λ c. w == c) cs)
one_test f w [] = by (f w)
  where
    by : (b : Bool) → false ≡ (b && false)
    by true = refl
    by false = refl
one_test f w (c ∷ cs) = step (w == c) refl (one_test f w cs)
  where
    here : (a r l : Bool) → l ≡ (a && r) → ((a && true) || l) ≡ (a && true)
    here true r l q = refl
    here false r l q = q

    there : (a b r l : Bool) → l ≡ (a && r) → ((b && false) || l) ≡ (a && r)
    there a true r l q = q
    there a false r l q = q

    step : (t : Bool) → w == c ≡ t → list_any (λ c. f c && (w == c)) cs ≡ (f w && list_any (λ c. w == c) cs) → ((f c && (w == c)) || list_any (λ c. f c && (w == c)) cs) ≡ (f w && ((w == c) || list_any (λ c. w == c) cs))
    step true q later =
        ap (λ b. (f c && b) || list_any (λ c. f c && (w == c)) cs) q
        ∙ ap (λ k. (f k && true) || list_any (λ c. f c && (w == c)) cs) (sym (eqb-true w c q))
        ∙ here (f w) (list_any (λ c. w == c) cs) (list_any (λ c. f c && (w == c)) cs) later
        ∙ ap (λ b. f w && (b || list_any (λ c. w == c) cs)) (sym q)
    step false q later =
        ap (λ b. (f c && b) || list_any (λ c. f c && (w == c)) cs) q
        ∙ there (f w) (f c) (list_any (λ c. w == c) cs) (list_any (λ c. f c && (w == c)) cs) later
        ∙ ap (λ b. f w && (b || list_any (λ c. w == c) cs)) (sym q)

module _ (nodes : List Node) (p w : ℕ) where
  abbrev has : Bool
  has = has_serial p (time_parent nodes w)

  among : (ns : List Node) → list_any (λ c. w == c) (serials (filter (is_time_child nodes p) ns)) ≡ (has && list_any (λ (n : Node). n.serial == w) (filter is_element ns))
  among [] = by has
    where
      by : (b : Bool) → false ≡ (b && false)
      by true = refl
      by false = refl
  among (n ∷ ns) = step (is_element n) (has_serial p (time_parent nodes n.serial)) refl (n.serial == w) refl (among ns)
    where
      l : Bool
      l = list_any (λ c. w == c) (serials (filter (is_time_child nodes p) ns))

      turned : (t : Bool) → n.serial == w ≡ t → w == n.serial ≡ t
      turned true q = eq-eqb w n.serial (sym (eqb-true n.serial w q))
      turned false q = swap_eqb n.serial w q

      step : (t u : Bool) → has_serial p (time_parent nodes n.serial) ≡ u → (s : Bool) → n.serial == w ≡ s → list_any (λ c. w == c) (serials (filter (is_time_child nodes p) ns)) ≡ (has && list_any (λ (m : Node). m.serial == w) (filter is_element ns))
          → list_any (λ c. w == c) (serials (cond (t && u) (n ∷ filter (is_time_child nodes p) ns) (filter (is_time_child nodes p) ns))) ≡ (has && list_any (λ (m : Node). m.serial == w) (cond t (n ∷ filter is_element ns) (filter is_element ns)))
      step true true e true q later =
          ap (λ b. b || list_any (λ c. w == c) (serials (filter (is_time_child nodes p) ns))) (turned true q)
          ∙ ap (λ b. b && true) (sym e ∙ ap (λ k. has_serial p (time_parent nodes k)) (eqb-true n.serial w q))
          ∙ ap (λ b. has && (b || list_any (λ (m : Node). m.serial == w) (filter is_element ns))) (sym q)
      step true true e false q later =
          ap (λ b. b || list_any (λ c. w == c) (serials (filter (is_time_child nodes p) ns))) (turned false q)
          ∙ later
          ∙ ap (λ b. has && (b || list_any (λ (m : Node). m.serial == w) (filter is_element ns))) (sym q)
      step true false e true q later =
          let gone : has ≡ false = ap (λ k. has_serial p (time_parent nodes k)) (sym (eqb-true n.serial w q)) ∙ e in
          later ∙ ap (λ b. b && list_any (λ (m : Node). m.serial == w) (filter is_element ns)) gone
          ∙ ap (λ b. b && ((n.serial == w) || list_any (λ (m : Node). m.serial == w) (filter is_element ns))) (sym gone)
      step true false e false q later = later ∙ ap (λ b. has && (b || list_any (λ (m : Node). m.serial == w) (filter is_element ns))) (sym q)
      step false u e s q later = later

  -- an element is among the time children of its time parent, and of no other
  pub is_child : has_element nodes w ≡ true → list_any (λ c. w == c) (serials (time_children nodes p)) ≡ has
  is_child known = among nodes ∙ ap (λ b. has && b) (sym (found_any w (elements nodes)) ∙ known) ∙ by has
    where
      by : (b : Bool) → (b && true) ≡ b
      by true = refl
      by false = refl

-- ---- a sibling that began or resumed

module _ (h : History) (who from : ℕ) (p : Node) (under : time_parent h.nodes who ≡ Some p) (lawful : IsLawful h) where
  abbrev cs : List ℕ
  cs = serials (time_children h.nodes p.serial)

  known : AllByRecursion (λ (x : Entry). IsKnown h.nodes x.step) h.diary
  known = known_all h [] h.diary lawful.steps

  abbrev sets : ℕ → Entry → Bool
  sets c x = not (c == who) && (is_step kind.Began c x.step || is_step kind.Resumed c x.step)

  no_sibling : false ≡ list_any (λ (c : ℕ). false) cs
  no_sibling = sym (any_none cs)

  none_of : list_any (λ c. not (c == who) && false) cs ≡ false
  none_of = any_each (λ c. not (c == who) && false) (λ c. false) cs (λ c. by (not (c == who))) ∙ any_none cs
    where
      by : (b : Bool) → (b && false) ≡ false
      by true = refl
      by false = refl

  one_of : (w : ℕ) → has_element h.nodes w ≡ true → list_any (λ c. not (c == who) && (w == c)) cs ≡ is_sibling h.nodes (time_parent h.nodes who) who w
  one_of w there =
      one_test (λ c. not (c == who)) w cs ∙ ap (λ b. not (w == who) && b) (is_child h.nodes p.serial w there)
      ∙ ap (λ o. is_sibling h.nodes o who w) (sym under)

  sets_is : (x : Entry) → IsKnown h.nodes x.step → list_any (λ c. sets c x) cs ≡ sets_off_sibling h.nodes who x.step
  sets_is x there = by x.step there
    where
      left : (b : Bool) → (b || false) ≡ b
      left true = refl
      left false = refl

      by : (step : Step) → IsKnown h.nodes step → list_any (λ c. not (c == who) && (is_step kind.Began c step || is_step kind.Resumed c step)) cs ≡ sets_off_sibling h.nodes who step
      by (Began w begin) q = any_each (λ c. not (c == who) && ((w == c) || false)) (λ c. not (c == who) && (w == c)) cs (λ c. ap (λ b. not (c == who) && b) (left (w == c))) ∙ one_of w q
      by (Resumed w) q = one_of w q
      by (Repeated w start) q = none_of
      by (Ended w end') q = none_of
      by (Cut w) q = none_of
      by (Paused w) q = none_of
      by (Deferred w begin) q = none_of
      by (Passed w begin) q = none_of
      by (Logged place) q = none_of

  one_set : (c : ℕ) → may_set_off h.diary who from c ≡ list_any (sets c) (drop from h.diary)
  one_set c =
      ap (λ b. not (c == who) && (b || is_from from (last_step h.diary kind.Resumed c))) (sym (any_place (λ (x : Entry). is_step kind.Began c x.step) from h.diary))
      ∙ ap (λ b. not (c == who) && (list_any (λ (x : Entry). is_step kind.Began c x.step) (drop from h.diary) || b)) (sym (any_place (λ (x : Entry). is_step kind.Resumed c x.step) from h.diary))
      ∙ ap (λ b. not (c == who) && b) (sym (any_or (λ (x : Entry). is_step kind.Began c x.step) (λ (x : Entry). is_step kind.Resumed c x.step) (drop from h.diary)))
      ∙ sym (any_and (not (c == who)) (λ (x : Entry). is_step kind.Began c x.step || is_step kind.Resumed c x.step) (drop from h.diary))

  pub sibling_is : list_any (may_set_off h.diary who from) cs ≡ list_any (λ (x : Entry). sets_off_sibling h.nodes who x.step) (drop from h.diary)
  sibling_is =
      any_each (may_set_off h.diary who from) (λ c. list_any (sets c) (drop from h.diary)) cs one_set
      ∙ any_swap sets cs (drop from h.diary)
      ∙ any_all (λ (x : Entry). IsKnown h.nodes x.step) (λ x. list_any (λ c. sets c x) cs) (λ (x : Entry). sets_off_sibling h.nodes who x.step) (drop from h.diary) (each_drop (λ (x : Entry). IsKnown h.nodes x.step) from h.diary known) sets_is

-- ---- the later of two places

pub later_within : (first second : Option ℕ) (all : ℕ) → IfSome first (λ a. a < all) → IfSome second (λ b. b < all) → IfSome (later_of first second) (λ r. r < all)
later_within None second all a b = b
later_within (Some x) None all a b = a
later_within (Some x) (Some y) all a b = omega (arith, a, b)
