-- The serials of what passes in a list of nodes, when a node is put in or a part is taken out.
use Rattle.std.proofs.Common.{◌≡◌, refl, sym, ◌∙◌, ap, subst, ℕ, zero, suc, ◌+◌, ◌-◌, ◌<◌, ◌≤◌, List, [], ◌∷◌, ◌++◌, Option, Some, None, Bool, true, false, cond, length, take, drop, insert, filter, get_or, arith}
use Rattle.std.specs.Prelude.{◌==◌, nat_lt, not, slice_range}
use Rattle.std.specs.List.{AllByRecursion, position, position_or_len}
use Rattle.std.specs.List.Sorted.{IsPartitionPoint, IsPartitionedBy}
use Rattle.std.proofs.Math.Seq.{take-append_seam, drop-append_seam}
use Rattle.std.proofs.lemmas.List.{take-append-drop, map-append, drop-drop}
use Rattle.std.proofs.lemmas.List.Elements.{filter-append}
use Rattle.std.proofs.lemmas.Bool.{eq-eqb}
use Rattle.smil_model.specs.declared.document.Node.{Node}
use Rattle.smil_model.specs.document.Valid.{IsDistinct}
use Rattle.smil_laws.proofs.AsideDocuments.{each_drop}
use Rattle.smil_laws.proofs.LineageParents.{swap_eqb}
use Rattle.smil_laws.proofs.Lists.{each_kept}
use Rattle.smil_laws.proofs.ListMembers.{differ_each}
use Rattle.smil_laws.proofs.DependencyRanks.{serials_length}
use Rattle.smil_tree.specs.Places.{cut}
use Rattle.smil_tree.specs.Kin.{is_before, is_earlier}
use Rattle.smil_model.specs.document.Document.{serials}

-- ---- all of a list

pub each_left : {A : Type 0} (P : A → Type 0) (xs ys : List A) → AllByRecursion P (xs ++ ys) → AllByRecursion P xs
each_left P [] ys each = tt
each_left P (x ∷ xs) ys each = (each.0, each_left P xs ys each.1)

pub each_right : {A : Type 0} (P : A → Type 0) (xs ys : List A) → AllByRecursion P (xs ++ ys) → AllByRecursion P ys
each_right P [] ys each = each
each_right P (x ∷ xs) ys each = each_right P xs ys each.1

pub each_at : {A : Type 0} (P : A → Type 0) (xs : List A) (i : ℕ) (d : A) → AllByRecursion P xs → i < length xs → P (get_or xs i d)
each_at P [] i d each le = absurd (omega (arith, le))
each_at P (x ∷ xs) zero d each le = each.0
each_at P (x ∷ xs) (suc i) d each le = each_at P xs i d each.1 (omega (arith, le))

each_any : {A : Type 0} (P : A → Type 0) (xs : List A) → ((x : A) → P x) → AllByRecursion P xs
each_any P [] f = tt
each_any P (x ∷ xs) f = (f x, each_any P xs f)

pub each_serial : (P : ℕ → Type 0) (ns : List Node) → AllByRecursion (λ (n : Node). P n.serial) ns → AllByRecursion P (serials ns)
each_serial P [] each = tt
each_serial P (n ∷ ns) each = (each.0, each_serial P ns each.1)

-- ---- what passes

pub none_pass : {A : Type 0} (t : A → Bool) (xs : List A) → filter t xs ≡ [] → AllByRecursion (λ x. t x ≡ false) xs
none_pass t [] q = tt
none_pass t (x ∷ xs) q = step (t x) refl q (none_pass t xs)
  where
    step : (b : Bool) → t x ≡ b → cond b (x ∷ filter t xs) (filter t xs) ≡ [] → (filter t xs ≡ [] → AllByRecursion (λ y. t y ≡ false) xs) → AllByRecursion (λ y. t y ≡ false) (x ∷ xs)
    step true e r rest = cc
    step false e r rest = (e, rest r)

pub filter_none : {A : Type 0} (t : A → Bool) (xs : List A) → AllByRecursion (λ x. t x ≡ false) xs → filter t xs ≡ []
filter_none t [] each = refl
filter_none t (x ∷ xs) each = ap (λ b. cond b (x ∷ filter t xs) (filter t xs)) each.0 ∙ filter_none t xs each.1

pub filter_all : {A : Type 0} (t : A → Bool) (xs : List A) → AllByRecursion (λ x. t x ≡ true) xs → filter t xs ≡ xs
filter_all t [] each = refl
filter_all t (x ∷ xs) each = ap (λ b. cond b (x ∷ filter t xs) (filter t xs)) each.0 ∙ ap (λ ys. x ∷ ys) (filter_all t xs each.1)

pub filter_each : {A : Type 0} (t u : A → Bool) (xs : List A) → AllByRecursion (λ x. t x ≡ u x) xs → filter t xs ≡ filter u xs
filter_each t u [] each = refl
filter_each t u (x ∷ xs) each =
    ap (λ b. cond b (x ∷ filter t xs) (filter t xs)) each.0 ∙ ap (λ ys. cond (u x) (x ∷ ys) ys) (filter_each t u xs each.1)

-- ---- places among what passes

pub serials-append : (xs ys : List Node) → serials (xs ++ ys) ≡ serials xs ++ serials ys
serials-append xs ys = map-append (λ (n : Node). n.serial) xs ys

module _ (t : Node → Bool) where
  abbrev pub passing : List Node → List ℕ
  passing xs = serials (filter t xs)

  -- how many pass before a place
  abbrev pub before : ℕ → List Node → ℕ
  before at xs = length (filter t (take at xs))

  pub taken : (at : ℕ) (xs : List Node) → take (before at xs) (passing xs) ≡ passing (take at xs)
  taken zero xs = refl
  taken (suc at) [] = refl
  taken (suc at) (x ∷ xs) = step (t x) (taken at xs)
    where
      step : (b : Bool) → take (before at xs) (passing xs) ≡ passing (take at xs) → take (length (cond b (x ∷ filter t (take at xs)) (filter t (take at xs)))) (serials (cond b (x ∷ filter t xs) (filter t xs))) ≡ serials (cond b (x ∷ filter t (take at xs)) (filter t (take at xs)))
      step true rest = ap (λ ys. x.serial ∷ ys) rest
      step false rest = rest

  pub left : (at : ℕ) (xs : List Node) → drop (before at xs) (passing xs) ≡ passing (drop at xs)
  left zero xs = refl
  left (suc at) [] = refl
  left (suc at) (x ∷ xs) = step (t x) (left at xs)
    where
      step : (b : Bool) → drop (before at xs) (passing xs) ≡ passing (drop at xs) → drop (length (cond b (x ∷ filter t (take at xs)) (filter t (take at xs)))) (serials (cond b (x ∷ filter t xs) (filter t xs))) ≡ passing (drop at xs)
      step true rest = rest
      step false rest = rest

  pub passing-append : (xs ys : List Node) → passing (xs ++ ys) ≡ passing xs ++ passing ys
  passing-append xs ys = ap serials (filter-append t xs ys) ∙ serials-append (filter t xs) (filter t ys)

  -- with a node between
  pub passing-between : (fs : List Node) (n : Node) (bs : List Node) → passing (fs ++ n ∷ bs) ≡ cond (t n) (insert (passing (fs ++ bs)) (length (filter t fs)) n.serial) (passing (fs ++ bs))
  passing-between fs n bs = passing-append fs (n ∷ bs) ∙ step (t n)
    where
      step : (b : Bool) → passing fs ++ serials (cond b (n ∷ filter t bs) (filter t bs)) ≡ cond b (insert (passing (fs ++ bs)) (length (filter t fs)) n.serial) (passing (fs ++ bs))
      step true =
          sym
          (ap (λ xs. insert xs (length (filter t fs)) n.serial) (passing-append fs bs)
          ∙ ap (λ k. insert (passing fs ++ passing bs) k n.serial) (sym (serials_length (filter t fs)))
          ∙ ap (λ ys. ys ++ n.serial ∷ drop (length (passing fs)) (passing fs ++ passing bs)) (take-append_seam (passing fs) (passing bs))
          ∙ ap (λ ys. passing fs ++ n.serial ∷ ys) (drop-append_seam (passing fs) (passing bs)))
      step false = sym (passing-append fs bs)

  pub passing-cut : (first past : ℕ) (xs : List Node) → passing (cut first past xs) ≡ cut (before first xs) (before past xs) (passing xs)
  passing-cut first past xs =
      passing-append (take first xs) (drop past xs)
      ∙ sym (ap (λ ys. ys ++ drop (before past xs) (passing xs)) (taken first xs) ∙ ap (λ ys. passing (take first xs) ++ ys) (left past xs))

  pub nothing_cut : (at : ℕ) (ns : List Node) (xs : List ℕ) → xs ≡ passing ns → xs ≡ passing (cut at at ns)
  nothing_cut at ns xs q = q ∙ ap passing (sym (take-append-drop at ns))

  -- more pass before a later place, and no more than in all
  pub before-rises : (first past : ℕ) (xs : List Node) → first ≤ past → before first xs ≤ before past xs
  before-rises zero past xs le = omega arith
  before-rises (suc first) zero xs le = absurd (omega (arith, le))
  before-rises (suc first) (suc past) [] le = omega arith
  before-rises (suc first) (suc past) (x ∷ xs) le = step (t x) (before-rises first past xs (omega (arith, le)))
    where
      step : (b : Bool) → before first xs ≤ before past xs → length (cond b (x ∷ filter t (take first xs)) (filter t (take first xs))) ≤ length (cond b (x ∷ filter t (take past xs)) (filter t (take past xs)))
      step true rest = omega (arith, rest)
      step false rest = rest

-- ---- a part

pub parts : {A : Type 0} (first past : ℕ) (xs : List A) → first ≤ past → take first xs ++ (slice_range xs first past ++ drop past xs) ≡ xs
parts first past xs le =
    let sum : first + (past - first) ≡ past = omega (arith, le) in
    ap (λ ys. take first xs ++ (slice_range xs first past ++ ys)) (sym (drop-drop (past - first) first xs ∙ ap (λ k. drop k xs) sum))
    ∙ ap (λ ys. take first xs ++ ys) (take-append-drop (past - first) (drop first xs))
    ∙ take-append-drop first xs

-- where nothing of the part passes, the same pass without it
pub passing-rest : (t : Node → Bool) (first past : ℕ) (xs : List Node) → first ≤ past → filter t (slice_range xs first past) ≡ [] → filter t (cut first past xs) ≡ filter t xs
passing-rest t first past xs le none =
    filter-append t (take first xs) (drop past xs)
    ∙ ap (λ ys. filter t (take first xs) ++ (ys ++ filter t (drop past xs))) (sym none)
    ∙ ap (λ ys. filter t (take first xs) ++ ys) (sym (filter-append t (slice_range xs first past) (drop past xs)))
    ∙ sym (filter-append t (take first xs) (slice_range xs first past ++ drop past xs))
    ∙ ap (filter t) (parts first past xs le)

-- ---- the search by places

pub lt-more : (a b : ℕ) → nat_lt (1 + a) (suc b) ≡ nat_lt a b
lt-more a b = grind arith

pub lt-first : (b : ℕ) → nat_lt 0 (suc b) ≡ true
lt-first b = grind arith

first_or_later : (n : Node) (ns : List Node) (at s : ℕ) → is_before (n ∷ ns) (suc at) s ≡ cond (n.serial == s) true (is_before ns at s)
first_or_later n ns at s = step (n.serial == s)
  where
    place : ℕ
    place = position_or_len (λ (m : Node). m.serial == s) ns

    later : (b : Bool) → is_earlier (suc at) (cond b (Some (1 + place)) None) ≡ is_earlier at (cond b (Some place) None)
    later true = lt-more place at
    later false = refl

    step : (b : Bool) → is_earlier (suc at) (cond (nat_lt (cond (not b) (1 + place) 0) (suc (length ns))) (Some (cond (not b) (1 + place) 0)) None) ≡ cond b true (is_before ns at s)
    step true = ap (λ c. is_earlier (suc at) (cond c (Some 0) None)) (lt-first (length ns)) ∙ lt-first at
    step false = ap (λ c. is_earlier (suc at) (cond c (Some (1 + place)) None)) (lt-more place (length ns)) ∙ later (nat_lt place (length ns))

never_below : (o : Option ℕ) → is_earlier 0 o ≡ false
never_below None = refl
never_below (Some place) = grind arith

all_before : (at : ℕ) (ns : List Node) → AllByRecursion (λ (m : Node). is_before ns at m.serial ≡ true) (take at ns)
all_before zero ns = tt
all_before (suc at) [] = tt
all_before (suc at) (n ∷ ns) =
    (first_or_later n ns at n.serial ∙ ap (λ b. cond b true (is_before ns at n.serial)) (eq-eqb n.serial n.serial refl), later (take at ns) (all_before at ns))
  where
    here : (b : Bool) (m : Node) → is_before ns at m.serial ≡ true → cond b true (is_before ns at m.serial) ≡ true
    here true m q = refl
    here false m q = q

    later : (xs : List Node) → AllByRecursion (λ (m : Node). is_before ns at m.serial ≡ true) xs → AllByRecursion (λ (m : Node). is_before (n ∷ ns) (suc at) m.serial ≡ true) xs
    later [] each = tt
    later (x ∷ xs) each = (first_or_later n ns at x.serial ∙ here (n.serial == x.serial) x each.0, later xs each.1)

none_before : (at : ℕ) (ns : List Node) → IsDistinct ns → AllByRecursion (λ (m : Node). is_before ns at m.serial ≡ false) (drop at ns)
none_before zero ns d = each_any (λ (m : Node). is_before ns zero m.serial ≡ false) ns (λ m. never_below (position (λ (n : Node). n.serial == m.serial) ns))
none_before (suc at) [] d = tt
none_before (suc at) (n ∷ ns) d = later (drop at ns) (none_before at ns d.1) (each_drop (λ (m : Node). m.serial == n.serial ≡ false) at ns (differ_each n.serial ns d.0))
  where
    later : (xs : List Node) → AllByRecursion (λ (m : Node). is_before ns at m.serial ≡ false) xs → AllByRecursion (λ (m : Node). m.serial == n.serial ≡ false) xs → AllByRecursion (λ (m : Node). is_before (n ∷ ns) (suc at) m.serial ≡ false) xs
    later [] each apart = tt
    later (x ∷ xs) each apart =
        (first_or_later n ns at x.serial ∙ ap (λ b. cond b true (is_before ns at x.serial)) (swap_eqb x.serial n.serial apart.0) ∙ each.0, later xs each.1 apart.1)

-- of a list that passes and a list that does not, in this order
module _ (p : ℕ → Bool) where
  partitioned : (fs bs : List ℕ) → AllByRecursion (λ y. p y ≡ true) fs → AllByRecursion (λ y. p y ≡ false) bs → IsPartitionedBy p (fs ++ bs)
  partitioned [] bs all none i j d le within q = let never : false ≡ true = sym (each_at (λ y. p y ≡ false) bs j d none within) ∙ q in cc
  partitioned (f ∷ fs) bs all none zero j d le within q = all.0
  partitioned (f ∷ fs) bs all none (suc i) zero d le within q = absurd (omega (arith, le))
  partitioned (f ∷ fs) bs all none (suc i) (suc j) d le within q = partitioned fs bs all.1 none i j d (omega (arith, le)) (omega (arith, within)) q

  point : (fs bs : List ℕ) (i : ℕ) → AllByRecursion (λ y. p y ≡ true) fs → AllByRecursion (λ y. p y ≡ false) bs → IsPartitionPoint (λ y. p y ≡ true) (λ y. p y ≡ false) (fs ++ bs) i → i ≤ length (fs ++ bs) → i ≡ length fs
  point [] bs zero all none parts within = refl
  point [] [] (suc i) all none parts within = absurd (omega (arith, within))
  point [] (b ∷ bs) (suc i) all none parts within = let never : false ≡ true = sym none.0 ∙ parts.0 0 0 (omega arith) (omega arith) in cc
  point (f ∷ fs) bs zero all none parts within = let never : true ≡ false = sym all.0 ∙ parts.1 0 0 (omega arith) (omega arith) in cc
  point (f ∷ fs) bs (suc i) all none parts within =
      ap suc
      (point fs bs i all.1 none
      ((λ k d low high. parts.0 (suc k) d (omega arith) (omega (arith, high))), (λ k d low high. parts.1 (suc k) d (omega (arith, low)) (omega (arith, high))))
      (omega (arith, within)))

module _ (t : Node → Bool) (at past : ℕ) (le : at ≤ past) (ns : List Node) (d : IsDistinct ns) where
  front : AllByRecursion (λ y. is_before ns at y ≡ true) (passing t (take at ns))
  front = each_serial (λ y. is_before ns at y ≡ true) (filter t (take at ns)) (each_kept (λ (m : Node). is_before ns at m.serial ≡ true) t (take at ns) (all_before at ns))

  later : AllByRecursion (λ (m : Node). is_before ns at m.serial ≡ false) (drop past ns)
  later =
      let sum : at + (past - at) ≡ past = omega (arith, le) in
      subst (λ (xs : List Node). AllByRecursion (λ (m : Node). is_before ns at m.serial ≡ false) xs) (drop-drop (past - at) at ns ∙ ap (λ k. drop k ns) sum)
      (each_drop (λ (m : Node). is_before ns at m.serial ≡ false) (past - at) (drop at ns) (none_before at ns d))

  back : AllByRecursion (λ y. is_before ns at y ≡ false) (passing t (drop past ns))
  back = each_serial (λ y. is_before ns at y ≡ false) (filter t (drop past ns)) (each_kept (λ (m : Node). is_before ns at m.serial ≡ false) t (drop past ns) later)

  both : passing t (cut at past ns) ≡ passing t (take at ns) ++ passing t (drop past ns)
  both = passing-append t (take at ns) (drop past ns)

  -- the serials of what passes are parted by a place, and as many stand before it as pass before it
  pub parted : (xs : List ℕ) → xs ≡ passing t (cut at past ns) → IsPartitionedBy (is_before ns at) xs
  parted xs q = subst (IsPartitionedBy (is_before ns at)) (sym (q ∙ both)) (partitioned (is_before ns at) (passing t (take at ns)) (passing t (drop past ns)) front back)

  pub counted : (xs : List ℕ) (i : ℕ) → xs ≡ passing t (cut at past ns) → IsPartitionPoint (λ y. is_before ns at y ≡ true) (λ y. is_before ns at y ≡ false) xs i → i ≤ length xs → i ≡ before t at ns
  counted xs i q point_is within =
      point (is_before ns at) (passing t (take at ns)) (passing t (drop past ns)) i front back
      (subst (λ ys. IsPartitionPoint (λ y. is_before ns at y ≡ true) (λ y. is_before ns at y ≡ false) ys i) (q ∙ both) point_is)
      (omega (arith, within, ap length (q ∙ both)))
      ∙ serials_length (filter t (take at ns))
