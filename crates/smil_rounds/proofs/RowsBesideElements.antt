-- Rows and elements side by side.
use Rattle.std.proofs.Common.{◌≡◌, refl, ◌∙◌, ap, sym, ℕ, suc, zero, ◌<◌, List, [], ◌∷◌, length, Option, Some, None, Bool, true, false, get_or, set, arith, inl, inr, map}
use Rattle.std.specs.Prelude.{◌==◌, ◌⊎◌, cond, option_and_then, slice_get}
use Rattle.std.proofs.lemmas.Bool.{or_left, or_right, or_cases, eq-eqb, eqb-true}
use Rattle.smil_model.specs.declared.interval.Interval.{Interval}
use Rattle.smil_model.specs.declared.document.Node.{Node}
use Rattle.smil_model.specs.document.Document.{node_at, serials}
use Rattle.smil_model.specs.document.Closure.{has}
use Rattle.smil_laws.proofs.LineageParents.{swap_eqb}
use Rattle.smil_laws.proofs.ListMembers.{Differ}
use Rattle.smil_rounds.specs.declared.current_rows.CurrentRow.{CurrentRow}
use Rattle.smil_rounds.specs.Current.{interval_in}
use Rattle.smil_rounds.proofs.RowPut.{IsFirst, cons_interval}
use Rattle.smil_laws.proofs.Lists.{each_at}

abbrev pub serials_in : List CurrentRow → List ℕ
serials_in rows = map (λ (r : CurrentRow). r.serial) rows

-- ---- an element at its place

pub listed_at : (ns : List Node) (k : ℕ) (e : Node) → slice_get ns k ≡ Some e → has (serials ns) e.serial ≡ true
listed_at [] k e q = cc
listed_at (n ∷ ns) zero e q = let one : n.serial ≡ e.serial = ap (λ (o : Option Node). cond_serial o) q in or_left _ _ (eq-eqb n.serial e.serial one)
  where
    cond_serial : Option Node → ℕ
    cond_serial None = 0
    cond_serial (Some m) = m.serial
listed_at (n ∷ ns) (suc k) e q = or_right _ _ (listed_at ns k e q)

-- of different elements it is the one with its serial
pub there_at : (ns : List Node) (k : ℕ) (e : Node) → Differ ns → slice_get ns k ≡ Some e → node_at ns e.serial ≡ Some e
there_at [] k e d q = cc
there_at (n ∷ ns) zero e d q =
    let one : n ≡ e = cc in
    ap (λ t. cond t (Some n) (node_at ns e.serial)) (eq-eqb n.serial e.serial (ap (λ (m : Node). m.serial) one)) ∙ ap Some one
there_at (n ∷ ns) (suc k) e d q =
    let other : e.serial == n.serial ≡ false = each_at (λ (m : Node). m.serial == n.serial ≡ false) ns k e d.0 q in
    ap (λ t. cond t (Some n) (node_at ns e.serial)) (swap_eqb e.serial n.serial other) ∙ there_at ns k e d.1 q

-- elements at different places have different serials
pub apart_at : (ns : List Node) (j k : ℕ) (d e : Node) → Differ ns → slice_get ns j ≡ Some d → slice_get ns k ≡ Some e → d.serial ≡ e.serial → j ≡ k
apart_at [] j k d e differ p q same = cc
apart_at (n ∷ ns) zero zero d e differ p q same = refl
apart_at (n ∷ ns) zero (suc k) d e differ p q same =
    let one : n ≡ d = cc in
    let other : e.serial == n.serial ≡ false = each_at (λ (m : Node). m.serial == n.serial ≡ false) ns k e differ.0 q in
    let never : true ≡ false = sym (eq-eqb e.serial n.serial (sym same ∙ sym (ap (λ (m : Node). m.serial) one))) ∙ other in
    cc
apart_at (n ∷ ns) (suc j) zero d e differ p q same =
    let one : n ≡ e = cc in
    let other : d.serial == n.serial ≡ false = each_at (λ (m : Node). m.serial == n.serial ≡ false) ns j d differ.0 p in
    let never : true ≡ false = sym (eq-eqb d.serial n.serial (same ∙ sym (ap (λ (m : Node). m.serial) one))) ∙ other in
    cc
apart_at (n ∷ ns) (suc j) (suc k) d e differ p q same = ap suc (apart_at ns j k d e differ.1 p q same)

-- ---- the row at the place of an element

head_same : (r : CurrentRow) (rs : List CurrentRow) (n : Node) (ns : List Node) → serials_in (r ∷ rs) ≡ serials (n ∷ ns) → (r.serial ≡ n.serial) × (serials_in rs ≡ serials ns)
head_same r rs n ns same = (cc, cc)

pub first_at : (ns : List Node) (rows : List CurrentRow) (k : ℕ) (e : Node) → Differ ns → serials_in rows ≡ serials ns → slice_get ns k ≡ Some e → IsFirst e.serial rows k
first_at [] rows k e d same q = cc
first_at (n ∷ ns) [] k e d same q = cc
first_at (n ∷ ns) (r ∷ rs) zero e d same q =
    let one : n ≡ e = cc in
    eq-eqb r.serial e.serial ((head_same r rs n ns same).0 ∙ ap (λ (m : Node). m.serial) one)
first_at (n ∷ ns) (r ∷ rs) (suc k) e d same q =
    let other : e.serial == n.serial ≡ false = each_at (λ (m : Node). m.serial == n.serial ≡ false) ns k e d.0 q in
    let parts = head_same r rs n ns same in
    (ap (λ s. s == e.serial) parts.0 ∙ swap_eqb e.serial n.serial other, first_at ns rs k e d.1 parts.1 q)

-- where there is a row there is an element
pub element_at : (ns : List Node) (rows : List CurrentRow) (k : ℕ) (r : CurrentRow) → serials_in rows ≡ serials ns → slice_get rows k ≡ Some r → (e : Node) × (slice_get ns k ≡ Some e)
element_at [] [] k r same q = cc
element_at [] (x ∷ xs) k r same q = cc
element_at (n ∷ ns) [] k r same q = cc
element_at (n ∷ ns) (x ∷ xs) zero r same q = (n, refl)
element_at (n ∷ ns) (x ∷ xs) (suc k) r same q = element_at ns xs k r (head_same x xs n ns same).1 q

pub row_at : (ns : List Node) (rows : List CurrentRow) (k : ℕ) (e : Node) → serials_in rows ≡ serials ns → slice_get ns k ≡ Some e → (r : CurrentRow) × (slice_get rows k ≡ Some r)
row_at [] rows k e same q = cc
row_at (n ∷ ns) [] k e same q = cc
row_at (n ∷ ns) (x ∷ xs) zero e same q = (x, refl)
row_at (n ∷ ns) (x ∷ xs) (suc k) e same q = row_at ns xs k e (head_same x xs n ns same).1 q

pub interval_at : (who : ℕ) (rows : List CurrentRow) (k : ℕ) (r : CurrentRow) → IsFirst who rows k → slice_get rows k ≡ Some r → interval_in rows who ≡ r.interval
interval_at who [] k r is q = elim is [ ]
interval_at who (x ∷ xs) zero r is q =
    let one : x ≡ r = cc in
    cons_interval who x xs ∙ ap (λ t. cond t x.interval (interval_in xs who)) is ∙ ap (λ (y : CurrentRow). y.interval) one
interval_at who (x ∷ xs) (suc k) r is q =
    cons_interval who x xs ∙ ap (λ t. cond t x.interval (interval_in xs who)) is.0 ∙ interval_at who xs k r is.1 q

-- ---- a row put in its place

pub set_at : (who : ℕ) (rows : List CurrentRow) (k : ℕ) (r : CurrentRow) → IsFirst who rows k → slice_get (set rows k r) k ≡ Some r
set_at who [] k r is = elim is [ ]
set_at who (x ∷ xs) zero r is = refl
set_at who (x ∷ xs) (suc k) r is = set_at who xs k r is.1

pub set_elsewhere : (rows : List CurrentRow) (j k : ℕ) (r : CurrentRow) → (j ≡ k → ⊥) → slice_get (set rows k r) j ≡ slice_get rows j
set_elsewhere [] j k r other = refl
set_elsewhere (x ∷ xs) zero zero r other = absurd (other refl)
set_elsewhere (x ∷ xs) zero (suc k) r other = refl
set_elsewhere (x ∷ xs) (suc j) zero r other = refl
set_elsewhere (x ∷ xs) (suc j) (suc k) r other = set_elsewhere xs j k r (λ e. other (ap suc e))

-- ---- intervals by elements

-- where each row has the interval that f gives of its element, so it is for each serial
pub by_elements : (f : Node → Option Interval) (ns : List Node) (rows : List CurrentRow) → serials_in rows ≡ serials ns → ((k : ℕ) (e : Node) (r : CurrentRow) → slice_get ns k ≡ Some e → slice_get rows k ≡ Some r → r.interval ≡ f e) → (s : ℕ) → interval_in rows s ≡ option_and_then f (node_at ns s)
by_elements f [] [] same each s = refl
by_elements f [] (x ∷ xs) same each s = cc
by_elements f (n ∷ ns) [] same each s = cc
by_elements f (n ∷ ns) (x ∷ xs) same each s =
    let parts = head_same x xs n ns same in
    cons_interval s x xs ∙ ap (λ m. cond (m == s) x.interval (interval_in xs s)) parts.0
    ∙ by_test (n.serial == s) (each 0 n x refl refl) (by_elements f ns xs parts.1 (λ k e r p q. each (suc k) e r p q) s)
  where
    by_test : (t : Bool) → x.interval ≡ f n → interval_in xs s ≡ option_and_then f (node_at ns s) → cond t x.interval (interval_in xs s) ≡ option_and_then f (cond t (Some n) (node_at ns s))
    by_test true here later = here
    by_test false here later = later

-- ---- members of a list of serials

pub place_of_member : (s : ℕ) (xs : List ℕ) → has xs s ≡ true → (k : ℕ) × (k < length xs) × (get_or xs k 0 ≡ s)
place_of_member s [] q = cc
place_of_member s (x ∷ xs) q = by_case (or_cases (x == s) (has xs s) q) (place_of_member s xs)
  where
    by_case : (x == s ≡ true) ⊎ (has xs s ≡ true) → (has xs s ≡ true → (k : ℕ) × (k < length xs) × (get_or xs k 0 ≡ s)) → (k : ℕ) × (k < length (x ∷ xs)) × (get_or (x ∷ xs) k 0 ≡ s)
    by_case (inl e) later = (0, omega arith, eqb-true x s e)
    by_case (inr r) later = let found = later r in (suc found.0, omega (arith, found.1), found.2)
