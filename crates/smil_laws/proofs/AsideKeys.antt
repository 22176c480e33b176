-- Two documents that are the same but for the descendants of an element that has not begun: the same least next, but for its place.
use Rattle.std.proofs.Common.{◌≡◌, refl, sym, ◌∙◌, ap, ℕ, suc, ◌<◌, List, [], ◌∷◌, ◌++◌, length, Option, Some, None, ℤ, Bool, true, false, arith, inl, inr}
use Rattle.std.specs.Prelude.{cond, not, nat_lt, ◌==◌, ◌||◌, ◌&&◌, ◌⊎◌, filter, fold, map, option_map, is_some, int_lt, int_le}
use Rattle.std.proofs.lemmas.Bool.{lt-ltb, le-ltb, ne_eqb, eq-eqb}
use Rattle.std.proofs.lemmas.List.Sums.{fold-append}
use Rattle.smil_model.specs.declared.times.Time.{Time}
use Rattle.smil_model.specs.declared.times.Time.TheVariants.{At}
use Rattle.smil_model.specs.declared.diary.Entry.{Entry}
use Rattle.smil_model.specs.declared.diary.LogEntry.{LogEntry}
use Rattle.smil_model.specs.declared.interval.Interval.{Interval}
use Rattle.smil_model.specs.declared.document.Node.{Node}
use Rattle.smil_model.specs.document.Document.{is_element, elements}
use Rattle.smil_model.specs.diary.Diary.{History, is_active}
use Rattle.smil_model.specs.Times.{later_time}
use Rattle.smil_model.specs.diary.Clocks.{stands, outer_stands, iteration_start}
use Rattle.smil_model.specs.interval.Current.{simple_of, table, in_table}
use Rattle.smil_model.specs.declared.happening.TheConstants.{BEGIN_CLASS}
use Rattle.smil_model.specs.happening.Keys.{DueChange, coming_begin, coming_end_at, coming_end, coming_repeat_at, coming_repeat, coming_of, coming_from, coming, comes_before, earlier_coming, first_coming}
use Rattle.smil_laws.specs.Agreement.{DifferBelow, SparesAll}
use Rattle.smil_model.specs.reach.Bounds.{has_begun}
use Rattle.smil_laws.proofs.KeptNodes.{held_same, parent_held_same, parent_time_same, own_same, play_start_same, iteration_start_same, iteration_same}
use Rattle.smil_laws.proofs.AsideDocuments.{NamesAlike, not_aside, each_append, each_filter, filter_swap, inactive, spared, closed}
use Rattle.smil_laws.proofs.AsideIntervals.{simple_same, current_none, current_same}
use Rattle.smil_laws.proofs.Lists.{each_weaker}
use Rattle.std.specs.List.{AllByRecursion}

-- ---- keys at another place

abbrev pub put : ℕ → DueChange → DueChange
put place next = record next { key = record (next.key) { position = place } }

map_append : (f : DueChange → DueChange) (xs ys : List DueChange) → map f (xs ++ ys) ≡ map f xs ++ map f ys
map_append f [] ys = refl
map_append f (x ∷ xs) ys = ap (λ zs. f x ∷ zs) (map_append f xs ys)

cond_map : (f : DueChange → DueChange) (t : Bool) (a b : List DueChange) (c d : List DueChange) → a ≡ map f c → b ≡ map f d → cond t a b ≡ map f (cond t c d)
cond_map f true a b c d p q = p
cond_map f false a b c d p q = q

end_place : (h : History) (now : ℤ) (q : ℕ) (e : Node) (o : Option Interval) → coming_end h now q e o ≡ map (put q) (coming_end h now 0 e o)
end_place h now q e None = refl
end_place h now q e (Some i) = by_end i.«end»
  where
    by_end : (t : Time) → coming_end_at h now q e i.begin t ≡ map (put q) (coming_end_at h now 0 e i.begin t)
    by_end (At v) = refl
    by_end _ = refl

begin_place : (h : History) (now : ℤ) (q : ℕ) (e : Node) (o : Option Interval) → coming_begin h now q e o ≡ map (put q) (coming_begin h now 0 e o)
begin_place h now q e None = refl
begin_place h now q e (Some i) = refl

repeat_at_place : (h : History) (now : ℤ) (q : ℕ) (e : Node) (d t : Time) → coming_repeat_at h now q e d t ≡ map (put q) (coming_repeat_at h now 0 e d t)
repeat_at_place h now q e d (At over) = cond_map (put q) _ _ _ _ _ refl refl
repeat_at_place h now q e d _ = refl

keys_place : (h : History) (J : ℕ → Option Interval) (now : ℤ) (q : ℕ) (e : Node) → coming_of h J now q e ≡ map (put q) (coming_of h J now 0 e)
keys_place h J now q e =
    cond_map (put q) (is_active h.diary e.serial)
    (cond (outer_stands h e.serial) [] (coming_end h now q e (J e.serial)) ++ coming_repeat h (simple_of h J e) now q e)
    (cond (outer_stands h e.serial) [] (coming_begin h now q e (J e.serial)))
    (cond (outer_stands h e.serial) [] (coming_end h now 0 e (J e.serial)) ++ coming_repeat h (simple_of h J e) now 0 e)
    (cond (outer_stands h e.serial) [] (coming_begin h now 0 e (J e.serial)))
    (ap (λ ks. ks ++ coming_repeat h (simple_of h J e) now q e) ends ∙ ap (λ ks. map (put q) (cond (outer_stands h e.serial) [] (coming_end h now 0 e (J e.serial))) ++ ks) repeats ∙ sym (map_append (put q) (cond (outer_stands h e.serial) [] (coming_end h now 0 e (J e.serial))) (coming_repeat h (simple_of h J e) now 0 e)))
    (cond_map (put q) (outer_stands h e.serial) [] (coming_begin h now q e (J e.serial)) [] (coming_begin h now 0 e (J e.serial)) refl (begin_place h now q e (J e.serial)))
  where
    ends : cond (outer_stands h e.serial) [] (coming_end h now q e (J e.serial)) ≡ map (put q) (cond (outer_stands h e.serial) [] (coming_end h now 0 e (J e.serial)))
    ends = cond_map (put q) (outer_stands h e.serial) [] (coming_end h now q e (J e.serial)) [] (coming_end h now 0 e (J e.serial)) refl (end_place h now q e (J e.serial))

    repeats : coming_repeat h (simple_of h J e) now q e ≡ map (put q) (coming_repeat h (simple_of h J e) now 0 e)
    repeats =
        cond_map (put q) ((is_some e.attrs.repeat_count || is_some e.attrs.repeat_dur) && not (stands h e.serial)) (coming_repeat_at h now q e (simple_of h J e) (later_time (simple_of h J e) (iteration_start h e.serial))) [] (coming_repeat_at h now 0 e (simple_of h J e) (later_time (simple_of h J e) (iteration_start h e.serial))) []
        (repeat_at_place h now q e (simple_of h J e) (later_time (simple_of h J e) (iteration_start h e.serial))) refl

-- ---- two first changes that are the same but for their places

record Twins (P : ℕ → ℕ → Type 0) (o1 o2 : Option DueChange) : Type 0 where
  core : Option DueChange
  x1 : ℕ
  x2 : ℕ
  left : o1 ≡ option_map (put x1) core
  right : o2 ≡ option_map (put x2) core
  places : (l : DueChange) → core ≡ Some l → P x1 x2

abbrev Before : ℕ → ℕ → ℕ → ℕ → Type 0
Before p1 p2 x1 x2 = (x1 < p1) × (x2 < p2)

abbrev UpTo : ℕ → ℕ → ℕ → ℕ → Type 0
UpTo p1 p2 x1 x2 = ((x1 < p1) × (x2 < p2)) ⊎ ((x1 ≡ p1) × (x2 ≡ p2))

placed : {P Q : ℕ → ℕ → Type 0} {o1 o2 : Option DueChange} → ((x1 x2 : ℕ) → P x1 x2 → Q x1 x2) → Twins P o1 o2 → Twins Q o1 o2
placed f t = record { core = t.core; x1 = t.x1; x2 = t.x2; left = t.left; right = t.right; places = λ l q. f t.x1 t.x2 (t.places l q) }

abbrev order_at : Bool → Bool → ℕ → ℕ → Bool
order_at late same p x = cond (p == x) same (cond late (nat_lt p x) (nat_lt x p))

order_lt : (late same : Bool) (p x : ℕ) → x < p → order_at late same p x ≡ cond late false true
order_lt late same p x l =
    let differ : p == x ≡ false = ne_eqb p x (λ q. absurd (omega (arith, q, l))) in
    let no : nat_lt p x ≡ false = le-ltb p x (omega (arith, l)) in
    let so : nat_lt x p ≡ true = lt-ltb x p l in
    ap (λ t. cond t same (cond late (nat_lt p x) (nat_lt x p))) differ ∙ ap (λ t. cond late t (nat_lt x p)) no ∙ ap (λ t. cond late false t) so

order_eq : (late same : Bool) (p x : ℕ) → x ≡ p → order_at late same p x ≡ same
order_eq late same p x q = ap (λ t. cond t same (cond late (nat_lt p x) (nat_lt x p))) (eq-eqb p x (sym q))

order_same : (late same : Bool) (p1 p2 x1 x2 : ℕ) → UpTo p1 p2 x1 x2 → order_at late same p1 x1 ≡ order_at late same p2 x2
order_same late same p1 p2 x1 x2 (inl l) = order_lt late same p1 x1 l.0 ∙ sym (order_lt late same p2 x2 l.1)
order_same late same p1 p2 x1 x2 (inr e) = order_eq late same p1 x1 e.0 ∙ sym (order_eq late same p2 x2 e.1)

comes_same : (next l : DueChange) (p1 p2 x1 x2 : ℕ) → UpTo p1 p2 x1 x2 → comes_before (put p1 next).key (put x1 l).key ≡ comes_before (put p2 next).key (put x2 l).key
comes_same next l p1 p2 x1 x2 u =
    ap (λ t. int_lt next.key.value l.key.value || (int_le next.key.value l.key.value && (nat_lt next.key.class l.key.class || ((next.key.class == l.key.class) && t))))
    (order_same (next.key.class == BEGIN_CLASS) (not (next.key.repeat) && l.key.repeat) p1 p2 x1 x2 u)

twin_step : (next : DueChange) (p1 p2 : ℕ) (o1 o2 : Option DueChange) → Twins (UpTo p1 p2) o1 o2 → Twins (UpTo p1 p2) (earlier_coming o1 (put p1 next)) (earlier_coming o2 (put p2 next))
twin_step next p1 p2 o1 o2 t = by_core t.core t.left t.right t.places
  where
    by_core : (c : Option DueChange) → o1 ≡ option_map (put t.x1) c → o2 ≡ option_map (put t.x2) c → ((l : DueChange) → c ≡ Some l → UpTo p1 p2 t.x1 t.x2) → Twins (UpTo p1 p2) (earlier_coming o1 (put p1 next)) (earlier_coming o2 (put p2 next))
    by_core None q r s =
        record { core = Some next; x1 = p1; x2 = p2; left = ap (λ o. earlier_coming o (put p1 next)) q; right = ap (λ o. earlier_coming o (put p2 next)) r; places = λ _ _. inr (refl, refl) }
    by_core (Some l) q r s =
        by_order (comes_before (put p2 next).key (put t.x2 l).key)
        (ap (λ o. earlier_coming o (put p1 next)) q ∙ ap (λ b. cond b (Some (put p1 next)) (Some (put t.x1 l))) (comes_same next l p1 p2 t.x1 t.x2 (s l refl)))
        (ap (λ o. earlier_coming o (put p2 next)) r)
      where
        by_order : (b : Bool) → earlier_coming o1 (put p1 next) ≡ cond b (Some (put p1 next)) (Some (put t.x1 l)) → earlier_coming o2 (put p2 next) ≡ cond b (Some (put p2 next)) (Some (put t.x2 l)) → Twins (UpTo p1 p2) (earlier_coming o1 (put p1 next)) (earlier_coming o2 (put p2 next))
        by_order true f g = record { core = Some next; x1 = p1; x2 = p2; left = f; right = g; places = λ _ _. inr (refl, refl) }
        by_order false f g = record { core = Some l; x1 = t.x1; x2 = t.x2; left = f; right = g; places = λ _ _. s l refl }

twin_fold : (ks : List DueChange) (p1 p2 : ℕ) (o1 o2 : Option DueChange) → Twins (UpTo p1 p2) o1 o2 → Twins (UpTo p1 p2) (fold earlier_coming o1 (map (put p1) ks)) (fold earlier_coming o2 (map (put p2) ks))
twin_fold [] p1 p2 o1 o2 t = t
twin_fold (next ∷ ks) p1 p2 o1 o2 t = twin_fold ks p1 p2 (earlier_coming o1 (put p1 next)) (earlier_coming o2 (put p2 next)) (twin_step next p1 p2 o1 o2 t)

module _ (aside : ℕ → Bool) (h : History) (J : ℕ → Option Interval) (now : ℤ) (empty : (e : Node) (q : ℕ) → aside e.serial ≡ true → coming_of h J now q e ≡ []) where
  -- elements of which nothing comes can be left out
  sifted : (ns : List Node) (p1 p2 : ℕ) (o1 o2 : Option DueChange) → Twins (Before p1 p2) o1 o2 → Twins (λ x1 x2. Unit {0}) (fold earlier_coming o1 (coming_from h J now p1 ns)) (fold earlier_coming o2 (coming_from h J now p2 (filter (λ (n : Node). not (aside n.serial)) ns)))
  sifted [] p1 p2 o1 o2 t = placed (λ x1 x2 l. tt) t
  sifted (n ∷ ns) p1 p2 o1 o2 t = step (aside n.serial) refl (sifted ns)
    where
      step : (b : Bool) → aside n.serial ≡ b → ((q1 q2 : ℕ) (a1 a2 : Option DueChange) → Twins (Before q1 q2) a1 a2 → Twins (λ x1 x2. Unit {0}) (fold earlier_coming a1 (coming_from h J now q1 ns)) (fold earlier_coming a2 (coming_from h J now q2 (filter (λ (n : Node). not (aside n.serial)) ns)))) → Twins (λ x1 x2. Unit {0}) (fold earlier_coming o1 (coming_of h J now p1 n ++ coming_from h J now (suc p1) ns)) (fold earlier_coming o2 (coming_from h J now p2 (cond (not b) (n ∷ filter (λ (n : Node). not (aside n.serial)) ns) (filter (λ (n : Node). not (aside n.serial)) ns))))
      step true a rest =
          let r = rest (suc p1) p2 o1 o2 (placed (λ x1 x2 l. (omega (arith, l.0), l.1)) t) in
          record { core = r.core; x1 = r.x1; x2 = r.x2; left = ap (λ ks. fold earlier_coming o1 (ks ++ coming_from h J now (suc p1) ns)) (empty n p1 a) ∙ r.left; right = r.right; places = λ _ _. tt }
      step false a rest =
          let mid = twin_fold (coming_of h J now 0 n) p1 p2 o1 o2 (placed (λ x1 x2 l. inl l) t) in
          let r = rest (suc p1) (suc p2) (fold earlier_coming o1 (map (put p1) (coming_of h J now 0 n))) (fold earlier_coming o2 (map (put p2) (coming_of h J now 0 n))) (placed (λ x1 x2 u. later x1 x2 u) mid) in
          record {
            core = r.core;
            x1 = r.x1;
            x2 = r.x2;
            left = fold-append earlier_coming o1 (coming_of h J now p1 n) (coming_from h J now (suc p1) ns) ∙ ap (λ ks. fold earlier_coming (fold earlier_coming o1 ks) (coming_from h J now (suc p1) ns)) (keys_place h J now p1 n) ∙ r.left;
            right = fold-append earlier_coming o2 (coming_of h J now p2 n) (coming_from h J now (suc p2) (filter (λ (n : Node). not (aside n.serial)) ns)) ∙ ap (λ ks. fold earlier_coming (fold earlier_coming o2 ks) (coming_from h J now (suc p2) (filter (λ (n : Node). not (aside n.serial)) ns))) (keys_place h J now p2 n) ∙ r.right;
            places = λ _ _. tt;
          }
        where
          later : (x1 x2 : ℕ) → UpTo p1 p2 x1 x2 → Before (suc p1) (suc p2) x1 x2
          later x1 x2 (inl l) = (omega (arith, l.0), omega (arith, l.1))
          later x1 x2 (inr e) = (omega (arith, e.0), omega (arith, e.1))

abbrev pub bare : Option DueChange → Option DueChange
bare o = option_map (put 0) o

bare_put : (x : ℕ) (c : Option DueChange) → bare (option_map (put x) c) ≡ bare c
bare_put x None = refl
bare_put x (Some next) = refl

twins_bare : {o1 o2 : Option DueChange} → Twins (λ x1 x2. Unit {0}) o1 o2 → bare o1 ≡ bare o2
twins_bare t = ap bare t.left ∙ bare_put t.x1 t.core ∙ sym (bare_put t.x2 t.core) ∙ sym (ap bare t.right)

-- ---- the element of a next

keys_serial : (h : History) (J : ℕ → Option Interval) (now : ℤ) (q : ℕ) (e : Node) → AllByRecursion (λ (next : DueChange). next.key.serial ≡ e.serial) (coming_of h J now q e)
keys_serial h J now q e =
    either (is_active h.diary e.serial) _ _
    (each_append (λ (next : DueChange). next.key.serial ≡ e.serial) (cond (outer_stands h e.serial) [] (coming_end h now q e (J e.serial))) (coming_repeat h (simple_of h J e) now q e)
    (either (outer_stands h e.serial) [] (coming_end h now q e (J e.serial)) tt (ends (J e.serial)))
    (either ((is_some e.attrs.repeat_count || is_some e.attrs.repeat_dur) && not (stands h e.serial)) (coming_repeat_at h now q e (simple_of h J e) (later_time (simple_of h J e) (iteration_start h e.serial))) [] (repeats (simple_of h J e) (later_time (simple_of h J e) (iteration_start h e.serial))) tt))
    (either (outer_stands h e.serial) [] (coming_begin h now q e (J e.serial)) tt (begins (J e.serial)))
  where
    either : (t : Bool) (a b : List DueChange) → AllByRecursion (λ (next : DueChange). next.key.serial ≡ e.serial) a → AllByRecursion (λ (next : DueChange). next.key.serial ≡ e.serial) b → AllByRecursion (λ (next : DueChange). next.key.serial ≡ e.serial) (cond t a b)
    either true a b x y = x
    either false a b x y = y

    row : (t : Bool) (next : DueChange) → next.key.serial ≡ e.serial → AllByRecursion (λ (next : DueChange). next.key.serial ≡ e.serial) (cond t (next ∷ []) [])
    row true next r = (r, tt)
    row false next r = tt

    at_end : (b : ℤ) (t : Time) → AllByRecursion (λ (next : DueChange). next.key.serial ≡ e.serial) (coming_end_at h now q e b t)
    at_end b (At v) = (refl, tt)
    at_end b _ = tt

    ends : (o : Option Interval) → AllByRecursion (λ (next : DueChange). next.key.serial ≡ e.serial) (coming_end h now q e o)
    ends None = tt
    ends (Some i) = at_end i.begin i.«end»

    begins : (o : Option Interval) → AllByRecursion (λ (next : DueChange). next.key.serial ≡ e.serial) (coming_begin h now q e o)
    begins None = tt
    begins (Some i) = (refl, tt)

    repeats : (d t : Time) → AllByRecursion (λ (next : DueChange). next.key.serial ≡ e.serial) (coming_repeat_at h now q e d t)
    repeats d (At over) = row _ _ refl
    repeats d _ = tt

least_each : (P : DueChange → Type 0) (ks : List DueChange) (o : Option DueChange) (next : DueChange) → AllByRecursion P ks → ((l : DueChange) → o ≡ Some l → P l) → fold earlier_coming o ks ≡ Some next → P next
least_each P [] o next each start q = start next q
least_each P (l ∷ ks) o next each start q = least_each P ks (earlier_coming o l) next each.1 (λ m r. by_option o m start r) q
  where
    by_option : (o : Option DueChange) (m : DueChange) → ((l : DueChange) → o ≡ Some l → P l) → earlier_coming o l ≡ Some m → P m
    by_option None m s r = let one : l ≡ m = cc in rw (← one) each.0
    by_option (Some k) m s r = by_test (comes_before l.key k.key) r
      where
        by_test : (t : Bool) → cond t (Some l) (Some k) ≡ Some m → P m
        by_test true r = let one : l ≡ m = cc in rw (← one) each.0
        by_test false r = s m r

-- ---- two documents

module _ (aside : ℕ → Bool) (p : ℕ) (n1 n2 : List Node) (differ : DifferBelow aside p n1 n2) (log1 log2 : List LogEntry) (ds : List Entry) (free : SparesAll aside ds) (never : has_begun ds p ≡ false) (named : NamesAlike log1 log2 ds) (now : ℤ) where
  abbrev k : ℕ → Bool
  k s = not (aside s)

  abbrev h1 : History
  h1 = record { nodes = n1; log = log1; diary = ds }

  abbrev h2 : History
  h2 = record { nodes = n2; log = log2; diary = ds }

  abbrev J1 : ℕ → Option Interval
  J1 = in_table (table h1 now (length (elements n1)))

  abbrev J2 : ℕ → Option Interval
  J2 = in_table (table h2 now (length (elements n2)))

  agree : (x : ℕ) → J1 x ≡ J2 x
  agree x = current_same aside p n1 n2 differ log1 log2 ds free never named now x

  no_keys : (h : History) → h.diary ≡ ds → (J : ℕ → Option Interval) → ((s : ℕ) → aside s ≡ true → J s ≡ None) → (e : Node) (q : ℕ) → aside e.serial ≡ true → coming_of h J now q e ≡ []
  no_keys h d J none e q a =
      ap (λ t. cond t (cond (outer_stands h e.serial) [] (coming_end h now q e (J e.serial)) ++ coming_repeat h (simple_of h J e) now q e) (cond (outer_stands h e.serial) [] (coming_begin h now q e (J e.serial))))
      (ap (λ xs. is_active xs e.serial) d ∙ inactive ds e.serial (spared aside p ds e.serial free a))
      ∙ ap (λ o. cond (outer_stands h e.serial) [] (coming_begin h now q e o)) (none e.serial a)
      ∙ both (outer_stands h e.serial)
    where
      both : (t : Bool) → cond {A = List DueChange} t [] [] ≡ []
      both true = refl
      both false = refl

  module _ (q : ℕ) (e : Node) (a : aside e.serial ≡ false) where
    end_same : (o : Option Interval) → coming_end h1 now q e o ≡ coming_end h2 now q e o
    end_same None = refl
    end_same (Some i) = by_end i.«end»
      where
        by_end : (t : Time) → coming_end_at h1 now q e i.begin t ≡ coming_end_at h2 now q e i.begin t
        by_end (At v) = rw (parent_time_same k n1 n2 differ.same (closed aside p n1 differ.in_old) (closed aside p n2 differ.in_new) log1 log2 ds e.serial now (ap not a))
        by_end _ = refl

    begin_same : (o : Option Interval) → coming_begin h1 now q e o ≡ coming_begin h2 now q e o
    begin_same None = refl
    begin_same (Some i) = rw (parent_time_same k n1 n2 differ.same (closed aside p n1 differ.in_old) (closed aside p n2 differ.in_new) log1 log2 ds e.serial now (ap not a))

    repeat_at_same : (d t : Time) → coming_repeat_at h1 now q e d t ≡ coming_repeat_at h2 now q e d t
    repeat_at_same d (At over) =
        rw (iteration_start_same k n1 n2 differ.same (closed aside p n1 differ.in_old) (closed aside p n2 differ.in_new) log1 log2 ds e.serial (ap not a), play_start_same k n1 n2 differ.same (closed aside p n1 differ.in_old) (closed aside p n2 differ.in_new) log1 log2 ds e.serial (ap not a), iteration_same k n1 n2 differ.same (closed aside p n1 differ.in_old) (closed aside p n2 differ.in_new) log1 log2 ds e.serial (ap not a), own_same k n1 n2 differ.same (closed aside p n1 differ.in_old) (closed aside p n2 differ.in_new) log1 log2 ds e.serial now (ap not a))
    repeat_at_same d _ = refl

    repeat_same : coming_repeat h1 (simple_of h1 J1 e) now q e ≡ coming_repeat h2 (simple_of h2 J2 e) now q e
    repeat_same =
        ap (λ t. cond ((is_some e.attrs.repeat_count || is_some e.attrs.repeat_dur) && not t) (coming_repeat_at h1 now q e (simple_of h1 J1 e) (later_time (simple_of h1 J1 e) (iteration_start h1 e.serial))) []) (held_same k n1 n2 differ.same (closed aside p n1 differ.in_old) (closed aside p n2 differ.in_new) log1 log2 ds ds e.serial (ap not a))
        ∙ ap (λ ks. cond ((is_some e.attrs.repeat_count || is_some e.attrs.repeat_dur) && not (stands h2 e.serial)) ks [])
        (ap (λ d. coming_repeat_at h1 now q e d (later_time d (iteration_start h1 e.serial))) (simple_same aside p n1 n2 differ log1 log2 ds free never named J1 J2 agree e a)
        ∙ ap (λ s. coming_repeat_at h1 now q e (simple_of h2 J2 e) (later_time (simple_of h2 J2 e) s)) (iteration_start_same k n1 n2 differ.same (closed aside p n1 differ.in_old) (closed aside p n2 differ.in_new) log1 log2 ds e.serial (ap not a))
        ∙ repeat_at_same (simple_of h2 J2 e) (later_time (simple_of h2 J2 e) (iteration_start h2 e.serial)))

    keys_same : coming_of h1 J1 now q e ≡ coming_of h2 J2 now q e
    keys_same =
        ap (λ t. cond (is_active ds e.serial) (cond t [] (coming_end h1 now q e (J1 e.serial)) ++ coming_repeat h1 (simple_of h1 J1 e) now q e) (cond t [] (coming_begin h1 now q e (J1 e.serial)))) (parent_held_same k n1 n2 differ.same (closed aside p n1 differ.in_old) (closed aside p n2 differ.in_new) log1 log2 ds e.serial (ap not a))
        ∙ ap (λ o. cond (is_active ds e.serial) (cond (outer_stands h2 e.serial) [] (coming_end h1 now q e o) ++ coming_repeat h1 (simple_of h1 J1 e) now q e) (cond (outer_stands h2 e.serial) [] (coming_begin h1 now q e o))) (agree e.serial)
        ∙ ap (λ ks. cond (is_active ds e.serial) (cond (outer_stands h2 e.serial) [] ks ++ coming_repeat h1 (simple_of h1 J1 e) now q e) (cond (outer_stands h2 e.serial) [] (coming_begin h1 now q e (J2 e.serial)))) (end_same (J2 e.serial))
        ∙ ap (λ ks. cond (is_active ds e.serial) (cond (outer_stands h2 e.serial) [] (coming_end h2 now q e (J2 e.serial)) ++ ks) (cond (outer_stands h2 e.serial) [] (coming_begin h1 now q e (J2 e.serial)))) repeat_same
        ∙ ap (λ ks. cond (is_active ds e.serial) (cond (outer_stands h2 e.serial) [] (coming_end h2 now q e (J2 e.serial)) ++ coming_repeat h2 (simple_of h2 J2 e) now q e) (cond (outer_stands h2 e.serial) [] ks)) (begin_same (J2 e.serial))

  all_same : (ns : List Node) (q : ℕ) → AllByRecursion (λ (n : Node). aside n.serial ≡ false) ns → coming_from h1 J1 now q ns ≡ coming_from h2 J2 now q ns
  all_same [] q each = refl
  all_same (n ∷ ns) q each = ap (λ ks. ks ++ coming_from h1 J1 now (suc q) ns) (keys_same q n each.0) ∙ ap (λ ks. coming_of h2 J2 now q n ++ ks) (all_same ns (suc q) each.1)

  kept_keys : (h : History) (J : ℕ → Option Interval) (ns : List Node) (q : ℕ) → AllByRecursion (λ (n : Node). aside n.serial ≡ false) ns → AllByRecursion (λ (next : DueChange). aside next.key.serial ≡ false) (coming_from h J now q ns)
  kept_keys h J [] q each = tt
  kept_keys h J (n ∷ ns) q each =
      each_append (λ (next : DueChange). aside next.key.serial ≡ false) (coming_of h J now q n) (coming_from h J now (suc q) ns)
      (each_weaker (λ (next : DueChange). next.key.serial ≡ n.serial) (λ (next : DueChange). aside next.key.serial ≡ false) (coming_of h J now q n) (keys_serial h J now q n) (λ next r. ap aside r ∙ each.0))
      (kept_keys h J ns (suc q) each.1)

  start : Twins (Before 0 0) None None
  start = record { core = None; x1 = 0; x2 = 0; left = refl; right = refl; places = λ l q. let never : true ≡ false = cc in cc }

  elements_same : filter (λ (n : Node). not (aside n.serial)) (elements n1) ≡ filter (λ (n : Node). not (aside n.serial)) (elements n2)
  elements_same = filter_swap (λ (n : Node). k n.serial) is_element n1 ∙ ap (filter is_element) differ.same ∙ sym (filter_swap (λ (n : Node). k n.serial) is_element n2)

  abbrev rest1 : List Node
  rest1 = filter (λ (n : Node). not (aside n.serial)) (elements n1)

  rest_kept : AllByRecursion (λ (n : Node). aside n.serial ≡ false) rest1
  rest_kept = each_filter (λ (n : Node). aside n.serial ≡ false) (λ (n : Node). not (aside n.serial)) (elements n1) (λ n t. not_aside aside p n.serial t)

  none : (s : ℕ) → aside s ≡ true → J1 s ≡ None
  none s a = current_none aside p n1 n2 differ log1 log2 ds free never named now s a

  sift1 : bare (first_coming (coming h1 now)) ≡ bare (first_coming (coming_from h1 J1 now 0 rest1))
  sift1 = twins_bare (sifted aside h1 J1 now (no_keys h1 refl J1 none) (elements n1) 0 0 None None start)

  sift2 : bare (first_coming (coming h2 now)) ≡ bare (first_coming (coming_from h2 J2 now 0 (filter (λ (n : Node). not (aside n.serial)) (elements n2))))
  sift2 = twins_bare (sifted aside h2 J2 now (no_keys h2 refl J2 (λ s a. sym (agree s) ∙ none s a)) (elements n2) 0 0 None None start)

  -- what comes first is the same but for their places
  pub least_same : bare (first_coming (coming h1 now)) ≡ bare (first_coming (coming h2 now))
  least_same =
      sift1 ∙ ap (λ ks. bare (first_coming ks)) (all_same rest1 0 rest_kept ∙ ap (coming_from h2 J2 now 0) elements_same) ∙ sym sift2

  -- and none of them is of an element that is set aside
  pub least_kept : (next : DueChange) → first_coming (coming h1 now) ≡ Some next → aside next.key.serial ≡ false
  least_kept next q = by_option (first_coming (coming_from h1 J1 now 0 rest1)) refl (sym (ap bare q) ∙ sift1)
    where
      by_option : (o : Option DueChange) → first_coming (coming_from h1 J1 now 0 rest1) ≡ o → Some (put 0 next) ≡ bare o → aside next.key.serial ≡ false
      by_option None r e = cc
      by_option (Some l) r e =
          let one : put 0 next ≡ put 0 l = cc in
          ap (λ (y : DueChange). aside y.key.serial) one
          ∙ least_each (λ (y : DueChange). aside y.key.serial ≡ false) (coming_from h1 J1 now 0 rest1) None l (kept_keys h1 J1 rest1 0 rest_kept) (λ y d. cc) r
