-- Documents that are the same but for the descendants of an element that has not begun: the same current intervals.
use Rattle.std.proofs.Common.{◌≡◌, refl, sym, ◌∙◌, ap, ℕ, suc, zero, List, [], ◌∷◌, ◌++◌, Option, Some, None, ℤ, Bool, true, false}
use Rattle.std.specs.Prelude.{cond, not, ◌==◌, ◌||◌, reverse, drop, find, filter, fold, map, filter_map, is_some, slice_get, unwrap_or}
use Rattle.std.specs.List.{AllByRecursion, list_any, cons_option}
use Rattle.std.proofs.lemmas.Bool.{or_parts, and_parts, eqb-true}
use Rattle.std.proofs.lemmas.List.{reverse-append}
use Rattle.smil_model.specs.declared.times.Time.{Time}
use Rattle.smil_model.specs.declared.times.Time.TheVariants.{Unresolved}
use Rattle.smil_model.specs.declared.diary.Entry.{Entry}
use Rattle.smil_model.specs.declared.diary.LogEntry.{LogEntry}
use Rattle.smil_model.specs.declared.interval.Interval.{Interval}
use Rattle.smil_model.specs.declared.diary.Step.{Step}
use Rattle.smil_model.specs.declared.diary.Step.TheVariants.{Began, Ended, Cut, Logged}
use Rattle.smil_model.specs.declared.diary.StepKind.TheVariants as kind
use Rattle.smil_model.specs.declared.document.Node.{Node}
use Rattle.smil_model.specs.declared.document.Item.{Item}
use Rattle.smil_model.specs.document.Document.{is_element, elements, node_at, upwards, time_parent, has_serial, is_time_child}
use Rattle.smil_model.specs.diary.Diary.{is_active, active_after, is_alive, lives_under, with_past, is_step}
use Rattle.smil_model.specs.interval.Instances.{is_event, is_log_event, is_press}
use Rattle.smil_model.specs.interval.Current.{interval_given, length_after, length_of, media_length}
use Rattle.smil_laws.specs.Agreement.{IsPlaced, IsAside, is_on, SparesAll}
use Rattle.smil_model.specs.reach.Bounds.{has_begun}
use Rattle.smil_model.specs.reach.Reach.{is_option, logged_key}
use Rattle.smil_laws.proofs.KeptNodes.{KeepsParents}

-- ---- lists

pub each_append : {A : Type 0} (P : A → Type 0) (xs ys : List A) → AllByRecursion P xs → AllByRecursion P ys → AllByRecursion P (xs ++ ys)
each_append P [] ys p q = q
each_append P (x ∷ xs) ys p q = (p.0, each_append P xs ys p.1 q)

pub each_reverse : {A : Type 0} (P : A → Type 0) (xs : List A) → AllByRecursion P xs → AllByRecursion P (reverse xs)
each_reverse P [] p = tt
each_reverse P (x ∷ xs) p = rw (reverse-append (x ∷ []) xs) (each_append P (reverse xs) (x ∷ []) (each_reverse P xs p.1) (p.0, tt))

pub each_drop : {A : Type 0} (P : A → Type 0) (k : ℕ) (xs : List A) → AllByRecursion P xs → AllByRecursion P (drop k xs)
each_drop P zero xs p = p
each_drop P (suc k) [] p = tt
each_drop P (suc k) (x ∷ xs) p = each_drop P k xs p.1

pub each_filter : (P : Node → Type 0) (t : Node → Bool) (ns : List Node) → ((n : Node) → t n ≡ true → P n) → AllByRecursion P (filter t ns)
each_filter P t [] f = tt
each_filter P t (n ∷ ns) f = step (t n) (f n) (each_filter P t ns f)
  where
    step : (b : Bool) → (b ≡ true → P n) → AllByRecursion P (filter t ns) → AllByRecursion P (cond b (n ∷ filter t ns) (filter t ns))
    step true g r = (g refl, r)
    step false g r = r

pub find_each : (P : Node → Type 0) (t : Node → Bool) (ns : List Node) (n : Node) → AllByRecursion P ns → find t ns ≡ Some n → P n
find_each P t [] n each q = cc
find_each P t (m ∷ ms) n each q = step (t m) q (find_each P t ms n each.1)
  where
    step : (b : Bool) → cond b (Some m) (find t ms) ≡ Some n → (find t ms ≡ Some n → P n) → P n
    step true r later = let one : m ≡ n = cc in rw (← one) each.0
    step false r later = later r

pub find_true : (t : Node → Bool) (ns : List Node) (n : Node) → find t ns ≡ Some n → t n ≡ true
find_true t [] n q = cc
find_true t (m ∷ ms) n q = step (t m) refl q (find_true t ms n)
  where
    step : (b : Bool) → t m ≡ b → cond b (Some m) (find t ms) ≡ Some n → (find t ms ≡ Some n → t n ≡ true) → t n ≡ true
    step true e r later = let one : m ≡ n = cc in rw (← one) e
    step false e r later = later r

pub map_all : {A B : Type 0} (P : A → Type 0) (f g : A → B) (xs : List A) → AllByRecursion P xs → ((x : A) → P x → f x ≡ g x) → map f xs ≡ map g xs
map_all P f g [] p s = refl
map_all P f g (x ∷ xs) p s = ap (λ y. y ∷ map f xs) (s x p.0) ∙ ap (λ ys. g x ∷ ys) (map_all P f g xs p.1 s)

pub filter_map_all : {A B : Type 0} (P : A → Type 0) (f g : A → Option B) (xs : List A) → AllByRecursion P xs → ((x : A) → P x → f x ≡ g x) → filter_map f xs ≡ filter_map g xs
filter_map_all P f g [] p s = refl
filter_map_all P f g (x ∷ xs) p s = ap (λ o. cons_option o (filter_map f xs)) (s x p.0) ∙ ap (λ r. cons_option (g x) r) (filter_map_all P f g xs p.1 s)

pub filter_map_none : {A B : Type 0} (P : A → Type 0) (f : A → Option B) (xs : List A) → AllByRecursion P xs → ((x : A) → P x → f x ≡ None) → filter_map f xs ≡ []
filter_map_none P f [] p s = refl
filter_map_none P f (x ∷ xs) p s = ap (λ o. cons_option o (filter_map f xs)) (s x p.0) ∙ filter_map_none P f xs p.1 s

pub any_each : (f g : Item → Bool) (xs : List Item) → ((x : Item) → f x ≡ g x) → list_any f xs ≡ list_any g xs
any_each f g [] s = refl
any_each f g (x ∷ xs) s = ap (λ t. t || list_any f xs) (s x) ∙ ap (λ t. g x || t) (any_each f g xs s)

pub find_within : (p q : Node → Bool) (ns : List Node) → ((n : Node) → p n ≡ true → q n ≡ true) → find p ns ≡ find p (filter q ns)
find_within p q [] f = refl
find_within p q (n ∷ ns) f = step (p n) (q n) refl (f n) (find_within p q ns f)
  where
    step : (t u : Bool) → p n ≡ t → (p n ≡ true → u ≡ true) → find p ns ≡ find p (filter q ns) → cond t (Some n) (find p ns) ≡ find p (cond u (n ∷ filter q ns) (filter q ns))
    step true true e g r = sym (ap (λ t. cond t (Some n) (find p (filter q ns))) e)
    step true false e g r = let never : false ≡ true = g e in cc
    step false true e g r = r ∙ sym (ap (λ t. cond t (Some n) (find p (filter q ns))) e)
    step false false e g r = r

pub filter_swap : (p q : Node → Bool) (ns : List Node) → filter p (filter q ns) ≡ filter q (filter p ns)
filter_swap p q [] = refl
filter_swap p q (n ∷ ns) = step (p n) (q n) refl refl (filter_swap p q ns)
  where
    step : (t u : Bool) → p n ≡ t → q n ≡ u → filter p (filter q ns) ≡ filter q (filter p ns) → filter p (cond u (n ∷ filter q ns) (filter q ns)) ≡ filter q (cond t (n ∷ filter p ns) (filter p ns))
    step true true e d r =
        ap (λ t. cond t (n ∷ filter p (filter q ns)) (filter p (filter q ns))) e ∙ ap (λ xs. n ∷ xs) r ∙ sym (ap (λ t. cond t (n ∷ filter q (filter p ns)) (filter q (filter p ns))) d)
    step true false e d r = r ∙ sym (ap (λ t. cond t (n ∷ filter q (filter p ns)) (filter q (filter p ns))) d)
    step false true e d r = ap (λ t. cond t (n ∷ filter p (filter q ns)) (filter p (filter q ns))) e ∙ r
    step false false e d r = r

pub with_past_each : (P : Entry → Type 0) (before ds : List Entry) → AllByRecursion P ds → AllByRecursion (λ (w : List Entry × Entry). P w.1) (with_past before ds)
with_past_each P before [] p = tt
with_past_each P before (x ∷ xs) p = (p.0, with_past_each P (before ++ x ∷ []) xs p.1)

-- an element without a begin is not active
pub inactive : (ds : List Entry) (s : ℕ) → has_begun ds s ≡ false → is_active ds s ≡ false
inactive ds s q = go ds q
  where
    step : (x : Step) → is_step kind.Began s x ≡ false → active_after s false x ≡ false
    step (Began who begin) q = ap (λ t. t || false) q
    step (Ended who end') q = same (who == s)
      where
        same : (t : Bool) → cond t false false ≡ false
        same true = refl
        same false = refl
    step (Cut who) q = same (who == s)
      where
        same : (t : Bool) → cond t false false ≡ false
        same true = refl
        same false = refl
    step _ q = refl

    go : (xs : List Entry) → has_begun xs s ≡ false → is_active xs s ≡ false
    go [] q = refl
    go (x ∷ xs) q =
        let parts = or_parts (is_step kind.Began s x.step) (has_begun xs s) q in
        ap (λ b. fold (λ before (y : Entry). active_after s before y.step) b xs) (step x.step parts.0) ∙ go xs parts.1

-- two logs that agree on the places that a diary names
abbrev pub SameLogged : List LogEntry → List LogEntry → Step → Type 0
SameLogged log1 log2 (Logged place) = slice_get log1 place ≡ slice_get log2 place
SameLogged log1 log2 _ = Unit {0}

abbrev pub NamesAlike : List LogEntry → List LogEntry → List Entry → Type 0
NamesAlike log1 log2 ds = AllByRecursion (λ (x : Entry). SameLogged log1 log2 x.step) ds

pub names_itself : (log : List LogEntry) (ds : List Entry) → NamesAlike log log ds
names_itself log [] = tt
names_itself log (x ∷ xs) = (by_step x.step, names_itself log xs)
  where
    by_step : (step : Step) → SameLogged log log step
    by_step (Logged place) = refl
    by_step _ = tt

-- what is read of the two logs
module _ (log1 log2 : List LogEntry) where
  pub event_same : (x : ℕ) (name : List ℕ) (step : Step) → SameLogged log1 log2 step → is_event log1 x name step ≡ is_event log2 x name step
  event_same x name (Logged place) q = ap (is_log_event x name) q
  event_same x name _ q = refl

  pub press_same : (key : ℕ) (step : Step) → SameLogged log1 log2 step → is_press log1 key step ≡ is_press log2 key step
  press_same key (Logged place) q = ap (λ o. is_option key (logged_key o)) q
  press_same key _ q = refl

  length_same : (s : ℕ) (before : Option Time) (step : Step) → SameLogged log1 log2 step → length_after log1 s before step ≡ length_after log2 s before step
  length_same s before (Logged place) q = ap (λ o. length_of s o before) q
  length_same s before _ q = refl

  lengths_same : (s : ℕ) (before : Option Time) (xs : List Entry) → NamesAlike log1 log2 xs → fold (λ b (x : Entry). length_after log1 s b x.step) before xs ≡ fold (λ b (x : Entry). length_after log2 s b x.step) before xs
  lengths_same s before [] named = refl
  lengths_same s before (x ∷ xs) named =
      ap (λ b. fold (λ b (x : Entry). length_after log1 s b x.step) b xs) (length_same s before x.step named.0) ∙ lengths_same s (length_after log2 s before x.step) xs named.1

  pub media_same : (n1 n2 : List Node) (ds : List Entry) → NamesAlike log1 log2 ds → (s : ℕ) → media_length (record { nodes = n1; log = log1; diary = ds }) s ≡ media_length (record { nodes = n2; log = log2; diary = ds }) s
  media_same n1 n2 ds named s = ap (λ o. unwrap_or o Unresolved) (lengths_same s None ds named)

pub each_both : {A : Type 0} (P Q : A → Type 0) (xs : List A) → AllByRecursion P xs → AllByRecursion Q xs → AllByRecursion (λ x. P x × Q x) xs
each_both P Q [] p q = tt
each_both P Q (x ∷ xs) p q = ((p.0, q.0), each_both P Q xs p.1 q.1)

module _ (aside : ℕ → Bool) (p : ℕ) where
  abbrev pub is_out : ℕ → Bool
  is_out s = (s == p) || aside s

  abbrev kept : ℕ → Bool
  kept s = not (aside s)

  pub not_aside : (s : ℕ) → kept s ≡ true → aside s ≡ false
  not_aside s q = by_case (aside s) q
    where
      by_case : (t : Bool) → not t ≡ true → t ≡ false
      by_case true r = let never : false ≡ true = r in cc
      by_case false r = refl

  pub is_aside : (s : ℕ) → kept s ≡ false → aside s ≡ true
  is_aside s q = by_case (aside s) q
    where
      by_case : (t : Bool) → not t ≡ false → t ≡ true
      by_case true r = refl
      by_case false r = let never : true ≡ false = r in cc

  pub other_who : (who s : ℕ) → aside who ≡ false → aside s ≡ true → who == s ≡ false
  other_who who s q r = by_case (who == s) refl
    where
      by_case : (t : Bool) → who == s ≡ t → who == s ≡ false
      by_case true e = let never : false ≡ true = sym q ∙ ap aside (eqb-true who s e) ∙ r in cc
      by_case false e = e

  -- what is set aside has no begin in a diary that spares it
  pub spared : (ds : List Entry) (s : ℕ) → SparesAll aside ds → aside s ≡ true → has_begun ds s ≡ false
  spared [] s free a = refl
  spared (x ∷ xs) s free a = by_step x.step free.0 ∙ spared xs s free.1 a
    where
      by_step : (step : Step) → is_on aside step ≡ false → (is_step kind.Began s step || has_begun xs s) ≡ has_begun xs s
      by_step (Began who begin) q = ap (λ t. t || has_begun xs s) (other_who who s q a)
      by_step _ q = refl

  -- the nearest element of a chain is p or set aside exactly where the chain begins so
  chain_out : (rs : List Node) (s : ℕ) (q : Node) → AllByRecursion (IsPlaced aside p) rs → find is_element (upwards rs s) ≡ Some q → is_out q.serial ≡ is_out s
  chain_out [] s q each f = cc
  chain_out (n ∷ before) s q each f = step (n.serial == s) refl f (chain_out before s q each.1) (chain_out before n.parent q each.1)
    where
      no_class : (t u : Bool) → is_element n ≡ t → n.serial == p ≡ u → t ≡ false → u ≡ false
      no_class t true e d r = let never : true ≡ false = sym (each.0.1 d) ∙ e ∙ r in cc
      no_class t false e d r = refl

      at_node : (u : Bool) → is_element n ≡ u → n.serial ≡ s → cond u (Some n) (find is_element (upwards before n.parent)) ≡ Some q → (find is_element (upwards before n.parent) ≡ Some q → is_out q.serial ≡ is_out n.parent) → is_out q.serial ≡ is_out s
      at_node true k d g above = let one : n ≡ q = cc in ap (λ (m : Node). is_out m.serial) (sym one) ∙ ap is_out d
      at_node false k d g above =
          above g ∙ sym each.0.0 ∙ sym (ap (λ t. t || aside n.serial) (no_class (is_element n) (n.serial == p) refl refl k)) ∙ ap is_out d

      step : (t : Bool) → n.serial == s ≡ t → find is_element (cond t (n ∷ upwards before (cond t n.parent s)) (upwards before (cond t n.parent s))) ≡ Some q → (find is_element (upwards before s) ≡ Some q → is_out q.serial ≡ is_out s) → (find is_element (upwards before n.parent) ≡ Some q → is_out q.serial ≡ is_out n.parent) → is_out q.serial ≡ is_out s
      step true d g later above = at_node (is_element n) refl (eqb-true n.serial s d) g above
      step false d g later above = later g

  rest_out : (rs : List Node) (s : ℕ) (q : Node) → AllByRecursion (IsPlaced aside p) rs → find is_element (drop 1 (upwards rs s)) ≡ Some q → is_out q.serial ≡ aside s
  rest_out [] s q each f = cc
  rest_out (n ∷ before) s q each f = step (n.serial == s) refl f (rest_out before s q each.1)
    where
      step : (t : Bool) → n.serial == s ≡ t → find is_element (drop 1 (cond t (n ∷ upwards before (cond t n.parent s)) (upwards before (cond t n.parent s)))) ≡ Some q → (find is_element (drop 1 (upwards before s)) ≡ Some q → is_out q.serial ≡ aside s) → is_out q.serial ≡ aside s
      step true d g later = chain_out before n.parent q each.1 g ∙ sym each.0.0 ∙ ap aside (eqb-true n.serial s d)
      step false d g later = later g

  keeps_parents : (rs : List Node) → AllByRecursion (IsPlaced aside p) rs → KeepsParents kept rs
  keeps_parents [] each = tt
  keeps_parents (n ∷ ns) each = (λ k. ap not ((or_parts (n.parent == p) (aside n.parent) (sym each.0.0 ∙ not_aside n.serial k)).1), keeps_parents ns each.1)

  pub closed : (nodes : List Node) → IsAside aside p nodes → KeepsParents kept (reverse nodes)
  closed nodes b = keeps_parents (reverse nodes) (each_reverse (IsPlaced aside p) nodes b.placed)

  -- the time parent is p or set aside exactly for what is set aside
  pub parent_out : (nodes : List Node) → IsAside aside p nodes → (s : ℕ) (q : Node) → time_parent nodes s ≡ Some q → is_out q.serial ≡ aside s
  parent_out nodes b s q f = rest_out (reverse nodes) s q (each_reverse (IsPlaced aside p) nodes b.placed) f

  pub child_kept : (nodes : List Node) → IsAside aside p nodes → (q : ℕ) → is_out q ≡ false → (c : Node) → is_time_child nodes q c ≡ true → aside c.serial ≡ false
  child_kept nodes b q o c t = by_parent (time_parent nodes c.serial) refl ((and_parts (is_element c) (has_serial q (time_parent nodes c.serial)) t).1)
    where
      by_parent : (r : Option Node) → time_parent nodes c.serial ≡ r → has_serial q r ≡ true → aside c.serial ≡ false
      by_parent None e d = cc
      by_parent (Some r) e d = sym (parent_out nodes b c.serial r e) ∙ ap is_out (eqb-true r.serial q d) ∙ o

  -- an element that is set aside has no interval
  pub never_alive : (nodes : List Node) → IsAside aside p nodes → (log : List LogEntry) (ds : List Entry) → SparesAll aside ds → has_begun ds p ≡ false → (e : Node) → node_at (elements nodes) e.serial ≡ Some e → aside e.serial ≡ true → is_alive (record { nodes = nodes; log = log; diary = ds }) e.serial ≡ false
  never_alive nodes b log ds free never e here a = by_parent (time_parent nodes e.serial) refl (b.under e here a)
    where
      by_parent : (o : Option Node) → time_parent nodes e.serial ≡ o → is_some o ≡ true → lives_under o ds ≡ false
      by_parent None q r = cc
      by_parent (Some q) f r = by_case (q.serial == p) refl (parent_out nodes b e.serial q f ∙ a)
        where
          by_case : (t : Bool) → q.serial == p ≡ t → (t || aside q.serial) ≡ true → is_active ds q.serial ≡ false
          by_case true d i = inactive ds q.serial (ap (has_begun ds) (eqb-true q.serial p d) ∙ never)
          by_case false d i = inactive ds q.serial (spared ds q.serial free i)

  pub no_interval : (nodes : List Node) → IsAside aside p nodes → (log : List LogEntry) (ds : List Entry) → SparesAll aside ds → has_begun ds p ≡ false → (J : ℕ → Option Interval) (now : ℤ) (e : Node) → node_at (elements nodes) e.serial ≡ Some e → aside e.serial ≡ true → interval_given (record { nodes = nodes; log = log; diary = ds }) J now e ≡ None
  no_interval nodes b log ds free never J now e here a =
      rw (inactive ds e.serial (spared ds e.serial free a), never_alive nodes b log ds free never e here a)
