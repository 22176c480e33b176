-- The rows of keys, and the reach of a key.
use Rattle.std.proofs.Common.{◌≡◌, refl, sym, ◌∙◌, ap, ℕ, suc, zero, ◌<◌, ◌≤◌, ◌+◌, List, [], ◌∷◌, ◌++◌, length, get_or, take, Bool, true, false, Option, Some, None, arith, inl, inr}
use mathlib.Core.Bool.{and-false, and-true, and_comm, or-false}
use Rattle.std.specs.Prelude.{cond, filter, ◌==◌, ◌||◌, ◌&&◌, ◌⊎◌, slice_get}
use Rattle.std.specs.List.{list_any}
use Rattle.std.proofs.Math.ListN.{set}
use Rattle.std.proofs.lemmas.Bool.{or_left, or_right, or_cases, and_parts, eq-eqb, ne_eqb, cases_eq}
use Rattle.std.proofs.lemmas.List.{get_or-set_same, get_or-set_other}
use Rattle.std.proofs.lemmas.List.Folds.{list_any-append}
use Rattle.smil_model.specs.declared.document.Node.{Node}
use Rattle.smil_model.specs.declared.document.Item.{Item}
use Rattle.smil_model.specs.declared.document.Item.TheVariants.{Offset, Sync, Event, Repeat, Key, Indefinite}
use Rattle.smil_model.specs.document.Document.{is_element, elements, serials}
use Rattle.smil_model.specs.document.Defaults.{items_or}
use Rattle.smil_model.specs.document.Dependencies.{all_items}
use Rattle.smil_model.specs.document.Closure.{has}
use Rattle.smil_model.specs.document.Valid.{IsDistinct}
use Rattle.smil_model.specs.reach.Reach.{is_key_item, waiters, is_option}
use Rattle.smil_graph.specs.Links.{row, links}
use Rattle.smil_graph.specs.Places.{has_element}
use Rattle.smil_graph.specs.Tables.{has_key_item, key_of, waits, AreWaiting, AreWithPlace, AreElements, AreOf}
use Rattle.smil_graph.proofs.DefinitionsByPlace.{all_any}
use Rattle.smil_graph.proofs.LinksAreDependencies.{element_one, has_serials}
use Rattle.smil_graph.proofs.PlaceLists.{has_push, any_each}
use Rattle.smil_graph.proofs.NodesByPlace.{there_below}
use Rattle.smil_laws.proofs.LineageParents.{same_eqb}
use Rattle.smil_laws.proofs.Lists.{take-more_at}

-- ---- a place is put into rows

-- into none
pub with_none : (place : ℕ) (rows : List (List ℕ)) → AreWithPlace (λ i. false) place rows rows
with_none place rows = record { each = λ i j. sym (or-false (links rows i j)) }

-- into one
pub with_one : (place at : ℕ) (rows : List (List ℕ)) → at < length rows → AreWithPlace (λ i. is_option i (Some at)) place rows (set rows at (row rows at ++ place ∷ []))
with_one place at rows low = record {
  each = λ i j. by_row i j (cases_eq i at);
}
  where
    by_row : (i j : ℕ) → (i ≡ at) ⊎ (i ≡ at → ⊥) → links (set rows at (row rows at ++ place ∷ [])) i j ≡ (links rows i j || ((i == at) && (j == place)))
    by_row i j (inl e) =
        ap (λ k. has (get_or (set rows at (row rows at ++ place ∷ [])) k []) j) e
        ∙ ap (λ r. has r j) (get_or-set_same rows at (row rows at ++ place ∷ []) [] low)
        ∙ has_push (row rows at) place j
        ∙ ap (λ k. has (row rows k) j || (j == place)) (sym e)
        ∙ sym (ap (λ t. links rows i j || (t && (j == place))) (eq-eqb i at e))
    by_row i j (inr other) =
        ap (λ r. has r j) (get_or-set_other rows at i (row rows at ++ place ∷ []) [] other)
        ∙ sym (or-false (links rows i j))
        ∙ sym (ap (λ t. links rows i j || (t && (j == place))) (ne_eqb i at other))

-- where empty rows were appended before
pub row_empty : (rows : List (List ℕ)) (i : ℕ) → row (rows ++ [] ∷ []) i ≡ row rows i
row_empty [] zero = refl
row_empty [] (suc i) = refl
row_empty (r ∷ rows) zero = refl
row_empty (r ∷ rows) (suc i) = row_empty rows i

pub with_one_more : (place at : ℕ) (old mid : List (List ℕ)) → ((i : ℕ) → row mid i ≡ row old i) → at < length mid → AreWithPlace (λ i. is_option i (Some at)) place old (set mid at (row mid at ++ place ∷ []))
with_one_more place at old mid same low = record {
  each = λ i j. (with_one place at mid low).each i j ∙ ap (λ r. has r j || ((i == at) && (j == place))) (same i);
}

-- into some and then into others
pub with_both : (f g h : ℕ → Bool) (place : ℕ) (old mid new : List (List ℕ)) → ((i : ℕ) → h i ≡ (f i || g i)) → AreWithPlace f place old mid → AreWithPlace g place mid new → AreWithPlace h place old new
with_both f g h place old mid new both first then = record {
  each = λ i j.
      then.each i j
      ∙ ap (λ t. t || (g i && (j == place))) (first.each i j)
      ∙ share (links old i j) (f i) (g i) (j == place)
      ∙ sym (ap (λ t. links old i j || (t && (j == place))) (both i));
}
  where
    share : (a b c d : Bool) → ((a || (b && d)) || (c && d)) ≡ (a || ((b || c) && d))
    share true b c d = refl
    share false true c true = refl
    share false true true false = refl
    share false true false false = refl
    share false false c d = refl

key_is : (key : ℕ) (item : Item) → is_key_item key item ≡ is_option key (key_of item)
key_is key (Offset o) = refl
key_is key (Sync who edge o) = refl
key_is key (Event who name o) = refl
key_is key (Repeat who n o) = refl
key_is key (Key own o) = same_eqb own key
key_is key Indefinite = refl

-- one item more
pub with_item : (items : List Item) (k : ℕ) (item : Item) (place : ℕ) (old mid new : List (List ℕ)) → slice_get items k ≡ Some item → AreWithPlace (λ key. list_any (is_key_item key) (take k items)) place old mid → AreWithPlace (λ key. is_option key (key_of item)) place mid new → AreWithPlace (λ key. list_any (is_key_item key) (take (k + 1) items)) place old new
with_item items k item place old mid new here so pushed =
    with_both (λ key. list_any (is_key_item key) (take k items)) (λ key. is_option key (key_of item)) (λ key. list_any (is_key_item key) (take (k + 1) items)) place old mid new more so pushed
  where
    more : (key : ℕ) → list_any (is_key_item key) (take (k + 1) items) ≡ (list_any (is_key_item key) (take k items) || is_option key (key_of item))
    more key =
        ap (list_any (is_key_item key)) (take-more_at items k item here)
        ∙ list_any-append (is_key_item key) (take k items) (item ∷ [])
        ∙ ap (λ t. list_any (is_key_item key) (take k items) || t) (or-false (is_key_item key item) ∙ key_is key item)

-- ---- the rows of keys

-- the rows have the first k nodes
pub record IsWaitingTo (nodes : List Node) (k : ℕ) (rows : List (List ℕ)) : Type 0 where
  pub early : (key p : ℕ) → p < k → links rows key p ≡ waits nodes key (slice_get nodes p)
  pub late : (key p : ℕ) → k ≤ p → links rows key p ≡ false

pub none_waits : (nodes : List Node) (rows : List (List ℕ)) → ((i : ℕ) → row rows i ≡ []) → IsWaitingTo nodes 0 rows
none_waits nodes rows empty = record {
  early = λ key p l. absurd (omega (arith, l));
  late = λ key p l. ap (λ r. has r p) (empty key);
}

pub more_waits : (nodes : List Node) (k : ℕ) (f : ℕ → Bool) (rows new : List (List ℕ)) → IsWaitingTo nodes k rows → AreWithPlace f k rows new → ((key : ℕ) → f key ≡ waits nodes key (slice_get nodes k)) → IsWaitingTo nodes (k + 1) new
more_waits nodes k f rows new so put here = record {
  early = λ key p l. by_place key p l (cases_eq p k);
  late = λ key p l. put.each key p ∙ other key p (λ e. omega (arith, l, e)) ∙ so.late key p (omega (arith, l));
}
  where
    other : (key p : ℕ) → (p ≡ k → ⊥) → (links rows key p || (f key && (p == k))) ≡ links rows key p
    other key p apart = ap (λ t. links rows key p || (f key && t)) (ne_eqb p k apart) ∙ ap (λ t. links rows key p || t) (and-false (f key)) ∙ or-false (links rows key p)

    by_place : (key p : ℕ) → p < k + 1 → (p ≡ k) ⊎ (p ≡ k → ⊥) → links new key p ≡ waits nodes key (slice_get nodes p)
    by_place key p l (inl e) =
        put.each key p
        ∙ ap (λ t. t || (f key && (p == k))) (so.late key p (omega (arith, e)))
        ∙ ap (λ t. f key && t) (eq-eqb p k e)
        ∙ and-true (f key)
        ∙ here key
        ∙ ap (λ q. waits nodes key (slice_get nodes q)) (sym e)
    by_place key p l (inr apart) = put.each key p ∙ other key p apart ∙ so.early key p (less apart)
      where
        less : (p ≡ k → ⊥) → p < k
        less apart = grind arith

-- an element waits by its begins and its ends
pub waits_is : (nodes : List Node) (o : Option Node) (e : Node) → Some e ≡ o → (key : ℕ) → (is_element e && has_key_item key e) ≡ waits nodes key o
waits_is nodes o e here key =
    ap (λ t. is_element e && t) (sym (all_any nodes (is_key_item key) refl refl e))
    ∙ ap (waits nodes key) here

-- what is put in for a node
pub with_none_of : (e : Node) (place : ℕ) (rows : List (List ℕ)) → is_element e ≡ false → AreWithPlace (λ key. is_element e && has_key_item key e) place rows rows
with_none_of e place rows is = record {
  each = λ i j. sym (or-false (links rows i j)) ∙ sym (ap (λ t. links rows i j || ((t && has_key_item i e) && (j == place))) is);
}

pub with_all_of : (e : Node) (place : ℕ) (old mid new : List (List ℕ)) → is_element e ≡ true → AreWithPlace (λ key. list_any (is_key_item key) (items_or [] e.attrs.begin)) place old mid → AreWithPlace (λ key. list_any (is_key_item key) (items_or [] e.attrs.«end»)) place mid new → AreWithPlace (λ key. is_element e && has_key_item key e) place old new
with_all_of e place old mid new is first then =
    with_both (λ key. list_any (is_key_item key) (items_or [] e.attrs.begin)) (λ key. list_any (is_key_item key) (items_or [] e.attrs.«end»)) (λ key. is_element e && has_key_item key e) place old mid new (λ key. ap (λ t. t && has_key_item key e) is) first then

pub all_wait : (nodes : List Node) (k : ℕ) (rows : List (List ℕ)) → k ≡ length nodes → IsWaitingTo nodes k rows → AreWaiting nodes rows
all_wait nodes k rows end so key p = by_node key p (slice_get nodes p) refl
  where
    split : (p : ℕ) → (p < k) ⊎ (k ≤ p)
    split p = grind arith

    by_node : (key p : ℕ) (o : Option Node) → slice_get nodes p ≡ o → links rows key p ≡ waits nodes key (slice_get nodes p)
    by_node key p (Some n) e = so.early key p (omega (arith, there_below nodes p n e, end))
    by_node key p None e = by_case (split p)
      where
        by_case : (p < k) ⊎ (k ≤ p) → links rows key p ≡ waits nodes key (slice_get nodes p)
        by_case (inl l) = so.early key p l
        by_case (inr l) = so.late key p l ∙ sym (ap (waits nodes key) e)

-- ---- where the reach of a key begins

fewer : (f : Node → Bool) (ns : List Node) (s : ℕ) → has (serials (filter f ns)) s ≡ true → has (serials ns) s ≡ true
fewer f [] s q = q
fewer f (n ∷ ns) s q = step (f n) q (fewer f ns s)
  where
    step : (t : Bool) → has (serials (cond t (n ∷ filter f ns) (filter f ns))) s ≡ true → (has (serials (filter f ns)) s ≡ true → has (serials ns) s ≡ true) → has (serials (n ∷ ns)) s ≡ true
    step true r later = by_case (or_cases (n.serial == s) (has (serials (filter f ns)) s) r)
      where
        by_case : (n.serial == s ≡ true) ⊎ (has (serials (filter f ns)) s ≡ true) → has (serials (n ∷ ns)) s ≡ true
        by_case (inl d) = or_left _ _ d
        by_case (inr d) = or_right _ _ (later d)
    step false r later = or_right _ _ (later r)

module _ (nodes : List Node) (distinct : IsDistinct nodes) (rows : List (List ℕ)) (are : AreWaiting nodes rows) (key : ℕ) where
  waiting : Node → Bool
  waiting e = list_any (is_key_item key) (all_items nodes e)

  pub waiters_are : AreOf nodes (waiters nodes key) (row rows key)
  waiters_are = record {
    known = fewer (λ (e : Node). list_any (is_key_item key) (all_items nodes e)) (elements nodes);
    listed = λ j e b is.
        are key j
        ∙ ap (waits nodes key) b
        ∙ sym (element_one nodes distinct (λ (n : Node). list_any (is_key_item key) (all_items nodes n)) j e b)
        ∙ any_each (λ (c : Node). (c.serial == e.serial) && list_any (is_key_item key) (all_items nodes c)) (λ (c : Node). list_any (is_key_item key) (all_items nodes c) && (c.serial == e.serial)) (elements nodes) (λ c. and_comm (c.serial == e.serial) (list_any (is_key_item key) (all_items nodes c)))
        ∙ sym (has_serials (λ (n : Node). list_any (is_key_item key) (all_items nodes n)) (elements nodes) e.serial);
  }

  pub waiters_elements : AreElements nodes (row rows key)
  waiters_elements j q = by_node (slice_get nodes j) (sym (are key j) ∙ q)
    where
      by_node : (o : Option Node) → waits nodes key o ≡ true → has_element o ≡ true
      by_node None r = cc
      by_node (Some e) r = (and_parts (is_element e) (list_any (is_key_item key) (all_items nodes e)) r).0
