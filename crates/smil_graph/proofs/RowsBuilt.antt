-- Rows that are built one by one, and what is pushed in them.
use Rattle.std.proofs.Common.{◌≡◌, refl, sym, ◌∙◌, ap, ℕ, ◌<◌, ◌+◌, List, [], ◌∷◌, ◌++◌, length, take, Bool, true, false, Option, Some, arith, inl, inr, append_assoc}
use mathlib.Core.Bool.{or-false, or_assoc}
use Rattle.std.specs.List.{list_any}
use Rattle.std.specs.Prelude.{cond, map, ◌||◌, ◌&&◌, ◌⊎◌, slice_get, slice_index_or}
use Rattle.std.proofs.lemmas.List.{get_or_append_left, get_or_push, length_push, map-append, take_more}
use Rattle.std.proofs.lemmas.List.Folds.{list_any-append}
use Rattle.smil_model.specs.declared.document.Node.{Node}
use Rattle.smil_model.specs.declared.document.Item.{Item}
use Rattle.smil_model.specs.declared.document.Edge.{Edge}
use Rattle.smil_model.specs.document.Defaults.{items_or, stated_list}
use Rattle.smil_model.specs.document.Document.{is_element}
use Rattle.smil_model.specs.reach.Reach.{is_option}
use Rattle.smil_model.specs.document.Closure.{has}
use Rattle.smil_graph.specs.Links.{row, links, AreRows}
use Rattle.smil_graph.specs.Places.{leads_to_place, follows, element_follows, is_on_level, named_by, marks_of, HaveMarks}
use Rattle.smil_laws.proofs.Lists.{take-more_at}

-- ---- one row more

pub rows_step : (test : ℕ → ℕ → Bool) (k : ℕ) (rows : List (List ℕ)) (new : List ℕ) → AreRows k test rows → ((j : ℕ) → has new j ≡ test k j) → AreRows (k + 1) test (rows ++ new ∷ [])
rows_step test k rows new so here = record {
  long = length_push rows new ∙ ap (λ m. m + 1) so.long;
  each = λ i j l. by_place i j (split i l);
}
  where
    split : (i : ℕ) → i < k + 1 → (i < k) ⊎ (i ≡ k)
    split i l = grind arith

    by_place : (i j : ℕ) → (i < k) ⊎ (i ≡ k) → links (rows ++ new ∷ []) i j ≡ test i j
    by_place i j (inl l) = ap (λ r. has r j) (get_or_append_left rows (new ∷ []) [] i (omega (arith, l, so.long))) ∙ so.each i j l
    by_place i j (inr e) = ap (λ m. has (row (rows ++ new ∷ []) m) j) (e ∙ sym so.long) ∙ ap (λ r. has r j) (get_or_push rows new [] (length rows) refl) ∙ here j ∙ ap (λ m. test m j) (sym e)

-- ---- one item more

pub assoc : (a b c : Bool) → ((a || b) || c) ≡ (a || (b || c))
assoc a b c = or_assoc a b c

pub right : (t : Bool) → t ≡ (t || false)
right t = sym (or-false t)

pub leads_more : (of : Item → Option ℕ) (items : List Item) (k : ℕ) (item : Item) (p : Option ℕ) (i : ℕ) (old mid new : Bool) → slice_get items k ≡ Some item → p ≡ of item → mid ≡ (old || leads_to_place of (take k items) i) → new ≡ (mid || is_option i p) → new ≡ (old || leads_to_place of (take (k + 1) items) i)
leads_more of items k item p i old mid new here is so pushed =
    let all : leads_to_place of (take (k + 1) items) i ≡ (leads_to_place of (take k items) i || is_option i (of item)) =
    ap (λ xs. leads_to_place of xs i) (take-more_at items k item here)
    ∙ list_any-append (λ (x : Item). is_option i (of x)) (take k items) (item ∷ []) ∙ ap (λ t. leads_to_place of (take k items) i || t) (or-false (is_option i (of item))) in
    pushed
    ∙ ap (λ q. mid || is_option i q) is
    ∙ ap (λ t. t || is_option i (of item)) so
    ∙ or_assoc old (leads_to_place of (take k items) i) (is_option i (of item))
    ∙ ap (λ t. old || t) (sym all)

pub any_more_at : (f : ℕ → Bool) (items : List ℕ) (k : ℕ) (old mid new last : Bool) → k < length items → last ≡ f (slice_index_or items k 0) → mid ≡ (old || list_any f (take k items)) → new ≡ (mid || last) → new ≡ (old || list_any f (take (k + 1) items))
any_more_at f items k old mid new last low is so pushed =
    let item = slice_index_or items k 0 in
    let all : list_any f (take (k + 1) items) ≡ (list_any f (take k items) || f item) =
    ap (list_any f) (take_more items k 0 low) ∙ list_any-append f (take k items) (item ∷ []) ∙ sym (ap (λ t. list_any f (take k items) || t) (right (f item))) in
    pushed
    ∙ ap (λ t. mid || t) is
    ∙ ap (λ t. t || f item) so
    ∙ or_assoc old (list_any f (take k items)) (f item)
    ∙ ap (λ t. old || t) (sym all)

-- ---- rows of a node

pub feeder_row : (o : Option Node) (n : Node) (children : List ℕ) (previous : Option ℕ) (named : List ℕ → Option ℕ) (i : ℕ) (new empty : List ℕ) → empty ≡ [] → Some n ≡ o → has new i ≡ (has empty i || (is_element n && follows children previous named n i)) → has new i ≡ element_follows children previous named o i
feeder_row o n children previous named i new empty none at pushed =
    pushed
    ∙ ap (λ r. has r i || (is_element n && follows children previous named n i)) none
    ∙ ap (λ z. element_follows children previous named z i) at

-- ---- marks

pub marks_more : (f : Item → Bool) (items : List Item) (k : ℕ) (item : Item) (b : Bool) (old mid new : List Bool) → slice_get items k ≡ Some item → b ≡ f item → mid ≡ old ++ map f (take k items) → new ≡ mid ++ b ∷ [] → new ≡ old ++ map f (take (k + 1) items)
marks_more f items k item b old mid new at is so pushed =
    pushed ∙ ap (λ c. mid ++ c ∷ []) is ∙ ap (λ r. r ++ f item ∷ []) so ∙ append_assoc old (map f (take k items)) (f item ∷ [])
    ∙ ap (λ r. old ++ r) (sym (ap (map f) (take-more_at items k item at) ∙ map-append f (take k items) (item ∷ [])))

-- the marks of a node
module _ (side : Edge) (levels : List ℕ) (named : List ℕ → Option ℕ) (k : ℕ) (n : Node) where
  pub marked_element : (items : Option (List Item)) (row new : List Bool) → is_element n ≡ true → row ≡ [] → items ≡ stated_list n.attrs side → new ≡ row ++ map (λ (item : Item). is_on_level levels k (named_by named item)) (items_or [] items) → new ≡ marks_of side levels named k (Some n)
  marked_element items row new is none stated pushed =
      pushed
      ∙ ap (λ r. r ++ map (λ (item : Item). is_on_level levels k (named_by named item)) (items_or [] items)) none
      ∙ ap (λ o. map (λ (item : Item). is_on_level levels k (named_by named item)) (items_or [] o)) stated
      ∙ sym (ap (λ t. cond t (map (λ (item : Item). is_on_level levels k (named_by named item)) (items_or [] (stated_list n.attrs side))) []) is)

  pub marked_class : (row : List Bool) → is_element n ≡ false → row ≡ [] → row ≡ marks_of side levels named k (Some n)
  marked_class row isnt none =
      none ∙ sym (ap (λ t. cond t (map (λ (item : Item). is_on_level levels k (named_by named item)) (items_or [] (stated_list n.attrs side))) []) isnt)

  -- one row of marks more
  pub marked_step : (nodes : List Node) (rows : List (List Bool)) (new : List Bool) → slice_get nodes k ≡ Some n → new ≡ marks_of side levels named k (Some n) → HaveMarks nodes side levels named k rows → HaveMarks nodes side levels named (k + 1) (rows ++ new ∷ [])
  marked_step nodes rows new at is so = record {
    long = length_push rows new ∙ ap (λ m. m + 1) so.long;
    each = λ j l. by_place j (split j l);
  }
    where
      split : (j : ℕ) → j < k + 1 → (j < k) ⊎ (j ≡ k)
      split j l = grind arith

      by_place : (j : ℕ) → (j < k) ⊎ (j ≡ k) → slice_index_or (rows ++ new ∷ []) j [] ≡ marks_of side levels named j (slice_get nodes j)
      by_place j (inl l) = get_or_append_left rows (new ∷ []) [] j (omega (arith, l, so.long)) ∙ so.each j l
      by_place j (inr e) =
          get_or_push rows new [] j (so.long ∙ sym e)
          ∙ is
          ∙ ap (marks_of side levels named k) (sym at)
          ∙ ap (λ m. marks_of side levels named m (slice_get nodes m)) (sym e)
