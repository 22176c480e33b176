-- The merged values of items, when one item's list changes.
use Rattle.std.proofs.Common.{◌≡◌, refl, sym, ◌∙◌, ap, ℕ, suc, zero, ◌<◌, List, [], ◌∷◌, ◌++◌, length, Bool, Option, Some, None, arith}
use Rattle.std.specs.Prelude.{get_or, set, flat_map}
use Rattle.std.specs.List.{cons_option}
use Rattle.std.proofs.lemmas.List.{set-get_or}
use Rattle.std.proofs.lemmas.List.Elements.{filter_map-append}
use Rattle.smil_model.specs.declared.times.Time.{Time}
use Rattle.smil_instance_rows.specs.declared.item_times.InstanceTime.{InstanceTime}
use Rattle.smil_model.specs.Rising.{IsOrder, poured}
use Rattle.smil_instance_rows.specs.Values.{values_of, merged, with_value}
use Rattle.smil_instance_rows.specs.Places.{Replaces}
use Rattle.smil_model.proofs.RisingLists.{poured-append, poured-put, poured-swap}

pub set_same : {X : Type 0} (xs : List X) (i : ℕ) (x : X) → x ≡ get_or xs i x → set xs i x ≡ xs
set_same xs i x same = ap (set xs i) same ∙ set-get_or xs i x

-- a list with an element has a last
pub has_last : {X : Type 0} (xs : List X) → 0 < length xs → (first : List X) × (last : X) × (xs ≡ first ++ last ∷ [])
has_last [] inside = absurd (omega (arith, inside))
has_last (x ∷ []) inside = ([], x, refl)
has_last (x ∷ y ∷ ys) inside = let rest = has_last (y ∷ ys) (omega arith) in (x ∷ rest.0, rest.1, ap (λ zs. x ∷ zs) rest.2)

module _ {A : Type 0} (le : A → A → Bool) (order : IsOrder le) (choose : Time → Option A) where
  pub first_value : (o : Option A) (xs into : List A) → poured le (cons_option o xs) into ≡ with_value le o (poured le xs into)
  first_value None xs into = refl
  first_value (Some x) xs into = refl

  later_value : (o : Option A) (xs into : List A) → poured le xs (with_value le o into) ≡ with_value le o (poured le xs into)
  later_value None xs into = refl
  later_value (Some x) xs into = poured-put le order x xs into

  pub last_value : (ks : List InstanceTime) (k : InstanceTime) (into : List A) → poured le (values_of choose (ks ++ k ∷ [])) into ≡ with_value le (choose k.time) (poured le (values_of choose ks) into)
  last_value ks k into =
      ap (λ xs. poured le xs into) (filter_map-append (λ (l : InstanceTime). choose l.time) ks (k ∷ []))
      ∙ poured-append le order (values_of choose ks) (values_of choose (k ∷ [])) into
      ∙ ap (poured le (values_of choose ks)) (first_value (choose k.time) [] into)
      ∙ later_value (choose k.time) (values_of choose ks) into

  -- one item's values in front of the others'
  in_front : (l : List InstanceTime) (items : List (List InstanceTime)) → merged le choose (l ∷ items) ≡ poured le (values_of choose l) (merged le choose items)
  in_front l items = poured-append le order (values_of choose l) (flat_map (values_of choose) items) []

  -- an item's own values put into those of the others
  item_apart : (items : List (List InstanceTime)) (i : ℕ) (l : List InstanceTime) → i < length items → merged le choose (set items i l) ≡ poured le (values_of choose l) (merged le choose (set items i []))
  item_apart [] i l inside = absurd (omega (arith, inside))
  item_apart (m ∷ items) zero l inside = in_front l items
  item_apart (m ∷ items) (suc i) l inside =
      in_front m (set items i l)
      ∙ ap (poured le (values_of choose m)) (item_apart items i l (omega (arith, inside)))
      ∙ poured-swap le order (values_of choose m) (values_of choose l) (merged le choose (set items i []))
      ∙ ap (poured le (values_of choose l)) (sym (in_front m (set items i [])))

  own_apart : (items : List (List InstanceTime)) (i : ℕ) (own : List InstanceTime) → i < length items → own ≡ get_or items i own → merged le choose items ≡ poured le (values_of choose own) (merged le choose (set items i []))
  own_apart items i own inside is = ap (merged le choose) (sym (set_same items i own is)) ∙ item_apart items i own inside

  -- an instance time appended to an item's list
  pub merged_push : (items : List (List InstanceTime)) (i : ℕ) (own : List InstanceTime) (k : InstanceTime) → i < length items → own ≡ get_or items i own → merged le choose (set items i (own ++ k ∷ [])) ≡ with_value le (choose k.time) (merged le choose items)
  merged_push items i own k inside is =
      item_apart items i (own ++ k ∷ []) inside
      ∙ last_value own k (merged le choose (set items i []))
      ∙ ap (with_value le (choose k.time)) (sym (own_apart items i own inside is))

  -- the last instance time of an item taken away
  pub merged_undo : (items : List (List InstanceTime)) (i : ℕ) (own first : List InstanceTime) (k : InstanceTime) → i < length items → own ≡ get_or items i own → own ≡ first ++ k ∷ [] → merged le choose items ≡ with_value le (choose k.time) (merged le choose (set items i first))
  merged_undo items i own first k inside is ends =
      own_apart items i own inside is
      ∙ ap (λ l. poured le (values_of choose l) (merged le choose (set items i []))) ends
      ∙ last_value first k (merged le choose (set items i []))
      ∙ ap (with_value le (choose k.time)) (sym (item_apart items i first inside))

  pub merged_replaced : (items : List (List InstanceTime)) (i : ℕ) (own new : List InstanceTime) (ns ns' : List A) → i < length items → own ≡ get_or items i own → ns ≡ merged le choose items → Replaces le choose own new ns ns' → ns' ≡ merged le choose (set items i new)
  merged_replaced items i own new ns ns' inside is are so =
      so (merged le choose (set items i [])) (are ∙ own_apart items i own inside is) ∙ sym (item_apart items i new inside)
