-- The marks by levels are those of the looped references.
use Rattle.std.proofs.Common.{◌≡◌, refl, sym, ◌∙◌, ap, ℕ, suc, zero, List, [], ◌∷◌, length, get_or, Bool, true, false, Option, Some, None}
use Rattle.std.specs.Prelude.{pos, cond, map, ◌&&◌, slice_get}
use Rattle.std.specs.List.{list_any}
use Rattle.std.proofs.lemmas.Bool.{or_left, or_right, and_from, eq-eqb}
use Rattle.std.proofs.lemmas.List.Folds.{list_any-append}
use Rattle.smil_model.specs.declared.document.Node.{Node}
use Rattle.smil_model.specs.declared.document.Item.{Item}
use Rattle.smil_model.specs.declared.document.Item.TheVariants.{Offset, Sync, Event, Repeat, Key, Indefinite}
use Rattle.smil_model.specs.declared.document.Edge.{Edge}
use Rattle.smil_model.specs.declared.document.Edge.TheVariants.{Begin, End}
use Rattle.smil_model.specs.document.Document.{is_element, element_named, has_serial, is_in_excl}
use Rattle.smil_model.specs.document.Defaults.{items_or, begin_list, end_list, items_of, stated_list}
use Rattle.smil_model.specs.document.Dependencies.{feeds_node, is_looped, is_looped_to, is_sync_with, all_items}
use Rattle.smil_model.specs.document.Valid.{IsDistinct}
use Rattle.smil_graph.specs.Places.{at_place, IsIndex, named_by, is_on_level, marks_of, HaveMarks}
use Rattle.smil_graph.specs.Graph.{is_looped_item}
use Rattle.smil_graph.specs.Tables.{AreMarks, AreElementLevels}
use Rattle.smil_graph.proofs.NodesByPlace.{there, there_below}
use Rattle.smil_graph.proofs.LinksAreDependencies.{feeds_is, there_any_item}

-- what a list of marks has at an item
at_item : (f : Item → Bool) (nodes : List Node) (s : ℕ) (items : List Item) (k : ℕ) → ((item : Item) → slice_get items k ≡ Some item → f item ≡ is_looped nodes s item) → get_or (map f items) k false ≡ is_looped_item nodes s (slice_get items k)
at_item f nodes s [] k same = refl
at_item f nodes s (x ∷ xs) zero same = same x refl
at_item f nodes s (x ∷ xs) (suc k) same = at_item f nodes s xs k same

module _ (nodes : List Node) (distinct : IsDistinct nodes) (named : List ℕ → Option ℕ) (ids : IsIndex nodes (element_named nodes) named) (levels : List ℕ) (ranked : AreElementLevels nodes levels) where
  item_is : (j : ℕ) (e : Node) → slice_get nodes j ≡ Some e → is_element e ≡ true → (item : Item) → ((test : Item → Bool) → test item ≡ true → list_any test (all_items nodes e) ≡ true) → is_on_level levels j (named_by named item) ≡ is_looped nodes e.serial item
  item_is j e b is (Offset o) member = refl
  item_is j e b is (Event who name o) member = refl
  item_is j e b is (Repeat who n o) member = refl
  item_is j e b is (Key key o) member = refl
  item_is j e b is Indefinite member = refl
  item_is j e b is (Sync who edge o) member = by_place (named who) refl
    where
      by_place : (p : Option ℕ) → named who ≡ p → is_on_level levels j (named who) ≡ is_looped_to nodes e.serial (element_named nodes who)
      by_place None q = ap (is_on_level levels j) q ∙ sym (ap (is_looped_to nodes e.serial) (ids.node who ∙ ap (at_place nodes) q))
      by_place (Some i) q =
          let x = there nodes i (ids.below who i q) in
          let names : element_named nodes who ≡ Some x.0 = ids.node who ∙ ap (at_place nodes) q ∙ x.1 in
          let refers : is_sync_with nodes (x.0).serial (Sync who edge o) ≡ true = ap (has_serial (x.0).serial) names ∙ eq-eqb (x.0).serial (x.0).serial refl in
          let fed_by : feeds_node nodes (x.0).serial e ≡ true = or_right _ _ (member (is_sync_with nodes (x.0).serial) refers) in
          ap (is_on_level levels j) q
          ∙ ranked.looped i j x.0 e x.1 b (feeds_is nodes distinct (x.0).serial j e b ∙ and_from _ _ is fed_by)
          ∙ sym (ap (is_looped_to nodes e.serial) names)

  by_side : (side : Edge) (j k : ℕ) (e : Node) → slice_get nodes j ≡ Some e → is_element e ≡ true → get_or (map (λ (item : Item). is_on_level levels j (named_by named item)) (items_or [] (stated_list e.attrs side))) k false ≡ is_looped_item nodes e.serial (slice_get (items_of nodes side e) k)
  by_side End j k e b is =
      at_item (λ (item : Item). is_on_level levels j (named_by named item)) nodes e.serial (end_list e) k
      (λ item at. item_is j e b is item (λ test t. list_any-append test (begin_list nodes e) (end_list e) ∙ or_right _ _ (there_any_item test (end_list e) k item at t)))
  by_side Begin j k e b is = by_begin e.attrs.begin refl
    where
      alone : (x : Item) → ((k : ℕ) → is_looped_item nodes e.serial (slice_get (x ∷ []) k) ≡ false) → get_or (map (λ (item : Item). is_on_level levels j (named_by named item)) []) k false ≡ is_looped_item nodes e.serial (slice_get (x ∷ []) k)
      alone x none = sym (none k)

      offset : (k : ℕ) → is_looped_item nodes e.serial (slice_get (Offset (pos 0) ∷ []) k) ≡ false
      offset zero = refl
      offset (suc k) = refl

      indefinite : (k : ℕ) → is_looped_item nodes e.serial (slice_get (Indefinite ∷ []) k) ≡ false
      indefinite zero = refl
      indefinite (suc k) = refl

      by_default : (t : Bool) → get_or (map (λ (item : Item). is_on_level levels j (named_by named item)) []) k false ≡ is_looped_item nodes e.serial (slice_get (cond t (Indefinite ∷ []) (Offset (pos 0) ∷ [])) k)
      by_default true = alone Indefinite indefinite
      by_default false = alone (Offset (pos 0)) offset

      by_begin : (o : Option (List Item)) → e.attrs.begin ≡ o → get_or (map (λ (item : Item). is_on_level levels j (named_by named item)) (items_or [] e.attrs.begin)) k false ≡ is_looped_item nodes e.serial (slice_get (begin_list nodes e) k)
      by_begin None q =
          ap (λ z. get_or (map (λ (item : Item). is_on_level levels j (named_by named item)) (items_or [] z)) k false) q
          ∙ by_default (is_in_excl nodes e.serial)
          ∙ sym (ap (λ z. is_looped_item nodes e.serial (slice_get (items_or (cond (is_in_excl nodes e.serial) (Indefinite ∷ []) (Offset (pos 0) ∷ [])) z) k)) q)
      by_begin (Some items) q =
          ap (λ z. get_or (map (λ (item : Item). is_on_level levels j (named_by named item)) (items_or [] z)) k false) q
          ∙ at_item (λ (item : Item). is_on_level levels j (named_by named item)) nodes e.serial items k
          (λ item at. item_is j e b is item (λ test t. list_any-append test (begin_list nodes e) (end_list e) ∙ or_left _ _ (ap (λ z. list_any test (items_or (cond (is_in_excl nodes e.serial) (Indefinite ∷ []) (Offset (pos 0) ∷ [])) z)) q ∙ there_any_item test items k item at t)))
          ∙ sym (ap (λ z. is_looped_item nodes e.serial (slice_get (items_or (cond (is_in_excl nodes e.serial) (Indefinite ∷ []) (Offset (pos 0) ∷ [])) z) k)) q)

  pub marks_are : (side : Edge) (rows : List (List Bool)) → HaveMarks nodes side levels named (length nodes) rows → AreMarks nodes side rows
  marks_are side rows have j k e b =
      ap (λ r. get_or r k false) (have.each j (there_below nodes j e b) ∙ ap (marks_of side levels named j) b)
      ∙ by_element (is_element e) refl
    where
      by_element : (t : Bool) → is_element e ≡ t → get_or (cond (is_element e) (map (λ (item : Item). is_on_level levels j (named_by named item)) (items_or [] (stated_list e.attrs side))) []) k false ≡ (is_element e && is_looped_item nodes e.serial (slice_get (items_of nodes side e) k))
      by_element true is =
          ap (λ t. get_or (cond t (map (λ (item : Item). is_on_level levels j (named_by named item)) (items_or [] (stated_list e.attrs side))) []) k false) is
          ∙ by_side side j k e b is
          ∙ sym (ap (λ t. t && is_looped_item nodes e.serial (slice_get (items_of nodes side e) k)) is)
      by_element false is =
          ap (λ t. get_or (cond t (map (λ (item : Item). is_on_level levels j (named_by named item)) (items_or [] (stated_list e.attrs side))) []) k false) is
          ∙ sym (ap (λ t. t && is_looped_item nodes e.serial (slice_get (items_of nodes side e) k)) is)
