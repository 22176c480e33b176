-- Rows before the first entry.
use Rattle.std.proofs.Common.{◌≡◌, refl, sym, ◌∙◌, ap, ℕ, ◌+◌, List, [], ◌∷◌, ◌++◌, Option, Some, None, Bool, true, false, length, map, append_assoc}
use Rattle.std.specs.Prelude.{OnOk, Result, Ok, Err, cond, get_or, pos, set, slice_get}
use Rattle.std.proofs.lemmas.List.{length-append}
use Rattle.std.proofs.lemmas.Option.{same_Some}
use Rattle.smil_model.specs.declared.document.Node.{Node}
use Rattle.smil_model.specs.declared.document.Edge.{Edge}
use Rattle.smil_model.specs.declared.document.Edge.TheVariants.{Begin, End}
use Rattle.smil_model.specs.declared.document.Item.{Item}
use Rattle.smil_model.specs.declared.document.Item.TheVariants.{Offset, Indefinite}
use Rattle.smil_model.specs.declared.diary.LogEntry.{LogEntry}
use Rattle.smil_model.specs.declared.times.Time.{Time}
use Rattle.smil_model.specs.document.Document.{Document, elements, is_in_excl}
use Rattle.smil_model.specs.document.Defaults.{begin_list, end_list, items_or, items_of}
use Rattle.smil_instance_rows.specs.declared.item_times.InstanceTime.{InstanceTime}
use Rattle.smil_instances.specs.declared.source.Source.{Source}
use Rattle.smil_instances.specs.declared.source.Source.TheVariants.{Nothing}
use Rattle.smil_instance_rows.specs.declared.cell.Cell.{Cell}
use Rattle.smil_instance_rows.specs.Cells.{list_of, side_of, with_item, with_list}
use Rattle.smil_instance_rows.specs.Rows.{ElementTimes}
use Rattle.smil_instances.specs.SettledTimes.{instances_of, row_of}
use Rattle.smil_instances.specs.Sources.{item_under, source_by, source_of, source_under}
use Rattle.smil_instances.specs.Dependents.{DocumentDependents, AreDependentsOf, source_in}
use Rattle.smil_instances.specs.Idle.{idle_kept, with_items}
use Rattle.smil_instances.specs.Intake.{history_of}

-- ---- one item more

last_set : (xs : List (List InstanceTime)) (k : InstanceTime) → set (xs ++ [] ∷ []) (length xs) (get_or (xs ++ [] ∷ []) (length xs) [] ++ k ∷ []) ≡ xs ++ (k ∷ []) ∷ []
last_set [] k = refl
last_set (x ∷ xs) k = ap (λ ys. x ∷ ys) (last_set xs k)

pub item_added : (row : ElementTimes) (side : Edge) (item : ℕ) (k : InstanceTime) → item ≡ length (side_of row side) → with_list (with_item row side) side item (list_of (with_item row side) side item ++ k ∷ []) ≡ with_items row side ((k ∷ []) ∷ [])
item_added row Begin item k q =
    ap (λ i. with_list (with_item row Begin) Begin i (list_of (with_item row Begin) Begin i ++ k ∷ [])) q
    ∙ ap (λ xs. record row { begins = xs }) (last_set row.begins k)
item_added row End item k q =
    ap (λ i. with_list (with_item row End) End i (list_of (with_item row End) End i ++ k ∷ [])) q
    ∙ ap (λ xs. record row { ends = xs }) (last_set row.ends k)

pub more_items : (row : ElementTimes) (side : Edge) (xs ys : List (List InstanceTime)) → with_items (with_items row side xs) side ys ≡ with_items row side (xs ++ ys)
more_items row Begin xs ys = ap (λ zs. record row { begins = zs }) (append_assoc row.begins xs ys)
more_items row End xs ys = ap (λ zs. record row { ends = zs }) (append_assoc row.ends xs ys)

pub no_items : (row : ElementTimes) (side : Edge) → side_of row side ≡ [] → row ≡ with_items row side []
no_items row Begin q = ap (λ zs. record row { begins = zs }) (q ∙ ap (λ zs. zs ++ []) (sym q))
no_items row End q = ap (λ zs. record row { ends = zs }) (q ∙ ap (λ zs. zs ++ []) (sym q))

pub items_grow : (row : ElementTimes) (side : Edge) (x : List InstanceTime) → length (side_of (with_items row side (x ∷ [])) side) ≡ length (side_of row side) + 1
items_grow row Begin x = length-append row.begins (x ∷ [])
items_grow row End x = length-append row.ends (x ∷ [])

-- what is found, where there is an answer
pub on_ok : {T E A B : Type 0} (r : Result T E) → OnOk r A → (A → B) → OnOk r B
on_ok (Ok x) a f = f a
on_ok (Err e) a f = tt

-- ---- the source of an item

pub source_here : (nodes : List Node) (dependents : DocumentDependents) (cell : Cell) (e : Node) (i : Item) → AreDependentsOf nodes dependents → slice_get (elements nodes) cell.row ≡ Some e → slice_get (items_of nodes cell.side e) cell.item ≡ Some i → source_in dependents.rows cell ≡ source_of nodes e.serial i
source_here nodes dependents cell e i are here there =
    are.sources cell ∙ ap (source_under nodes cell) here ∙ ap (source_by nodes e.serial) (ap (item_under nodes cell) here ∙ there)

-- ---- the item that stands for a begin list

module _ (document : Document) (log : List LogEntry) (e : Node) (dependents : DocumentDependents) (place : ℕ) (are : AreDependentsOf document.nodes dependents) (here : slice_get (elements document.nodes) place ≡ Some e) (none : e.attrs.begin ≡ None) where
  abbrev first : Cell
  first = record { row = place; side = Begin; item = 0 }

  abbrev kept_for : Item → List InstanceTime
  kept_for item = instances_of (history_of document log []) e Begin item

  pub default_kept : (s : Source) (t : Option Time) → s ≡ source_in dependents.rows first → (s ≡ source_of document.nodes e.serial (Offset (pos 0)) → kept_for (Offset (pos 0)) ≡ idle_kept t) → (s ≡ Nothing → t ≡ None) → idle_kept t ∷ [] ≡ map kept_for (begin_list document.nodes e)
  default_kept s t same kept nothing = by_excl (is_in_excl document.nodes e.serial) (ap (items_or (cond (is_in_excl document.nodes e.serial) (Indefinite ∷ []) (Offset (pos 0) ∷ []))) none)
    where
      source_is : (i : Item) → begin_list document.nodes e ≡ i ∷ [] → s ≡ source_of document.nodes e.serial i
      source_is i q = same ∙ source_here document.nodes dependents first e i are here (ap (λ is. slice_get is 0) q)

      by_excl : (b : Bool) → begin_list document.nodes e ≡ cond b (Indefinite ∷ []) (Offset (pos 0) ∷ []) → idle_kept t ∷ [] ≡ map kept_for (begin_list document.nodes e)
      by_excl true q = ap (λ o. idle_kept o ∷ []) (nothing (source_is Indefinite q)) ∙ ap (map kept_for) (sym q)
      by_excl false q = ap (λ ks. ks ∷ []) (sym (kept (source_is (Offset (pos 0)) q))) ∙ ap (map kept_for) (sym q)

-- ---- the lists of an element

pub begin_items : (nodes : List Node) (e : Node) (items : List Item) → e.attrs.begin ≡ Some items → items ≡ begin_list nodes e
begin_items nodes e items q = sym (ap (items_or (cond (is_in_excl nodes e.serial) (Indefinite ∷ []) (Offset (pos 0) ∷ []))) q)

pub end_items : (e : Node) (o : Option (List Item)) → e.attrs.«end» ≡ o → items_or [] o ≡ end_list e
end_items e o q = sym (ap (items_or []) q)

pub row_made : (document : Document) (log : List LogEntry) (place serial : ℕ) (e x : Node) (none begun made : ElementTimes) → slice_get (elements document.nodes) place ≡ Some e → slice_get (elements document.nodes) place ≡ Some x → e.serial ≡ serial → none ≡ record { serial = serial; begins = []; ends = [] } → begun ≡ with_items none Begin (map (instances_of (history_of document log []) e Begin) (begin_list document.nodes e)) → made ≡ with_items begun End (map (instances_of (history_of document log []) e End) (end_list e)) → made ≡ row_of (history_of document log []) x
row_made document log place serial e x none begun made here there same is_none is_begun is_made =
    is_made
    ∙ ap (λ r. with_items r End (map (instances_of (history_of document log []) e End) (end_list e))) (is_begun ∙ ap (λ r. with_items r Begin (map (instances_of (history_of document log []) e Begin) (begin_list document.nodes e))) is_none)
    ∙ ap (λ s. record (row_of (history_of document log []) e) { serial = s }) (sym same)
    ∙ ap (row_of (history_of document log [])) (same_Some e x (sym here ∙ there))
