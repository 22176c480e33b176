-- What the last entry gives to a cell of an element, and to many.
use Rattle.std.proofs.Common.{◌≡◌, refl, sym, ◌∙◌, ap, ℕ, ◌+◌, ◌<◌, ◌≤◌, List, [], ◌∷◌, ◌++◌, length, Option, Some, None, Bool, true, false, arith, take}
use Rattle.std.specs.Prelude.{cond, get_or, slice_get, option_map, pos}
use Rattle.std.specs.List.{cons_option}
use Rattle.std.proofs.lemmas.List.{take_more}
use Rattle.std.proofs.lemmas.List.Elements.{filter_map-append}
use Rattle.std.proofs.lemmas.Option.{slice_get_past}
use Rattle.smil_model.specs.declared.diary.Entry.{Entry}
use Rattle.smil_model.specs.declared.document.Attrs.{Attrs}
use Rattle.smil_model.specs.declared.document.Edge.{Edge}
use Rattle.smil_model.specs.declared.document.Edge.TheVariants.{Begin, End}
use Rattle.smil_model.specs.declared.document.Item.{Item}
use Rattle.smil_model.specs.declared.document.Item.TheVariants.{Offset, Indefinite}
use Rattle.smil_model.specs.declared.document.Node.{Node}
use Rattle.smil_model.specs.document.Document.{elements, node_at, is_in_excl, previous_in_seq}
use Rattle.smil_model.specs.document.Defaults.{items_or, items_of, stated_list}
use Rattle.smil_model.specs.diary.Diary.{History}
use Rattle.smil_instance_rows.specs.declared.item_times.InstanceTime.{InstanceTime}
use Rattle.smil_instances.specs.declared.source.Source.{Source}
use Rattle.smil_instances.specs.declared.source.Source.TheVariants as source
use Rattle.smil_instance_rows.specs.declared.cell.Add.{Add}
use Rattle.smil_instance_rows.specs.declared.cell.Cell.{Cell}
use Rattle.smil_instances.specs.Sources.{source_by, source_of, syncbase_or}
use Rattle.smil_instances.specs.Intake.{IsCellOf, IsUnstated, add_to, adds_to, default_of, given_item, given_to, given_under, stated_in}
use Rattle.smil_instances.proofs.ConcernedCells.{source_here}

-- ---- the item of a cell

module _ (nodes : List Node) (cell : Cell) (who : ℕ) (s : Source) (is : IsCellOf nodes cell who s) where
  abbrev pub item_here : Option Item
  item_here = slice_get (items_of nodes cell.side is.element) cell.item

  -- the attributes of the node with the serial are those of the element
  pub attrs_of : (attrs : Attrs) → Some attrs ≡ option_map (λ (n : Node). n.attrs) (node_at nodes who) → attrs ≡ is.element.attrs
  attrs_of attrs q = let same : Some attrs ≡ Some is.element.attrs = q ∙ ap (option_map (λ (n : Node). n.attrs)) is.known in cc

  source_by_item : s ≡ source_by nodes is.element.serial item_here
  source_by_item = is.source_is ∙ source_here nodes cell is.element is.here

  pub source_of_item : (item : Item) → item_here ≡ Some item → s ≡ source_of nodes who item
  source_of_item item at = source_by_item ∙ ap (source_by nodes is.element.serial) at ∙ ap (λ n. source_of nodes n item) is.serial

  pub gift_is : (h : History) (y : Entry) → h.nodes ≡ nodes → given_to h y cell ≡ given_item h y is.element cell.side item_here
  gift_is h y q =
      ap (λ ns. given_under h y cell (slice_get (elements ns) cell.row)) q
      ∙ ap (given_under h y cell) is.here
      ∙ ap (λ ns. given_item h y is.element cell.side (slice_get (items_of ns cell.side is.element) cell.item)) q

  -- where the list is stated
  pub listed_item : (attrs : Attrs) (items : List Item) → attrs ≡ is.element.attrs → Some items ≡ stated_list attrs cell.side → item_here ≡ slice_get items cell.item
  listed_item attrs items own q = by cell.side (sym (ap (λ (a : Attrs). stated_list a cell.side) own) ∙ sym q)
    where
      by : (side : Edge) → stated_list is.element.attrs side ≡ Some items → slice_get (items_of nodes side is.element) cell.item ≡ slice_get items cell.item
      by Begin r = ap (λ o. slice_get (items_or (cond (is_in_excl nodes is.element.serial) (Indefinite ∷ []) (Offset (pos 0) ∷ [])) o) cell.item) r
      by End r = ap (λ o. slice_get (items_or [] o) cell.item) r

  -- an element without `end` has no item there
  pub no_end : (attrs : Attrs) → attrs ≡ is.element.attrs → cell.side ≡ End → None ≡ stated_list attrs cell.side → item_here ≡ None
  no_end attrs own side q =
      let none : is.element.attrs.«end» ≡ None = sym (ap (λ (a : Attrs). a.«end») own) ∙ sym (ap (stated_list attrs) side) ∙ sym q in
      ap (λ t. slice_get (items_of nodes t is.element) cell.item) side
      ∙ ap (λ o. slice_get (items_or [] o) cell.item) none

  -- without `begin` it has one
  module _ (side : cell.side ≡ Begin) (absent : IsUnstated nodes who Begin) where
    abbrev default : Item
    default = cond (is_in_excl nodes is.element.serial) Indefinite (Offset (pos 0))

    unstated : is.element.attrs.begin ≡ None
    unstated = sym (ap (λ o. stated_in o Begin) is.known) ∙ absent

    split : (t : Bool) → cond t (Indefinite ∷ []) (Offset (pos 0) ∷ []) ≡ cond t Indefinite (Offset (pos 0)) ∷ []
    split true = refl
    split false = refl

    one_item : item_here ≡ slice_get (default ∷ []) cell.item
    one_item =
        ap (λ t. slice_get (items_of nodes t is.element) cell.item) side
        ∙ ap (λ o. slice_get (items_or (cond (is_in_excl nodes is.element.serial) (Indefinite ∷ []) (Offset (pos 0) ∷ [])) o) cell.item) unstated
        ∙ ap (λ is. slice_get is cell.item) (split (is_in_excl nodes is.element.serial))

    pub no_more : 0 < cell.item → item_here ≡ None
    no_more more = one_item ∙ slice_get_past (default ∷ []) cell.item (omega (arith, more))

    by_source : (t : Bool) → source_of nodes is.element.serial (cond t Indefinite (Offset (pos 0))) ≡ s → cond t Indefinite (Offset (pos 0)) ≡ default_of s
    by_source true q = ap default_of q
    by_source false q = by (previous_in_seq nodes is.element.serial) q
      where
        by : (o : Option Node) → syncbase_or source.Start End o ≡ s → Offset (pos 0) ≡ default_of s
        by None r = ap default_of r
        by (Some b) r = ap default_of r

    pub only_item : cell.item ≤ 0 → item_here ≡ Some (default_of s)
    only_item first =
        let zeroth : cell.item ≡ 0 = omega (arith, first) in
        let at : item_here ≡ Some default = one_item ∙ ap (slice_get (default ∷ [])) zeroth in
        at ∙ ap Some (by_source (is_in_excl nodes is.element.serial) (sym (source_by_item ∙ ap (source_by nodes is.element.serial) at)))

-- ---- many cells

module _ (h : History) (y : Entry) where
  abbrev pub one_add : Cell → Option InstanceTime → List Add
  one_add cell o = cons_option (add_to cell o) []

  pub more_adds : (cells : List Cell) (i : ℕ) (d : Cell) (o : Option InstanceTime) → i < length cells → o ≡ given_to h y (get_or cells i d) → adds_to h y (take (i + 1) cells) ≡ adds_to h y (take i cells) ++ one_add (get_or cells i d) o
  more_adds cells i d o inside q =
      ap (adds_to h y) (take_more cells i d inside)
      ∙ filter_map-append (λ c. add_to c (given_to h y c)) (take i cells) (get_or cells i d ∷ [])
      ∙ ap (λ g. adds_to h y (take i cells) ++ one_add (get_or cells i d) g) (sym q)
