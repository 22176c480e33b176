-- What is kept of the items of a document is that of each one that is alike.
use Rattle.std.proofs.Common.{◌≡◌, refl, ◌∙◌, ap, ℕ, List, Bool, Option, Some, None}
use Rattle.std.specs.Prelude.{cond, ◌&&◌, ◌||◌, option_map, slice_get}
use Rattle.smil_model.specs.declared.document.Edge.{Edge}
use Rattle.smil_model.specs.declared.document.Edge.TheVariants.{End}
use Rattle.smil_model.specs.declared.document.Item.{Item}
use Rattle.smil_model.specs.declared.document.Item.TheVariants.{Offset, Sync, Event, Repeat, Key, Indefinite}
use Rattle.smil_model.specs.declared.document.Node.{Node}
use Rattle.smil_model.specs.document.Defaults.{items_of}
use Rattle.smil_model.specs.document.Document.{element_named, elements, has_serial, previous_in_seq, time_parent}
use Rattle.smil_model.specs.happening.Queue.{is_child_of}
use Rattle.smil_model.specs.reach.Reach.{is_option}
use Rattle.smil_graph.specs.Reduced.{all_reduced, reduced, reduced_item}
use Rattle.smil_graph.proofs.AlikeDocuments.{elements_reduced, get_item, get_reduced, has_serial_reduced, items_of_reduced, named_reduced, previous_reduced, target_reduced, time_parent_reduced}
use Rattle.smil_graph.proofs.AlikeTables.{across, across_node, twin}
use Rattle.smil_instance_rows.specs.declared.cell.Cell.{Cell}
use Rattle.smil_instances.specs.declared.source.Source.{Source}
use Rattle.smil_instances.specs.declared.source.Source.TheVariants as source
use Rattle.smil_instances.specs.Dependents.{AreDependentsOf, DocumentDependents, keys_cell}
use Rattle.smil_instances.specs.Sources.{base_of, concerns_cell, concerns_under, eventbase, is_concerned, is_keyed, is_reset_with, item_at, item_under, source_at, source_by, source_of, source_under, syncbase_or}

syncbase_reduced : (without : Source) (edge : Edge) (o : Option Node) → syncbase_or without edge (option_map reduced o) ≡ syncbase_or without edge o
syncbase_reduced without edge None = refl
syncbase_reduced without edge (Some x) = refl

module _ (ns : List Node) where
  abbrev us : List Node
  us = all_reduced ns

  source_of_reduced : (e : ℕ) (item : Item) → source_of us e (reduced_item item) ≡ source_of ns e item
  source_of_reduced e (Offset o) = ap (syncbase_or source.Start End) (previous_reduced ns e) ∙ syncbase_reduced source.Start End (previous_in_seq ns e)
  source_of_reduced e (Sync who edge o) = ap (syncbase_or source.Nothing edge) (named_reduced ns who) ∙ syncbase_reduced source.Nothing edge (element_named ns who)
  source_of_reduced e (Event who name o) = ap eventbase (target_reduced ns e who)
  source_of_reduced e (Repeat who n o) = ap eventbase (target_reduced ns e who)
  source_of_reduced e (Key key o) = refl
  source_of_reduced e Indefinite = refl

  element_reduced : (row : ℕ) → slice_get (elements us) row ≡ option_map reduced (slice_get (elements ns) row)
  element_reduced row = ap (λ xs. slice_get xs row) (elements_reduced ns) ∙ get_reduced (elements ns) row

  item_at_reduced : (cell : Cell) → item_at us cell ≡ option_map reduced_item (item_at ns cell)
  item_at_reduced cell = ap (item_under us cell) (element_reduced cell.row) ∙ by_node (slice_get (elements ns) cell.row)
    where
      by_node : (o : Option Node) → item_under us cell (option_map reduced o) ≡ option_map reduced_item (item_under ns cell o)
      by_node None = refl
      by_node (Some e) = ap (λ xs. slice_get xs cell.item) (items_of_reduced ns cell.side e) ∙ get_item (items_of ns cell.side e) cell.item

  source_at_reduced : (cell : Cell) → source_at us cell ≡ source_at ns cell
  source_at_reduced cell = ap (source_under us cell) (element_reduced cell.row) ∙ by_node (slice_get (elements ns) cell.row)
    where
      by_item : (e : ℕ) (o : Option Item) → source_by us e (option_map reduced_item o) ≡ source_by ns e o
      by_item e None = refl
      by_item e (Some item) = source_of_reduced e item

      by_node : (o : Option Node) → source_under us cell (option_map reduced o) ≡ source_under ns cell o
      by_node None = refl
      by_node (Some e) = ap (source_by us e.serial) (item_at_reduced cell) ∙ by_item e.serial (item_at ns cell)

  child_of_reduced : (p e : ℕ) → is_child_of us p e ≡ is_child_of ns p e
  child_of_reduced p e = ap (has_serial p) (time_parent_reduced ns e) ∙ has_serial_reduced p (time_parent ns e)

  reset_reduced : (p e : ℕ) (s : Source) → is_reset_with us p e s ≡ is_reset_with ns p e s
  reset_reduced p e source.Start = child_of_reduced p e
  reset_reduced p e (source.Syncbase x edge) = ap (λ b. b || is_child_of us p x) (child_of_reduced p e) ∙ ap (λ b. is_child_of ns p e || b) (child_of_reduced p x)
  reset_reduced p e (source.Eventbase x) = child_of_reduced p e
  reset_reduced p e (source.Key key) = child_of_reduced p e
  reset_reduced p e source.Nothing = refl

  concerns_reduced : (is_birth : Bool) (x : ℕ) (cell : Cell) → concerns_cell us is_birth x cell ≡ concerns_cell ns is_birth x cell
  concerns_reduced is_birth x cell = ap (concerns_under us is_birth x cell) (element_reduced cell.row) ∙ by_node (slice_get (elements ns) cell.row)
    where
      by_node : (o : Option Node) → concerns_under us is_birth x cell (option_map reduced o) ≡ concerns_under ns is_birth x cell o
      by_node None = refl
      by_node (Some e) =
          ap (is_concerned us is_birth x e.serial) (source_at_reduced cell)
          ∙ ap (λ b. is_option x (base_of (source_at ns cell)) || (is_birth && b)) (reset_reduced x e.serial (source_at ns cell))

  keys_reduced : (key : ℕ) (cell : Cell) → keys_cell us key cell ≡ keys_cell ns key cell
  keys_reduced key cell = ap (is_keyed (Some key)) (source_at_reduced cell)

pub dependents_alike : (old new : List Node) → all_reduced old ≡ all_reduced new → (dependents : DocumentDependents) → AreDependentsOf old dependents → AreDependentsOf new dependents
dependents_alike old new alike dependents are = record {
  sources = λ cell. are.sources cell ∙ across (λ ns. source_at ns cell) (λ ns. source_at_reduced ns cell) old new alike;
  cells = λ row x is_birth at c.
      let n = twin (slice_get (elements old) row) x (across_node (λ ns. slice_get (elements ns) row) (λ ns. element_reduced ns row) old new alike ∙ ap (option_map reduced) at) in
      are.cells row n.0 is_birth n.1 c
      ∙ ap (λ (m : Node). cond (concerns_cell old is_birth m.serial c) 1 0) n.2
      ∙ ap (λ b. cond b 1 0) (across (λ ns. concerns_cell ns is_birth x.serial c) (λ ns. concerns_reduced ns is_birth x.serial c) old new alike);
  keyed = λ key c. are.keyed key c ∙ ap (λ b. cond b 1 0) (across (λ ns. keys_cell ns key c) (λ ns. keys_reduced ns key c) old new alike);
}
