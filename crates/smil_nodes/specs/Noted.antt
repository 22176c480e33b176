-- Which elements are listed for evaluation behind entries.
use Rattle.std.specs.Prelude.{◌≡◌, ℕ, ◌<◌, List, drop, length, Bool, true, false, ◌&&◌, ◌||◌, ◌==◌, ◌⊎◌, Option, Some, is_some, slice_get}
use Rattle.std.specs.List.{list_any, position}
use Rattle.smil_model.specs.declared.diary.Happening.{Happening}
use Rattle.smil_model.specs.declared.diary.Happening.TheVariants as happening
use Rattle.smil_model.specs.declared.diary.LogEntry.{LogEntry}
use Rattle.smil_model.specs.declared.diary.Step.{Step}
use Rattle.smil_model.specs.declared.document.Item.{Item}
use Rattle.smil_model.specs.declared.interval.Interval.{Interval}
use Rattle.smil_model.specs.declared.document.Node.{Node}
use Rattle.smil_model.specs.document.Dependencies.{all_items}
use Rattle.smil_model.specs.document.Document.{descendants, elements, has_serial, node_at}
use Rattle.smil_model.specs.document.Closure.{has}
use Rattle.smil_model.specs.reach.Reach.{key_of, reads, subject_of, waiters}
use Rattle.smil_concern_laws.specs.Concerned.{is_concerned_through, is_hearer, is_moved, moves}
use Rattle.smil_graph.specs.Graph.{OrderedNodes}
use Rattle.smil_instance_rows.specs.declared.cell.Cell.{Cell}
use Rattle.smil_instances.specs.declared.source.Source.{Source}
use Rattle.smil_instances.specs.declared.source.Source.TheVariants as source
use Rattle.smil_instances.specs.Sources.{source_at}
use Rattle.smil_past.specs.Past.{MarkedHistory}
use Rattle.smil_cells.specs.Evaluated.{acts_on, is_container_of, is_noted_by}

-- an element itself, and what reads it; nothing for a serial of no element
abbrev pub is_self_or_reader : List Node → ℕ → ℕ → Bool
is_self_or_reader nodes x s = is_some (node_at (elements nodes) x) && ((x == s) || reads nodes x s)

-- what is below a node, and what reads it
abbrev pub is_below_or_reader : List Node → ℕ → ℕ → Bool
is_below_or_reader nodes x s =
    list_any (λ (n : Node). is_self_or_reader nodes n.serial s) (descendants nodes x)

-- whether the element has an item that passes
abbrev pub has_item : List Node → (ℕ → Item → Bool) → ℕ → Bool
has_item nodes passes s =
    list_any (λ (e : Node). (e.serial == s) && list_any (passes e.serial) (all_items nodes e))
    (elements nodes)

-- an item that a step on the element x moves; none for a serial of no element
abbrev pub has_moved_item : List Node → ℕ → Step → ℕ → Bool
has_moved_item nodes x step s =
    is_some (node_at (elements nodes) x) && has_item nodes (λ e. is_moved nodes e x step) s

-- whether a step on the element that a source names can change the times of an item with it
abbrev pub moves_source : Step → Source → Bool
moves_source step (source.Syncbase of edge) = moves edge step
moves_source step (source.Eventbase of) = true
moves_source step _ = false

-- whether it is the element of a cell
abbrev pub is_of_cell : List Node → Cell → ℕ → Bool
is_of_cell nodes cell s = has_serial s (slice_get (elements nodes) cell.row)

-- and whether a step on the element that the cell's item names moves the item
abbrev pub is_of_moved : List Node → Step → Cell → ℕ → Bool
is_of_moved nodes step cell s =
    moves_source step (source_at nodes cell) && is_of_cell nodes cell s

-- what a log entry concerns
abbrev pub is_concerned_by_heard : List Node → Happening → ℕ → Bool
is_concerned_by_heard nodes (happening.Event who name) s =
    is_some (node_at (elements nodes) who) && is_hearer nodes who s
is_concerned_by_heard nodes (happening.Media who length) s =
    is_some (node_at (elements nodes) who) && (who == s)
is_concerned_by_heard nodes (happening.Key key) s = has (waiters nodes key) s

-- of the elements in an order the ranks of those that pass a test are listed besides what was,
-- and no other numbers
pub record AreNoted (order : List ℕ) (test : ℕ → Bool) (old new : List ℕ) : Type 0 where
  pub listed : (s r : ℕ) → position (λ t. t == s) order ≡ Some r → has new r ≡ (has old r || test s)
  pub ranks : (r : ℕ) → has new r ≡ true → (has old r ≡ true) ⊎ (r < length order)

-- what a step concerns is listed, and the container of the element whose ends it may change
abbrev pub NotesStep :
    OrderedNodes → List LogEntry → (ℕ → Option Interval) → Step → List ℕ → List ℕ → Type 0
NotesStep graph log before step old new =
    AreNoted graph.order
    (λ (s : ℕ). is_concerned_through graph.nodes log (key_of log step) (subject_of log step) step s
    || is_container_of graph.nodes before step (acts_on step) s)
    old new

-- so it is of the entries from a place on
abbrev pub NotesEntries :
    OrderedNodes → MarkedHistory → (ℕ → Option Interval) → ℕ → List ℕ → List ℕ → Type 0
NotesEntries graph past before from old new =
    AreNoted graph.order (is_noted_by graph.nodes past.log before (drop from past.diary)) old new
