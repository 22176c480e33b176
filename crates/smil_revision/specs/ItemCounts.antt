-- How many items the lists of an element have.
use Rattle.std.specs.Prelude.{ℕ, List, length, option_map, Option}
use Rattle.smil_model.specs.declared.document.Node.{Node}
use Rattle.smil_model.specs.document.Defaults.{begin_list, end_list}
use Rattle.smil_model.specs.document.Document.{elements, node_at}

-- how many items the begin and the end list of an element have
abbrev pub item_counts : List Node → Node → ℕ × ℕ
item_counts nodes e = (length (begin_list nodes e), length (end_list e))

-- the same by the serial of the element
abbrev pub counts_at : List Node → ℕ → Option (ℕ × ℕ)
counts_at nodes serial = option_map (item_counts nodes) (node_at (elements nodes) serial)
