-- Node lines as they are written, with serials or without.
use Rattle.std.specs.Prelude.{ℕ, Bool, true, false, List, [], ◌∷◌, ◌++◌, flat_map}
use Rattle.smil_model.specs.declared.document.Node.{Node}
use Rattle.smil_model.specs.document.Document.{Document}
use Rattle.smil_model.specs.document.Words.{line_feed}
use Rattle.smil_grammar.specs.Spellings.{node_text, saved_node_text, header_text}
use Rattle.smil_grammar.specs.Outlines.{lines_from, saved_lines_from}

-- the line of a node at this depth
abbrev pub line_text : Bool → ℕ → Node → List ℕ
line_text true depth n = saved_node_text depth n.kind n.serial n.attrs
line_text false depth n = node_text depth n.kind n.attrs

-- the lines of nodes behind those of these depths
abbrev pub lines_behind : Bool → List (ℕ × ℕ) → List Node → List (List ℕ)
lines_behind true depths nodes = saved_lines_from depths nodes
lines_behind false depths nodes = lines_from depths nodes

-- the lines of all nodes, each with its line feed
abbrev pub nodes_text : Bool → List Node → List ℕ
nodes_text saved nodes = flat_map (λ line. line ++ line_feed ∷ []) (lines_behind saved [] nodes)

-- the lines of what is saved: the header, and a line for each node
abbrev pub saved_lines : Document → List (List ℕ)
saved_lines document = header_text document.next ∷ saved_lines_from [] document.nodes
