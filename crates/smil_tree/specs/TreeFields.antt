-- What a tree keeps beside its nodes, and what it knows of them.
use Rattle.std.specs.Prelude.{◌≡◌, ℕ, List, find, Bool, false, not, ◌==◌, Option, None, Some}
use Rattle.std.specs.Str.{bytes_eq}
use Rattle.std.specs.Map.{lookup}
use Rattle.smil_model.specs.declared.document.Node.{Node}
use Rattle.smil_model.specs.document.Document.{has_id, serial_of}
use Rattle.smil_model.specs.document.Valid.{IsValid, references}
use Rattle.smil_tree.specs.Kin.{Families, IsKinOf}
use Rattle.smil_tree.specs.declared.outline.Outline.{Outline}
use Rattle.smil_tree.specs.Outline.{IsOutlineOf}

-- whether the node has this id
abbrev pub bears : List ℕ → Node → Bool
bears id n = has_id id n.attrs.id

-- the serial of the node with this id
abbrev pub owner : List ℕ → List Node → Option ℕ
owner id nodes = serial_of (find (bears id) nodes)

-- whether this is another serial than the given one
abbrev pub is_other : ℕ → Option ℕ → Bool
is_other serial None = false
is_other serial (Some s) = not (s == serial)

-- the table leads from each id to the serial of its node
abbrev pub IsTableOf : List (List ℕ × ℕ) → List Node → Type 0
IsTableOf table nodes = (id : List ℕ) → lookup (bytes_eq id) table ≡ owner id nodes

-- the fields of a tree without its outline
pub record Keeps (nodes : List Node) (next : ℕ) (table : List (List ℕ × ℕ)) (total : ℕ)
    (families : Families) : Type 0 where
  pub valid : IsValid (record { nodes = nodes; next = next })
  pub ids : IsTableOf table nodes
  pub total_is : total ≡ references nodes
  pub kin : IsKinOf families nodes

-- the fields of a tree
pub record IsKept (nodes : List Node) (next : ℕ) (table : List (List ℕ × ℕ)) (total : ℕ)
    (families : Families) (outline : Outline) : Type 0 where
  pub keeps : Keeps nodes next table total families
  pub outline_is : IsOutlineOf nodes outline
