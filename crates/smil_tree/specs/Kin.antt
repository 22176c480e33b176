-- The serials of the children and of the time children of each node, in document order,
-- in tables of lists.
use Rattle.std.specs.Prelude.{◌≡◌, ℕ, ◌<◌, List, [], filter, Bool, true, false, not, ◌==◌, nat_eq, nat_lt, Option, Some, None, slice_get, slice_range}
use Rattle.std.specs.List.{list_any, position}
use Rattle.std.specs.Map.{lookup}
use Rattle.std.specs.Vec.{vec_len, vec_capacity}
use Rattle.std.specs.declared.vec.Vec.{Vec}
use Rattle.smil_model.specs.declared.document.Node.{Node}
use Rattle.smil_model.specs.ListTables.{list_in, list_of}
use Rattle.smil_model.specs.document.Document.{is_within, time_children as time_children_of, serials}
use Rattle.smil_model.specs.document.Edits.{children as children_of}
use Rattle.smil_model.specs.reach.Reach.{is_option}
use Rattle.smil_tree.specs.Places.{cut}

-- the children by the serial of their parent, and the time children by that of their time parent
pub record Families : Type 0 where
  pub children : List (ℕ × List ℕ)
  pub time_children : List (ℕ × List ℕ)

-- they are the children and the time children of these nodes
pub record IsKinOf (families : Families) (nodes : List Node) : Type 0 where
  pub children : (s : ℕ) → list_in families.children s ≡ serials (children_of nodes s)
  pub time_children :
      (s : ℕ) → list_in families.time_children s ≡ serials (time_children_of nodes s)

-- from one place on up to another stand this node and its descendants, and no others
pub record IsSubtree (nodes : List Node) (start past : ℕ) (n : Node) : Type 0 where
  pub first : slice_get nodes start ≡ Some n
  pub others :
      cut start past nodes ≡ filter (λ (m : Node). not (is_within nodes n.serial m.serial)) nodes

-- whether there is a place, and it is before this one
abbrev pub is_earlier : ℕ → Option ℕ → Bool
is_earlier at None = false
is_earlier at (Some place) = nat_lt place at

-- whether a node with this serial stands before a place
abbrev pub is_before : List Node → ℕ → ℕ → Bool
is_before nodes at serial = is_earlier at (position (λ (n : Node). n.serial == serial) nodes)

-- ---- tables of lists

module _ {Z : Type 0} where
  -- a table has the lists of those that pass for each serial
  abbrev pub AreListsOf : (ℕ → Node → Bool) → List (ℕ × Vec ℕ Z) → List Node → Type 0
  AreListsOf t table nodes = (s : ℕ) → list_of table s ≡ serials (filter (t s) nodes)

  -- the list of the serial, if there is one, has room for one more
  abbrev pub HasRoom : Option ℕ → List (ℕ × Vec ℕ Z) → Type 0
  HasRoom None table = Unit {0}
  HasRoom (Some serial) table =
      (v : Vec ℕ Z) × (lookup (nat_eq serial) table ≡ Some v) × (vec_len v < vec_capacity v)

-- nothing in the part passes for a serial that is neither the owner nor of the part,
-- and nothing outside for one that is
pub record Separates
    (t : ℕ → Node → Bool) (owner : Option ℕ) (start past : ℕ) (nodes : List Node) : Type 0 where
  pub inside :
      (s : ℕ) → list_any (λ (n : Node). n.serial == s) (slice_range nodes start past) ≡ false
      → is_option s owner ≡ false → filter (t s) (slice_range nodes start past) ≡ []
  pub outside :
      (s : ℕ) → list_any (λ (n : Node). n.serial == s) (slice_range nodes start past) ≡ true
      → filter (t s) (cut start past nodes) ≡ []
