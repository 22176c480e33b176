-- The places of nodes in document order, by their serials.
use Rattle.std.specs.Prelude.{◌≡◌, ℕ, ◌-◌, ◌^◌, ◌<◌, List, ◌++◌, take, drop, length, ◌==◌, Option, Some, is_some, slice_get}
use Rattle.std.specs.FinMap.{FinMap, get as place_of}
use Rattle.std.specs.List.{list_any, position}
use Rattle.std.specs.Ordering.{nat_cmp}
use Rattle.smil_model.specs.declared.document.Attrs.{Attrs}
use Rattle.smil_model.specs.declared.document.Node.{Node}
use Rattle.smil_model.specs.document.Valid.{IsDistinct}

-- the place of the node with a serial
abbrev pub place_among : List Node → ℕ → Option ℕ
place_among nodes s = position (λ (n : Node). n.serial == s) nodes

-- the table leads from the serial of each node to its place
pub record IsIndexed (nodes : List Node) (places : FinMap nat_cmp ℕ) : Type 0 where
  pub few : length nodes < 2 ^ 32 - 1
  pub apart : IsDistinct nodes
  pub placed : (s : ℕ) → place_of places s ≡ place_among nodes s

-- the table has a place of each node's serial and of no other, the right one of those before a place
pub record IsCounted (nodes : List Node) (places : FinMap nat_cmp ℕ) (first : ℕ) : Type 0 where
  pub right :
      (k : ℕ) (n : Node) → k < first → slice_get nodes k ≡ Some n
      → place_of places n.serial ≡ Some k
  pub known : (s : ℕ) → is_some (place_of places s) ≡ list_any (λ (n : Node). n.serial == s) nodes

-- the list without what stands from one place on up to another
abbrev pub cut : {A : Type 0} → ℕ → ℕ → List A → List A
cut place past xs = take place xs ++ drop past xs

-- the node with other attributes
abbrev pub with_attrs : (Attrs → Attrs) → Node → Node
with_attrs change n = record n { attrs = change n.attrs }
