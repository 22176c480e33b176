-- What all sets set.
use Rattle.std.specs.Prelude.{◌≡◌, ℕ, List, [], ◌++◌, ◌≤◌, length, map, IsSome, Option, option_to_list}
use Rattle.std.specs.List.{AllByRecursion}
use Rattle.smil_model.specs.declared.document.Node.{Node}
use Rattle.smil_model.specs.declared.view.Layer.{Layer}
use Rattle.smil_model.specs.declared.view.View.{View}
use Rattle.smil_model.specs.ListTables.{list_in}
use Rattle.smil_model.specs.document.Document.{elements, node_at, serials}
use Rattle.smil_model.specs.shown.Sandwich.{names_on}
use Rattle.smil_sandwich.specs.Stacks.{AreApart, all_applied}

-- one view for each element, in document order
abbrev pub AreOfElements : List Node → List View → Type 0
AreOfElements nodes views = map (λ (v : View). v.serial) views ≡ serials (elements nodes)

-- each set is a node
abbrev pub AreSettersOf : List Node → List (ℕ × Layer) → Type 0
AreSettersOf nodes layers = AllByRecursion (λ (l : ℕ × Layer). IsSome (node_at nodes l.0)) layers

-- layers with one more behind them, where there is one
abbrev pub and_layer : List (ℕ × Layer) → Option (ℕ × Layer) → List (ℕ × Layer)
and_layer before layer = before ++ option_to_list layer

-- the layers that are kept, from the top of each stack down, and the targets with the names of
-- their attributes that are set
pub record LayerTable : Type 0 where
  pub layers : List (ℕ × Layer)
  pub names : List (ℕ × List (List ℕ))

-- these layers were taken in, of different sets that stand at different places
pub record AreSetsOf (sets : LayerTable) (layers : List (ℕ × Layer)) : Type 0 where
  pub apart : AreApart layers
  pub kept : sets.layers ≡ all_applied [] layers
  pub names : (target : ℕ) → list_in sets.names target ≡ names_on layers target

-- the layers that were taken in, of sets that are nodes
pub record AreSetsAmong
    (nodes : List Node) (sets : LayerTable) (layers : List (ℕ × Layer)) : Type 0 where
  pub are : AreSetsOf sets layers
  pub known : AreSettersOf nodes layers
  pub few : length layers ≤ length nodes
