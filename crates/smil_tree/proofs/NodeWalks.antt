-- Loops that walk over the nodes of a document.
use Rattle.std.proofs.Common.{◌≡◌, refl, sym, ◌∙◌, ap, List, [], ◌∷◌, ◌++◌, Some, length, map, append-nil, append_assoc}
use Rattle.std.specs.Prelude.{slice_get}
use Rattle.std.proofs.lemmas.List.{map-append}
use Rattle.smil_model.specs.declared.document.Node.{Node}
use Rattle.smil_model.specs.document.Document.{node_at}
use Rattle.smil_model.specs.document.Valid.{IsDistinct}
use Rattle.smil_tree.proofs.NodeFamilies.{node_of_place}

-- the nodes that a walk has passed, where these are left
pub record Walked (nodes left : List Node) : Type 0 where
  pub past : List Node
  pub whole : past ++ left ≡ nodes

module _ (nodes left : List Node) where
  abbrev pub walk_begun : left ≡ nodes → Walked nodes left
  walk_begun is = record { past = []; whole = is }

  pub walk_over : (walk : Walked nodes left) → left ≡ [] → walk.past ≡ nodes
  walk_over walk none = sym (append-nil walk.past) ∙ ap (λ ns. walk.past ++ ns) (sym none) ∙ walk.whole

module _ (nodes left : List Node) (n : Node) (rest : List Node) (walk : Walked nodes left) (first : left ≡ n ∷ rest) where
  -- one node further
  abbrev pub walk_on : Walked nodes rest
  walk_on = record {
    past = walk.past ++ n ∷ [];
    whole = append_assoc walk.past (n ∷ []) rest ∙ ap (λ ns. walk.past ++ ns) (sym first) ∙ walk.whole;
  }

  pub at_place : slice_get nodes (length walk.past) ≡ Some n
  at_place = ap (λ ns. slice_get ns (length walk.past)) (sym walk.whole ∙ ap (λ ns. walk.past ++ ns) first) ∙ here walk.past
    where
      here : (ns : List Node) → slice_get (ns ++ n ∷ rest) (length ns) ≡ Some n
      here [] = refl
      here (m ∷ ns) = here ns

  pub is_found : IsDistinct nodes → node_at nodes n.serial ≡ Some n
  is_found distinct = node_of_place nodes (length walk.past) n distinct at_place

-- what is made of each node, of one more
pub mapped_on : {A : Type 0} (f : Node → A) (past : List Node) (n : Node) (old new : List A) (value : A) → old ≡ map f past → new ≡ old ++ value ∷ [] → value ≡ f n → new ≡ map f (past ++ n ∷ [])
mapped_on f past n old new value so_far made is =
    made ∙ ap (λ xs. xs ++ value ∷ []) so_far ∙ ap (λ x. map f past ++ x ∷ []) is ∙ sym (map-append f past (n ∷ []))
