-- The rows of elements before any cell is noted.
use Rattle.std.proofs.Common.{◌≡◌, refl, sym, ◌∙◌, ap, subst, ℕ, zero, suc, List, [], ◌∷◌, Option, Some, None, Bool, true, false, cond, map, length, get_or, ◌<◌, arith}
use Rattle.std.specs.Prelude.{slice_get, option_map, pos}
use Rattle.std.proofs.lemmas.Option.{slice_get-map, get_or_from_slice_get}
use Rattle.smil_model.specs.declared.document.Node.{Node}
use Rattle.smil_model.specs.declared.document.Attrs.{Attrs}
use Rattle.smil_model.specs.declared.document.Edge.TheVariants.{End}
use Rattle.smil_model.specs.declared.document.Item.TheVariants.{Offset, Indefinite}
use Rattle.smil_model.specs.document.Document.{Document, elements, is_element, is_in_excl, node_at, previous_in_seq, serials}
use Rattle.smil_model.specs.document.Defaults.{begin_list, end_list, items_or}
use Rattle.smil_model.specs.document.Valid.{IsNumberedTree}
use Rattle.smil_laws.proofs.Lists.{each_at, each_kept}
use Rattle.smil_tree.proofs.NodeSpans.{all_known}
use Rattle.smil_tree.proofs.AttributesChanged.{serial_of}
use Rattle.smil_instances.specs.declared.source.Source.{Source}
use Rattle.smil_instances.specs.declared.source.Source.TheVariants as source
use Rattle.smil_instances.specs.Sources.{source_of, syncbase_or}
use Rattle.smil_instances.specs.Spread.{fresh_row, without_cells}

-- an element at its place is the node with its serial
pub element_known : (document : Document) → IsNumberedTree document → (i : ℕ) (n : Node) → slice_get (elements document.nodes) i ≡ Some n → node_at document.nodes n.serial ≡ Some n
element_known document numbered i n at =
    each_at (λ (m : Node). node_at document.nodes m.serial ≡ Some m) (elements document.nodes) i n
    (each_kept (λ (m : Node). node_at document.nodes m.serial ≡ Some m) is_element document.nodes (all_known document.nodes document.next numbered)) at

-- the element whose serial stands at a place
pub record IsAt (ns : List Node) (i who : ℕ) : Type 0 where
  pub node : Node
  pub at : slice_get ns i ≡ Some node
  pub serial : who ≡ node.serial

serial_at : (ns : List Node) (i : ℕ) → i < length (serials ns) → IsAt ns i (get_or (serials ns) i 0)
serial_at [] i below = absurd (omega (arith, below))
serial_at (n ∷ ns) zero below = record { node = n; at = refl; serial = refl }
serial_at (n ∷ ns) (suc i) below = let rest = serial_at ns i (omega (arith, below)) in record { node = rest.node; at = rest.at; serial = rest.serial }

pub at_place : (ns : List Node) (whos : List ℕ) (i : ℕ) → whos ≡ serials ns → i < length whos → IsAt ns i (get_or whos i 0)
at_place ns whos i is below = subst (λ (xs : List ℕ). IsAt ns i (get_or xs i 0)) (sym is) (serial_at ns i (subst (λ (xs : List ℕ). i < length xs) is below))

pub mapped_at : {A : Type 0} (f : Node → A) (ns : List Node) (xs : List A) (i : ℕ) (n : Node) (d : A) → xs ≡ map f ns → slice_get ns i ≡ Some n → get_or xs i d ≡ f n
mapped_at f ns xs i n d is at = get_or_from_slice_get xs i (f n) d (ap (λ ys. slice_get ys i) is ∙ slice_get-map f ns i ∙ ap (option_map f) at)

pub element_at : (document : Document) → IsNumberedTree document → (i who : ℕ) → (is : IsAt (elements document.nodes) i who) → node_at document.nodes who ≡ Some is.node
element_at document numbered i who is = ap (node_at document.nodes) is.serial ∙ element_known document numbered i is.node is.at

module _ (nodes : List Node) (who : ℕ) where
  by_default : (d : Source) → d ≡ syncbase_or source.Start End (previous_in_seq nodes who) → (t : Bool) → cond t source.Nothing d ∷ [] ≡ map (source_of nodes who) (cond t (Indefinite ∷ []) (Offset (pos 0) ∷ []))
  by_default d is true = refl
  by_default d is false = ap (λ s. s ∷ []) is

  -- without a begin list
  pub default_begins : (attrs : Attrs) (d : Source) → Some attrs ≡ option_map (λ (n : Node). n.attrs) (node_at nodes who) → attrs.begin ≡ None → d ≡ syncbase_or source.Start End (previous_in_seq nodes who) → Some (cond (is_in_excl nodes who) source.Nothing d ∷ []) ≡ option_map (λ (e : Node). map (source_of nodes who) (begin_list nodes e)) (node_at nodes who)
  default_begins attrs d q none is = by_node (node_at nodes who) refl q
    where
      by_node : (o : Option Node) → node_at nodes who ≡ o → Some attrs ≡ option_map (λ (n : Node). n.attrs) o → Some (cond (is_in_excl nodes who) source.Nothing d ∷ []) ≡ option_map (λ (e : Node). map (source_of nodes who) (begin_list nodes e)) o
      by_node None at r = cc
      by_node (Some e) at r =
          let same : attrs ≡ e.attrs = cc in
          let absent : e.attrs.begin ≡ None = ap (λ (a : Attrs). a.begin) (sym same) ∙ none in
          ap Some
          (by_default d is (is_in_excl nodes who)
          ∙ ap (λ s. map (source_of nodes who) (cond (is_in_excl nodes s) (Indefinite ∷ []) (Offset (pos 0) ∷ []))) (sym (serial_of nodes who e at))
          ∙ ap (λ o. map (source_of nodes who) (items_or (cond (is_in_excl nodes e.serial) (Indefinite ∷ []) (Offset (pos 0) ∷ [])) o)) (sym absent))

  pub row_is : (begins ends : List Source) → Some begins ≡ option_map (λ (e : Node). map (source_of nodes who) (begin_list nodes e)) (node_at nodes who) → Some ends ≡ option_map (λ (e : Node). map (source_of nodes who) (end_list e)) (node_at nodes who) → Some (without_cells begins ends) ≡ option_map (fresh_row nodes) (node_at nodes who)
  row_is begins ends q r = by_node (node_at nodes who) refl q r
    where
      by_node : (o : Option Node) → node_at nodes who ≡ o → Some begins ≡ option_map (λ (e : Node). map (source_of nodes who) (begin_list nodes e)) o → Some ends ≡ option_map (λ (e : Node). map (source_of nodes who) (end_list e)) o → Some (without_cells begins ends) ≡ option_map (fresh_row nodes) o
      by_node None at a b = cc
      by_node (Some e) at a b =
          let x : begins ≡ map (source_of nodes who) (begin_list nodes e) = cc in
          let y : ends ≡ map (source_of nodes who) (end_list e) = cc in
          ap Some
          (ap (λ bs. without_cells bs ends) (x ∙ ap (λ s. map (source_of nodes s) (begin_list nodes e)) (sym (serial_of nodes who e at)))
          ∙ ap (without_cells (map (source_of nodes e.serial) (begin_list nodes e))) (y ∙ ap (λ s. map (source_of nodes s) (end_list e)) (sym (serial_of nodes who e at))))

pub same_some : {A : Type 0} (x y : A) → Some x ≡ Some y → x ≡ y
same_some x y q = cc
