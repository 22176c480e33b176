-- The elements of a document, by their serials, and the time children of one.
use Rattle.std.proofs.Common.{◌≡◌, refl, sym, ◌∙◌, ap, subst, ℕ, zero, suc, ◌<◌, ◌-◌, List, [], ◌∷◌, length, get_or, Bool, true, false}
use Rattle.std.specs.Prelude.{Option, None, Some, if◌then◌else◌, filter, slice_get}
use Rattle.std.proofs.lemmas.Bool.{eqb-true, and_parts}
use Rattle.std.proofs.lemmas.Option.{get_or_from_slice_get, slice_get_within}
use Rattle.smil_model.specs.declared.document.Node.{Node}
use Rattle.smil_model.specs.declared.document.Kind.{Kind}
use Rattle.smil_model.specs.document.Document.{Document, elements, has_serial, is_element, is_time_child, node_at, serial_of, serials, time_children, time_parent}
use Rattle.smil_model.specs.document.Valid.{IsNumberedTree, kind_of}
use Rattle.smil_laws.proofs.Lists.{each_at, each_kept}
use Rattle.smil_tree.proofs.NodeSpans.{all_known}
use Rattle.smil_instances.proofs.EmptyRows.{IsAt, at_place, element_at}
use Rattle.smil_past.proofs.ItemReferences.{kept_known, stands}

-- it is the node with the serial
pub known_node : (document : Document) → IsNumberedTree document → (who : ℕ) (e : Node) → node_at (elements document.nodes) who ≡ Some e → node_at document.nodes who ≡ Some e
known_node document numbered who e found =
    let s = stands (elements document.nodes) who e found in
    element_at document numbered s.place who (record { node = e; at = s.at; serial = sym s.serial })

pub kind_is : (nodes : List Node) (who : ℕ) (e : Node) (kind : Kind) → Some kind ≡ kind_of (node_at nodes who) → node_at nodes who ≡ Some e → kind ≡ e.kind
kind_is nodes who e kind is known =
    let both : Some kind ≡ Some e.kind = is ∙ ap kind_of known in
    cc

-- ---- time children

pub passes : (p : Node → Bool) (ns : List Node) (i : ℕ) (n : Node) → slice_get (filter p ns) i ≡ Some n → p n ≡ true
passes p [] i n at = absurd (cc)
passes p (m ∷ ns) zero n at =
    elim (p m) as (λ (t : Bool). p m ≡ t → slice_get (if t then m ∷ filter p ns else filter p ns) zero ≡ Some n → p n ≡ true) [
      | true ↦ λ is there. let one : m ≡ n = cc in ap p (sym one) ∙ is
      | false ↦ λ _ there. passes p ns zero n there
    ] refl at
passes p (m ∷ ns) (suc i) n at =
    elim (p m) as (λ (t : Bool). slice_get (if t then m ∷ filter p ns else filter p ns) (suc i) ≡ Some n → p n ≡ true) [
      | true ↦ λ there. passes p ns i n there
      | false ↦ λ there. passes p ns (suc i) n there
    ] at

pub serial_is : (who : ℕ) (o : Option Node) → has_serial who o ≡ true → serial_of o ≡ Some who
serial_is who None q = absurd (cc)
serial_is who (Some n) q = ap Some (eqb-true n.serial who q)

-- a time child at its place, by its serial
pub record IsChild (nodes : List Node) (who k child : ℕ) : Type 0 where
  pub node : Node
  pub at : slice_get (time_children nodes who) k ≡ Some node
  pub known : node_at (elements nodes) child ≡ Some node
  pub parent : serial_of (time_parent nodes child) ≡ Some who

pub child_at : (document : Document) → IsNumberedTree document → (who k : ℕ) (whos : List ℕ) → whos ≡ serials (time_children document.nodes who) → k < length whos → IsChild document.nodes who k (get_or whos k 0)
child_at document numbered who k whos are inside =
    let nodes = document.nodes in
    let child = get_or whos k 0 in
    let here : IsAt (time_children nodes who) k child = at_place (time_children nodes who) whos k are inside in
    let parts = and_parts (is_element here.node) (has_serial who (time_parent nodes here.node.serial)) (passes (is_time_child nodes who) nodes k here.node here.at) in
    let own : node_at nodes here.node.serial ≡ Some here.node =
    each_at (λ (m : Node). node_at nodes m.serial ≡ Some m) (time_children nodes who) k here.node
    (each_kept (λ (m : Node). node_at nodes m.serial ≡ Some m) (is_time_child nodes who) nodes (all_known nodes document.next numbered)) here.at in
    record {
      node = here.node;
      at = here.at;
      known = kept_known nodes child here.node (ap (node_at nodes) here.serial ∙ own) parts.0;
      parent = ap (λ s. serial_of (time_parent nodes s)) here.serial ∙ serial_is who (time_parent nodes here.node.serial) parts.1;
    }

-- the last time child, at its place
pub last_child : (document : Document) → IsNumberedTree document → (who : ℕ) (whos : List ℕ) → whos ≡ serials (time_children document.nodes who) → (child : ℕ) → slice_get whos (length whos - 1) ≡ Some child → IsChild document.nodes who (length whos - 1) child
last_child document numbered who whos are child at =
    subst (λ (s : ℕ). IsChild document.nodes who (length whos - 1) s) (get_or_from_slice_get whos (length whos - 1) child 0 at)
    (child_at document numbered who (length whos - 1) whos are (slice_get_within whos (length whos - 1) child at))
