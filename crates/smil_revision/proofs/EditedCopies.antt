-- What the edited copies of a document come to.
use Rattle.std.proofs.Common.{◌≡◌, ℕ, ◌-◌, List, true, Option, Some, None, Result, Ok, Err, inl, inr, refl, sym, ap, ◌∙◌, subst}
use Rattle.std.specs.Prelude.{⊤, IsSome}
use Rattle.std.proofs.lemmas.Bool.{cond_both}
use Rattle.smil_model.specs.declared.document.Node.{Node}
use Rattle.smil_model.specs.declared.document.Kind.{Kind}
use Rattle.smil_model.specs.declared.document.Attr.{Attr}
use Rattle.smil_model.specs.declared.document.AttrName.{AttrName}
use Rattle.smil_model.specs.declared.document.Attrs.{Attrs}
use Rattle.smil_model.specs.declared.order.Refusal.{Refusal}
use Rattle.smil_model.specs.declared.order.Refusal.TheVariants as refusal
use Rattle.smil_model.specs.document.Document.{Document, node_at, serial_of}
use Rattle.smil_model.specs.document.Edits.{attr_unset, node_inserted, no_attrs, with_attr}
use Rattle.smil_model.specs.document.Limits.{limits}
use Rattle.smil_model.specs.document.Valid.{IsValid, kind_of, may_stand}
use Rattle.smil_model.specs.document.Values.{fit_kind, is_seq_parent}
use Rattle.smil_model.specs.happening.Queue.{parent_of}
use Rattle.smil_model.specs.shown.Orders.{and_then, attr_set_by, attr_unset_by, found, insert_checked, may_insert, node_inserted_by, node_removed_from, set_checked}
use Rattle.smil_model.specs.shown.Answers.{IsRefusedBy}
use Rattle.smil_grammar.specs.declared.fault.AttrFault.{AttrFault}
use Rattle.smil_grammar.specs.declared.fault.AttrFault.TheVariants as attr_fault
use Rattle.smil_grammar.specs.declared.fault.NodeFault.{NodeFault}
use Rattle.smil_grammar.specs.declared.fault.NodeFault.TheVariants as node_fault
use Rattle.smil_grammar.specs.Formats.{attr_in_line, attrs_in_line, formats, kind_in_line, name_in_line, written_at}
use Rattle.smil_grammar.specs.Nodes.{Shape, WrittenAttr, at_column, attribute_of, attrs_from, attrs_of, node_of, shape_of}
use Rattle.smil_grammar.specs.Nodes.{kind_of as kind_of_line}
use Rattle.smil_grammar.specs.Outlines.{in_line}
use Rattle.smil_grammar.specs.Results.{◌>>=◌}
use Rattle.smil_grammar.specs.Gives.{GivesReading}
use Rattle.smil_attrs.proofs.LineRoundTrip.{node_is}
use Rattle.smil_laws.proofs.ListMembers.{There, there}
use Rattle.smil_laws.proofs.RoundsRest.{find-serial}
use Rattle.smil_outline.proofs.ReadValuesFit.{given_fits, ranges}
use Rattle.smil_tree.specs.declared.fault.TreeFault.{TreeFault}
use Rattle.smil_tree.specs.Outcomes.{IsFaultOf, and_after, insert_outcome, may_bear, may_take, passes, place_outcome, remove_outcome, room_outcome, set_outcome}
use Rattle.smil_tree.specs.Refusals.{of_tree}
use Rattle.smil_tree.proofs.AttributeEdits.{fits_at}
use Rattle.smil_tree.proofs.ParentNodes.{parent_there}
use Rattle.smil_revision.specs.Editing.{at_node}
use Rattle.smil_revision.specs.Refusing.{of_outcome}
use Rattle.smil_revision.proofs.TreeFaults.{fault_refuses, place_is, remove_is, room_is, set_is}

-- ---- the node of a serial

pub some_from : {A : Type 0} (o : Option A) (x : A) → o ≡ Some x → IsSome o
some_from {A = A} o x is = subst (λ (p : Option A). IsSome p) (sym is) refl

pub at_there : {A : Type 0} (nodes : List Node) (s : ℕ) (next : Node → Result A Refusal) (n : Node) → node_at nodes s ≡ Some n → at_node nodes s next ≡ next n
at_there nodes s next n at = ap (λ (o : Option Node). and_then (found o) next) at

-- a reading that is refused, unless memory ran out, by whose refusal the whole is refused
unread : {A B : Type 0} (e : Refusal) (reading : Result A Refusal) (whole : Result B Refusal) → GivesReading {A = A} (Err e) reading → (reading ≡ Err e → whole ≡ Err e) → IsRefusedBy whole e
unread refusal.Memory reading whole given goes = inl refl
unread e reading whole given goes = inr (goes given)

pub outcome_refuses : {A : Type 0} (whole : Result A Refusal) (r : Result A TreeFault) (f : TreeFault) (e : Refusal) → whole ≡ of_outcome r → e ≡ of_tree f → IsFaultOf r f → IsRefusedBy whole e
outcome_refuses {A} whole r f e is same h = moved (fault_refuses r f h)
  where
    moved : IsRefusedBy (of_outcome r) (of_tree f) → IsRefusedBy whole e
    moved (inl memory) = inl (same ∙ memory)
    moved (inr given) = inr (is ∙ given ∙ ap Err (sym same))

-- ---- an attribute that is read

read_attribute : (w : WrittenAttr) (r : Result Attr AttrFault) (given : Attr) → in_line 0 (at_column w r) ≡ Ok given → r ≡ Ok given
read_attribute w (Ok x) given h = cc
read_attribute w (Err attr_fault.UnknownAttribute) given h = absurd cc
read_attribute w (Err attr_fault.UnsupportedName) given h = absurd cc
read_attribute w (Err (attr_fault.UnsupportedValue place)) given h = absurd cc
read_attribute w (Err (attr_fault.BadValue place)) given h = absurd cc
read_attribute w (Err attr_fault.TooManyItems) given h = absurd cc
read_attribute w (Err attr_fault.Memory) given h = absurd cc

-- an attribute that was read at a node of a document
module _ (d : Document) (s : ℕ) (some : IsSome (node_at d.nodes s)) (kind : Kind) (parent : Option Kind) (kinds : (n : Node) → node_at d.nodes s ≡ Some n → kind ≡ n.kind) (parents : (n : Node) → node_at d.nodes s ≡ Some n → parent ≡ kind_of (node_at d.nodes n.parent)) where
  n : There d.nodes s
  n = there d.nodes s some

  abbrev above : Option Kind
  above = kind_of (node_at d.nodes n.node.parent)

  read_there : (name value : List ℕ) (name_column column : ℕ) → attr_in_line kind parent name value name_column column ≡ attr_in_line n.node.kind above name value name_column column
  read_there name value nc c =
      ap (λ k. attr_in_line k parent name value nc c) (kinds n.node n.at)
      ∙ ap (λ p. attr_in_line n.node.kind p name value nc c) (parents n.node n.at)

  pub may_take_read : (edited : Document) (name value : List ℕ) (name_column column : ℕ) (given : Attr) → IsValid d → edited ≡ d → attr_in_line kind parent name value name_column column ≡ Ok given → may_take edited.nodes s given ≡ true
  may_take_read edited name value nc c given valid same read =
      ap (λ (e : Document). may_take e.nodes s given) same
      ∙ ap (λ (o : Option Node). passes (λ (m : Node). fit_kind m.kind (kind_of (node_at d.nodes m.parent)) (with_attr m.attrs given)) o) n.at
      ∙ given_fits n.node.kind above n.node.attrs name value given (fits_at d.nodes s n.node valid.fitting n.at)
      (read_attribute (written_at name value nc c) (attribute_of (is_seq_parent above) n.node.kind name value) given (sym (read_there name value nc c) ∙ read))

  at_value : (name value : List ℕ) (name_column column : ℕ) (r : Result Attr Refusal) → attr_in_line kind parent name value name_column column ≡ r → at_node d.nodes s (λ m. attr_set_by limits formats d m name value name_column column) ≡ and_then r (set_checked limits d n.node)
  at_value name value nc c r read =
      at_there d.nodes s (λ m. attr_set_by limits formats d m name value nc c) n.node n.at
      ∙ ap (λ r. and_then r (set_checked limits d n.node)) (sym (read_there name value nc c) ∙ read)

  pub set_read : (name value : List ℕ) (name_column column : ℕ) (given : Attr) → attr_in_line kind parent name value name_column column ≡ Ok given → at_node d.nodes s (λ m. attr_set_by limits formats d m name value name_column column) ≡ of_outcome (set_outcome d s given)
  set_read name value nc c given read =
      at_value name value nc c (Ok given) read
      ∙ set_is d n.node given
      ∙ ap (λ t. of_outcome (set_outcome d t given)) (find-serial s d.nodes n.node n.at)

  pub value_unread : (name value : List ℕ) (name_column column : ℕ) (e : Refusal) → GivesReading {A = Attr} (Err e) (attr_in_line kind parent name value name_column column) → IsRefusedBy (at_node d.nodes s (λ m. attr_set_by limits formats d m name value name_column column)) e
  value_unread name value nc c e given = unread e (attr_in_line kind parent name value nc c) _ given (at_value name value nc c (Err e))

  at_name : (name : List ℕ) (column : ℕ) (r : Result AttrName Refusal) → r ≡ name_in_line kind name column → at_node d.nodes s (λ m. attr_unset_by formats d m name column) ≡ and_then r (λ (a : AttrName). Ok (attr_unset d n.node.serial a))
  at_name name column r read =
      at_there d.nodes s (λ m. attr_unset_by formats d m name column) n.node n.at
      ∙ ap (λ r. and_then r (λ (a : AttrName). Ok (attr_unset d n.node.serial a))) (ap (λ k. name_in_line k name column) (sym (kinds n.node n.at)) ∙ sym read)

  pub unset_read : (name : List ℕ) (column : ℕ) (given : AttrName) (edited : Document) → Ok given ≡ name_in_line kind name column → edited ≡ attr_unset d s given → at_node d.nodes s (λ m. attr_unset_by formats d m name column) ≡ Ok edited
  unset_read name column given edited read is =
      at_name name column (Ok given) read
      ∙ ap (λ t. Ok (attr_unset d t given)) (find-serial s d.nodes n.node n.at)
      ∙ ap Ok (sym is)

  pub name_unread : (name : List ℕ) (column : ℕ) (e : Refusal) → Err e ≡ name_in_line kind name column → IsRefusedBy (at_node d.nodes s (λ m. attr_unset_by formats d m name column)) e
  name_unread name column e read = inr (at_name name column (Err e) read)

-- ---- a node line that is read fits

pub kind_given : (column : ℕ) (r : Result Kind NodeFault) (kind : Kind) → Ok kind ≡ in_line column r → r ≡ Ok kind
kind_given column (Ok x) kind h = cc
kind_given column (Err e) kind h = absurd cc

-- a node that was read with these attributes
record ReadAs (r : Result (Kind × Attrs) NodeFault) (attrs : Attrs) : Type 0 where
  kind : Kind
  is : r ≡ Ok (kind, attrs)

read_node : (column : ℕ) (r : Result (Kind × Attrs) NodeFault) (attrs : Attrs) → in_line column (r >>= λ node. Ok node.1) ≡ Ok attrs → ReadAs r attrs
read_node column (Ok node) attrs h =
    let same : node.1 ≡ attrs = cc in
    record { kind = node.0; is = ap (λ (a : Attrs). Ok (node.0, a)) same }
read_node column (Err e) attrs h = absurd cc

abbrev kind_or : Kind → Result (Kind × Attrs) NodeFault → Kind
kind_or k (Ok node) = node.0
kind_or k (Err e) = k

abbrev paired : Kind → Result Attrs NodeFault → Result (Kind × Attrs) NodeFault
paired k r = r >>= λ a. Ok (k, a)

same_kind : (parent : Option Kind) (k k2 : Kind) (shape : Option Shape) (attrs : Attrs) → attrs_of parent k shape ≡ Ok (k2, attrs) → k2 ≡ k
same_kind parent k k2 None attrs h = absurd cc
same_kind parent k k2 (Some shape) attrs h =
    cond_both (may_stand parent k) (paired k (attrs_from (is_seq_parent parent) k no_attrs shape.attributes)) (Err node_fault.BadPlace) (λ r. r ≡ Ok (k2, attrs) → k2 ≡ k)
    (λ e. by_attrs (attrs_from (is_seq_parent parent) k no_attrs shape.attributes)) (λ e g. absurd cc) h
  where
    by_attrs : (r : Result Attrs NodeFault) → paired k r ≡ Ok (k2, attrs) → k2 ≡ k
    by_attrs (Ok a) g = sym (ap (kind_or k) g)
    by_attrs (Err e) g = sym (ap (kind_or k) g)

line_fits : (parent kind : Kind) (line : List ℕ) (column : ℕ) (attrs : Attrs) → Ok kind ≡ kind_in_line line column → attrs_in_line parent line column ≡ Ok attrs → fit_kind kind (Some parent) attrs ≡ true
line_fits parent kind line column attrs kind_read read =
    let node : ReadAs (node_of (Some parent) line) attrs = read_node (column - 1) (node_of (Some parent) line) attrs read in
    let first : kind_of_line line ≡ Ok kind = kind_given (column - 1) (kind_of_line line) kind kind_read in
    let rest : attrs_of (Some parent) kind (shape_of line) ≡ Ok (node.kind, attrs) = sym (ap (λ (r : Result Kind NodeFault). r >>= λ k. attrs_of (Some parent) k (shape_of line)) first) ∙ node.is in
    let same : node.kind ≡ kind = same_kind (Some parent) kind node.kind (shape_of line) attrs rest in
    ranges kind (Some parent) attrs (node_is (Some parent) line kind attrs (node.is ∙ ap (λ (k : Kind). Ok (k, attrs)) same)).1

-- a line whose kind is read so, or refused
at_kind : (d : Document) (s place : ℕ) (line : List ℕ) (column : ℕ) (p : There d.nodes s) (r : Result Kind Refusal) → r ≡ kind_in_line line column → at_node d.nodes s (λ m. node_inserted_by limits formats d m place line column) ≡ and_then (and_then r (may_insert d p.node place)) (λ k. and_then (attrs_in_line p.node.kind line column) (insert_checked limits d p.node.serial place k))
at_kind d s place line column p r read =
    at_there d.nodes s (λ m. node_inserted_by limits formats d m place line column) p.node p.at
    ∙ ap (λ (r : Result Kind Refusal). and_then (and_then r (may_insert d p.node place)) (λ k. and_then (attrs_in_line p.node.kind line column) (insert_checked limits d p.node.serial place k))) (sym read)

pub kind_unread : (d : Document) (s place : ℕ) (line : List ℕ) (column : ℕ) → IsSome (node_at d.nodes s) → (e : Refusal) → Err e ≡ kind_in_line line column → IsRefusedBy (at_node d.nodes s (λ m. node_inserted_by limits formats d m place line column)) e
kind_unread d s place line column some e read = inr (at_kind d s place line column (there d.nodes s some) (Err e) read)

-- a line that is read for a child of a node
module _ (d : Document) (s place : ℕ) (line : List ℕ) (column : ℕ) (kind : Kind) (some : IsSome (node_at d.nodes s)) (kind_read : Ok kind ≡ kind_in_line line column) where
  p : There d.nodes s
  p = there d.nodes s some

  abbrev whole : Result Document Refusal
  whole = at_node d.nodes s (λ m. node_inserted_by limits formats d m place line column)

  at_place : whole ≡ and_then (and_then (of_outcome (place_outcome d.nodes s place kind)) (λ _. Ok kind)) (λ k. and_then (attrs_in_line p.node.kind line column) (insert_checked limits d p.node.serial place k))
  at_place =
      let serial : p.node.serial ≡ s = find-serial s d.nodes p.node p.at in
      let known : node_at d.nodes p.node.serial ≡ Some p.node = ap (λ t. node_at d.nodes t) serial ∙ p.at in
      at_kind d s place line column p (Ok kind) kind_read
      ∙ ap (λ (r : Result Kind Refusal). and_then r (λ k. and_then (attrs_in_line p.node.kind line column) (insert_checked limits d p.node.serial place k)))
      (place_is d p.node place kind known ∙ ap (λ t. and_then (of_outcome (place_outcome d.nodes t place kind)) (λ _. Ok kind)) serial)

  pub misplaced : (f : TreeFault) (e : Refusal) → Err f ≡ place_outcome d.nodes s place kind → e ≡ of_tree f → IsRefusedBy whole e
  misplaced f e out same =
      inr (at_place ∙ ap (λ (r : Result ⊤ TreeFault). and_then (and_then (of_outcome r) (λ _. Ok kind)) (λ k. and_then (attrs_in_line p.node.kind line column) (insert_checked limits d p.node.serial place k))) (sym out) ∙ ap Err (sym same))

  -- where it may be inserted
  module _ (done : Ok tt ≡ place_outcome d.nodes s place kind) (parent : Kind) (parent_is : Some parent ≡ kind_of (node_at d.nodes s)) where
    kind_is : parent ≡ p.node.kind
    kind_is = let found : Some parent ≡ Some p.node.kind = parent_is ∙ ap kind_of p.at in cc

    at_attrs : whole ≡ and_then (attrs_in_line parent line column) (insert_checked limits d s place kind)
    at_attrs =
        at_place
        ∙ ap (λ (r : Result ⊤ TreeFault). and_then (and_then (of_outcome r) (λ _. Ok kind)) (λ k. and_then (attrs_in_line p.node.kind line column) (insert_checked limits d p.node.serial place k))) (sym done)
        ∙ ap (λ t. and_then (attrs_in_line p.node.kind line column) (insert_checked limits d t place kind)) (find-serial s d.nodes p.node p.at)
        ∙ ap (λ k. and_then (attrs_in_line k line column) (insert_checked limits d s place kind)) (sym kind_is)

    pub attrs_unread : (e : Refusal) → GivesReading {A = Attrs} (Err e) (attrs_in_line parent line column) → IsRefusedBy whole e
    attrs_unread e given = unread e (attrs_in_line parent line column) whole given (λ read. at_attrs ∙ ap (λ r. and_then r (insert_checked limits d s place kind)) read)

    pub may_bear_read : (edited : Document) (attrs : Attrs) → edited ≡ d → attrs_in_line parent line column ≡ Ok attrs → may_bear edited.nodes s kind attrs ≡ true
    may_bear_read edited attrs same read =
        ap (λ (e : Document). may_bear e.nodes s kind attrs) same
        ∙ ap (λ (o : Option Node). passes (λ (m : Node). fit_kind kind (Some m.kind) attrs) o) p.at
        ∙ ap (λ (k : Kind). fit_kind kind (Some k) attrs) (sym kind_is)
        ∙ line_fits parent kind line column attrs kind_read read

    pub inserted_read : (attrs : Attrs) → attrs_in_line parent line column ≡ Ok attrs → whole ≡ of_outcome (insert_outcome d s place kind attrs)
    inserted_read attrs read =
        at_attrs
        ∙ ap (λ r. and_then r (insert_checked limits d s place kind)) read
        ∙ room_is d s place kind attrs
        ∙ ap (λ (r : Result ⊤ TreeFault). of_outcome (and_after r (room_outcome d attrs (node_inserted d s place kind attrs)))) done

-- ---- a node that is removed

pub removed_at : (d : Document) (s : ℕ) → IsSome (node_at d.nodes s) → at_node d.nodes s (node_removed_from d) ≡ of_outcome (remove_outcome d s)
removed_at d s some =
    let n : There d.nodes s = there d.nodes s some in
    let serial : n.node.serial ≡ s = find-serial s d.nodes n.node n.at in
    let known : node_at d.nodes n.node.serial ≡ Some n.node = ap (λ t. node_at d.nodes t) serial ∙ n.at in
    at_there d.nodes s (node_removed_from d) n.node n.at
    ∙ remove_is d n.node known
    ∙ ap (λ t. of_outcome (remove_outcome d t)) serial

-- ---- the parent of a node

pub parent_known : (nodes : List Node) (s parent : ℕ) → Some parent ≡ serial_of (parent_of nodes (node_at nodes s)) → IsSome (node_at nodes parent)
parent_known nodes s parent is = by_parent (parent_of nodes (node_at nodes s)) refl is
  where
    by_parent : (o : Option Node) → parent_of nodes (node_at nodes s) ≡ o → Some parent ≡ serial_of o → IsSome (node_at nodes parent)
    by_parent None e h = absurd cc
    by_parent (Some m) e h = by_node (node_at nodes s) refl
      where
        by_node : (o : Option Node) → node_at nodes s ≡ o → IsSome (node_at nodes parent)
        by_node None at = let none : None ≡ Some m = ap (parent_of nodes) (sym at) ∙ e in absurd cc
        by_node (Some n) at =
            let there : node_at nodes n.parent ≡ Some m = ap (parent_of nodes) (sym at) ∙ e in
            some_from (node_at nodes parent) m (parent_there nodes s parent n at is ∙ there)
