-- Attributes that are read for a node fit it.
use Rattle.std.proofs.Common.{◌≡◌, ℕ, List, true, Option, Some, Ok, sym, ap, ◌∙◌}
use Rattle.std.specs.Prelude.{IsSome}
use Rattle.smil_model.specs.declared.document.Node.{Node}
use Rattle.smil_model.specs.declared.document.Kind.{Kind}
use Rattle.smil_model.specs.declared.document.Attr.{Attr}
use Rattle.smil_model.specs.declared.document.Attrs.{Attrs}
use Rattle.smil_model.specs.document.Document.{Document, node_at}
use Rattle.smil_model.specs.document.Edits.{with_attr}
use Rattle.smil_model.specs.document.Valid.{IsValid, kind_of}
use Rattle.smil_model.specs.document.Values.{fit_kind, is_seq_parent}
use Rattle.smil_grammar.specs.Nodes.{attribute_of, node_of}
use Rattle.smil_laws.proofs.ListMembers.{There, there}
use Rattle.smil_attrs.proofs.LineRoundTrip.{node_is}
use Rattle.smil_outline.proofs.ReadValuesFit.{given_fits, ranges}
use Rattle.smil_tree.specs.Outcomes.{may_bear, may_take, passes}
use Rattle.smil_tree.proofs.AttributeEdits.{fits_at}

kind_there : (nodes : List Node) (s : ℕ) (n : Node) (kind : Kind) → node_at nodes s ≡ Some n → Some kind ≡ kind_of (node_at nodes s) → kind ≡ n.kind
kind_there nodes s n kind at is = let found : Some kind ≡ Some n.kind = is ∙ ap kind_of at in cc

-- an attribute of a node that is read for its kind and its parent's
pub may_take_read : (d : Document) (s : ℕ) (kind : Kind) (parent : Option Kind) (name value : List ℕ) (given : Attr) → IsValid d → IsSome (node_at d.nodes s) → Some kind ≡ kind_of (node_at d.nodes s) → ((n : Node) → node_at d.nodes s ≡ Some n → parent ≡ kind_of (node_at d.nodes n.parent)) → attribute_of (is_seq_parent parent) kind name value ≡ Ok given → may_take d.nodes s given ≡ true
may_take_read d s kind parent name value given valid some kind_is parent_is read =
    let n : There d.nodes s = there d.nodes s some in
    let above : Option Kind = kind_of (node_at d.nodes n.node.parent) in
    let own : kind ≡ n.node.kind = kind_there d.nodes s n.node kind n.at kind_is in
    ap (λ (o : Option Node). passes (λ (m : Node). fit_kind m.kind (kind_of (node_at d.nodes m.parent)) (with_attr m.attrs given)) o) n.at
    ∙ given_fits n.node.kind above n.node.attrs name value given (fits_at d.nodes s n.node valid.fitting n.at)
    (ap (λ p. attribute_of (is_seq_parent p) n.node.kind name value) (sym (parent_is n.node n.at)) ∙ ap (λ k. attribute_of (is_seq_parent parent) k name value) (sym own) ∙ read)

-- a node line that is read for a child of a node
pub may_bear_read : (nodes : List Node) (s : ℕ) (parent kind : Kind) (line : List ℕ) (attrs : Attrs) → IsSome (node_at nodes s) → Some parent ≡ kind_of (node_at nodes s) → node_of (Some parent) line ≡ Ok (kind, attrs) → may_bear nodes s kind attrs ≡ true
may_bear_read nodes s parent kind line attrs some parent_is read =
    let p : There nodes s = there nodes s some in
    let own : parent ≡ p.node.kind = kind_there nodes s p.node parent p.at parent_is in
    ap (λ (o : Option Node). passes (λ (m : Node). fit_kind kind (Some m.kind) attrs) o) p.at
    ∙ ap (λ (k : Kind). fit_kind kind (Some k) attrs) (sym own)
    ∙ ranges kind (Some parent) attrs (node_is (Some parent) line kind attrs read).1
