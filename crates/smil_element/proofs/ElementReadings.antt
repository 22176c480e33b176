-- What is told of an element of a document.
use Rattle.std.proofs.Common.{◌≡◌, refl, ◌∙◌, ap, ℕ, List, drop, Option, Some, None, true}
use Rattle.std.specs.Prelude.{cond, option_map, is_some, IfSome}
use Rattle.smil_model.specs.declared.document.Node.{Node}
use Rattle.smil_model.specs.declared.document.Attrs.{Attrs}
use Rattle.smil_model.specs.declared.document.Restart.{Restart}
use Rattle.smil_model.specs.declared.document.Fill.{Fill}
use Rattle.smil_model.specs.document.Defaults.{restart_of, fill_of}
use Rattle.smil_model.specs.document.Document.{Document, elements, is_element, lineage, node_at, serial_of, time_parent}
use Rattle.smil_model.specs.document.Valid.{IsDistinct}
use Rattle.smil_model.specs.diary.Diary.{History}
use Rattle.smil_model.specs.diary.Lawful.{has_element}
use Rattle.smil_laws.proofs.AsideDocuments.{find_true}
use Rattle.smil_graph.proofs.GraphAnswers.{element_at, only_element}
use Rattle.smil_past.proofs.TimeParents.{parent_node}
use Rattle.smil_instances.proofs.IdTargets.{element_in, known_node, attrs_of, restart_told}
use Rattle.smil_instances.proofs.SensitiveItems.{serial_is}
use Rattle.smil_past.specs.declared.plays.facts.PlayFacts.{PlayFacts}
use Rattle.smil_past.specs.Played.{played, played_at}

-- the fill that the tree tells is the element's
pub fill_told : (ns : List Node) (s : ℕ) (e : Node) (r : Fill) → IsDistinct ns → node_at (elements ns) s ≡ Some e → Some r ≡ option_map (fill_of ns) (node_at ns s) → r ≡ fill_of ns e
fill_told ns s e r d at is =
    let same : Some r ≡ Some (fill_of ns e) = is ∙ ap (option_map (fill_of ns)) (element_in ns s e d at) in
    cc

-- an element has a row
pub has_row : (h : History) (s : ℕ) → has_element h.nodes s ≡ true → is_some (played_at h s) ≡ true
has_row h s known = by (node_at (elements h.nodes) s) known
  where
    by : (o : Option Node) → is_some o ≡ true → is_some (option_map (λ (e : Node). played h e.serial) o) ≡ true
    by None q = q
    by (Some e) q = refl

-- what is kept of it
pub row_told : (h : History) (s : ℕ) (r : PlayFacts) → has_element h.nodes s ≡ true → Some r ≡ played_at h s → r ≡ played h s
row_told h s r known is = by (node_at (elements h.nodes) s) refl known
  where
    by : (o : Option Node) → node_at (elements h.nodes) s ≡ o → is_some o ≡ true → r ≡ played h s
    by None at q = cc
    by (Some e) at q =
        let one : Some r ≡ Some (played h e.serial) = is ∙ ap (option_map (λ (n : Node). played h n.serial)) at in
        let same : r ≡ played h e.serial = cc in
        same ∙ ap (played h) (serial_is h.nodes s e at)

-- the time parent of an element is an element
pub parent_known : (ns : List Node) (who : ℕ) (o : Option ℕ) → IsDistinct ns → has_element ns who ≡ true → o ≡ option_map (λ (n : Node). n.serial) (time_parent ns who) → IfSome o (λ p. has_element ns p ≡ true)
parent_known ns who o d known is = by (time_parent ns who) refl is
  where
    by : (q : Option Node) → time_parent ns who ≡ q → o ≡ option_map (λ (n : Node). n.serial) q → IfSome o (λ p. has_element ns p ≡ true)
    by None at e = rw e tt
    by (Some p) at e =
        rw e (ap is_some (element_at ns p.serial d ∙ ap only_element (parent_node ns who p d (known_node ns who known) at)
        ∙ ap (λ t. cond t (Some p) None) (find_true is_element (drop 1 (lineage ns who)) p at)))

-- ---- by the tree that is handed on

pub tree_node : (d t : Document) (s : ℕ) → t ≡ d → has_element d.nodes s ≡ true → is_some (node_at t.nodes s) ≡ true
tree_node d t s same known = ap (λ (x : Document). is_some (node_at x.nodes s)) same ∙ known_node d.nodes s known

pub tree_parent : (d t : Document) (s : ℕ) (o : Option ℕ) → t ≡ d → o ≡ serial_of (time_parent t.nodes s) → o ≡ serial_of (time_parent d.nodes s)
tree_parent d t s o same is = is ∙ ap (λ (x : Document). serial_of (time_parent x.nodes s)) same

pub tree_attrs : (d t : Document) (s : ℕ) (e : Node) (a : Attrs) → IsDistinct d.nodes → t ≡ d → node_at (elements d.nodes) s ≡ Some e → Some a ≡ option_map (λ (n : Node). n.attrs) (node_at t.nodes s) → a ≡ e.attrs
tree_attrs d t s e a distinct same at is = attrs_of d.nodes s e a distinct at (is ∙ ap (λ (x : Document). option_map (λ (n : Node). n.attrs) (node_at x.nodes s)) same)

pub tree_restart : (d t : Document) (s : ℕ) (e : Node) (r : Restart) → IsDistinct d.nodes → t ≡ d → node_at (elements d.nodes) s ≡ Some e → Some r ≡ option_map (restart_of t.nodes) (node_at t.nodes s) → r ≡ restart_of d.nodes e
tree_restart d t s e r distinct same at is = restart_told d.nodes s e r distinct at (is ∙ ap (λ (x : Document). option_map (restart_of x.nodes) (node_at x.nodes s)) same)

pub tree_fill : (d t : Document) (s : ℕ) (e : Node) (r : Fill) → IsDistinct d.nodes → t ≡ d → node_at (elements d.nodes) s ≡ Some e → Some r ≡ option_map (fill_of t.nodes) (node_at t.nodes s) → r ≡ fill_of d.nodes e
tree_fill d t s e r distinct same at is = fill_told d.nodes s e r distinct at (is ∙ ap (λ (x : Document). option_map (fill_of x.nodes) (node_at x.nodes s)) same)
