use Rattle.std.proofs.Common.{◌≡◌, ◌+◌, ℕ, sym, ap, subst, ◌∙◌, Some, None, filter}
use Rattle.std.specs.Prelude.{is_some, slice_range}
use Rattle.smil_model.specs.declared.document.Node.{Node}
use Rattle.smil_model.specs.document.Document.{Document, node_at, descendants, is_within}
use Rattle.smil_model.specs.document.Edits.{place_in, child_place}
use Rattle.smil_laws.proofs.RoundsRest.{find-serial}
use Rattle.smil_tree.specs.declared.outline.OutlineRow.{OutlineRow}
use Rattle.smil_tree.specs.Outline.{IsRowOf}
use Rattle.smil_tree.proofs.ChildSpans.{has_place, place_told, span_told, below_told}
use Rattle.smil_tree.proofs.tree.Tree.span.Goals as goal

pub unwrap-start-requires : goal.unwrap-start-requires
unwrap-start-requires c =
    ap is_some c.position.ensures ∙ has_place c.self.inside.nodes c.self.inside.next c.self.invariant.keeps.valid.numbered c.args.serial (ap (λ d. is_some (node_at d.nodes c.args.serial)) c.self.view_is ∙ c.requires)

past_is : (inside d : Document) (s : ℕ) (row : OutlineRow) → inside ≡ d → ((n : Node) × (node_at d.nodes s ≡ Some n) × IsRowOf d.nodes (place_in d.nodes s) n row) → row.past ≡ child_place inside.nodes s None
past_is inside d s row same is =
    is.2.past
    ∙ ap (λ k. child_place d.nodes k None) (find-serial s d.nodes is.0 is.1)
    ∙ ap (λ (x : Document). child_place x.nodes s None) (sym same)

pub returns-clause-places : goal.returns-clause-places
returns-clause-places c =
    ap (λ k. (k, c.row.result.now.past)) (place_told c.self.inside.nodes c.self.inside.next c.self.invariant.keeps.valid.numbered c.args.serial c.unwrap-start.result (ap (λ d. is_some (node_at d.nodes c.args.serial)) c.self.view_is ∙ c.requires) (sym c.unwrap-start.ensures ∙ c.position.ensures))
    ∙ ap (λ k. (place_in c.self.inside.nodes c.args.serial, k)) (past_is (record { nodes = c.self.inside.nodes; next = c.self.inside.next }) c.args.self.now c.args.serial c.row.result.now c.self.view_is c.row.ensures)
    ∙ ap (λ (d : Document). (place_in d.nodes c.args.serial, child_place d.nodes c.args.serial None)) c.self.view_is

pub returns-clause-within : goal.returns-clause-within
returns-clause-within c =
    subst (λ (d : Document). slice_range d.nodes c.unwrap-start.result c.row.result.now.past ≡ filter (λ (n : Node). is_within d.nodes c.args.serial n.serial) d.nodes) c.self.view_is
    (ap (λ k. slice_range c.self.inside.nodes k c.row.result.now.past) (place_told c.self.inside.nodes c.self.inside.next c.self.invariant.keeps.valid.numbered c.args.serial c.unwrap-start.result (ap (λ d. is_some (node_at d.nodes c.args.serial)) c.self.view_is ∙ c.requires) (sym c.unwrap-start.ensures ∙ c.position.ensures)) ∙ ap (slice_range c.self.inside.nodes (place_in c.self.inside.nodes c.args.serial)) (past_is (record { nodes = c.self.inside.nodes; next = c.self.inside.next }) c.args.self.now c.args.serial c.row.result.now c.self.view_is c.row.ensures) ∙ span_told c.self.inside.nodes c.self.inside.next c.self.invariant.keeps.valid.numbered c.args.serial (ap (λ d. is_some (node_at d.nodes c.args.serial)) c.self.view_is ∙ c.requires))

pub returns-clause-below : goal.returns-clause-below
returns-clause-below c =
    subst (λ (d : Document). slice_range d.nodes (c.unwrap-start.result + 1) c.row.result.now.past ≡ descendants d.nodes c.args.serial) c.self.view_is
    (ap (λ k. slice_range c.self.inside.nodes (k + 1) c.row.result.now.past) (place_told c.self.inside.nodes c.self.inside.next c.self.invariant.keeps.valid.numbered c.args.serial c.unwrap-start.result (ap (λ d. is_some (node_at d.nodes c.args.serial)) c.self.view_is ∙ c.requires) (sym c.unwrap-start.ensures ∙ c.position.ensures)) ∙ ap (slice_range c.self.inside.nodes (place_in c.self.inside.nodes c.args.serial + 1)) (past_is (record { nodes = c.self.inside.nodes; next = c.self.inside.next }) c.args.self.now c.args.serial c.row.result.now c.self.view_is c.row.ensures) ∙ below_told c.self.inside.nodes c.self.inside.next c.self.invariant.keeps.valid.numbered c.args.serial (ap (λ d. is_some (node_at d.nodes c.args.serial)) c.self.view_is ∙ c.requires))
