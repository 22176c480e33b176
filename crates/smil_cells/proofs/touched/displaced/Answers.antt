use Rattle.std.proofs.Common.{◌≡◌, sym, ap, subst, ◌∙◌, ℕ, true, false}
use Rattle.std.specs.Prelude.{is_some}
use Rattle.std.proofs.lemmas.Option.{same_Some}
use Rattle.smil_model.specs.document.Document.{elements, node_at}
use Rattle.smil_graph.specs.Tables.{takes_turns}
use Rattle.smil_past.proofs.TimeParents.{up}
use Rattle.smil_cells.proofs.ElementsShown.{kept_kind, turns_there}
use Rattle.smil_cells.proofs.touched.displaced.Goals as goal

pub kind-requires : goal.kind-requires
kind-requires c = ap is_some (up c.args.tree.now.nodes c.args.who c.in_ok-parent.parent c.valid.ensures.numbered.distinct c.requires c.in_ok-parent.ensures).known

pub returns-then-plays_one-clause-value : goal.returns-then-plays_one-clause-value
returns-then-plays_one-clause-value c =
    sym (kept_kind c.args.tree.now.nodes c.args.who c.in_ok-parent.parent c.kind.result c.args.step true
    (up c.args.tree.now.nodes c.args.who c.in_ok-parent.parent c.valid.ensures.numbered.distinct c.requires c.in_ok-parent.ensures)
    c.kind.ensures (sym c.if-not-starts.ensures) (sym c.plays_one.ensures ∙ c.if-plays_one.true))

pub returns-else-plays_one-clause-value : goal.returns-else-plays_one-clause-value
returns-else-plays_one-clause-value c =
    sym (kept_kind c.args.tree.now.nodes c.args.who c.in_ok-parent.parent c.kind.result c.args.step false
    (up c.args.tree.now.nodes c.args.who c.in_ok-parent.parent c.valid.ensures.numbered.distinct c.requires c.in_ok-parent.ensures)
    c.kind.ensures (sym c.if-not-starts.ensures) (sym c.plays_one.ensures ∙ c.if-plays_one.false))

pub returns-then-plays_one-clause-known : goal.returns-then-plays_one-clause-known
returns-then-plays_one-clause-known c = λ parent is.
    let nodes = c.args.tree.now.nodes in
    let above = up nodes c.args.who c.in_ok-parent.parent c.valid.ensures.numbered.distinct c.requires c.in_ok-parent.ensures in
    subst (λ (s : ℕ). takes_turns (node_at (elements nodes) s) ≡ true) (same_Some c.in_ok-parent.parent parent is)
    (turns_there nodes c.args.who c.in_ok-parent.parent c.kind.result c.valid.ensures.numbered.distinct c.requires above c.kind.ensures (sym c.plays_one.ensures ∙ c.if-plays_one.true))
