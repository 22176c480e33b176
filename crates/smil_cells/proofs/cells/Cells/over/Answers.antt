use Rattle.std.proofs.Common.{sym, subst, ◌-◌, ◌≤◌, ℕ, ℤ, List, [], None, w64, to_z, of_z}
use Rattle.std.specs.Prelude.{pos, ◌≤ℤ◌}
use Rattle.std.proofs.lemmas.Int.{to_z-of_z}
use Rattle.smil_model.specs.interval.Current.{current_interval}
use Rattle.smil_past.specs.Past.{IsPresent, history_of}
use Rattle.smil_cells.specs.CellsState.{WhereTold, any_interval}
use Rattle.smil_rounds.proofs.MomentEntries.{positive}
use Rattle.smil_cells.specs.Standings.{IsSoundUnderMark}
use Rattle.smil_cells.proofs.FirstCells.{is_present, kept}
use Rattle.smil_cells.proofs.cells.Cells.over.Goals as goal

pub of-requires : goal.of-requires
of-requires g c =
    record { moment = subst (λ (z : ℤ). IsPresent c.args.past z) (sym (to_z-of_z w64 c.args.moment c.ranges.moment)) (is_present c.args.past c.args.moment c.requires c.reached_is_past.ensures) }

pub invariant_of-result : goal.invariant_of-result
invariant_of-result g c =
    let whole = to_z-of_z w64 c.args.moment c.ranges.moment in
    let made = c.in_ok-table.ensures in
    let is_current = g.T.Table.is_current c.in_ok-table.table in
    let is_marked = g.T.Table.is_marked c.in_ok-table.table in
    let has_mark = g.T.Table.has_mark c.in_ok-table.table in
    subst (λ (t : List ℕ). IsSoundUnderMark is_current is_marked has_mark c.args.past (to_z w64 (of_z w64 c.args.moment)) None None t) (sym c.new.ensures)
    (subst (λ (v : ℤ). IsSoundUnderMark is_current is_marked has_mark c.args.past v None None []) (sym whole)
    (kept c.args.past c.args.moment c.requires is_current is_marked has_mark c.reached_is_past.ensures made.unmarked (subst (λ (v : ℤ). is_current (history_of c.args.past) v) whole made.current)))

pub returns-clause-least : goal.returns-clause-least
returns-clause-least g c =
    let whole = to_z-of_z w64 c.args.moment c.ranges.moment in
    let z = to_z w64 (of_z w64 c.args.moment) in
    subst (λ (v : ℤ). WhereTold g.T.Table.counts (any_interval c.args.past.document.nodes (current_interval (history_of c.args.past) v) ≤ c.of.new.steps - c.args.steps.now))
    (positive z (subst (λ (v : ℤ). pos 0 ≤ℤ v) (sym whole) c.requires.from))
    c.in_ok-table.ensures.least
