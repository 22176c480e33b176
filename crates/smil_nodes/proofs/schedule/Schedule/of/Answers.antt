use Rattle.std.proofs.Common.{◌≡◌, ◌∙◌, ap, sym, subst, ◌≤◌, None, length, map, replicate, arith}
use Rattle.std.specs.Prelude.{nat_eq}
use Rattle.std.specs.List.{IsDistinct}
use Rattle.smil_model.specs.document.Document.{elements}
use Rattle.smil_rounds.specs.Rows.{AreNear, empty_row}
use Rattle.smil_rounds.proofs.RowsEmpty.{empty_near, empty_serials}
use Rattle.smil_rounds.proofs.RowsBesideElements.{serials_in}
use Rattle.smil_nodes.specs.Schedule.{slots_of}
use Rattle.smil_cells.proofs.DistinctElements.{elements_distinct}
use Rattle.smil_nodes.proofs.RowSlots.{rows_few, slots_empty}
use Rattle.smil_nodes.proofs.schedule.Schedule.of.Goals as goal

pub new-requires : goal.new-requires
new-requires c =
    let few : length c.in_ok-known.known ≤ 8000 = rows_few c.args.past.now.document.nodes c.in_ok-known.known c.in_ok-known.ensures c.possible.ensures.valid.nodes in
    let same : length c.rows.result.now ≡ length c.in_ok-known.known = ap length c.rows.ensures in
    omega (arith, few, same)

pub invariant_of-result : goal.invariant_of-result
invariant_of-result c =
    let nodes = c.args.past.now.document.nodes in
    let same : length c.rows.result.now ≡ length (map empty_row (elements nodes)) = ap length c.rows.ensures ∙ ap length c.in_ok-known.ensures in
    record {
      near = subst AreNear (sym c.in_ok-known.ensures) (empty_near (elements nodes));
      few = rows_few nodes c.in_ok-known.known c.in_ok-known.ensures c.possible.ensures.valid.nodes;
      apart = subst (IsDistinct nat_eq) (sym (ap serials_in c.in_ok-known.ensures ∙ empty_serials (elements nodes))) (elements_distinct nodes c.possible.ensures.valid.numbered.distinct);
      slots_are =
          c.in_ok-due.ensures
          ∙ ap (λ n. replicate n None) same
          ∙ slots_empty (elements nodes)
          ∙ ap slots_of (sym c.in_ok-known.ensures);
    }
