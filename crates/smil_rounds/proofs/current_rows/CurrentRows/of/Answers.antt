use Rattle.std.proofs.Common.{rules, ◌≡◌, subst, sym, ◌∙◌, ap, map, ℕ}
use Rattle.std.specs.Prelude.{◌==◌}
use Rattle.std.specs.FinMap.{get}
use Rattle.std.specs.List.{position}
use Rattle.smil_model.specs.document.Document.{Document, elements, serials}
use Rattle.smil_instances.proofs.SharedPlaces.{first_is, position_by}
use Rattle.smil_rounds.specs.declared.current_rows.CurrentRow.{CurrentRow}
use Rattle.smil_rounds.specs.Rows.{AreNear, empty_row, row_without}
use Rattle.smil_rounds.proofs.RowsEmpty.{empty_by_serials, empty_near, empty_serials}
use Rattle.smil_rounds.proofs.current_rows.CurrentRows.of.Goals as goal

pub invariant_of-result : goal.invariant_of-result
invariant_of-result c =
    let doc = c.args.past.now.document in
    let es = elements doc.nodes in
    let whos : c.elements.result.now ≡ serials es = c.elements.ensures ∙ ap (λ (d : Document). serials (elements d.nodes)) c.tree.ensures in
    let rows_are : c.in_ok-empty_rows.field-0.items ≡ map empty_row es = c.in_ok-empty_rows.ensures ∙ ap (map row_without) whos ∙ empty_by_serials es in
    let kept : c.in_ok-clone.field-0.value ≡ c.places.result.now.value = search rules in (
      subst AreNear (sym rows_are) (empty_near es),
      λ s. ap (λ places. get places s) kept
          ∙ first_is doc.nodes (get c.places.result.now.value) c.possible.ensures.valid.numbered.distinct (c.places.ensures doc.nodes c.syncs.ensures) s
          ∙ ap (position (λ (k : ℕ). k == s)) (sym (empty_serials es))
          ∙ position_by (λ (r : CurrentRow). r.serial) (map empty_row es) s
          ∙ ap (position (λ (r : CurrentRow). r.serial == s)) (sym rows_are),
    )

pub returns : goal.returns
returns c =
    let es = elements c.args.past.now.document.nodes in
    c.in_ok-empty_rows.ensures
    ∙ ap (map row_without) (c.elements.ensures ∙ ap (λ (d : Document). serials (elements d.nodes)) c.tree.ensures)
    ∙ empty_by_serials es
