use Rattle.std.proofs.Common.{◌≡◌, ◌∙◌, true, false, [], ◌∷◌, ◌++◌, ap, sym, subst}
use Rattle.std.specs.Prelude.{is_some}
use Rattle.smil_past.specs.Past.{history_of}
use Rattle.smil_rounds.specs.Current.{interval_in}
use Rattle.smil_rounds.specs.Round.{StayUnchanged}
use Rattle.smil_rounds.proofs.RowEvaluated.{IsFound, found, has_row, own_first, placed, taken_by, unchanged_pushed, unchanged_same}
use Rattle.smil_plain.specs.Plain.{IsTold}
use Rattle.smil_plain.proofs.ElementsTold.{told_pushed, told_same}
use Rattle.smil_plain.proofs.plain.PlainTable.take_one.Given.{Over}
use Rattle.smil_plain.proofs.plain.PlainTable.take_one.Goals as goal
use Rattle.smil_plain.proofs.plain.PlainTable.take_one.Goals.{After-unwrap-index, then-not-is_same_interval+in_ok-push, else-not-is_same_interval}

-- the element and its row
found_row : (g : Over) (c : After-unwrap-index g) → IsFound c.args.present.now.past.now.document.nodes c.args.self.now.known c.args.present.now.who c.unwrap-index.result
found_row g c = found _ _ _ c.possible.ensures.valid.numbered.distinct c.requires.of_elements c.requires.element c.unwrap-index.result (sym c.unwrap-index.ensures ∙ c.index_of.ensures)

pub unwrap-index-requires : goal.unwrap-index-requires
unwrap-index-requires g c = ap is_some c.index_of.ensures ∙ has_row _ _ _ c.possible.ensures.valid.numbered.distinct c.requires.of_elements c.requires.element

pub row_of-requires-clause-index : goal.row_of-requires-clause-index
row_of-requires-clause-index g c = let at = found_row g (goal.at.row_of-requires-clause-index g c).After-unwrap-index in at.here ∙ sym at.node

pub row_of-requires-clause-known : goal.row_of-requires-clause-known
row_of-requires-clause-known g c = λ e here implicit. tt

pub put-requires-clause-place : goal.put-requires-clause-place
put-requires-clause-place g c =
    let rows = c.args.self.now.known in
    let at = found_row g (goal.at.put-requires-clause-place g c).After-unwrap-index in
    placed c.in_ok-row.row.serial rows c.unwrap-index.result (own_first _ rows _ _ c.in_ok-row.row at (c.in_ok-row.ensures.row at.element at.node).serial)

pub put-requires-clause-near : goal.put-requires-clause-near
put-requires-clause-near g c = c.in_ok-row.ensures.near

pub returns-clause-taken : goal.returns-clause-taken
returns-clause-taken g c =
    let at = found_row g (goal.at.returns-clause-taken g c).After-unwrap-index in
    taken_by (history_of c.args.present.now.past.now) c.args.present.now.moment _ _ c.args.self.now.known c.put.new.self c.in_ok-row.row at (c.in_ok-row.ensures.row at.element at.node) c.put.ensures

pub returns-clause-changed : goal.returns-clause-changed
returns-clause-changed g c =
    let rows = c.args.self.now.known in
    let row = c.in_ok-row.row in
    let at = found_row g (goal.at.returns-clause-changed g c).After-unwrap-index in
    let own = (c.in_ok-row.ensures.row at.element at.node).serial in
    let first = own_first _ rows _ c.unwrap-index.result row at own in
    subst (λ after. StayUnchanged c.args.changed.now c.if-not-is_same_interval.changed rows after) (sym c.put.ensures)
    (elim c.if-not-is_same_interval.branch [
      | then-not-is_same_interval+in_ok-push w ↦
          unchanged_pushed c.args.changed.now c.if-not-is_same_interval.changed rows c.unwrap-index.result row first
          (w.changed-is ∙ w.in_ok-push.ensures.ok ∙ ap (λ s. c.args.changed.now ++ s ∷ []) (sym (own ∙ at.is_who)))
      | else-not-is_same_interval w ↦
          unchanged_same c.args.changed.now c.if-not-is_same_interval.changed rows c.unwrap-index.result row first w.changed-is
          (ap (interval_in rows) (own ∙ at.is_who) ∙ sym c.interval.ensures.value ∙ c.is_same_interval.ensures.0 w.if-not-is_same_interval.false)
    ])

pub returns-clause-told : goal.returns-clause-told
returns-clause-told g c =
    let rows = c.args.self.now.known in
    let row = c.in_ok-row.row in
    let at = found_row g (goal.at.returns-clause-told g c).After-unwrap-index in
    let own = (c.in_ok-row.ensures.row at.element at.node).serial in
    let first = own_first _ rows _ c.unwrap-index.result row at own in
    subst (λ after. IsTold c.args.present.now.who c.args.changed.now c.if-not-is_same_interval.changed rows after) (sym c.put.ensures)
    (elim c.if-not-is_same_interval.branch [
      | then-not-is_same_interval+in_ok-push w ↦
          told_pushed c.args.changed.now c.if-not-is_same_interval.changed rows c.unwrap-index.result c.args.present.now.who row first (own ∙ at.is_who) (w.changed-is ∙ w.in_ok-push.ensures.ok)
          (λ same. let never : true ≡ false = sym (c.is_same_interval.ensures.1 (c.interval.ensures.value ∙ same)) ∙ w.if-not-is_same_interval.true in cc)
      | else-not-is_same_interval w ↦
          told_same c.args.changed.now c.if-not-is_same_interval.changed rows c.unwrap-index.result c.args.present.now.who row first (own ∙ at.is_who) w.changed-is
    ])
