use Rattle.std.proofs.Common.{◌≡◌, ◌∙◌, ap, sym, List, ◌<◌, ◌≤◌, length, get_or, set, arith}
use Rattle.std.specs.Prelude.{Option, Some, is_some, slice_get}
use Rattle.std.proofs.lemmas.Option.{slice_get-get_or}
use Rattle.std.proofs.Math.ListN.{length-set}
use Rattle.smil_model.specs.declared.interval.Interval.{Interval}
use Rattle.smil_model.specs.document.Document.{elements}
use Rattle.smil_past.specs.Past.{history_of}
use Rattle.smil_rounds.specs.declared.current_rows.CurrentRow.{CurrentRow}
use Rattle.smil_rounds.specs.Current.{interval_in}
use Rattle.smil_rounds.specs.Round.{IsRowOf}
use Rattle.smil_rounds.specs.Rows.{row_without}
use Rattle.smil_rounds.proofs.RowsBesideElements.{interval_at}
use Rattle.smil_rounds.proofs.RowEvaluated.{IsFound, elements_few, found, has_row, own_interval, row_made, taken_by}
use Rattle.smil_element.specs.Endings.{ending_by}
use Rattle.smil_nodes.specs.Endings.{KeptEnds, put_ending}
use Rattle.smil_nodes.specs.Schedule.{row_put}
use Rattle.smil_nodes.proofs.RowAtElement.{first_serial}
use Rattle.smil_nodes.proofs.EndingPlaces.{rows_count}
use Rattle.smil_nodes.proofs.RowsPutBack.{row_set}
use Rattle.smil_nodes.proofs.live.LiveTable.evaluate.Given.{Over}
use Rattle.smil_nodes.proofs.live.LiveTable.evaluate.Goals as goal
use Rattle.smil_nodes.proofs.live.LiveTable.evaluate.Goals.{After-unwrap-index, In_ok-made}

-- the element and its row
found_row : (g : Over) (c : After-unwrap-index g) → IsFound c.args.present.now.past.now.document.nodes c.args.self.now.schedule c.args.present.now.who c.unwrap-index.result
found_row g c = found _ _ _ c.possible.ensures.valid.numbered.distinct c.requires.of_elements c.requires.element c.unwrap-index.result (sym c.unwrap-index.ensures ∙ c.index_of.ensures)

pub unwrap-index-requires : goal.unwrap-index-requires
unwrap-index-requires g c = ap is_some c.index_of.ensures ∙ has_row _ _ _ c.possible.ensures.valid.numbered.distinct c.requires.of_elements c.requires.element

pub outcome_of-requires-clause-known : goal.outcome_of-requires-clause-known
outcome_of-requires-clause-known g c = λ e here implicit. record {
  known = c.requires.known e here implicit;
  here = sym (sym c.unwrap-index.ensures ∙ c.index_of.ensures);
}

pub outcome_of-requires-clause-place : goal.outcome_of-requires-clause-place
outcome_of-requires-clause-place g c =
    let at = found_row g (goal.at.outcome_of-requires-clause-place g c).After-unwrap-index in
    at.here ∙ sym at.node

-- the index is one of a row
within : (g : Over) (c : After-unwrap-index g) → c.unwrap-index.result < length c.args.self.now.schedule
within g c =
    let rows = c.args.self.now.schedule in
    let count : length rows ≡ length (elements c.args.present.now.past.now.document.nodes) = rows_count c.args.present.now.past.now.document.nodes rows c.requires.of_elements in
    omega (arith, count, (found_row g c).within)

pub overflow_cast-index : goal.overflow_cast-index
overflow_cast-index g c =
    let nodes = c.args.present.now.past.now.document.nodes in
    let here : c.unwrap-index.result < length (elements nodes) = (found_row g (goal.at.overflow_cast-index g c).After-unwrap-index).within in
    let few : length (elements nodes) ≤ length nodes = elements_few nodes in
    let all : length nodes ≤ 8000 = c.possible.ensures.valid.nodes in
    omega (arith, here, few, all)

pub replace-requires-clause-index : goal.replace-requires-clause-index
replace-requires-clause-index g c = within g (goal.at.replace-requires-clause-index g c).After-unwrap-index

pub replace-requires-clause-near : goal.replace-requires-clause-near
replace-requires-clause-near g c = c.in_ok-made.ensures.near

-- the row of what was evaluated
module _ (g : Over) (c : In_ok-made g) where
  at : IsFound c.args.present.now.past.now.document.nodes c.args.self.now.schedule c.args.present.now.who c.unwrap-index.result
  at = found _ _ _ c.possible.ensures.valid.numbered.distinct c.requires.of_elements c.requires.element c.unwrap-index.result (sym c.unwrap-index.ensures ∙ c.index_of.ensures)

  abbrev made : CurrentRow
  made = record { serial = c.args.present.now.who; interval = (c.in_ok-made.made).interval; comings = (c.in_ok-made.made).comings }

  is_row : IsRowOf (history_of c.args.present.now.past.now) (interval_in c.args.self.now.schedule) c.args.present.now.moment c.unwrap-index.result at.element made
  is_row = row_made (history_of c.args.present.now.past.now) (interval_in c.args.self.now.schedule) c.args.present.now.moment c.unwrap-index.result c.args.present.now.who at.element c.in_ok-made.made at.node (c.in_ok-made.ensures.made at.element at.node)

  -- the row that was there
  abbrev old : CurrentRow
  old = get_or c.args.self.now.schedule c.unwrap-index.result (row_without 0)

  was : slice_get c.args.self.now.schedule c.unwrap-index.result ≡ Some old
  was =
      let rows = c.args.self.now.schedule in
      let count : length rows ≡ length (elements c.args.present.now.past.now.document.nodes) = rows_count c.args.present.now.past.now.document.nodes rows c.requires.of_elements in
      slice_get-get_or rows c.unwrap-index.result (row_without 0) (omega (arith, count, at.within))

  -- the new one is put in its place
  put_is : (rows : List CurrentRow) → rows ≡ row_put c.args.self.now.schedule c.unwrap-index.result made.interval made.comings → rows ≡ set c.args.self.now.schedule c.unwrap-index.result made
  put_is rows put = put ∙ row_set c.args.self.now.schedule c.unwrap-index.result old made was (first_serial _ c.args.self.now.schedule c.unwrap-index.result old at.first was)

  own : (rows : List CurrentRow) → rows ≡ row_put c.args.self.now.schedule c.unwrap-index.result made.interval made.comings → interval_in rows c.args.present.now.who ≡ made.interval
  own rows put = own_interval _ c.args.self.now.schedule _ _ made at is_row.serial rows (put_is rows put)

pub put_ending-requires-clause-here : goal.put_ending-requires-clause-here
put_ending-requires-clause-here g c =
    let at = found_row g (goal.at.put_ending-requires-clause-here g c).After-unwrap-index in
    at.here ∙ sym at.node

pub put_ending-requires-clause-index : goal.put_ending-requires-clause-index
put_ending-requires-clause-index g c =
    let all = (goal.at.put_ending-requires-clause-index g c).In_ok-made in
    let new = c.replace.new.self.schedule in
    let count : length new ≡ length c.args.self.now.schedule = ap length (put_is g all new c.in_ok-changes.ensures.put) ∙ simp length-set in
    let here : c.unwrap-index.result < length c.args.self.now.schedule = within g (goal.at.put_ending-requires-clause-index g c).After-unwrap-index in
    omega (arith, count, here)

pub returns-in_err-ends-clause-back : goal.returns-in_err-ends-clause-back
returns-in_err-ends-clause-back g c = λ marked.
    c.put_ending.ensures.back (c.replace.ensures.has_mark ∙ marked) ∙ c.replace.ensures.back marked

pub returns-clause-back : goal.returns-clause-back
returns-clause-back g c = λ marked.
    c.put_ending.ensures.back (c.replace.ensures.has_mark ∙ marked) ∙ c.replace.ensures.back marked

pub returns-clause-taken : goal.returns-clause-taken
returns-clause-taken g c =
    let all = (goal.at.returns-clause-taken g c).In_ok-made in
    let rows = c.put_ending.new.self.schedule in
    taken_by (history_of c.args.present.now.past.now) c.args.present.now.moment _ _ c.args.self.now.schedule rows (made g all) (at g all) (is_row g all) (put_is g all rows (c.put_ending.ensures.rows ∙ c.in_ok-changes.ensures.put))

pub returns-clause-same : goal.returns-clause-same
returns-clause-same g c =
    let all = (goal.at.returns-clause-same g c).In_ok-made in
    let rows = c.args.self.now.schedule in
    let new = c.put_ending.new.self.schedule in
    let after : interval_in new c.args.present.now.who ≡ (made g all).interval = own g all new (c.put_ending.ensures.rows ∙ c.in_ok-changes.ensures.put) in
    let before : interval_in rows c.args.present.now.who ≡ (old g all).interval = interval_at _ rows _ (old g all) (at g all).first (was g all) in
    let by = c.in_ok-changes.ensures.changes (old g all) (was g all) in (
      λ unchanged. after ∙ sym (before ∙ by.0 unchanged),
      λ same. by.1 (sym before ∙ sym same ∙ after),
    )

pub returns-clause-ended : goal.returns-clause-ended
returns-clause-ended g c =
    let all = (goal.at.returns-clause-ended g c).In_ok-made in
    let who = c.args.present.now.who in
    let h = history_of c.args.present.now.past.now in
    let new = c.put_ending.new.self.schedule in
    let index = c.unwrap-index.result in
    record {
      place = c.unwrap-index.result;
      element = (at g all).element;
      here = (at g all).here;
      is_who = (at g all).is_who;
      after_is =
          c.in_ok-ends.ensures.ended
          ∙ ap (λ (kept : KeptEnds). put_ending kept index (ending_by h (made g all).interval who)) c.replace.ensures.endings
          ∙ ap (λ (o : Option Interval). put_ending c.args.self.now.endings index (ending_by h o who)) (sym (own g all new (c.put_ending.ensures.rows ∙ c.in_ok-changes.ensures.put)));
    }

pub returns-clause-ending : goal.returns-clause-ending
returns-clause-ending g c = λ unchanged. c.in_ok-ends.ensures.stays unchanged ∙ c.replace.ensures.endings
