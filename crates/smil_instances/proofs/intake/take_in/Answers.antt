use Rattle.std.proofs.Common.{◌≡◌, refl, sym, ◌∙◌, ap, subst, List}
use Rattle.std.specs.Prelude.{map}
use Rattle.std.proofs.lemmas.Result.{on_ok_weaker}
use Rattle.smil_model.specs.declared.diary.Entry.{Entry}
use Rattle.smil_model.specs.reach.Reach.{key_of, subject_of}
use Rattle.smil_laws.specs.Resolved.{is_opening}
use Rattle.smil_instances.specs.SettledTimes.{settled_rows}
use Rattle.smil_instances.specs.Sources.{AreThose}
use Rattle.smil_instance_rows.specs.Changes.{with_adds, Fits}
use Rattle.smil_instances.specs.Intake.{adds_to, history_of, is_concerned_cell, shape_of, with_remainders}
use Rattle.smil_instance_rows.specs.Notes.{rows_back}
use Rattle.smil_instances.specs.Updates.{BearsNone}
use Rattle.smil_instances.proofs.RowShapes.{settled_shape}
use Rattle.smil_instances.proofs.Going.{all_kept, trims_go}
use Rattle.smil_instances.proofs.BeforeEntry.{at_hand, timely}
use Rattle.smil_instances.proofs.RowsAfterEntry.{adds_fit, taken_in, taken_in_unborn, those_have_items}
use Rattle.smil_instances.proofs.CellUpdates.{adds_shape}
use Rattle.smil_instances.proofs.intake.take_in.Goals as goal

pub concerned-cells-requires-clause-rows : goal.concerned-cells-requires-clause-rows
concerned-cells-requires-clause-rows c =
    let hand = c.requires.hand in
    ap (map shape_of) (c.requires.rows hand.past.diary hand.entry hand.is_entry.same_diary)
    ∙ settled_shape (history_of c.args.arrival.now.history.tree.now c.args.arrival.now.history.log.now hand.past.diary)

pub add_noted-requires-clause-rows : goal.add_noted-requires-clause-rows
add_noted-requires-clause-rows c =
    let hand = c.requires.hand in
    ap (map shape_of) (c.requires.rows hand.past.diary hand.entry hand.is_entry.same_diary)
    ∙ settled_shape (history_of c.args.arrival.now.history.tree.now c.args.arrival.now.history.log.now hand.past.diary)

pub add_noted-requires-clause-cells : goal.add_noted-requires-clause-cells
add_noted-requires-clause-cells c =
    let step = c.last_entry-entry.result.step in
    those_have_items c.args.arrival.now.history.tree.now.nodes (is_opening step) (subject_of c.args.arrival.now.history.log.now step) (key_of c.args.arrival.now.history.log.now step) c.concerned-cells.result.now c.concerned-cells.ensures.those

pub add_noted-requires-clause-fits : goal.add_noted-requires-clause-fits
add_noted-requires-clause-fits c =
    let hand = c.requires.hand in
    let before = hand.past.diary in
    let y = hand.entry in
    let q = hand.is_entry.same_diary in
    let nodes = c.args.arrival.now.history.tree.now.nodes in
    let log = c.args.arrival.now.history.log.now in
    let cells = c.concerned-cells.result.now in
    subst (Fits c.args.rows.now) (sym (c.as_slice-2.ensures.value ∙ c.in_ok-adds_of.ensures before y q))
    (adds_fit nodes log before y cells
    (subst (λ (z : Entry). AreThose (is_concerned_cell nodes (is_opening z.step) (subject_of log z.step) (key_of log z.step)) cells) (c.last_entry-entry.ensures.value before y q) c.concerned-cells.ensures.those)
    c.args.rows.now (c.requires.rows before y q))

pub trim_each-requires-clause-cells : goal.trim_each-requires-clause-cells
trim_each-requires-clause-cells c =
    let step = c.last_entry-entry.result.step in
    those_have_items c.args.arrival.now.history.tree.now.nodes (is_opening step) (subject_of c.args.arrival.now.history.log.now step) (key_of c.args.arrival.now.history.log.now step) c.concerned-cells.result.now c.concerned-cells.ensures.those

pub trim_each-requires-clause-rows : goal.trim_each-requires-clause-rows
trim_each-requires-clause-rows c =
    let hand = c.requires.hand in
    ap (map shape_of) c.in_ok-loses.ensures.ok
    ∙ adds_shape c.args.rows.now c.as_slice-2.result.now
    ∙ ap (map shape_of) (c.requires.rows hand.past.diary hand.entry hand.is_entry.same_diary)
    ∙ settled_shape (history_of c.args.arrival.now.history.tree.now c.args.arrival.now.history.log.now hand.past.diary)

pub add_marked-requires : goal.add_marked-requires
add_marked-requires c =
    let hand = c.requires.hand in
    let before = hand.past.diary in
    let y = hand.entry in
    let q = hand.is_entry.same_diary in
    let nodes = c.args.arrival.now.history.tree.now.nodes in
    let log = c.args.arrival.now.history.log.now in
    let cells = c.concerned-cells.result.now in
    subst (Fits c.args.rows.now) (sym (c.as_slice.ensures.value ∙ c.in_ok-adds_of.ensures before y q))
    (adds_fit nodes log before y cells
    (subst (λ (z : Entry). AreThose (is_concerned_cell nodes (is_opening z.step) (subject_of log z.step) (key_of log z.step)) cells) (c.last_entry-entry.ensures.value before y q) c.concerned-cells.ensures.those)
    c.args.rows.now (c.requires.rows before y q))

pub returns-then-bears_none-clause-ok : goal.returns-then-bears_none-clause-ok
returns-then-bears_none-clause-ok c =
    let hand = c.requires.hand in
    let before = hand.past.diary in
    let y = hand.entry in
    let q = hand.is_entry.same_diary in
    let document = c.args.arrival.now.history.tree.now in
    let log = c.args.arrival.now.history.log.now in
    let book = c.args.arrival.now.history.book.now in
    let rows = c.args.rows.now in
    let cells = c.concerned-cells.result.now in
    let past = history_of document log before in
    let is = at_hand document c.args.arrival.now.clocks.now log book before y hand q in
    let those = subst (λ (z : Entry). AreThose (is_concerned_cell document.nodes (is_opening z.step) (subject_of log z.step) (key_of log z.step)) cells) (c.last_entry-entry.ensures.value before y q) c.concerned-cells.ensures.those in
    let bears = subst (λ (z : Entry). BearsNone document.nodes z.step) (c.last_entry-entry.ensures.value before y q) (c.bears_none.ensures c.if-bears_none.true) in
    on_ok_weaker c.add_marked.result
    (λ made. made
    ∙ ap (with_adds rows) (c.as_slice.ensures.value ∙ c.in_ok-adds_of.ensures before y q)
    ∙ subst (λ (diary : List Entry). with_adds rows (adds_to past y cells) ≡ settled_rows (history_of document log diary)) (sym q)
    (taken_in_unborn document.nodes log before y cells those rows (c.requires.rows before y q) c.valid.ensures.numbered.distinct is.lawful bears c.entries_are_taken_in.ensures c.only_concerned_items_change.ensures
    (timely past y document c.args.arrival.now.clocks.now log book is)))
    c.add_marked.ensures.ok

pub returns-then-not-loses-clause-ok : goal.returns-then-not-loses-clause-ok
returns-then-not-loses-clause-ok c =
    let hand = c.requires.hand in
    let before = hand.past.diary in
    let y = hand.entry in
    let q = hand.is_entry.same_diary in
    let document = c.args.arrival.now.history.tree.now in
    let log = c.args.arrival.now.history.log.now in
    let book = c.args.arrival.now.history.book.now in
    let rows = c.args.rows.now in
    let cells = c.concerned-cells.result.now in
    let past = history_of document log before in
    let now = history_of document log book in
    let those = subst (λ (z : Entry). AreThose (is_concerned_cell document.nodes (is_opening z.step) (subject_of log z.step) (key_of log z.step)) cells) (c.last_entry-entry.ensures.value before y q) c.concerned-cells.ensures.those in
    let added = with_adds rows (adds_to past y cells) in
    let made : c.add_noted.new.rows ≡ added = c.in_ok-loses.ensures.ok ∙ ap (with_adds rows) (c.as_slice-2.ensures.value ∙ c.in_ok-adds_of.ensures before y q) in
    let kept = c.in_ok-loses.ensures.kept c.if-not-loses.true log in
    sym (all_kept now c.add_noted.new.rows cells kept)
    ∙ ap (λ rs. with_remainders now rs cells) made
    ∙ subst (λ (diary : List Entry). with_remainders (history_of document log diary) added cells ≡ settled_rows (history_of document log diary)) (sym q)
    (taken_in document.nodes log before y cells those rows (c.requires.rows before y q) c.entries_are_taken_in.ensures c.only_concerned_items_change.ensures
    (timely past y document c.args.arrival.now.clocks.now log book (at_hand document c.args.arrival.now.clocks.now log book before y hand q)))

pub returns-then-not-loses-clause-back : goal.returns-then-not-loses-clause-back
returns-then-not-loses-clause-back c = c.add_noted.ensures.back

pub returns-clause-ok : goal.returns-clause-ok
returns-clause-ok c =
    let hand = c.requires.hand in
    let before = hand.past.diary in
    let y = hand.entry in
    let q = hand.is_entry.same_diary in
    let document = c.args.arrival.now.history.tree.now in
    let log = c.args.arrival.now.history.log.now in
    let book = c.args.arrival.now.history.book.now in
    let rows = c.args.rows.now in
    let cells = c.concerned-cells.result.now in
    let past = history_of document log before in
    let those = subst (λ (z : Entry). AreThose (is_concerned_cell document.nodes (is_opening z.step) (subject_of log z.step) (key_of log z.step)) cells) (c.last_entry-entry.ensures.value before y q) c.concerned-cells.ensures.those in
    let added = with_adds rows (adds_to past y cells) in
    c.trim_each.ensures log
    ∙ ap (λ rs. with_remainders (history_of document log book) rs cells) (c.in_ok-loses.ensures.ok ∙ ap (with_adds rows) (c.as_slice-2.ensures.value ∙ c.in_ok-adds_of.ensures before y q))
    ∙ subst (λ (diary : List Entry). with_remainders (history_of document log diary) added cells ≡ settled_rows (history_of document log diary)) (sym q)
    (taken_in document.nodes log before y cells those rows (c.requires.rows before y q) c.entries_are_taken_in.ensures c.only_concerned_items_change.ensures
    (timely past y document c.args.arrival.now.clocks.now log book (at_hand document c.args.arrival.now.clocks.now log book before y hand q)))

pub returns-in_err-adds_of-clause-back : goal.returns-in_err-adds_of-clause-back
returns-in_err-adds_of-clause-back c = record { mark = refl; back = λ place is. refl }

pub returns-clause-back : goal.returns-clause-back
returns-clause-back c =
    let log = c.args.arrival.now.history.log.now in
    let now = history_of c.args.arrival.now.history.tree.now log c.args.arrival.now.history.book.now in
    let rows = c.add_noted.new.rows in
    let notes = c.add_noted.new.notes in
    let noted = c.add_noted.ensures.back in
    record {
      mark = noted.mark;
      back = λ place is.
          ap (λ rs. rows_back rs notes) (c.trim_each.ensures log)
          ∙ trims_go now rows notes c.concerned-cells.result.now (c.in_ok-loses.ensures.noted log place is)
          ∙ noted.back place is;
    }
