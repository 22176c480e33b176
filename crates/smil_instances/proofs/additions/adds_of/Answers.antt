use Rattle.std.proofs.Common.{sym, ◌∙◌, ap, get_or, take, [], ◌∷◌, ◌++◌, Some, None, Vec, Global}
use Rattle.std.proofs.lemmas.List.{take_all, append-nil}
use Rattle.smil_model.specs.declared.diary.Entry.{Entry}
use Rattle.smil_model.specs.reach.Reach.{subject_of}
use Rattle.smil_instance_rows.specs.declared.cell.Add.{Add}
use Rattle.smil_instance_rows.proofs.CellChanges.{no_cell}
use Rattle.smil_instances.specs.Intake.{adds_to, history_of}
use Rattle.smil_instances.proofs.EntryGifts.{more_adds}
use Rattle.smil_instances.proofs.additions.adds_of.Goals as goal
use Rattle.smil_instances.proofs.additions.adds_of.Goals.{in-Some+in_ok-push, in_default}

pub given_to-requires-clause-on : goal.given_to-requires-clause-on
given_to-requires-clause-on c = λ before y q.
    c.subject-on.ensures ∙ ap (λ (z : Entry). subject_of c.args.arrival.now.history.log.now z.step) (c.last_entry-step.ensures.value before y q)

pub loop-cell-preserved : goal.loop-cell-preserved
loop-cell-preserved c = λ before y q.
    let past = history_of c.args.arrival.now.history.tree.now c.args.arrival.now.history.log.now before in
    let cells = c.args.cells.now in
    let i = c.loop-cell.cell-index in
    let rest = c.loop-cell.invariant before y q in
    elim c.match-given_to.branch [
      | in-Some+in_ok-push w ↦
          let one : Add = record { cell = get_or cells i no_cell; kept = w.in-Some.kept } in
          ap (λ (v : Vec Add Global). v.items) w.adds-is
          ∙ w.in_ok-push.ensures.items
          ∙ ap (λ xs. xs ++ one ∷ []) rest
          ∙ sym (more_adds past y cells i no_cell (Some w.in-Some.kept) c.loop-cell-test.true (w.in-Some.ensures before y q))
      | in_default w ↦
          ap (λ (v : Vec Add Global). v.items) w.adds-is
          ∙ rest
          ∙ sym (append-nil (adds_to past y (take i cells)))
          ∙ sym (more_adds past y cells i no_cell None c.loop-cell-test.true (w.in_default.ensures before y q))
    ]

pub returns : goal.returns
returns c = λ before y q.
    c.loop-cell.invariant before y q
    ∙ ap (adds_to (history_of c.args.arrival.now.history.tree.now c.args.arrival.now.history.log.now before) y) (take_all c.loop-cell.cell-index c.args.cells.now c.loop-cell-test.false)
