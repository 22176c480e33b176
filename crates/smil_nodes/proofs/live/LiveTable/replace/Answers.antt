use Rattle.std.proofs.Common.{◌≡◌, ◌∙◌, ap, sym, refl, true, false}
use Rattle.smil_nodes.specs.declared.live.LiveTable.{LiveTable}
use Rattle.smil_nodes.specs.declared.undo.Note.{Note}
use Rattle.smil_nodes.specs.Endings.{ending_in, put_ending}
use Rattle.smil_nodes.specs.Marked.{back_from}
use Rattle.smil_nodes.specs.Schedule.{row_put}
use Rattle.smil_nodes.specs.Undo.{Kept, all_back, note_of}
use Rattle.smil_nodes.proofs.ChildEndsPut.{put_back}
use Rattle.smil_nodes.proofs.RowsPutBack.{back_kept, back_noted, put_at, row_same, there}
use Rattle.smil_nodes.proofs.live.LiveTable.replace.Goals as goal
use Rattle.smil_nodes.proofs.live.LiveTable.replace.Goals.{then-self+in_ok-note, else-self}

pub returns-then-is_there-clause-put : goal.returns-then-is_there-clause-put
returns-then-is_there-clause-put c =
    let rows = c.args.self.now.schedule in
    let row = c.row.result.now in
    let interval : row.interval ≡ c.args.interval = c.is_same_interval-changes.ensures.0 c.if-not-changes.true in
    let comings : row.comings ≡ c.args.comings.now = (c.is_there.ensures row c.row.ensures.row).0 c.if-is_there.true in
    sym (row_same rows c.args.index row c.row.ensures.row) ∙ (λ i. row_put rows c.args.index (interval i) (comings i))

pub returns-in_err-note-clause-back : goal.returns-in_err-note-clause-back
returns-in_err-note-clause-back c = λ marked.
    let rows = c.args.self.now.schedule in
    let ends = c.args.self.now.endings in
    let note = note_of c.args.index c.row-then-self.result.now ends in
    back_kept (record { rows = rows; ends = ends }) c.args.self.now.undo c.note.new.self note (there rows ends c.args.index c.row-then-self.result.now note.ending c.row-then-self.ensures.row refl) c.note.ensures.grown

pub returns-clause-back : goal.returns-clause-back
returns-clause-back c = λ marked.
    let rows = c.args.self.now.schedule in
    let ends = c.args.self.now.endings in
    let next : Note = record { index = c.args.index; interval = c.args.interval; comings = c.args.comings.now; ending = ending_in ends c.args.index } in
    elim c.if-self.branch [
      | then-self+in_ok-note w ↦
          (let kept : Kept = record { rows = rows; ends = ends } in
          let note = note_of c.args.index w.row-then-self.result.now ends in
          let put : c.put.new.self ≡ row_put rows c.args.index c.args.interval c.args.comings.now = c.put.ensures ∙ ap (λ (t : LiveTable). row_put t.schedule c.args.index c.args.interval c.args.comings.now) w.self-is in
          let ended : c.if-self.self.endings ≡ put_ending ends c.args.index (ending_in ends c.args.index) = ap (λ (t : LiveTable). t.endings) w.self-is ∙ sym (put_back ends c.args.index) in
          (λ i. back_from c.if-self.self.undo (put i) (ended i))
          ∙ ap (λ (t : LiveTable). all_back (put_at kept c.args.index next) t.undo) w.self-is
          ∙ back_noted kept c.args.self.now.undo w.note.new.self note next (there rows ends c.args.index w.row-then-self.result.now note.ending w.row-then-self.ensures.row refl) w.note.ensures.grown w.in_ok-note.ensures.noted)
      | else-self w ↦ (let never : true ≡ false = sym marked ∙ w.if-self.false in absurd (cc))
    ]
