use Rattle.std.proofs.Common.{◌≡◌, ◌∙◌, ap, sym, refl, true, false}
use Rattle.smil_past.specs.Past.{history_of}
use Rattle.smil_element.specs.Endings.{ending_by}
use Rattle.smil_nodes.specs.declared.live.LiveTable.{LiveTable}
use Rattle.smil_nodes.specs.declared.undo.Note.{Note}
use Rattle.smil_nodes.specs.Endings.{ending_in, put_ending}
use Rattle.smil_nodes.specs.Marked.{back_from}
use Rattle.smil_nodes.specs.Schedule.{row_put}
use Rattle.smil_nodes.specs.Undo.{Kept, all_back, note_of}
use Rattle.smil_nodes.proofs.ChildEndsPut.{put_back, put_nowhere}
use Rattle.smil_nodes.proofs.RowsPutBack.{back_kept, back_noted, put_at, row_same, there}
use Rattle.smil_nodes.proofs.live.LiveTable.put_ending.Goals as goal
use Rattle.smil_nodes.proofs.live.LiveTable.put_ending.Goals.{then-self+in_ok-note, else-self}

pub returns-then-not-keeps-clause-ended : goal.returns-then-not-keeps-clause-ended
returns-then-not-keeps-clause-ended c =
    let ends = c.args.self.now.endings in
    let present = c.args.present.now in
    sym (put_back ends c.args.index)
    ∙ put_nowhere ends c.args.index (ending_in ends c.args.index) (ending_by (history_of present.past.now) c.args.interval present.who) (sym c.keeps.ensures ∙ c.if-not-keeps.true)

pub returns-then-is_same_ending-clause-ended : goal.returns-then-is_same_ending-clause-ended
returns-then-is_same_ending-clause-ended c =
    let ends = c.args.self.now.endings in
    sym (put_back ends c.args.index)
    ∙ ap (put_ending ends c.args.index) (sym c.ending.ensures ∙ c.is_same_ending.ensures.0 c.if-is_same_ending.true ∙ c.ending_at-ending.ensures)

pub returns-clause-ended : goal.returns-clause-ended
returns-clause-ended c =
    elim c.if-self.branch [
      | then-self+in_ok-note w ↦ c.put.ensures ∙ (λ i. put_ending (w.self-is i).endings c.args.index (c.ending_at-ending.ensures i))
      | else-self w ↦ c.put.ensures ∙ (λ i. put_ending (w.self-is i).endings c.args.index (c.ending_at-ending.ensures i))
    ]

pub returns-in_err-note-clause-back : goal.returns-in_err-note-clause-back
returns-in_err-note-clause-back c = λ marked.
    let rows = c.args.self.now.schedule in
    let ends = c.args.self.now.endings in
    let note = note_of c.args.index c.row.result.now ends in
    back_kept (record { rows = rows; ends = ends }) c.args.self.now.undo c.note.new.self note (there rows ends c.args.index c.row.result.now note.ending c.row.ensures.row refl) c.note.ensures.grown

pub returns-clause-back : goal.returns-clause-back
returns-clause-back c = λ marked.
    let rows = c.args.self.now.schedule in
    let ends = c.args.self.now.endings in
    elim c.if-self.branch [
      | then-self+in_ok-note w ↦
          (let kept : Kept = record { rows = rows; ends = ends } in
          let row = w.row.result.now in
          let note = note_of c.args.index w.row.result.now ends in
          let next : Note = record { index = c.args.index; interval = row.interval; comings = row.comings; ending = c.ending_at-ending.result } in
          let put : c.if-self.self.schedule ≡ row_put rows c.args.index row.interval row.comings = ap (λ (t : LiveTable). t.schedule) w.self-is ∙ sym (row_same rows c.args.index row w.row.ensures.row) in
          let ended : c.put.new.self ≡ put_ending ends c.args.index c.ending_at-ending.result = c.put.ensures ∙ ap (λ (t : LiveTable). put_ending t.endings c.args.index c.ending_at-ending.result) w.self-is in
          (λ i. back_from c.if-self.self.undo (put i) (ended i))
          ∙ ap (λ (t : LiveTable). all_back (put_at kept c.args.index next) t.undo) w.self-is
          ∙ back_noted kept c.args.self.now.undo w.note.new.self note next (there rows ends c.args.index w.row.result.now note.ending w.row.ensures.row refl) w.note.ensures.grown w.in_ok-note.ensures.noted)
      | else-self w ↦ (let never : true ≡ false = sym marked ∙ w.if-self.false in absurd (cc))
    ]
