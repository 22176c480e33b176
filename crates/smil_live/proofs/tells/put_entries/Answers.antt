use Rattle.std.proofs.Common.{◌∙◌, ap, subst, ◌<◌, ◌++◌, List, get_or, length}
use Rattle.smil_model.specs.declared.diary.Entry.{Entry}
use Rattle.smil_model.specs.shown.Lines.{entry_line}
use Rattle.smil_model.proofs.GrowingTexts.{begins_by}
use Rattle.smil_stretch.proofs.IdleClocks.{no_entry}
use Rattle.smil_shown.proofs.LineTexts.{begins_more, lines_more}
use Rattle.smil_live.proofs.tells.put_entries.Goals as goal

pub loop-entry-preserved : goal.loop-entry-preserved
loop-entry-preserved c =
    let i = c.loop-entry.entry-index in
    let same = c.entries-entry-items.ensures in
    let made = c.in_ok-put_entry.ensures.ok ∙ ap (λ (l : List Entry). c.loop-entry.out ++ entry_line c.args.log.now (get_or l i no_entry)) same in
    record {
      text =
          lines_more (entry_line c.args.log.now) c.args.book.now c.args.out.now i no_entry c.loop-entry.out c.put_entry.new.out (subst (λ (l : List Entry). i < length l) same c.loop-entry-test.true)
          c.loop-entry.invariant.text made;
      begins =
          begins_by c.args.out.now c.loop-entry.out c.put_entry.new.out c.loop-entry.invariant.begins
          (begins_more c.loop-entry.out c.put_entry.new.out (entry_line c.args.log.now (get_or c.args.book.now i no_entry)) made);
    }
