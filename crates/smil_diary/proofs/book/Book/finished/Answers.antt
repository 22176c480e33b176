use Rattle.std.proofs.Common.{ap, length, ◌∙◌, arith}
use Rattle.std.proofs.lemmas.List.{take_all}
use Rattle.smil_diary.specs.declared.tally.Tally.{Tally}
use Rattle.smil_diary.specs.Tallies.{tally_of}
use Rattle.smil_diary.proofs.EntryCounts.{finished-of}
use Rattle.smil_diary.proofs.book.Book.finished.Goals as goal

pub after-tally-requires : goal.after-tally-requires
after-tally-requires c =
    omega (arith, c.loop-entry.invariant.1, c.loop-entry-test.true, ap length c.entries-entry-items.ensures, c.len.ensures.value, c.len.ensures.bound)

pub returns : goal.returns
returns c = λ h of.
    let i = c.loop-entry.entry-index in
    ap (λ (t : Tally). t.finished)
    (c.loop-entry.invariant.0
    ∙ ap (λ xs. tally_of c.args.parent c.args.who xs) (take_all i c.args.self.now (omega (arith, c.loop-entry-test.false, ap length c.entries-entry-items.ensures))))
    ∙ finished-of h c.args.who c.args.parent c.args.self.now of
