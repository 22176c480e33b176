use Rattle.std.proofs.Common.{sym, subst, ◌∙◌, take, ◌+◌}
use Rattle.smil_model.specs.diary.Diary.{up_to}
use Rattle.smil_model.specs.diary.Lawful.{IsLawful}
use Rattle.smil_stretch.specs.Clocks.{AreClocksOf}
use Rattle.smil_stretch.proofs.LawfulDiaries.{lawful_first}
use Rattle.smil_stretch.proofs.IdleClocks.{idle_clocks_of, next_at, next_first}
use Rattle.smil_stretch.proofs.clocks.Clocks.of.Goals as goal

pub loop-entry-init : goal.loop-entry-init
loop-entry-init c = λ h of. idle_clocks_of _ h c.args.tree.now c.args.book.now c.valid.ensures.numbered of c.in_ok-clocks.ensures

pub follow-requires : goal.follow-requires
follow-requires c =
    let i = c.loop-entry.entry-index in
    let past = c.requires.past in
    let of = c.requires.history in
    record {
      past = up_to past (take i past.diary);
      known = c.loop-entry.invariant past of;
      lawful =
          subst IsLawful
          (sym (next_first past i _ (next_at c.entries-entry-items.result.now past.diary i _ (of.same_diary ∙ sym c.entries-entry-items.ensures) c.loop-entry-test.true)))
          (lawful_first past (i + 1) of.lawful);
    }

pub loop-entry-preserved : goal.loop-entry-preserved
loop-entry-preserved c = λ h of.
    let i = c.loop-entry.entry-index in
    let same = of.same_diary ∙ sym c.entries-entry-items.ensures in
    subst (AreClocksOf c.follow.new.self) (next_first h i _ (next_at c.entries-entry-items.result.now h.diary i _ same c.loop-entry-test.true))
    (c.follow.ensures (up_to h (take i h.diary)) (c.loop-entry.invariant h of)
    (subst IsLawful (sym (next_first h i _ (next_at c.entries-entry-items.result.now h.diary i _ same c.loop-entry-test.true))) (lawful_first h (i + 1) of.lawful)))
