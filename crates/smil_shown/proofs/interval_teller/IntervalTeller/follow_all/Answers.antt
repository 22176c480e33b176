use Rattle.std.proofs.Common.{◌≡◌, sym, ◌∙◌, ap, subst, ◌+◌, List, Some, get_or, length, take, arith}
use Rattle.std.specs.Prelude.{slice_get}
use Rattle.std.proofs.lemmas.List.{take_all}
use Rattle.std.proofs.lemmas.Option.{slice_get-get_or}
use Rattle.smil_model.specs.declared.diary.Entry.{Entry}
use Rattle.smil_model.specs.diary.Diary.{History, up_to}
use Rattle.smil_model.specs.diary.Lawful.{IsLawful}
use Rattle.smil_stretch.proofs.LawfulDiaries.{lawful_first}
use Rattle.smil_stretch.proofs.IdleClocks.{next_first, no_entry}
use Rattle.smil_model.proofs.GrowingTexts.{begins_by}
use Rattle.smil_report.specs.Words.{who_of}
use Rattle.smil_shown.specs.Histories.{IsTold}
use Rattle.smil_shown.proofs.ToldIntervals.{near_at}
use Rattle.smil_shown.proofs.interval_teller.IntervalTeller.follow_all.Goals as goal

pub follow-requires-clause-follows : goal.follow-requires-clause-follows
follow-requires-clause-follows c =
    let may = c.requires.may in
    let past = may.past in
    let i = c.loop-entry.entry-index in
    let entries = c.entries-entry-items.result.now in
    let entry = get_or entries i no_entry in
    let at : slice_get past.diary i ≡ Some entry =
    ap (λ (ds : List Entry). slice_get ds i) (may.same_diary ∙ sym c.entries-entry-items.ensures) ∙ slice_get-get_or entries i no_entry c.loop-entry-test.true in
    record {
      past = up_to past (take i past.diary);
      known = (c.loop-entry.invariant.told past may.start may.same_diary may.lawful may.nothing_told).clocks_are;
      lawful = subst IsLawful (sym (next_first past i entry at)) (lawful_first past (i + 1) may.lawful);
    }

pub follow-requires-clause-near : goal.follow-requires-clause-near
follow-requires-clause-near c =
    let i = c.loop-entry.entry-index in
    let entries = c.entries-entry-items.result.now in
    near_at c.args.book.now i (get_or entries i no_entry) c.requires.near (ap (λ (ds : List Entry). slice_get ds i) (sym c.entries-entry-items.ensures) ∙ slice_get-get_or entries i no_entry c.loop-entry-test.true)

pub loop-entry-preserved : goal.loop-entry-preserved
loop-entry-preserved c =
    let i = c.loop-entry.entry-index in
    let entries = c.entries-entry-items.result.now in
    let entry = get_or entries i no_entry in
    record {
      told = λ h start same lawful nothing.
          let at : slice_get h.diary i ≡ Some entry =
          ap (λ (ds : List Entry). slice_get ds i) (same ∙ sym c.entries-entry-items.ensures) ∙ slice_get-get_or entries i no_entry c.loop-entry-test.true in
          let next = next_first h i entry at in
          let P : History → Type 0 = λ k. IsTold k (who_of c.args.name) start c.follow.new.self c.follow.new.out in
          subst P next
          (c.in_ok-follow.ensures.told (up_to h (take i h.diary)) start (c.loop-entry.invariant.told h start same lawful nothing) (subst IsLawful (sym next) (lawful_first h (i + 1) lawful)));
      who = c.follow.ensures.who ∙ c.loop-entry.invariant.who;
      begins = begins_by c.args.out.now c.loop-entry.out c.follow.new.out c.loop-entry.invariant.begins c.follow.ensures.begins;
    }

pub returns-clause-told : goal.returns-clause-told
returns-clause-told c = λ h start same lawful nothing.
    let P : List Entry → Type 0 = λ ds. IsTold (up_to h ds) (who_of c.args.name) start c.loop-entry.self c.loop-entry.out in
    subst P (take_all c.loop-entry.entry-index h.diary (omega (arith, c.loop-entry-test.false, ap length c.entries-entry-items.ensures, ap length same)))
    (c.loop-entry.invariant.told h start same lawful nothing)
