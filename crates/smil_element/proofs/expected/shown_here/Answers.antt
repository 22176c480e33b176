use Rattle.std.proofs.Common.{◌≡◌, ◌∙◌, sym, ap, ℤ, true, false, None, Some, arith}
use Rattle.std.specs.Prelude.{cond, ◌||◌}
use Rattle.std.proofs.lemmas.Int.{ints}
use Rattle.smil_model.specs.diary.Clocks.{between, outer, outer_stands}
use Rattle.smil_stretch.proofs.ReadingsByClock.{running}
use Rattle.smil_past.specs.Past.{history_of}
use Rattle.smil_element.proofs.PresentMoment.{present_fits}
use Rattle.smil_element.proofs.LatestEntry.{told_now}
use Rattle.smil_element.proofs.expected.shown_here.Goals as goal
use Rattle.smil_element.proofs.expected.shown_here.Goals.{then-own-via-then-own, then-own-via-else-own+then-other}

pub returns-then-own : goal.returns-then-own
returns-then-own c =
    let s = c.args.subject.now in
    let h = history_of s.present.past.now in
    let stand : (outer_stands h s.present.who || outer_stands h c.args.from) ≡ true =
    elim c.then-own.branch as (λ _. (outer_stands h s.present.who || outer_stands h c.args.from) ≡ true) [
      | then-own-via-then-own w ↦ ap (λ t. t || outer_stands h c.args.from) (sym c.requires.found.outer_stands_is ∙ w.if-own.true)
      | then-own-via-else-own+then-other w ↦
          (λ i. (sym c.requires.found.outer_stands_is ∙ w.if-own.false) i || (sym (c.readings-other.ensures.outer_stands h c.clocks.ensures) ∙ w.if-other.true) i)
    ] in
    ap (λ t. cond t None (Some (between h c.args.from s.present.who c.args.value s.present.moment))) (sym stand)

pub returns : goal.returns
returns c =
    let s = c.args.subject.now in
    let past = s.present.past.now in
    let h = history_of past in
    let run : (outer_stands h s.present.who || outer_stands h c.args.from) ≡ false =
    (λ i. (sym c.requires.found.outer_stands_is ∙ c.if-own.false) i || (sym (c.readings-other.ensures.outer_stands h c.clocks.ensures) ∙ c.if-other.false) i) in
    let from_is = told_now past s.present.moment (present_fits past s.present.moment c.requires.found.moment) c.requires.found.moment (λ (m : ℤ). c.readings-other.result.outer ≡ outer h c.args.from m) (c.readings-other.ensures.outer h c.clocks.ensures) in
    running (outer_stands h s.present.who || outer_stands h c.args.from) _ (between h c.args.from s.present.who c.args.value s.present.moment) run (omega (arith, ints, c.requires.found.outer_is, from_is))
