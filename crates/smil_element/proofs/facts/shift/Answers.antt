use Rattle.std.proofs.Common.{◌∙◌, sym, ap, arith, Some, None, refl}
use Rattle.std.specs.Prelude.{cond, ◌-ℤ◌}
use Rattle.std.proofs.lemmas.Int.{ints}
use Rattle.smil_model.specs.diary.Clocks.{outer, run}
use Rattle.smil_past.specs.declared.plays.facts.PlayFacts.{PlayFacts}
use Rattle.smil_past.specs.Past.{history_of}
use Rattle.smil_element.proofs.LatestEntry.{shifted}
use Rattle.smil_element.proofs.facts.shift.Goals as goal

pub returns-then-subject : goal.returns-then-subject
returns-then-subject c =
    let s = c.args.subject.now in
    let h = history_of s.present.past.now in
    ap (λ t. cond t None (Some (outer h s.present.who s.present.moment -ℤ run h s.present.who s.present.moment))) (sym c.if-subject.true ∙ ap (λ (r : PlayFacts). r.paused) c.requires.played_is)

pub returns : goal.returns
returns c =
    let s = c.args.subject.now in
    shifted s.present.past.now s.present.past.now.diary s.present.who s.present.moment _ s.clocks.outer s.clocks.own s.played.now.paused refl (ap (λ (r : PlayFacts). r.paused) c.requires.played_is) c.if-subject.false c.requires.outer_is c.requires.own_is (omega (arith, ints))
