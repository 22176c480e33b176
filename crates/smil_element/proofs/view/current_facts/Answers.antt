use Rattle.std.proofs.Common.{◌≡◌, ◌∙◌, refl, ap, sym, subst, ℕ, arith}
use Rattle.std.proofs.lemmas.Int.{ints}
use Rattle.std.specs.Prelude.{◌-ℤ◌}
use mir.Syntax.{w64}
use mir.Val.{to_z, of_z}
use Rattle.smil_model.specs.Times.{IsCarried}
use Rattle.smil_model.specs.diary.Clocks.{outer, outer_stands}
use Rattle.smil_past.specs.declared.plays.facts.PlayFacts.{PlayFacts}
use Rattle.smil_past.specs.Past.{history_of}
use Rattle.smil_element.proofs.ViewByFacts.{interval_within, kept_is, same_serial}
use Rattle.smil_element.proofs.view.current_facts.Goals as goal

pub returns-clause-current : goal.returns-clause-current
returns-clause-current c = λ e shows above at.
    let s = c.args.subject.now in
    let h = history_of s.present.past.now in
    let found = c.requires.found in
    let same = same_serial s found e at in
    let kept = kept_is s found e at in
    let shift_is : to_z w64 (of_z w64 c.document_shift.result) ≡ c.document_shift.result = omega (arith, ints) in
    record {
      serial = same;
      interval = refl;
      standing = ap (outer_stands h) same ∙ sym found.outer_stands_is;
      shift = ap (λ (k : ℕ). s.present.moment -ℤ outer h k s.present.moment) same ∙ sym (shift_is ∙ c.document_shift.ensures.value);
      iteration = sym (ap (λ (r : PlayFacts). r.iteration) kept);
      finished = sym (ap (λ (r : PlayFacts). r.finished) kept);
    }

pub returns-clause-times : goal.returns-clause-times
returns-clause-times c =
    let shift_is : to_z w64 (of_z w64 c.document_shift.result) ≡ c.document_shift.result = omega (arith, ints) in
    record {
      interval = interval_within c.args.interval c.requires.near;
      shift = subst IsCarried (sym shift_is) c.document_shift.ensures.within;
    }
