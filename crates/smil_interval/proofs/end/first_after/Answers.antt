use Rattle.std.proofs.Common.{sym, ◌∙◌, ap, rules, ℤ, List, w64}
use Rattle.std.specs.Prelude.{slice_get, filter, int_lt}
use Rattle.std.proofs.lemmas.Int.{to_z-of_z}
use mir.Val.{SFits}
use Rattle.smil_model.specs.declared.times.Time.TheVariants.{At}
use Rattle.smil_interval.proofs.IntervalSearch.{first_is, first_none}
use Rattle.smil_interval.proofs.end.first_after.Goals as goal

pub returns-in-Some : goal.returns-in-Some
returns-in-Some c =
    let begins = c.args.begins.now in
    let fits : SFits w64 c.in-Some.begin.now = search rules in
    ap At (to_z-of_z w64 c.in-Some.begin.now fits)
    ∙ sym (first_is c.args.value begins c.in-Some.begin.now
    (ap (λ (v : ℤ). slice_get (filter (int_lt v) begins) 0) (sym (to_z-of_z w64 c.args.value c.ranges.value))
    ∙ ap (λ (zs : List ℤ). slice_get zs 0) (sym c.after.ensures.part)
    ∙ sym c.in-Some.ensures.value))

pub returns-in-None : goal.returns-in-None
returns-in-None c =
    let begins = c.args.begins.now in
    sym (first_none c.args.value begins
    (ap (λ (v : ℤ). slice_get (filter (int_lt v) begins) 0) (sym (to_z-of_z w64 c.args.value c.ranges.value))
    ∙ ap (λ (zs : List ℤ). slice_get zs 0) (sym c.after.ensures.part)
    ∙ sym c.in-None.ensures.value))
