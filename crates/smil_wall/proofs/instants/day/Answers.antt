use Rattle.std.proofs.Common.{◌≡◌, ℕ, ◌<◌, ◌≤◌, Some, ap, subst, ◌∙◌, arith, ℤ, pos}
use Rattle.std.proofs.lemmas.Int.{ints}
use mir.Syntax.{w64}
use mir.Val.{to_z, of_z}
use Rattle.jiff_core.specs.Calendar.{days_in_month, days_from_civil}
use Rattle.smil_grammar.specs.Instants.{day_of}
use Rattle.smil_wall.proofs.CalendarDays.{day_is}
use Rattle.smil_wall.proofs.instants.day.Goals as goal

pub returns-in-Ok-clause-number : goal.returns-in-Ok-clause-number
returns-in-Ok-clause-number c =
    let d = c.in-Ok.date in
    let year : d.year ≡ pos c.args.year = omega (arith, ints, c.in-Ok.ensures.value.0) in
    let month : d.month ≡ c.args.month = omega (arith, ints, c.in-Ok.ensures.value.1) in
    let day : d.day ≡ c.args.day = omega (arith, ints, c.in-Ok.ensures.value.2) in
    let above : 0 < c.args.year = omega arith in
    let here : Some (days_from_civil (pos c.args.year) d.month d.day) ≡ day_of c.args.year d.month d.day =
    day_is c.args.year d.month d.day above (omega (arith, d.month_in)) (omega (arith, d.month_in)) (omega (arith, d.day_in))
    (subst (λ (y : ℤ). d.day ≤ days_in_month y d.month) year (omega (arith, d.day_in))) in
    let there : Some (days_from_civil (pos c.args.year) d.month d.day) ≡ day_of c.args.year c.args.month c.args.day =
    here ∙ ap (λ (m : ℕ). day_of c.args.year m d.day) month ∙ ap (λ (n : ℕ). day_of c.args.year c.args.month n) day in
    let same : to_z w64 (of_z w64 c.day_number.result) ≡ c.day_number.result = omega (arith, ints) in
    let number : c.day_number.result ≡ days_from_civil (pos c.args.year) d.month d.day =
    c.day_number.ensures.number ∙ ap (λ (y : ℤ). days_from_civil y d.month d.day) year in
    ap (λ (z : ℤ). Some z) (same ∙ number) ∙ there
