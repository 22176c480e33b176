use Rattle.std.proofs.Common.{◌∙◌, sym, ap}
use Rattle.std.specs.Prelude.{option_copied}
use Rattle.std.proofs.lemmas.Bool.{not-true}
use Rattle.smil_instance_rows.proofs.LastValues.{place_at_end}
use Rattle.smil_instance_rows.proofs.sorted.goes_last.Goals as goal

pub returns-in-Some : goal.returns-in-Some
returns-in-Some g c = λ greater.
    let le = g.T.Instant.at_most in
    place_at_end le g.T.Instant.order c.args.values.now c.args.value c.in-Some.last.now c.requires (sym c.last.ensures.value ∙ ap option_copied c.in-Some.is) (not-true (le c.args.value c.in-Some.last.now) (sym c.is_before.ensures ∙ greater))
