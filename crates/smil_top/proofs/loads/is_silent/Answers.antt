use Rattle.std.proofs.Common.{ap, sym, subst, ◌∙◌}
use Rattle.smil_grammar.specs.Scripts.{is_blank}
use Rattle.smil_top.proofs.LoadsGiven.{loud-long, silent-short}
use Rattle.smil_top.proofs.TranscriptStep.{Shows, shown-line}
use Rattle.smil_top.proofs.loads.is_silent.Goals as goal

pub returns-in-Some : goal.returns-in-Some
returns-in-Some c line shows =
    let is = shown-line c.in-Some.is shows in
    c.is_blank.ensures ∙ ap is_blank (sym is.0) ∙ sym (silent-short line is.1)

pub returns-in-None : goal.returns-in-None
returns-in-None c line shows = sym (loud-long line (subst (λ o. Shows o line) c.in-None.is shows))
