use Rattle.std.proofs.Common.{refl, ap, sym, subst}
use Rattle.smil_top.specs.declared.session.Session.{Session}
use Rattle.smil_top.specs.Transcript.{of_nothing}
use Rattle.smil_top.specs.Session.{empty_session}
use Rattle.smil_top.specs.Houses.{Keeps}
use Rattle.smil_top.proofs.run.Run.new.Goals as goal

pub returns-clause-running : goal.returns-clause-running
returns-clause-running c = record {
  tells = record {
    checks_is = ap (λ (s : Session). s.checks) c.in_ok-new.ensures;
    transcript = of_nothing;
    keeps = subst (λ (s : Session). Keeps s empty_session) (sym c.in_ok-new.ensures) (record { held = record { session_is = refl; apart = tt }; wanted = refl });
    counted = c.requires;
  };
  load = tt;
}
