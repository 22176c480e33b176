use Rattle.std.proofs.Common.{rules, ◌≡◌, subst, []}
use Rattle.std.proofs.lemmas.Result.{IfOk-at_ok}
use Rattle.std.specs.FinMap.{get}
use Rattle.smil_model.specs.document.Document.{elements, serials}
use Rattle.smil_stretch.specs.Clocks.{AreClocksOf}
use Rattle.smil_instances.specs.Instances.{IsSettled}
use Rattle.smil_instances.specs.Intake.{history_of}
use Rattle.smil_instances.specs.Spread.{IsIndex}
use Rattle.smil_instances.proofs.AlikeDependents.{dependents_alike}
use Rattle.smil_past.proofs.past.Past.begun_anew.Goals as goal

pub revised-requires-clause-shares : goal.revised-requires-clause-shares
revised-requires-clause-shares c = λ alike.
    dependents_alike c.args.self.now.document.nodes c.args.after.now.nodes (c.requires.alike alike) c.instances.result.now.dependents
    c.instances.ensures.dependents

pub revised-requires-clause-places : goal.revised-requires-clause-places
revised-requires-clause-places c =
    let same : c.args.places.value ≡ c.in_ok-shared.shared.value = search rules in
    subst (λ table. IsIndex (serials (elements c.args.after.now.nodes)) (get table)) same c.requires.places

pub over-requires-clause-clocks : goal.over-requires-clause-clocks
over-requires-clause-clocks c = λ log.
    IfOk-at_ok (λ clocks. AreClocksOf clocks (history_of c.args.after.now log [])) c.in_ok-clocks.was (c.clocks_of.ensures log)

pub over-requires-clause-instances : goal.over-requires-clause-instances
over-requires-clause-instances c = λ log.
    IfOk-at_ok (λ value. IsSettled value c.args.after.now log []) c.in_ok-instances.was (c.revised.ensures log)
