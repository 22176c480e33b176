use Rattle.std.proofs.Common.{rules, ◌≡◌, subst, []}
use Rattle.std.proofs.lemmas.Result.{IfOk-at_ok}
use Rattle.std.specs.FinMap.{get}
use Rattle.smil_model.specs.document.Document.{elements, serials}
use Rattle.smil_instances.specs.Instances.{IsSettled}
use Rattle.smil_instances.specs.Spread.{IsIndex}
use Rattle.smil_past.proofs.chronicle.Chronicle.new.Goals as goal

pub new-requires : goal.new-requires
new-requires c =
    let same : c.args.places.value ≡ c.in_ok-shared.shared.value = search rules in
    subst (λ table. IsIndex (serials (elements c.args.tree.now.nodes)) (get table)) same c.requires

pub new-requires-3-clause-instances : goal.new-requires-3-clause-instances
new-requires-3-clause-instances c = λ log.
    IfOk-at_ok (λ value. IsSettled value c.args.tree.now log []) c.in_ok-instances.was (c.new.ensures log)
