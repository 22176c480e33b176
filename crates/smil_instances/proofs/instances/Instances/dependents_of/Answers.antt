use Rattle.std.proofs.Common.{rules, ◌≡◌, subst}
use Rattle.smil_instances.specs.Dependents.{AreDependentsOf}
use Rattle.smil_instances.proofs.instances.Instances.dependents_of.Goals as goal

pub returns-in_ok-shared : goal.returns-in_ok-shared
returns-in_ok-shared c =
    let shared = c.in_ok-shared.shared.value in
    let same : c.args.self.now.dependents ≡ shared = search rules in
    subst (λ d. AreDependentsOf c.args.after.now.nodes d) same (c.requires.shares c.if-shares.true)
