use Rattle.std.proofs.Common.{◌≡◌, subst}
use Rattle.smil_model.specs.document.Valid.{IsNumberedTree}
use Rattle.smil_live.proofs.OrderOutcomes.{found_by, serial_of_named, there}
use Rattle.smil_live.proofs.presentation.PresentationOver.node.Goals as goal

pub returns-in-Some-clause-ok : goal.returns-in-Some-clause-ok
returns-in-Some-clause-ok g c =
    let same : c.tree.result.now ≡ c.args.self.now.document = c.tree.ensures.document in
    found_by c.args.self.now c.tree.result.now c.args.who.now c.in-Some.serial same c.in-Some.ensures

pub returns-in-Some-clause-known : goal.returns-in-Some-clause-known
returns-in-Some-clause-known g c =
    let same : c.tree.result.now ≡ c.args.self.now.document = c.tree.ensures.document in
    let h = found_by c.args.self.now c.tree.result.now c.args.who.now c.in-Some.serial same c.in-Some.ensures in
    there c.args.self.now.document c.args.who.now h.0 c.in-Some.serial (subst IsNumberedTree c.tree.ensures.document c.tree.ensures.valid.numbered) h.1 h.2

pub returns-in-Some-clause-serial : goal.returns-in-Some-clause-serial
returns-in-Some-clause-serial g c =
    let same : c.tree.result.now ≡ c.args.self.now.document = c.tree.ensures.document in
    let h = found_by c.args.self.now c.tree.result.now c.args.who.now c.in-Some.serial same c.in-Some.ensures in
    serial_of_named c.args.self.now.document c.args.who.now h.0 c.in-Some.serial (subst IsNumberedTree c.tree.ensures.document c.tree.ensures.valid.numbered) h.1 h.2
