use Rattle.std.proofs.Common.{◌∙◌, ap, sym, subst}
use Rattle.std.specs.Prelude.{IfSome, option_and_then}
use Rattle.smil_house.proofs.PresentationsByName.{at_found, named_at}
use Rattle.smil_house.specs.Next.{NothingChangesBefore, next_of}
use Rattle.smil_house.proofs.house.House.next_due.Goals as goal

pub returns-in-Some-clause-next : goal.returns-in-Some-clause-next
returns-in-Some-clause-next g c =
    let at = at_found c.args.name.now c.self.inside.held.items c.args.self.now c.index_of.result c.in-Some.index c.index.result.now c.self.view_is c.index_of.ensures c.in-Some.is c.index.ensures in
    c.next_due.ensures.next ∙ ap (option_and_then (λ h. next_of (g.P.Player.presentation h.player))) (sym (named_at at))

pub returns-in-Some-clause-quiet : goal.returns-in-Some-clause-quiet
returns-in-Some-clause-quiet g c =
    let at = at_found c.args.name.now c.self.inside.held.items c.args.self.now c.index_of.result c.in-Some.index c.index.result.now c.self.view_is c.index_of.ensures c.in-Some.is c.index.ensures in
    subst (λ o. IfSome o (λ held. NothingChangesBefore c.next_due.result (g.P.Player.presentation held.player))) (sym (named_at at)) c.next_due.ensures.quiet
