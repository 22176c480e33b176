use Rattle.std.specs.Prelude.{Option, option_map}
use Rattle.std.proofs.Common.{◌∙◌, ap, sym, subst, List, length, set, arith}
use Rattle.smil_model.specs.declared.interval.ChildEnd.{ChildEnd}
use Rattle.smil_endsync.specs.declared.ends.EndSummary.{EndSummary}
use Rattle.smil_endsync.specs.Ends.{set_ends, AreSummed}
use Rattle.smil_endsync.proofs.NamedChild.{long_enough, set_kept, summed_next}
use Rattle.smil_endsync.proofs.ends.Ends.set.Goals as goal

pub put_summary-requires : goal.put_summary-requires
put_summary-requires c =
    let i = c.self.inside in
    long_enough i.summing i.children.items i.summaries c.args.child c.self.invariant.own
    (omega (arith, c.requires, ap (λ (xs : List ChildEnd). length xs) c.self.view_is))

pub invariant_of-self : goal.invariant_of-self
invariant_of-self c =
    let i = c.self.inside in
    let own = c.index.result.now in
    subst (λ (summaries : Option (List EndSummary)). AreSummed (set i.children.items c.args.child (record { named = own.named; first = c.args.first; latest = c.args.latest })) i.named i.summing summaries)
    (sym (c.put_summary.ensures ∙ ap (λ (s : EndSummary). option_map (λ (all : List EndSummary). set all c.args.child s) i.summaries) c.one.ensures))
    (summed_next i.summing i.children.items i.named i.summaries c.args.child c.args.first c.args.latest own c.self.invariant c.index.ensures
    (omega (arith, c.requires, ap (λ (xs : List ChildEnd). length xs) c.self.view_is)))

pub returns : goal.returns
returns c =
    set_kept c.self.inside.children.items c.args.child c.args.first c.args.latest c.index.result.now c.index.ensures (omega (arith, c.requires, ap (λ (xs : List ChildEnd). length xs) c.self.view_is))
    ∙ ap (λ (cs : List ChildEnd). set_ends cs c.args.child c.args.first c.args.latest) c.self.view_is
