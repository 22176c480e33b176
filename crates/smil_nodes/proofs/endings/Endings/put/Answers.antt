use Rattle.std.proofs.Common.{◌≡◌, ◌∙◌, ap, sym, List, length, arith}
use Rattle.std.specs.Prelude.{Option, None}
use Rattle.smil_model.specs.declared.interval.ChildEnd.{ChildEnd}
use Rattle.smil_nodes.specs.declared.endings.Home.{Home}
use Rattle.smil_nodes.specs.Endings.{KeptEnds, home_at, put_ending, put_home}
use Rattle.smil_endsync.proofs.NamedChild.{set_length}
use Rattle.smil_nodes.proofs.EndingPlaces.{among_set, child_within, housed_set, looked_up}
use Rattle.smil_nodes.proofs.endings.Endings.put.Goals as goal

pub returns-in_default : goal.returns-in_default
returns-in_default c =
    let i = c.self.inside in
    let none : home_at i.homes.items c.args.index ≡ None = ap (λ (hs : List (Option Home)). home_at hs c.args.index) (sym c.deref.ensures.value) ∙ sym c.home_in.ensures ∙ c.in_default.is in
    sym c.self.view_is
    ∙ (λ j. record { homes = i.homes.items; ends = put_home i.ends.items c.args.ending (sym none j) })
    ∙ ap (λ (kept : KeptEnds). put_ending kept c.args.index c.args.ending) c.self.view_is

pub index_mut-requires : goal.index_mut-requires
index_mut-requires c =
    let i = c.self.inside in
    let is = looked_up i.homes.items c.deref.result.now i.ends.items c.args.index c.in-Some.home c.self.invariant c.deref.ensures.value c.in-Some.ensures in
    omega (arith, is.container, i.ends.ok.0)

pub set-requires : goal.set-requires
set-requires c =
    let i = c.self.inside in
    let is = looked_up i.homes.items c.deref.result.now i.ends.items c.args.index c.in-Some.home c.self.invariant c.deref.ensures.value c.in-Some.ensures in
    child_within i.homes.items i.ends.items c.args.index c.in-Some.home c.index_mut.result.now is c.index_mut.ensures.value

pub invariant_of-self : goal.invariant_of-self
invariant_of-self c =
    let i = c.self.inside in
    let is = looked_up i.homes.items c.deref.result.now i.ends.items c.args.index c.in-Some.home c.self.invariant c.deref.ensures.value c.in-Some.ensures in
    let own = c.index_mut.result.now in
    housed_set i.homes.items i.ends.items c.in-Some.home.container own c.set.new.self c.self.invariant c.index_mut.ensures.value is.container
    (ap (λ (cs : List ChildEnd). length cs) c.set.ensures ∙ set_length own c.in-Some.home.child c.args.ending.first c.args.ending.latest)

pub returns : goal.returns
returns c =
    let i = c.self.inside in
    let is = looked_up i.homes.items c.deref.result.now i.ends.items c.args.index c.in-Some.home c.self.invariant c.deref.ensures.value c.in-Some.ensures in
    let ends = among_set i.ends.items c.in-Some.home.container c.in-Some.home.child c.args.ending c.index_mut.result.now c.set.new.self c.index_mut.ensures.value is.container c.set.ensures ∙ ap (put_home i.ends.items c.args.ending) (sym is.at) in
    (λ j. record { homes = i.homes.items; ends = ends j })
    ∙ ap (λ (kept : KeptEnds). put_ending kept c.args.index c.args.ending) c.self.view_is
