use Rattle.std.proofs.Common.{◌∙◌, ap, sym, List, arith}
use Rattle.std.specs.Prelude.{Option, slice_get}
use Rattle.smil_model.specs.declared.interval.ChildEnd.{ChildEnd}
use Rattle.smil_nodes.specs.declared.endings.Home.{Home}
use Rattle.smil_nodes.specs.Endings.{KeptEnds, ending_from, ending_home, ending_in, home_at}
use Rattle.smil_nodes.proofs.EndingPlaces.{child_within, looked_up, row_free}
use Rattle.smil_nodes.proofs.endings.Endings.ending.Goals as goal

pub index-requires : goal.index-requires
index-requires c =
    let i = c.self.inside in
    let is = looked_up i.homes.items c.deref.result.now i.ends.items c.args.index c.in-Some.home c.self.invariant c.deref.ensures.value c.in-Some.ensures in
    omega (arith, is.container, i.ends.ok.0)

pub end-end-requires : goal.end-end-requires
end-end-requires c =
    let i = c.self.inside in
    let is = looked_up i.homes.items c.deref.result.now i.ends.items c.args.index c.in-Some.home c.self.invariant c.deref.ensures.value c.in-Some.ensures in
    child_within i.homes.items i.ends.items c.args.index c.in-Some.home c.index.result.now is c.index.ensures

pub returns-in-Some : goal.returns-in-Some
returns-in-Some c =
    let i = c.self.inside in
    let is = looked_up i.homes.items c.deref.result.now i.ends.items c.args.index c.in-Some.home c.self.invariant c.deref.ensures.value c.in-Some.ensures in
    let row = row_free i.ends.items c.in-Some.home.container c.index.result.now c.index.ensures is.container in
    ap ending_from (sym c.end-end.ensures)
    ∙ ap (λ (cs : List ChildEnd). ending_from (slice_get cs c.in-Some.home.child)) row
    ∙ ap (ending_home i.ends.items) (sym is.at)
    ∙ ap (λ (kept : KeptEnds). ending_in kept c.args.index) c.self.view_is

pub returns-in-None : goal.returns-in-None
returns-in-None c =
    let i = c.self.inside in
    ap (ending_home i.ends.items) (c.in-None.ensures ∙ ap (λ (hs : List (Option Home)). home_at hs c.args.index) c.deref.ensures.value)
    ∙ ap (λ (kept : KeptEnds). ending_in kept c.args.index) c.self.view_is
