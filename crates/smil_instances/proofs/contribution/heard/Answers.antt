use Rattle.std.proofs.Common.{◌∙◌, ap, sym, subst, rules}
use mir.Syntax.{w64}
use mir.Val.{SFits}
use Rattle.std.proofs.lemmas.Int.{to_z-of_z}
use Rattle.std.specs.Prelude.{◌+ℤ◌}
use Rattle.smil_model.specs.Times.{within_horizon, IsMoment}
use Rattle.smil_model.specs.diary.Clocks.{outer}
use Rattle.smil_instances.proofs.GiftsBySource.{unheard, heard}
use Rattle.smil_instances.proofs.LastEntry.{clocks_read}
use Rattle.smil_instances.proofs.SumsFit.{moment_fits, moved_is, near_fits, read_at}
use Rattle.smil_instances.proofs.contribution.heard.Goals as goal
use Rattle.smil_instances.proofs.SensitiveItems.{serial_is}

pub outer-outer-requires : goal.outer-outer-requires
outer-outer-requires c =
    let is : IsMoment c.last_entry-entry.result.moment = c.last_entry-entry.ensures.moment in
    subst IsMoment (sym (to_z-of_z w64 c.last_entry-entry.result.moment (moment_fits c.last_entry-entry.result.moment is))) is

pub returns-then-not-is_heard : goal.returns-then-not-is_heard
returns-then-not-is_heard c = λ h y e is at.
    unheard h y e c.args.own.now.side c.args.of c.args.own.now.item.now (sym (c.is_heard.ensures h y e is at) ∙ c.if-not-is_heard.true)

pub returns : goal.returns
returns c = λ h y e is at.
    let own = serial_is h.nodes c.args.own.now.who e at in
    let same = c.last_entry-entry.ensures.value h.diary y is.same_diary in
    let moment : IsMoment c.last_entry-entry.result.moment = c.last_entry-entry.ensures.moment in
    let fits : SFits w64 c.offset_of.result = search rules in
    heard h y e c.args.own.now.side c.args.own.now.who own c.last_entry-entry.result same c.args.of c.args.own.now.item.now _ c.moved-time.result
    (sym (c.is_heard.ensures h y e is at) ∙ c.if-not-is_heard.false)
    (moved_is c.outer-outer.result c.offset_of.result _ c.moved-time.result c.moved-time.ensures (near_fits c.outer-outer.result c.outer-outer.ensures.near) fits
    (read_at h c.args.arrival.now.clocks.now c.args.own.now.who c.last_entry-entry.result.moment c.outer-outer.result outer moment (clocks_read _ _ _ _ h y is c.last_entry-entry.result same) c.outer-outer.ensures.value)
    ∙ ap (λ o. within_horizon (outer h c.args.own.now.who c.last_entry-entry.result.moment +ℤ o)) c.offset_of.ensures)
    (c.place-place.ensures h y is)
