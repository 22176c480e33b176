use Rattle.std.proofs.Common.{◌≡◌, ◌∙◌, sym, ap, subst, ℤ, List, [], Some, false, w64, arith}
use Rattle.std.specs.Prelude.{filter, flat_map, int_le, is_some}
use Rattle.std.proofs.lemmas.Int.{ints}
use mir.Val.{to_z, of_z}
use Rattle.smil_model.specs.declared.times.Time.TheVariants.{At}
use Rattle.smil_model.specs.declared.document.Edge.TheVariants.{Begin}
use Rattle.smil_model.specs.diary.Diary.{is_active}
use Rattle.smil_model.specs.Rising.{IsRising}
use Rattle.smil_model.specs.interval.Current.{facts_of}
use Rattle.smil_model.specs.interval.Instances.{begin_times, end_times, no_interval}
use Rattle.smil_model.specs.interval.Intervals.{after_end, is_from}
use Rattle.smil_instances.proofs.IdTargets.{element_of}
use Rattle.smil_instances.proofs.SensitiveItems.{serial_is}
use Rattle.smil_past.specs.declared.plays.facts.PlayFacts.{PlayFacts}
use Rattle.smil_past.specs.Past.{history_of}
use Rattle.smil_past.specs.Played.{played}
use Rattle.smil_past.specs.Syncs.{expected_by, syncs_of, syncs_on}
use Rattle.smil_past.proofs.KeptActivity.{begun_is}
use Rattle.smil_element.specs.Element.{interval_in}
use Rattle.smil_element.proofs.AbsentIntervals.{last_told, spent}
use Rattle.smil_element.proofs.ExpectedTimes.{begins_alone, begins_rise, side_told}
use Rattle.smil_element.proofs.IndexedElements.{element_here, plays_within, syncs_within, times_within}
use Rattle.smil_element.proofs.OutcomeParts.{no_play}
use Rattle.smil_element.proofs.spent.is_spent.Goals as goal

pub at-played-requires : goal.at-played-requires
at-played-requires g c =
    let present = c.args.present.now in
    let nodes = present.past.now.document.nodes in
    let here = element_here nodes c.args.index present.who c.requires.element c.requires.index in
    plays_within (history_of present.past.now) c.plays.result.now c.args.index c.plays.ensures here.within

pub at-requires : goal.at-requires
at-requires g c =
    let present = c.args.present.now in
    let nodes = present.past.now.document.nodes in
    let here = element_here nodes c.args.index present.who c.requires.element c.requires.index in
    syncs_within nodes c.syncs.result.now c.args.index c.syncs.ensures here.within

pub begins_at-requires : goal.begins_at-requires
begins_at-requires g c =
    let present = c.args.present.now in
    let nodes = present.past.now.document.nodes in
    let here = element_here nodes c.args.index present.who c.requires.element c.requires.index in
    times_within (history_of present.past.now) c.instances.result.now.rows c.args.index c.instances.ensures.rows here.within

pub are_before-requires : goal.are_before-requires
are_before-requires g c =
    let present = c.args.present.now in
    let h = history_of present.past.now in
    let found = element_of h.nodes present.who c.requires.element in
    subst (λ (xs : List ℤ). IsRising int_le xs)
    (sym (c.begins_at.ensures h present.moment found.0 (record { rows = c.instances.ensures.rows; here = c.requires.index ∙ found.1 })))
    (begins_rise h no_interval present.moment found.0)

pub returns-clause-idle : goal.returns-clause-idle
returns-clause-idle g c = λ q.
    let present = c.args.present.now in
    let nodes = present.past.now.document.nodes in
    let h = history_of present.past.now in
    let here = element_here nodes c.args.index present.who c.requires.element c.requires.index in
    sym (sym c.if-is_some.false ∙ c.is_some.ensures ∙ ap (λ (r : PlayFacts). is_some r.begun) (c.at-played.ensures h here.node c.plays.ensures here.at ∙ ap (played h) here.serial) ∙ begun_is h present.past.now.document.next c.possible.ensures.valid.numbered present.who)

pub returns-clause-none : goal.returns-clause-none
returns-clause-none g c = λ q e at.
    let present = c.args.present.now in
    let past = present.past.now in
    let nodes = past.document.nodes in
    let h = history_of past in
    let now = present.moment in
    let given = g.J.Intervals.given c.args.intervals.now in
    let here = element_here nodes c.args.index present.who c.requires.element c.requires.index in
    let same = serial_is nodes present.who e at in
    let kept = c.at-played.ensures h here.node c.plays.ensures here.at ∙ ap (played h) here.serial in
    let idle : is_active h.diary present.who ≡ false =
    sym (sym c.if-is_some.false ∙ c.is_some.ensures ∙ ap (λ (r : PlayFacts). is_some r.begun) kept ∙ begun_is h past.document.next c.possible.ensures.valid.numbered present.who) in
    let last = c.in-Some.last in
    let finish_is : to_z w64 (of_z w64 last.finish) ≡ last.finish = omega (arith, ints) in
    let syncs : c.side.result.now ≡ syncs_of nodes Begin e =
    c.side.ensures ∙ ap (syncs_on Begin) (c.at.ensures nodes e c.syncs.ensures (c.requires.index ∙ at)) ∙ side_told nodes e Begin in
    let alone : flat_map (expected_by h given now e.serial) (syncs_of nodes Begin e) ≡ [] =
    ap (flat_map (expected_by h given now e.serial)) (sym syncs) ∙ c.gives_none.ensures c.if-not-gives_none.false now e.serial in
    let begins : c.begins_at.result.now ≡ begin_times h given now e =
    c.begins_at.ensures h now e (record { rows = c.instances.ensures.rows; here = c.requires.index ∙ at })
    ∙ begins_alone h now e given alone in
    spent (facts_of h given now e) (begin_times h given now e) (end_times h given now e) (interval_in last) (to_z w64 (of_z w64 last.finish))
    (no_play h now present.who e at idle)
    (last_told h present.who e given now c.at-played.result.now.last_finished last same (ap (λ (r : PlayFacts). r.last_finished) kept) c.in-Some.is)
    (ap At (sym finish_is))
    (λ begin. ap (filter (is_from (Some (after_end begin (At (to_z w64 (of_z w64 last.finish))))))) (sym begins) ∙ c.are_before.ensures q begin)
