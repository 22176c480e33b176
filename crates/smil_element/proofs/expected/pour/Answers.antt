use Rattle.std.proofs.Common.{◌∙◌}
use Rattle.std.specs.Prelude.{flat_map, get_or, option_to_list, pos}
use Rattle.std.proofs.lemmas.Option.{slice_get-get_or}
use Rattle.std.proofs.lemmas.List.{take_all}
use Rattle.smil_model.specs.declared.document.Edge.TheVariants.{Begin}
use Rattle.smil_instances.specs.declared.syncbase.Syncbase.{Syncbase}
use Rattle.smil_past.specs.Syncs.{expected_by}
use Rattle.smil_past.specs.Past.{history_of}
use Rattle.smil_element.specs.Pouring.{with_times}
use Rattle.smil_element.proofs.ExpectedTimes.{pour_more, rises_with}
use Rattle.smil_element.proofs.expected.pour.Goals as goal

pub put_some-requires : goal.put_some-requires
put_some-requires g c = rises_with g.T.Instant.at_most g.T.Instant.order g.T.Instant.choose _ c.args.times.now.items c.loop-sync.times.items c.requires.rising c.loop-sync.invariant

pub loop-sync-preserved : goal.loop-sync-preserved
loop-sync-preserved g c =
    let k = c.loop-sync.sync-index in
    let d : Syncbase = record { of = 0; edge = Begin; offset = pos 0 } in
    pour_more g.T.Instant.at_most g.T.Instant.order g.T.Instant.choose
    (expected_by (history_of c.args.reading.now.subject.now.present.past.now) (g.J.Intervals.given c.args.reading.now.intervals.now) c.args.reading.now.subject.now.present.moment c.args.reading.now.subject.now.present.who)
    c.args.syncs.now k (get_or c.args.syncs.now k d) c.args.times.now.items c.loop-sync.times.items c.put_some.new.times.items (option_to_list c.expected.result)
    (slice_get-get_or c.args.syncs.now k d c.loop-sync-test.true) c.loop-sync.invariant c.expected.ensures c.in_ok-put_some.ensures

pub returns : goal.returns
returns g c =
    c.loop-sync.invariant
    ∙ (λ i. with_times g.T.Instant.at_most g.T.Instant.choose (flat_map (expected_by (history_of c.args.reading.now.subject.now.present.past.now) (g.J.Intervals.given c.args.reading.now.intervals.now) c.args.reading.now.subject.now.present.moment c.args.reading.now.subject.now.present.who) (take_all c.loop-sync.sync-index c.args.syncs.now c.loop-sync-test.false i)) c.args.times.now.items)
