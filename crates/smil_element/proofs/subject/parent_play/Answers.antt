use Rattle.std.proofs.Common.{◌∙◌, ap, arith}
use Rattle.std.proofs.lemmas.Int.{ints}
use Rattle.std.specs.Prelude.{is_some}
use Rattle.smil_model.specs.document.Document.{serial_of, time_parent}
use Rattle.smil_past.specs.declared.plays.facts.PlayFacts.{PlayFacts}
use Rattle.smil_past.specs.Past.{history_of}
use Rattle.smil_element.proofs.IndexedElements.{element_here, makeup_is, no_parent, parent_here, plays_within, syncs_within}
use Rattle.smil_element.proofs.TimeParents.{lives_rootless, lives_told, starts_rootless, starts_told}
use Rattle.smil_element.proofs.subject.parent_play.Goals as goal

pub at-row-requires : goal.at-row-requires
at-row-requires c =
    let past = c.args.past.now in
    let nodes = past.document.nodes in
    let here = element_here nodes c.args.index c.args.who c.requires.element c.requires.index in
    syncs_within nodes c.syncs.result.now c.args.index c.syncs.ensures here.within

pub at-played-requires : goal.at-played-requires
at-played-requires c =
    let past = c.args.past.now in
    let nodes = past.document.nodes in
    let here = element_here nodes c.args.index c.args.who c.requires.element c.requires.index in
    let made = makeup_is past.document c.possible.ensures.valid.numbered c.makeups_tell_places.ensures c.args.index c.args.who here c.syncs.result.now c.at-row.result.now c.makeup.result.now c.syncs.ensures c.at-row.ensures c.makeup.ensures in
    let under = parent_here past.document c.possible.ensures.valid.numbered c.makeups_tell_places.ensures c.args.index c.args.who here c.makeup.result.now made c.in-Some.parent c.in-Some.is in
    plays_within (history_of past) c.plays.result.now c.in-Some.parent.index c.plays.ensures under.within

pub returns-in-Some-clause-alive : goal.returns-in-Some-clause-alive
returns-in-Some-clause-alive c =
    let past = c.args.past.now in
    let nodes = past.document.nodes in
    let here = element_here nodes c.args.index c.args.who c.requires.element c.requires.index in
    let made = makeup_is past.document c.possible.ensures.valid.numbered c.makeups_tell_places.ensures c.args.index c.args.who here c.syncs.result.now c.at-row.result.now c.makeup.result.now c.syncs.ensures c.at-row.ensures c.makeup.ensures in
    let under = parent_here past.document c.possible.ensures.valid.numbered c.makeups_tell_places.ensures c.args.index c.args.who here c.makeup.result.now made c.in-Some.parent c.in-Some.is in
    lives_told (history_of past) past.document.next c.possible.ensures.valid.numbered (time_parent nodes c.args.who) under.node.serial c.is_some.result (ap serial_of under.is)
    (c.is_some.ensures ∙ ap (λ (r : PlayFacts). is_some r.begun) (c.at-played.ensures (history_of past) under.node c.plays.ensures under.at))

pub returns-in-Some-clause-start : goal.returns-in-Some-clause-start
returns-in-Some-clause-start c =
    let past = c.args.past.now in
    let nodes = past.document.nodes in
    let here = element_here nodes c.args.index c.args.who c.requires.element c.requires.index in
    let made = makeup_is past.document c.possible.ensures.valid.numbered c.makeups_tell_places.ensures c.args.index c.args.who here c.syncs.result.now c.at-row.result.now c.makeup.result.now c.syncs.ensures c.at-row.ensures c.makeup.ensures in
    let under = parent_here past.document c.possible.ensures.valid.numbered c.makeups_tell_places.ensures c.args.index c.args.who here c.makeup.result.now made c.in-Some.parent c.in-Some.is in
    starts_told (history_of past) (time_parent nodes c.args.who) under.node.serial _ (ap serial_of under.is)
    (omega (arith, ints, ap (λ (r : PlayFacts). r.start) (c.at-played.ensures (history_of past) under.node c.plays.ensures under.at)))

pub returns-in-None-clause-alive : goal.returns-in-None-clause-alive
returns-in-None-clause-alive c =
    let past = c.args.past.now in
    let nodes = past.document.nodes in
    let here = element_here nodes c.args.index c.args.who c.requires.element c.requires.index in
    let made = makeup_is past.document c.possible.ensures.valid.numbered c.makeups_tell_places.ensures c.args.index c.args.who here c.syncs.result.now c.at-row.result.now c.makeup.result.now c.syncs.ensures c.at-row.ensures c.makeup.ensures in
    let none = no_parent past.document c.possible.ensures.valid.numbered c.makeups_tell_places.ensures c.args.index c.args.who here c.makeup.result.now made c.in-None.is in
    lives_rootless past.diary (time_parent nodes c.args.who) (ap serial_of none)

pub returns-in-None-clause-start : goal.returns-in-None-clause-start
returns-in-None-clause-start c =
    let past = c.args.past.now in
    let nodes = past.document.nodes in
    let here = element_here nodes c.args.index c.args.who c.requires.element c.requires.index in
    let made = makeup_is past.document c.possible.ensures.valid.numbered c.makeups_tell_places.ensures c.args.index c.args.who here c.syncs.result.now c.at-row.result.now c.makeup.result.now c.syncs.ensures c.at-row.ensures c.makeup.ensures in
    let none = no_parent past.document c.possible.ensures.valid.numbered c.makeups_tell_places.ensures c.args.index c.args.who here c.makeup.result.now made c.in-None.is in
    starts_rootless (history_of past) (time_parent nodes c.args.who) (ap serial_of none)
