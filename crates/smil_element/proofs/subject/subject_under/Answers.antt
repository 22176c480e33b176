use Rattle.std.proofs.Common.{◌≡◌, ◌∙◌, ap, ℤ, arith}
use Rattle.std.proofs.lemmas.Int.{ints}
use Rattle.smil_model.specs.diary.Clocks.{outer, outer_stands, run, stands}
use Rattle.smil_model.specs.document.Document.{serial_of, time_parent}
use Rattle.smil_past.specs.Past.{history_of}
use Rattle.smil_past.specs.Played.{played}
use Rattle.smil_element.proofs.ElementReadings.{parent_known}
use Rattle.smil_element.proofs.IndexedElements.{element_here, makeup_is, own_place, parent_serial, plays_within, syncs_within}
use Rattle.smil_element.proofs.PresentMoment.{present_fits}
use Rattle.smil_element.proofs.LatestEntry.{told_now}
use Rattle.smil_element.proofs.subject.subject_under.Goals as goal

pub at-played-requires : goal.at-played-requires
at-played-requires c =
    let past = c.args.present.now.past.now in
    let nodes = past.document.nodes in
    let here = element_here nodes c.args.index c.args.present.now.who c.requires.element c.requires.index in
    plays_within (history_of past) c.plays.result.now c.args.index c.plays.ensures here.within

pub at-row-requires : goal.at-row-requires
at-row-requires c =
    let past = c.args.present.now.past.now in
    let nodes = past.document.nodes in
    let here = element_here nodes c.args.index c.args.present.now.who c.requires.element c.requires.index in
    syncs_within nodes c.syncs.result.now c.args.index c.syncs.ensures here.within

pub returns-clause-found : goal.returns-clause-found
returns-clause-found c =
    let past = c.args.present.now.past.now in
    let nodes = past.document.nodes in
    let here = element_here nodes c.args.index c.args.present.now.who c.requires.element c.requires.index in
    let who = c.args.present.now.who in
    let now = c.args.present.now.moment in
    let h = history_of past in
    let fits = present_fits past now c.requires.moment in
    let made = makeup_is past.document c.possible.ensures.valid.numbered c.makeups_tell_places.ensures c.args.index c.args.present.now.who here c.syncs.result.now c.at-row.result.now c.makeup-makeup.result.now c.syncs.ensures c.at-row.ensures c.makeup-makeup.ensures in
    let own = own_place past.document c.possible.ensures.valid.numbered c.makeups_tell_places.ensures c.args.index who here c.makeup-makeup.result.now made in
    let parent : c.serial_in.result ≡ serial_of (time_parent nodes who) = c.serial_in.ensures ∙ parent_serial past.document c.possible.ensures.valid.numbered c.makeups_tell_places.ensures c.args.index who here c.makeup-makeup.result.now made in
    record {
      element = c.requires.element;
      here = c.requires.index;
      moment = c.requires.moment;
      played_is = c.at-played.ensures h here.node c.plays.ensures here.at ∙ ap (played h) here.serial;
      row_is = λ e known. c.at-row.ensures nodes e c.syncs.ensures (c.requires.index ∙ known);
      parent_is = parent;
      parent_known = parent_known nodes who c.serial_in.result c.possible.ensures.valid.numbered.distinct c.requires.element parent;
      alive_is = c.requires.alive;
      start_is = omega (arith, ints, c.requires.start);
      own_is =
          told_now past now fits c.requires.moment (λ (m : ℤ). c.readings_at-clocks.result.own ≡ run h here.node.serial m) (λ late. c.readings_at-clocks.ensures.own h here.node c.clocks.ensures late own)
          ∙ ap (λ s. run h s now) here.serial;
      outer_is =
          told_now past now fits c.requires.moment (λ (m : ℤ). c.readings_at-clocks.result.outer ≡ outer h here.node.serial m) (λ late. c.readings_at-clocks.ensures.outer h here.node c.clocks.ensures late own)
          ∙ ap (λ s. outer h s now) here.serial;
      own_stands_is = c.readings_at-clocks.ensures.own_stands h here.node c.clocks.ensures own ∙ ap (stands h) here.serial;
      outer_stands_is = c.readings_at-clocks.ensures.outer_stands h here.node c.clocks.ensures own ∙ ap (outer_stands h) here.serial;
      own_near = c.readings_at-clocks.ensures.own_near;
      outer_near = c.readings_at-clocks.ensures.outer_near;
    }
