use Rattle.std.proofs.Common.{sym, ap, ◌∙◌}
use Rattle.std.specs.Prelude.{is_some}
use Rattle.smil_past.specs.Queues.{with_play}
use Rattle.smil_past.proofs.KnownNodes.{known_node, known_place}
use Rattle.smil_past.proofs.PlayingChildren.{entered_others, excl_absent, has_entered, may_enter, place_below}
use Rattle.smil_past.proofs.queues.playing.enter.Goals as goal

pub excl_place-requires : goal.excl_place-requires
excl_place-requires c = known_node c.args.tree.now.nodes c.args.who c.requires.known

pub unwrap-requires : goal.unwrap-requires
unwrap-requires c =
    let nodes = c.args.tree.now.nodes in
    ap is_some c.position.ensures ∙ known_place nodes c.args.who (known_node nodes c.args.who c.requires.known)

pub defer-requires : goal.defer-requires
defer-requires c =
    let nodes = c.args.tree.now.nodes in
    let line = c.index-playing-place.result in
    may_enter nodes c.args.who c.valid.ensures.numbered.distinct (known_node nodes c.args.who c.requires.known) c.requires.plays c.args.playing.now c.in-Some.place line line c.in-Some.ensures c.requires.value c.requires.known c.requires.idle

pub returns-in-Some : goal.returns-in-Some
returns-in-Some c = λ plays is idle.
    let nodes = c.args.tree.now.nodes in
    let who = c.args.who in
    has_entered nodes who c.valid.ensures.numbered.distinct (known_node nodes who c.requires.known) plays c.args.playing.now c.in-Some.place c.index-playing-place.result c.defer.new.self c.in-Some.ensures is c.requires.known idle
    c.unwrap.result (place_below nodes c.unwrap.result who (sym c.unwrap.ensures ∙ c.position.ensures)).0 c.defer.ensures

pub returns-in_default : goal.returns-in_default
returns-in_default c = λ plays is idle.
    let nodes = c.args.tree.now.nodes in
    let who = c.args.who in
    is ∙ excl_absent nodes who c.valid.ensures.numbered.distinct (known_node nodes who c.requires.known) plays (with_play who plays) (entered_others nodes who plays idle) c.in_default.ensures
