use Rattle.std.proofs.Common.{◌≡◌, ◌≤◌, ◌∙◌, ap, List, length, take, ◌-◌, ◌/◌, arith}
use Rattle.std.proofs.lemmas.List.{length-take-le}
use Rattle.smil_model.specs.declared.diary.Entry.{Entry}
use Rattle.smil_past.proofs.KeptFronts.{lags_behind, possible_front}
use Rattle.smil_past.proofs.kept.catch_up_keeping.Goals as goal

pub catch_up-requires-clause-possible : goal.catch_up-requires-clause-possible
catch_up-requires-clause-possible c =
    possible_front c.args.tree.now c.args.log.now c.args.entries.now (length c.args.entries.now - c.loop-left.left / 2) c.requires.possible

pub loop-left-preserved : goal.loop-left-preserved
loop-left-preserved c =
    let entries = c.args.entries.now in
    let half = c.loop-left.left / 2 in
    let len = length entries - half in
    let within : len ≤ length entries = omega arith in
    let front : c.catch_up.new.self.book ≡ take len entries = c.in_ok-catch_up.ensures.ok in
    let reached : length c.catch_up.new.self.book ≡ len = ap (λ (es : List Entry). length es) front ∙ length-take-le len entries within in
    let lags = lags_behind c.args.tree.now c.args.log.now entries len c.catch_up.new.self within front c.catch_up.ensures.lags.tells in
    record {
      lags = lags;
      kept = c.in_ok-keep.ensures c.args.tree.now c.args.log.now entries lags c.loop-left.invariant.kept;
      reached = omega (arith, reached, c.loop-left.invariant.reached);
    }
