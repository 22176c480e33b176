use Rattle.std.proofs.Common.{◌∙◌, ap, length, ◌/◌, List}
use Rattle.smil_model.specs.declared.diary.LogEntry.{LogEntry}
use Rattle.smil_test_plays.proofs.PlaysLawful.{possible_heard}
use Rattle.smil_test_plays.proofs.plays.half_of.Goals as goal

pub front-requires-clause-possible : goal.front-requires-clause-possible
front-requires-clause-possible c =
    possible_heard c.args.past.now c.len-log.result (c.len-diary.result / 2) c.possible.ensures (c.len-log.ensures ∙ ap (λ (l : List LogEntry). length l) c.log.ensures)
