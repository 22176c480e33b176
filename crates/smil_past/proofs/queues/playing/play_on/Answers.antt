use Rattle.std.proofs.Common.{◌∙◌}
use Rattle.smil_model.specs.happening.Queue.{is_playing_by}
use Rattle.smil_past.proofs.PlayingChildren.{all_lines, started, starts_fresh, starts_idle, stopped, stops_known}
use Rattle.smil_past.proofs.queues.playing.play_on.Goals as goal

pub enter-requires : goal.enter-requires
enter-requires c = starts_idle _ _ _ c.requires.0 c.requires.1 c.in-Began.who c.in-Began.is

pub leave-requires-clause-all : goal.leave-requires-clause-all
leave-requires-clause-all c = all_lines _ _ _ c.requires.0 c.requires.1

pub leave-requires-clause-known : goal.leave-requires-clause-known
leave-requires-clause-known c = stops_known _ _ _ c.requires.0 c.requires.1 c.in-Paused.who c.in-Paused.is

pub returns-in-Began : goal.returns-in-Began
returns-in-Began c = λ h may.
    c.enter.ensures (is_playing_by h.diary) may.value (starts_fresh _ _ _ h may c.in-Began.who c.in-Began.is) ∙ started c.in-Began.who (is_playing_by h.diary) c.args.tree.now.nodes c.args.step c.in-Began.is

pub returns-in-Paused : goal.returns-in-Paused
returns-in-Paused c = λ h may.
    c.leave.ensures (is_playing_by h.diary) may.value ∙ stopped c.in-Paused.who (is_playing_by h.diary) c.args.tree.now.nodes c.args.step c.in-Paused.is
