use Rattle.std.proofs.Common.{◌≡◌, refl, []}
use Rattle.std.proofs.lemmas.Result.{IfOk-at_ok}
use Rattle.smil_past.specs.Played.{all_played}
use Rattle.smil_past.specs.Queues.{kept_queues}
use Rattle.smil_instances.specs.Intake.{history_of}
use Rattle.smil_past.proofs.readings.Readings.over.Goals as goal

pub returns : goal.returns
returns c = λ log.
    let h = history_of c.args.tree.now log [] in
    record {
      clocks_are = c.requires.clocks log;
      plays_are = IfOk-at_ok (λ plays. plays ≡ all_played h) c.in_ok-new.was (c.new.ensures h refl);
      queues_are = IfOk-at_ok (λ queues. queues ≡ kept_queues h) c.in_ok-new-2.was (c.new-2.ensures log);
      instances_are = c.requires.instances log;
    }
