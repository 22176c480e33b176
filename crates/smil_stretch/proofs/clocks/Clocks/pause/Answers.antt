use Rattle.std.proofs.Common.{sym}
use mir.Syntax.{w64}
use Rattle.std.proofs.lemmas.Int.{to_z-of_z}
use Rattle.smil_model.specs.declared.diary.Step.TheVariants.{Paused}
use Rattle.smil_stretch.proofs.LawfulDiaries.{lawful_last, pause_turns}
use Rattle.smil_stretch.proofs.clocks.Clocks.pause.Goals as goal

pub turn-requires : goal.turn-requires
turn-requires c = record {
  entry = record { moment = c.args.moment; step = Paused c.args.who };
  follows = c.requires;
  turns = pause_turns c.requires.past c.args.moment c.args.who (lawful_last c.requires.past (record { moment = c.args.moment; step = Paused c.args.who }) c.requires.lawful);
  at = sym (to_z-of_z w64 c.args.moment c.ranges.moment);
}

pub returns : goal.returns
returns c = λ h are lawful.
    c.turn.ensures h (record { moment = c.args.moment; step = Paused c.args.who }) are lawful
    (pause_turns h c.args.moment c.args.who (lawful_last h (record { moment = c.args.moment; step = Paused c.args.who }) lawful))
    (sym (to_z-of_z w64 c.args.moment c.ranges.moment))
