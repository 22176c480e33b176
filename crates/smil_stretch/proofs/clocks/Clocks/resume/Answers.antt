use Rattle.std.proofs.Common.{sym}
use mir.Syntax.{w64}
use Rattle.std.proofs.lemmas.Int.{to_z-of_z}
use Rattle.smil_stretch.proofs.LawfulDiaries.{lawful_last, end_turns}
use Rattle.smil_stretch.proofs.clocks.Clocks.resume.Goals as goal

pub turn-requires : goal.turn-requires
turn-requires c = record {
  entry = record { moment = c.args.moment; step = c.requires.step };
  follows = c.requires.follows;
  turns =
      end_turns c.requires.follows.past c.args.moment c.args.who c.requires.step c.requires.ends
      (lawful_last c.requires.follows.past (record { moment = c.args.moment; step = c.requires.step }) c.requires.follows.lawful);
  at = sym (to_z-of_z w64 c.args.moment c.ranges.moment);
}

pub returns : goal.returns
returns c = λ h step are ends lawful.
    c.turn.ensures h (record { moment = c.args.moment; step = step }) are lawful
    (end_turns h c.args.moment c.args.who step ends (lawful_last h (record { moment = c.args.moment; step = step }) lawful))
    (sym (to_z-of_z w64 c.args.moment c.ranges.moment))
