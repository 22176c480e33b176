use Rattle.std.proofs.Common.{sym, subst, List}
use Rattle.smil_model.specs.declared.diary.Entry.{Entry}
use Rattle.smil_past.specs.Past.{IsPossible}
use Rattle.smil_past.specs.Readings.{MayGoBack}
use Rattle.smil_past.proofs.chronicle.Chronicle.back.Goals as goal

pub back-requires : goal.back-requires
back-requires c =
    subst (λ (ds : List Entry). MayGoBack c.args.self.now.readings c.args.notes.now c.args.tree.now c.args.log.now ds) (sym c.cut_back.ensures) c.requires.back

pub returns-clause-tells : goal.returns-clause-tells
returns-clause-tells c = record {
  possible = subst (λ (ds : List Entry). IsPossible c.args.tree.now c.args.log.now ds) (sym c.cut_back.ensures) c.requires.back.possible;
  readings_are = c.back.ensures;
}
