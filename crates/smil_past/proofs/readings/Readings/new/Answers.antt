use Rattle.std.proofs.Common.{refl, sym, []}
use Rattle.std.proofs.lemmas.Result.{IfOk-at_ok}
use Rattle.smil_stretch.specs.Clocks.{AreClocksOf}
use Rattle.smil_instances.specs.Intake.{history_of}
use Rattle.smil_past.proofs.readings.Readings.new.Goals as goal

pub of-requires : goal.of-requires
of-requires c = record {
  past = history_of c.args.tree.now [] [];
  history = record { same_nodes = refl; same_diary = sym c.new-book.ensures; lawful = record { moments = refl; steps = tt } };
}

pub over-requires-clause-clocks : goal.over-requires-clause-clocks
over-requires-clause-clocks c = λ log.
    let h = history_of c.args.tree.now log [] in
    IfOk-at_ok (λ clocks. AreClocksOf clocks h) c.in_ok-clocks.was
    (c.of.ensures h (record { same_nodes = refl; same_diary = sym c.new-book.ensures; lawful = record { moments = refl; steps = tt } }))
