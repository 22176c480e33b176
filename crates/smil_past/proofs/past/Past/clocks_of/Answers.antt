use Rattle.std.proofs.Common.{◌≡◌, refl, sym, subst, List, [], map}
use Rattle.smil_model.specs.document.Document.{Document}
use Rattle.smil_model.specs.document.Valid.{IsNumberedTree}
use Rattle.smil_stretch.specs.declared.clock.NodeClock.{NodeClock}
use Rattle.smil_stretch.specs.Clocks.{AreClocksOf}
use Rattle.smil_stretch.specs.NodeClocks.{idle_clock}
use Rattle.smil_instances.specs.Intake.{history_of as document_history}
use Rattle.smil_past.specs.Past.{history_of}
use Rattle.smil_past.proofs.ClocksAlike.{clocks_alike}
use Rattle.smil_past.proofs.past.Past.clocks_of.Goals as goal

pub of-requires : goal.of-requires
of-requires c = record {
  past = document_history c.args.after.now [] [];
  history = record { same_nodes = refl; same_diary = sym c.new.ensures; lawful = record { moments = refl; steps = tt } };
}

pub returns-in_ok-clocks : goal.returns-in_ok-clocks
returns-in_ok-clocks c = λ log.
    let before = c.args.self.now.document in
    let after = c.args.after.now in
    let h = history_of c.args.self.now in
    let copied = subst (λ (clocks : List NodeClock). AreClocksOf clocks h) (sym c.in_ok-clocks.ensures) c.clocks.ensures in
    let alike = subst (λ (d : Document). map (idle_clock d.nodes) d.nodes ≡ map (idle_clock after.nodes) after.nodes) c.tree-2.ensures (c.stand_alike.ensures c.if-stand_alike.true) in
    clocks_alike before after log c.reset.new.self (subst (λ (d : Document). IsNumberedTree d) c.tree.ensures c.valid.ensures.numbered) c.valid-2.ensures.numbered alike
    (c.reset.ensures h (document_history before log []) copied refl)

pub returns-else-stand_alike : goal.returns-else-stand_alike
returns-else-stand_alike c = λ log.
    c.of.ensures (document_history c.args.after.now log [])
    (record { same_nodes = refl; same_diary = sym c.new.ensures; lawful = record { moments = refl; steps = tt } })
