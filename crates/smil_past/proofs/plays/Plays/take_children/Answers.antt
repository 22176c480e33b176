use Rattle.std.proofs.Common.{refl, sym, subst, true, false}
use Rattle.smil_model.specs.declared.diary.Step.{Step}
use Rattle.smil_model.specs.declared.diary.Step.TheVariants.{Began, Repeated, Ended, Cut}
use Rattle.smil_past.specs.Rows.{AreChildrenTaken}
use Rattle.smil_past.proofs.TimeChildRows.{children_taken}
use Rattle.smil_past.proofs.plays.Plays.take_children.Goals as goal

pub returns-in-Began : goal.returns-in-Began
returns-in-Began c =
    subst (λ (st : Step). AreChildrenTaken c.args.tree.now.nodes st c.args.self.now c.turn_children.new.self) (sym c.in-Began.is)
    (children_taken c.args.tree.now.nodes (Began c.in-Began.who c.in-Began.begin) c.in-Began.who true _ _ (λ p. refl) (λ p. refl) c.turn_children.ensures)

pub returns-in-Repeated : goal.returns-in-Repeated
returns-in-Repeated c =
    subst (λ (st : Step). AreChildrenTaken c.args.tree.now.nodes st c.args.self.now c.turn_children-in-Repeated.new.self) (sym c.in-Repeated.is)
    (children_taken c.args.tree.now.nodes (Repeated c.in-Repeated.who c.in-Repeated.start) c.in-Repeated.who true _ _ (λ p. refl) (λ p. refl) c.turn_children-in-Repeated.ensures)

pub returns-in-Ended : goal.returns-in-Ended
returns-in-Ended c =
    subst (λ (st : Step). AreChildrenTaken c.args.tree.now.nodes st c.args.self.now c.turn_children-in-Ended.new.self) (sym c.in-Ended.is)
    (children_taken c.args.tree.now.nodes (Ended c.in-Ended.who c.in-Ended.end) c.in-Ended.who false _ _ (λ p. refl) (λ p. refl) c.turn_children-in-Ended.ensures)

pub returns-in-Cut : goal.returns-in-Cut
returns-in-Cut c =
    subst (λ (st : Step). AreChildrenTaken c.args.tree.now.nodes st c.args.self.now c.turn_children-in-Cut.new.self) (sym c.in-Cut.is)
    (children_taken c.args.tree.now.nodes (Cut c.in-Cut.who) c.in-Cut.who false _ _ (λ p. refl) (λ p. refl) c.turn_children-in-Cut.ensures)
