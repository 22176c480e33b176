use Rattle.std.proofs.Common.{ap}
use Rattle.smil_model.specs.diary.Diary.{gives_birth}
use Rattle.smil_instances.proofs.ChildlessElements.{bears_none}
use Rattle.smil_instances.proofs.intake.bears_none.Goals as goal

pub returns-in-Began : goal.returns-in-Began
returns-in-Began c = λ none. bears_none c.args.tree.now.nodes c.in-Began.who c.args.step (λ k. ap (gives_birth k) c.in-Began.is) (c.is_childless.ensures none)

pub returns-in-Repeated : goal.returns-in-Repeated
returns-in-Repeated c = λ none. bears_none c.args.tree.now.nodes c.in-Repeated.who c.args.step (λ k. ap (gives_birth k) c.in-Repeated.is) (c.is_childless-in-Repeated.ensures none)
