use Rattle.std.proofs.Common.{◌≡◌, sym, ap, ◌∙◌, ℕ, List}
use Rattle.std.specs.Prelude.{max}
use Rattle.smil_model.specs.declared.diary.Step.TheVariants.{Repeated}
use Rattle.smil_model.specs.document.Document.{time_parent, serial_of}
use Rattle.smil_model.specs.declared.document.Node.{Node}
use Rattle.smil_model.specs.diary.Diary.{with_entry}
use Rattle.smil_instances.proofs.IdTargets.{known_node}
use Rattle.smil_instances.proofs.RepeatIteration.{repeated}
use Rattle.smil_instances.proofs.before.repeated_iteration.Goals as goal

pub time_parent-requires : goal.time_parent-requires
time_parent-requires c = known_node c.args.tree.now.nodes c.args.who c.requires.element

pub returns : goal.returns
returns c = λ h moment start same is.
    let parent : serial_of (time_parent h.nodes c.args.who) ≡ c.time_parent.result = ap (λ (ns : List Node). serial_of (time_parent ns c.args.who)) same ∙ sym c.time_parent.ensures in
    let after = c.iteration.ensures (with_entry h (record { moment = moment; step = Repeated c.args.who start })) (record { diary_is = sym is; parent_is = parent }) in
    c.max.ensures ∙ ap (λ (k : ℕ). max k 1) after ∙ repeated c.args.tree.now h c.args.who moment start c.valid.ensures.numbered same
