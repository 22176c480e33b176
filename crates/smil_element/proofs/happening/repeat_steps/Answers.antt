use Rattle.std.proofs.Common.{◌++◌, ◌∷◌, [], ap, ◌∙◌, w64, to_z, of_z}
use Rattle.std.proofs.lemmas.Int.{to_z-of_z}
use Rattle.smil_model.specs.declared.diary.Step.TheVariants.{Repeated}
use Rattle.smil_model.specs.happening.Groups.{repeat_steps}
use Rattle.smil_element.specs.Parts.{cuts_below}
use Rattle.smil_element.proofs.LastAppended.{told}
use Rattle.smil_element.proofs.EndFollowers.{cuts_are}
use Rattle.smil_element.proofs.happening.repeat_steps.Goals as goal

pub returns : goal.returns
returns c =
    let now = c.args.parts.now in
    let who = c.args.who in
    let start = c.args.start in
    told c.stop.result now c.args.entries.now c.stop.new.entries (cuts_below now who ++ Repeated who (to_z w64 (of_z w64 start)) ∷ []) (λ h m. repeat_steps h who start) c.stop.ensures
    (λ h parts.
    ap (λ v. cuts_below now who ++ Repeated who v ∷ []) (to_z-of_z w64 start c.ranges.start)
    ∙ ap (λ cs. cs ++ Repeated who start ∷ []) (cuts_are now h who parts))
