use Rattle.std.proofs.Common.{◌++◌, ◌∷◌, [], ap, ◌∙◌, w64}
use Rattle.std.proofs.lemmas.Int.{to_z-of_z}
use Rattle.std.proofs.lemmas.Result.{on_ok_weaker}
use Rattle.smil_model.specs.declared.diary.Step.TheVariants.{Ended}
use Rattle.smil_model.specs.document.Document.{time_parent}
use Rattle.smil_model.specs.happening.Groups.{at_moment, cuts, followers}
use Rattle.smil_element.specs.Parts.{AppendsBy, cuts_below}
use Rattle.smil_element.proofs.CutsJoined.{stopped}
use Rattle.smil_element.proofs.EndFollowers.{cuts_are}
use Rattle.smil_element.proofs.happening.end_steps.Goals as goal

pub returns : goal.returns
returns c =
    let now = c.args.parts.now in
    let old = c.args.entries.now.items in
    let who = c.args.who in
    let finish = c.args.«end» in
    let whole = to_z-of_z w64 finish c.ranges.«end» in
    on_ok_weaker c.followers.result
    (λ (made : AppendsBy now c.stop.new.entries c.followers.new.entries (λ h m. followers h m who (time_parent h.nodes who))). λ h parts.
    made h parts
    ∙ ap (λ es. es ++ at_moment now.moment (followers h now.moment who (time_parent h.nodes who)))
    (c.in_ok-stop.ensures
    ∙ ap (λ v. old ++ at_moment now.moment (cuts_below now who ++ Ended who v ∷ [])) whole
    ∙ ap (λ cs. old ++ at_moment now.moment (cs ++ Ended who finish ∷ [])) (cuts_are now h who parts))
    ∙ stopped now.moment old (cuts h who) (Ended who finish) (followers h now.moment who (time_parent h.nodes who)))
    c.followers.ensures
