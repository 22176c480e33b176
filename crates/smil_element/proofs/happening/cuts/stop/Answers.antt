use Rattle.std.proofs.Common.{◌≡◌, ◌++◌, ◌∷◌, [], ap, subst, ◌∙◌, List}
use Rattle.std.specs.Prelude.{OnOk}
use Rattle.smil_model.specs.declared.diary.Entry.{Entry}
use Rattle.smil_model.specs.happening.Groups.{at_moment}
use Rattle.smil_element.specs.Parts.{cuts_below}
use Rattle.smil_element.proofs.CutsJoined.{joined}
use Rattle.smil_element.proofs.happening.cuts.stop.Goals as goal

pub returns : goal.returns
returns c =
    let m = c.args.parts.now.moment in
    subst (λ (xs : List Entry). OnOk c.put.result (c.put.new.entries.items ≡ xs))
    (ap (λ es. es ++ at_moment m (c.args.step ∷ [])) c.in_ok-cut_below.ensures
    ∙ joined m c.args.entries.now.items (cuts_below c.args.parts.now c.args.who) (c.args.step ∷ []))
    c.put.ensures
