use Rattle.std.proofs.Common.{◌≡◌, ◌++◌, ◌∷◌, [], sym, subst, ◌∙◌, cond, Bool}
use Rattle.std.specs.Prelude.{OnOk}
use Rattle.std.proofs.lemmas.List.{append-nil}
use Rattle.smil_model.specs.declared.diary.Step.TheVariants.{Cut}
use Rattle.smil_model.specs.happening.Groups.{at_moment}
use Rattle.smil_element.specs.Parts.{Appends}
use Rattle.smil_element.proofs.happening.cuts.cut.Goals as goal

pub returns-then-active : goal.returns-then-active
returns-then-active c =
    subst (λ (b : Bool). OnOk c.put.result (Appends c.args.parts.now c.args.entries.now c.put.new.entries (cond b (Cut c.args.who ∷ []) [])))
    (sym c.if-active.true ∙ c.active.ensures) c.put.ensures

pub returns-else-active : goal.returns-else-active
returns-else-active c =
    let old = c.args.entries.now.items in
    subst (λ (b : Bool). old ≡ old ++ at_moment c.args.parts.now.moment (cond b (Cut c.args.who ∷ []) []))
    (sym c.if-active.false ∙ c.active.ensures) (sym (append-nil old))
