use Rattle.std.proofs.Common.{◌∙◌, ap, sym}
use Rattle.smil_diary.specs.declared.element.ElementPlaces.{ElementPlaces}
use Rattle.smil_diary.specs.ElementPlaces.{kept}
use Rattle.smil_diary.proofs.IndexRows.{kept_at, kept_none}
use Rattle.smil_diary.proofs.index.Index.element.Goals as goal

pub returns-in-Some : goal.returns-in-Some
returns-in-Some c =
    let items = c.self.inside.elements.items in
    ap (λ (e : _ × ElementPlaces). e.1) c.index.ensures
    ∙ sym (kept_at items c.args.who c.in-Some.row c.index.result.now (sym (c.in-Some.ensures ∙ c.self.invariant c.args.who)))
    ∙ ap (λ es. kept es c.args.who) c.self.view_is

pub returns-in-None : goal.returns-in-None
returns-in-None c =
    sym (kept_none c.self.inside.elements.items c.args.who (sym (c.in-None.ensures ∙ c.self.invariant c.args.who)))
    ∙ ap (λ es. kept es c.args.who) c.self.view_is
