use Rattle.std.proofs.Common.{ap, sym, ◌∙◌, Some}
use Rattle.std.specs.Prelude.{unwrap_or}
use Rattle.smil_model.specs.declared.diary.StepKind.TheVariants as kind
use Rattle.smil_diary.specs.declared.element.ElementPlaces.{ElementPlaces}
use Rattle.smil_diary.proofs.ElementIndex.{last-kept}
use Rattle.smil_diary.proofs.HistoryReadings.{repeats-of, iteration-of, iteration-within, iteration-before, iteration-none}
use Rattle.smil_diary.proofs.book.Book.iteration.Goals as goal

pub returns-in-Some : goal.returns-in-Some
returns-in-Some c = λ h of.
    let last = c.in-Some.ensures ∙ last-kept c.args.self.now kind.Began c.args.who c.element-element.ensures.places in
    c.unwrap_or.ensures
    ∙ ap (λ (e : ElementPlaces). unwrap_or e.repeats 0) c.element-element.ensures.places
    ∙ repeats-of c.args.who c.in-Some.began c.args.self.now last
    ∙ iteration-within c.args.who c.birth.result c.in-Some.began c.args.self.now c.if-birth-began.true
    ∙ iteration-of h c.args.who c.birth.result c.args.parent c.args.self.now (Some c.in-Some.began) of c.birth.ensures last

pub returns-in_default : goal.returns-in_default
returns-in_default c = λ h of.
    iteration-before c.args.who c.birth.result c.in-Some.began c.args.self.now c.if-birth-began.false
    ∙ iteration-of h c.args.who c.birth.result c.args.parent c.args.self.now (Some c.in-Some.began) of c.birth.ensures
    (c.in-Some.ensures ∙ last-kept c.args.self.now kind.Began c.args.who c.element-element.ensures.places)

pub returns-in_default-2 : goal.returns-in_default-2
returns-in_default-2 c = λ h of.
    iteration-none h c.args.who c.args.parent c.args.self.now of
    (sym c.in_default.is
    ∙ c.last.ensures ∙ last-kept c.args.self.now kind.Began c.args.who c.element-element.ensures.places)
