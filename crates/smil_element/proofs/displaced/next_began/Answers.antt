use Rattle.std.proofs.Common.{◌∙◌, ap, sym, false}
use Rattle.std.specs.Option.{option_map_or}
use Rattle.smil_model.specs.declared.diary.StepKind.TheVariants as kind
use Rattle.smil_model.specs.diary.Diary.{birth_under, last_step}
use Rattle.smil_diary.specs.Places.{is_from}
use Rattle.smil_element.specs.Displaced.{began_from}
use Rattle.smil_element.proofs.displaced.next_began.Goals as goal

pub returns-in-Some : goal.returns-in-Some
returns-in-Some c = λ node is.
    let diary = c.args.past.now.diary in
    let birth_is = c.birth.ensures node is ∙ ap (birth_under node) c.book.ensures in
    let last_is = c.last.ensures.value ∙ ap (λ ds. last_step ds kind.Began c.in-Some.next) c.book-in-Some.ensures in
    c.is_from.ensures ∙ ap (λ b. is_from b c.last.result) birth_is ∙ ap (is_from (birth_under node diary)) last_is
    ∙ ap (λ o. option_map_or (began_from diary (birth_under node diary)) o false) (sym c.in-Some.is ∙ c.next_child.ensures)

pub returns-in-None : goal.returns-in-None
returns-in-None c = λ node is.
    ap (λ o. option_map_or (began_from c.args.past.now.diary (birth_under node c.args.past.now.diary)) o false)
    (sym c.in-None.is ∙ c.next_child.ensures)
