use Rattle.std.proofs.Common.{◌≡◌, ◌∙◌, ◌<◌, ap, sym, subst, length, suc, add-one, arith, ℕ, List}
use Rattle.std.specs.Prelude.{IfSome, Option}
use Rattle.std.specs.Option.{option_map_or}
use Rattle.smil_model.specs.declared.diary.Entry.{Entry}
use Rattle.smil_model.specs.diary.Diary.{last_step}
use Rattle.smil_model.specs.declared.diary.StepKind.TheVariants as kind
use Rattle.smil_diary.specs.Places.{later_of}
use Rattle.smil_element.proofs.SiblingDisplacement.{finish_last, later_within}
use Rattle.smil_element.proofs.displaced.finished_by.Goals as goal

pub overflow_add-result : goal.overflow_add-result
overflow_add-result c =
    let diary = c.args.past.now.diary in
    let ended : IfSome c.last-ended.result (λ p. p < length diary) = subst (λ (ds : List Entry). IfSome c.last-ended.result (λ p. p < length ds)) c.book-2.ensures c.last-ended.ensures.within in
    let cut : IfSome c.last-cut.result (λ p. p < length diary) = subst (λ (ds : List Entry). IfSome c.last-cut.result (λ p. p < length ds)) c.book-3.ensures c.last-cut.ensures.within in
    let here : c.in-Some.place < length diary = subst (λ (o : Option ℕ). IfSome o (λ p. p < length diary)) (sym c.later_of.ensures ∙ c.in-Some.is) (later_within c.last-ended.result c.last-cut.result (length diary) ended cut) in
    let many : c.len-all.result ≡ length diary = c.len-all.ensures.value ∙ ap (λ (ds : List Entry). length ds) c.book.ensures in
    omega (arith, here, many)

pub returns-in-Some : goal.returns-in-Some
returns-in-Some c =
    let diary = c.args.past.now.diary in
    let ended = c.last-ended.ensures.value ∙ ap (λ ds. last_step ds kind.Ended c.args.who) c.book-2.ensures in
    let cut = c.last-cut.ensures.value ∙ ap (λ ds. last_step ds kind.Cut c.args.who) c.book-3.ensures in
    add-one c.in-Some.place
    ∙ ap (λ o. option_map_or suc o (length diary)) (sym c.in-Some.is ∙ c.later_of.ensures ∙ ap (λ o. later_of o c.last-cut.result) ended ∙ ap (later_of (last_step diary kind.Ended c.args.who)) cut)
    ∙ sym (finish_last diary c.args.who)

pub returns-in-None : goal.returns-in-None
returns-in-None c =
    let diary = c.args.past.now.diary in
    let ended = c.last-ended.ensures.value ∙ ap (λ ds. last_step ds kind.Ended c.args.who) c.book-2.ensures in
    let cut = c.last-cut.ensures.value ∙ ap (λ ds. last_step ds kind.Cut c.args.who) c.book-3.ensures in
    c.len-all.ensures.value ∙ ap (λ (ds : List Entry). length ds) c.book.ensures
    ∙ ap (λ o. option_map_or suc o (length diary)) (sym c.in-None.is ∙ c.later_of.ensures ∙ ap (λ o. later_of o c.last-cut.result) ended ∙ ap (later_of (last_step diary kind.Ended c.args.who)) cut)
    ∙ sym (finish_last diary c.args.who)
