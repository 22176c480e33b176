use Rattle.std.proofs.Common.{length, ap, sym, ◌∙◌, arith}
use Rattle.smil_diary.specs.ElementPlaces.{element_of}
use Rattle.smil_diary.proofs.ElementIndex.{no-entries}
use Rattle.smil_diary.proofs.book.Book.new.Goals as goal

pub invariant_of-result : goal.invariant_of-result
invariant_of-result c =
    let none = ap length c.new.ensures.items in (
      omega (arith, none),
      (λ serial. c.new-2.ensures serial ∙ sym (ap (λ xs. element_of xs serial) c.new.ensures.items ∙ no-entries serial)),
    )
