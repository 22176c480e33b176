use Rattle.std.proofs.Common.{◌≡◌, ap, length, sym, take, ◌∙◌, arith}
use Rattle.std.proofs.lemmas.List.{length-take}
use Rattle.std.specs.Prelude.{is_some}
use Rattle.smil_diary.specs.ElementPlaces.{element_of, row_of}
use Rattle.smil_diary.proofs.IndexNoted.{given, given_back}
use Rattle.smil_diary.proofs.book.Book.cut_back.Goals as goal

pub invariant_of-self : goal.invariant_of-self
invariant_of-self c =
    let items = c.self.inside.entries.items in
    let left : c.truncate.new.self.items ≡ take c.args.len items = c.truncate.ensures.items in (
      omega (arith, ap length left, length-take c.args.len items, c.self.invariant.0),
      (λ serial.
          c.begin_anew.ensures serial
          ∙ ap (λ xs. given (is_some (row_of c.self.inside.index serial)) xs serial) (c.deref.ensures.value ∙ left)
          ∙ given_back c.self.inside.index items c.args.len serial (c.self.invariant.1 serial)
          ∙ ap (λ xs. element_of xs serial) (sym left)),
    )
