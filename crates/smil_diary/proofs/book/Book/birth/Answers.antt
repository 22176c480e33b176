use Rattle.std.proofs.Common.{◌≡◌, suc, ◌+◌, sym, ◌∙◌, Some, None, arith}
use Rattle.smil_diary.proofs.HistoryReadings.{birth-at}
use Rattle.smil_diary.proofs.book.Book.birth.Goals as goal

pub returns-in-Some-last_birth : goal.returns-in-Some-last_birth
returns-in-Some-last_birth c = λ node is.
    let next : c.in-Some-last_birth.place + 1 ≡ suc c.in-Some-last_birth.place = omega arith in
    next
    ∙ sym (birth-at node c.in-Some.parent c.args.self.now (Some c.in-Some-last_birth.place) c.in-Some-last_birth.ensures.value (is ∙ c.in-Some.is))

pub returns-in-None : goal.returns-in-None
returns-in-None c = λ node is.
    c.len-all.ensures.value ∙ sym (birth-at node c.in-Some.parent c.args.self.now None c.in-None.ensures.value (is ∙ c.in-Some.is))
