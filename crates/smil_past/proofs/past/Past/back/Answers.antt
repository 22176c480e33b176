use Rattle.std.proofs.Common.{◌≡◌, ◌≤◌, sym, ◌∙◌, subst, length, take, Some, arith}
use Rattle.std.proofs.lemmas.List.{take_all}
use Rattle.smil_model.specs.document.Document.{Document}
use Rattle.smil_past.specs.Readings.{Holds, MayGoBack}
use Rattle.smil_past.specs.Chronicle.{BacksUp, Tells}
use Rattle.smil_past.specs.Kept.{AreKept}
use Rattle.smil_past.proofs.KeptFronts.{kept_cut}
use Rattle.smil_past.proofs.Marks.{backs_none, holds_back, may_go_back, went_back}
use Rattle.smil_past.proofs.past.Past.back.Goals as goal

pub cut_back-requires : goal.cut_back-requires
cut_back-requires c = (c.self.invariant.backs_up c.unwrap-log.result (sym c.take.ensures.value ∙ c.unwrap-log.ensures)).log_within

pub back-requires-clause-back : goal.back-requires-clause-back
back-requires-clause-back c =
    let was = c.self.inside in
    let sound = c.self.invariant in
    let mark = c.unwrap-log.result in
    let is : was.mark ≡ Some mark = sym c.take.ensures.value ∙ c.unwrap-log.ensures in
    subst (λ (d : Document). MayGoBack was.chronicle.readings was.notes d c.cut_back.new.self (take mark.1 was.chronicle.book)) (sym (c.tree-tree.ensures ∙ c.deref.ensures))
    (may_go_back was.document.value was.log was.chronicle.book was.chronicle.readings was.notes mark (sound.backs_up mark is) c.cut_back.new.self c.cut_back.ensures sound.tells.readings_are)

pub invariant_of-self : goal.invariant_of-self
invariant_of-self c =
    let was = c.self.inside in
    let sound = c.self.invariant in
    let mark = c.unwrap-log.result in
    let log = c.cut_back.new.self in
    let now = c.back.new.self in
    let is : was.mark ≡ Some mark = sym c.take.ensures.value ∙ c.unwrap-log.ensures in
    let at = sound.backs_up mark is in record {
      tells = subst (λ (d : Document). Tells d log now) (c.tree-tree.ensures ∙ c.deref.ensures) c.back.ensures.tells;
      backs_up = subst (λ m. BacksUp was.document.value log now.book now.readings c.back.new.notes m) (sym c.take.ensures.after) (backs_none was.document.value log now.book now.readings c.back.new.notes);
      kept_are = subst (λ ds. AreKept was.document.value log ds c.drop_later.new.kept.items) (sym c.back.ensures.book)
          (kept_cut was.document.value was.log log mark.0 (take mark.1 was.chronicle.book) c.drop_later.new.kept.items c.cut_back.ensures at.possible.named (c.drop_later.ensures was.document.value was.log was.chronicle.book sound.kept_are));
    }

pub invariant_of-self-else-diary-len : goal.invariant_of-self-else-diary-len
invariant_of-self-else-diary-len c =
    let was = c.self.inside in
    let sound = c.self.invariant in
    let mark = c.unwrap-log.result in
    let book = was.chronicle.book in
    let log = c.cut_back.new.self in
    let is : was.mark ≡ Some mark = sym c.take.ensures.value ∙ c.unwrap-log.ensures in
    let at = sound.backs_up mark is in
    let all : length book ≤ mark.1 = omega (arith, c.if-diary-len.false, c.len.ensures.value) in record {
      tells = subst (λ l. Holds was.document.value l book was.chronicle.readings) (sym c.cut_back.ensures) (holds_back was.document.value was.log book was.chronicle.readings was.notes mark at all sound.tells);
      backs_up = subst (λ m. BacksUp was.document.value log book was.chronicle.readings c.forget.new.self m) (sym c.take.ensures.after) (backs_none was.document.value log book was.chronicle.readings c.forget.new.self);
      kept_are = subst (λ ds. AreKept was.document.value log ds c.drop_later.new.kept.items) (take_all mark.1 book all)
          (kept_cut was.document.value was.log log mark.0 (take mark.1 book) c.drop_later.new.kept.items c.cut_back.ensures at.possible.named (c.drop_later.ensures was.document.value was.log book sound.kept_are));
    }

pub returns-then-diary-len : goal.returns-then-diary-len
returns-then-diary-len c = λ other stands.
    let was = c.self.inside in
    let mark = c.unwrap-log.result in
    let is : was.mark ≡ Some mark = sym c.take.ensures.value ∙ c.unwrap-log.ensures in
    went_back was.document.value was.log c.cut_back.new.self was.chronicle.book c.back.new.self.book was.mark c.take.new.self c.args.self.now mark other c.self.view_is is stands c.cut_back.ensures c.back.ensures.book c.take.ensures.after

pub returns-else-diary-len : goal.returns-else-diary-len
returns-else-diary-len c = λ other stands.
    let was = c.self.inside in
    let mark = c.unwrap-log.result in
    let book = was.chronicle.book in
    let is : was.mark ≡ Some mark = sym c.take.ensures.value ∙ c.unwrap-log.ensures in
    let all : length book ≤ mark.1 = omega (arith, c.if-diary-len.false, c.len.ensures.value) in
    went_back was.document.value was.log c.cut_back.new.self book book was.mark c.take.new.self c.args.self.now mark other c.self.view_is is stands c.cut_back.ensures (sym (take_all mark.1 book all)) c.take.ensures.after
