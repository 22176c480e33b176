use Rattle.std.proofs.Common.{◌≡◌, ◌<◌, ◌≤◌, ◌++◌, List, true, length, ap, sym, subst, ◌∙◌, arith, length-append, ◌∷◌, []}
use Rattle.std.specs.Prelude.{Result, Ok, Err, OnOk, IfSome, is_ok}
use Rattle.smil_model.specs.declared.limits.TheConstants.{DIARY_ENTRIES}
use Rattle.smil_model.specs.declared.diary.Entry.{Entry}
use Rattle.smil_diary.specs.declared.element.ElementPlaces.{ElementPlaces}
use Rattle.smil_diary.specs.ElementPlaces.{element_of, noted_at}
use Rattle.smil_diary.proofs.ElementIndex.{few-repeats, pushed-on, pushed-off}
use Rattle.smil_diary.proofs.book.Book.append.Goals as goal

room-for : {all : List Entry} (before : List Entry) (x : Entry) → all ≡ before ++ x ∷ [] → length before < DIARY_ENTRIES → length all ≤ DIARY_ENTRIES
room-for before x is room = omega (arith, length-append before (x ∷ []), ap length is)

pub invariant_of-self-in_default : goal.invariant_of-self-in_default
invariant_of-self-in_default c = (
  room-for c.self.inside.entries.items c.args.entry c.in_ok-push.ensures.items (omega (arith, ap length c.self.view_is)),
  (λ serial.
      c.self.invariant.1 serial
      ∙ sym
      (ap (λ xs. element_of xs serial) c.in_ok-push.ensures.items
      ∙ pushed-off c.self.inside.entries.items c.args.entry serial c.in_default.ensures)),
)

pub note-noted-requires-clause-few : goal.note-noted-requires-clause-few
note-noted-requires-clause-few c =
    let place = c.len-place.ensures.value ∙ sym (ap length c.self.view_is) in
    subst (λ (e : ElementPlaces). IfSome e.repeats (λ k. k ≤ c.len-place.result)) (sym (c.self.invariant.1 c.in-Some.who))
    (subst (λ n. IfSome (element_of c.self.inside.entries.items c.in-Some.who).repeats (λ k. k ≤ n)) (sym place) (few-repeats c.self.inside.entries.items c.in-Some.who))

on-ok : {T E : Type 0} (r : Result T E) (P : Type 0) → OnOk r P → is_ok r ≡ true → P
on-ok (Ok x) P holds is = holds
on-ok (Err e) P holds is = cc

pub invariant_of-self-else-is_err : goal.invariant_of-self-else-is_err
invariant_of-self-else-is_err c = (
  room-for c.self.inside.entries.items c.args.entry c.in_ok-push.ensures.items (omega (arith, ap length c.self.view_is)),
  (λ serial.
      on-ok c.note-noted.result _ c.note-noted.ensures.ok c.if-is_err.ensures.negation serial
      ∙ ap (noted_at c.in-Some.who c.in-Some.kind c.len-place.result serial) (c.self.invariant.1 serial)
      ∙ ap (λ p. noted_at c.in-Some.who c.in-Some.kind p serial (element_of c.self.inside.entries.items serial))
      (c.len-place.ensures.value ∙ sym (ap length c.self.view_is))
      ∙ sym
      (ap (λ xs. element_of xs serial) c.in_ok-push.ensures.items
      ∙ pushed-on c.self.inside.entries.items c.args.entry serial c.in-Some.who c.in-Some.kind c.in-Some.ensures)),
)
