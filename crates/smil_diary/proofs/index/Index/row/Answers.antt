use Rattle.std.proofs.Common.{◌≡◌, ◌∙◌, ◌-◌, ap, sym, refl, cond, take, Some, None, length, arith}
use Rattle.std.specs.Prelude.{◌==◌, ◌∷◌, [], vec_len}
use Rattle.std.specs.FinMap.{get}
use Rattle.std.proofs.Math.Seq.{take-append_seam}
use Rattle.std.proofs.lemmas.Bool.{eq-eqb}
use Rattle.smil_diary.specs.declared.element.TheConstants.{NOTHING}
use Rattle.smil_diary.specs.ElementPlaces.{kept, row_of}
use Rattle.smil_diary.proofs.IndexRows.{kept_pushed, row_pushed}
use Rattle.smil_diary.proofs.index.Index.row.Goals as goal

pub invariant_of-self-in-Ok : goal.invariant_of-self-in-Ok
invariant_of-self-in-Ok c =
    let items = c.self.inside.elements.items in
    let who = c.args.who in
    let none : row_of items who ≡ None = sym (c.self.invariant who) ∙ sym c.get.ensures ∙ c.in_default.is in
    let number : c.len-row.result ≡ length items = omega (arith, c.len-row.ensures, c.self.inside.elements.ok.0) in
    let new = c.in_ok-push.ensures.items in
    λ s.
    c.in-Ok.ensures.ok s
    ∙ (λ i. cond (who == s) (Some (number i)) (c.self.invariant s i))
    ∙ row_pushed items who s none
    ∙ ap (λ es. row_of es s) (sym new)

pub invariant_of-self-in-Err : goal.invariant_of-self-in-Err
invariant_of-self-in-Err c =
    let items = c.self.inside.elements.items in
    let count : vec_len c.push.new.self - 1 ≡ length items = omega (arith, c.in_ok-push.ensures.len, c.self.inside.elements.ok.0) in
    let back : c.pop.new.self.items ≡ items =
    c.pop.ensures.rest
    ∙ ap (λ n. take n c.push.new.self.items) count
    ∙ ap (take (length items)) c.in_ok-push.ensures.items
    ∙ take-append_seam items ((c.args.who, NOTHING) ∷ []) in
    λ s. ap (λ t. get t s) c.in-Err.ensures.err ∙ c.self.invariant s ∙ ap (λ es. row_of es s) (sym back)

pub returns-in-Ok-clause-row : goal.returns-in-Ok-clause-row
returns-in-Ok-clause-row c =
    let items = c.self.inside.elements.items in
    let who = c.args.who in
    let none : row_of items who ≡ None = sym (c.self.invariant who) ∙ sym c.get.ensures ∙ c.in_default.is in
    let number : c.len-row.result ≡ length items = omega (arith, c.len-row.ensures, c.self.inside.elements.ok.0) in
    let new = c.in_ok-push.ensures.items in
    ap (λ es. row_of es who) new
    ∙ sym (row_pushed items who who none)
    ∙ ap (λ t. cond t (Some (length items)) (row_of items who)) (eq-eqb who who refl)
    ∙ ap Some (sym number)

pub returns-in-Ok-clause-same : goal.returns-in-Ok-clause-same
returns-in-Ok-clause-same c = λ s.
    let items = c.self.inside.elements.items in
    let new = c.in_ok-push.ensures.items in
    ap (λ es. kept es s) new ∙ kept_pushed items c.args.who s ∙ ap (λ es. kept es s) c.self.view_is
