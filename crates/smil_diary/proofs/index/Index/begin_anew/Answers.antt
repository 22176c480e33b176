use Rattle.std.proofs.Common.{ap, sym, ◌∙◌, arith}
use Rattle.std.proofs.lemmas.List.{take_at}
use Rattle.std.specs.Prelude.{is_some}
use Rattle.smil_diary.specs.ElementPlaces.{kept, row_of}
use Rattle.smil_diary.proofs.IndexNoted.{given}
use Rattle.smil_diary.proofs.index.Index.begin_anew.Goals as goal

pub note_anew-requires-clause-rows : goal.note_anew-requires-clause-rows
note_anew-requires-clause-rows c = λ who. c.self.invariant who ∙ ap (λ es. row_of es who) (sym c.deref_mut.ensures.value)

pub invariant_of-self : goal.invariant_of-self
invariant_of-self c = λ who.
    let is = take_at c.note_anew.new.elements _ c.self.inside.elements.len (omega (arith, c.note_anew.auto.elements, c.deref_mut.ensures.len)) in
    c.self.invariant who
    ∙ ap (λ es. row_of es who) (sym c.deref_mut.ensures.value)
    ∙ sym (c.note_anew.ensures.same who)
    ∙ ap (λ es. row_of es who) (sym is)

pub returns : goal.returns
returns c = λ serial.
    let is = take_at c.note_anew.new.elements _ c.self.inside.elements.len (omega (arith, c.note_anew.auto.elements, c.deref_mut.ensures.len)) in
    ap (λ es. kept es serial) is
    ∙ c.note_anew.ensures.kept serial
    ∙ ap (λ es. given (is_some (row_of es serial)) c.args.entries.now serial) (c.deref_mut.ensures.value ∙ c.self.view_is)
