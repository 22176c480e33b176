use Rattle.std.proofs.Common.{ap, sym, subst, ◌∙◌, ◌≤◌}
use Rattle.std.specs.Prelude.{IfSome}
use Rattle.smil_diary.specs.declared.element.ElementPlaces.{ElementPlaces}
use Rattle.smil_diary.specs.ElementPlaces.{kept, noted, noted_at, row_of}
use Rattle.smil_diary.proofs.IndexRows.{kept_at, kept_changed}
use Rattle.smil_diary.proofs.index.Index.note.Goals as goal

pub note-requires-clause-few : goal.note-requires-clause-few
note-requires-clause-few c =
    let items = c.self.inside.elements.items in
    let who = c.args.who in
    let e : _ × ElementPlaces = c.index_mut.result.now in
    subst (λ (p : ElementPlaces). IfSome p.repeats (λ repeats. repeats ≤ c.args.place))
    (sym (c.in_ok-row.ensures.same who)
    ∙ ap (λ es. kept es who) (sym c.self.view_is)
    ∙ kept_at items who c.in_ok-row.row e (ap (λ es. row_of es who) c.self.view_is ∙ c.in_ok-row.ensures.row)
    ∙ ap (λ (r : _ × ElementPlaces). r.1) (sym c.index_mut.ensures.value))
    c.requires.few

pub returns-clause-ok : goal.returns-clause-ok
returns-clause-ok c = λ s.
    let items = c.self.inside.elements.items in
    let e : _ × ElementPlaces = c.index_mut.result.now in
    kept_changed items c.args.who c.in_ok-row.row e e c.note.new.self (noted c.args.kind c.args.place)
    (ap (λ es. row_of es c.args.who) c.self.view_is ∙ c.in_ok-row.ensures.row) c.index_mut.ensures.value c.note.ensures s
    ∙ ap (λ es. noted_at c.args.who c.args.kind c.args.place s (kept es s)) c.self.view_is
    ∙ ap (noted_at c.args.who c.args.kind c.args.place s) (c.in_ok-row.ensures.same s)
