use Rattle.std.proofs.Common.{◌≡◌, sym, ◌∙◌, ap, subst, List, true, false, rules}
use Rattle.std.specs.FinMap.{get}
use Rattle.smil_model.specs.declared.view.View.{View}
use Rattle.smil_shown.specs.ViewTable.{differs, has_view, owners, put_in, AreAt}
use Rattle.smil_shown.proofs.ViewPlaces.{present, differs_by, unchanged, placed, at_put, owners_put}
use Rattle.smil_shown.proofs.view_table.ViewTable.put.Goals as goal

pub unwrap-place-requires : goal.unwrap-place-requires
unwrap-place-requires c =
    let s = c.args.view.now.serial in
    let has = subst (λ shown. has_view shown s ≡ true) (sym c.self.view_is) c.requires in
    let e = c.get.ensures ∙ ap (λ places. get places s) c.deref.ensures ∙ (c.self.invariant.place s ∙ present s c.self.inside.rows.items has) in
    search rules

pub returns-then-is_same-clause-differs : goal.returns-then-is_same-clause-differs
returns-then-is_same-clause-differs c =
    let e = sym c.unwrap-place.ensures ∙ (c.get.ensures ∙ ap (λ places. get places c.args.view.now.serial) c.deref.ensures ∙ c.self.invariant.place c.args.view.now.serial) in
    subst (λ shown. false ≡ differs shown c.args.view.now) c.self.view_is
    (differs_by c.self.inside.rows.items c.unwrap-place.result c.index.result.now c.args.view.now true e c.index.ensures c.if-is_same.ensures)

pub returns-then-is_same-clause-put : goal.returns-then-is_same-clause-put
returns-then-is_same-clause-put c =
    let e = sym c.unwrap-place.ensures ∙ (c.get.ensures ∙ ap (λ places. get places c.args.view.now.serial) c.deref.ensures ∙ c.self.invariant.place c.args.view.now.serial) in
    subst (λ shown. shown ≡ put_in shown c.args.view.now) c.self.view_is
    (sym (unchanged c.self.inside.rows.items c.unwrap-place.result c.index.result.now c.args.view.now c.self.invariant.one e c.index.ensures (sym c.if-is_same.ensures)))

pub invariant_of-self : goal.invariant_of-self
invariant_of-self c =
    let e = sym c.unwrap-place.ensures ∙ (c.get.ensures ∙ ap (λ places. get places c.args.view.now.serial) c.deref.ensures ∙ c.self.invariant.place c.args.view.now.serial) in
    subst (λ (l : List View). AreAt (get c.self.inside.places.value) l)
    (sym (placed c.self.inside.rows.items c.unwrap-place.result c.index.result.now c.args.view.now c.self.invariant.one e))
    (at_put (get c.self.inside.places.value) c.self.inside.rows.items c.args.view.now c.self.invariant)

pub returns-clause-differs : goal.returns-clause-differs
returns-clause-differs c =
    let e = sym c.unwrap-place.ensures ∙ (c.get.ensures ∙ ap (λ places. get places c.args.view.now.serial) c.deref.ensures ∙ c.self.invariant.place c.args.view.now.serial) in
    subst (λ shown. true ≡ differs shown c.args.view.now) c.self.view_is
    (differs_by c.self.inside.rows.items c.unwrap-place.result c.index.result.now c.args.view.now false e c.index.ensures c.if-is_same.ensures)

pub returns-clause-put : goal.returns-clause-put
returns-clause-put c =
    let e = sym c.unwrap-place.ensures ∙ (c.get.ensures ∙ ap (λ places. get places c.args.view.now.serial) c.deref.ensures ∙ c.self.invariant.place c.args.view.now.serial) in
    placed c.self.inside.rows.items c.unwrap-place.result c.index.result.now c.args.view.now c.self.invariant.one e
    ∙ ap (λ (l : List View). put_in l c.args.view.now) c.self.view_is

pub returns-clause-owners : goal.returns-clause-owners
returns-clause-owners c =
    let e = sym c.unwrap-place.ensures ∙ (c.get.ensures ∙ ap (λ places. get places c.args.view.now.serial) c.deref.ensures ∙ c.self.invariant.place c.args.view.now.serial) in
    ap (λ (l : List View). owners l) (placed c.self.inside.rows.items c.unwrap-place.result c.index.result.now c.args.view.now c.self.invariant.one e)
    ∙ owners_put c.self.inside.rows.items c.args.view.now
    ∙ ap (λ (l : List View). owners l) c.self.view_is
