use Rattle.std.proofs.Common.{◌≡◌, sym, ◌∙◌, ap, subst, List, None, Some, set, arith}
use Rattle.std.specs.FinMap.{get}
use Rattle.smil_model.specs.reach.Reach.{subject_of}
use Rattle.std.proofs.lemmas.Option.{same_Some}
use Rattle.smil_past.specs.declared.plays.facts.PlayFacts.{PlayFacts}
use Rattle.smil_past.specs.Followed.{may_wait, own_after}
use Rattle.smil_past.specs.Rows.{IsOwnTaken, keys_of, row_of}
use Rattle.smil_past.proofs.OwnRows.{own_put, own_unknown}
use Rattle.smil_past.proofs.PlayRows.{Row, first_below, first_indexed, first_key, keys_indexed, none_indexed, put_set, row_first}
use Rattle.smil_past.proofs.plays.Plays.take_own.Goals as goal

pub returns-in_default-element_place-clause-taken : goal.returns-in_default-element_place-clause-taken
returns-in_default-element_place-clause-taken c = λ h are log.
    own_unknown h c.args.entry c.in-Some.who (ap (λ l. subject_of l c.args.entry.step) log ∙ sym c.subject.ensures ∙ c.in-Some.is) c.args.self.now
    (ap (λ rows. row_of rows c.in-Some.who) (sym c.self.view_is)
    ∙ none_indexed c.in-Some.who c.self.inside.rows.items (get c.self.inside.places.value) c.self.invariant (sym c.in_default-element_place.ensures))

pub returns-in_default-element_place-clause-waits : goal.returns-in_default-element_place-clause-waits
returns-in_default-element_place-clause-waits c = λ who row on has.
    let own = c.in-Some.who in
    let same : own ≡ who = same_Some own who (sym c.in-Some.is ∙ c.subject.ensures ∙ on) in
    let none : row_of c.args.self.now own ≡ None =
    ap (λ rows. row_of rows own) (sym c.self.view_is)
    ∙ none_indexed own c.self.inside.rows.items (get c.self.inside.places.value) c.self.invariant (sym c.in_default-element_place.ensures) in
    let never : None ≡ Some row = sym none ∙ ap (row_of c.args.self.now) same ∙ has in
    cc

pub index_mut-requires : goal.index_mut-requires
index_mut-requires c =
    let rows = c.self.inside.rows in
    let place = c.in-Some-element_place.place in
    let first = first_indexed c.in-Some.who rows.items (get c.self.inside.places.value) c.self.invariant place (sym c.in-Some-element_place.ensures) in
    omega (arith, rows.ok.0, first_below c.in-Some.who rows.items place first)

pub invariant_of-self : goal.invariant_of-self
invariant_of-self c =
    let who = c.in-Some.who in
    let rows = c.self.inside.rows.items in
    let place = c.in-Some-element_place.place in
    let e : Row = c.index_mut.result.now in
    let first = first_indexed who rows (get c.self.inside.places.value) c.self.invariant place (sym c.in-Some-element_place.ensures) in
    let key : e.0 ≡ who = ap (λ (r : Row). r.0) c.index_mut.ensures.value ∙ first_key who rows place e first in
    keys_indexed rows _ (get c.self.inside.places.value)
    (ap (λ s. keys_of (set rows place (s, c.own_row.new.row))) key ∙ (put_set who c.own_row.new.row rows place first).same_keys)
    c.self.invariant

pub returns-clause-waits : goal.returns-clause-waits
returns-clause-waits c = λ who row on has.
    let own = c.in-Some.who in
    let rows = c.self.inside.rows.items in
    let place = c.in-Some-element_place.place in
    let e : Row = c.index_mut.result.now in
    let first = first_indexed own rows (get c.self.inside.places.value) c.self.invariant place (sym c.in-Some-element_place.ensures) in
    let had : row_of rows own ≡ Some e.1 = row_first own rows place e first ∙ ap (λ (r : Row). Some r.1) (sym c.index_mut.ensures.value) in
    let same : own ≡ who = same_Some own who (sym c.in-Some.is ∙ c.subject.ensures ∙ on) in
    let one : e.1 ≡ row = same_Some e.1 row (sym had ∙ ap (row_of rows) same ∙ ap (λ (rs : List Row). row_of rs who) c.self.view_is ∙ has) in
    c.may_wait-waits.ensures ∙ ap (λ (r : PlayFacts). may_wait r c.args.entry.step) one

pub returns-clause-taken : goal.returns-clause-taken
returns-clause-taken c = λ h are log.
    let who = c.in-Some.who in
    let rows = c.self.inside.rows.items in
    let place = c.in-Some-element_place.place in
    let e : Row = c.index_mut.result.now in
    let row = c.own_row.new.row in
    let first = first_indexed who rows (get c.self.inside.places.value) c.self.invariant place (sym c.in-Some-element_place.ensures) in
    let key : e.0 ≡ who = ap (λ (r : Row). r.0) c.index_mut.ensures.value ∙ first_key who rows place e first in
    let had : row_of rows who ≡ Some e.1 = row_first who rows place e first ∙ ap (λ (r : Row). Some r.1) (sym c.index_mut.ensures.value) in
    let on : subject_of h.log c.args.entry.step ≡ Some who = ap (λ l. subject_of l c.args.entry.step) log ∙ sym c.subject.ensures ∙ c.in-Some.is in
    let is : row ≡ own_after h c.args.entry who e.1 = c.own_row.ensures h are log in
    subst (λ s. IsOwnTaken h c.args.entry c.args.self.now (set rows place (s, row))) (sym key)
    (subst (λ was. IsOwnTaken h c.args.entry was (set rows place (who, row))) c.self.view_is
    (own_put h c.args.entry who on rows (set rows place (who, row)) e.1 row had is (put_set who row rows place first)))
