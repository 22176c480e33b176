use Rattle.std.proofs.Common.{◌≡◌, sym, ◌∙◌, ap, subst, Some, set, arith}
use Rattle.std.specs.Prelude.{not}
use Rattle.std.specs.FinMap.{get}
use Rattle.smil_past.specs.Followed.{child_after}
use Rattle.smil_past.specs.Rows.{IsAfterParent, keys_of, row_of}
use Rattle.smil_past.proofs.PlayRows.{Row, first_below, first_indexed, first_key, keys_indexed, none_indexed, put_set, row_first}
use Rattle.smil_past.proofs.ChildRowsTurned.{turn_none, turn_put}
use Rattle.smil_past.proofs.plays.Plays.turn.Goals as goal

pub returns-in_default : goal.returns-in_default
returns-in_default c =
    turn_none c.args.who c.args.birth c.args.self.now
    (ap (λ rows. row_of rows c.args.who) (sym c.self.view_is)
    ∙ none_indexed c.args.who c.self.inside.rows.items (get c.self.inside.places.value) c.self.invariant (sym c.in_default.ensures))

pub index_mut-requires : goal.index_mut-requires
index_mut-requires c =
    let rows = c.self.inside.rows in
    let place = c.in-Some.place in
    let first = first_indexed c.args.who rows.items (get c.self.inside.places.value) c.self.invariant place (sym c.in-Some.ensures) in
    omega (arith, rows.ok.0, first_below c.args.who rows.items place first)

pub invariant_of-self : goal.invariant_of-self
invariant_of-self c =
    let who = c.args.who in
    let rows = c.self.inside.rows.items in
    let place = c.in-Some.place in
    let e : Row = c.index_mut.result.now in
    let first = first_indexed who rows (get c.self.inside.places.value) c.self.invariant place (sym c.in-Some.ensures) in
    let key : e.0 ≡ who = ap (λ (r : Row). r.0) c.index_mut.ensures.value ∙ first_key who rows place e first in
    keys_indexed rows _ (get c.self.inside.places.value)
    (ap (λ s. keys_of (set rows place (s, c.turn_child.new.row))) key ∙ (put_set who c.turn_child.new.row rows place first).same_keys)
    c.self.invariant

pub returns : goal.returns
returns c =
    let who = c.args.who in
    let rows = c.self.inside.rows.items in
    let place = c.in-Some.place in
    let e : Row = c.index_mut.result.now in
    let first = first_indexed who rows (get c.self.inside.places.value) c.self.invariant place (sym c.in-Some.ensures) in
    let key : e.0 ≡ who = ap (λ (r : Row). r.0) c.index_mut.ensures.value ∙ first_key who rows place e first in
    let had : row_of rows who ≡ Some e.1 = row_first who rows place e first ∙ ap (λ (r : Row). Some r.1) (sym c.index_mut.ensures.value) in
    let same : (e.0, c.turn_child.new.row) ≡ (who, child_after c.args.birth (not c.args.birth) e.1) = λ i. (key i, c.turn_child.ensures i) in
    subst (λ (r : Row). IsAfterParent who c.args.birth c.args.self.now (set rows place r)) (sym same)
    (subst (λ was. IsAfterParent who c.args.birth was (set rows place (who, child_after c.args.birth (not c.args.birth) e.1))) c.self.view_is
    (turn_put who c.args.birth e.1 rows _ had (put_set who (child_after c.args.birth (not c.args.birth) e.1) rows place first)))
