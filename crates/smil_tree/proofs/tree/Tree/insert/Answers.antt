use Rattle.std.proofs.Common.{◌-◌, ◌≤◌, sym, ap, subst, ◌∙◌, suc, Ok, length, insert}
use Rattle.std.specs.Prelude.{slice_get}
use Rattle.smil_model.specs.document.Document.{Document}
use Rattle.smil_model.specs.document.Edits.{children, child_place}
use Rattle.smil_model.specs.document.Valid.{IsValid}
use Rattle.smil_tree.specs.Outcomes.{IsFaultOf, insert_outcome, may_bear}
use Rattle.smil_tree.proofs.InsertRefusals.{bearer_known, few_among, fault_of, after, place_within, long_after, more_after, valid_after, outcome_is}
use Rattle.smil_tree.proofs.ResultClauses.{on_err}
use Rattle.smil_tree.proofs.tree.Tree.insert.Goals as goal

pub has_room-requires : goal.has_room-requires
has_room-requires c = few_among c.args.self.now.nodes c.args.parent c.args.kind c.args.attrs c.requires

pub returns-in_err-has_room-clause-err : goal.returns-in_err-has_room-clause-err
returns-in_err-has_room-clause-err c =
    let valid = subst IsValid c.self.view_is c.self.invariant.keeps.valid in
    let grown = after c.args.self.now valid c.args.parent c.args.place c.args.kind c.args.attrs c.requires in
    on_err (IsFaultOf (insert_outcome c.args.self.now c.args.parent c.args.place c.args.kind c.args.attrs)) c.from_residual-in_err-has_room.result c.in_err-has_room.field-0.0 c.from_residual-in_err-has_room.ensures.1
    (fault_of (insert_outcome c.args.self.now c.args.parent c.args.place c.args.kind c.args.attrs) c.in_err-has_room.field-0.0
    (outcome_is c.args.self.now valid c.args.parent c.args.place c.args.kind c.args.attrs c.requires (sym c.in_ok-may_insert.ensures)
    ∙ sym (c.in_err-has_room.ensures grown
    (long_after c.args.self.now valid c.args.parent c.args.place c.args.kind c.args.attrs c.requires)
    (more_after c.args.self.now valid c.args.parent c.args.place c.args.kind c.args.attrs c.requires))))

pub put-requires-clause-within : goal.put-requires-clause-within
put-requires-clause-within c =
    let valid = subst IsValid c.self.view_is c.self.invariant.keeps.valid in
    let at = c.position_of_child-at.ensures ∙ ap (λ (d : Document). child_place d.nodes c.args.parent (slice_get (children d.nodes c.args.parent) (c.args.place - 1))) c.self.view_is in
    subst (λ k. k ≤ length c.args.self.now.nodes) (sym at) (place_within c.args.self.now valid c.args.parent c.args.place c.args.kind c.args.attrs c.requires)

pub put-requires-clause-valid : goal.put-requires-clause-valid
put-requires-clause-valid c =
    let valid = subst IsValid c.self.view_is c.self.invariant.keeps.valid in
    let grown = after c.args.self.now valid c.args.parent c.args.place c.args.kind c.args.attrs c.requires in
    let at = c.position_of_child-at.ensures ∙ ap (λ (d : Document). child_place d.nodes c.args.parent (slice_get (children d.nodes c.args.parent) (c.args.place - 1))) c.self.view_is in
    let serial = ap (λ (d : Document). d.next) c.self.view_is in
    let room = sym (c.in_ok-has_room.ensures grown
    (long_after c.args.self.now valid c.args.parent c.args.place c.args.kind c.args.attrs c.requires)
    (more_after c.args.self.now valid c.args.parent c.args.place c.args.kind c.args.attrs c.requires)) in
    subst (λ k. IsValid (record { nodes = insert c.args.self.now.nodes k (record { serial = c.self.inside.next; kind = c.args.kind; parent = c.args.parent; attrs = c.args.attrs }); next = suc c.args.self.now.next })) (sym at)
    (subst (λ s. IsValid (record { nodes = insert c.args.self.now.nodes (child_place c.args.self.now.nodes c.args.parent (slice_get (children c.args.self.now.nodes c.args.parent) (c.args.place - 1))) (record { serial = s; kind = c.args.kind; parent = c.args.parent; attrs = c.args.attrs }); next = suc c.args.self.now.next })) (sym serial)
    (valid_after c.args.self.now valid c.args.parent c.args.place c.args.kind c.args.attrs c.requires (sym c.in_ok-may_insert.ensures) room))

pub returns-clause-ok : goal.returns-clause-ok
returns-clause-ok c =
    let valid = subst IsValid c.self.view_is c.self.invariant.keeps.valid in
    let grown = after c.args.self.now valid c.args.parent c.args.place c.args.kind c.args.attrs c.requires in
    let at = c.position_of_child-at.ensures ∙ ap (λ (d : Document). child_place d.nodes c.args.parent (slice_get (children d.nodes c.args.parent) (c.args.place - 1))) c.self.view_is in
    let serial = ap (λ (d : Document). d.next) c.self.view_is in
    let room = sym (c.in_ok-has_room.ensures grown
    (long_after c.args.self.now valid c.args.parent c.args.place c.args.kind c.args.attrs c.requires)
    (more_after c.args.self.now valid c.args.parent c.args.place c.args.kind c.args.attrs c.requires)) in
    outcome_is c.args.self.now valid c.args.parent c.args.place c.args.kind c.args.attrs c.requires (sym c.in_ok-may_insert.ensures)
    ∙ room
    ∙ ap (λ s. Ok (record { nodes = insert c.args.self.now.nodes (child_place c.args.self.now.nodes c.args.parent (slice_get (children c.args.self.now.nodes c.args.parent) (c.args.place - 1))) (record { serial = s; kind = c.args.kind; parent = c.args.parent; attrs = c.args.attrs }); next = suc c.args.self.now.next })) (sym serial)
    ∙ ap (λ k. Ok (record { nodes = insert c.args.self.now.nodes k (record { serial = c.self.inside.next; kind = c.args.kind; parent = c.args.parent; attrs = c.args.attrs }); next = suc c.args.self.now.next })) (sym at)
    ∙ ap Ok (sym c.in_ok-put.ensures.ok)

pub position_of_child-at-requires-clause-known : goal.position_of_child-at-requires-clause-known
position_of_child-at-requires-clause-known c =
    bearer_known c.self.inside.nodes c.args.parent c.args.kind c.args.attrs (ap (λ (d : Document). may_bear d.nodes c.args.parent c.args.kind c.args.attrs) c.self.view_is ∙ c.requires)
