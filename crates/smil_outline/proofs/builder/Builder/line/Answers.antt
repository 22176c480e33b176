use Rattle.std.proofs.Common.{rules, ◌≡◌, ℕ, ◌/◌, Result, Err, ap, sym, ◌∙◌, take}
use Rattle.std.proofs.lemmas.Result.{err_from_is_err_and}
use Rattle.smil_grammar.specs.Outlines.{Outline, last_of}
use Rattle.smil_model.specs.declared.document.Node.{Node}
use Rattle.smil_model.specs.declared.order.Refusal.{Refusal}
use Rattle.smil_attrs.specs.Filled.{filled}
use Rattle.smil_outline.specs.Branches.{serial_of}
use Rattle.smil_outline.specs.Steps.{node_with}
use Rattle.smil_outline.proofs.LineParts.{kind_stops, attrs_stop, node_read, stands_unmixed, where_not_refused, filled_refused}
use Rattle.smil_outline.proofs.builder.Builder.line.Goals as goal

pub returns-in_err-kind-clause-reading : goal.returns-in_err-kind-clause-reading
returns-in_err-kind-clause-reading c =
    let p = err_from_is_err_and c.from_residual.result c.from_residual.ensures.1 in
    kind_stops c.args.self.now c.args.spaces c.args.node.now.serial c.args.shape.now _ c.in_err-kind.field-0.0 (filled_refused c.from_residual.result _ c.in_err-kind.field-0.0 (p.1 ∙ ap Err p.2)) (sym c.in_err-kind.ensures.reading)

pub returns-in_err-attrs-clause-reading : goal.returns-in_err-attrs-clause-reading
returns-in_err-attrs-clause-reading c =
    let p = err_from_is_err_and c.from_residual-in_err-attrs.result c.from_residual-in_err-attrs.ensures.1 in
    attrs_stop c.args.self.now c.args.spaces c.args.node.now.serial c.args.shape.now c.in_ok-kind.kind _ _ c.in_err-attrs.field-0.0
    (filled_refused c.from_residual-in_err-attrs.result _ c.in_err-attrs.field-0.0 (p.1 ∙ ap Err p.2)) (filled_refused c.attrs.result c.attrs.new.attrs c.in_err-attrs.field-0.0 c.in_err-attrs.was) (sym c.in_ok-kind.ensures.reading) c.attrs.ensures.reading

pub returns-clause-reading : goal.returns-clause-reading
returns-clause-reading c =
    let over : c.map_or-node.result ≡ serial_of c.above-parent.result = search rules in
    let parent : c.above-parent.result ≡ last_of (take (c.args.spaces / 2) c.args.self.now.branch) = c.above-parent.ensures ∙ ap (λ (o : Outline). last_of (take (c.args.spaces / 2) o.branch)) c.self.view_is in
    let made : ℕ → Result Node Refusal = λ n. filled c.limit.result (record { serial = c.args.node.now.serial; kind = c.in_ok-kind.kind; parent = n; attrs = c.attrs.new.attrs }) in
    node_read c.args.self.now c.args.spaces c.args.node.now.serial c.args.shape.now c.in_ok-kind.kind c.attrs.new.attrs (made c.map_or-node.result) (sym c.in_ok-kind.ensures.reading) c.in_ok-attrs.ensures.reading
    (ap made over
    ∙ c.limit.ensures.reading c.args.node.now.serial c.above-parent.result c.in_ok-kind.kind
    ∙ ap (λ p. node_with c.args.self.now.nodes c.args.node.now.serial p c.in_ok-kind.kind c.attrs.new.attrs) parent)

pub returns-clause-unmixed : goal.returns-clause-unmixed
returns-clause-unmixed c = where_not_refused c.limit.result (stands_unmixed c.args.self.now (take (c.args.spaces / 2) c.args.self.now.branch) c.in_ok-kind.kind c.in_ok-attrs.ensures.placed)
