use Rattle.std.proofs.Common.{◌≡◌, ◌∙◌, sym, ap, subst, not}
use Rattle.std.specs.Prelude.{IsSome}
use Rattle.smil_model.specs.declared.document.Kind.{Kind}
use Rattle.smil_model.specs.document.Document.{Document, is_class_kind, node_at}
use Rattle.smil_model.specs.document.Valid.{IsNumberedTree, kind_of}
use Rattle.smil_live.proofs.OrderOutcomes.{an_element, kind_named, no_element}
use Rattle.smil_live.proofs.presentation.PresentationOver.element.Given.{Over}
use Rattle.smil_live.proofs.presentation.PresentationOver.element.Goals as goal
use Rattle.smil_live.proofs.presentation.PresentationOver.element.Goals.{After-kind}

pub kind-requires : goal.kind-requires
kind-requires g c =
    let same : c.tree.result.now ≡ c.args.self.now.document = c.tree.ensures.document in
    subst (λ (d : Document). IsSome (node_at d.nodes c.in_ok-serial.serial)) (sym same) c.in_ok-serial.ensures.known

-- the kind is that of the node that is named
kind : (g : Over) (c : After-kind g) → c.kind.result ≡ (c.in_ok-serial.ensures.ok).0.kind
kind g c =
    let same = c.tree.ensures.document in
    let h = c.in_ok-serial.ensures.ok in
    kind_named c.args.self.now.document c.args.who.now h.0 c.in_ok-serial.serial c.kind.result (subst IsNumberedTree c.tree.ensures.document c.tree.ensures.valid.numbered) h.1 h.2
    (c.kind.ensures ∙ ap (λ (d : Document). kind_of (node_at d.nodes c.in_ok-serial.serial)) same)

pub returns-then-is_element-clause-ok : goal.returns-then-is_element-clause-ok
returns-then-is_element-clause-ok g c =
    let h = c.in_ok-serial.ensures.ok in
    let element = ap (λ (k : Kind). not (is_class_kind k)) (sym (kind g (goal.at.returns-then-is_element-clause-ok g c).After-kind)) ∙ sym c.is_element.ensures ∙ c.if-is_element.true in
    (h.0, an_element c.args.self.now c.args.who.now h.0 h.1 element, h.2)

pub returns-else-is_element-clause-err : goal.returns-else-is_element-clause-err
returns-else-is_element-clause-err g c =
    let h = c.in_ok-serial.ensures.ok in
    let none = ap (λ (k : Kind). not (is_class_kind k)) (sym (kind g (goal.at.returns-else-is_element-clause-err g c).After-kind)) ∙ sym c.is_element.ensures ∙ c.if-is_element.false in
    no_element c.args.self.now c.args.who.now h.0 h.1 none
