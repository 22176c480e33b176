use Rattle.std.proofs.Common.{◌∙◌, ap, sym, Some}
use Rattle.std.specs.Prelude.{is_some}
use Rattle.smil_model.specs.document.Document.{Document, node_at}
use Rattle.smil_model.specs.document.Valid.{kind_of}
use Rattle.smil_instances.proofs.IdTargets.{known_node}
use Rattle.smil_past.proofs.TimeParents.{up}
use Rattle.smil_past.specs.Past.{history_of}
use Rattle.smil_element.proofs.NextChild.{seq_next, seq_sibling, excl_sibling, no_displacing}
use Rattle.smil_element.proofs.displaced.is_displaced.Goals as goal

pub kind-requires : goal.kind-requires
kind-requires c =
    let past = c.args.past.now in
    let above = up past.document.nodes c.args.who c.in-Some.parent c.possible.ensures.valid.numbered.distinct (known_node past.document.nodes c.args.who c.requires) (sym c.in-Some.is ∙ c.parent_of.ensures.parent) in
    ap (λ (d : Document). is_some (node_at d.nodes c.in-Some.parent)) c.tree.ensures ∙ ap is_some above.known

pub returns-then-next_began : goal.returns-then-next_began
returns-then-next_began c =
    let past = c.args.past.now in
    let distinct = c.possible.ensures.valid.numbered.distinct in
    let above = up past.document.nodes c.args.who c.in-Some.parent distinct (known_node past.document.nodes c.args.who c.requires) (sym c.in-Some.is ∙ c.parent_of.ensures.parent) in
    let kind_told = c.kind.ensures ∙ ap (λ (d : Document). kind_of (node_at d.nodes c.in-Some.parent)) c.tree.ensures in
    seq_next (history_of past) c.args.who c.in-Some.parent above c.kind.result kind_told c.possible.ensures.lawful c.next_began.result distinct c.requires c.in-Seq.is (c.next_began.ensures (Some above.node) (ap Some above.serial)) c.if-next_began.true

pub returns-else-next_began : goal.returns-else-next_began
returns-else-next_began c =
    let past = c.args.past.now in
    let distinct = c.possible.ensures.valid.numbered.distinct in
    let above = up past.document.nodes c.args.who c.in-Some.parent distinct (known_node past.document.nodes c.args.who c.requires) (sym c.in-Some.is ∙ c.parent_of.ensures.parent) in
    let kind_told = c.kind.ensures ∙ ap (λ (d : Document). kind_of (node_at d.nodes c.in-Some.parent)) c.tree.ensures in
    seq_sibling (history_of past) c.args.who c.in-Some.parent above c.kind.result kind_told c.possible.ensures.lawful c.next_began.result c.sibling_set_off.result distinct c.requires c.in-Seq.is (c.next_began.ensures (Some above.node) (ap Some above.serial)) c.if-next_began.false c.sibling_set_off.ensures

pub returns-in-Excl : goal.returns-in-Excl
returns-in-Excl c =
    let past = c.args.past.now in
    let distinct = c.possible.ensures.valid.numbered.distinct in
    let above = up past.document.nodes c.args.who c.in-Some.parent distinct (known_node past.document.nodes c.args.who c.requires) (sym c.in-Some.is ∙ c.parent_of.ensures.parent) in
    let kind_told = c.kind.ensures ∙ ap (λ (d : Document). kind_of (node_at d.nodes c.in-Some.parent)) c.tree.ensures in
    excl_sibling (history_of past) c.args.who c.in-Some.parent above c.kind.result kind_told c.possible.ensures.lawful c.sibling_set_off-in-Excl.result c.in-Excl.is c.sibling_set_off-in-Excl.ensures

pub returns-in_default-kind : goal.returns-in_default-kind
returns-in_default-kind c =
    let past = c.args.past.now in
    let distinct = c.possible.ensures.valid.numbered.distinct in
    let above = up past.document.nodes c.args.who c.in-Some.parent distinct (known_node past.document.nodes c.args.who c.requires) (sym c.in-Some.is ∙ c.parent_of.ensures.parent) in
    let kind_told = c.kind.ensures ∙ ap (λ (d : Document). kind_of (node_at d.nodes c.in-Some.parent)) c.tree.ensures in
    no_displacing (history_of past) c.args.who c.in-Some.parent above c.kind.result kind_told c.possible.ensures.lawful c.in_default-kind.not-Seq c.in_default-kind.not-Excl
