use Rattle.std.proofs.Common.{◌<◌, sym, ap, subst, ◌∙◌, length}
use Rattle.std.specs.Prelude.{slice_get}
use Rattle.std.proofs.lemmas.Option.{slice_get_within}
use Rattle.smil_model.specs.document.Document.{Document, serials, time_children}
use Rattle.smil_tree.proofs.OutlineRows.{absent, found_told, no_time_children, some_same}
use Rattle.smil_tree.proofs.tree.Tree.time_children.Goals as goal

pub time_children_at-requires : goal.time_children_at-requires
time_children_at-requires c =
    let found = found_told c.self.inside.nodes c.self.inside.next c.self.invariant.keeps.valid c.self.inside.outline c.self.invariant.outline_is c.args.serial c.in-Some.place (sym c.position.ensures ∙ c.in-Some.is) in
    subst (λ (d : Document). c.in-Some.place < length d.nodes) c.self.view_is (slice_get_within c.self.inside.nodes c.in-Some.place found.node found.there)

pub returns-in-Some : goal.returns-in-Some
returns-in-Some c =
    let found = found_told c.self.inside.nodes c.self.inside.next c.self.invariant.keeps.valid c.self.inside.outline c.self.invariant.outline_is c.args.serial c.in-Some.place (sym c.position.ensures ∙ c.in-Some.is) in
    let there = ap (λ (d : Document). slice_get d.nodes c.in-Some.place) (sym c.self.view_is) ∙ found.there in
    let same = some_same (sym c.time_children_at.ensures.1 ∙ there) in
    c.time_children_at.ensures.2 ∙ ap (λ s. serials (time_children c.args.self.now.nodes s)) (ap (λ n. n.serial) same ∙ found.serial)

pub returns-in-None : goal.returns-in-None
returns-in-None c =
    sym (no_time_children c.self.inside.nodes c.args.serial (absent c.self.inside.nodes c.self.inside.next c.self.invariant.keeps.valid c.args.serial (sym c.position.ensures ∙ c.in-None.is)))
    ∙ ap (λ (d : Document). serials (time_children d.nodes c.args.serial)) c.self.view_is
