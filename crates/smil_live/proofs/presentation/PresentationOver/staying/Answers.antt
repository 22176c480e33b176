use Rattle.std.proofs.Common.{◌≡◌, ◌∙◌, sym, ap, subst, ℕ, List, Bool}
use Rattle.smil_model.specs.declared.diary.Entry.{Entry}
use Rattle.smil_model.specs.document.Document.{Document, serial_of, time_parent}
use Rattle.smil_graph.specs.Graph.{document_of}
use Rattle.smil_live.specs.Counts.{agreed_under, diary_at}
use Rattle.smil_revision.specs.References.{keeps_references}
use Rattle.smil_live.specs.Sites.{IsMade, site_nodes, site_serial}
use Rattle.smil_live.proofs.AgreedCells.{diary_kept}
use Rattle.smil_live.proofs.TextsApart.{cells_playing, cells_with}
use Rattle.smil_live.proofs.presentation.PresentationOver.staying.Goals as goal

pub edited_node-serial-requires : goal.edited_node-serial-requires
edited_node-serial-requires g c =
    let same : c.tree.result.now ≡ c.args.self.now.document = c.tree.ensures.document in
    subst (λ (x : Document). IsMade x c.args.site c.tree-2.result.now) (sym same)
    (subst (λ (x : Document). IsMade c.args.self.now.document c.args.site x) (sym c.tree-2.ensures) c.requires.made)

pub returns : goal.returns
returns g c =
    let p = c.args.self.now in
    let d = document_of c.args.revised.now.graph in
    let at = c.args.site in
    let same : c.tree.result.now ≡ p.document = c.tree.ensures.document in
    let o = time_parent (site_nodes p.document d at) (site_serial p.document at) in
    let among : c.edited_node-serial.result.1 ≡ serial_of (time_parent (site_nodes c.tree.result.now d at) (site_serial c.tree.result.now at)) = subst (λ (x : Document). c.edited_node-serial.result.1 ≡ serial_of (time_parent (site_nodes c.tree.result.now x at) (site_serial c.tree.result.now at))) c.tree-2.ensures c.edited_node-serial.ensures.parent in
    let parent : c.edited_node-serial.result.1 ≡ serial_of o = subst (λ (x : Document). c.edited_node-serial.result.1 ≡ serial_of (time_parent (site_nodes x d at) (site_serial x at))) same among in
    let serial : c.edited_node-serial.result.0 ≡ site_serial p.document at = subst (λ (x : Document). c.edited_node-serial.result.0 ≡ site_serial x at) same c.edited_node-serial.ensures.serial in
    let keeps : c.in_ok-keeps.keeps ≡ keeps_references (site_serial p.document at) p.document.nodes d.nodes = c.in_ok-keeps.ensures ∙ ap (λ (s : ℕ). keeps_references s p.document.nodes d.nodes) serial in
    let book : c.book.result.now ≡ diary_at p = c.book.ensures ∙ diary_kept (cells_with c.self.inside.viewer.cells c.self.inside.edited) c.self.inside.viewer.seen p (cells_playing c.self.inside.viewer.cells c.self.inside.viewer.seen c.self.inside.edited c.self.invariant) c.self.view_is in
    c.entries_staying.ensures o (sym parent)
    ∙ (ap (λ (b : Bool). agreed_under b o c.book.result.now) keeps ∙ ap (λ (l : List Entry). agreed_under (keeps_references (site_serial p.document at) p.document.nodes d.nodes) o l) book)
