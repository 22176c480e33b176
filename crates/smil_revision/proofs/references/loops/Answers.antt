use Rattle.std.proofs.Common.{◌≡◌, ◌∙◌, ap, Some}
use Rattle.smil_model.specs.document.Document.{Document}
use Rattle.smil_revision.specs.ItemCounts.{counts_at}
use Rattle.smil_revision.proofs.AgreedMarks.{both_sides, is_counted}
use Rattle.smil_revision.proofs.references.loops.Goals as goal

pub returns : goal.returns
returns c =
    let nodes = c.args.graph.now.nodes in
    let s = c.args.serial in
    let counts : Some (c.in-Some.begins, c.in-Some.ends) ≡ counts_at nodes s = c.in-Some.ensures ∙ ap (λ (d : Document). counts_at d.nodes s) c.tree.ensures in
    both_sides nodes s c.in-Some.begins c.in-Some.ends c.clear.new.self.items c.push_marks.new.marks.items c.push_marks-2.new.marks.items (is_counted nodes s c.in-Some.begins c.in-Some.ends counts) c.clear.ensures.items c.in_ok-push_marks.ensures c.in_ok-push_marks-2.ensures
