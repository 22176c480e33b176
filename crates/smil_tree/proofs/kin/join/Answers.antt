use Rattle.std.proofs.Common.{◌+◌, ◌≤◌, ap, subst, ◌∙◌, take, drop, arith}
use Rattle.smil_model.specs.reach.Reach.{is_option}
use Rattle.smil_laws.proofs.LineageParents.{same_eqb}
use Rattle.smil_tree.specs.Kin.{AreListsOf}
use Rattle.smil_tree.proofs.KinTables.{joined, joined_none}
use Rattle.smil_tree.proofs.KinTrees.{around_place}
use Rattle.smil_tree.proofs.kin.join.Goals as goal

pub returns-in-Some : goal.returns-in-Some
returns-in-Some c = λ t lists own.
    let le : c.args.newcomer.now.at ≤ c.args.newcomer.now.at + 1 = omega arith in
    subst (AreListsOf t c.put.new.lists.entries) (around_place c.args.newcomer.now.nodes.now c.args.newcomer.now.at c.args.newcomer.now.node.now c.requires.there)
    (joined c.args.lists.now.entries c.put.new.lists.entries c.in-Some.owner c.count_before-index.result (take c.args.newcomer.now.at c.args.newcomer.now.nodes.now) c.args.newcomer.now.node.now (drop (c.args.newcomer.now.at + 1) c.args.newcomer.now.nodes.now) t lists
    (λ s. own s ∙ ap (is_option s) c.in-Some.is ∙ same_eqb s c.in-Some.owner)
    (c.count_before-index.ensures.count (t c.in-Some.owner) (c.args.newcomer.now.at + 1) le (c.list_at.ensures ∙ lists c.in-Some.owner))
    c.put.ensures)

pub returns-in_default : goal.returns-in_default
returns-in_default c = λ t lists own.
    subst (AreListsOf t c.args.lists.now.entries) (around_place c.args.newcomer.now.nodes.now c.args.newcomer.now.at c.args.newcomer.now.node.now c.requires.there)
    (joined_none c.args.lists.now.entries (take c.args.newcomer.now.at c.args.newcomer.now.nodes.now) c.args.newcomer.now.node.now (drop (c.args.newcomer.now.at + 1) c.args.newcomer.now.nodes.now) t lists
    (λ s. own s ∙ ap (is_option s) c.in_default.is))
