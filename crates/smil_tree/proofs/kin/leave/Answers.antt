use Rattle.std.proofs.Common.{sym, ap, subst, ◌∙◌, arith, Some, cond, filter}
use Rattle.smil_tree.specs.Places.{cut}
use Rattle.smil_model.specs.reach.Reach.{is_option}
use Rattle.smil_model.specs.document.Document.{serials}
use Rattle.smil_model.specs.ListTables.{list_of}
use Rattle.smil_tree.proofs.KinLists.{before-rises, nothing_cut}
use Rattle.smil_tree.proofs.KinTables.{IsTakenOut, taken_out, separated}
use Rattle.smil_tree.proofs.kin.leave.Goals as goal
use Rattle.smil_tree.proofs.kin.leave.Goals.{in-Some, in_default}

pub take_out-requires-clause-in_order : goal.take_out-requires-clause-in_order
take_out-requires-clause-in_order c =
    let t = c.requires.lists.0 in
    let are = c.list_at-list.ensures ∙ c.requires.lists.1 c.in-Some.owner in
    omega
    (arith, before-rises (t c.in-Some.owner) c.args.span.now.start c.args.span.now.end c.args.span.now.nodes.now c.requires.in_order, c.count_before-first.ensures.count (t c.in-Some.owner) c.args.span.now.start (omega arith) (nothing_cut (t c.in-Some.owner) c.args.span.now.start c.args.span.now.nodes.now c.list_at-list.result.now are), c.count_before-past.ensures.count (t c.in-Some.owner) c.args.span.now.end (omega arith) (nothing_cut (t c.in-Some.owner) c.args.span.now.end c.args.span.now.nodes.now c.list_at-list.result.now are))

pub returns : goal.returns
returns c = λ t lists apart.
    separated c.args.lists.now.entries c.match-owner.lists.entries c.forget.new.lists.entries c.args.owner c.args.span.now.start c.args.span.now.end c.args.span.now.nodes.now t
    c.requires.in_order lists
    (elim c.match-owner.branch [
      | in-Some w ↦
          subst (λ o. IsTakenOut t o c.args.span.now.start c.args.span.now.end c.args.span.now.nodes.now c.args.lists.now.entries c.match-owner.lists.entries) (sym w.in-Some.is)
          (subst (λ m. IsTakenOut t (Some w.in-Some.owner) c.args.span.now.start c.args.span.now.end c.args.span.now.nodes.now c.args.lists.now.entries m.entries) (sym w.lists-is)
          (taken_out c.args.lists.now.entries w.take_out.new.lists.entries w.in-Some.owner w.count_before-first.result w.count_before-past.result c.args.span.now.start c.args.span.now.end c.args.span.now.nodes.now t lists
          (w.count_before-first.ensures.count (t w.in-Some.owner) c.args.span.now.start (omega arith) (nothing_cut (t w.in-Some.owner) c.args.span.now.start c.args.span.now.nodes.now w.list_at-list.result.now (w.list_at-list.ensures ∙ lists w.in-Some.owner)))
          (w.count_before-past.ensures.count (t w.in-Some.owner) c.args.span.now.end (omega arith) (nothing_cut (t w.in-Some.owner) c.args.span.now.end c.args.span.now.nodes.now w.list_at-list.result.now (w.list_at-list.ensures ∙ lists w.in-Some.owner)))
          w.take_out.ensures))
      | in_default w ↦
          λ s.
          ap (λ m. list_of m.entries s) w.lists-is
          ∙ ap (λ o. cond (is_option s o) (serials (filter (t s) (cut c.args.span.now.start c.args.span.now.end c.args.span.now.nodes.now))) (list_of c.args.lists.now.entries s)) (sym w.in_default.is)
    ])
    apart c.forget.ensures
