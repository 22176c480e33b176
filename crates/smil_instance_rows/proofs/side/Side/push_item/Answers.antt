use Rattle.std.proofs.Common.{◌≡◌, ◌∙◌, sym, ap, subst, [], ◌∷◌, ◌++◌}
use Rattle.std.specs.Prelude.{OnOk, replicate}
use Rattle.std.proofs.lemmas.Result.{on_ok_weaker}
use Rattle.smil_instance_rows.specs.Rows.{instance_at}
use Rattle.smil_instance_rows.specs.Sides.{lists_of, single_in}
use Rattle.smil_instance_rows.proofs.SingleTimes.{nothing_more, single_more}
use Rattle.smil_instance_rows.proofs.side.Side.push_item.Goals as goal
use Rattle.smil_instance_rows.proofs.side.Side.push_item.Goals.{in-Nothing, in-Single, in-Several}

pub returns-clause-ok : goal.returns-clause-ok
returns-clause-ok g c =
    let given = g.T.Instant.given in
    let more = c.args.self.now ++ [] ∷ [] in
    elim c.match-self.branch as (λ _. OnOk c.match-self.result (lists_of given c.match-self.self-inside.kept ≡ more)) [
      | in-Nothing w ↦
          subst (λ i. OnOk c.match-self.result (lists_of given i.kept ≡ more)) (sym w.self-inside-is)
          (subst (λ r. OnOk r (replicate w.count_one.new.items [] ≡ more)) (sym w.result-is)
          (on_ok_weaker w.count_one.result (λ q. ap (λ n. replicate n []) q ∙ nothing_more g.T.Instant.given c.self.inside.kept c.args.self.now c.self.view_is w.in-Nothing.items w.in-Nothing.is) w.count_one.ensures.ok))
      | in-Single w ↦
          let s = w.in-Single.single in
          subst (λ i. OnOk c.match-self.result (lists_of given i.kept ≡ more)) (sym w.self-inside-is)
          (subst (λ r. OnOk r (single_in w.count_one-in-Single.new.items s.item (instance_at s.place (given s.value)) ≡ more)) (sym w.result-is)
          (on_ok_weaker w.count_one-in-Single.result (λ q. ap (λ n. single_in n s.item (instance_at s.place (given s.value))) q ∙ single_more g.T.Instant.given c.self.inside.kept c.args.self.now c.self.view_is s w.in-Single.is c.self.invariant) w.count_one-in-Single.ensures.ok))
      | in-Several w ↦
          subst (λ i. OnOk c.match-self.result (lists_of given i.kept ≡ more)) (sym w.self-inside-is)
          (subst (λ r. OnOk r (w.push_item.new.self ≡ more)) (sym w.result-is)
          (on_ok_weaker w.push_item.result (λ q. q ∙ ap (λ xs. xs ++ [] ∷ []) (w.deref_mut.ensures.value ∙ sym (ap (lists_of given) w.in-Several.is) ∙ c.self.view_is)) w.push_item.ensures.ok))
    ]
