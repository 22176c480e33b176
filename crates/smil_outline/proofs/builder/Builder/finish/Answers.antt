use Rattle.std.proofs.Common.{◌≡◌, ℕ, ◌<◌, ◌+◌, length, ap, sym, ◌∙◌, arith}
use Rattle.std.specs.Prelude.{unwrap_or, Option}
use Rattle.smil_outline.proofs.OutlineValid.{read_is_valid}
use Rattle.smil_outline.proofs.builder.Builder.finish.Goals as goal
use Rattle.smil_outline.proofs.builder.Builder.finish.Goals.{in-Some, in-None}

pub returns-clause-valid : goal.returns-clause-valid
returns-clause-valid c =
    let count : c.len-count.result ≡ length c.self.inside.nodes = c.len-count.ensures in
    let some : 0 < length c.self.inside.nodes = grind (arith, count, c.if-count-eq0.false) in
    let next : c.match-self.next ≡ unwrap_or c.self.inside.next (length c.self.inside.nodes + 1) = elim c.match-self.branch [
      | in-Some w ↦ w.next-is ∙ ap (λ (o : Option ℕ). unwrap_or o (length c.self.inside.nodes + 1)) (sym w.in-Some.is)
      | in-None w ↦ w.next-is ∙ grind (arith, count, c.self.invariant.few) ∙ ap (λ (o : Option ℕ). unwrap_or o (length c.self.inside.nodes + 1)) (sym w.in-None.is)
    ] in
    read_is_valid (record { nodes = c.self.inside.nodes; branch = c.self.inside.branch; next = c.self.inside.next }) c.in_ok-into_doc.field-0 c.self.invariant.read some
    c.in_ok-into_doc.ensures.nodes (c.in_ok-into_doc.ensures.next ∙ next)
