use Rattle.std.proofs.Common.{sym, ◌∙◌, ap, Some, None}
use Rattle.std.specs.Prelude.{cond, find, not}
use Rattle.smil_instance_rows.proofs.SingleTimes.{nothing_merged, single_merged}
use Rattle.smil_instance_rows.proofs.side.Side.first_after.Goals as goal

pub returns-in-Nothing : goal.returns-in-Nothing
returns-in-Nothing g c =
    let t = g.T.Instant in
    sym (ap (find (λ other. not (t.at_most other c.args.value))) (nothing_merged t.given c.self.inside.kept c.args.self.now c.self.view_is t.at_most t.choose c.in-Nothing.items c.in-Nothing.is))

pub returns-then-is_before : goal.returns-then-is_before
returns-then-is_before g c =
    let t = g.T.Instant in
    let v = c.in-Single.single.value in
    sym (ap (find (λ other. not (t.at_most other c.args.value))) (single_merged t.given c.self.inside.kept c.args.self.now c.self.view_is t.at_most t.choose c.in-Single.single c.in-Single.is c.self.invariant (t.gives v))
    ∙ ap (λ b. cond b (Some v) None) (sym c.is_before.ensures ∙ c.if-is_before.true))

pub returns-else-is_before : goal.returns-else-is_before
returns-else-is_before g c =
    let t = g.T.Instant in
    let v = c.in-Single.single.value in
    sym (ap (find (λ other. not (t.at_most other c.args.value))) (single_merged t.given c.self.inside.kept c.args.self.now c.self.view_is t.at_most t.choose c.in-Single.single c.in-Single.is c.self.invariant (t.gives v))
    ∙ ap (λ b. cond b (Some v) None) (sym c.is_before.ensures ∙ c.if-is_before.false))
