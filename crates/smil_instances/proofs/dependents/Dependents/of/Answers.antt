use Rattle.std.proofs.Common.{◌≡◌, sym, subst, ap, ◌∙◌, ◌++◌, drop, length, List, ℕ, take, arith}
use Rattle.std.proofs.Math.Seq.{take-append_seam}
use Rattle.smil_instances.specs.Sources.{AreThose}
use Rattle.smil_instances.specs.Dependents.{AreDependentsOf, ElementDependents, keyed_in}
use Rattle.smil_instances.specs.Keys.{is_for_key}
use Rattle.smil_instances.proofs.CellSpreading.{all_concerned, fresh_sources}
use Rattle.smil_instances.proofs.dependents.Dependents.of.Goals as goal

pub fill-requires-clause-sources : goal.fill-requires-clause-sources
fill-requires-clause-sources c = fresh_sources c.args.tree.now.nodes c.deref_mut.result.now (c.deref_mut.ensures.value ∙ c.in_ok-rows.ensures)

pub returns : goal.returns
returns c =
    let nodes = c.args.tree.now.nodes in
    let new = c.fill.new.rows in
    let old : List ElementDependents = c.deref_mut.result.now in
    let long : length new ≡ c.in_ok-rows.rows.len = omega (arith, c.in_ok-fill.ensures.rows, c.deref_mut.ensures.len, c.in_ok-rows.rows.ok.0) in
    let rest = drop (length new) c.in_ok-rows.rows.items in
    let same : new ≡ take c.in_ok-rows.rows.len (new ++ rest) = sym (ap (λ (k : ℕ). take k (new ++ rest)) (sym long) ∙ take-append_seam new rest) in
    subst (λ (rows : List ElementDependents). AreDependentsOf nodes (record { rows = rows; keys = c.in_ok-keys.keys.items })) same
    (all_concerned nodes old new c.in_ok-keys.keys.items (c.deref_mut.ensures.value ∙ c.in_ok-rows.ensures) c.in_ok-fill.ensures (λ key. subst (λ (rows : List ElementDependents). AreThose (is_for_key rows key) (keyed_in c.in_ok-keys.keys.items key)) (c.deref-2.ensures.value ∙ sym c.deref_mut.ensures.value) (c.in_ok-keys.ensures key)))
