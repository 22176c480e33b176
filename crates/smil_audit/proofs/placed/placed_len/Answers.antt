use Rattle.std.proofs.Common.{◌≡◌, ◌∙◌, sym, subst, ℤ, take, w64}
use Rattle.std.specs.Prelude.{pos}
use Rattle.std.proofs.lemmas.Int.{to_z-of_z}
use Rattle.smil_audit.specs.Verdict.{placed}
use Rattle.smil_audit.proofs.AgreeingFronts.{cut_off}
use Rattle.smil_audit.proofs.placed.placed_len.Goals as goal

pub returns-then-not-is_in_place-clause-placed : goal.returns-then-not-is_in_place-clause-placed
returns-then-not-is_in_place-clause-placed c =
    subst (λ (last : ℤ). take c.loop-index.index c.args.entries.now ≡ placed (pos 0) last c.args.entries.now) (to_z-of_z w64 c.args.last c.ranges.last)
    (cut_off c.loop-index.index c.args.entries.now _ _ _ _ c.loop-index-test.true (sym c.is_in_place.ensures ∙ c.if-not-is_in_place.true) c.loop-index.invariant)
