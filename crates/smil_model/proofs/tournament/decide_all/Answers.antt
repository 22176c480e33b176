use Rattle.std.proofs.Common.{◌∙◌, ap, subst, sym, refl, ℕ, ◌+◌, ◌*◌, ◌-◌, ◌<◌, ◌≤◌, List, drop, arith}
use Rattle.std.proofs.lemmas.List.{drop-set-lt}
use Rattle.smil_model.specs.Tournaments.{at_place, IsDecided}
use Rattle.smil_model.proofs.Tournaments.{decided_down}
use Rattle.smil_model.proofs.tournament.decide_all.Goals as goal

pub loop-decided-init : goal.loop-decided-init
loop-decided-init g c = record {
  within = omega arith;
  later = λ i from above below. absurd (omega (arith, from, below));
  kept = refl;
}

pub loop-decided-preserved : goal.loop-decided-preserved
loop-decided-preserved g c =
    let none = g.T.Contender.none in
    let both = g.T.Contender.both in
    let half = c.args.half in
    let old = c.loop-decided.places in
    let place = c.loop-decided.decided - 1 in
    let item = both (at_place none old (2 * place)) (at_place none old (2 * place + 1)) in
    let above : 0 < place = omega arith in
    let below : place < half = omega (arith, c.loop-decided.invariant.within) in
    record {
      within = omega (arith, c.loop-decided.invariant.within);
      later =
          subst (λ (places : List _). (i : ℕ) → place ≤ i → 0 < i → i < half → IsDecided none both places i) (sym c.decide.ensures)
          (decided_down none both old half place item above below (omega arith) refl (λ i from. c.loop-decided.invariant.later i (omega (arith, from))));
      kept = ap (drop half) c.decide.ensures ∙ drop-set-lt half old place item below ∙ c.loop-decided.invariant.kept;
    }

pub returns-clause-decided : goal.returns-clause-decided
returns-clause-decided g c = λ i above below. c.loop-decided.invariant.later i (omega (arith, above)) above below
