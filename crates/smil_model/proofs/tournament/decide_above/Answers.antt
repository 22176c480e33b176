use Rattle.std.proofs.Common.{◌≢◌, ◌∙◌, ap, subst, sym, refl, ℕ, ◌+◌, ◌*◌, ◌/◌, ◌<◌, List, drop, arith}
use Rattle.std.proofs.lemmas.List.{drop-set-lt}
use Rattle.smil_model.specs.Tournaments.{at_place, IsDecided}
use Rattle.smil_model.proofs.Tournaments.{at_top, decided_more}
use Rattle.smil_model.proofs.tournament.decide_above.Goals as goal

pub loop-decided-preserved : goal.loop-decided-preserved
loop-decided-preserved g c =
    let none = g.T.Contender.none in
    let both = g.T.Contender.both in
    let half = c.args.half in
    let old = c.loop-decided.places in
    let place = c.loop-decided.decided / 2 in
    let item = both (at_place none old (2 * place)) (at_place none old (2 * place + 1)) in
    let above : 0 < place = omega arith in
    let below : place < half = omega arith in
    record {
      above = above;
      within = omega arith;
      others =
          subst (λ (places : List _). (i : ℕ) → 0 < i → i < half → i ≢ place / 2 → IsDecided none both places i) (sym c.decide.ensures)
          (decided_more none both old half place item above below (omega arith) refl c.loop-decided.invariant.others);
      kept = ap (drop half) c.decide.ensures ∙ drop-set-lt half old place item below ∙ c.loop-decided.invariant.kept;
    }

pub returns-clause-decided : goal.returns-clause-decided
returns-clause-decided g c =
    at_top g.T.Contender.none g.T.Contender.both c.loop-decided.places c.args.half c.loop-decided.decided (omega arith) c.loop-decided.invariant.others
