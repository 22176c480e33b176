use Rattle.std.proofs.Common.{◌≤ℤ◌, ◌∙◌, ap, refl, subst, sym, arith, ℤ, nat_abs, w64, to_z, of_z, pos}
use Rattle.std.proofs.lemmas.Int.{ints, to_z-of_z}
use Rattle.smil_model.specs.declared.times.TheConstants.{HORIZON}
use Rattle.smil_model.specs.document.Document.{Document, elements, serials}
use Rattle.smil_past.specs.Past.{MarkedHistory}
use Rattle.smil_rounds.proofs.RowsEmpty.{empty_serials}
use Rattle.smil_rounds.proofs.RowsBesideElements.{serials_in}
use Rattle.smil_audit.specs.Replayed.{begun}
use Rattle.smil_audit.specs.Steps.{IsReplay, replayed}
use Rattle.smil_audit.proofs.replay.Replay.new.Goals as goal

pub returns-clause-begun : goal.returns-clause-begun
returns-clause-begun c =
    ap (λ (p : MarkedHistory). replayed (record { past = p; moment = pos 0; heard = 0; last = to_z w64 (of_z w64 c.args.last); known = c.in_ok-known.known; keys = c.new-2.result; group = c.new-3.result; room = c.new-4.result })) c.in_ok-past.ensures
    ∙ ap (λ (d : Document). begun d c.args.log (nat_abs (to_z w64 (of_z w64 c.args.last)))) (c.in_ok-tree.ensures ∙ c.in_ok-copy.ensures)
    ∙ ap (λ (z : ℤ). begun c.args.doc.now c.args.log (nat_abs z)) (to_z-of_z w64 c.args.last c.ranges.last)

pub returns-clause-sound : goal.returns-clause-sound
returns-clause-sound c =
    let same = sym (to_z-of_z w64 c.args.last c.ranges.last) in
    subst (λ (p : MarkedHistory). IsReplay (record { past = p; moment = pos 0; heard = 0; last = to_z w64 (of_z w64 c.args.last); known = c.in_ok-known.known; keys = c.new-2.result; group = c.new-3.result; room = c.new-4.result })) (sym c.in_ok-past.ensures)
    (record {
      present = record { past_is = refl; from = omega (arith, ints); within = omega (arith, ints) };
      from = omega (arith, ints);
      within = subst (λ (z : ℤ). pos 0 ≤ℤ z) same c.requires.from;
      horizon = subst (λ (z : ℤ). z ≤ℤ HORIZON) same c.requires.within;
      reached = (0, refl);
      of_elements = ap serials_in c.in_ok-known.ensures ∙ empty_serials (elements c.in_ok-past.past.document.nodes)
          ∙ ap (λ (p : MarkedHistory). serials (elements p.document.nodes)) c.in_ok-past.ensures;
    })
