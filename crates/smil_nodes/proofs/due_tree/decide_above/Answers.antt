use Rattle.std.proofs.Common.{◌∙◌, sym, refl, subst, ◌-◌, ◌/◌, ◌<◌, length, set, get_or-set_same, None, arith}
use Rattle.std.proofs.lemmas.List.{drop-set-lt, length-set}
use Rattle.smil_nodes.specs.Slots.{WasLeastBelow}
use Rattle.smil_nodes.proofs.DueTrees.{decided_more, other_than, was_least}
use Rattle.smil_nodes.proofs.due_tree.decide_above.Goals as goal

pub loop-decided-preserved : goal.loop-decided-preserved
loop-decided-preserved c =
    let old = c.loop-decided.places in
    let place = c.loop-decided.decided in
    let up = (place - 1) / 8 in
    let slot = c.least_with-least.result in
    let was = c.loop-decided.invariant in
    let some : 0 < place = omega arith in
    let known : up < length old = omega (arith, was.known) in
    let below : up < c.args.first = omega (arith, was.known, was.count, c.requires.full.full, c.requires.full.above, some) in
    record {
      known = omega (arith, length-set old up slot, known);
      others = decided_more old c.args.first place up slot some refl known c.least_with-least.ensures was.others;
      before = λ more.
          let next = (up - 1) / 8 in
          let lower : next < c.args.first = omega (arith, below, more) in
          let apart = other_than place next some (λ e. absurd (omega (arith, e, more))) in
          subst (WasLeastBelow (set old up slot) next) (sym (get_or-set_same old up slot None known))
          (was_least old up next slot more refl known (was.others next lower apart));
      count = length-set old up slot ∙ was.count;
      kept = drop-set-lt c.args.first old up slot below ∙ was.kept;
    }
