use Rattle.std.proofs.Common.{◌≡◌, ◌∙◌, sym, ap, true, false, None, Some, arith}
use Rattle.std.specs.Prelude.{cond, ◌||◌}
use mir.Syntax.{w64}
use Rattle.std.proofs.lemmas.Int.{ints, to_z-of_z}
use Rattle.smil_model.specs.diary.Clocks.{between, outer, outer_stands}
use Rattle.smil_stretch.specs.NodeClocks.{shown_by, stands_by}
use Rattle.smil_stretch.proofs.ReadingsByClock.{outer_told, outer_stands_told, running}
use Rattle.smil_stretch.proofs.clocks.Clocks.running_between.Goals as goal
use Rattle.smil_stretch.proofs.clocks.Clocks.running_between.Goals.{then-stands_by-via-then-stands_by, then-stands_by-via-else-stands_by+then-stands_by-2}

pub returns-then-stands_by : goal.returns-then-stands_by
returns-then-stands_by c = λ h are le.
    let own : c.stands_by.result ≡ outer_stands h c.args.to = c.stands_by.ensures ∙ ap stands_by c.parent-own.ensures.value ∙ outer_stands_told c.args.self.now h are c.args.to in
    let stand : (outer_stands h c.args.to || outer_stands h c.args.from) ≡ true =
    elim c.then-stands_by.branch as (λ _. (outer_stands h c.args.to || outer_stands h c.args.from) ≡ true) [
      | then-stands_by-via-then-stands_by w ↦ ap (λ t. t || outer_stands h c.args.from) (sym own ∙ w.if-stands_by.true)
      | then-stands_by-via-else-stands_by+then-stands_by-2 w ↦
          (λ i. (sym own ∙ w.if-stands_by.false) i || (sym (w.stands_by-else-stands_by.ensures ∙ ap stands_by c.parent-other.ensures.value ∙ outer_stands_told c.args.self.now h are c.args.from) ∙ w.if-stands_by-2.true) i)
    ] in
    ap (λ t. cond t None (Some (between h c.args.from c.args.to c.args.value c.args.moment))) (sym stand)

pub returns : goal.returns
returns c = λ h are le.
    let own : c.stands_by.result ≡ outer_stands h c.args.to = c.stands_by.ensures ∙ ap stands_by c.parent-own.ensures.value ∙ outer_stands_told c.args.self.now h are c.args.to in
    let other : c.stands_by-else-stands_by.result ≡ outer_stands h c.args.from = c.stands_by-else-stands_by.ensures ∙ ap stands_by c.parent-other.ensures.value ∙ outer_stands_told c.args.self.now h are c.args.from in
    let run : (outer_stands h c.args.to || outer_stands h c.args.from) ≡ false = λ i. (sym own ∙ c.if-stands_by.false) i || (sym other ∙ c.if-stands_by-2.false) i in
    let to_is : c.shown_by.result ≡ outer h c.args.to c.args.moment =
    c.shown_by.ensures.value ∙ ap (shown_by c.parent-own.result) (to_z-of_z w64 c.args.moment c.ranges.moment)
    ∙ ap (λ n. shown_by n c.args.moment) c.parent-own.ensures.value ∙ outer_told c.args.self.now h are c.args.to c.args.moment le in
    let from_is : c.shown_by-2.result ≡ outer h c.args.from c.args.moment =
    c.shown_by-2.ensures.value ∙ ap (shown_by c.parent-other.result) (to_z-of_z w64 c.args.moment c.ranges.moment)
    ∙ ap (λ n. shown_by n c.args.moment) c.parent-other.ensures.value ∙ outer_told c.args.self.now h are c.args.from c.args.moment le in
    running (outer_stands h c.args.to || outer_stands h c.args.from) _ (between h c.args.from c.args.to c.args.value c.args.moment) run (omega (arith, ints, to_is, from_is))
