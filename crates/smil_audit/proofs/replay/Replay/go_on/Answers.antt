use Rattle.std.proofs.Common.{◌∙◌, ap, arith, rules, subst, sym, ℤ, w64, FitsSigned}
use Rattle.std.specs.Prelude.{option_map, Option, ◌<ℤ◌}
use Rattle.std.proofs.lemmas.Int.{ints, to_z-of_z}
use Rattle.smil_model.specs.happening.Keys.{DueChange}
use Rattle.smil_element.specs.Parts.{coming_meant}
use Rattle.smil_audit.specs.Replayed.{IsLate, IsUntil, first_at}
use Rattle.smil_audit.specs.Steps.{replayed}
use Rattle.smil_audit.proofs.ReplayCourses.{follows_from, meant_first, until_whole}
use Rattle.smil_audit.specs.Replayed.{Follows, Replayed}
use Rattle.smil_audit.proofs.replay.Replay.go_on.Goals as goal
use Rattle.smil_audit.proofs.replay.Replay.go_on.Goals.{in_default-via-in-Some+else-coming-until, in_default-via-in_default}

pub come_to-requires-clause-is : goal.come_to-requires-clause-is
come_to-requires-clause-is g c =
    let r = c.first.new.self in
    subst (λ (z : ℤ). IsUntil (replayed r) z) (sym (until_whole r c.in_ok-first.ensures.sound c.until-until.result c.until-until.ensures)) c.until-until.ensures

pub come_to-requires-clause-first : goal.come_to-requires-clause-first
come_to-requires-clause-first g c =
    ap first_at c.in_ok-first.ensures.same ∙ meant_first c.in_ok-first.first _ c.in-Some.coming c.in_ok-first.ensures.first c.in-Some.is

pub wait-requires-clause-is : goal.wait-requires-clause-is
wait-requires-clause-is g c =
    let r = c.first.new.self in
    subst (λ (z : ℤ). IsUntil (replayed r) z) (sym (until_whole r c.in_ok-first.ensures.sound c.until-until.result c.until-until.ensures)) c.until-until.ensures

pub wait-requires-clause-late : goal.wait-requires-clause-late
wait-requires-clause-late g c =
    let r = c.first.new.self in
    let whole = until_whole r c.in_ok-first.ensures.sound c.until-until.result c.until-until.ensures in
    subst (λ (z : ℤ). IsLate (first_at (replayed r)) z) (sym whole)
    (subst (λ (o : Option DueChange). IsLate o c.until-until.result) (c.in_ok-first.ensures.first ∙ sym (ap first_at c.in_ok-first.ensures.same))
    (elim c.in_default.branch [
      | in_default-via-in-Some+else-coming-until w ↦
          let fit : FitsSigned w64 w.in-Some.coming.key.value = search rules in
          let fits = to_z-of_z w64 w.in-Some.coming.key.value fit in
          let test = w.if-coming-until.false in
          let less : c.until-until.result <ℤ w.in-Some.coming.key.value = grind (arith, ints) in
          subst (λ o. IsLate (option_map coming_meant o) c.until-until.result) (sym w.in-Some.is) less
      | in_default-via-in_default w ↦ subst (λ o. IsLate (option_map coming_meant o) c.until-until.result) (sym w.in_default.is) tt
    ]))

pub happen-requires-clause-follows : goal.happen-requires-clause-follows
happen-requires-clause-follows g c =
    let mid = replayed c.first.new.self in
    follows_from mid (replayed c.come_to.new.self) c.args.given.now c.come_to.ensures.passed
    (subst (λ (x : Replayed). Follows x c.args.given.now) (sym c.in_ok-first.ensures.same) c.requires.follows)

pub hear-requires-clause-follows : goal.hear-requires-clause-follows
hear-requires-clause-follows g c =
    let mid = replayed c.first.new.self in
    follows_from mid (replayed c.wait.new.self) c.args.given.now c.wait.ensures.passed
    (subst (λ (x : Replayed). Follows x c.args.given.now) (sym c.in_ok-first.ensures.same) c.requires.follows)
