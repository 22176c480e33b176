use Rattle.std.proofs.Common.{◌≤◌, ◌≤ℤ◌, ◌∙◌, ◌++◌, [], ◌∷◌, ap, arith, rules, sym, length, List, ℤ, w64, to_z, of_z, FitsSigned}
use Rattle.std.specs.Prelude.{slice_get}
use Rattle.std.proofs.lemmas.Int.{ints, to_z-of_z}
use Rattle.smil_model.specs.declared.diary.Entry.{Entry as AnyEntry}
use Rattle.smil_model.specs.declared.diary.LogEntry.{LogEntry as AnyLogEntry}
use Rattle.smil_model.specs.declared.diary.Step.TheVariants as step
use Rattle.smil_model.specs.happening.Groups.{at_moment}
use Rattle.smil_audit.proofs.ReplayCourses.{heard_few, heard_may, own_whole, regrouped, with_group}
use Rattle.smil_audit.proofs.replay.Replay.hear.Goals as goal

pub overflow_cast-self : goal.overflow_cast-self
overflow_cast-self c =
    let few : length c.args.self.now.past.diary ≤ 1000000 = c.possible.ensures.few in
    let heard = heard_few c.args.self.now c.requires.sound c.reached_is_past.ensures 1000000 few in
    omega (arith, heard)

pub overflow_add-self : goal.overflow_add-self
overflow_add-self c =
    let few : length c.args.self.now.past.diary ≤ 1000000 = c.possible.ensures.few in
    let heard = heard_few c.args.self.now c.requires.sound c.reached_is_past.ensures 1000000 few in
    omega (arith, heard)

pub go_through-requires-clause-step : goal.go_through-requires-clause-step
go_through-requires-clause-step c =
    let r = c.args.self.now in
    let entries = c.push.new.self in
    let entry = c.in-Some.entry.now in
    let fit : FitsSigned w64 c.in-Some.entry.now.moment = search rules in
    let fits = to_z-of_z w64 c.in-Some.entry.now.moment fit in
    let own = own_whole r c.requires.sound in
    let test = c.if-entry-self.true in
    let now : c.in-Some.entry.now.moment ≤ℤ c.args.self.now.moment = grind (arith, ints) in
    heard_may (with_group r entries) (regrouped r c.requires.sound entries) c.resolved_is_near.ensures c.reached_is_past.ensures c.possible.ensures.valid.numbered
    entry c.requires.quiet (ap (λ (l : List AnyLogEntry). slice_get l r.heard) (sym c.log.ensures) ∙ sym c.in-Some.ensures) now
    (c.in_ok-push-in-Some.ensures.items ∙ ap (λ (l : List AnyEntry). l ++ record { moment = to_z w64 (of_z w64 r.moment); step = step.Logged r.heard } ∷ []) c.clear.ensures.items ∙ ap (λ (v : ℤ). at_moment v (step.Logged r.heard ∷ [])) own)
