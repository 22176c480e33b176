use Rattle.std.proofs.Common.{◌∙◌, ap, rules, subst, sym, List, ℤ, w64, to_z, of_z, FitsSigned}
use Rattle.std.specs.Prelude.{slice_get}
use Rattle.std.specs.Int.{int_max}
use Rattle.std.proofs.lemmas.Int.{to_z-of_z}
use Rattle.smil_model.specs.declared.diary.LogEntry.{LogEntry as AnyLogEntry}
use Rattle.smil_audit.specs.Replayed.{IsUntil}
use Rattle.smil_audit.specs.Steps.{replayed}
use Rattle.smil_audit.proofs.ReplayCourses.{last_fits, own_whole, test_less, until_some, until_whole}
use Rattle.smil_audit.proofs.replay.Replay.until.Goals as goal

pub returns-in-Some : goal.returns-in-Some
returns-in-Some c =
    let r = c.args.self.now in
    let entry = c.in-Some.entry.now in
    let fit : FitsSigned w64 c.in-Some.entry.now.moment = search rules in
    let fits = to_z-of_z w64 c.in-Some.entry.now.moment fit in
    let is = until_some r c.requires entry (ap (λ (l : List AnyLogEntry). slice_get l r.heard) (sym c.log.ensures) ∙ sym c.in-Some.ensures)
    (test_less entry.moment r.last _ _ fits (last_fits r c.requires) c.if-entry-self.true) c.max.result
    (c.max.ensures.value ∙ ap (λ (v : ℤ). int_max v (to_z w64 (of_z w64 r.moment))) fits ∙ ap (int_max entry.moment) (own_whole r c.requires)) in
    subst (λ (z : ℤ). IsUntil (replayed r) z) (sym (until_whole r c.requires c.max.result is)) is
