use Rattle.std.proofs.Common.{sym, subst, List, ◌++◌, ℕ}
use Rattle.std.specs.Prelude.{Option}
use Rattle.smil_model.specs.declared.diary.Entry.{Entry}
use Rattle.smil_past.specs.Past.{IsPresent, MarkedHistory, with_diary}
use Rattle.smil_rounds.proofs.MomentEntries.{present_with}
use Rattle.smil_audit.specs.Steps.{IsReplay, TakenIn, replayed}
use Rattle.smil_audit.proofs.ReplaySteps.{differs, reached_step}
use Rattle.smil_audit.proofs.replay.Replay.go_through.Goals as goal

pub returns-in-Some-clause-went : goal.returns-in-Some-clause-went
returns-in-Some-clause-went c =
    let r = c.args.self.now in
    let told = subst (λ (o : Option ℕ). TakenIn r.past r.group.items c.args.given.now c.take_in.new.past o) c.in-Some.is
    (subst (λ (g : List Entry). TakenIn r.past g c.args.given.now c.take_in.new.past c.in_ok-index.field-0) c.deref.ensures.value c.in_ok-index.ensures) in
    differs (replayed r) c.args.heard r.group.items c.args.given.now c.requires.sound.reached c.requires.step.step c.in-Some.index told.1 told.2

pub returns-in-None-clause-sound : goal.returns-in-None-clause-sound
returns-in-None-clause-sound c =
    let r = c.args.self.now in
    let told = subst (λ (o : Option ℕ). TakenIn r.past r.group.items c.args.given.now c.take_in.new.past o) c.in-None.is
    (subst (λ (g : List Entry). TakenIn r.past g c.args.given.now c.take_in.new.past c.in_ok-index.field-0) c.deref.ensures.value c.in_ok-index.ensures) in
    subst (λ (p : MarkedHistory). IsReplay (record { past = p; moment = r.moment; heard = c.args.heard; last = r.last; known = r.known; keys = r.keys; group = r.group; room = r.room })) (sym told.0)
    (record {
      present = subst (λ (g : List Entry). IsPresent (with_diary r.past (r.past.diary ++ g)) r.moment) (sym c.requires.step.steps_are)
          (present_with r.past r.moment c.requires.step.steps c.requires.sound.present);
      from = c.requires.sound.from;
      within = c.requires.sound.within;
      horizon = c.requires.sound.horizon;
      reached = reached_step (replayed r) c.args.heard r.group.items c.args.given.now c.requires.sound.reached c.requires.step.step;
      of_elements = c.requires.sound.of_elements;
    })
