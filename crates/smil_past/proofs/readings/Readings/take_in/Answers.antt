use Rattle.std.proofs.Common.{◌≡◌, refl, sym, subst, ap, ℕ, ◌<◌, ◌≤◌, List, [], ◌∷◌, ◌++◌, length, arith, length-append}
use Rattle.smil_model.specs.declared.diary.Entry.{Entry}
use Rattle.smil_model.specs.declared.limits.TheConstants.{DIARY_ENTRIES}
use Rattle.smil_instance_rows.specs.Notes.{GoesBackTheSame}
use Rattle.smil_instances.specs.Instances.{IsSettled, SettledInstances}
use Rattle.smil_instances.specs.Intake.{history_of}
use Rattle.smil_past.proofs.DiaryAppended.{taken_in}
use Rattle.smil_past.proofs.readings.Readings.take_in.Goals as goal

-- there is room for the last entry
room : (before diary : List Entry) (y : Entry) (n : ℕ) → diary ≡ before ++ y ∷ [] → n ≡ length diary → n ≤ DIARY_ENTRIES → length before < DIARY_ENTRIES
room before diary y n is same few = omega (arith, few, same, ap (λ ds. length ds) is, length-append before (y ∷ []))

pub follow-requires-clause-follows : goal.follow-requires-clause-follows
follow-requires-clause-follows c =
    let readings = c.requires.readings_are in (
      history_of c.args.history.now.tree.now c.args.history.now.log.now c.requires.before,
      record {
        same_nodes = refl;
        same_log = refl;
        follows = record { clocks_are = readings.clocks_are; plays_are = readings.plays_are; queues_are = readings.queues_are };
        lawful = c.requires.lawful;
        few = room c.requires.before _ _ c.len.result c.requires.diary_is c.len.ensures.value c.len.ensures.bound;
      },
    )

pub returns-clause-ok : goal.returns-clause-ok
returns-clause-ok c =
    let document = c.args.history.now.tree.now in
    let log = c.args.history.now.log.now in
    let readings = c.requires.readings_are in
    let h = history_of document log c.requires.before in
    let follows = c.follow.ensures.follows h (record {
      same_nodes = refl;
      same_log = refl;
      follows = record { clocks_are = readings.clocks_are; plays_are = readings.plays_are; queues_are = readings.queues_are };
      lawful = c.requires.lawful;
      few = room c.requires.before _ _ c.len.result c.requires.diary_is c.len.ensures.value c.len.ensures.bound;
    }) in
    taken_in document log c.requires.before c.args.history.now.book.now c.args.entry c.follow.new.self c.requires.diary_is
    follows.clocks_are follows.plays_are follows.queues_are
    (subst (λ (v : SettledInstances). IsSettled v document log c.args.history.now.book.now) (sym c.follow.ensures.instances) c.in_ok-note.ensures.ok)

pub returns-clause-back : goal.returns-clause-back
returns-clause-back c =
    subst (λ (v : SettledInstances). GoesBackTheSame c.args.self.now.instances.rows c.args.notes.now v.rows c.note.new.notes) (sym c.follow.ensures.instances) c.note.ensures.back
