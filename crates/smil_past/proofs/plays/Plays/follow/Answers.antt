use Rattle.std.proofs.Common.{◌∙◌, ap, sym}
use Rattle.smil_model.specs.reach.Reach.{subject_of}
use Rattle.smil_stretch.proofs.LawfulDiaries.{lawful_before, lawful_last}
use Rattle.smil_past.specs.Played.{played}
use Rattle.smil_past.specs.Rows.{row_of}
use Rattle.smil_past.proofs.EntryBefore.{clocks_at, moment_at}
use Rattle.smil_past.proofs.ElementsAfterEntry.{row_known, taken}
use Rattle.smil_past.proofs.QueuedElements.{may_stand}
use Rattle.smil_past.proofs.plays.Plays.follow.Goals as goal

pub take_own-waits-requires-clause-moment : goal.take_own-waits-requires-clause-moment
take_own-waits-requires-clause-moment c =
    let known = c.requires.follows in moment_at known.past _ _ _ _ known.before

pub returns-clause-taken : goal.returns-clause-taken
returns-clause-taken c = λ h is before.
    taken h _ _ _ _ is c.args.self.now c.take_own-waits.new.self c.take_children.new.self before
    (c.take_own-waits.ensures.taken h (clocks_at h _ _ _ _ is) is.same_log) c.take_children.ensures

pub returns-clause-waits : goal.returns-clause-waits
returns-clause-waits c = λ h is before.
    let y = c.args.entry in
    may_stand h y.step c.take_own-waits.result (lawful_before h y is.lawful) (lawful_last h y is.lawful) (λ who on known.
    c.take_own-waits.ensures.waits who (played h who) (ap (λ l. subject_of l y.step) (sym is.same_log) ∙ on)
    (ap (λ rows. row_of rows who) before ∙ row_known h who known))
