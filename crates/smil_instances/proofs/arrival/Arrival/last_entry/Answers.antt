use Rattle.std.proofs.Common.{sym, subst}
use Rattle.smil_model.specs.declared.diary.Entry.{Entry}
use Rattle.smil_model.specs.Times.{IsMoment}
use Rattle.smil_instances.proofs.LastEntry.{moment_is}
use Rattle.smil_instances.proofs.arrival.Arrival.last_entry.Goals as goal

pub returns-clause-moment : goal.returns-clause-moment
returns-clause-moment c =
    let hand = c.requires in
    subst (λ (z : Entry). IsMoment z.moment) (sym (c.last_entry.ensures hand.past.diary hand.entry hand.is_entry.same_diary))
    (moment_is _ _ _ _ hand.past hand.entry hand.is_entry)
