use Rattle.smil_past.proofs.ReadingsBefore.{before_of, past_of}
use Rattle.smil_past.proofs.readings.Readings.follow.Goals as goal

pub follow-waits-requires-clause-follows : goal.follow-waits-requires-clause-follows
follow-waits-requires-clause-follows c =
    let may = c.requires.follows.1 in
    record { past = c.requires.follows.0; before = before_of c.args.self.now _ _ _ c.requires.follows.0 may }

pub follow-requires : goal.follow-requires
follow-requires c =
    let h = c.requires.follows.0 in
    let may = c.requires.follows.1 in (
      h,
      past_of c.args.self.now _ _ _ h may c.follow-waits.result (c.follow-waits.ensures.waits h (before_of c.args.self.now _ _ _ h may) may.follows.plays_are),
    )

pub follow-requires-2 : goal.follow-requires-2
follow-requires-2 c =
    let may = c.requires.follows.1 in
    record { past = c.requires.follows.0; known = may.follows.clocks_are; lawful = may.lawful }

pub returns-clause-follows : goal.returns-clause-follows
returns-clause-follows c = λ h may.
    let before = before_of c.args.self.now _ _ _ h may in record {
      clocks_are = c.follow-2.ensures h may.follows.clocks_are may.lawful;
      plays_are = c.follow-waits.ensures.taken h before may.follows.plays_are;
      queues_are = c.follow.ensures h (past_of c.args.self.now _ _ _ h may c.follow-waits.result (c.follow-waits.ensures.waits h before may.follows.plays_are));
    }
