use Rattle.smil_past.proofs.Marks.{backs_none}
use Rattle.smil_past.proofs.past.Past.forget.Goals as goal

pub invariant_of-self : goal.invariant_of-self
invariant_of-self c =
    let was = c.self.inside in
    let sound = c.self.invariant in
    record {
      tells = sound.tells;
      kept_are = sound.kept_are;
      backs_up = backs_none was.document.value was.log was.chronicle.book was.chronicle.readings c.forget.new.self;
    }
