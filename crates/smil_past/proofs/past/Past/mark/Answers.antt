use Rattle.std.proofs.Common.{◌≡◌, ◌∙◌, sym, ap, subst, [], length, Some}
use Rattle.smil_past.specs.Chronicle.{BacksUp, place_after}
use Rattle.smil_past.proofs.Marks.{backs_here}
use Rattle.smil_past.proofs.past.Past.mark.Goals as goal

pub invariant_of-self : goal.invariant_of-self
invariant_of-self c =
    let was = c.self.inside in
    let sound = c.self.invariant in
    let book = was.chronicle.book in
    let noted : c.mark.new.self ≡ record { notes = []; mark = Some (place_after (length book)) } =
    c.mark.ensures ∙ ap (λ n. record { notes = []; mark = Some n }) (c.max.ensures ∙ ap place_after c.len-len.ensures.value) in record {
      tells = sound.tells;
      kept_are = sound.kept_are;
      backs_up = subst (λ n. BacksUp was.document.value was.log book was.chronicle.readings c.mark.new.self (Some (n, c.len-len.result))) (sym c.len.ensures)
          (subst (λ n. BacksUp was.document.value was.log book was.chronicle.readings c.mark.new.self (Some (length was.log, n))) (sym c.len-len.ensures.value)
          (backs_here was.document.value was.log book was.chronicle.readings c.mark.new.self sound.tells.possible sound.tells.readings_are noted));
    }
