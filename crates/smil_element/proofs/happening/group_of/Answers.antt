use Rattle.std.proofs.Common.{◌≡◌, ℕ, ap, ◌∙◌, sym, subst, rules, w64, to_z, of_z}
use Rattle.std.specs.Prelude.{Result, OnOk}
use Rattle.std.specs.declared.vec.Vec.{Vec}
use Rattle.std.specs.declared.alloc.Global.{Global}
use Rattle.std.proofs.lemmas.Int.{to_z-of_z}
use Rattle.smil_model.specs.declared.diary.Entry.{Entry}
use Rattle.smil_model.specs.happening.Groups.{steps_of}
use Rattle.smil_model.specs.happening.Keys.{Change, begins, ends, repeats}
use Rattle.smil_element.specs.declared.happening.parts.Parts.{Parts}
use Rattle.smil_element.specs.Parts.{AppendsBy, meant}
use Rattle.smil_element.proofs.happening.group_of.Goals as goal

-- the steps of a change are those of the same change
same_steps : {T E : Type 0} (r : Result T E) (parts : Parts) (old new : Vec Entry Global) (who : ℕ) (first change : Change) → OnOk r (AppendsBy parts old new (λ h m. steps_of h m who first)) → first ≡ change → OnOk r (AppendsBy parts old new (λ h m. steps_of h m who change))
same_steps r parts old new who first change made same = subst (λ (x : Change). OnOk r (AppendsBy parts old new (λ h m. steps_of h m who x))) same made

pub returns-in-Begins : goal.returns-in-Begins
returns-in-Begins c =
    let v = c.in-Begins.begin in
    let whole : to_z w64 (of_z w64 v) ≡ v = search (rules, to_z-of_z) in
    same_steps c.begin_steps.result c.args.parts.now c.args.entries.now c.begin_steps.new.entries c.args.who (begins (to_z w64 (of_z w64 v))) (meant c.args.change) c.begin_steps.ensures
    (ap begins whole ∙ ap meant (sym c.in-Begins.is))

pub returns-in-Ends : goal.returns-in-Ends
returns-in-Ends c =
    let v = c.in-Ends.«end» in
    let whole : to_z w64 (of_z w64 v) ≡ v = search (rules, to_z-of_z) in
    same_steps c.end_steps.result c.args.parts.now c.args.entries.now c.end_steps.new.entries c.args.who (ends (to_z w64 (of_z w64 v))) (meant c.args.change) c.end_steps.ensures
    (ap ends whole ∙ ap meant (sym c.in-Ends.is))

pub returns-in-Repeats : goal.returns-in-Repeats
returns-in-Repeats c =
    let v = c.in-Repeats.start in
    let whole : to_z w64 (of_z w64 v) ≡ v = search (rules, to_z-of_z) in
    same_steps c.repeat_steps.result c.args.parts.now c.args.entries.now c.repeat_steps.new.entries c.args.who (repeats (to_z w64 (of_z w64 v))) (meant c.args.change) c.repeat_steps.ensures
    (ap repeats whole ∙ ap meant (sym c.in-Repeats.is))
