-- A last call that appends, by what the history gives at the moment.
use Rattle.std.proofs.Common.{◌≡◌, ◌∙◌, ap, sym, List, [], ◌++◌, ℤ}
use Rattle.std.specs.Prelude.{Result, OnOk}
use Rattle.std.specs.declared.vec.Vec.{Vec}
use Rattle.std.specs.declared.alloc.Global.{Global}
use Rattle.std.proofs.lemmas.List.{append-nil}
use Rattle.std.proofs.lemmas.Result.{on_ok_weaker}
use Rattle.smil_model.specs.declared.diary.Entry.{Entry}
use Rattle.smil_model.specs.declared.diary.Step.{Step}
use Rattle.smil_model.specs.diary.Diary.{History}
use Rattle.smil_model.specs.happening.Groups.{at_moment}
use Rattle.smil_element.specs.Parts.{Appends, AppendsBy, ArePartsOf}
use Rattle.smil_element.specs.declared.happening.parts.Parts.{Parts}
use Rattle.smil_element.proofs.CutsJoined.{joined}

module _ {T E : Type 0} (r : Result T E) (parts : Parts) (old new : Vec Entry Global) where
  -- the call appends steps that the history tells
  pub told : (ss : List Step) (steps : History → ℤ → List Step) → OnOk r (Appends parts old new ss) → ((h : History) → ArePartsOf parts h → ss ≡ steps h parts.moment) → OnOk r (AppendsBy parts old new steps)
  told ss steps made is = on_ok_weaker r (λ (e : Appends parts old new ss). λ h are. e ∙ ap (λ xs. old.items ++ at_moment parts.moment xs) (is h are)) made

  -- the history tells other steps
  pub retold : (first steps : History → ℤ → List Step) → OnOk r (AppendsBy parts old new first) → ((h : History) → ArePartsOf parts h → first h parts.moment ≡ steps h parts.moment) → OnOk r (AppendsBy parts old new steps)
  retold first steps made is = on_ok_weaker r (λ (e : AppendsBy parts old new first). λ h are. e h are ∙ ap (λ xs. old.items ++ at_moment parts.moment xs) (is h are)) made

  -- the call appends behind others
  pub behind : (before : Vec Entry Global) (first second : List Step) → Appends parts old before first → OnOk r (Appends parts before new second) → OnOk r (Appends parts old new (first ++ second))
  behind before first second so made = on_ok_weaker r (λ (e : Appends parts before new second). e ∙ ap (λ es. es ++ at_moment parts.moment second) so ∙ joined parts.moment old.items first second) made

pub nothing_appended : (parts : Parts) (old : Vec Entry Global) (steps : List Step) → [] ≡ steps → Appends parts old old steps
nothing_appended parts old steps none = sym (append-nil old.items) ∙ ap (λ xs. old.items ++ at_moment parts.moment xs) none
