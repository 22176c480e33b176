-- A refusal of a full diary: the course has none.
use Rattle.std.proofs.Common.{◌≡◌, ◌∙◌, sym, subst, List, Option, Some, None, inr}
use Rattle.std.specs.Prelude.{◌⊎◌, Result, Ok, Err, IfErr, IsErrAnd}
use Rattle.smil_model.specs.declared.diary.Entry.{Entry}
use Rattle.smil_model.specs.happening.Resolution.{Course, diary_of}
use Rattle.smil_diary.specs.declared.fault.BookFault.{BookFault}
use Rattle.smil_diary.specs.declared.fault.BookFault.TheVariants.{DiaryFull, Memory}
use Rattle.smil_laws.specs.Courses.{TooLongIsFull}
use Rattle.smil_cells.specs.CellsState.{CellsState, IsFront, IsRefusing}
use Rattle.smil_cells.specs.Settling.{HasRefused}

module _ (c : Course) (d : List Entry) where
  abbrev Front : BookFault → Type 0
  Front fault = fault ≡ DiaryFull → IsFront c d

  pub none_is_there : {A : Type 0} (before : Option BookFault) (r : Result A BookFault) → TooLongIsFull → IfErr r Front → IfErr r (λ fault. fault ≡ DiaryFull → (before ≡ Some fault) ⊎ (diary_of c ≡ None))
  none_is_there before (Ok x) law q = q
  none_is_there before (Err f) law q = λ e. inr (law c (q e).at (q e).reached (q e).many)

  pub front_is_there : {A : Type 0} (before : Option BookFault) (r : Result A BookFault) → IfErr r Front → IfErr r (λ fault. fault ≡ DiaryFull → (before ≡ Some fault) ⊎ IsFront c d)
  front_is_there before (Ok x) q = q
  front_is_there before (Err f) q = λ e. inr (q e)

-- a refusal for want of memory
pub for_memory : {A : Type 0} (r : Result A BookFault) (c : Course) (old new : CellsState) → ((f : BookFault) → IsRefusing old (record new { fault = Some f }) f) → IsErrAnd r (λ f. f ≡ Memory) → IfErr r (HasRefused c old (record new { fault = Some Memory }))
for_memory (Ok x) c old new refusing is = tt
for_memory (Err x) c old new refusing is = record {
  refusing = subst (λ (f : BookFault). IsRefusing old (record new { fault = Some Memory }) f) (sym is) (refusing Memory);
  full = λ e. absurd (not_full (sym is ∙ e));
}
  where
    not_full : Memory ≡ DiaryFull → ⊥
    not_full e = cc
