-- The cuts of nodes, and the entries of a group, put together.
use Rattle.std.proofs.Common.{◌≡◌, sym, ◌∙◌, ap, ℤ, List, [], ◌∷◌, ◌++◌, Bool, true, false, filter, map, append_assoc}
use Rattle.std.specs.Prelude.{cond, reverse}
use Rattle.std.proofs.lemmas.List.{reverse-append, append-nil}
use Rattle.std.proofs.lemmas.List.Elements.{filter-append}
use Rattle.smil_model.specs.declared.diary.Entry.{Entry}
use Rattle.smil_model.specs.declared.diary.Step.{Step}
use Rattle.smil_model.specs.declared.diary.Step.TheVariants.{Cut}
use Rattle.smil_model.specs.declared.document.Node.{Node}
use Rattle.smil_model.specs.diary.Diary.{is_active}
use Rattle.smil_model.specs.happening.Groups.{at_moment, cut_steps}
use Rattle.smil_element.specs.Parts.{cut_of}
use Rattle.smil_laws.proofs.DiaryThroughBegin.{at_append}

-- ---- entries at a moment

module _ (m : ℤ) where
  -- one part after another
  pub joined : (old : List Entry) (xs ys : List Step) → (old ++ at_moment m xs) ++ at_moment m ys ≡ old ++ at_moment m (xs ++ ys)
  joined old xs ys = append_assoc old (at_moment m xs) (at_moment m ys) ∙ ap (λ es. old ++ es) (sym (at_append m xs ys))

  -- a stop, and what follows
  pub stopped : (old : List Entry) (cs : List Step) (e : Step) (fs : List Step) → (old ++ at_moment m (cs ++ e ∷ [])) ++ at_moment m fs ≡ old ++ at_moment m (cs ++ (e ∷ fs))
  stopped old cs e fs = joined old (cs ++ e ∷ []) fs ∙ ap (λ ss. old ++ at_moment m ss) (append_assoc cs (e ∷ []) fs)

-- ---- one node more

module _ (diary : List Entry) where
  abbrev active : List Node → List Node
  active ns = filter (λ (n : Node). is_active diary n.serial) ns

  abbrev cut_each : List Node → List Step
  cut_each ns = map (λ (n : Node). Cut n.serial) ns

  cut_last : (xs : List Node) (n : Node) → cut_steps diary (xs ++ n ∷ []) ≡ cut_of diary n.serial ++ cut_steps diary xs
  cut_last xs n = ap (λ ns. cut_each (reverse ns)) (filter-append (λ (k : Node). is_active diary k.serial) xs (n ∷ [])) ∙ step (is_active diary n.serial)
    where
      step : (t : Bool) → cut_each (reverse (active xs ++ cond t (n ∷ []) [])) ≡ cond t (Cut n.serial ∷ []) [] ++ cut_each (reverse (active xs))
      step true = ap cut_each (reverse-append (active xs) (n ∷ []))
      step false = ap (λ ns. cut_each (reverse ns)) (append-nil (active xs))

  -- the last of the nodes that are left is cut
  pub one_less : (m : ℤ) (left : List Node) (n : Node) (before after : List Entry) → after ≡ before ++ at_moment m (cut_of diary n.serial) → before ++ at_moment m (cut_steps diary (left ++ n ∷ [])) ≡ after ++ at_moment m (cut_steps diary left)
  one_less m left n before after is =
      ap (λ ss. before ++ at_moment m ss) (cut_last left n)
      ∙ sym (joined m before (cut_of diary n.serial) (cut_steps diary left))
      ∙ ap (λ es. es ++ at_moment m (cut_steps diary left)) (sym is)
