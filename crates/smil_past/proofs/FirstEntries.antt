-- The first entries of a diary.
use Rattle.std.proofs.Common.{◌≡◌, refl, sym, ◌∙◌, ap, subst, ℕ, ◌+◌, ◌-◌, ◌<◌, ◌≤◌, List, [], ◌∷◌, ◌++◌, take, length, length-drop, get_or, Some, arith}
use Rattle.std.specs.Prelude.{drop, slice_get}
use Rattle.std.specs.List.{AllByRecursion}
use Rattle.std.proofs.lemmas.List.{get_or-drop, take-append-drop, take_rest}
use Rattle.smil_model.specs.declared.diary.Entry.{Entry}
use Rattle.smil_model.specs.declared.diary.LogEntry.{LogEntry}
use Rattle.smil_model.specs.document.Document.{Document}
use Rattle.smil_model.specs.diary.Lawful.{IsLawful}
use Rattle.smil_laws.specs.Near.{HasNear}
use Rattle.smil_laws.specs.Cut.{IsNamedBelow}
use Rattle.smil_laws.proofs.Lists.{take-more_at}
use Rattle.smil_tree.proofs.KinLists.{each_left}
use Rattle.smil_stretch.proofs.LawfulDiaries.{lawful_first}
use Rattle.smil_stretch.proofs.IdleClocks.{next_at, no_entry}
use Rattle.smil_instances.specs.Intake.{history_of}
use Rattle.smil_past.specs.Past.{IsPossible, MayFollow, unmarked}

each_last : {A : Type 0} (P : A → Type 0) (xs : List A) (y : A) → AllByRecursion P (xs ++ y ∷ []) → P y
each_last P [] y each = each.0
each_last P (x ∷ xs) y each = each_last P xs y each.1

-- the entries from one on, as the slice of them is
abbrev pub rest : List Entry → ℕ → List Entry
rest entries from = take (length entries - from) (drop from entries)

pub entry_at : (entries diary : List Entry) (from k : ℕ) → diary ≡ entries → k < length (rest entries from) → slice_get diary (from + k) ≡ Some (get_or (rest entries from) k no_entry)
entry_at entries diary from k same within =
    let left : k < length (drop from entries) = subst (λ (es : List Entry). k < length es) (take_rest entries from) within in
    let below : from + k < length entries = omega (arith, left, length-drop from entries) in
    next_at entries diary (from + k) no_entry same below
    ∙ ap (λ (y : Entry). Some y) (sym (ap (λ (es : List Entry). get_or es k no_entry) (take_rest entries from) ∙ get_or-drop from entries k no_entry))

pub all_reached : (entries : List Entry) (from k : ℕ) → length (rest entries from) ≤ k → length entries ≤ from + k
all_reached entries from k most =
    let left : length (drop from entries) ≤ k = subst (λ (es : List Entry). length es ≤ k) (take_rest entries from) most in
    omega (arith, left, length-drop from entries)

-- each entry may follow those before it
pub follows_at : (document : Document) (log : List LogEntry) (diary : List Entry) (place : ℕ) (y : Entry) → IsPossible document log diary → slice_get diary place ≡ Some y → MayFollow (unmarked document log (take place diary)) y
follows_at document log diary place y possible at =
    let front : take (place + 1) diary ≡ take place diary ++ y ∷ [] = take-more_at diary place y at in
    let whole : take (place + 1) diary ++ drop (place + 1) diary ≡ diary = take-append-drop (place + 1) diary in
    record {
      lawful = subst (λ ds. IsLawful (history_of document log ds)) front (lawful_first (history_of document log diary) (place + 1) possible.lawful);
      near =
          each_last (λ (x : Entry). HasNear x.step) (take place diary) y
          (subst (AllByRecursion (λ (x : Entry). HasNear x.step)) front
          (each_left (λ (x : Entry). HasNear x.step) (take (place + 1) diary) (drop (place + 1) diary) (subst (AllByRecursion (λ (x : Entry). HasNear x.step)) (sym whole) possible.near)));
      named =
          each_last (λ (x : Entry). IsNamedBelow (length log) x.step) (take place diary) y
          (subst (AllByRecursion (λ (x : Entry). IsNamedBelow (length log) x.step)) front
          (each_left (λ (x : Entry). IsNamedBelow (length log) x.step) (take (place + 1) diary) (drop (place + 1) diary) (subst (AllByRecursion (λ (x : Entry). IsNamedBelow (length log) x.step)) (sym whole) possible.named)));
    }

-- nothing has happened before the first
pub possible_before : (document : Document) (log : List LogEntry) (diary : List Entry) → IsPossible document log diary → IsPossible document log []
possible_before document log diary possible = record {
  valid = possible.valid;
  lawful = record { moments = refl; steps = tt };
  near = tt;
  named = tt;
  few = omega arith;
}
