-- Elements that are marked where they have a note.
use Rattle.std.proofs.Common.{◌≡◌, refl, ◌∙◌, ap, sym, ℕ, zero, suc, ◌+◌, ◌<◌, List, [], ◌∷◌, ◌++◌, length, get_or, set, Bool, true, false, arith}
use Rattle.std.specs.Prelude.{◌==◌, ◌||◌, IfSome, nat_lt, if◌then◌else◌}
use Rattle.std.proofs.lemmas.Bool.{eqb-true, eqb-false}
use Rattle.std.proofs.lemmas.Bool.Decides.{nat_tests}
use Rattle.std.proofs.lemmas.List.{get_or-set_other}
use Rattle.smil_laws.specs.Near.{IsIntervalNear}
use Rattle.smil_nodes.specs.declared.undo.Note.{Note}
use Rattle.smil_nodes.specs.Undo.{AreMarked, AreNearNotes, has_note, note_count}

-- ---- how many notes are of an element

more : (notes : List Note) (note : Note) (k : ℕ) → note_count (notes ++ note ∷ []) k ≡ (if note.index == k then 1 else 0) + note_count notes k
more [] note k = omega arith
more (n ∷ ns) note k = omega (arith, more ns note k)

plain : (n : ℕ) → 0 + n ≡ n
plain n = omega arith

positive : (n : ℕ) → true ≡ nat_lt 0 (1 + n)
positive n = grind (arith, nat_tests)

noted : (notes : List Note) (k : ℕ) → has_note notes k ≡ nat_lt 0 (note_count notes k)
noted [] k = refl
noted (n ∷ ns) k =
    elim (n.index == k) as (λ (t : Bool). (t || has_note ns k) ≡ nat_lt 0 ((if t then 1 else 0) + note_count ns k)) [
      | true ↦ positive (note_count ns k)
      | false ↦ noted ns k ∙ ap (nat_lt 0) (sym (plain (note_count ns k)))
    ]

-- an element is marked where it has a note
pub marked_noted : (marks : List Bool) (notes : List Note) → AreMarked marks notes → (k : ℕ) → has_note notes k ≡ get_or marks k false
marked_noted marks notes are k = noted notes k ∙ ap (nat_lt 0) (are k) ∙ by_mark (get_or marks k false)
  where
    by_mark : (t : Bool) → nat_lt 0 (if t then 1 else 0) ≡ t
    by_mark true = refl
    by_mark false = refl

-- ---- marks that are put

unmarked : (marks : List Bool) (k : ℕ) → get_or (set marks k false) k false ≡ false
unmarked [] k = refl
unmarked (m ∷ ms) zero = refl
unmarked (m ∷ ms) (suc k) = unmarked ms k

marked : (marks : List Bool) (k : ℕ) → k < length marks → get_or (set marks k true) k false ≡ true
marked [] k within = absurd (omega (arith, within))
marked (m ∷ ms) zero within = refl
marked (m ∷ ms) (suc k) within = marked ms k (omega (arith, within))

-- a place more for a mark
pub unmarked_more : (marks : List Bool) (k : ℕ) → get_or (marks ++ false ∷ []) k false ≡ get_or marks k false
unmarked_more [] zero = refl
unmarked_more [] (suc k) = refl
unmarked_more (m ∷ ms) zero = refl
unmarked_more (m ∷ ms) (suc k) = unmarked_more ms k

-- an element that was not marked is noted and marked
pub marked_next : (marks : List Bool) (notes : List Note) (note : Note) → AreMarked marks notes → get_or marks note.index false ≡ false → note.index < length marks → AreMarked (set marks note.index true) (notes ++ note ∷ [])
marked_next marks notes note are free within k =
    more notes note k
    ∙ elim (note.index == k) as (λ (t : Bool). (note.index == k) ≡ t → ((if t then 1 else 0) + note_count notes k) ≡ (if get_or (set marks note.index true) k false then 1 else 0)) [
      | true ↦ λ e.
          let own : note.index ≡ k = eqb-true note.index k e in
          ap (λ n. 1 + note_count notes n) (sym own)
          ∙ ap (λ n. 1 + n) (are note.index ∙ ap (λ (t : Bool). if t then 1 else 0) free)
          ∙ ap (λ (t : Bool). if t then 1 else 0) (sym (marked marks note.index within) ∙ ap (λ n. get_or (set marks note.index true) n false) own)
      | false ↦ λ e. plain (note_count notes k) ∙ are k ∙ ap (λ (t : Bool). if t then 1 else 0) (sym (get_or-set_other marks note.index k true false (λ same. eqb-false note.index k e (sym same))))
    ] refl

-- the last note is taken, and its mark
pub marked_before : (marks : List Bool) (notes : List Note) (note : Note) → AreMarked marks (notes ++ note ∷ []) → AreMarked (set marks note.index false) notes
marked_before marks notes note are k =
    elim (note.index == k) as (λ (t : Bool). (note.index == k) ≡ t → note_count (notes ++ note ∷ []) k ≡ (if t then 1 else 0) + note_count notes k → note_count notes k ≡ (if get_or (set marks note.index false) k false then 1 else 0)) [
      | true ↦ λ e one.
          let own : note.index ≡ k = eqb-true note.index k e in
          none (get_or marks k false) (note_count notes k) (sym one ∙ are k)
          ∙ ap (λ (t : Bool). if t then 1 else 0) (sym (unmarked marks note.index) ∙ ap (λ n. get_or (set marks note.index false) n false) own)
      | false ↦ λ e one. sym (plain (note_count notes k)) ∙ sym one ∙ are k ∙ ap (λ (t : Bool). if t then 1 else 0) (sym (get_or-set_other marks note.index k false false (λ same. eqb-false note.index k e (sym same))))
    ] refl (more notes note k)
  where
    none : (t : Bool) (n : ℕ) → 1 + n ≡ (if t then 1 else 0) → n ≡ 0
    none true n e = omega (arith, e)
    none false n e = absurd (omega (arith, e))

-- no note, and no mark
pub none_marked : (marks : List Bool) → ((k : ℕ) → get_or marks k false ≡ false) → AreMarked marks []
none_marked marks free k = ap (λ (t : Bool). if t then 1 else 0) (sym (free k))

-- ---- notes with near numbers

pub near_next : (notes : List Note) (note : Note) → AreNearNotes notes → IfSome note.interval IsIntervalNear → AreNearNotes (notes ++ note ∷ [])
near_next [] note are is = (is, tt)
near_next (n ∷ ns) note are is = (are.0, near_next ns note are.1 is)

pub near_before : (notes : List Note) (note : Note) → AreNearNotes (notes ++ note ∷ []) → AreNearNotes notes × IfSome note.interval IsIntervalNear
near_before [] note are = (tt, are.0)
near_before (n ∷ ns) note are = let rest = near_before ns note are.1 in ((are.0, rest.0), rest.1)
