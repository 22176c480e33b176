-- Moments at which nothing comes: the diary stays settled, and the views stay.
use Rattle.std.proofs.Common.{◌≡◌, refl, sym, ◌∙◌, ap, subst, ℕ, suc, zero, ◌≤◌, ◌+◌, List, [], ◌∷◌, Some, true, false, ℤ, arith, length}
use Rattle.std.specs.Prelude.{pos, int_le, ◌≤ℤ◌, ◌+ℤ◌, reverse}
use Rattle.std.proofs.lemmas.Bool.{and_from, and_parts}
use Rattle.std.proofs.lemmas.Int.{ints}
use Rattle.std.proofs.lemmas.Option.{slice_get_past}
use Rattle.smil_model.specs.declared.diary.Entry.{Entry}
use Rattle.smil_model.specs.declared.diary.LogEntry.{LogEntry}
use Rattle.smil_model.specs.document.Valid.{IsNumberedTree}
use Rattle.smil_model.specs.diary.Clocks.{until}
use Rattle.smil_model.specs.diary.Diary.{History}
use Rattle.smil_model.specs.diary.Logs.{is_logged_by}
use Rattle.smil_model.specs.happening.Keys.{DueChange, coming, first_coming}
use Rattle.smil_model.specs.happening.Resolution.{diary_of, Reaches}
use Rattle.smil_model.specs.shown.Orders.{Presentation, as_of, course_of, views_of}
use Rattle.smil_model.specs.shown.Views.{views}
use Rattle.smil_laws.specs.Agreement.{course_on}
use Rattle.smil_laws.specs.Courses.{heard_by}
use Rattle.smil_laws.specs.Locality.{ParentsBefore}
use Rattle.smil_laws.proofs.ResolutionEnds.{ended_is_diary}
use Rattle.smil_laws.proofs.QuietJumps.{over_quiet}
use Rattle.smil_laws.proofs.NumberedTrees.{ordered}
use Rattle.smil_laws.proofs.QuietResolution.{same_later, until_later}
use Rattle.smil_cells.proofs.QuietMoments.{rests}
use Rattle.smil_shown.proofs.SettledDiaries.{comes_to, diary_few}
use Rattle.smil_shown.proofs.PresentMoments.{settled_until}
use Rattle.smil_live.proofs.LogParts.{no_later}
use Rattle.smil_live.proofs.ResolvedHistory.{history_with, views_are}

-- ---- time passes

-- what comes, and the views, after some milliseconds
pub record IsAsBefore (h : History) (m n : ℕ) : Type 0 where
  pub coming : coming h (pos n) ≡ coming h (pos m)
  pub views : views h (pos n) ≡ views h (pos m)

pub as_before : (h : History) (m k : ℕ) → ParentsBefore (reverse h.nodes) → until (pos m) h.diary ≡ h.diary → IsAsBefore h m (m + k)
as_before h m zero first past = subst (λ (n : ℕ). IsAsBefore h m n) same (record { coming = refl; views = refl })
  where
    same : m ≡ m + 0
    same = omega arith
as_before h m (suc k) first past =
    let rest = as_before h (suc m) k first (until_later m h.diary past) in
    let one = same_later h m first past in
    subst (λ (n : ℕ). IsAsBefore h m n) same (record { coming = rest.coming ∙ one.coming; views = rest.views ∙ one.views })
  where
    same : suc m + k ≡ m + suc k
    same = omega arith

-- ---- a presentation with its diary

-- a document and a log as they may be, with the diary at the present moment
pub record HasDiary (p : Presentation) (d : List Entry) : Type 0 where
  pub numbered : IsNumberedTree p.document
  pub logged : is_logged_by (pos p.now) p.log ≡ true
  pub settled : diary_of (course_of p) ≡ Some d

-- a log in which no entry is later than a moment has none later than a later moment
pub logged_later : (a b : ℕ) (log : List LogEntry) → a ≤ b → is_logged_by (pos a) log ≡ true → is_logged_by (pos b) log ≡ true
logged_later a b [] l q = q
logged_later a b (x ∷ xs) l q =
    let parts = and_parts (int_le x.moment (pos a)) (is_logged_by (pos a) xs) q in
    and_from (int_le x.moment (pos b)) (is_logged_by (pos b) xs) (no_later a b x.moment l parts.0) (logged_later a b xs l parts.1)

-- nothing comes before a moment
abbrev pub IsQuiet : Presentation → List Entry → ℤ → Type 0
IsQuiet p d moment = (c : DueChange) → first_coming (coming (history_with p d) (pos p.now)) ≡ Some c → moment ≤ℤ c.key.value

no_less : (m : ℕ) (x : ℤ) → (pos m +ℤ pos 1) ≤ℤ x → int_le (pos m) x ≡ true
no_less m x l = grind (arith, ints)

not_due : (m : ℕ) (x : ℤ) → (pos m +ℤ pos 1) ≤ℤ x → int_le x (pos m) ≡ false
not_due m x l = grind (arith, ints)

module _ (p : Presentation) (d : List Entry) (has : HasDiary p d) where
  reached : Reaches (course_of p) (heard_by p.log d p.now)
  reached = comes_to (course_of p) d has.logged has.settled

  past : until (pos p.now) d ≡ d
  past = settled_until p d has.settled

  pub before : (k : ℕ) → IsAsBefore (history_with p d) p.now (p.now + k)
  before k = as_before (history_with p d) p.now k (ordered p.document has.numbered).first past

  -- up to a moment at which nothing comes it is settled
  pub settled_on : (k : ℕ) → IsQuiet p d (pos (p.now + k) +ℤ pos 1) → diary_of (course_of (as_of p (p.now + k))) ≡ Some d
  settled_on k quiet =
      let c = course_on p.document.nodes p.log (p.now + k) in
      let q = heard_by p.log d (p.now + k) in
      ended_is_diary c q
      (over_quiet p.document p.log p.now k d has.numbered reached (λ x e. no_less (p.now + k) x.key.value (quiet x e)))
      (rests c q (slice_get_past p.log (length p.log) (omega arith)) refl (first_coming (coming (history_with p d) (pos (p.now + k))))
      (λ x e. not_due (p.now + k) x.key.value (quiet x (sym (ap first_coming (before k).coming) ∙ e))))
      (diary_few (course_of p) d has.settled)

  -- and the views are the same
  pub views_stay : (k : ℕ) → IsQuiet p d (pos (p.now + k) +ℤ pos 1) → views_of (as_of p (p.now + k)) ≡ views_of p
  views_stay k quiet =
      views_are (as_of p (p.now + k)) d (settled_on k quiet) ∙ (before k).views ∙ sym (views_are p d has.settled)
