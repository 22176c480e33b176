-- The rows before the first entry.
use Rattle.std.proofs.Common.{◌≡◌, refl, sym, ◌∙◌, ap, ℕ, List, [], ◌∷◌, Option, None, false, ℤ, map, arith}
use Rattle.std.specs.Prelude.{cond, pos, fold, is_some, option_and_then, unwrap_or}
use Rattle.std.proofs.lemmas.List.{drop_all}
use Rattle.smil_model.specs.declared.times.Time.TheVariants.{Unresolved}
use Rattle.smil_model.specs.declared.diary.Entry.{Entry}
use Rattle.smil_model.specs.declared.document.Node.{Node}
use Rattle.smil_model.specs.document.Document.{elements, serials}
use Rattle.smil_model.specs.diary.Diary.{History, up_to, birth, since_birth, is_alive, deferral, deferral_after, iteration_from}
use Rattle.smil_model.specs.diary.Plays.{passed, passed_after}
use Rattle.smil_model.specs.shown.Views.{deferred_begin}
use Rattle.smil_diary.proofs.TestChoices.{same_choice}
use Rattle.smil_past.specs.declared.plays.facts.PlayFacts.{PlayFacts}
use Rattle.smil_past.specs.declared.plays.TheConstants.{IDLE}
use Rattle.smil_past.specs.Played.{all_played, played}
use Rattle.smil_past.specs.Rows.{idle_row, keys_of, reset_row}

pub keys_idle : (whos : List ℕ) → keys_of (map idle_row whos) ≡ whos
keys_idle [] = refl
keys_idle (who ∷ whos) = ap (λ keys. who ∷ keys) (keys_idle whos)

-- ---- of the history without entries

module _ (h : History) where
  abbrev fresh : History
  fresh = up_to h []

  none_since : (s : ℕ) → since_birth fresh s ≡ []
  none_since s = drop_all (birth fresh s) [] (omega arith)

  deferral_none : (s : ℕ) → deferral fresh s ≡ None
  deferral_none s =
      ap (λ ds. cond (is_alive fresh s) (fold (λ before (x : Entry). deferral_after s x before x.step) None ds) None) (none_since s)
      ∙ same_choice (is_alive fresh s) None

  passed_none : (s : ℕ) → passed fresh s ≡ None
  passed_none s = ap (fold (λ before (x : Entry). passed_after s before x.step) None) (none_since s)

  counted_none : (s : ℕ) → iteration_from s (since_birth fresh s) ≡ None
  counted_none s = ap (iteration_from s) (none_since s)

  abbrev row_by : Option ℤ → Option ℤ → Option ℕ → PlayFacts
  row_by deferred passed counted = record { begun = None; shown_begun = None; first = pos 0; start = pos 0; first_finished = None; last_finished = None; shown_deferred = deferred; passed = passed; length = Unresolved; paused = false; iteration = unwrap_or counted 0; finished = 0; began_since_birth = is_some counted }

  played_idle : (s : ℕ) → IDLE ≡ played fresh s
  played_idle s =
      sym (ap (λ o. row_by (option_and_then (λ (x : Entry). deferred_begin fresh s x.moment x.step) o) (passed fresh s) (iteration_from s (since_birth fresh s))) (deferral_none s)
      ∙ ap (λ o. row_by None o (iteration_from s (since_birth fresh s))) (passed_none s)
      ∙ ap (row_by None None) (counted_none s))

  rows_idle : (es : List Node) → map idle_row (serials es) ≡ map (λ (e : Node). (e.serial, played fresh e.serial)) es
  rows_idle [] = refl
  rows_idle (e ∷ es) =
      ap (λ r. (e.serial, r) ∷ map idle_row (serials es)) (played_idle e.serial)
      ∙ ap (λ rows. (e.serial, played fresh e.serial) ∷ rows) (rows_idle es)

  pub all_idle : (nodes : List Node) → h.nodes ≡ nodes → map idle_row (serials (elements nodes)) ≡ all_played fresh
  all_idle nodes same = ap (λ ns. map idle_row (serials (elements ns))) (sym same) ∙ rows_idle (elements h.nodes)

-- ---- of rows that are reset

pub keys_reset : (rows : List (ℕ × PlayFacts)) → keys_of (map reset_row rows) ≡ keys_of rows
keys_reset [] = refl
keys_reset (row ∷ rows) = ap (λ keys. row.0 ∷ keys) (keys_reset rows)

rows_reset : (h : History) (es : List Node) → map reset_row (map (λ (e : Node). (e.serial, played h e.serial)) es) ≡ map idle_row (serials es)
rows_reset h [] = refl
rows_reset h (e ∷ es) = ap (λ rows. idle_row e.serial ∷ rows) (rows_reset h es)

pub all_reset : (h k : History) → k.nodes ≡ h.nodes → map reset_row (all_played h) ≡ all_played (up_to k [])
all_reset h k same = rows_reset h (elements h.nodes) ∙ all_idle k h.nodes same
