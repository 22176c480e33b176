-- What a diary says of elements, clocks and plays: the same without the plain texts.
use Rattle.std.proofs.Common.{◌≡◌, refl, ◌∙◌, ap, ℕ, suc, zero, ◌+◌, List, [], None, ℤ, true}
use Rattle.std.specs.Prelude.{cond, ◌==◌, ◌&&◌, drop, fold, pos, negsuc, ◌+ℤ◌, ◌-ℤ◌, unwrap_or, is_some}
use Rattle.std.specs.List.{list_any, last_or}
use Rattle.smil_model.specs.declared.document.Node.{Node}
use Rattle.smil_model.specs.declared.diary.Entry.{Entry}
use Rattle.smil_model.specs.declared.diary.Step.{Step}
use Rattle.smil_model.specs.declared.diary.Step.TheVariants.{Began, Cut}
use Rattle.smil_model.specs.document.Document.{is_element, time_parent, lineage}
use Rattle.smil_model.specs.diary.Diary.{History, birth, birth_under, since_birth, is_paused, lives_under, is_alive, deferral, deferral_after, is_deferred, iteration, iteration_from}
use Rattle.smil_model.specs.diary.Clocks.{until, stands_by, elapsed, run, outer_under, outer, stands, stands_under, outer_stands, to_document, between, start_of, play_start, play_start_after, iteration_start, iteration_start_after, start_under, parent_start}
use Rattle.smil_model.specs.diary.Plays.{Plays, finish_with, play_after, is_birth_under, plays, last_finished, passed, passed_after}
use Rattle.smil_text_laws.specs.PlainTexts.{without_texts, bare}
use Rattle.smil_text_laws.proofs.BareLists.{any_mapped}
use Rattle.smil_text_laws.proofs.BareDocuments.{under_same, lineage_bare}

-- the history of the document without plain texts
abbrev pub bare_of : History → History
bare_of h = record { nodes = bare h.nodes; log = h.log; diary = h.diary }

module _ (h : History) where
  -- ---- what the diary says

  pub birth_same : (s : ℕ) → birth (bare_of h) s ≡ birth h s
  birth_same = under_same (λ o. birth_under o h.diary) (λ o. birth_under o h.diary) refl (λ p. refl) h.nodes

  pub since_same : (s : ℕ) → since_birth (bare_of h) s ≡ since_birth h s
  since_same s = ap (λ k. drop k h.diary) (birth_same s)

  pub alive_same : (s : ℕ) → is_alive (bare_of h) s ≡ is_alive h s
  alive_same = under_same (λ o. lives_under o h.diary) (λ o. lives_under o h.diary) refl (λ p. refl) h.nodes

  pub deferral_same : (s : ℕ) → deferral (bare_of h) s ≡ deferral h s
  deferral_same s = λ i. cond (alive_same s i) (fold (λ before (x : Entry). deferral_after s x before x.step) None (since_same s i)) None

  pub deferred_same : (s : ℕ) → is_deferred (bare_of h) s ≡ is_deferred h s
  deferred_same s = ap is_some (deferral_same s)

  pub iteration_same : (s : ℕ) → iteration (bare_of h) s ≡ iteration h s
  iteration_same s = ap (λ d. unwrap_or (iteration_from s d) 0) (since_same s)

  pub passed_same : (s : ℕ) → passed (bare_of h) s ≡ passed h s
  passed_same s = ap (λ d. fold (λ before (x : Entry). passed_after s before x.step) None d) (since_same s)

  -- ---- clocks

  stands_by_same : (d : List Entry) (s : ℕ) → stands_by (bare h.nodes) d s ≡ stands_by h.nodes d s
  stands_by_same d s =
      ap (list_any (λ (n : Node). is_element n && is_paused d n.serial)) (lineage_bare h.nodes s)
      ∙ any_mapped without_texts (λ (n : Node). is_element n && is_paused d n.serial) (λ (n : Node). is_element n && is_paused d n.serial) (λ n. refl) (lineage h.nodes s)

  elapsed_same : (s m : ℕ) → elapsed (bare_of h) s m ≡ elapsed h s m
  elapsed_same s zero = refl
  elapsed_same s (suc m) = step (elapsed_same s m)
    where
      step : elapsed (bare_of h) s m ≡ elapsed h s m → elapsed (bare_of h) s (suc m) ≡ elapsed h s (suc m)
      step r = λ i. r i + cond (stands_by_same (until (pos m) h.diary) s i) 0 1

  pub run_same : (s : ℕ) (m : ℤ) → run (bare_of h) s m ≡ run h s m
  run_same s (pos m) = ap pos (elapsed_same s m)
  run_same s (negsuc m) = refl

  pub outer_same : (s : ℕ) (m : ℤ) → outer (bare_of h) s m ≡ outer h s m
  outer_same s m = under_same (λ o. outer_under (bare_of h) o m) (λ o. outer_under h o m) refl (λ p. run_same p.serial m) h.nodes s

  pub stands_same : (s : ℕ) → stands (bare_of h) s ≡ stands h s
  stands_same = stands_by_same h.diary

  pub outer_stands_same : (s : ℕ) → outer_stands (bare_of h) s ≡ outer_stands h s
  outer_stands_same = under_same (stands_under (bare_of h)) (stands_under h) refl (λ p. stands_same p.serial) h.nodes

  pub to_document_same : (s : ℕ) (value now : ℤ) → to_document (bare_of h) s value now ≡ to_document h s value now
  to_document_same s value now = ap (λ m. now +ℤ (value -ℤ m)) (outer_same s now)

  pub between_same : (from to : ℕ) (value moment : ℤ) → between (bare_of h) from to value moment ≡ between h from to value moment
  between_same from to value moment = λ i. outer_same to moment i +ℤ (value -ℤ outer_same from moment i)

  start_same : (s : ℕ) (moment begin : ℤ) → start_of (bare_of h) s moment begin ≡ start_of h s moment begin
  start_same s moment begin = λ i. run_same s moment i +ℤ (begin -ℤ outer_same s moment i)

  started_same : (s : ℕ) (moment before : ℤ) (step : Step) → play_start_after (bare_of h) s moment before step ≡ play_start_after h s moment before step
  started_same s moment before (Began who begin) = ap (λ b. cond (who == s) b before) (start_same s moment begin)
  started_same s moment before _ = refl

  pub play_start_same : (s : ℕ) → play_start (bare_of h) s ≡ play_start h s
  play_start_same s = λ i. fold (λ before (x : Entry). started_same s x.moment before x.step i) (pos 0) h.diary

  iterated_same : (s : ℕ) (moment before : ℤ) (step : Step) → iteration_start_after (bare_of h) s moment before step ≡ iteration_start_after h s moment before step
  iterated_same s moment before (Began who begin) = ap (λ b. cond (who == s) b before) (start_same s moment begin)
  iterated_same s moment before _ = refl

  pub iteration_start_same : (s : ℕ) → iteration_start (bare_of h) s ≡ iteration_start h s
  iteration_start_same s = λ i. fold (λ before (x : Entry). iterated_same s x.moment before x.step i) (pos 0) h.diary

  pub parent_start_same : (s : ℕ) → parent_start (bare_of h) s ≡ parent_start h s
  parent_start_same = under_same (start_under (bare_of h)) (start_under h) refl (λ p. iteration_start_same p.serial) h.nodes

  -- ---- plays

  pub play_after_same : (s : ℕ) (moment : ℤ) (so_far : Plays) (step : Step) → play_after (bare_of h) s moment so_far step ≡ play_after h s moment so_far step
  play_after_same s moment so_far (Cut who) = ap (λ value. cond (who == s) (record { present = None; finished = finish_with so_far.present (record { value = value; moment = moment }) true so_far.finished }) so_far) (outer_same s moment)
  play_after_same s moment so_far _ = refl

  born_same : (s : ℕ) (step : Step) → is_birth_under (time_parent (bare h.nodes) s) step ≡ is_birth_under (time_parent h.nodes s) step
  born_same s step = under_same (λ o. is_birth_under o step) (λ o. is_birth_under o step) refl (λ p. refl) h.nodes s

  pub plays_same : (s : ℕ) → plays (bare_of h) s ≡ plays h s
  plays_same s = λ i. fold (λ (so_far : Plays) (x : Entry). cond (born_same s x.step i) (record { present = so_far.present; finished = [] }) (play_after_same s x.moment so_far x.step i)) (record { present = None; finished = [] }) h.diary

  pub last_finished_same : (s : ℕ) → last_finished (bare_of h) s ≡ last_finished h s
  last_finished_same s = ap (λ (p : Plays). last_or None p.finished) (plays_same s)
