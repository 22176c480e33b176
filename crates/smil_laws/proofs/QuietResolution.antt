-- While nothing comes and nothing is logged, the resolution only moves on in time.
use Rattle.std.proofs.Common.{◌≡◌, refl, sym, ◌∙◌, ap, ℕ, suc, zero, ◌+◌, ◌<◌, ◌≤◌, List, [], ◌∷◌, ◌++◌, length, Option, Some, None, ℤ, Bool, true, false, arith}
use Rattle.std.specs.Prelude.{pos, int_le, cond, reverse, slice_get}
use Rattle.std.specs.Option.{option_map_or}
use Rattle.std.proofs.lemmas.Int.{ints}
use Rattle.std.proofs.lemmas.Bool.{lt-ltb}
use Rattle.smil_model.specs.declared.diary.Entry.{Entry}
use Rattle.smil_model.specs.declared.diary.LogEntry.{LogEntry}
use Rattle.smil_model.specs.declared.diary.Step.TheVariants.{Logged}
use Rattle.smil_model.specs.diary.Diary.{History}
use Rattle.smil_model.specs.diary.Clocks.{until}
use Rattle.smil_model.specs.interval.Current.{in_table}
use Rattle.smil_model.specs.document.Document.{elements}
use Rattle.smil_model.specs.happening.Keys.{DueChange, coming, first_coming}
use Rattle.smil_model.specs.happening.Groups.{group}
use Rattle.smil_model.specs.happening.Resolution.{Course, Progress, history_at, next_step, after_coming, after_settling, after_quiet, after_steps}
use Rattle.smil_laws.specs.Locality.{ParentsBefore}
use Rattle.smil_laws.specs.Quiet.{IsSameLater, IsQuietFor, later_by}
use Rattle.smil_laws.proofs.ClocksStand.{chained}
use Rattle.smil_laws.proofs.TimePasses.{table-next, keys-next, views-next}
use Rattle.smil_laws.proofs.Lists.{filter_shorter}

pub same_later : (h : History) (m : ℕ) → ParentsBefore (reverse h.nodes) → until (pos m) h.diary ≡ h.diary → IsSameLater h m
same_later h m first settled = record {
  intervals = λ s. ap (λ rows. in_table rows s) (table-next h m settled (chained h first) (length (elements h.nodes)));
  coming = keys-next h m settled (chained h first);
  views = views-next h m settled (chained h first);
}

-- ---- entries up to a moment are entries up to the next

pub le_later : (x : ℤ) (m : ℕ) → int_le x (pos m) ≡ true → int_le x (pos (suc m)) ≡ true
le_later x m q = grind (arith, ints)

pub until_later : (m : ℕ) (ds : List Entry) → until (pos m) ds ≡ ds → until (pos (suc m)) ds ≡ ds
until_later m [] q = refl
until_later m (x ∷ xs) q = step (int_le x.moment (pos m)) refl q (until_later m xs)
  where
    step : (t : Bool) → int_le x.moment (pos m) ≡ t → cond t (x ∷ until (pos m) xs) (until (pos m) xs) ≡ x ∷ xs → (until (pos m) xs ≡ xs → until (pos (suc m)) xs ≡ xs) → until (pos (suc m)) (x ∷ xs) ≡ x ∷ xs
    step true t r later =
        let rest : until (pos m) xs ≡ xs = cc in
        ap (λ b. cond b (x ∷ until (pos (suc m)) xs) (until (pos (suc m)) xs)) (le_later x.moment m t) ∙ ap (λ ys. x ∷ ys) (later rest)
    step false t r later =
        let short : length (until (pos m) xs) ≤ length xs = filter_shorter (λ (y : Entry). int_le y.moment (pos m)) xs in
        let same : length (until (pos m) xs) ≡ suc (length xs) = ap length r in
        absurd (omega (arith, short, same))

-- ---- one step

pub not_due : (v : ℤ) (m n : ℕ) → m < n → int_le (pos n) v ≡ true → int_le v (pos m) ≡ false
not_due v m n l q = grind (arith, ints)

module _ (c : Course) (p : Progress) (n : ℕ) (quiet : IsQuietFor c p (suc n)) where
  quiet_step : after_quiet c p ≡ Some (record { moment = suc p.moment; heard = p.heard; diary = p.diary })
  quiet_step = ap (λ t. cond t (Some (record { moment = suc p.moment; heard = p.heard; diary = p.diary })) None) (lt-ltb p.moment c.last (omega (arith, quiet.last)))

  settling_step : (o : Option LogEntry) → slice_get c.log p.heard ≡ o → after_settling c p o ≡ after_quiet c p
  settling_step None q = refl
  settling_step (Some entry) q =
      ap (λ t. cond t (Some (record { moment = p.moment; heard = suc p.heard; diary = p.diary ++ record { moment = pos p.moment; step = Logged p.heard } ∷ [] })) (after_quiet c p)) (not_due entry.moment p.moment (p.moment + suc n) (omega arith) (quiet.log entry q))

  coming_step : (o : Option DueChange) → first_coming (coming (history_at c p) (pos p.moment)) ≡ o → after_coming c p o ≡ after_quiet c p
  coming_step None q = settling_step (slice_get c.log p.heard) refl
  coming_step (Some next) q =
      ap (λ t. cond t (Some (record { moment = p.moment; heard = p.heard; diary = p.diary ++ group (history_at c p) (pos p.moment) next.key.serial next.change })) (after_settling c p (slice_get c.log p.heard))) (not_due next.key.value p.moment (p.moment + suc n) (omega arith) (quiet.coming next q))
      ∙ settling_step (slice_get c.log p.heard) refl

  pub passes : next_step c p ≡ Some (record { moment = suc p.moment; heard = p.heard; diary = p.diary })
  passes = coming_step (first_coming (coming (history_at c p) (pos p.moment))) refl ∙ quiet_step

-- ---- all steps

same_place : (p : Progress) (m : ℕ) → p.moment ≡ m → p ≡ record { moment = m; heard = p.heard; diary = p.diary }
same_place p m q = ap (λ k. record { moment = k; heard = p.heard; diary = p.diary }) q

pub jumped : (c : Course) (p : Progress) (n : ℕ) → ParentsBefore (reverse c.nodes) → IsQuietFor c p n → after_steps c n p ≡ later_by n p
jumped c p zero first quiet = same_place p (p.moment + 0) (omega arith)
jumped c p (suc n) first quiet =
    let there : suc p.moment + n ≡ p.moment + suc n = omega arith in
    ap (λ o. option_map_or (λ q. after_steps c n q) o p) (passes c p n quiet)
    ∙ jumped c next n first rest
    ∙ ap (λ k. record { moment = k; heard = p.heard; diary = p.diary }) there
  where
    next : Progress
    next = record { moment = suc p.moment; heard = p.heard; diary = p.diary }

    there : suc p.moment + n ≡ p.moment + suc n
    there = omega arith

    rest : IsQuietFor c next n
    rest = record {
      past = until_later p.moment p.diary quiet.past;
      coming = λ k q. ap (λ m. int_le (pos m) k.key.value) there ∙ quiet.coming k (sym (ap first_coming (same_later (history_at c p) p.moment first quiet.past).coming) ∙ q);
      log = λ e q. ap (λ m. int_le (pos m) e.moment) there ∙ quiet.log e q;
      last = omega (arith, quiet.last);
    }
