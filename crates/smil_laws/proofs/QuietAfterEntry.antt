-- All is the same any number of milliseconds after the last entry.
use Rattle.std.proofs.Common.{◌≡◌, refl, ◌∙◌, ap, ℕ, suc, zero, ◌+◌, arith, length}
use Rattle.std.specs.Prelude.{pos, reverse}
use Rattle.smil_model.specs.document.Document.{elements}
use Rattle.smil_model.specs.diary.Diary.{History}
use Rattle.smil_model.specs.diary.Clocks.{until}
use Rattle.smil_model.specs.interval.Current.{in_table, current_interval}
use Rattle.smil_model.specs.happening.Keys.{coming_of}
use Rattle.smil_model.specs.shown.Views.{view_of}
use Rattle.smil_laws.specs.Locality.{ParentsBefore}
use Rattle.smil_laws.proofs.ClocksStand.{chained}
use Rattle.smil_laws.proofs.TimePasses.{table-next, keys-of-next, view-next}
use Rattle.smil_laws.proofs.QuietResolution.{until_later}
use Rattle.smil_laws.specs.Same.{IsSame}

pub same_from : (h : History) (n m k : ℕ) → m + n ≡ k → ParentsBefore (reverse h.nodes) → until (pos m) h.diary ≡ h.diary → IsSame h (pos m) h (pos k)
same_from h zero m k e first settled =
    let here : m ≡ k = omega (arith, e) in
    rw (← here) (record { nodes = refl; diary = refl; table = refl; comings = λ place x. refl; view = λ x. refl })
same_from h (suc n) m k e first settled =
    let rest = same_from h n (suc m) k (omega (arith, e)) first (until_later m h.diary settled) in
    let next = table-next h m settled (chained h first) (length (elements h.nodes)) in
    record {
      nodes = refl;
      diary = refl;
      table = rest.table ∙ next;
      comings = λ place x.
          rest.comings place x
          ∙ keys-of-next h m settled (chained h first) (current_interval h (pos (suc m))) place x
          ∙ ap (λ rows. coming_of h (in_table rows) (pos m) place x) next;
      view = λ x.
          rest.view x
          ∙ view-next h m settled (chained h first) (current_interval h (pos (suc m))) x
          ∙ ap (λ rows. view_of h (pos m) (in_table rows) x) next;
    }

pub passes_quietly : (h : History) (m n : ℕ) → ParentsBefore (reverse h.nodes) → until (pos m) h.diary ≡ h.diary → IsSame h (pos m) h (pos (m + n))
passes_quietly h m n first settled = same_from h n m (m + n) refl first settled
