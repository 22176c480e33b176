-- A chronicle that has first entries of a diary, and catches up.
use Rattle.std.proofs.Common.{◌≡◌, sym, ◌∙◌, ap, subst, ℕ, ◌+◌, ◌≤◌, List, [], ◌∷◌, ◌++◌, take, length, Some, arith}
use Rattle.std.specs.Prelude.{drop, slice_get}
use Rattle.std.proofs.Math.Seq.{take-length}
use Rattle.std.proofs.lemmas.List.{length_push, take-append-drop}
use Rattle.std.proofs.lemmas.Option.{slice_get_within}
use Rattle.smil_model.specs.declared.diary.Entry.{Entry}
use Rattle.smil_model.specs.declared.diary.LogEntry.{LogEntry}
use Rattle.smil_model.specs.document.Document.{Document}
use Rattle.smil_laws.specs.Cut.{IsNamedBelow, NamesBelow}
use Rattle.smil_laws.proofs.Lists.{take-more_at}
use Rattle.smil_tree.proofs.KinLists.{each_left}
use Rattle.smil_past.specs.declared.chronicle.Chronicle.{Chronicle}
use Rattle.smil_past.specs.Past.{IsPossible, MayFollow, unmarked}
use Rattle.smil_past.specs.Readings.{Holds}
use Rattle.smil_past.specs.Chronicle.{Lags, Tells, TellsNothing}
use Rattle.smil_past.proofs.FirstEntries.{follows_at, possible_before}

pub names_front : (place len : ℕ) (diary : List Entry) → NamesBelow place diary → NamesBelow place (take len diary)
names_front place len diary named =
    each_left (λ (x : Entry). IsNamedBelow place x.step) (take len diary) (drop len diary)
    (subst (NamesBelow place) (sym (take-append-drop len diary)) named)

-- with no entry it has the first entries of any diary
pub lags_new : (document : Document) (log : List LogEntry) (diary : List Entry) (c : Chronicle) → IsPossible document log diary → TellsNothing document log c → Lags document log diary c
lags_new document log diary c possible new =
    let none : length c.book ≡ 0 = ap length new.nothing in
    record {
      within = omega (arith, none);
      first = new.nothing ∙ sym (ap (λ k. take k diary) none);
      tells = subst (λ ds. Holds document log ds c.readings) (sym new.nothing) (record { possible = possible_before document log diary possible; readings_are = new.readings_are });
    }

module _ (document : Document) (log : List LogEntry) (diary : List Entry) (place : ℕ) (y : Entry) (c : Chronicle) (at : slice_get diary place ≡ Some y) (lags : Lags document log diary c) (reached : length c.book ≡ place) where
  book_is : c.book ≡ take place diary
  book_is = lags.first ∙ ap (λ k. take k diary) reached

  -- the next entry may follow
  pub next_follows : IsPossible document log diary → MayFollow (unmarked document log c.book) y
  next_follows possible =
      subst (λ ds. MayFollow (unmarked document log ds) y) (sym book_is) (follows_at document log diary place y possible at)

  -- and is the next of the diary
  pub lags_next : (next : Chronicle) → next.book ≡ c.book ++ y ∷ [] → Tells document log next → Lags document log diary next
  lags_next next is tells =
      let more : length next.book ≡ place + 1 = ap length is ∙ length_push c.book y ∙ ap (λ k. k + 1) reached in
      record {
        within = omega (arith, more, slice_get_within diary place y at);
        first =
            is ∙ ap (λ ds. ds ++ y ∷ []) book_is ∙ sym (take-more_at diary place y at)
            ∙ sym (ap (λ k. take k diary) more);
        tells = tells;
      }

-- what has all entries is of the whole diary
pub caught_up : (document : Document) (log : List LogEntry) (diary : List Entry) (c : Chronicle) → Lags document log diary c → length diary ≤ length c.book → c.book ≡ diary
caught_up document log diary c lags all =
    let same : length c.book ≡ length diary = omega (arith, lags.within, all) in
    lags.first ∙ ap (λ k. take k diary) same ∙ take-length diary

-- a chronicle has the first entries of its own diary
pub lags_itself : (document : Document) (log : List LogEntry) (c : Chronicle) → Tells document log c → Lags document log c.book c
lags_itself document log c tells = record { within = omega arith; first = sym (take-length c.book); tells = tells }
