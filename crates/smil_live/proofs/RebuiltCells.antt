-- Cells that are rebuilt from a part of the diary, and what they go on from there.
use Rattle.std.proofs.Common.{◌≡◌, refl, sym, ◌∙◌, ap, subst, ℕ, suc, zero, ◌≤◌, List, [], ◌∷◌, None, ℤ, true, arith, length, take, drop, w64, to_z, of_z, FitsSigned}
use Rattle.std.specs.Prelude.{pos, int_le, nat_abs}
use Rattle.std.proofs.lemmas.Int.{ints, to_z-of_z}
use Rattle.smil_model.specs.declared.diary.Entry.{Entry}
use Rattle.smil_model.specs.declared.diary.LogEntry.{LogEntry}
use Rattle.smil_model.specs.diary.Diary.{last_moment}
use Rattle.smil_model.specs.diary.Logs.{moments_rise}
use Rattle.smil_model.specs.declared.times.TheConstants.{HORIZON}
use Rattle.smil_model.specs.document.Document.{Document}
use Rattle.smil_model.specs.document.Valid.{IsValid}
use Rattle.smil_model.specs.shown.Orders.{IsState, Presentation}
use Rattle.smil_model.proofs.NumberOrders.{le_from}
use Rattle.smil_laws.specs.Cut.{logged}
use Rattle.smil_cells.specs.CellsState.{IsRebuilt, MayRebuild, CellsState}
use Rattle.smil_live.specs.Moves.{IsReplayed, IsUnderWay, edited_to, replay_of}
use Rattle.smil_live.proofs.RebuiltParts.{IsPart}
use Rattle.smil_live.proofs.ReplayedLogs.{fits, under_way}

pub may_rebuild : (s : CellsState) (d : Document) (len bound : ℕ) → IsValid d → len ≤ length s.diary → s.marked ≡ None → IsPart d.nodes s.presentation.log (take len s.diary) bound → MayRebuild s d len
may_rebuild s d len bound valid within unmarked part = record {
  valid = valid;
  within = within;
  unmarked = unmarked;
  at = part.at;
  diary_is = part.diary_is;
  moment_is = part.moment_is;
  reached = part.reached;
}

-- ---- places of the first entries

take_again : (n : ℕ) (xs : List LogEntry) → take (length (take n xs)) xs ≡ take n xs
take_again zero xs = refl
take_again (suc n) [] = refl
take_again (suc n) (x ∷ xs) = ap (λ (l : List LogEntry). x ∷ l) (take_again n xs)

drop_again : (n : ℕ) (xs : List LogEntry) → drop (length (take n xs)) xs ≡ drop n xs
drop_again zero xs = refl
drop_again (suc n) [] = refl
drop_again (suc n) (x ∷ xs) = drop_again n xs

at_most : (a b : ℕ) (m : ℤ) → pos a ≡ m → int_le m (pos b) ≡ true → a ≤ b
at_most a b m e l = grind (arith, ints)

-- ---- the cells

module _ (s t : CellsState) (d : Document) (len : ℕ) (bound : ℕ) (rebuilt : IsRebuilt s d len t) (part : IsPart d.nodes s.presentation.log (take len s.diary) bound) where
  entries : List Entry
  entries = take len s.diary

  log_is : t.presentation.log ≡ take (logged (take len s.diary)) s.presentation.log
  log_is = rebuilt.log_is ∙ ap (λ (l : List Entry). take (logged l) s.presentation.log) rebuilt.diary_is

  pub now_is : pos t.presentation.now ≡ last_moment (take len s.diary)
  now_is = rebuilt.moment_is ∙ ap last_moment rebuilt.diary_is

  pub not_later : t.presentation.now ≤ bound
  not_later = at_most t.presentation.now bound (last_moment (take len s.diary)) now_is part.until

  -- they are under way to each presentation of the document, with the same log, at a moment that is
  -- not before theirs
  pub rebuilt_way : (p : Presentation) → d ≡ p.document → p.log ≡ s.presentation.log → bound ≡ p.now → IsUnderWay p (length t.presentation.log) t
  rebuilt_way p same log here = record {
    document_is = rebuilt.document_is ∙ same;
    log_is =
        log_is
        ∙ (sym (take_again (logged (take len s.diary)) s.presentation.log)
        ∙ (ap (λ (l : List LogEntry). take (length l) s.presentation.log) (sym log_is) ∙ ap (take (length t.presentation.log)) (sym log)));
    rise =
        ap (λ (m : ℤ). moments_rise m (drop (length t.presentation.log) p.log)) now_is
        ∙ (ap (λ (l : List LogEntry). moments_rise (last_moment (take len s.diary)) (drop (length t.presentation.log) l)) log
        ∙ (ap (λ (l : List LogEntry). moments_rise (last_moment (take len s.diary)) (drop (length l) s.presentation.log)) log_is
        ∙ (ap (moments_rise (last_moment (take len s.diary))) (drop_again (logged (take len s.diary)) s.presentation.log) ∙ part.rise)));
    until = subst (λ (n : ℕ). t.presentation.now ≤ n) here not_later;
    sound = rebuilt.sound;
    unmarked = rebuilt.unmarked;
  }

-- ---- the same log, heard anew

pub replay_is : (p : Presentation) (doc d : Document) (log : List LogEntry) (to : ℤ) → doc ≡ d → log ≡ p.log → to ≡ pos p.now → replay_of doc log to ≡ edited_to p d
replay_is p doc d log to same logs moment =
    ap (λ (e : Document). replay_of e log to) same
    ∙ ap (λ (l : List LogEntry). record { document = d; log = l; now = nat_abs to }) logs
    ∙ ap (λ (t : ℤ). record { document = d; log = p.log; now = nat_abs t }) moment

-- a moment of a state is kept as it is in 64 bits
pub moment_kept : (p : Presentation) (m : ℤ) → IsState p → m ≡ pos p.now → to_z w64 (of_z w64 m) ≡ pos p.now
moment_kept p m state is =
    to_z-of_z w64 m (subst (λ (z : ℤ). FitsSigned w64 z) (sym is) (fits 0 (pos p.now) (omega (arith, ints)) (le_from (pos p.now) HORIZON state.now))) ∙ is

-- new cells of a document are under way
pub new_way : (d : Document) (log : List LogEntry) (to : ℤ) (s : CellsState) → IsState (replay_of d log to) → s.presentation ≡ record { document = d; log = []; now = 0 } → s.fault ≡ None → s.marked ≡ None
    → IsUnderWay (replay_of s.presentation.document log to) (length s.presentation.log) s
new_way d log to s state is sound unmarked =
    subst (λ (e : Document). IsUnderWay (replay_of e log to) (length s.presentation.log) s) (sym (ap (λ (p : Presentation). p.document) is))
    (subst (λ (n : ℕ). IsUnderWay (replay_of d log to) n s) (sym (ap (λ (p : Presentation). length p.log) is)) (under_way (replay_of d log to) state s is sound unmarked))

pub made_of : (d : Document) (log : List LogEntry) (to : ℤ) (s t : CellsState) → s.presentation ≡ record { document = d; log = []; now = 0 } → IsReplayed (replay_of s.presentation.document log to) t → IsReplayed (replay_of d log to) t
made_of d log to s t is replayed = subst (λ (e : Document). IsReplayed (replay_of e log to) t) (ap (λ (p : Presentation). p.document) is) replayed
