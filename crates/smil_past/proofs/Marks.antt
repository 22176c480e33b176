-- Marks, and going back to them.
use Rattle.std.proofs.Common.{◌≡◌, refl, sym, ◌∙◌, ap, subst, ℕ, ◌≤◌, List, [], ◌∷◌, ◌++◌, take, length, length-append, Option, None, Some, arith}
use Rattle.std.specs.Prelude.{drop}
use Rattle.std.proofs.Math.Seq.{take-length}
use Rattle.std.proofs.lemmas.List.{length_push, take-append-drop, take-append-le, take_all}
use Rattle.smil_model.specs.declared.diary.Entry.{Entry}
use Rattle.smil_model.specs.declared.diary.LogEntry.{LogEntry}
use Rattle.smil_model.specs.document.Document.{Document}
use Rattle.smil_laws.specs.Cut.{NamesBelow}
use Rattle.smil_instance_rows.specs.Rows.{rows_before}
use Rattle.smil_instance_rows.specs.Notes.{GoesBackTheSame, MarkedRows, rows_back}
use Rattle.smil_instances.specs.Intake.{history_of}
use Rattle.smil_instances.specs.SettledTimes.{settled_rows}
use Rattle.smil_instances.proofs.Early.{settled_early}
use Rattle.smil_past.specs.declared.readings.Readings.{Readings}
use Rattle.smil_past.specs.Past.{IsPossible, MarkedHistory, at_mark}
use Rattle.smil_past.specs.Readings.{AreReadingsOf, Holds, MayGoBack}
use Rattle.smil_past.specs.Chronicle.{BacksUp, HoldsAt, place_after}
use Rattle.smil_past.proofs.LogGrown.{holds_shorter}

-- ---- one entry more

pub backs_push : (document : Document) (log : List LogEntry) (diary : List Entry) (y : Entry) (readings now : Readings) (noted after : MarkedRows) (marked : Option (ℕ × ℕ)) → GoesBackTheSame readings.instances.rows noted now.instances.rows after → BacksUp document log diary readings noted marked → BacksUp document log (diary ++ y ∷ []) now after marked
backs_push document log diary y readings now noted after marked same backs = λ mark is.
    let at = backs mark is in
    let front : take mark.1 diary ≡ take mark.1 (diary ++ y ∷ []) = sym (take-append-le mark.1 diary (y ∷ []) at.diary_within) in
    record {
      log_within = at.log_within;
      diary_within = omega (arith, at.diary_within, length_push diary y);
      possible = subst (IsPossible document (take mark.0 log)) front at.possible;
      place = same.mark ∙ at.place;
      rows = same.back (place_after mark.1) at.place ∙ at.rows ∙ ap (λ ds. settled_rows (history_of document (take mark.0 log) ds)) front;
    }

-- nothing came, and more may be noted
pub backs_noted : (document : Document) (log : List LogEntry) (diary : List Entry) (readings now : Readings) (noted after : MarkedRows) (marked : Option (ℕ × ℕ)) → GoesBackTheSame readings.instances.rows noted now.instances.rows after → BacksUp document log diary readings noted marked → BacksUp document log diary now after marked
backs_noted document log diary readings now noted after marked same backs = λ mark is.
    let at = backs mark is in
    record {
      log_within = at.log_within;
      diary_within = at.diary_within;
      possible = at.possible;
      place = same.mark ∙ at.place;
      rows = same.back (place_after mark.1) at.place ∙ at.rows;
    }

-- ---- a longer log, and a shorter one

module _ (document : Document) (log more : List LogEntry) (diary : List Entry) (readings : Readings) (noted : MarkedRows) (marked : Option (ℕ × ℕ)) where
  backs_longer : BacksUp document log diary readings noted marked → BacksUp document (log ++ more) diary readings noted marked
  backs_longer backs = λ mark is.
      let at = backs mark is in
      let front : take mark.0 log ≡ take mark.0 (log ++ more) = sym (take-append-le mark.0 log more at.log_within) in
      record {
        log_within = omega (arith, at.log_within, length-append log more);
        diary_within = at.diary_within;
        possible = subst (λ l. IsPossible document l (take mark.1 diary)) front at.possible;
        place = at.place;
        rows = at.rows ∙ ap (λ l. settled_rows (history_of document l (take mark.1 diary))) front;
      }

  backs_shorter : ((mark : ℕ × ℕ) → marked ≡ Some mark → mark.0 ≤ length log) → BacksUp document (log ++ more) diary readings noted marked → BacksUp document log diary readings noted marked
  backs_shorter within backs = λ mark is.
      let at = backs mark is in
      let low = within mark is in
      let front : take mark.0 (log ++ more) ≡ take mark.0 log = take-append-le mark.0 log more low in
      record {
        log_within = low;
        diary_within = at.diary_within;
        possible = subst (λ l. IsPossible document l (take mark.1 diary)) front at.possible;
        place = at.place;
        rows = at.rows ∙ ap (λ l. settled_rows (history_of document l (take mark.1 diary))) front;
      }

pub backs_heard : (document : Document) (log now : List LogEntry) (entry : LogEntry) (diary : List Entry) (readings : Readings) (noted : MarkedRows) (marked : Option (ℕ × ℕ)) → now ≡ log ++ entry ∷ [] → BacksUp document log diary readings noted marked → BacksUp document now diary readings noted marked
backs_heard document log now entry diary readings noted marked is backs =
    subst (λ l. BacksUp document l diary readings noted marked) (sym is) (backs_longer document log (entry ∷ []) diary readings noted marked backs)

pub backs_unheard : (document : Document) (log full now : List LogEntry) (entry : LogEntry) (diary : List Entry) (readings : Readings) (noted : MarkedRows) (marked : Option (ℕ × ℕ)) → full ≡ log ++ entry ∷ [] → now ≡ log → ((mark : ℕ × ℕ) → marked ≡ Some mark → mark.0 ≤ length log) → BacksUp document full diary readings noted marked → BacksUp document now diary readings noted marked
backs_unheard document log full now entry diary readings noted marked is cut within backs =
    subst (λ l. BacksUp document l diary readings noted marked) (sym cut)
    (backs_shorter document log (entry ∷ []) diary readings noted marked within (subst (λ l. BacksUp document l diary readings noted marked) is backs))

-- ---- marks

-- there is no mark
pub backs_none : (document : Document) (log : List LogEntry) (diary : List Entry) (readings : Readings) (noted : MarkedRows) → BacksUp document log diary readings noted None
backs_none document log diary readings noted = λ mark is. let none : ⊥ = cc in absurd none

-- a mark is made here
pub backs_here : (document : Document) (log : List LogEntry) (diary : List Entry) (readings : Readings) (noted : MarkedRows) → IsPossible document log diary → AreReadingsOf readings document log diary → noted ≡ record { notes = []; mark = Some (place_after (length diary)) } → BacksUp document log diary readings noted (Some (length log, length diary))
backs_here document log diary readings noted possible known is = λ mark at.
    let here : (length log, length diary) ≡ mark = cc in
    subst (HoldsAt document log diary readings noted) here
    (record {
      log_within = omega arith;
      diary_within = omega arith;
      possible = subst (λ l. IsPossible document l (take (length diary) diary)) (sym (take-length log)) (subst (IsPossible document log) (sym (take-length diary)) possible);
      place = ap (λ (n : MarkedRows). n.mark) is;
      rows =
          ap (rows_back readings.instances.rows) is
          ∙ ap (rows_before (place_after (length diary))) known.instances_are.rows
          ∙ settled_early (place_after (length diary)) (history_of document log diary) (omega arith) (omega arith)
          ∙ ap (λ l. settled_rows (history_of document l diary)) (sym (take-length log))
          ∙ ap (λ ds. settled_rows (history_of document (take (length log) log) ds)) (sym (take-length diary));
    })

-- ---- back at a mark

module _ (document : Document) (log : List LogEntry) (diary : List Entry) (readings : Readings) (noted : MarkedRows) (mark : ℕ × ℕ) (at : HoldsAt document log diary readings noted mark) where
  -- nothing came since
  pub holds_back : length diary ≤ mark.1 → Holds document log diary readings → Holds document (take mark.0 log) diary readings
  holds_back all holds =
      holds_shorter document (take mark.0 log) (drop mark.0 log) diary
      (subst (NamesBelow (length (take mark.0 log))) (take_all mark.1 diary all) at.possible.named) readings
      (subst (λ l. Holds document l diary readings) (sym (take-append-drop mark.0 log)) holds)

  -- something came since
  pub may_go_back : (less : List LogEntry) → less ≡ take mark.0 log → AreReadingsOf readings document log diary → MayGoBack readings noted document less (take mark.1 diary)
  may_go_back less cut known =
      subst (λ l. MayGoBack readings noted document l (take mark.1 diary)) (sym cut)
      (record {
        past = history_of document log diary;
        same_nodes = refl;
        follows = record { clocks_are = known.clocks_are; plays_are = known.plays_are; queues_are = known.queues_are };
        dependents = known.instances_are.dependents;
        rows = at.rows;
        possible = at.possible;
      })

-- what has happened is then what had at the mark
pub went_back : (document : Document) (log less : List LogEntry) (diary fewer : List Entry) (marked none : Option (ℕ × ℕ)) (now : MarkedHistory) (mark other : ℕ × ℕ) → record { document = document; log = log; diary = diary; marked = marked } ≡ now → marked ≡ Some mark → now.marked ≡ Some other → less ≡ take mark.0 log → fewer ≡ take mark.1 diary → none ≡ None
    → record { document = document; log = less; diary = fewer; marked = none } ≡ at_mark now other
went_back document log less diary fewer marked none now mark other view is stands cut few gone =
    let both : Some mark ≡ Some other = sym is ∙ ap (λ (h : MarkedHistory). h.marked) view ∙ stands in
    let same : mark ≡ other = cc in
    ap (λ l. record { document = document; log = l; diary = fewer; marked = none }) cut
    ∙ ap (λ ds. record { document = document; log = take mark.0 log; diary = ds; marked = none }) few
    ∙ ap (λ m. record { document = document; log = take mark.0 log; diary = take mark.1 diary; marked = m }) gone
    ∙ ap (λ (h : MarkedHistory). at_mark h mark) view
    ∙ ap (at_mark now) same
