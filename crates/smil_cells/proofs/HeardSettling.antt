-- A log entry that was heard, and settling that goes on after it.
use Rattle.std.proofs.Common.{◌≡◌, sym, ◌∙◌, ap, subst, ℕ, ◌+◌, ◌-◌, ◌≤◌, List, [], ◌∷◌, ◌++◌, Option, Some, ℤ, Bool, length, drop, filter, append_assoc}
use Rattle.smil_model.specs.declared.diary.Entry.{Entry}
use Rattle.smil_model.specs.declared.diary.LogEntry.{LogEntry}
use Rattle.smil_model.specs.declared.document.Node.{Node}
use Rattle.smil_model.specs.document.Document.{Document, elements, node_at, serials}
use Rattle.smil_model.specs.document.Closure.{has}
use Rattle.smil_model.specs.reach.Bounds.{reaches}
use Rattle.smil_model.specs.shown.Orders.{Presentation, course_of, as_of}
use Rattle.smil_diary.specs.declared.fault.BookFault.{BookFault}
use Rattle.smil_past.specs.Past.{MarkedHistory, logged_entry}
use Rattle.smil_cells.specs.CellsState.{CellsState, GoesOn, IsFront, IsHeard, IsRefusing, StayTouched, WhereTold, fresh_since, reached_since, with_logged}
use Rattle.smil_cells.specs.Standings.{standing_of}
use Rattle.smil_cells.proofs.SettlingSteps.{drops, fresh_through, least_adds_up, most_adds_up, reached_through, untouched}

module _ (old mid : CellsState) (entry : LogEntry) (heard : IsHeard old entry mid) where
  same_document : mid.presentation.document ≡ old.presentation.document
  same_document = ap (λ (p : Presentation). p.document) heard.presentation_is

  pub refusing_on : (new : CellsState) (f : BookFault) → IsRefusing mid new f → IsRefusing old new f
  refusing_on new f q = record { fault_is = q.fault_is; document = q.document ∙ same_document; marked = q.marked ∙ heard.marked }

  module _ (n : ℕ) (here : n ≡ mid.presentation.now) where
    moved_is : as_of mid.presentation n ≡ with_logged old.presentation entry
    moved_is = ap (λ (k : ℕ). as_of mid.presentation k) here ∙ heard.presentation_is

    pub state_on : (new : CellsState) → new.presentation ≡ as_of mid.presentation n → new.presentation ≡ with_logged old.presentation entry
    state_on new state = state ∙ moved_is

    pub front_on : (diary : List Entry) → IsFront (course_of (as_of mid.presentation n)) diary → IsFront (course_of (with_logged old.presentation entry)) diary
    front_on diary q = subst (λ (p : Presentation). IsFront (course_of p) diary) moved_is q

    module _ (new : CellsState) (state : new.presentation ≡ as_of mid.presentation n) (on : GoesOn mid new) where
      same_log : new.presentation.log ≡ mid.presentation.log
      same_log = ap (λ (p : Presentation). p.log) state

      here_in : (e : Node) → node_at (elements old.presentation.document.nodes) e.serial ≡ Some e → node_at (elements mid.presentation.document.nodes) e.serial ≡ Some e
      here_in e q = subst (λ (d : Document). node_at (elements d.nodes) e.serial ≡ Some e) (sym same_document) q

      pub goes_on_heard : StayTouched mid new → GoesOn old new
      goes_on_heard stays = record {
        diary = (
          logged_entry (length old.presentation.log) entry.moment ∷ on.diary.0,
          on.diary.1 ∙ (ap (λ (l : List Entry). l ++ on.diary.0) heard.diary_is ∙ append_assoc old.diary (logged_entry (length old.presentation.log) entry.moment ∷ []) on.diary.0),
        );
        sound = on.sound;
        marked = on.marked ∙ heard.marked;
        touched = on.touched ∙ ap (λ (d : Document). filter (has new.touched) (serials (elements d.nodes))) same_document;
        views = λ e q free.
            on.views e (here_in e q) free
            ∙ heard.views e q (untouched (has mid.touched e.serial) (has new.touched e.serial) free (stays e (here_in e q)));
      }

      reached_whole : reached_since old new ≡ reached_since old mid + reached_since mid new
      reached_whole =
          let nodes = old.presentation.document.nodes in
          let m : List Entry = logged_entry (length old.presentation.log) entry.moment ∷ [] in
          let by_mid : reached_since old mid ≡ reaches nodes new.presentation.log m =
          ap (λ (l : List LogEntry). reaches nodes l (drop (length old.diary) mid.diary)) (sym same_log) ∙ ap (reaches nodes new.presentation.log) (drops old.diary m mid.diary heard.diary_is) in
          reached_through old mid new same_document m on.diary.0 heard.diary_is on.diary.1 by_mid

      pub reached_heard_on : (a b c : ℕ) (flag : Bool) → a ≤ b → b ≤ c → WhereTold flag (b - a ≤ reached_since old mid) → WhereTold flag (c - b ≤ reached_since mid new) → WhereTold flag (c - a ≤ reached_since old new)
      reached_heard_on a b c flag p q x y = most_adds_up flag a b c (reached_since old mid) (reached_since mid new) (reached_since old new) p q reached_whole x y

      pub fresh_heard_on : (a b c : ℕ) (flag : Bool) → a ≤ b → b ≤ c → WhereTold flag (fresh_since old mid ≤ b - a) → WhereTold flag (fresh_since mid new ≤ c - b) → WhereTold flag (fresh_since old new ≤ c - a)
      fresh_heard_on a b c flag p q x y = least_adds_up flag a b c (fresh_since old mid) (fresh_since mid new) (fresh_since old new) p q (fresh_through old mid new same_document) x y

-- what was touched before is of no account for a refusal either
pub refusing_from : (past : MarkedHistory) (moment : ℤ) (fault : Option BookFault) (mark : Option ℤ) (touched others : List ℕ) (new : CellsState) (f : BookFault)
    → IsRefusing (standing_of past moment fault mark others) new f → IsRefusing (standing_of past moment fault mark touched) new f
refusing_from past moment fault mark touched others new f q = record { fault_is = q.fault_is; document = q.document; marked = q.marked }
