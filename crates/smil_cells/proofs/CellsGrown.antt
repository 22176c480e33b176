-- Cells whose diary has grown by a group, and the course that has come a step further.
use Rattle.std.proofs.Common.{◌≡◌, refl, sym, ◌∙◌, ap, subst, ℕ, suc, zero, ◌+◌, ◌-◌, ◌<◌, ◌≤◌, List, [], ◌∷◌, ◌++◌, Option, Some, None, ℤ, Bool, true, false, arith, length, take, drop, append_assoc, length-append}
use Rattle.std.proofs.Math.Seq.{drop-append_seam, take-append_seam}
use Rattle.std.specs.Prelude.{pos, nat_abs, ◌≤ℤ◌, cond, slice_get}
use Rattle.smil_model.specs.declared.diary.Entry.{Entry}
use Rattle.smil_model.specs.declared.diary.LogEntry.{LogEntry}
use Rattle.smil_model.specs.declared.diary.Step.{Step}
use Rattle.smil_model.specs.declared.document.Node.{Node}
use Rattle.smil_model.specs.declared.times.TheConstants.{HORIZON}
use Rattle.smil_model.specs.declared.limits.TheConstants.{DIARY_ENTRIES}
use Rattle.smil_model.specs.document.Document.{Document, elements, node_at}
use Rattle.smil_model.specs.document.Valid.{IsNumberedTree}
use Rattle.smil_model.specs.diary.Diary.{History}
use Rattle.smil_model.specs.diary.Lawful.{IsLawful}
use Rattle.smil_model.specs.happening.Keys.{Change, DueChange, coming, first_coming, is_due}
use Rattle.smil_model.specs.happening.Groups.{at_moment, group, steps_of}
use Rattle.smil_model.specs.happening.Resolution.{Progress, Reaches, next_step, after_coming, after_settling, history_at, outset}
use Rattle.smil_model.specs.shown.Orders.{IsState}
use Rattle.smil_laws.specs.Agreement.{course_on}
use Rattle.smil_laws.specs.Cut.{NamesBelow}
use Rattle.smil_laws.proofs.ResolvedSteps.{resolved_lawful}
use Rattle.smil_diary.specs.declared.fault.BookFault.{BookFault}
use Rattle.smil_laws.specs.Courses.{ReachedIsPast}
use Rattle.smil_laws.specs.Near.{AllNear, ResolvedIsNear}
use Rattle.smil_model.specs.document.Closure.{has}
use Rattle.smil_model.specs.interval.Current.{current_interval}
use Rattle.smil_laws.proofs.NumberedTrees.{ordered}
use Rattle.smil_laws.proofs.GroupEntries.{group_filled}
use Rattle.smil_past.specs.Past as past_of
use Rattle.smil_rounds.specs.Appended.{MayAppendAll}
use Rattle.smil_rounds.proofs.GroupMayFollow.{all_may}
use Rattle.smil_rounds.proofs.MomentEntries.{positive}
use Rattle.smil_cells.proofs.MarkKept.{same_mark, with_entries}
use Rattle.smil_cells.proofs.SettlingSteps.{untouched}
use Rattle.smil_past.specs.Past.{MarkedHistory, IsPresent, with_diary}
use Rattle.smil_cells.specs.CellsState.{IsFront, IsNext, IsReached, WhereTold, first_at, fresh, fresh_since}
use Rattle.smil_rounds.specs.Appended.{MayAppendAll}
use Rattle.smil_cells.specs.Standings.{begun, standing_of}
use Rattle.smil_cells.specs.Shown.{any_shows}
use Rattle.smil_cells.proofs.RestingViews.{views_stay}
use Rattle.smil_model.proofs.NumberOrders.{is_le}
use Rattle.smil_laws.proofs.CourseCut.{one_more}

-- ---- one step further

module _ (document : Document) (log : List LogEntry) (now : ℕ) (diary : List Entry) (next : DueChange) where
  abbrev h : History
  h = record { nodes = document.nodes; log = log; diary = diary }

  abbrev at : Progress
  at = record { moment = now; heard = length log; diary = diary }

  abbrev then : Progress
  then = record { moment = now; heard = length log; diary = diary ++ group h (pos now) next.key.serial next.change }

  pub step_on : first_coming (coming h (pos now)) ≡ Some next → is_due (pos now) next.key ≡ true → next_step (course_on document.nodes log now) at ≡ Some then
  step_on first due = ap (λ (x : Option DueChange). after_coming (course_on document.nodes log now) at x) first ∙ by_test (is_due (pos now) next.key) due
    where
      by_test : (b : Bool) → b ≡ true → cond b (Some then) (after_settling (course_on document.nodes log now) at (slice_get log (length log))) ≡ Some then
      by_test true e = refl
      by_test false e = cc

  module _ (reached : Reaches (course_on document.nodes log now) at) (first : first_coming (coming h (pos now)) ≡ Some next) (due : is_due (pos now) next.key ≡ true) where
    pub reached_next : Reaches (course_on document.nodes log now) then
    reached_next = (suc reached.0, one_more (course_on document.nodes log now) reached.0 outset at then reached.1 (step_on first due))

    pub lawful_next : IsNumberedTree document → pos now ≤ℤ HORIZON → IsLawful (record { nodes = document.nodes; log = log; diary = then.diary })
    unfolding reached_next
    lawful_next numbered within =
        subst (λ (x : Progress). IsLawful (history_at (course_on document.nodes log now) x)) reached_next.1
        (resolved_lawful document log now (suc reached.0) numbered within)

    pub near_next : ResolvedIsNear → pos now ≤ℤ HORIZON → AllNear then.diary
    unfolding reached_next
    near_next law within = subst (λ (x : Progress). AllNear x.diary) reached_next.1 (law document log now (suc reached.0) within)

    pub named_next : ReachedIsPast → NamesBelow (length log) then.diary
    named_next law = (law document log now then reached_next).named

take_at : (m : ℤ) (k : ℕ) (steps : List Step) → take k (at_moment m steps) ≡ at_moment m (take k steps)
take_at m zero steps = refl
take_at m (suc k) [] = refl
take_at m (suc k) (x ∷ xs) = ap (λ (l : List Entry). record { moment = m; step = x } ∷ l) (take_at m k xs)

length_at : (m : ℤ) (steps : List Step) → length (at_moment m steps) ≡ length steps
length_at m [] = refl
length_at m (x ∷ xs) = ap suc (length_at m xs)

-- the list of the group is the steps at the moment
pub made_now : (past : MarkedHistory) (m z : ℤ) (serial : ℕ) (change : Change) (entries : List Entry) → z ≡ m → entries ≡ group (past_of.history_of past) z serial change → entries ≡ at_moment m (steps_of (past_of.history_of past) m serial change)
made_now past m z serial change entries whole made = made ∙ ap (λ (v : ℤ). group (past_of.history_of past) v serial change) whole

module _ (past : MarkedHistory) (m : ℤ) (steps : List Step) (entries : List Entry) (made : entries ≡ at_moment m steps) where
  pub all_now : (new : MarkedHistory) → new ≡ with_diary past (past.diary ++ entries) → new ≡ with_diary past (past.diary ++ at_moment m steps)
  all_now new is = is ∙ ap (λ (l : List Entry). with_diary past (past.diary ++ l)) made

  pub some_now : (new : MarkedHistory) (k : ℕ) → new ≡ with_diary past (past.diary ++ take k entries) → new ≡ with_diary past (past.diary ++ at_moment m (take k steps))
  some_now new k is = is ∙ ap (λ (l : List Entry). with_diary past (past.diary ++ l)) (ap (λ (l : List Entry). take k l) made ∙ take_at m k steps)

  pub many_now : (d : ℕ) → d < length past.diary + length entries → d < length past.diary + length steps
  many_now d l = let e = ap (λ (x : List Entry). length x) made ∙ length_at m steps in omega (arith, e, l)

-- ---- the group of what comes first

split_at : (m : ℤ) (k : ℕ) (steps : List Step) → (rest : List Entry) × (at_moment m steps ≡ at_moment m (take k steps) ++ rest)
split_at m zero steps = (at_moment m steps, refl)
split_at m (suc k) [] = ([], refl)
split_at m (suc k) (x ∷ xs) = let r = split_at m k xs in (r.0, ap (λ (l : List Entry). record { moment = m; step = x } ∷ l) r.1)

-- at a standing that a resolution comes to, this change comes first and is due
pub record ComesNext (past : MarkedHistory) (m : ℤ) (next : DueChange) : Type 0 where
  pub present : IsPresent past m
  pub state : IsState (begun past m).presentation
  pub reached : IsReached (begun past m)
  pub first : first_at (begun past m) ≡ Some next
  pub due : next.key.value ≤ℤ pos (nat_abs m)

-- the steps of its group
abbrev pub next_steps : MarkedHistory → ℤ → DueChange → List Step
next_steps past m next = steps_of (past_of.history_of past) m next.key.serial next.change

module _ (past : MarkedHistory) (m : ℤ) (next : DueChange) (comes : ComesNext past m next) where
  abbrev steps : List Step
  steps = next_steps past m next

  is_due_now : is_due (pos (nat_abs m)) next.key ≡ true
  is_due_now = is_le next.key.value (pos (nat_abs m)) comes.due

  whole : m ≡ pos (nat_abs m)
  whole = positive m comes.present.from

  group_is : group (record { nodes = past.document.nodes; log = past.log; diary = past.diary }) (pos (nat_abs m)) next.key.serial next.change ≡ at_moment m steps
  group_is = subst (λ (z : ℤ). at_moment z (steps_of (record { nodes = past.document.nodes; log = past.log; diary = past.diary }) z next.key.serial next.change) ≡ at_moment m steps) whole refl

  diary_is : past.diary ++ group (record { nodes = past.document.nodes; log = past.log; diary = past.diary }) (pos (nat_abs m)) next.key.serial next.change ≡ past.diary ++ at_moment m steps
  diary_is = ap (λ (l : List Entry). past.diary ++ l) group_is

  near_now : pos (nat_abs m) ≤ℤ HORIZON
  near_now = subst (λ (z : ℤ). z ≤ℤ HORIZON) whole comes.present.within

  pub may : ResolvedIsNear → ReachedIsPast → MayAppendAll past (at_moment m steps)
  may near is_past = all_may past m steps
      (subst (λ (d : List Entry). IsLawful (record { nodes = past.document.nodes; log = past.log; diary = d })) diary_is (lawful_next past.document past.log (nat_abs m) past.diary next comes.reached comes.first is_due_now comes.state.document.numbered near_now))
      (subst (λ (d : List Entry). AllNear d) diary_is (near_next past.document past.log (nat_abs m) past.diary next comes.reached comes.first is_due_now near near_now))
      (subst (λ (d : List Entry). NamesBelow (length past.log) d) diary_is (named_next past.document past.log (nat_abs m) past.diary next comes.reached comes.first is_due_now is_past))

  pub reached_after : Reaches (course_on past.document.nodes past.log (nat_abs m)) (record { moment = nat_abs m; heard = length past.log; diary = past.diary ++ at_moment m steps })
  reached_after = subst (λ (d : List Entry). Reaches (course_on past.document.nodes past.log (nat_abs m)) (record { moment = nat_abs m; heard = length past.log; diary = d })) diary_is (reached_next past.document past.log (nat_abs m) past.diary next comes.reached comes.first is_due_now)

  pub stepped : next_step (course_on past.document.nodes past.log (nat_abs m)) (record { moment = nat_abs m; heard = length past.log; diary = past.diary }) ≡ Some (record { moment = nat_abs m; heard = length past.log; diary = past.diary ++ at_moment m steps })
  stepped = subst (λ (d : List Entry). next_step (course_on past.document.nodes past.log (nat_abs m)) (record { moment = nat_abs m; heard = length past.log; diary = past.diary }) ≡ Some (record { moment = nat_abs m; heard = length past.log; diary = d })) diary_is (step_on past.document past.log (nat_abs m) past.diary next comes.first is_due_now)

  pub grows_by : length past.diary < length (past.diary ++ at_moment m steps)
  grows_by =
      let some = subst (λ (l : List Entry). 0 < length l) group_is (group_filled (record { nodes = past.document.nodes; log = past.log; diary = past.diary }) (pos (nat_abs m)) next.key.serial next.change) in
      let e = length-append past.diary (at_moment m steps) in
      omega (arith, some, e)

  pub fronted : (new : MarkedHistory) (k : ℕ) → new ≡ with_diary past (past.diary ++ at_moment m (take k steps)) → length new.diary ≡ DIARY_ENTRIES → DIARY_ENTRIES < length past.diary + length steps
      → IsFront (course_on past.document.nodes past.log (nat_abs m)) new.diary
  fronted new k is filled many = record {
    at = record { moment = nat_abs m; heard = length past.log; diary = past.diary ++ at_moment m steps };
    reached = reached_after;
    front = sym (subst (λ (n : ℕ). take n (past.diary ++ at_moment m steps) ≡ new.diary) filled
        (subst (λ (d : List Entry). take (length d) (past.diary ++ at_moment m steps) ≡ d) (sym (ap (λ (x : MarkedHistory). x.diary) is))
        (ap (λ (l : List Entry). take (length (past.diary ++ at_moment m (take k steps))) l) seam ∙ take-append_seam (past.diary ++ at_moment m (take k steps)) (split_at m k steps).0)));
    many = numbers (length past.diary) (length steps) (length (past.diary ++ at_moment m steps)) DIARY_ENTRIES (length-append past.diary (at_moment m steps) ∙ ap (λ (n : ℕ). length past.diary + n) (length_at m steps)) many;
  }
    where
      numbers : (a b c d : ℕ) → c ≡ a + b → d < a + b → d < c
      numbers a b c d e l = omega (arith, e, l)

      seam : past.diary ++ at_moment m steps ≡ (past.diary ++ at_moment m (take k steps)) ++ (split_at m k steps).0
      seam = ap (λ (l : List Entry). past.diary ++ l) (split_at m k steps).1 ∙ sym (append_assoc past.diary (at_moment m (take k steps)) (split_at m k steps).0)

-- ---- a history whose entries from a place on are new

-- the elements that they show are listed
abbrev pub AreShown : ℕ → List ℕ → MarkedHistory → Type 0
AreShown start mid x = (e : Node) → node_at (elements x.document.nodes) e.serial ≡ Some e → any_shows (past_of.history_of x) (drop start x.diary) e.serial ≡ true → has mid e.serial ≡ true

-- what was listed still is
abbrev pub StayListed : List ℕ → List ℕ → MarkedHistory → Type 0
StayListed touched mid x = (e : Node) → node_at (elements x.document.nodes) e.serial ≡ Some e → has touched e.serial ≡ true → has mid e.serial ≡ true

-- the intervals of those elements that are not listed are as they were before
abbrev pub StayBefore : ℤ → ℕ → List ℕ → MarkedHistory → Type 0
StayBefore z start others x = (e : Node) → node_at (elements x.document.nodes) e.serial ≡ Some e → has others e.serial ≡ false → current_interval (past_of.history_of x) z e.serial ≡ current_interval (past_of.front x start) z e.serial

-- at most so many elements have a fresh interval
abbrev pub AreFresh : ℤ → ℕ → Bool → ℕ → MarkedHistory → Type 0
AreFresh z start flag n x = WhereTold flag (fresh x.document.nodes (current_interval (past_of.front x start) z) (current_interval (past_of.history_of x) z) ≤ n)

-- ---- the group has been taken in

module _ (past : MarkedHistory) (m z : ℤ) (steps : List Step) (fault : Option BookFault) (mark : Option ℤ) (touched others : List ℕ) (start : ℕ) (here : z ≡ pos (nat_abs m)) (begins : start ≡ length past.diary) where
  abbrev after : MarkedHistory
  after = with_diary past (past.diary ++ at_moment m steps)

  abbrev Came : MarkedHistory → Type 0
  Came x = IsNext (standing_of past m fault mark touched) (standing_of x m None mark others)

  front_is : take start (past.diary ++ at_moment m steps) ≡ past.diary
  front_is = rw begins (take-append_seam past.diary (at_moment m steps))

  rest_is : drop start (past.diary ++ at_moment m steps) ≡ at_moment m steps
  rest_is = rw begins (drop-append_seam past.diary (at_moment m steps))

  module _ (numbered : IsNumberedTree past.document) (lens : (l : ℕ × ℕ) → past.marked ≡ Some l → (l.0 ≤ length past.log) × (l.1 ≤ length past.diary)) (step : next_step (course_on past.document.nodes past.log (nat_abs m)) (record { moment = nat_abs m; heard = length past.log; diary = past.diary }) ≡ Some (record { moment = nat_abs m; heard = length past.log; diary = past.diary ++ at_moment m steps })) (grows : length past.diary < length (past.diary ++ at_moment m steps)) where
    came : length after.diary ≤ DIARY_ENTRIES → StayListed touched others after → AreShown start others after → StayBefore z start others after → Came after
    came few one shown changed = record {
      presentation_is = refl;
      step = step;
      diary = (at_moment m steps, refl);
      grows = grows;
      few = few;
      sound = refl;
      marked = same_mark past after (with_entries past after (at_moment m steps) refl) lens mark;
      more = one;
      views = λ e there free.
          views_stay (past_of.history_of past) (at_moment m steps) (pos (nat_abs m)) e (ordered past.document numbered).first there
          (untouched (any_shows (past_of.history_of after) (at_moment m steps) e.serial) (has others e.serial) free
          (λ q. shown e there (subst (λ (l : List Entry). any_shows (past_of.history_of after) l e.serial ≡ true) (sym rest_is) q)))
          (subst (λ (x : ℤ). current_interval (record { nodes = past.document.nodes; log = past.log; diary = past.diary ++ at_moment m steps }) x e.serial ≡ current_interval (record { nodes = past.document.nodes; log = past.log; diary = past.diary }) x e.serial) here
          (changed e there free ∙ ap (λ (l : List Entry). current_interval (record { nodes = past.document.nodes; log = past.log; diary = l }) z e.serial) front_is));
    }

    pub came_to : (new : MarkedHistory) → new ≡ after → length new.diary ≤ DIARY_ENTRIES → StayListed touched others new → AreShown start others new → StayBefore z start others new → Came new
    came_to new is = subst (λ (x : MarkedHistory). length x.diary ≤ DIARY_ENTRIES → StayListed touched others x → AreShown start others x → StayBefore z start others x → Came x) (sym is) came

  pub least_fresh : (flag : Bool) (n : ℕ) (new : MarkedHistory) → new ≡ after → AreFresh z start flag n new → WhereTold flag (fresh_since (standing_of past m fault mark touched) (standing_of new m None mark others) ≤ n)
  least_fresh flag n new is =
      subst (λ (x : MarkedHistory). AreFresh z start flag n x → WhereTold flag (fresh_since (standing_of past m fault mark touched) (standing_of x m None mark others) ≤ n)) (sym is)
      (λ q. subst (λ (x : ℤ). WhereTold flag (fresh past.document.nodes (current_interval (record { nodes = past.document.nodes; log = past.log; diary = past.diary }) x) (current_interval (record { nodes = past.document.nodes; log = past.log; diary = past.diary ++ at_moment m steps }) x) ≤ n)) here
      (subst (λ (l : List Entry). WhereTold flag (fresh past.document.nodes (current_interval (record { nodes = past.document.nodes; log = past.log; diary = l }) z) (current_interval (record { nodes = past.document.nodes; log = past.log; diary = past.diary ++ at_moment m steps }) z) ≤ n)) front_is q))
