-- The evaluations behind groups of entries that come one after another.
use Rattle.std.proofs.Common.{◌≡◌, refl, sym, ◌∙◌, ap, subst, ℕ, ◌+◌, ◌-◌, ◌≤◌, List, [], ◌∷◌, ◌++◌, Some, None, ℤ, Bool, true, false, inl, inr, arith, length, take, drop, append-nil}
use Rattle.std.specs.Prelude.{◌⊎◌, Option, pos, nat_abs, sum_by}
use Rattle.std.proofs.lemmas.List.Sums.{sum_by-append}
use Rattle.smil_model.specs.declared.diary.Entry.{Entry}
use Rattle.smil_model.specs.declared.diary.LogEntry.{LogEntry}
use Rattle.smil_model.specs.declared.document.Node.{Node}
use Rattle.smil_model.specs.document.Document.{Document, elements, node_at}
use Rattle.smil_model.specs.document.Closure.{has}
use Rattle.smil_model.specs.interval.Current.{current_interval}
use Rattle.smil_model.specs.happening.Resolution.{Progress, next_step}
use Rattle.smil_model.specs.shown.Orders.{Presentation}
use Rattle.smil_model.specs.reach.Bounds.{reaches}
use Rattle.smil_laws.specs.Agreement.{course_on}
use Rattle.smil_diary.specs.declared.fault.BookFault.{BookFault}
use Rattle.smil_past.specs.Past.{MarkedHistory, front, history_of, logged_entry}
use Rattle.smil_cells.specs.CellsState.{CellsState, IsHeard, IsNext, IsOnWay, IsPassed, WhereTold, progress_of, reached_since}
use Rattle.smil_cells.specs.Evaluated.{AreEvaluatedOnce, AreGroups, Group, HasEvaluated, HasEvaluatedBehind, HasEvaluatedSince, IsGroup, intervals_by}
use Rattle.smil_cells.specs.Shown.{IsAppended, MayChange, MayHaveChanged, OnlyChanged, TouchesOnly, TouchesOnlySince, elements_at, touched_at}
use Rattle.smil_cells.proofs.ElementsByPlace.{none_stand}
use Rattle.smil_cells.specs.Standings.{standing_of}
use Rattle.smil_cells.proofs.SettlingSteps.{IsRest, joined}

-- ---- one group

pub most_behind : (past new : MarkedHistory) (m : ℤ) (fault : Option BookFault) (mark : Option ℤ) (touched others : List ℕ) (start n : ℕ) → start ≡ length past.diary → new.document ≡ past.document → (flag : Bool)
    → WhereTold flag (n ≤ reaches new.document.nodes new.log (drop start new.diary))
    → WhereTold flag (n ≤ reached_since (standing_of past m fault mark touched) (standing_of new m None mark others))
most_behind past new m fault mark touched others start n begins document false told = tt
most_behind past new m fault mark touched others start n begins document true told =
    subst (λ (d : Document). n ≤ reaches d.nodes new.log (drop (length past.diary) new.diary)) document
    (subst (λ (k : ℕ). n ≤ reaches new.document.nodes new.log (drop k new.diary)) begins told)

module _ (past new : MarkedHistory) (m z : ℤ) (fault : Option BookFault) (mark : Option ℤ) (touched others : List ℕ) (start n : ℕ) (begins : start ≡ length past.diary) (before : take start new.diary ≡ past.diary) (here : z ≡ pos (nat_abs m)) where
  pub evaluated_behind : (flag : Bool)
      → WhereTold flag (HasEvaluated new.document.nodes new.log (drop start new.diary) (current_interval (front new start) z) (current_interval (history_of new) z) n)
      → WhereTold flag (HasEvaluatedBehind (standing_of past m fault mark touched) (standing_of new m None mark others) n)
  evaluated_behind false told = tt
  evaluated_behind true told =
      subst (λ (k : ℕ). HasEvaluated new.document.nodes new.log (drop k new.diary) (current_interval (record { nodes = new.document.nodes; log = new.log; diary = past.diary }) (pos (nat_abs m))) (current_interval (history_of new) (pos (nat_abs m))) n) begins
      (subst (λ (v : ℤ). HasEvaluated new.document.nodes new.log (drop start new.diary) (current_interval (record { nodes = new.document.nodes; log = new.log; diary = past.diary }) v) (current_interval (history_of new) v) n) here
      (subst (λ (d : List Entry). HasEvaluated new.document.nodes new.log (drop start new.diary) (current_interval (record { nodes = new.document.nodes; log = new.log; diary = d }) z) (current_interval (history_of new) z) n) before told))

-- a group that comes next, by another list of the same nodes and another log that is the same
group_of : (nodes : List Node) (log : List LogEntry) (t u : CellsState) → t.presentation.document.nodes ≡ nodes → u.presentation.document.nodes ≡ nodes → t.presentation.log ≡ log → u.presentation.log ≡ log
    → next_step (course_on t.presentation.document.nodes t.presentation.log t.presentation.now) (progress_of t) ≡ Some (progress_of u)
    → (n : ℕ) (told : HasEvaluatedBehind t u n)
    → IsGroup nodes log (record { before = progress_of t; after = progress_of u; evaluated = told.evaluated })
group_of nodes log t u same_t same_u log_t log_u step n told = record {
  next =
      subst (λ (l : List LogEntry). next_step (course_on nodes l t.presentation.now) (progress_of t) ≡ Some (progress_of u)) log_t
      (subst (λ (ns : List Node). next_step (course_on ns t.presentation.log t.presentation.now) (progress_of t) ≡ Some (progress_of u)) same_t step);
  evaluated =
      subst (λ (l : List LogEntry). AreEvaluatedOnce nodes l (drop (length t.diary) u.diary) (intervals_by nodes l (progress_of t)) (intervals_by nodes l (progress_of u)) told.evaluated) log_u
      (subst (λ (ns : List Node). AreEvaluatedOnce ns u.presentation.log (drop (length t.diary) u.diary) (intervals_by ns u.presentation.log (progress_of t)) (intervals_by ns u.presentation.log (progress_of u)) told.evaluated) same_u told.are);
}

-- ---- one group behind the others

groups_more : (nodes : List Node) (log : List LogEntry) (diary mid : List Entry) (gs : List Group) (g : Group) → AreGroups nodes log diary gs mid → g.before.diary ≡ mid → IsGroup nodes log g → AreGroups nodes log diary (gs ++ g ∷ []) g.after.diary
groups_more nodes log diary mid [] g are from is = (from ∙ are, is, refl)
groups_more nodes log diary mid (x ∷ xs) g are from is = (are.0, are.1, groups_more nodes log x.after.diary mid xs g are.2 from is)

abbrev many : List Group → ℕ
many gs = sum_by (λ (g : Group). length g.evaluated) gs

-- nothing is evaluated yet
pub none_evaluated : (s : CellsState) (flag : Bool) (a : ℕ) → WhereTold flag (HasEvaluatedSince s s (a - a))
none_evaluated s false a = tt
none_evaluated s true a = record { groups = []; are = refl; as_many = none a }
  where
    none : (a : ℕ) → a - a ≡ 0
    none a = omega arith

-- of one that goes on with the same log and the same diary
pub evaluated_still : (old s t : CellsState) (flag : Bool) (n : ℕ) → t.presentation.log ≡ s.presentation.log → t.diary ≡ s.diary → WhereTold flag (HasEvaluatedSince old s n) → WhereTold flag (HasEvaluatedSince old t n)
evaluated_still old s t false n log diary told = tt
evaluated_still old s t true n log diary told = record {
  groups = told.groups;
  are =
      subst (λ (l : List LogEntry). AreGroups old.presentation.document.nodes l old.diary told.groups t.diary) (sym log)
      (subst (λ (d : List Entry). AreGroups old.presentation.document.nodes s.presentation.log old.diary told.groups d) (sym diary) told.are);
  as_many = told.as_many;
}

-- of one with the same document and the same diary
pub evaluated_from : (old other new : CellsState) (flag : Bool) (n : ℕ) → old.presentation.document.nodes ≡ other.presentation.document.nodes → old.diary ≡ other.diary → WhereTold flag (HasEvaluatedSince old new n) → WhereTold flag (HasEvaluatedSince other new n)
evaluated_from old other new false n same diary told = tt
evaluated_from old other new true n same diary told = record {
  groups = told.groups;
  are =
      subst (λ (d : List Entry). AreGroups other.presentation.document.nodes new.presentation.log d told.groups new.diary) diary
      (subst (λ (ns : List Node). AreGroups ns new.presentation.log old.diary told.groups new.diary) same told.are);
  as_many = told.as_many;
}

module _ (old s t u : CellsState) (until : ℤ) (way : IsOnWay old s until) (passed : IsPassed s t) (next : IsNext t u) where
  log_s : u.presentation.log ≡ s.presentation.log
  log_s = ap (λ (p : Presentation). p.log) next.presentation_is ∙ ap (λ (p : Presentation). p.log) passed.presentation_is

  document_t : t.presentation.document ≡ old.presentation.document
  document_t = ap (λ (p : Presentation). p.document) passed.presentation_is ∙ ap (λ (p : Presentation). p.document) way.presentation_is

  document_u : u.presentation.document ≡ old.presentation.document
  document_u = ap (λ (p : Presentation). p.document) next.presentation_is ∙ document_t

  pub evaluated_on : (a b c : ℕ) (flag : Bool) → a ≤ b → b ≤ c → WhereTold flag (HasEvaluatedSince old s (b - a)) → WhereTold flag (HasEvaluatedBehind t u (c - b)) → WhereTold flag (HasEvaluatedSince old u (c - a))
  evaluated_on a b c false from later so_far told = tt
  evaluated_on a b c true from later so_far told =
      let nodes = old.presentation.document.nodes in
      let log = u.presentation.log in
      let g : Group = record { before = progress_of t; after = progress_of u; evaluated = told.evaluated } in
      let first = so_far.as_many in
      let second = told.as_many in
      let sum = sum_by-append (λ (g : Group). length g.evaluated) so_far.groups (g ∷ []) in
      record {
        groups = so_far.groups ++ g ∷ [];
        are =
            groups_more nodes log old.diary t.diary so_far.groups g
            (subst (λ (l : List LogEntry). AreGroups nodes l old.diary so_far.groups t.diary) (sym log_s)
            (subst (λ (d : List Entry). AreGroups nodes s.presentation.log old.diary so_far.groups d) (sym passed.diary_is) so_far.are))
            refl
            (group_of nodes log t u (ap (λ (d : Document). d.nodes) document_t) (ap (λ (d : Document). d.nodes) document_u)
            (sym (ap (λ (p : Presentation). p.log) next.presentation_is)) refl next.step (c - b) told);
        as_many = numbers (many so_far.groups) (length told.evaluated) (many (so_far.groups ++ g ∷ [])) first second sum;
      }
    where
      numbers : (x y w : ℕ) → b - a ≡ x → c - b ≡ y → w ≡ x + (0 + y) → c - a ≡ w
      numbers x y w p q r = omega (arith, from, later, p, q, r)

module _ (old mid : CellsState) (entry : LogEntry) (heard : IsHeard old entry mid) (new : CellsState) (log : new.presentation.log ≡ mid.presentation.log) where
  document_mid : mid.presentation.document ≡ old.presentation.document
  document_mid = ap (λ (p : Presentation). p.document) heard.presentation_is

  now_mid : mid.presentation.now ≡ old.presentation.now
  now_mid = ap (λ (p : Presentation). p.now) heard.presentation_is

  next_heard : next_step (course_on old.presentation.document.nodes new.presentation.log old.presentation.now) (progress_of old) ≡ Some (progress_of mid)
  next_heard =
      subst (λ (k : ℕ). next_step (course_on old.presentation.document.nodes new.presentation.log k) (progress_of old) ≡ Some (progress_of mid)) now_mid
      (subst (λ (d : Document). next_step (course_on d.nodes new.presentation.log mid.presentation.now) (progress_of old) ≡ Some (progress_of mid)) document_mid
      (subst (λ (l : List LogEntry). next_step (course_on mid.presentation.document.nodes l mid.presentation.now) (progress_of old) ≡ Some (progress_of mid)) (sym log) heard.step))

  heard_group : (n : ℕ) (told : HasEvaluatedBehind old mid n) → IsGroup old.presentation.document.nodes new.presentation.log (record { before = progress_of old; after = progress_of mid; evaluated = told.evaluated })
  heard_group n told = record {
    next = next_heard;
    evaluated =
        subst (λ (l : List LogEntry). AreEvaluatedOnce old.presentation.document.nodes l (drop (length old.diary) mid.diary) (intervals_by old.presentation.document.nodes l (progress_of old)) (intervals_by old.presentation.document.nodes l (progress_of mid)) told.evaluated) (sym log)
        (subst (λ (d : Document). AreEvaluatedOnce d.nodes mid.presentation.log (drop (length old.diary) mid.diary) (intervals_by d.nodes mid.presentation.log (progress_of old)) (intervals_by d.nodes mid.presentation.log (progress_of mid)) told.evaluated) document_mid told.are);
  }

  pub evaluated_heard : (a b c : ℕ) (flag : Bool) → a ≤ b → b ≤ c → WhereTold flag (HasEvaluatedBehind old mid (b - a)) → WhereTold flag (HasEvaluatedSince mid new (c - b)) → WhereTold flag (HasEvaluatedSince old new (c - a))
  evaluated_heard a b c false from later told rest = tt
  evaluated_heard a b c true from later told rest =
      let g : Group = record { before = progress_of old; after = progress_of mid; evaluated = told.evaluated } in
      let first = told.as_many in
      let second = rest.as_many in
      record {
        groups = g ∷ rest.groups;
        are = (
          refl,
          heard_group (b - a) told,
          subst (λ (d : Document). AreGroups d.nodes new.presentation.log mid.diary rest.groups new.diary) document_mid rest.are,
        );
        as_many = numbers (length told.evaluated) (many rest.groups) (many (g ∷ rest.groups)) first second (sum_by-append (λ (x : Group). length x.evaluated) (g ∷ []) rest.groups);
      }
    where
      numbers : (x y w : ℕ) → b - a ≡ x → c - b ≡ y → w ≡ (0 + x) + y → c - a ≡ w
      numbers x y w p q r = omega (arith, from, later, p, q, r)

-- ---- what is touched

-- a step of a call is one of a longer call
module _ (old s new : CellsState) (document : new.presentation.document ≡ s.presentation.document) (log : new.presentation.log ≡ s.presentation.log) (more : (m : List Entry) × (new.diary ≡ s.diary ++ m)) where
  change_later : (before after : Progress) (x : ℕ) → MayChange s.presentation.document.nodes s.presentation.log before after x → MayChange new.presentation.document.nodes new.presentation.log before after x
  change_later before after x changes =
      subst (λ (l : List LogEntry). MayChange new.presentation.document.nodes l before after x) (sym log)
      (subst (λ (d : Document). MayChange d.nodes s.presentation.log before after x) (sym document) changes)

  pub changed_later : (x : ℕ) → MayHaveChanged old s x → MayHaveChanged old new x
  changed_later x (before, after, is, changes) = (
    before,
    after,
    record {
      next =
          subst (λ (l : List LogEntry). next_step (course_on new.presentation.document.nodes l before.moment) before ≡ Some after) (sym log)
          (subst (λ (d : Document). next_step (course_on d.nodes s.presentation.log before.moment) before ≡ Some after) (sym document) is.next);
      from = is.from;
      within = (is.within.0 ++ more.0, joined after.diary s.diary new.diary is.within.0 more.0 is.within.1 more.1);
    },
    change_later before after x changes,
  )

-- a step of a call is one of a call that began earlier
pub changed_earlier : (old mid new : CellsState) → ((m : List Entry) × (mid.diary ≡ old.diary ++ m)) → (x : ℕ) → MayHaveChanged mid new x → MayHaveChanged old new x
changed_earlier old mid new more x (before, after, is, changes) = (
  before,
  after,
  record {
    next = is.next;
    from = (more.0 ++ is.from.0, joined old.diary mid.diary before.diary more.0 is.from.0 more.1 is.from.1);
    within = is.within;
  },
  changes,
)

pub none_touched : (s : CellsState) → TouchesOnlySince s s
none_touched s e here on = inl on

module _ (old s t u : CellsState) (until : ℤ) (way : IsOnWay old s until) (passed : IsPassed s t) (next : IsNext t u) where
  document_s : u.presentation.document ≡ s.presentation.document
  document_s = ap (λ (p : Presentation). p.document) next.presentation_is ∙ ap (λ (p : Presentation). p.document) passed.presentation_is

  log_of_s : u.presentation.log ≡ s.presentation.log
  log_of_s = ap (λ (p : Presentation). p.log) next.presentation_is ∙ ap (λ (p : Presentation). p.log) passed.presentation_is

  grown : (m : List Entry) × (u.diary ≡ s.diary ++ m)
  grown = (next.diary.0, next.diary.1 ∙ ap (λ (d : List Entry). d ++ next.diary.0) passed.diary_is)

  document_is : u.presentation.document ≡ t.presentation.document
  document_is = ap (λ (p : Presentation). p.document) next.presentation_is

  log_is : u.presentation.log ≡ t.presentation.log
  log_is = ap (λ (p : Presentation). p.log) next.presentation_is

  appended : IsAppended old u (progress_of t) (progress_of u)
  appended = record {
    next =
        subst (λ (l : List LogEntry). next_step (course_on u.presentation.document.nodes l t.presentation.now) (progress_of t) ≡ Some (progress_of u)) (sym log_is)
        (subst (λ (d : Document). next_step (course_on d.nodes t.presentation.log t.presentation.now) (progress_of t) ≡ Some (progress_of u)) (sym document_is) next.step);
    from = (way.diary.0, passed.diary_is ∙ way.diary.1);
    within = ([], sym (append-nil u.diary));
  }

  pub touched_on : TouchesOnlySince old s → TouchesOnly t u → TouchesOnlySince old u
  touched_on so_far only e here on = by_next (only e here on)
    where
      by_far : (has old.touched e.serial ≡ true) ⊎ MayHaveChanged old s e.serial → (has old.touched e.serial ≡ true) ⊎ MayHaveChanged old u e.serial
      by_far (inl was) = inl was
      by_far (inr changed) = inr (changed_later old s u document_s log_of_s grown e.serial changed)

      by_next : (has t.touched e.serial ≡ true) ⊎ MayChange u.presentation.document.nodes u.presentation.log (progress_of t) (progress_of u) e.serial → (has old.touched e.serial ≡ true) ⊎ MayHaveChanged old u e.serial
      by_next (inl was) =
          by_far (so_far e (subst (λ (d : Document). node_at (elements d.nodes) e.serial ≡ Some e) document_s here) (subst (λ (l : List ℕ). has l e.serial ≡ true) passed.touched_is was))
      by_next (inr changes) = inr (progress_of t, progress_of u, appended, changes)

-- at rest the same elements are touched
pub touched_at_rest : (old s t : CellsState) → IsRest s t → TouchesOnlySince old s → TouchesOnlySince old t
touched_at_rest old s t rest so_far e here on =
    by_far (so_far e there (sym (rest.touched e there) ∙ on))
  where
    document : t.presentation.document ≡ s.presentation.document
    document = ap (λ (p : Presentation). p.document) rest.presentation_is

    there : node_at (elements s.presentation.document.nodes) e.serial ≡ Some e
    there = subst (λ (d : Document). node_at (elements d.nodes) e.serial ≡ Some e) document here

    by_far : (has old.touched e.serial ≡ true) ⊎ MayHaveChanged old s e.serial → (has old.touched e.serial ≡ true) ⊎ MayHaveChanged old t e.serial
    by_far (inl was) = inl was
    by_far (inr changed) = inr (changed_later old s t document (ap (λ (p : Presentation). p.log) rest.presentation_is) ([], rest.diary_is ∙ sym (append-nil s.diary)) e.serial changed)

-- nothing was touched before
nothing_had : (nodes : List Node) (places : List ℕ) (s : ℕ) → places ≡ [] → has (elements_at nodes places) s ≡ true → false ≡ true
nothing_had nodes places s none was = sym (ap (λ (l : List ℕ). has l s) (none_stand nodes places none)) ∙ was

-- of one with the same diary
changed_from : (old other new : CellsState) (x : ℕ) → old.diary ≡ other.diary → MayHaveChanged old new x → MayHaveChanged other new x
changed_from old other new x diary (before, after, is, changes) =
    (before, after, record { next = is.next; from = (is.from.0, is.from.1 ∙ ap (λ (d : List Entry). d ++ is.from.0) diary); within = is.within }, changes)

pub only_from : (old other new : CellsState) → old.diary ≡ other.diary → OnlyChanged old new → OnlyChanged other new
only_from old other new diary only e here on = changed_from old other new e.serial diary (only e here on)

pub all_changed : (old new : CellsState) (places : List ℕ) → places ≡ [] → TouchesOnlySince (touched_at old places) new → OnlyChanged old new
all_changed old new places none only e here on = by_case (only e here on)
  where
    by_case : (has (elements_at old.presentation.document.nodes places) e.serial ≡ true) ⊎ MayHaveChanged (touched_at old places) new e.serial → MayHaveChanged old new e.serial
    by_case (inl was) = let never : false ≡ true = nothing_had old.presentation.document.nodes places e.serial none was in absurd (cc)
    by_case (inr changed) = changed_from (touched_at old places) old new e.serial refl changed

pub all_changed_heard : (old mid : CellsState) (places others : List ℕ) (entry : LogEntry) → IsHeard (touched_at old places) entry (touched_at mid others) → places ≡ []
    → TouchesOnly (touched_at old places) (touched_at mid others) → (new : CellsState) → new.presentation.document ≡ mid.presentation.document → new.presentation.log ≡ mid.presentation.log → ((m : List Entry) × (new.diary ≡ mid.diary ++ m))
    → TouchesOnlySince (touched_at mid others) new → OnlyChanged old new
all_changed_heard old mid places others entry heard none first new document log more only e here on = by_later (only e here on)
  where
    by_first : (has (elements_at old.presentation.document.nodes places) e.serial ≡ true) ⊎ MayChange mid.presentation.document.nodes mid.presentation.log (progress_of old) (progress_of mid) e.serial → MayHaveChanged old new e.serial
    by_first (inl was) = let never : false ≡ true = nothing_had old.presentation.document.nodes places e.serial none was in absurd (cc)
    by_first (inr changes) =
        changed_later old mid new document log more e.serial (
          progress_of old,
          progress_of mid,
          record {
            next = subst (λ (k : ℕ). next_step (course_on mid.presentation.document.nodes mid.presentation.log k) (progress_of old) ≡ Some (progress_of mid)) (ap (λ (p : Presentation). p.now) heard.presentation_is) heard.step;
            from = ([], sym (append-nil old.diary));
            within = ([], sym (append-nil mid.diary));
          },
          changes,
        )

    by_later : (has (elements_at mid.presentation.document.nodes others) e.serial ≡ true) ⊎ MayHaveChanged (touched_at mid others) new e.serial → MayHaveChanged old new e.serial
    by_later (inl was) = by_first (first e (subst (λ (d : Document). node_at (elements d.nodes) e.serial ≡ Some e) document here) was)
    by_later (inr changed) =
        changed_earlier old mid new (logged_entry (length old.presentation.log) entry.moment ∷ [], heard.diary_is) e.serial
        (changed_from (touched_at mid others) mid new e.serial refl changed)
