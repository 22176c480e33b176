use Rattle.std.proofs.Common.{refl, sym, ◌∙◌, ap, subst, ◌≡◌, ◌-◌, ◌+ℤ◌, ℕ, ℤ, List, length, None, Some, Option, Bool, true, w64, to_z, of_z}
use Rattle.std.specs.Prelude.{pos, nat_abs, IfErr}
use Rattle.std.proofs.lemmas.Int.{to_z-of_z}
use Rattle.smil_model.specs.declared.diary.Entry.{Entry as AnyEntry}
use Rattle.smil_model.specs.declared.diary.LogEntry.{LogEntry as AnyLogEntry}
use Rattle.smil_model.specs.diary.Diary.{History}
use Rattle.smil_model.specs.diary.Logs.{is_log}
use Rattle.smil_model.specs.shown.Orders.{course_of}
use Rattle.smil_diary.specs.declared.fault.BookFault.{BookFault}
use Rattle.smil_diary.specs.declared.fault.BookFault.TheVariants as book_fault
use Rattle.smil_past.specs.Past as past_of
use Rattle.smil_past.specs.Past.{MarkedHistory}
use Rattle.smil_element.proofs.PresentMoment.{present_fits}
use Rattle.smil_cells.specs.CellsState.{CellsState, IsHeard, NothingBefore, with_logged}
use Rattle.smil_cells.specs.Evaluated.{HasEvaluatedBehind}
use Rattle.smil_cells.specs.Settling.{HasRefused, IsCounted}
use Rattle.smil_cells.specs.Shown.{TouchesOnly, elements_at, touched_at}
use Rattle.smil_cells.specs.Standings.{IsSound, IsSoundUnderMark, standing_of}
use Rattle.smil_rounds.proofs.MomentEntries.{positive}
use Rattle.smil_cells.proofs.MarkKept.{kept, refusing, with_entry}
use Rattle.smil_cells.proofs.PlacesPut.{stay_listed}
use Rattle.smil_cells.proofs.GroupEvaluations.{evaluated_behind, most_behind}
use Rattle.smil_cells.proofs.ElementsTouched.{front_of, touches_only}
use Rattle.smil_cells.proofs.FullDiaryRefusals.{for_memory}
use Rattle.smil_cells.proofs.CellsHeard.{present_heard, is_log_heard, may_hear, sound_heard, front_heard, current_before, came_heard, least_heard, step_heard}
use Rattle.smil_cells.proofs.cells.Cells.take_in.Given.{Over}
use Rattle.smil_cells.proofs.cells.Cells.take_in.Goals as goal
use Rattle.smil_cells.proofs.cells.Cells.take_in.Goals.{After-len-from, After-possible}

-- a standing, at whose moment an entry is heard
record Before (is_current : History → ℤ → Type 0) (s : CellsState) (m : ℤ) (entry : AnyLogEntry) : Type 0 where
  was : IsSound is_current s
  here : entry.moment ≡ pos s.presentation.now
  quiet : NothingBefore s (pos s.presentation.now +ℤ pos 1)
  whole : m ≡ pos s.presentation.now
  now : to_z w64 (of_z w64 m) ≡ pos s.presentation.now

before : (g : Over) (c : After-len-from g) → Before (g.T.Table.is_current c.self.inside.table) (standing_of c.self.inside.past c.self.inside.moment c.self.inside.fault c.self.inside.mark c.self.inside.touched) c.self.inside.moment c.args.entry
before g c =
    let i = c.self.inside in
    let view = sym c.self.view_is in
    let whole = positive i.moment c.self.invariant.present.from in
    record {
      was = c.self.invariant.sound (subst (λ (s : CellsState). s.fault ≡ None) view c.requires.sound);
      here = subst (λ (s : CellsState). c.args.entry.moment ≡ pos s.presentation.now) view c.requires.moment;
      quiet = subst (λ (s : CellsState). NothingBefore s (pos s.presentation.now +ℤ pos 1)) view c.requires.settled;
      whole = whole;
      now = to_z-of_z w64 i.moment (present_fits i.past i.moment c.self.invariant.present) ∙ whole;
    }

-- the cells are kept, by a table that goes back to the same
keeps : (g : Over) (c : After-possible g)
    → Before (g.T.Table.is_current c.self.inside.table) (standing_of c.self.inside.past c.self.inside.moment c.self.inside.fault c.self.inside.mark c.self.inside.touched) c.self.inside.moment c.args.entry
    → (is_current is_marked : History → ℤ → Type 0) (has_mark : Bool) (fault : Option BookFault) (touched : List ℕ)
    → ((h : History) (now : ℤ) → g.T.Table.is_marked c.self.inside.table h now → is_marked h now) → has_mark ≡ g.T.Table.has_mark c.self.inside.table
    → (fault ≡ None → IsSound is_current (standing_of c.hear.new.self c.self.inside.moment fault c.self.inside.mark touched))
    → IsSoundUnderMark is_current is_marked has_mark c.hear.new.self c.self.inside.moment fault c.self.inside.mark touched
keeps g c b is_current is_marked has_mark fault touched given has sound =
    let i = c.self.inside in
    let ok = sym c.in_default.ensures.ok in
    kept i.past c.hear.new.self (with_entry i.past c.hear.new.self c.args.entry c.in_default.ensures.ok) (g.T.Table.is_current i.table) (g.T.Table.is_marked i.table) is_current is_marked (g.T.Table.has_mark i.table) has_mark i.moment i.fault fault i.mark i.touched touched
    given has
    (subst (λ (x : MarkedHistory). past_of.IsPresent x i.moment) ok (present_heard i.past i.moment c.args.entry i.fault i.mark i.touched b.whole c.self.invariant.present b.here))
    (subst (λ (x : MarkedHistory). is_log x.log ≡ true) ok (is_log_heard i.past i.moment c.args.entry i.fault i.mark i.touched b.was.state b.was.reached b.here c.requires.may))
    sound c.self.invariant

pub hear-requires-clause-may : goal.hear-requires-clause-may
hear-requires-clause-may g c =
    let i = c.self.inside in
    let b = before g (goal.at.hear-requires-clause-may g c).After-len-from in
    may_hear i.past i.moment c.args.entry i.fault i.mark i.touched b.was.state b.was.reached b.here c.reached_is_past.ensures c.log_may_be_longer.ensures c.reaches_further.ensures b.quiet c.resolved_is_near.ensures

pub returns-in-Err-clause-refused : goal.returns-in-Err-clause-refused
returns-in-Err-clause-refused g c =
    let i = c.self.inside in
    let b = before g (goal.at.returns-in-Err-clause-refused g c).After-len-from in
    let was = standing_of i.past i.moment i.fault i.mark i.touched in
    subst (λ (s : CellsState). HasRefused (course_of (with_logged s.presentation c.args.entry)) s (standing_of c.hear.new.self i.moment (Some c.in-Err.fault) i.mark i.touched) c.in-Err.fault) c.self.view_is
    (subst (λ (x : MarkedHistory). HasRefused (course_of (with_logged was.presentation c.args.entry)) was (standing_of x i.moment (Some c.in-Err.fault) i.mark i.touched) c.in-Err.fault) (sym c.in-Err.ensures.err)
    (record {
      refusing = record { fault_is = refl; document = refl; marked = refl };
      full = λ f. front_heard i.past i.moment c.args.entry i.fault i.mark i.touched b.was.state b.was.reached b.here c.reached_is_past.ensures c.log_may_be_longer.ensures c.reaches_further.ensures b.quiet (c.in-Err.ensures.full f);
    }))

pub take_entries-requires-clause-before : goal.take_entries-requires-clause-before
take_entries-requires-clause-before g c =
    let i = c.self.inside in
    let b = before g (goal.at.take_entries-requires-clause-before g c).After-len-from in
    current_before i.past i.moment c.args.entry i.fault i.mark i.touched b.was.state b.was.reached b.here c.reached_is_past.ensures c.log_may_be_longer.ensures c.len-from.result _ b.now (c.len-from.ensures.value ∙ ap (λ (l : List AnyEntry). length l) c.book.ensures)
    (g.T.Table.is_current i.table) (g.met.T.Table.stays i.table) b.was.current c.hear.new.self c.in_default.ensures.ok

pub invariant_of-self-in_err-take_entries : goal.invariant_of-self-in_err-take_entries
invariant_of-self-in_err-take_entries g c =
    let all = goal.at.invariant_of-self-in_err-take_entries g c in
    keeps g all.After-possible (before g all.After-len-from) (g.T.Table.is_current c.take_entries.new.table) (g.T.Table.is_marked c.take_entries.new.table) (g.T.Table.has_mark c.take_entries.new.table) (Some book_fault.Memory) c.self.inside.touched c.take_entries.ensures.marked c.take_entries.ensures.has_mark (λ never. cc)

pub invariant_of-self-2 : goal.invariant_of-self-2
invariant_of-self-2 g c =
    let i = c.self.inside in
    let all = goal.at.invariant_of-self-2 g c in
    let b = before g all.After-len-from in
    keeps g all.After-possible b (g.T.Table.is_current c.take_entries.new.table) (g.T.Table.is_marked c.take_entries.new.table) (g.T.Table.has_mark c.take_entries.new.table) None i.touched c.take_entries.ensures.marked c.take_entries.ensures.has_mark
    (λ e. subst (λ (x : MarkedHistory). g.T.Table.is_current c.take_entries.new.table (past_of.history_of x) (pos (nat_abs i.moment)) → IsSound (g.T.Table.is_current c.take_entries.new.table) (standing_of x i.moment None i.mark i.touched)) (sym c.in_default.ensures.ok)
    (λ current. sound_heard i.past i.moment c.args.entry i.fault i.mark i.touched b.was.state b.was.reached b.here c.reached_is_past.ensures c.log_may_be_longer.ensures c.reaches_further.ensures b.quiet (g.T.Table.is_current c.take_entries.new.table) i.touched c.requires.may current)
    (subst (λ (v : ℤ). g.T.Table.is_current c.take_entries.new.table (past_of.history_of c.hear.new.self) v) b.now c.in_ok-take_entries.ensures.current))

pub returns-clause-heard : goal.returns-clause-heard
returns-clause-heard g c =
    let i = c.self.inside in
    let b = before g (goal.at.returns-clause-heard g c).After-len-from in
    let new = c.hear.new.self in
    let same = ap (λ (x : MarkedHistory). x.document) c.in_default.ensures.ok in
    let put = c.in_ok-take_entries.ensures.put in
    let was = elements_at i.past.document.nodes c.args.places.now in
    let after = elements_at new.document.nodes c.take_entries.new.places in
    subst (λ (s : CellsState). IsHeard (touched_at s c.args.places.now) c.args.entry (standing_of new i.moment None i.mark after)) c.self.view_is
    (came_heard i.past i.moment c.args.entry i.fault i.mark was b.was.state b.was.reached b.here c.reached_is_past.ensures c.log_may_be_longer.ensures c.len-from.result _ b.now (c.len-from.ensures.value ∙ ap (λ (l : List AnyEntry). length l) c.book.ensures) after
    c.self.invariant.lens (step_heard i.past i.moment c.args.entry i.fault i.mark was b.was.state b.was.reached b.here c.reached_is_past.ensures c.log_may_be_longer.ensures c.reaches_further.ensures b.quiet)
    new c.in_default.ensures.ok (stay_listed i.past.document new same c.args.places.now c.take_entries.new.places put.more) put.shown put.others)

pub returns-clause-only : goal.returns-clause-only
returns-clause-only g c =
    let i = c.self.inside in
    let b = before g (goal.at.returns-clause-only g c).After-len-from in
    let new = c.hear.new.self in
    let begins = c.len-from.ensures.value ∙ ap (λ (l : List AnyEntry). length l) c.book.ensures in
    subst (λ (s : CellsState). TouchesOnly (touched_at s c.args.places.now) (touched_at (standing_of new i.moment None i.mark i.touched) c.take_entries.new.places)) c.self.view_is
    (touches_only i.past new i.moment _ i.fault i.mark i.touched c.len-from.result (ap (λ (x : MarkedHistory). x.document) c.in_default.ensures.ok) begins
    (front_of i.past.diary _ new.diary c.len-from.result (ap (λ (x : MarkedHistory). x.diary) c.in_default.ensures.ok) begins)
    b.now c.args.places.now c.take_entries.new.places i.touched c.in_ok-take_entries.ensures.put)

pub returns-in_err-take_entries-clause-refused : goal.returns-in_err-take_entries-clause-refused
returns-in_err-take_entries-clause-refused g c =
    let i = c.self.inside in
    let before = standing_of i.past i.moment i.fault i.mark i.touched in
    let new = standing_of c.hear.new.self i.moment (Some book_fault.Memory) i.mark i.touched in
    subst (λ (s : CellsState). IfErr c.from_residual.result (HasRefused (course_of (with_logged s.presentation c.args.entry)) s new)) c.self.view_is
    (for_memory c.from_residual.result (course_of (with_logged before.presentation c.args.entry)) before new
    (λ f. refusing i.past c.hear.new.self (with_entry i.past c.hear.new.self c.args.entry c.in_default.ensures.ok) c.self.invariant.lens i.moment i.fault f i.mark i.touched i.touched)
    c.from_residual.ensures.1)

pub returns-clause-evaluated : goal.returns-clause-evaluated
returns-clause-evaluated g c =
    let i = c.self.inside in
    let b = before g (goal.at.returns-clause-evaluated g c).After-len-from in
    let new = c.hear.new.self in
    let told = c.in_ok-take_entries.ensures.evaluated in
    let n = c.take_entries.new.steps - c.args.steps.now in
    let begins = c.len-from.ensures.value ∙ ap (λ (l : List AnyEntry). length l) c.book.ensures in
    subst (λ (s : CellsState). IsCounted g.T.Table.counts HasEvaluatedBehind s (standing_of new i.moment None i.mark i.touched) n) c.self.view_is
    (record {
      most = most_behind i.past new i.moment i.fault i.mark i.touched i.touched c.len-from.result n begins (ap (λ (x : MarkedHistory). x.document) c.in_default.ensures.ok) g.T.Table.counts told.most;
      least = least_heard i.past i.moment c.args.entry i.fault i.mark i.touched b.was.state b.was.reached b.here c.reached_is_past.ensures c.log_may_be_longer.ensures c.len-from.result _ b.now begins g.T.Table.counts n i.touched new c.in_default.ensures.ok told.least;
      evaluated =
          evaluated_behind i.past new i.moment _ i.fault i.mark i.touched i.touched c.len-from.result n begins
          (front_of i.past.diary _ new.diary c.len-from.result (ap (λ (x : MarkedHistory). x.diary) c.in_default.ensures.ok) begins)
          b.now g.T.Table.counts told.evaluated;
    })
