use Rattle.std.proofs.Common.{refl, sym, ◌∙◌, ap, subst, ◌≡◌, ◌-◌, ◌≤◌, ◌≤ℤ◌, ℕ, ℤ, pos, nat_abs, List, ◌++◌, length, None, Some, Option, Bool, w64, to_z, of_z}
use Rattle.std.specs.Prelude.{IfErr}
use Rattle.std.proofs.lemmas.Int.{to_z-of_z}
use Rattle.smil_model.specs.declared.diary.Entry.{Entry as AnyEntry}
use Rattle.smil_model.specs.diary.Diary.{History}
use Rattle.smil_model.specs.diary.Logs.{is_log}
use Rattle.smil_model.specs.happening.Groups.{at_moment, group}
use Rattle.smil_model.specs.shown.Orders.{course_of}
use Rattle.smil_diary.specs.declared.fault.BookFault.{BookFault as AnyFault}
use Rattle.smil_diary.specs.declared.fault.BookFault.TheVariants as book_fault
use Rattle.smil_past.specs.Past as past_of
use Rattle.smil_past.specs.Past.{MarkedHistory}
use Rattle.smil_model.specs.declared.limits.TheConstants as limits
use Rattle.smil_element.specs.declared.happening.change.DueChange.{DueChange as AnyDueChange}
use Rattle.smil_element.specs.Parts.{coming_meant, meant}
use Rattle.smil_element.proofs.PresentMoment.{present_fits}
use Rattle.smil_cells.specs.CellsState.{CellsState, IsNext, first_at}
use Rattle.smil_rounds.specs.Appended.{MayAppendAll}
use Rattle.smil_cells.specs.Evaluated.{HasEvaluatedBehind}
use Rattle.smil_cells.specs.Settling.{HasRefused, IsCounted}
use Rattle.smil_cells.specs.Shown.{TouchesOnly, elements_at, touched_at}
use Rattle.smil_cells.specs.Standings.{IsSound, IsSoundUnderMark, standing_of}
use Rattle.smil_cells.proofs.FullDiaryRefusals.{for_memory}
use Rattle.smil_cells.proofs.MarkKept.{kept, refusing, with_entries}
use Rattle.smil_cells.proofs.CellsGrown.{ComesNext, all_now, came_to, fronted, grows_by, least_fresh, made_now, many_now, may, next_steps, reached_after, some_now, stepped}
use Rattle.smil_cells.proofs.PlacesPut.{stay_listed}
use Rattle.smil_cells.proofs.GroupEvaluations.{evaluated_behind, most_behind}
use Rattle.smil_cells.proofs.ElementsTouched.{front_of, touches_only}
use Rattle.smil_rounds.proofs.GroupMayFollow.{of_element}
use Rattle.smil_rounds.proofs.MomentEntries.{positive, present_with}
use Rattle.smil_cells.proofs.cells.Cells.happen.Given.{Over}
use Rattle.smil_cells.proofs.cells.Cells.happen.Goals as goal
use Rattle.smil_cells.proofs.cells.Cells.happen.Goals.{After-len-from, After-possible}

comes : (g : Over) (c : After-len-from g) → ComesNext c.self.inside.past c.self.inside.moment (coming_meant c.args.coming)
comes g c =
    let before = sym c.self.view_is in
    let was = c.self.invariant.sound (subst (λ (s : CellsState). s.fault ≡ None) before c.requires.sound) in
    record {
      present = c.self.invariant.present;
      state = was.state;
      reached = was.reached;
      first = subst (λ (s : CellsState). first_at s ≡ Some (coming_meant c.args.coming)) before c.requires.first;
      due = subst (λ (s : CellsState). c.args.coming.key.value ≤ℤ pos s.presentation.now) before c.requires.due;
    }

whole : (past : MarkedHistory) (m : ℤ) → past_of.IsPresent past m → to_z w64 (of_z w64 m) ≡ m
whole past m present = to_z-of_z w64 m (present_fits past m present)

-- the entries are the steps at the moment
made : (past : MarkedHistory) (m : ℤ) (coming : AnyDueChange) (entries : List AnyEntry) → past_of.IsPresent past m
    → entries ≡ group (past_of.history_of past) (to_z w64 (of_z w64 m)) coming.key.serial (meant coming.change)
    → entries ≡ at_moment m (next_steps past m (coming_meant coming))
made past m coming entries present is = made_now past m _ coming.key.serial (meant coming.change) entries (whole past m present) is

-- they are appended
grown : (g : Over) (c : After-possible g) → c.append_all.new.past ≡ past_of.with_diary c.self.inside.past (c.self.inside.past.diary ++ at_moment c.self.inside.moment (next_steps c.self.inside.past c.self.inside.moment (coming_meant c.args.coming)))
grown g c = all_now c.self.inside.past c.self.inside.moment _ c.deref.result.now (made _ _ c.args.coming _ c.self.invariant.present (c.deref.ensures.value ∙ c.in_ok-fill_group.ensures)) c.append_all.new.past c.in_default.ensures.ok

present : (g : Over) (c : After-possible g) → past_of.IsPresent c.append_all.new.past c.self.inside.moment
present g c = subst (λ (x : MarkedHistory). past_of.IsPresent x c.self.inside.moment) (sym (grown g c)) (present_with c.self.inside.past c.self.inside.moment _ c.self.invariant.present)

-- the cells are kept, by a table that goes back to the same
keeps : (g : Over) (c : After-possible g) (is_current is_marked : History → ℤ → Type 0) (has_mark : Bool) (fault : Option AnyFault) (touched : List ℕ)
    → ((h : History) (now : ℤ) → g.T.Table.is_marked c.self.inside.table h now → is_marked h now) → has_mark ≡ g.T.Table.has_mark c.self.inside.table
    → (fault ≡ None → IsSound is_current (standing_of c.append_all.new.past c.self.inside.moment fault c.self.inside.mark touched))
    → IsSoundUnderMark is_current is_marked has_mark c.append_all.new.past c.self.inside.moment fault c.self.inside.mark touched
keeps g c is_current is_marked has_mark fault touched given has sound =
    let i = c.self.inside in
    let ok = grown g c in
    kept i.past c.append_all.new.past (with_entries i.past c.append_all.new.past _ ok) (g.T.Table.is_current i.table) (g.T.Table.is_marked i.table) is_current is_marked (g.T.Table.has_mark i.table) has_mark i.moment i.fault fault i.mark i.touched touched
    given has (present g c) (ap (λ (x : MarkedHistory). is_log x.log) ok ∙ c.self.invariant.log) sound c.self.invariant

pub fill_group-requires-clause-element : goal.fill_group-requires-clause-element
fill_group-requires-clause-element g c =
    let is = comes g (goal.at.fill_group-requires-clause-element g c).After-len-from in
    of_element c.first_is_of_element.ensures (past_of.history_of c.self.inside.past) (pos (nat_abs c.self.inside.moment)) (coming_meant c.args.coming) is.state.document.numbered.distinct is.first

pub fill_group-requires-clause-moment : goal.fill_group-requires-clause-moment
fill_group-requires-clause-moment g c =
    subst (λ (v : ℤ). past_of.IsPresent c.self.inside.past v) (sym (whole _ _ c.self.invariant.present)) c.self.invariant.present

pub append_all-requires : goal.append_all-requires
append_all-requires g c =
    let all = goal.at.append_all-requires g c in
    subst (λ (l : List AnyEntry). MayAppendAll c.self.inside.past l) (sym (made _ _ c.args.coming _ c.self.invariant.present (c.deref.ensures.value ∙ c.in_ok-fill_group.ensures)))
    (may c.self.inside.past c.self.inside.moment (coming_meant c.args.coming) (comes g all.After-len-from) c.resolved_is_near.ensures c.reached_is_past.ensures)

pub invariant_of-self-in-Err : goal.invariant_of-self-in-Err
invariant_of-self-in-Err g c =
    let i = c.self.inside in
    let e = c.in-Err.ensures.err in
    let some = some_now i.past i.moment _ c.deref.result.now (made _ _ c.args.coming _ c.self.invariant.present (c.deref.ensures.value ∙ c.in_ok-fill_group.ensures)) c.append_all.new.past e.some e.new_is in
    kept i.past c.append_all.new.past (with_entries i.past c.append_all.new.past _ e.new_is) (g.T.Table.is_current i.table) (g.T.Table.is_marked i.table) (g.T.Table.is_current i.table) (g.T.Table.is_marked i.table) (g.T.Table.has_mark i.table) (g.T.Table.has_mark i.table) i.moment i.fault (Some c.in-Err.fault) i.mark i.touched i.touched
    (λ h now k. k) refl (subst (λ (x : MarkedHistory). past_of.IsPresent x i.moment) (sym some) (present_with i.past i.moment _ c.self.invariant.present)) (ap (λ (x : MarkedHistory). is_log x.log) e.new_is ∙ c.self.invariant.log) (λ never. cc) c.self.invariant

pub returns-in-Err-clause-refused : goal.returns-in-Err-clause-refused
returns-in-Err-clause-refused g c =
    let i = c.self.inside in
    let all = goal.at.returns-in-Err-clause-refused g c in
    let steps = next_steps i.past i.moment (coming_meant c.args.coming) in
    let e = c.in-Err.ensures.err in
    let at_now = made _ _ c.args.coming _ c.self.invariant.present (c.deref.ensures.value ∙ c.in_ok-fill_group.ensures) in
    subst (λ (s : CellsState). HasRefused (course_of s.presentation) s (standing_of c.append_all.new.past i.moment (Some c.in-Err.fault) i.mark i.touched) c.in-Err.fault) c.self.view_is
    (record {
      refusing = refusing i.past c.append_all.new.past (with_entries i.past c.append_all.new.past _ e.new_is) c.self.invariant.lens i.moment i.fault c.in-Err.fault i.mark i.touched i.touched;
      full = λ f.
          fronted i.past i.moment (coming_meant c.args.coming) (comes g all.After-len-from) c.append_all.new.past e.some (some_now i.past i.moment steps c.deref.result.now at_now c.append_all.new.past e.some e.new_is) (c.in-Err.ensures.full f).0
          (many_now i.past i.moment steps c.deref.result.now at_now limits.DIARY_ENTRIES (c.in-Err.ensures.full f).1);
    })

pub take_entries-requires-clause-moment : goal.take_entries-requires-clause-moment
take_entries-requires-clause-moment g c =
    let all = goal.at.take_entries-requires-clause-moment g c in
    subst (λ (v : ℤ). past_of.IsPresent c.append_all.new.past v) (sym (whole _ _ c.self.invariant.present)) (present g all.After-possible)

pub invariant_of-self-in_err-take_entries : goal.invariant_of-self-in_err-take_entries
invariant_of-self-in_err-take_entries g c =
    keeps g (goal.at.invariant_of-self-in_err-take_entries g c).After-possible (g.T.Table.is_current c.take_entries.new.table) (g.T.Table.is_marked c.take_entries.new.table) (g.T.Table.has_mark c.take_entries.new.table) (Some book_fault.Memory) c.self.inside.touched c.take_entries.ensures.marked c.take_entries.ensures.has_mark (λ never. cc)

pub invariant_of-self-2 : goal.invariant_of-self-2
invariant_of-self-2 g c =
    let i = c.self.inside in
    let all = goal.at.invariant_of-self-2 g c in
    let is = comes g all.After-len-from in
    let now = whole _ _ c.self.invariant.present ∙ positive i.moment c.self.invariant.present.from in
    keeps g all.After-possible (g.T.Table.is_current c.take_entries.new.table) (g.T.Table.is_marked c.take_entries.new.table) (g.T.Table.has_mark c.take_entries.new.table) None i.touched c.take_entries.ensures.marked c.take_entries.ensures.has_mark
    (λ e. subst (λ (x : MarkedHistory). g.T.Table.is_current c.take_entries.new.table (past_of.history_of x) (pos (nat_abs i.moment)) → IsSound (g.T.Table.is_current c.take_entries.new.table) (standing_of x i.moment None i.mark i.touched)) (sym (grown g all.After-possible))
    (λ current. record { state = is.state; reached = reached_after i.past i.moment (coming_meant c.args.coming) is; current = current })
    (subst (λ (v : ℤ). g.T.Table.is_current c.take_entries.new.table (past_of.history_of c.append_all.new.past) v) now c.in_ok-take_entries.ensures.current))

pub returns-clause-next : goal.returns-clause-next
returns-clause-next g c =
    let i = c.self.inside in
    let all = goal.at.returns-clause-next g c in
    let is = comes g all.After-len-from in
    let next = coming_meant c.args.coming in
    let new = c.append_all.new.past in
    let same = ap (λ (x : MarkedHistory). x.document) (grown g all.After-possible) in
    let put = c.in_ok-take_entries.ensures.put in
    let before = elements_at i.past.document.nodes c.args.places.now in
    let after = elements_at new.document.nodes c.take_entries.new.places in
    subst (λ (s : CellsState). IsNext (touched_at s c.args.places.now) (standing_of new i.moment None i.mark after)) c.self.view_is
    (came_to i.past i.moment _ (next_steps i.past i.moment next) i.fault i.mark before after c.len-from.result (whole _ _ c.self.invariant.present ∙ positive i.moment c.self.invariant.present.from) (c.len-from.ensures.value ∙ ap (λ (l : List AnyEntry). length l) c.book.ensures)
    is.state.document.numbered c.self.invariant.lens (stepped i.past i.moment next is) (grows_by i.past i.moment next is)
    new (grown g all.After-possible) c.possible.ensures.few (stay_listed i.past.document new same c.args.places.now c.take_entries.new.places put.more) put.shown put.others)

pub returns-clause-only : goal.returns-clause-only
returns-clause-only g c =
    let i = c.self.inside in
    let all = goal.at.returns-clause-only g c in
    let new = c.append_all.new.past in
    let begins = c.len-from.ensures.value ∙ ap (λ (l : List AnyEntry). length l) c.book.ensures in
    subst (λ (s : CellsState). TouchesOnly (touched_at s c.args.places.now) (touched_at (standing_of new i.moment None i.mark i.touched) c.take_entries.new.places)) c.self.view_is
    (touches_only i.past new i.moment _ i.fault i.mark i.touched c.len-from.result (ap (λ (x : MarkedHistory). x.document) (grown g all.After-possible)) begins
    (front_of i.past.diary _ new.diary c.len-from.result (ap (λ (x : MarkedHistory). x.diary) (grown g all.After-possible)) begins)
    (whole _ _ c.self.invariant.present ∙ positive i.moment c.self.invariant.present.from)
    c.args.places.now c.take_entries.new.places i.touched c.in_ok-take_entries.ensures.put)

pub returns-in_err-take_entries-clause-refused : goal.returns-in_err-take_entries-clause-refused
returns-in_err-take_entries-clause-refused g c =
    let i = c.self.inside in
    let before = standing_of i.past i.moment i.fault i.mark i.touched in
    let new = standing_of c.append_all.new.past i.moment (Some book_fault.Memory) i.mark i.touched in
    subst (λ (s : CellsState). IfErr c.from_residual-in_err-take_entries.result (HasRefused (course_of s.presentation) s new)) c.self.view_is
    (for_memory c.from_residual-in_err-take_entries.result (course_of before.presentation) before new
    (λ f. refusing i.past c.append_all.new.past (with_entries i.past c.append_all.new.past _ c.in_default.ensures.ok) c.self.invariant.lens i.moment i.fault f i.mark i.touched i.touched)
    c.from_residual-in_err-take_entries.ensures.1)

pub returns-clause-evaluated : goal.returns-clause-evaluated
returns-clause-evaluated g c =
    let i = c.self.inside in
    let all = goal.at.returns-clause-evaluated g c in
    let new = c.append_all.new.past in
    let told = c.in_ok-take_entries.ensures.evaluated in
    let n = c.take_entries.new.steps - c.args.steps.now in
    let whole_now = whole _ _ c.self.invariant.present ∙ positive i.moment c.self.invariant.present.from in
    let begins = c.len-from.ensures.value ∙ ap (λ (l : List AnyEntry). length l) c.book.ensures in
    let is = grown g all.After-possible in
    subst (λ (s : CellsState). IsCounted g.T.Table.counts HasEvaluatedBehind s (standing_of new i.moment None i.mark i.touched) n) c.self.view_is
    (record {
      most = most_behind i.past new i.moment i.fault i.mark i.touched i.touched c.len-from.result n begins (ap (λ (x : MarkedHistory). x.document) is) g.T.Table.counts told.most;
      least = least_fresh i.past i.moment _ (next_steps i.past i.moment (coming_meant c.args.coming)) i.fault i.mark i.touched i.touched c.len-from.result whole_now begins g.T.Table.counts n new is told.least;
      evaluated =
          evaluated_behind i.past new i.moment _ i.fault i.mark i.touched i.touched c.len-from.result n begins
          (front_of i.past.diary _ new.diary c.len-from.result (ap (λ (x : MarkedHistory). x.diary) is) begins)
          whole_now g.T.Table.counts told.evaluated;
    })
