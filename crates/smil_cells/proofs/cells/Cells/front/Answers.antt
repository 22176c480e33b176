use Rattle.std.proofs.Common.{◌≡◌, ◌∙◌, sym, ap, subst, ◌-◌, ◌≤◌, ℕ, ℤ, List, length, pos, take, w64, to_z, of_z}
use Rattle.std.specs.Prelude.{IfOk}
use Rattle.std.proofs.lemmas.Int.{to_z-of_z}
use Rattle.std.proofs.lemmas.Result.{IfOk-weaker}
use Rattle.smil_model.specs.declared.diary.Entry.{Entry}
use Rattle.smil_model.specs.diary.Diary.{last_moment}
use Rattle.smil_model.specs.document.Document.{Document}
use Rattle.smil_laws.specs.Cut.{logged}
use Rattle.smil_stretch.proofs.LawfulDiaries.{lawful_first}
use Rattle.smil_past.specs.Past as past_of
use Rattle.smil_past.specs.Past.{MarkedHistory, IsPossible, history_of}
use Rattle.smil_cells.specs.CellsState.{CellsState, IsRebuilt, MayRebuild, WhereTold, any_interval, interval_at}
use Rattle.smil_cells.specs.Standings.{MayBegin, begun, standing_of}
use Rattle.smil_cells.proofs.FirstCells.{moment_is, names_within, possible_part, may_part, rebuilt_is}
use Rattle.smil_cells.proofs.cells.Cells.front.Given.{Over}
use Rattle.smil_cells.proofs.cells.Cells.front.Goals as goal
use Rattle.smil_cells.proofs.cells.Cells.front.Goals.{After-last_moment-moment, After-logged_among-heard}

module _ (g : Over) (c : After-logged_among-heard g) where
  abbrev before : CellsState
  before = standing_of c.self.inside.past c.self.inside.moment c.self.inside.fault c.self.inside.mark c.self.inside.touched

  may : MayRebuild before before.presentation.document c.args.len
  may = subst (λ (s : CellsState). MayRebuild s s.presentation.document c.args.len) (sym c.self.view_is) c.requires

  heard_is : c.logged_among-heard.result ≡ logged (take c.args.len c.self.inside.past.diary)
  heard_is = c.logged_among-heard.ensures ∙ ap (λ (d : List Entry). logged (take c.args.len d)) c.book.ensures

-- the part of the diary, with the part of the log that it names
abbrev part : MarkedHistory → ℕ → MarkedHistory
part past len = past_of.at_mark past (logged (take len past.diary), len)

past_is : (g : Over) (c : After-last_moment-moment g) → c.logged_among-heard.result ≡ logged (take c.args.len c.self.inside.past.diary) → c.in_ok-past.past ≡ part c.self.inside.past c.args.len
past_is g c heard = c.in_ok-past.ensures.front ∙ ap (λ (n : ℕ). past_of.at_mark c.self.inside.past (n, c.args.len)) heard

moment_at : (g : Over) (c : After-last_moment-moment g) (moment : ℕ) → c.in_ok-past.past ≡ part c.self.inside.past c.args.len → pos moment ≡ last_moment (take c.args.len c.self.inside.past.diary) → to_z w64 (of_z w64 c.last_moment-moment.result) ≡ pos moment
moment_at g c moment past is =
    to_z-of_z w64 c.last_moment-moment.result (record { sfits = c.last_moment-moment.type_inv })
    ∙ (c.last_moment-moment.ensures ∙ (ap (λ (p : MarkedHistory). last_moment p.diary) past ∙ sym is))

pub front-requires-clause-log_within : goal.front-requires-clause-log_within
front-requires-clause-log_within g c =
    let e = (goal.at.front-requires-clause-log_within g c).After-logged_among-heard in
    subst (λ (n : ℕ). n ≤ length c.self.inside.past.log) (sym (heard_is g e)) (names_within (before g e) c.self.inside.past.document c.args.len (may g e) c.reached_is_past.ensures)

pub front-requires-clause-possible : goal.front-requires-clause-possible
front-requires-clause-possible g c =
    let e = (goal.at.front-requires-clause-possible g c).After-logged_among-heard in
    let past = c.self.inside.past in
    subst (λ (n : ℕ). IsPossible past.document (take n past.log) (take c.args.len past.diary)) (sym (heard_is g e))
    (possible_part (before g e) past.document c.args.len (may g e) past.log (lawful_first (history_of past) c.args.len c.possible.ensures.lawful) c.reached_is_past.ensures c.resolved_is_near.ensures c.possible.ensures.few)

pub over-requires : goal.over-requires
over-requires g c =
    let at = goal.at.over-requires g c in
    let e = at.After-logged_among-heard in
    let past = c.self.inside.past in
    let is = past_is g at.After-last_moment-moment (heard_is g e) in
    subst (λ (p : MarkedHistory). MayBegin p (to_z w64 (of_z w64 c.last_moment-moment.result))) (sym is)
    (subst (λ (z : ℤ). MayBegin (part past c.args.len) z) (sym (moment_at g at.After-last_moment-moment (may g e).at.moment is (moment_is (before g e) past.document c.args.len (may g e))))
    (may_part (before g e) past.document c.args.len (may g e) past.log (lawful_first (history_of past) c.args.len c.possible.ensures.lawful) c.reached_is_past.ensures c.self.invariant.log))

pub returns-clause-rebuilt : goal.returns-clause-rebuilt
returns-clause-rebuilt g c =
    let at = goal.at.returns-clause-rebuilt g c in
    let e = at.After-logged_among-heard in
    let past = c.self.inside.past in
    let is = past_is g at.After-last_moment-moment (heard_is g e) in
    let z = to_z w64 (of_z w64 c.last_moment-moment.result) in
    subst (λ (s : CellsState). IfOk c.over.result (IsRebuilt s s.presentation.document c.args.len)) c.self.view_is
    (IfOk-weaker c.over.result (λ (cells : CellsState). cells ≡ begun c.in_ok-past.past z) (IsRebuilt (before g e) past.document c.args.len)
    (λ cells made. rebuilt_is (before g e) past.document c.args.len (may g e) c.in_ok-past.past z cells is (moment_at g at.After-last_moment-moment (may g e).at.moment is (moment_is (before g e) past.document c.args.len (may g e))) made) c.over.ensures.begun)

pub returns-clause-least : goal.returns-clause-least
returns-clause-least g c =
    let at = goal.at.returns-clause-least g c in
    subst (λ (d : Document). IfOk c.over.result (λ (cells : CellsState). WhereTold g.T.Table.counts (any_interval d.nodes (interval_at cells) ≤ c.over.new.steps - c.args.steps.now)))
    (ap (λ (p : MarkedHistory). p.document) (past_is g at.After-last_moment-moment (heard_is g at.After-logged_among-heard)) ∙ ap (λ (s : CellsState). s.presentation.document) c.self.view_is) c.over.ensures.least
