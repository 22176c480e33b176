use Rattle.std.proofs.Common.{◌≡◌, ◌∙◌, sym, ap, subst, ◌-◌, ◌≤◌, ℤ, List, None, take, w64, to_z, of_z}
use Rattle.std.specs.Prelude.{IfOk}
use Rattle.std.proofs.lemmas.Int.{to_z-of_z}
use Rattle.smil_model.specs.declared.diary.Entry.{Entry}
use Rattle.smil_model.specs.declared.diary.LogEntry.{LogEntry}
use Rattle.smil_model.specs.diary.Diary.{last_moment}
use Rattle.smil_model.specs.document.Document.{Document}
use Rattle.smil_graph.specs.Graph.{document_of}
use Rattle.smil_graph.specs.Reduced.{all_reduced}
use Rattle.smil_stretch.proofs.LawfulDiaries.{lawful_first}
use Rattle.smil_past.specs.Past.{MarkedHistory, IsPossible, history_of}
use Rattle.smil_cells.specs.CellsState.{CellsState, IsRebuilt, MayRebuild, WhereTold, any_interval, cut_log, interval_at}
use Rattle.smil_cells.specs.Standings.{MayBegin, begun, standing_of}
use Rattle.smil_cells.proofs.FirstCells.{moment_is, possible_part, may_part, rebuilt_is}
use Rattle.std.proofs.lemmas.Result.{IfOk-weaker}
use Rattle.smil_cells.proofs.cells.Cells.rebuilt_over.Goals as goal

pub revised_by-requires-clause-possible : goal.revised_by-requires-clause-possible
revised_by-requires-clause-possible g c =
    let i = c.self.inside in
    let len = c.args.len in
    let doc = document_of c.args.revised.graph in
    let s = standing_of i.past i.moment i.fault i.mark i.touched in
    let may = subst (λ (x : CellsState). MayRebuild x doc len) (sym c.self.view_is) c.requires.rebuild in
    let lawful = lawful_first (history_of i.past) len c.possible.ensures.lawful in
    let log_is = c.in_ok-log.ensures ∙ (ap (λ (l : List LogEntry). cut_log l (take len c.book.result.now)) c.log.ensures ∙ ap (λ (d : List Entry). cut_log i.past.log (take len d)) c.book.ensures) in
    subst (λ (d : List Entry). IsPossible doc c.in_ok-log.log (take len d)) (sym (c.entries.ensures ∙ c.book-2.ensures))
    (subst (λ (l : List LogEntry). IsPossible doc l (take len i.past.diary)) (sym log_is)
    (possible_part s doc len may i.past.log lawful c.reached_is_past.ensures c.resolved_is_near.ensures c.possible.ensures.few))

pub revised_by-requires-clause-alike : goal.revised_by-requires-clause-alike
revised_by-requires-clause-alike g c = λ alike.
    subst (λ (x : CellsState). all_reduced x.presentation.document.nodes ≡ all_reduced c.args.revised.graph.nodes) (sym c.self.view_is) (c.requires.alike alike)

pub over-requires : goal.over-requires
over-requires g c =
    let i = c.self.inside in
    let len = c.args.len in
    let doc = document_of c.args.revised.graph in
    let s = standing_of i.past i.moment i.fault i.mark i.touched in
    let may = subst (λ (x : CellsState). MayRebuild x doc len) (sym c.self.view_is) c.requires.rebuild in
    let lawful = lawful_first (history_of i.past) len c.possible.ensures.lawful in
    let log_is = c.in_ok-log.ensures ∙ (ap (λ (l : List LogEntry). cut_log l (take len c.book.result.now)) c.log.ensures ∙ ap (λ (d : List Entry). cut_log i.past.log (take len d)) c.book.ensures) in
    let part = cut_log i.past.log (take len i.past.diary) in
    let past_is : c.in_ok-past.past ≡ record { document = doc; log = part; diary = take len i.past.diary; marked = None } =
    c.in_ok-past.ensures
    ∙ (ap (λ (l : List LogEntry). record { document = doc; log = l; diary = take len c.entries.result.now; marked = None }) log_is
    ∙ ap (λ (d : List Entry). record { document = doc; log = part; diary = take len d; marked = None }) (c.entries.ensures ∙ c.book-2.ensures)) in
    let z = to_z w64 (of_z w64 c.last_moment-moment.result) in
    let at = to_z-of_z w64 c.last_moment-moment.result (record { sfits = c.last_moment-moment.type_inv }) ∙ c.last_moment-moment.ensures ∙ (ap (λ (p : MarkedHistory). last_moment p.diary) past_is ∙ sym (moment_is s doc len may)) in
    subst (λ (p : MarkedHistory). MayBegin p z) (sym past_is)
    (subst (λ (z : ℤ). MayBegin (record { document = doc; log = part; diary = take len i.past.diary; marked = None }) z) (sym at)
    (may_part s doc len may i.past.log lawful c.reached_is_past.ensures c.self.invariant.log))

pub returns-clause-rebuilt : goal.returns-clause-rebuilt
returns-clause-rebuilt g c =
    let i = c.self.inside in
    let len = c.args.len in
    let doc = document_of c.args.revised.graph in
    let s = standing_of i.past i.moment i.fault i.mark i.touched in
    let may = subst (λ (x : CellsState). MayRebuild x doc len) (sym c.self.view_is) c.requires.rebuild in
    let log_is = c.in_ok-log.ensures ∙ (ap (λ (l : List LogEntry). cut_log l (take len c.book.result.now)) c.log.ensures ∙ ap (λ (d : List Entry). cut_log i.past.log (take len d)) c.book.ensures) in
    let part = cut_log i.past.log (take len i.past.diary) in
    let past_is : c.in_ok-past.past ≡ record { document = doc; log = part; diary = take len i.past.diary; marked = None } =
    c.in_ok-past.ensures
    ∙ (ap (λ (l : List LogEntry). record { document = doc; log = l; diary = take len c.entries.result.now; marked = None }) log_is
    ∙ ap (λ (d : List Entry). record { document = doc; log = part; diary = take len d; marked = None }) (c.entries.ensures ∙ c.book-2.ensures)) in
    let z = to_z w64 (of_z w64 c.last_moment-moment.result) in
    let at = to_z-of_z w64 c.last_moment-moment.result (record { sfits = c.last_moment-moment.type_inv }) ∙ c.last_moment-moment.ensures ∙ (ap (λ (p : MarkedHistory). last_moment p.diary) past_is ∙ sym (moment_is s doc len may)) in
    subst (λ (x : CellsState). IfOk c.over.result (IsRebuilt x doc len)) c.self.view_is
    (IfOk-weaker c.over.result (λ (cells : CellsState). cells ≡ begun c.in_ok-past.past z) (IsRebuilt s doc len)
    (λ cells made. rebuilt_is s doc len may c.in_ok-past.past z cells past_is at made) c.over.ensures.begun)

pub returns-clause-least : goal.returns-clause-least
returns-clause-least g c =
    subst (λ (d : Document). IfOk c.over.result (λ (cells : CellsState). WhereTold g.T.Table.counts (any_interval d.nodes (interval_at cells) ≤ c.over.new.steps - c.args.steps.now)))
    (ap (λ (p : MarkedHistory). p.document) c.in_ok-past.ensures) c.over.ensures.least
