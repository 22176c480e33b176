use Rattle.std.proofs.Common.{sym, subst, List, [], None}
use Rattle.std.specs.Prelude.{pos}
use Rattle.smil_model.specs.declared.diary.LogEntry.{LogEntry}
use Rattle.smil_model.specs.document.Document.{Document}
use Rattle.smil_past.specs.Past.{MarkedHistory}
use Rattle.smil_cells.specs.Standings.{MayBegin}
use Rattle.smil_cells.proofs.FirstCells.{may_first}
use Rattle.smil_cells.proofs.cells.Cells.new.Goals as goal

pub over-requires : goal.over-requires
over-requires g c =
    subst (λ (p : MarkedHistory). MayBegin p (pos 0)) (sym c.in_ok-past.ensures)
    (subst (λ (d : Document). MayBegin (record { document = d; log = c.new.result; diary = []; marked = None }) (pos 0)) (sym c.in_ok-tree.ensures)
    (subst (λ (l : List LogEntry). MayBegin (record { document = c.args.doc; log = l; diary = []; marked = None }) (pos 0)) (sym c.new.ensures)
    (may_first c.args.doc c.requires)))
