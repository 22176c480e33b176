use Rattle.std.proofs.Common.{◌≡◌, ◌∙◌, ap, sym, subst, Bool}
use Rattle.smil_nodes.specs.Marked.{IsMarked, IsUpToDate, back_from}
use Rattle.smil_nodes.specs.Undo.{Kept, all_back}
use Rattle.smil_nodes.proofs.RowsPutBack.{back_next}
use Rattle.smil_nodes.proofs.live.LiveTableTable.back.Goals as goal

pub loop-noted-preserved : goal.loop-noted-preserved
loop-noted-preserved c =
    let kept : Kept = record { rows = c.loop-noted.self.schedule; ends = c.loop-noted.self.endings } in
    let notes = c.take_last.new.self in
    (λ i. all_back (record { rows = c.put_back.ensures.rows i; ends = c.put_back.ensures.ends i }) notes)
    ∙ back_next kept notes c.loop-noted.self.undo c.in-Some.noted c.in-Some.ensures.last
    ∙ c.loop-noted.invariant

pub returns-clause-current : goal.returns-clause-current
returns-clause-current c = λ h now marked.
    let old = c.args.self.now in
    let kept : Kept = record { rows = c.loop-noted.self.schedule; ends = c.loop-noted.self.endings } in
    let stands = subst (λ (b : Bool). IsMarked b old.undo old.schedule old.endings h now) c.requires marked in
    let same : back_from old.undo old.schedule old.endings ≡ kept = sym c.loop-noted.invariant ∙ ap (all_back kept) c.in_default.ensures.last.0 in
    subst (λ (k : Kept). IsUpToDate k.rows k.ends h now) same stands
