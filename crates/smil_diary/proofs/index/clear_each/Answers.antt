use Rattle.std.proofs.Common.{ℕ, ◌<◌, length, get_or, arith}
use Rattle.std.proofs.lemmas.List.{get_or_default}
use Rattle.std.proofs.lemmas.List.Edits.{map_over_more}
use Rattle.smil_diary.specs.declared.element.ElementPlaces.{ElementPlaces}
use Rattle.smil_diary.specs.declared.element.TheConstants.{NOTHING}
use Rattle.smil_diary.specs.ElementPlaces.{cleared}
use Rattle.smil_diary.proofs.index.clear_each.Goals as goal

-- what stands for a row where there is none
abbrev no_row : ℕ × ElementPlaces
no_row = (0, NOTHING)

pub loop-row-preserved : goal.loop-row-preserved
loop-row-preserved c =
    let now = c.loop-row.elements in
    let i = c.loop-row.row-index in
    let inside : i < length now = omega (arith, c.loop-row-test.true, c.loop-row.auto.elements) in
    map_over_more cleared c.args.elements.now now i (get_or now i no_row) c.loop-row-test.true c.loop-row.invariant (get_or_default now i no_row (get_or now i no_row) inside)
