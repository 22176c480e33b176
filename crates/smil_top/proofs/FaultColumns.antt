-- A line that has a fault of rewriting isn't too long, so the fault has a column.
use Rattle.std.proofs.Common.{◌≡◌, ℕ, ◌≤◌, ◌&&◌, Bool, true, false, List, [], length, Option, Ok, Err, refl, arith}
use Rattle.std.specs.Prelude.{ℤ, not, nat_lt, if◌then◌else◌}
use Rattle.std.proofs.lemmas.Bool.{ltb-false}
use Rattle.smil_model.specs.declared.limits.TheConstants.{LINE_BYTES}
use Rattle.smil_grammar.specs.Nodes.{quote_pieces}
use Rattle.smil_wall.specs.declared.fault.WallFault.{WallFault}
use Rattle.smil_wall.specs.declared.fault.WallFault.TheVariants as wall
use Rattle.smil_wall.specs.Rewriting.{is_shaped, have_wall, with_anchor, rewritten, FaultWithin, GivesLine}

short_by : (long shaped walls : Bool) (root : Option (List ℕ)) (start : ℤ) (line : List ℕ) (e : WallFault) → nat_lt LINE_BYTES (length line) ≡ long
    → (if not long && shaped && walls then with_anchor root start line else Ok line) ≡ Err e → length line ≤ LINE_BYTES
short_by true shaped walls root start line e is fault = absurd cc
short_by false shaped walls root start line e is fault = ltb-false LINE_BYTES (length line) is

rewritten_short : (root : Option (List ℕ)) (start : ℤ) (line : List ℕ) (e : WallFault) → rewritten root start line ≡ Err e → length line ≤ LINE_BYTES
rewritten_short root start line e fault = short_by (nat_lt LINE_BYTES (length line)) (is_shaped line) (have_wall [] (quote_pieces line)) root start line e refl fault

-- what a call that rewrites a line finds at fault stands in a line that isn't too long
pub near-fault : (root : Option (List ℕ)) (start : ℤ) (line : List ℕ) (e : WallFault) → GivesLine (Err e) (rewritten root start line) → FaultWithin (length line) e → FaultWithin LINE_BYTES e
near-fault root start line wall.NoAnchor gives within = tt
near-fault root start line (wall.BadValue place) gives within =
    let short : length line ≤ LINE_BYTES = rewritten_short root start line (wall.BadValue place) gives in omega (arith, within, short)
near-fault root start line (wall.Unsupported place) gives within =
    let short : length line ≤ LINE_BYTES = rewritten_short root start line (wall.Unsupported place) gives in omega (arith, within, short)
near-fault root start line wall.Memory gives within = tt
