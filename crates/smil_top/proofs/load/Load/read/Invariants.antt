use Rattle.std.proofs.Common.{◌≡◌, ◌+◌, ◌≤◌, length}
use Rattle.smil_top.specs.GivenLoads.{outline_lines}
use Rattle.smil_top.proofs.LoadsGiven.{IsReadOn}
use Rattle.smil_top.proofs.load.Load.read.Given as goal

-- the lines before the rest are read and numbered
abbrev pub invariant-lines : goal.invariant-lines
invariant-lines l = record {
  read : IsReadOn l.fn.self l.load l.fn.number l.last l.fn.outline l.rest;
  last : l.last + length (outline_lines l.rest) ≡ l.fn.number + length (outline_lines l.fn.outline);
  room : l.last + length l.rest ≤ l.fn.number + length l.fn.outline;
}

-- each line takes its line feed along
abbrev pub decreases-lines : goal.decreases-lines
decreases-lines l = length l.rest
