use Rattle.std.proofs.Common.{◌≡◌, ◌+◌, ◌-◌, ◌≤◌, []}
use Rattle.smil_outside.specs.declared.line.TheConstants.{INPUT_BYTES}
use Rattle.smil_outside.specs.declared.window.TheConstants.{WINDOW_BYTES}
use Rattle.smil_outside.proofs.ScanLemmas.{ScanState}
use Rattle.smil_outside.proofs.scan.seek_line_end.Given as goal

abbrev pub invariant-loop-at : goal.invariant-loop-at
invariant-loop-at g l = record {
  scanning : ScanState l.fn.window.bytes l.window.bytes l.fn.taken l.taken l.is_long l.scanned (g.S.Source.rest l.fn.source) (g.S.Source.rest l.source);
  line : l.window.line ≡ [];
  bound : l.taken ≤ INPUT_BYTES + WINDOW_BYTES;
  kept : g.S.Source.faults l.source ≡ g.S.Source.faults l.fn.source;
  sure : g.S.Source.never_fails l.fn.source → g.S.Source.never_fails l.source;
}

abbrev pub decreases-loop-at : goal.decreases-loop-at
decreases-loop-at g l = INPUT_BYTES + 1 - l.taken
