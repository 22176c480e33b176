use Rattle.std.proofs.Common.{◌≡◌, take, drop, length}
use Rattle.std.specs.Prelude.{map}
use Rattle.tenphsar.specs.Records.{record_of}
use Rattle.tenphsar.proofs.records.copy.Given as goal

-- what was copied, and what stays
abbrev pub invariant-loop-i : goal.invariant-loop-i
invariant-loop-i l = record {
  front : take l.i l.out ≡ take l.i (map record_of l.changes);
  back : drop l.i l.out ≡ drop l.i l.fn.out;
  same : length l.out ≡ length l.fn.out;
}
