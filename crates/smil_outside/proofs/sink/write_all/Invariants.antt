use Rattle.std.proofs.Common.{◌≡◌, ℕ, ◌+◌, ◌≤◌, List, ◌++◌, length}
use Rattle.std.specs.Io.KnownBytes.{Appends}
use Rattle.smil_outside.proofs.sink.write_all.Given as goal

-- `done` was written so far
abbrev pub invariant-loop-rest : goal.invariant-loop-rest
invariant-loop-rest g l =
    (done : List ℕ) × (l.bytes ≡ done ++ l.rest) × Appends (g.K.Sink.taken l.fn.sink) (g.K.Sink.taken l.sink) done
    × (g.K.Sink.faults l.sink ≡ g.K.Sink.faults l.fn.sink) × (g.K.Sink.sure_room l.fn.sink ≤ g.K.Sink.sure_room l.sink + length done)

abbrev pub decreases-loop-rest : goal.decreases-loop-rest
decreases-loop-rest g l = length l.rest
