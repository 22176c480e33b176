use Rattle.std.proofs.Common.{◌≡◌, ◌-◌, ◌<◌, ◌≤◌, length, Bool, true, false, []}
use Rattle.smil_outside.specs.declared.line.TheConstants.{INPUT_BYTES}
use Rattle.smil_top.specs.Cut.{cut_of}
use Rattle.smil_top.specs.Transcript.{untold}
use Rattle.smil_top.specs.Running.{HasEvaluated, IsRunning}
use Rattle.smil_top.proofs.ServeStep.{IsReading, Wrote}
use Rattle.smil_top.proofs.run.Run.answer_all.Given as goal

-- the lines so far are read and answered, without a fault, and something was told where that is
-- noted; the count of evaluations only rises
abbrev pub invariant-lines : goal.invariant-lines
invariant-lines g l = record {
  read : IsReading l.reader (g.S.Source.rest l.fn.source) (g.S.Source.rest l.source);
  wrote : (checks : Bool) → IsRunning checks l.fn.self (cut_of []) untold → Wrote checks l.self (g.K.Sink.taken l.fn.sink) (g.K.Sink.taken l.sink) (g.K.Sink.sure_room l.fn.sink) (g.K.Sink.sure_room l.sink) read.answered;
  some : (checks : Bool) (begun : IsRunning checks l.fn.self (cut_of []) untold) → l.has_told ≡ true → 0 < length (wrote checks begun).0.text;
  reads : g.S.Source.faults l.source ≡ g.S.Source.faults l.fn.source;
  writes : g.K.Sink.faults l.sink ≡ g.K.Sink.faults l.fn.sink;
  sure : g.S.Source.never_fails l.fn.source → g.S.Source.never_fails l.source;
  steps : l.fn.steps ≤ l.steps;
  evaluated : IsRunning false l.fn.self (cut_of []) untold → HasEvaluated l.self.counts (cut_of read.answered).whole l.fn.steps l.steps;
}

-- each line has a number of its own, up to the limit
abbrev pub decreases-lines : goal.decreases-lines
decreases-lines g l = INPUT_BYTES - l.reader.number
