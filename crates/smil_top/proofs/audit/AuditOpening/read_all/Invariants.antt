use Rattle.std.proofs.Common.{◌≡◌, ◌-◌}
use Rattle.std.specs.Prelude.{IfOk}
use Rattle.smil_outside.specs.declared.line.TheConstants.{INPUT_BYTES}
use Rattle.smil_top.specs.Auditing.{IsSound, ReadsAs, audit_input, input_takes}
use Rattle.smil_top.proofs.ServeStep.{IsReading}
use Rattle.smil_top.proofs.audit.AuditOpening.read_all.Given as goal

-- the lines so far are read, without a fault
abbrev pub invariant-lines : goal.invariant-lines
invariant-lines g l = record {
  read : IsReading l.reader (g.S.Source.rest l.fn.source) (g.S.Source.rest l.source);
  said : ReadsAs (input_takes read.answered) l.said (audit_input read.answered);
  sound : IfOk l.said IsSound;
  reads : g.S.Source.faults l.source ≡ g.S.Source.faults l.fn.source;
  sure : g.S.Source.never_fails l.fn.source → g.S.Source.never_fails l.source;
}

-- each line has a number of its own, up to the limit
abbrev pub decreases-lines : goal.decreases-lines
decreases-lines g l = INPUT_BYTES - l.reader.number
