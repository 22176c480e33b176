use Rattle.std.proofs.Common.{◌≡◌, ℕ, suc, Bool, List, [], ◌∷◌, ◌++◌, length, Option, Some, Bor, refl, ap, sym, subst, ◌∙◌, arith, inl, inr}
use Rattle.std.specs.Prelude.{◌||◌, IsNone, Result, Ok, option_map}
use Rattle.smil_outside.specs.declared.line.Line.{Line}
use Rattle.smil_outside.specs.declared.line.Line.TheVariants.{End, InputTooLong, ReadFault}
use Rattle.smil_top.specs.declared.audit.AuditInput.{AuditInput}
use Rattle.smil_top.specs.declared.fault.Fault.{Fault}
use Rattle.smil_top.specs.Auditing.{IsSound, ReadsAs, audit_input, input_takes, reading_takes}
use Rattle.smil_top.proofs.AuditLines.{end-number, more_read, more_takes}
use Rattle.smil_top.proofs.OrderCuts.{count-cut_of}
use Rattle.smil_top.proofs.ServeStep.{Nexts, Nexts-of, Hands, hands-no_fault, next-line, next-end, next-too_long, next-fault, fault-open, HasRead, HasRead-fresh}
use Rattle.smil_outside.specs.Faults.{HasRisen}
use Rattle.smil_top.proofs.audit.AuditOpening.read_all.Given.{Over}
use Rattle.smil_top.proofs.audit.AuditOpening.read_all.Goals as goal
use Rattle.smil_top.proofs.audit.AuditOpening.read_all.Goals.{After-next, in-Bytes, in-LongLine}

-- the line that the reader shows
abbrev shown : Option (Bor (List ℕ)) → Option (List ℕ)
shown text = option_map {T = Bor (List ℕ)} {U = List ℕ} (λ t. t.now) text

abbrev so_far : AuditInput → Result AuditInput Fault
so_far read = Ok read

pub lines-init : goal.lines-init
lines-init g c =
    let rest = g.S.Source.rest c.args.source.now in
    record {
      read = record { came = []; answered = []; has = subst (λ r. HasRead r rest rest [] []) (sym c.requires.fresh) (HasRead-fresh rest) };
      said = inr (ap so_far (sym c.requires.unread), tt);
      sound = subst IsSound (sym c.requires.unread) tt;
      reads = refl;
      sure = λ never. never;
    }

module _ (g : Over) (c : After-next g) where
  -- what the reader answered
  nexts : (answer : Line) → c.next.result ≡ answer → Nexts c.lines.reader c.next.new.self answer (g.S.Source.rest c.lines.source) (g.S.Source.rest c.next.new.source)
  nexts answer is =
      subst (λ a. Nexts c.lines.reader c.next.new.self a (g.S.Source.rest c.lines.source) (g.S.Source.rest c.next.new.source)) is
      (Nexts-of g.S.Source.rest c.lines.source c.next.new.source c.lines.reader c.next.new.self c.next.result c.lines.invariant.read.has.unbroken c.next.ensures.again c.next.ensures.reads)

  -- a read that failed was made before the end
  open-yet : c.next.result ≡ ReadFault → IsNone c.lines.reader.closed
  open-yet is = fault-open c.lines.reader c.next.new.self (g.S.Source.rest c.lines.source) (g.S.Source.rest c.next.new.source) (nexts ReadFault is)

pub returns-in-End-clause-whole : goal.returns-in-End-clause-whole
returns-in-End-clause-whole g c =
    let ended = nexts g (goal.at.returns-in-End-clause-whole g c).After-next End c.in-End.is in
    let n = next-end c.lines.invariant.read.has ended in
    let same : c.next.new.self.number ≡ c.lines.reader.number = end-number c.lines.reader c.next.new.self (g.S.Source.rest c.lines.source) (g.S.Source.rest c.next.new.source) ended in
    record {
      came = n.0;
      read = n.1;
      at_end = n.2;
      within = n.4;
      said = subst (λ (xs : List (List ℕ)). ReadsAs (input_takes xs) c.lines.said (audit_input xs)) (sym n.3) c.lines.invariant.said;
      lines = c.number-lines.ensures.value ∙ same ∙ c.lines.invariant.read.has.has.numbered ∙ ap length (sym n.3);
    }

pub returns-in-InputTooLong-clause-stopped : goal.returns-in-InputTooLong-clause-stopped
returns-in-InputTooLong-clause-stopped g c =
    let n = next-too_long c.lines.invariant.read.has (nexts g (goal.at.returns-in-InputTooLong-clause-stopped g c).After-next InputTooLong c.in-InputTooLong.is) in
    (n.0, n.1, n.3)

pub returns-in-ReadFault-clause-stopped : goal.returns-in-ReadFault-clause-stopped
returns-in-ReadFault-clause-stopped g c =
    let n = next-fault c.lines.invariant.read.has (nexts g (goal.at.returns-in-ReadFault-clause-stopped g c).After-next ReadFault c.in-ReadFault.is) in
    (n.0, n.1, n.3)

pub returns-in-ReadFault-clause-read_cause : goal.returns-in-ReadFault-clause-read_cause
returns-in-ReadFault-clause-read_cause g c = λ same.
    let faults = g.S.Source.faults in
    subst (λ (n : ℕ). HasRisen n (faults c.next.new.source)) c.lines.invariant.reads (c.next.ensures.cause c.in-ReadFault.is (open-yet g (goal.at.returns-in-ReadFault-clause-read_cause g c).After-next c.in-ReadFault.is))

pub returns-in-ReadFault-clause-sure : goal.returns-in-ReadFault-clause-sure
returns-in-ReadFault-clause-sure g c = λ never same. (c.next.ensures.sure (c.lines.invariant.sure never)).1 (open-yet g (goal.at.returns-in-ReadFault-clause-sure g c).After-next c.in-ReadFault.is) c.in-ReadFault.is

pub lines-preserved : goal.lines-preserved
lines-preserved g c =
    let held = c.lines.invariant in
    let hands : Hands c.next.new.self c.next.result (shown c.match-next.text) = elim c.match-next.branch [
      | in-Bytes w ↦ inl (w.in-Bytes.is, ap shown w.text-is ∙ ap Some w.bytes.ensures)
      | in-LongLine w ↦ inr (w.in-LongLine.is, ap shown w.text-is)
    ] in
    let n = next-line held.read.has c.next.result (shown c.match-next.text) (nexts g (goal.at.lines-preserved g c).After-next c.next.result refl) hands in
    let number : c.number.result ≡ suc (length held.read.answered) = omega (arith, c.number.ensures.value, n.4, count-cut_of held.read.answered) in
    record {
      read = record { came = n.0; answered = held.read.answered ++ n.1 ∷ []; has = n.2 };
      said = subst (λ (b : Bool). ReadsAs b c.with_line-said.result (audit_input (held.read.answered ++ n.1 ∷ []))) (sym (more_takes held.read.answered n.1))
          (subst (λ (r : Result AuditInput Fault). ReadsAs (input_takes held.read.answered || reading_takes (audit_input held.read.answered) n.1) c.with_line-said.result r) (sym (more_read held.read.answered n.1 c.number.result number))
          (c.with_line-said.ensures.read n.1 (audit_input held.read.answered) (input_takes held.read.answered) n.3 held.said));
      sound = c.with_line-said.ensures.sound;
      reads = c.next.ensures.kept (hands-no_fault c.next.new.self c.next.result (shown c.match-next.text) hands) ∙ held.reads;
      sure = λ never. (c.next.ensures.sure (held.sure never)).0;
    }
