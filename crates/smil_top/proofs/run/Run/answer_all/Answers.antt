use Rattle.std.proofs.Common.{◌≡◌, ◌≢◌, ℕ, suc, ◌-◌, ◌<◌, List, [], ◌∷◌, ◌++◌, length, Option, Some, Bor, Bool, false, refl, ap, sym, subst, ◌∙◌, arith, inl, inr}
use Rattle.std.specs.Prelude.{◌⊎◌, IsNone, option_map}
use Rattle.smil_outside.specs.declared.line.Line.{Line}
use Rattle.smil_outside.specs.declared.line.Line.TheVariants.{End, InputTooLong, ReadFault}
use Rattle.smil_top.specs.Cut.{cut_of, with_line}
use Rattle.smil_top.specs.Transcript.{TranscriptState, untold}
use Rattle.smil_top.specs.Running.{Answers, IsLine, IsRunning}
use Rattle.smil_top.proofs.EvaluationCounts.{evaluated-fresh, evaluated-next}
use Rattle.smil_top.proofs.ServeStep.{Nexts, Nexts-of, Hands, hands-no_fault, next-line, fault-open, HasRead, HasRead-fresh, IsServing, IsServing-of, Wrote, Wrote-fresh, Wrote-handed, Wrote-next, told-next, some-told, Ran-unhanded, RanCounted-end, RanCounted-untold, Ran-too_long, Ran-fault, Ran-unwritten}
use Rattle.smil_top.proofs.TextsWritten.{where_ok}
use Rattle.smil_top.proofs.run.Run.answer_all.Given.{Over}
use Rattle.smil_top.proofs.run.Run.answer_all.Goals as goal
use Rattle.smil_top.proofs.run.Run.answer_all.Goals.{After-line, After-next}
use Rattle.smil_top.proofs.run.Run.answer_all.Goals.{in-Bytes, in-LongLine}

-- the line that the reader shows
abbrev shown : Option (Bor (List ℕ)) → Option (List ℕ)
shown text = option_map {T = Bor (List ℕ)} {U = List ℕ} (λ t. t.now) text

pub lines-init : goal.lines-init
lines-init g c =
    let rest = g.S.Source.rest c.args.source.now in
    let taken = g.K.Sink.taken c.args.sink.now in
    let room = g.K.Sink.sure_room c.args.sink.now in
    record {
      read = record { came = []; answered = []; has = subst (λ r. HasRead r rest rest [] []) (sym c.requires.fresh) (HasRead-fresh rest) };
      wrote = λ checks begun. Wrote-fresh checks c.args.self.now taken room begun;
      some = λ checks begun told. absurd cc;
      reads = refl;
      writes = refl;
      sure = λ never. never;
      steps = omega arith;
      evaluated = λ begun. evaluated-fresh c.args.self.now.counts c.args.steps.now;
    }

module _ (g : Over) (c : After-next g) where
  -- what the reader answered
  nexts : (answer : Line) → c.next.result ≡ answer → Nexts c.lines.reader c.next.new.self answer (g.S.Source.rest c.lines.source) (g.S.Source.rest c.next.new.source)
  nexts answer is =
      subst (λ a. Nexts c.lines.reader c.next.new.self a (g.S.Source.rest c.lines.source) (g.S.Source.rest c.next.new.source)) is
      (Nexts-of g.S.Source.rest c.lines.source c.next.new.source c.lines.reader c.next.new.self c.next.result c.lines.invariant.read.has.unbroken c.next.ensures.again c.next.ensures.reads)

  -- a read that failed was made before the end
  open-yet : c.next.result ≡ ReadFault → IsNone c.lines.reader.closed
  open-yet is = fault-open c.lines.reader c.next.new.self (g.S.Source.rest c.lines.source) (g.S.Source.rest c.next.new.source) (nexts ReadFault is)

  -- what was told is written, also where it was handed on
  wrote : (checks : Bool) → IsRunning checks c.args.self.now (cut_of []) untold
      → Wrote checks c.lines.self (g.K.Sink.taken c.args.sink.now) (g.K.Sink.taken c.hand_on_before.new.sink) (g.K.Sink.sure_room c.args.sink.now) (g.K.Sink.sure_room c.hand_on_before.new.sink) c.lines.invariant.read.answered
  wrote checks begun =
      Wrote-handed checks c.lines.self (g.K.Sink.taken c.args.sink.now) (g.K.Sink.taken c.lines.sink) (g.K.Sink.taken c.hand_on_before.new.sink) (g.K.Sink.sure_room c.args.sink.now) (g.K.Sink.sure_room c.lines.sink) (g.K.Sink.sure_room c.hand_on_before.new.sink) c.lines.invariant.read.answered
      c.in-Ok.ensures.bytes c.in-Ok.ensures.room (c.lines.invariant.wrote checks begun)

  -- what stands between the lines before it and it
  serving : (checks : Bool) → IsRunning checks c.args.self.now (cut_of []) untold
      → IsServing checks c.lines.reader c.lines.self (g.S.Source.rest c.args.source.now) (g.S.Source.rest c.lines.source) (g.K.Sink.taken c.args.sink.now) (g.K.Sink.taken c.hand_on_before.new.sink) (g.K.Sink.sure_room c.args.sink.now) (g.K.Sink.sure_room c.hand_on_before.new.sink)
  serving checks begun =
      IsServing-of checks c.lines.reader c.lines.self (g.S.Source.rest c.args.source.now) (g.S.Source.rest c.lines.source) (g.K.Sink.taken c.args.sink.now) (g.K.Sink.taken c.hand_on_before.new.sink)
      (g.K.Sink.sure_room c.args.sink.now) (g.K.Sink.sure_room c.hand_on_before.new.sink) c.lines.invariant.read (wrote checks begun)

pub returns-in_default-clause-ran : goal.returns-in_default-clause-ran
returns-in_default-clause-ran g c checks begun =
    let failed = c.in_default.ensures.err in
    let quiet = g.met.K.Sink.unsure c.args.sink.now failed.1 in
    let here = IsServing-of checks c.lines.reader c.lines.self (g.S.Source.rest c.args.source.now) (g.S.Source.rest c.lines.source) (g.K.Sink.taken c.args.sink.now) (g.K.Sink.taken c.lines.sink) (g.K.Sink.sure_room c.args.sink.now) (g.K.Sink.sure_room c.lines.sink) c.lines.invariant.read (c.lines.invariant.wrote checks begun) in
    Ran-unhanded here quiet.0 quiet.1 (c.lines.invariant.some checks begun failed.0)

pub returns-in_default-clause-evaluated : goal.returns-in_default-clause-evaluated
returns-in_default-clause-evaluated g c checks begun = RanCounted-untold refl (returns-in_default-clause-ran g c checks begun)

pub returns-in-End-clause-evaluated : goal.returns-in-End-clause-evaluated
unfolding serving
returns-in-End-clause-evaluated g c checks begun =
    let read = c.lines.invariant.read in
    let here = serving g (goal.at.returns-in-End-clause-evaluated g c).After-next checks begun in
    RanCounted-end here c.end.result (nexts g (goal.at.returns-in-End-clause-evaluated g c).After-next End c.in-End.is) c.end.ensures.ends (c.lines.steps - c.args.steps.now)
    (λ runs. c.end.ensures.evaluated (cut_of read.answered) here.told c.args.steps.now c.lines.steps
    (subst (λ k. IsRunning k c.lines.self (cut_of read.answered) here.told) runs here.writing.running)
    (c.lines.invariant.evaluated (subst (λ k. IsRunning k c.args.self.now (cut_of []) untold) runs begun)))

pub returns-in-End-clause-ran : goal.returns-in-End-clause-ran
returns-in-End-clause-ran g c checks begun = (returns-in-End-clause-evaluated g c checks begun).ran

pub returns-in-InputTooLong-clause-ran : goal.returns-in-InputTooLong-clause-ran
returns-in-InputTooLong-clause-ran g c checks begun = Ran-too_long (serving g (goal.at.returns-in-InputTooLong-clause-ran g c).After-next checks begun) (nexts g (goal.at.returns-in-InputTooLong-clause-ran g c).After-next InputTooLong c.in-InputTooLong.is)

pub returns-in-InputTooLong-clause-evaluated : goal.returns-in-InputTooLong-clause-evaluated
returns-in-InputTooLong-clause-evaluated g c checks begun = RanCounted-untold refl (returns-in-InputTooLong-clause-ran g c checks begun)

pub returns-in-ReadFault-clause-ran : goal.returns-in-ReadFault-clause-ran
returns-in-ReadFault-clause-ran g c checks begun = Ran-fault (serving g (goal.at.returns-in-ReadFault-clause-ran g c).After-next checks begun) (nexts g (goal.at.returns-in-ReadFault-clause-ran g c).After-next ReadFault c.in-ReadFault.is)

pub returns-in-ReadFault-clause-evaluated : goal.returns-in-ReadFault-clause-evaluated
returns-in-ReadFault-clause-evaluated g c checks begun = RanCounted-untold refl (returns-in-ReadFault-clause-ran g c checks begun)

module _ (g : Over) (c : After-line g) (next : Nexts c.lines.reader c.next.new.self c.next.result (g.S.Source.rest c.lines.source) (g.S.Source.rest c.next.new.source)) where
  -- a line that the reader shows, or one that is too long
  hands : Hands c.next.new.self c.next.result (shown c.match-next.text)
  hands = elim c.match-next.branch [
    | in-Bytes w ↦ inl (w.in-Bytes.is, ap shown w.text-is ∙ ap Some w.bytes.ensures)
    | in-LongLine w ↦ inr (w.in-LongLine.is, ap shown w.text-is)
  ]

  -- no read failed
  unfailed : c.next.result ≢ ReadFault
  unfailed = hands-no_fault c.next.new.self c.next.result (shown c.match-next.text) hands

  -- the line that was read
  line : (came : List ℕ) × (line : List ℕ) × HasRead c.next.new.self (g.S.Source.rest c.args.source.now) (g.S.Source.rest c.next.new.source) came (c.lines.invariant.read.answered ++ line ∷ [])
      × IsLine (shown c.match-next.text) line × (c.next.new.self.number ≡ suc (cut_of c.lines.invariant.read.answered).count)
  line = next-line c.lines.invariant.read.has c.next.result (shown c.match-next.text) next hands

  -- what it is answered
  answers : (checks : Bool) (told : TranscriptState) → IsRunning checks c.lines.self (cut_of c.lines.invariant.read.answered) told
      → Answers checks c.line.result c.line.new.self (with_line (cut_of c.lines.invariant.read.answered) line.1) told (g.K.Sink.taken c.hand_on_before.new.sink) (g.K.Sink.taken c.line.new.sink) (g.K.Sink.sure_room c.hand_on_before.new.sink) (g.K.Sink.sure_room c.line.new.sink)
  answers checks told running = c.line.ensures.answers checks (cut_of c.lines.invariant.read.answered) told line.1 running (c.number-number.ensures.value ∙ line.4) line.3

pub returns-then-is_err-clause-ran : goal.returns-then-is_err-clause-ran
returns-then-is_err-clause-ran g c checks begun =
    let at = goal.at.returns-then-is_err-clause-ran g c in
    let next = nexts g at.After-next c.next.result refl in
    let w = wrote g at.After-next checks begun in
    Ran-unwritten (g.K.Sink.taken c.args.sink.now) c.lines.invariant.read.answered (line g at.After-line next).1 (line g at.After-line next).2 w.1.written c.line.result (sym c.is_err.ensures.value ∙ c.if-is_err.true) (answers g at.After-line next checks w.0 w.1.running)

pub returns-then-is_err-clause-evaluated : goal.returns-then-is_err-clause-evaluated
returns-then-is_err-clause-evaluated g c checks begun = RanCounted-untold refl (returns-then-is_err-clause-ran g c checks begun)

pub lines-preserved : goal.lines-preserved
unfolding wrote
lines-preserved g c =
    let read = c.lines.invariant.read in
    let e = c.next.ensures in
    let at = goal.at.lines-preserved g c in
    let next = nexts g at.After-next c.next.result refl in
    let n = line g at.After-line next in
    record {
      read = record { came = n.0; answered = read.answered ++ n.1 ∷ []; has = n.2 };
      wrote = λ checks begun.
          let w = wrote g at.After-next checks begun in
          Wrote-next (g.K.Sink.taken c.args.sink.now) read.answered n.1 n.2 w.1.written c.line.result (sym c.is_err.ensures.value ∙ c.if-is_err.false) (answers g at.After-line next checks w.0 w.1.running);
      some = λ checks begun told.
          let w = wrote g at.After-next checks begun in
          let went = sym c.is_err.ensures.value ∙ c.if-is_err.false in
          let a = answers g at.After-line next checks w.0 w.1.running in
          let some_text : (0 < length w.0.text) ⊎ (0 < length a.goes.text) = elim (c.tells-has_told.ensures told) [
            | inl before ↦ inl (c.lines.invariant.some checks begun before)
            | inr now ↦ inr (subst (λ (t : List ℕ). 0 < length t) a.stands now)
          ] in
          subst (λ (t : TranscriptState). 0 < length t.text) (sym (told-next (g.K.Sink.taken c.args.sink.now) read.answered n.1 n.2 w.1.written c.line.result went a)) (some-told w.0.text a.more.text a.goes.text a.goes.text_is some_text);
      reads = e.kept (unfailed g at.After-line next) ∙ c.lines.invariant.reads;
      writes = where_ok c.line.result _ (sym c.is_err.ensures.value ∙ c.if-is_err.false) c.line.ensures.faults.kept ∙ c.in-Ok.ensures.faults.kept ∙ c.lines.invariant.writes;
      sure = λ never. (e.sure (c.lines.invariant.sure never)).0;
      steps = omega (arith, c.lines.invariant.steps, c.line.ensures.counted);
      evaluated = λ begun.
          let w = wrote g at.After-next false begun in
          evaluated-next
          c.line.new.self.counts
          read.answered
          n.1
          c.args.steps.now
          c.line.new.steps
          (c.line.ensures.evaluated (cut_of read.answered) w.0 n.1 w.1.running (c.number-number.ensures.value ∙ n.4) n.3 c.args.steps.now (c.lines.invariant.evaluated begun));
    }
