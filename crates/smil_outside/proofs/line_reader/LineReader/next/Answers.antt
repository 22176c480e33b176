use Rattle.std.proofs.Common.{◌≡◌, ◌≤◌, ◌+◌, [], Some, length, take, refl, ap, subst, ◌∙◌, arith}
use Rattle.std.specs.Str.Lines.{strip_carriage_return}
use Rattle.smil_outside.specs.declared.line.Ending.TheVariants as ending
use Rattle.smil_outside.specs.ReaderState.{ReaderState}
use Rattle.smil_outside.specs.Scan.{Stops}
use Rattle.smil_outside.proofs.ReadLemmas.{scan_fits, scan_uncut, line_feed_reads, end_reads, Counts-from}
use Rattle.smil_outside.proofs.line_reader.LineReader.next.Goals as goal

pub invariant_of-self-in-LineFeed : goal.invariant_of-self-in-LineFeed
invariant_of-self-in-LineFeed g c =
    (c.seek_line_end-scan.ensures.taken, scan_fits _ _ _ _ _ _ _ c.self.inside.number (rw c.cut.ensures at c.seek_line_end-scan.ensures.scans) c.self.invariant.1)

pub invariant_of-self-in-InputEnd : goal.invariant_of-self-in-InputEnd
invariant_of-self-in-InputEnd g c =
    (c.seek_line_end-scan.ensures.taken, scan_fits _ _ _ _ _ _ _ c.self.inside.number (rw c.cut.ensures at c.seek_line_end-scan.ensures.scans) c.self.invariant.1)

pub invariant_of-self-in-InputTooLong : goal.invariant_of-self-in-InputTooLong
invariant_of-self-in-InputTooLong g c =
    (c.seek_line_end-scan.ensures.taken, scan_fits _ _ _ _ _ _ _ c.self.inside.number (rw c.cut.ensures at c.seek_line_end-scan.ensures.scans) c.self.invariant.1)

pub invariant_of-self-in-Fault : goal.invariant_of-self-in-Fault
invariant_of-self-in-Fault g c =
    (c.seek_line_end-scan.ensures.taken, scan_fits _ _ _ _ _ _ _ c.self.inside.number (rw c.cut.ensures at c.seek_line_end-scan.ensures.scans) c.self.invariant.1)

pub returns-in-LineFeed-clause-reads : goal.returns-in-LineFeed-clause-reads
returns-in-LineFeed-clause-reads g c =
    let scans = rw c.cut.ensures at c.seek_line_end-scan.ensures.scans in
    let scan = c.seek_line_end-scan.result in
    let at = c.in-LineFeed.at in
    let len = c.content_len-len.result in
    let window = c.seek_line_end-scan.new.window in
    let mid : ReaderState = record { pending = window.bytes; taken = c.seek_line_end-scan.new.taken; line = window.line; number = c.self.inside.number; closed = c.self.inside.closed } in
    let stops = subst (λ stop. Stops stop window.bytes c.seek_line_end-scan.new.taken (g.S.Source.rest c.seek_line_end-scan.new.source)) c.in-LineFeed.is scans.stopped in
    let bound = subst (λ bytes. len ≤ length (take at bytes)) c.bytes.ensures.value c.content_len-len.ensures.bound in
    let content = subst (λ bytes. take len (take at bytes) ≡ strip_carriage_return (take at bytes)) c.bytes.ensures.value c.content_len-len.ensures.value in
    rw (← c.self.view_is) (λ none.
    line_feed_reads _ mid c.answer_line.new.self c.answer_line.result scan _ _ at len scans stops refl c.in_default.is bound content
    (λ long. let e = c.answer_line.ensures.long long in (e.0, ap (λ r. r.line) e.1, Counts-from mid c.answer_line.new.self (at + 1) [] e.1))
    (λ whole few. let e = c.answer_line.ensures.short whole few in (e.0, ap (λ r. r.line) e.1, Counts-from mid c.answer_line.new.self (at + 1) (take len window.bytes) e.1)))

pub returns-else-len-eq0-clause-reads : goal.returns-else-len-eq0-clause-reads
returns-else-len-eq0-clause-reads g c =
    let scans = rw c.cut.ensures at c.seek_line_end-scan.ensures.scans in
    let scan = c.seek_line_end-scan.result in
    let window = c.seek_line_end-scan.new.window in
    let mid : ReaderState = record { pending = window.bytes; taken = c.seek_line_end-scan.new.taken; line = window.line; number = c.self.inside.number; closed = Some ending.End } in
    let new = c.answer_line-in-InputEnd.new.self in
    let stops = subst (λ stop. Stops stop window.bytes c.seek_line_end-scan.new.taken (g.S.Source.rest c.seek_line_end-scan.new.source)) c.in-InputEnd.is scans.stopped in
    let size : length c.bytes-len.result.now ≡ length window.bytes = ap length c.bytes-len.ensures.value in
    let ensured = rw size at c.answer_line-in-InputEnd.ensures in
    rw (← c.self.view_is) (λ none.
    end_reads _ mid new c.answer_line-in-InputEnd.result scan _ _ scans stops refl refl (omega (arith, size, c.if-len-eq0.false))
    (λ long. let e = ensured.long long in (e.0, ap (λ r. r.line) e.1, Counts-from mid new (length window.bytes) [] e.1))
    (λ whole few. let e = ensured.short whole few in (e.0, ap (λ r. r.line) e.1, Counts-from mid new (length window.bytes) (take (length window.bytes) window.bytes) e.1)))

pub returns-in-Fault-clause-reads : goal.returns-in-Fault-clause-reads
returns-in-Fault-clause-reads g c =
    let scans = rw c.cut.ensures at c.seek_line_end-scan.ensures.scans in
    let window = c.seek_line_end-scan.new.window in
    let stops = subst (λ stop. Stops stop window.bytes c.seek_line_end-scan.new.taken (g.S.Source.rest c.seek_line_end-scan.new.source)) c.in-Fault.is scans.stopped in
    let after = c.close-in-Fault.ensures.after in
    rw (← c.self.view_is, c.close-in-Fault.ensures.answer) (λ none. record {
      came = scans.came;
      took = scans.took;
      counted = ap (λ r. r.taken) after ∙ scans.counted;
      numbered = ap (λ r. r.number) after ∙ omega arith;
      answered = (
        scan_uncut _ _ _ _ _ _ _ scans stops.0,
        omega (arith, ap (λ r. r.taken) after, stops.1),
        record { closed = ap (λ r. r.closed) after; pending = ap (λ r. r.pending) after; line = ap (λ r. r.line) after },
      );
    })
