use Rattle.std.proofs.Common.{◌≡◌, ◌+◌, ℕ, length, sym, ap, ◌∙◌, arith}
use Rattle.std.proofs.lemmas.List.{length-append, length-take}
use Rattle.smil_outside.specs.Lines.{HasNoLineFeed}
use Rattle.smil_outside.specs.declared.scan.Stop.TheVariants.{Fault, InputEnd}
use Rattle.smil_outside.proofs.ScanLemmas.{Scanning-read, Scanning-keeps, Scanning-drop_front, Scanning-stops}
use Rattle.smil_outside.proofs.scan.seek_line_end.Goals as goal

pub loop-at-preserved : goal.loop-at-preserved
loop-at-preserved g c =
    let i = c.loop-at.invariant in
    let new = c.drop_front-is_long.new.window in
    let gone = Scanning-drop_front _ c.loop-at.window new _ _ _ c.drop_front-is_long.result _ _ _ i.scanning c.in_default.ensures c.drop_front-is_long.ensures in
    let came = c.in-Ok.ensures.bytes in
    let counted : c.loop-at.taken + c.in-Ok.n ≡ c.loop-at.taken + length came.0 = ap (λ n. c.loop-at.taken + n) (sym came.1) in
    let read = Scanning-read _ new.bytes _ _ _ _ _ _ _ c.fill.new.self.bytes came.0 _ gone (omega arith) counted came.2 came.3 in
    record {
      scanning = rw c.bytes-scanned.ensures.value read;
      line = c.in-Ok.ensures.line;
      bound = omega (arith, c.in-Ok.ensures.bound);
      kept = c.in-Ok.ensures.kept ∙ i.kept;
      sure = λ never. (c.in-Ok.ensures.sure (i.sure never)).1;
    }

pub returns-in-Err-clause-scans : goal.returns-in-Err-clause-scans
returns-in-Err-clause-scans g c =
    let i = c.loop-at.invariant in
    let new = c.drop_front-is_long.new.window in
    let gone = Scanning-drop_front _ c.loop-at.window new _ _ _ c.drop_front-is_long.result _ _ _ i.scanning c.in_default.ensures c.drop_front-is_long.ensures in
    let kept = Scanning-keeps _ _ _ _ _ _ _ _ _ gone c.in-Err.ensures.err.1 in
    let none : HasNoLineFeed new.bytes = gone.searched in
    rw c.in-Err.ensures.err.0 (Scanning-stops _ _ _ _ _ _ _ _ Fault kept (none, omega arith))

pub returns-in-Ok-eq0-clause-scans : goal.returns-in-Ok-eq0-clause-scans
returns-in-Ok-eq0-clause-scans g c =
    let i = c.loop-at.invariant in
    let new = c.drop_front-is_long.new.window in
    let gone = Scanning-drop_front _ c.loop-at.window new _ _ _ c.drop_front-is_long.result _ _ _ i.scanning c.in_default.ensures c.drop_front-is_long.ensures in
    let came = c.in-Ok-eq0.ensures.bytes in
    let nothing : length came.0 ≡ 0 = omega (arith, came.1) in
    let counted : c.loop-at.taken ≡ c.loop-at.taken + length came.0 = omega arith in
    let read = Scanning-read _ new.bytes _ _ _ _ _ _ _ c.fill.new.self.bytes came.0 _ gone (omega arith) counted came.2 came.3 in
    let same : length c.fill.new.self.bytes ≡ length new.bytes = omega (arith, ap length came.3, length-append {A = ℕ}, length-take {A = ℕ}) in
    let none : HasNoLineFeed c.fill.new.self.bytes = λ k inside. read.searched k (omega arith) in
    Scanning-stops _ _ _ _ _ _ _ _ InputEnd read (none, c.in-Ok-eq0.ensures.end (omega arith), omega arith)
