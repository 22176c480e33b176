use Rattle.std.proofs.Common.{◌≡◌, ◌+◌, ◌-◌, ◌++◌, ℕ, ◌∙◌, ap, length, take, drop, arith}
use Rattle.std.specs.Prelude.{slice_range}
use Rattle.std.proofs.lemmas.List.{length-take, length-append}
use Rattle.std.proofs.lemmas.Result.{err_from_is_err_and}
use Rattle.smil_outside.proofs.ListRanges.{moved_and_filled, moved_and_read, length-slice_range}
use Rattle.smil_outside.proofs.window.Window.fill.Goals as goal

pub returns-in_err-n-clause-err : goal.returns-in_err-n-clause-err
returns-in_err-n-clause-err g c =
    let p = err_from_is_err_and c.from_residual.result c.from_residual.ensures.1 in
    let w = c.self.inside in
    let moved = c.make_room-self-inside.new.buffer in
    let filled = c.read_behind.new.buffer in
    let low = c.make_room-self-inside.result in
    let tail = drop (length moved) w.buffer.items in
    let a : length moved ≡ w.buffer.len = omega (arith, w.buffer.ok.0) in
    let b : length filled ≡ w.buffer.len = omega (arith, w.buffer.ok.0, length-take {A = ℕ}, length-append {A = ℕ}) in
    let same =
    moved_and_filled w.buffer.items tail (drop (length filled) (take w.buffer.len (moved ++ tail))) moved filled w.buffer.len w.start w.end (low + (w.end - w.start)) low a b (c.in_err-n.ensures.front ∙ ap (λ zs. take (low + (w.end - w.start)) zs) c.deref_mut-2.ensures.value) (c.make_room-self-inside.ensures.bytes ∙ ap (λ zs. slice_range zs w.start w.end) c.deref_mut.ensures.value) in
    rw p.1 (same ∙ ap (λ held. held.bytes) c.self.view_is, c.in_err-n.ensures.err)

pub returns-clause-bytes : goal.returns-clause-bytes
returns-clause-bytes g c =
    let w = c.self.inside in
    let moved = c.make_room-self-inside.new.buffer in
    let filled = c.read_behind.new.buffer in
    let low = c.make_room-self-inside.result in
    let at = low + (w.end - w.start) in
    let n = c.in_ok-n.n in
    let tail = drop (length moved) w.buffer.items in
    let a : length moved ≡ w.buffer.len = omega (arith, w.buffer.ok.0) in
    let b : length filled ≡ w.buffer.len = omega (arith, w.buffer.ok.0, length-take {A = ℕ}, length-append {A = ℕ}) in
    let came = slice_range filled at (at + n) in
    let same =
    moved_and_read w.buffer.items tail (drop (length filled) (take w.buffer.len (moved ++ tail))) moved filled w.buffer.len w.start w.end at low n c.args.most a b (c.in_ok-n.ensures.front ∙ ap (λ zs. take at zs) c.deref_mut-2.ensures.value) (c.make_room-self-inside.ensures.bytes ∙ ap (λ zs. slice_range zs w.start w.end) c.deref_mut.ensures.value) (omega arith) (omega (arith, c.in_ok-n.ensures.bound, b)) in (
      came,
      length-slice_range filled at (at + n) c.in_ok-n.ensures.bound ∙ omega arith,
      c.in_ok-n.ensures.bytes,
      ap (λ k. slice_range (take w.buffer.len (filled ++ drop (length filled) (take w.buffer.len (moved ++ tail)))) low (at + k)) c.min.ensures
          ∙ same
          ∙ ap (λ held. held.bytes ++ take c.args.most came) c.self.view_is,
    )
