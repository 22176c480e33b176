use Rattle.std.proofs.Common.{◌≡◌, ℕ, ◌+◌, ◌-◌, ◌≤◌, List, ◌++◌, length, take, drop, ap, sym, ◌∙◌, arith}
use Rattle.std.proofs.lemmas.List.{length-append, length-drop, length-take, take_at, take_rest, drop-drop, drop_all, take-append-drop}
use Rattle.smil_outside.proofs.mem_source.MemSourceSource.read.Goals as goal

-- the first n of the bytes left were copied to the front of a buffer
given : (items left copied buf tail : List ℕ) (at n : ℕ) → left ≡ drop at items → copied ≡ take n left → n ≤ length left →
    drop at items ≡ take n (copied ++ tail) ++ drop (at + n) items
given items left copied buf tail at n is copy fits =
    let size : length copied ≡ n = ap length copy ∙ length-take n left ∙ omega arith in
    sym (take-append-drop n (drop at items))
    ∙ ap (λ zs. take n zs ++ drop n (drop at items)) (sym is)
    ∙ ap (λ zs. zs ++ drop n (drop at items)) (sym copy ∙ sym (take_at copied tail n size))
    ∙ ap (λ zs. take n (copied ++ tail) ++ zs) (drop-drop n at items)

pub returns-clause-bytes : goal.returns-clause-bytes
returns-clause-bytes c =
    let s = c.self.inside in
    let n = c.min-n.result in
    let all = c.deref.result.now in
    let left = take (length all - s.at) (drop s.at all) in
    let is : left ≡ drop s.at s.bytes.items = take_rest all s.at ∙ ap (λ zs. drop s.at zs) c.deref.ensures.value in
    let size : length left ≡ length s.bytes.items - s.at = ap length is ∙ length-drop s.at s.bytes.items in
    let fits : n ≤ length left = omega (arith, c.min-n.ensures) in (
      ap (λ held. held.rest) (sym c.self.view_is) ∙ given s.bytes.items left c.copy_from_slice.new.self c.args.buf.now (drop n c.args.buf.now) s.at n is c.copy_from_slice.ensures.after fits,
      λ none some. drop_all (s.at + n) s.bytes.items (omega (arith, none, some, size, c.min-n.ensures, c.min.ensures, c.self.invariant.1, length-append c.copy_from_slice.new.self (drop n c.args.buf.now), length-drop n c.args.buf.now)),
    )
