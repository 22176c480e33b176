use Rattle.std.proofs.Common.{◌≡◌, ◌++◌, ◌<◌, ◌-◌, ℕ, List, length, take, drop, refl, sym, ap, subst, ◌∙◌, arith, append_assoc}
use Rattle.std.proofs.lemmas.Grind.{common_steps}
use Rattle.std.proofs.lemmas.List.{length-append, length-take, take_at, take_rest, take-append-drop}
use Rattle.std.proofs.lemmas.Result.{err_from_is_err_and}
use Rattle.std.specs.Io.KnownBytes.{Appends}
use Rattle.std.proofs.KnownBytes.{Appends-trans, Appends-kept}
use Rattle.smil_outside.proofs.sink.write_all.Goals as goal

pub returns-in_err-n-clause-err : goal.returns-in_err-n-clause-err
returns-in_err-n-clause-err g c =
    let p = err_from_is_err_and c.from_residual.result c.from_residual.ensures.1 in
    let i = c.loop-rest.invariant in
    let rest = c.loop-rest.rest.now in
    let some : 0 < length rest = grind (arith, common_steps) in
    let front : take (length i.0) c.args.bytes.now ≡ i.0 = ap (λ zs. take (length i.0) zs) i.1 ∙ take_at i.0 rest _ refl in
    rw p.1 (
      length i.0,
      omega (arith, ap length i.1, length-append i.0 rest),
      subst (λ zs. Appends (g.K.Sink.taken c.args.sink.now) (g.K.Sink.taken c.write.new.self) zs) (sym front) (Appends-kept _ _ _ i.0 i.2 c.in_err-n.ensures.bytes),
    )

-- a list, cut at two places
cut_twice : (all done rest : List ℕ) (n : ℕ) → all ≡ done ++ rest → all ≡ (done ++ take n rest) ++ take (length rest - n) (drop n rest)
cut_twice all done rest n split =
    split
    ∙ ap (λ zs. done ++ zs) (sym (take-append-drop n rest))
    ∙ sym (append_assoc done (take n rest) (drop n rest))
    ∙ ap (λ zs. (done ++ take n rest) ++ zs) (sym (take_rest rest n))

pub loop-rest-preserved : goal.loop-rest-preserved
loop-rest-preserved g c =
    let i = c.loop-rest.invariant in
    let rest = c.loop-rest.rest.now in
    let n = c.in_ok-n.n in
    let e = c.in_ok-n.ensures in (
      i.0 ++ take n rest,
      cut_twice c.args.bytes.now i.0 rest n i.1,
      Appends-trans _ _ _ i.0 (take n rest) i.2 e.bytes,
      e.kept ∙ i.3,
      omega (arith, e.room, e.bound, length-append i.0 (take n rest), length-take n rest),
    )
