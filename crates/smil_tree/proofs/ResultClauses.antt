-- What a result says where it is `Ok`.
use Rattle.std.proofs.Common.{◌≡◌, sym, subst, Result, Ok, Err}
use Rattle.std.specs.Prelude.{IfOk, IfErr, IsOk}
use Rattle.std.specs.Result.{IsErrAnd}

pub of_ok : {A E : Type 0} {P : Type 0} (r : Result A E) → IfOk r (λ _. P) → IsOk r → P
of_ok {A} {E} {P} (Ok x) holds ok = holds
of_ok {A} {E} {P} (Err e) holds ok = absurd_err ok
  where
    absurd_err : IsOk {T = A} {E = E} (Err e) → P
    absurd_err never = cc

pub on_err : {A E : Type 0} (Q : E → Type 0) (r : Result A E) (e : E) → IsErrAnd r (λ x. x ≡ e) → Q e → IfErr r Q
on_err {A} {E} Q (Ok x) e is h = tt
on_err {A} {E} Q (Err x) e is h = subst Q (sym is) h
