use Rattle.std.proofs.Common.{rules, ◌≡◌, List, ℕ, ◌++◌, ◌∷◌, sym, subst, FitsSigned, w64}
use Rattle.std.specs.Prelude.{OnOk}
use Rattle.std.specs.Fmt.{signed_decimal}
use Rattle.std.proofs.lemmas.Int.{to_z-of_z}
use Rattle.smil_model.specs.declared.diary.Step.{Step}
use Rattle.smil_model.specs.shown.Lines.{line_of, step_words}
use Rattle.smil_report.proofs.entries.put_entry.Goals as goal

-- the moment and the value pass by their bits, which give them back
pub returns-in-Repeated-clause-ok : goal.returns-in-Repeated-clause-ok
returns-in-Repeated-clause-ok c =
    let moment_fits : FitsSigned w64 c.args.entry.moment = search rules in
    let value_fits : FitsSigned w64 c.in-Repeated.start = search rules in
    let line = subst (λ (words : List (List ℕ)). OnOk c.put_line-in-Repeated.result (c.put_line-in-Repeated.new.out ≡ c.args.out.now ++ line_of words)) c.valued-in-Repeated.ensures c.put_line-in-Repeated.ensures.ok in
    subst (λ (step : Step). OnOk c.put_line-in-Repeated.result (c.put_line-in-Repeated.new.out ≡ c.args.out.now ++ line_of (signed_decimal c.args.entry.moment ∷ step_words c.args.log.now step)))
    (sym c.in-Repeated.is) (simp to_z-of_z at line)

pub returns-in-Deferred-clause-ok : goal.returns-in-Deferred-clause-ok
returns-in-Deferred-clause-ok c =
    let moment_fits : FitsSigned w64 c.args.entry.moment = search rules in
    let value_fits : FitsSigned w64 c.in-Deferred.begin = search rules in
    let line = subst (λ (words : List (List ℕ)). OnOk c.put_line-in-Deferred.result (c.put_line-in-Deferred.new.out ≡ c.args.out.now ++ line_of words)) c.valued-in-Deferred.ensures c.put_line-in-Deferred.ensures.ok in
    subst (λ (step : Step). OnOk c.put_line-in-Deferred.result (c.put_line-in-Deferred.new.out ≡ c.args.out.now ++ line_of (signed_decimal c.args.entry.moment ∷ step_words c.args.log.now step)))
    (sym c.in-Deferred.is) (simp to_z-of_z at line)
