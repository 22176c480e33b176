use Rattle.std.proofs.Common.{◌≡◌, ℕ, length, ap, ◌∙◌, arith, to_z, of_z, w64}
use Rattle.std.proofs.lemmas.Int.{ints}
use Rattle.std.proofs.lemmas.Result.{IfOk-weaker}
use Rattle.std.specs.Prelude.{pos, codes, nat_abs, unwrap_or}
use Rattle.smil_top.specs.declared.counts.Counts.{Counts}
use Rattle.smil_top.specs.Summary.{count_lines, line_count, moment_in, told_of}
use Rattle.smil_top.specs.Running.{AreExact}
use Rattle.smil_top.proofs.SessionOfNumber.{exact, moment-held}
use Rattle.smil_top.proofs.generated.summary_text.Goals as goal

pub returns : goal.returns
returns c orders told tells =
    let counts : Counts = c.args.run.now.counts in
    let are : AreExact counts = c.are_exact.ensures.0 c.if-not-are_exact.false in
    let moment : ℕ = moment_in (codes "g") told.session in
    let now : to_z w64 (of_z w64 c.unwrap_or-moment.result) ≡ c.unwrap_or-moment.result = omega (arith, ints, c.unwrap_or-moment.type_inv) in
    let moment_is : c.unsigned_abs.result ≡ moment =
    c.unsigned_abs.ensures.value
    ∙ ap nat_abs (now ∙ c.unwrap_or-moment.ensures ∙ ap (λ o. unwrap_or o (pos 0)) c.moment.ensures)
    ∙ moment-held (codes "g") c.args.run.now.session.house told.session tells.keeps.held
    in
    let same : count_lines c.from.result counts.orders counts.refused counts.lines c.unsigned_abs.result ≡ told_of c.args.number orders told =
    ap (λ n. count_lines n counts.orders counts.refused counts.lines c.unsigned_abs.result) c.from.ensures
    ∙ ap (λ n. count_lines c.args.number n counts.refused counts.lines c.unsigned_abs.result) (exact counts.orders (length orders) tells.counted.orders_are are.orders_are)
    ∙ ap (λ n. count_lines c.args.number (length orders) n counts.lines c.unsigned_abs.result) (exact counts.refused told.refused tells.counted.refused_is are.refused_is)
    ∙ ap (λ n. count_lines c.args.number (length orders) told.refused n c.unsigned_abs.result) (tells.counted.lines_are are.lines_are)
    ∙ ap (λ n. count_lines c.args.number (length orders) told.refused (line_count told.text) n) moment_is
    in
    IfOk-weaker c.lines.result (λ text. text ≡ count_lines c.from.result counts.orders counts.refused counts.lines c.unsigned_abs.result) (λ text. text ≡ told_of c.args.number orders told) (λ text is. is ∙ same) c.lines.ensures
