use Rattle.std.proofs.Common.{◌≤◌, ◌*◌, length, length-drop, ap, arith}
use Rattle.smil_model.specs.declared.limits.TheConstants.{LINE_BYTES}
use Rattle.smil_model.specs.document.Limits.{limits}
use Rattle.smil_outline.proofs.RefusalColumns.{near-refusal, line_near}
use Rattle.smil_top.proofs.loading.push_raised.Goals as goal

pub lowered-requires-clause-near : goal.lowered-requires-clause-near
lowered-requires-clause-near c =
    let is = ap (λ zs. length zs) c.past-raised.ensures in
    let cut = length-drop (2 * c.args.removed) c.args.text.now in
    let short : length c.past-raised.result.now ≤ LINE_BYTES = omega (arith, is, cut, c.if-text-gt-LINE_BYTES.false) in
    near-refusal c.in-Err.refusal _ c.in-Err.ensures.refusal (line_near limits c.args.outline.now c.past-raised.result.now short)
