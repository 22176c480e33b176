use Rattle.std.proofs.Common.{◌≡◌, ◌⊎◌, Err, sym, subst}
use Rattle.smil_model.specs.declared.order.Refusal.TheVariants.{Memory}
use Rattle.smil_attrs.specs.Filled.{filled}
use Rattle.smil_top.specs.declared.loaded.NamedLines.{NamedLines}
use Rattle.smil_top.specs.Cut.{NumberedLine}
use Rattle.smil_top.specs.Running.{IsRead, Reads, head_read, with_node}
use Rattle.smil_top.proofs.LoadLines.{IsRead-err, IsRead-filled, more_lines}
use Rattle.smil_top.proofs.load.Load.push.Goals as goal

pub returns-in_default : goal.returns-in_default
returns-in_default c wanted lines node read shows =
    let this : NumberedLine = record { number = c.args.line; text = node } in
    subst (λ r. IsRead (record { line = c.args.self.now.line; reading = r }) wanted (more_lines lines this)) (sym c.in_default.is)
    (IsRead-err c.args.self.now wanted lines this c.in_default.field-0 c.in_default.is read)

pub returns-in-Err : goal.returns-in-Err
returns-in-Err c wanted lines node read shows =
    let load = c.args.self.now in
    let more = c.push_node.new.so_far in
    let this : NumberedLine = record { number = c.args.line; text = node } in
    let pushed : Reads (filled c.push_node.result more) (with_node (head_read c.in-Ok.so_far) c.in-Ok.so_far.lines this) ⊎ (c.push_node.result ≡ Err (record { line = load.line; refusal = Memory })) =
    subst (λ (x : NamedLines). Reads (filled c.push_node.result more) (with_node (head_read x) x.lines this) ⊎ (c.push_node.result ≡ Err (record { line = load.line; refusal = Memory }))) c.in-Ok.so_far-is (c.push_node.ensures node shows)
    in
    subst (λ r. IsRead (record { line = load.line; reading = filled r more }) wanted (more_lines lines this)) c.in-Err.is
    (IsRead-filled load wanted lines this c.in-Ok.so_far more c.push_node.result c.in-Ok.is read pushed)

pub returns-in_default-push_node : goal.returns-in_default-push_node
returns-in_default-push_node c wanted lines node read shows =
    let load = c.args.self.now in
    let more = c.push_node.new.so_far in
    let this : NumberedLine = record { number = c.args.line; text = node } in
    let pushed : Reads (filled c.push_node.result more) (with_node (head_read c.in-Ok.so_far) c.in-Ok.so_far.lines this) ⊎ (c.push_node.result ≡ Err (record { line = load.line; refusal = Memory })) =
    subst (λ (x : NamedLines). Reads (filled c.push_node.result more) (with_node (head_read x) x.lines this) ⊎ (c.push_node.result ≡ Err (record { line = load.line; refusal = Memory }))) c.in-Ok.so_far-is (c.push_node.ensures node shows)
    in
    subst (λ r. IsRead (record { line = load.line; reading = filled r more }) wanted (more_lines lines this)) c.in_default-push_node.is
    (IsRead-filled load wanted lines this c.in-Ok.so_far more c.push_node.result c.in-Ok.is read pushed)
