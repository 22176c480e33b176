use Rattle.std.proofs.Common.{ap, ◌∙◌, not, arith}
use Rattle.smil_model.specs.document.Document.{is_class_kind}
use mathlib.Core.Bool.{beq}
use Rattle.smil_outline.proofs.ChildrenAlike.{mixed_in, unlike}
use Rattle.smil_outline.proofs.builder.Builder.mixes.Goals as goal

pub returns-in-Some : goal.returns-in-Some
returns-in-Some c =
    ap (λ b. not (beq b c.is_element-in-Some.result)) c.is_element.ensures ∙ ap (λ b. not (beq (not (is_class_kind c.in-Some.last.1)) b)) c.is_element-in-Some.ensures
    ∙ unlike (is_class_kind c.in-Some.last.1) (is_class_kind c.args.kind)
    ∙ mixed_in _ c.args.self.now c.args.depth c.args.kind _ c.self.view_is c.self.invariant.alike (omega arith) c.requires c.in-Some.ensures

pub returns-in-None : goal.returns-in-None
returns-in-None c = mixed_in _ c.args.self.now c.args.depth c.args.kind _ c.self.view_is c.self.invariant.alike (omega arith) c.requires c.in-None.ensures
