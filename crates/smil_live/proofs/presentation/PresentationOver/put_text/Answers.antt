use Rattle.std.proofs.Common.{◌∙◌, ap, ◌++◌}
use Rattle.std.proofs.lemmas.Result.{on_ok_weaker}
use Rattle.smil_model.specs.document.Document.{Document}
use Rattle.smil_grammar.specs.Outlines.{outline_text}
use Rattle.smil_live.proofs.presentation.PresentationOver.put_text.Goals as goal

pub put_outline-requires : goal.put_outline-requires
put_outline-requires g c = c.tree.ensures.valid

pub returns-clause-told : goal.returns-clause-told
returns-clause-told g c =
    on_ok_weaker c.put_outline.result
    (λ told. told ∙ ap (λ (d : Document). c.args.out.now ++ outline_text d.nodes) (c.tree.ensures.document)) c.put_outline.ensures.ok
