use Rattle.std.proofs.Common.{◌∙◌, ap, ◌++◌}
use Rattle.std.proofs.lemmas.Result.{on_ok_weaker}
use Rattle.smil_model.specs.document.Document.{Document}
use Rattle.smil_grammar.specs.Outlines.{saved_text}
use Rattle.smil_live.proofs.presentation.PresentationOver.put_saved.Goals as goal

pub put_saved_outline-requires : goal.put_saved_outline-requires
put_saved_outline-requires g c = c.tree.ensures.valid

pub returns-clause-told : goal.returns-clause-told
returns-clause-told g c =
    on_ok_weaker c.put_saved_outline.result
    (λ told. told ∙ ap (λ (d : Document). c.args.out.now ++ saved_text d) (c.tree.ensures.document)) c.put_saved_outline.ensures.ok
