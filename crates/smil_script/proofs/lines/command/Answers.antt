use Rattle.std.proofs.Common.{◌≡◌, ◌∙◌, ap, subst, sym, true}
use Rattle.std.specs.Prelude.{◌||◌, bytes_eq, codes, is_ok}
use Rattle.smil_grammar.specs.Positions.{Piece}
use Rattle.smil_grammar.specs.Scripts.{command, first_of}
use Rattle.smil_script.specs.Copies.{IsForCopy, behind_name_copies}
use Rattle.smil_script.proofs.CopiedLines.{load_copied}
use Rattle.smil_script.proofs.lines.command.Goals as goal

pub returns-then-is-clause-copied : goal.returns-then-is-clause-copied
returns-then-is-clause-copied c =
    let text : c.word.inside.text.now ≡ c.first-word.result.0.text = ap (λ (p : Piece). p.text) c.word.view_is in
    let opens : bytes_eq c.first-word.result.0.text (codes "load") ≡ true = sym (ap (λ t. bytes_eq t (codes "load")) text) ∙ sym c.is.ensures ∙ c.if-is.true in
    subst (λ (cut : Piece × Piece). IsForCopy (is_ok (command cut) || behind_name_copies cut.0.text (first_of cut.1)) c.load.result) c.first-word.ensures
    (load_copied c.first-word.result c.load.result opens c.load.ensures.copied)
