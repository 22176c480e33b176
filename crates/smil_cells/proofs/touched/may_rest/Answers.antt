use Rattle.std.proofs.Common.{◌≡◌, ◌∙◌, sym, ap, ℕ, true}
use Rattle.std.specs.Prelude.{◌&&◌, is_some}
use Rattle.smil_model.specs.document.Document.{elements}
use Rattle.smil_model.specs.document.Defaults.{effective_fill}
use Rattle.smil_model.specs.diary.Plays.{last_finished}
use Rattle.smil_past.specs.declared.makeup.Makeup.{Makeup}
use Rattle.smil_past.specs.Makeups.{is_freeze}
use Rattle.smil_past.specs.Past.{history_of}
use Rattle.smil_past.proofs.ItemReferences.{stands}
use Rattle.smil_cells.proofs.touched.may_rest.Goals as goal

pub returns-then-is_freeze : goal.returns-then-is_freeze
returns-then-is_freeze c = λ n here.
    let h = history_of c.args.past.now in
    let freezes : is_freeze (effective_fill h.nodes n) ≡ true = ap (λ (m : Makeup). is_freeze m.fill) (sym (c.makeup.ensures n here)) ∙ sym c.is_freeze.ensures ∙ c.if-is_freeze.true in
    c.has_finished.ensures
    ∙ ap (λ (s : ℕ). is_some (last_finished h s)) (sym (stands (elements h.nodes) c.args.who n here).serial)
    ∙ ap (λ b. b && is_some (last_finished h n.serial)) (sym freezes)
