use Rattle.std.proofs.Common.{sym, ◌∙◌, ap, subst, ℕ, List, map}
use Rattle.std.specs.FinMap.{get}
use Rattle.smil_instances.specs.Spread.{IsIndex}
use Rattle.smil_past.specs.Rows.{idle_row, keys_of}
use Rattle.smil_past.proofs.IdleRows.{all_idle, keys_idle}
use Rattle.smil_past.proofs.plays.Plays.new.Goals as goal

pub invariant_of-result : goal.invariant_of-result
invariant_of-result c =
    subst (λ (keys : List ℕ). IsIndex keys (get c.args.places.value)) (sym c.elements.ensures ∙ sym (ap keys_of c.in_ok-rows.ensures ∙ keys_idle c.elements.result.now)) c.requires

pub returns : goal.returns
returns c = λ h same.
    c.in_ok-rows.ensures ∙ ap (map idle_row) c.elements.ensures ∙ all_idle h c.args.tree.now.nodes same
