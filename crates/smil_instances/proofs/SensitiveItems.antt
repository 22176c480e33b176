-- To which items an element is sensitive.
use Rattle.std.proofs.Common.{◌≡◌, refl, sym, ◌∙◌, ap, ℕ, List, Some, Bool, true, false}
use Rattle.std.specs.Prelude.{not, ◌==◌, ◌&&◌}
use Rattle.std.specs.List.{list_any}
use Rattle.std.proofs.lemmas.Bool.{eqb-true}
use Rattle.smil_model.specs.declared.document.Node.{Node}
use Rattle.smil_model.specs.declared.document.Item.{Item}
use Rattle.smil_model.specs.declared.document.Restart.{Restart}
use Rattle.smil_model.specs.declared.document.Restart.TheVariants.{Always}
use Rattle.smil_model.specs.declared.document.Edge.TheVariants.{End}
use Rattle.smil_model.specs.declared.document.Edge.{Edge}
use Rattle.smil_model.specs.document.Document.{elements, node_at}
use Rattle.smil_model.specs.document.Defaults.{begin_list, restart_of}
use Rattle.smil_model.specs.interval.Instances.{is_same_event, is_sensitive}
use Rattle.smil_laws.proofs.AsideDocuments.{find_true}
use Rattle.smil_instances.specs.Occurrence.{is_always}

pub serial_is : (ns : List Node) (s : ℕ) (e : Node) → node_at (elements ns) s ≡ Some e → e.serial ≡ s
serial_is ns s e at = eqb-true e.serial s (find_true (λ (n : Node). n.serial == s) (elements ns) e at)

pub not_always : (r : Restart) → (r ≡ Always → ⊥) → false ≡ is_always r
not_always Always q = absurd (q refl)
not_always _ q = refl

pub sensitive_end : (r : Restart) (b doubled : Bool) → b ≡ is_always r → not (b && doubled) ≡ is_sensitive true r End doubled
sensitive_end r b doubled q = ap (λ t. not (t && doubled)) q ∙ by r
  where
    by : (x : Restart) → not (is_always x && doubled) ≡ is_sensitive true x End doubled
    by Always = refl
    by _ = refl

pub end_as : (nodes : List Node) (who : ℕ) (e : Node) (item : Item) (active doubled : Bool) (side : Edge) → active ≡ true → side ≡ End → e.serial ≡ who → doubled ≡ list_any (is_same_event nodes who item) (begin_list nodes e) → is_sensitive true (restart_of nodes e) End doubled ≡ is_sensitive active (restart_of nodes e) side (list_any (is_same_event nodes e.serial item) (begin_list nodes e))
end_as nodes who e item active doubled side on is own q =
    ap (λ a. is_sensitive a (restart_of nodes e) End doubled) (sym on)
    ∙ ap (λ t. is_sensitive active (restart_of nodes e) t doubled) (sym is)
    ∙ ap (is_sensitive active (restart_of nodes e) side) (q ∙ ap (λ s. list_any (is_same_event nodes s item) (begin_list nodes e)) (sym own))
