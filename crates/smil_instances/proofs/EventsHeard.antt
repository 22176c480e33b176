-- Whether an element hears an event, part by part.
use Rattle.std.proofs.Common.{◌≡◌, sym, ◌∙◌, ap, ℕ, List, Bool}
use Rattle.std.specs.Prelude.{not, ◌&&◌}
use Rattle.std.specs.List.{list_any}
use Rattle.smil_model.specs.declared.document.Node.{Node}
use Rattle.smil_model.specs.declared.document.Item.{Item}
use Rattle.smil_model.specs.declared.document.Edge.{Edge}
use Rattle.smil_model.specs.document.Defaults.{begin_list, restart_of}
use Rattle.smil_model.specs.diary.Diary.{History, is_active, is_alive}
use Rattle.smil_model.specs.diary.Clocks.{outer_stands}
use Rattle.smil_model.specs.interval.Instances.{is_same_event, is_sensitive, hears}

-- whether the element is sensitive to the item by what has happened
abbrev pub sensitive_to : History → Node → Edge → Item → Bool
sensitive_to h e side item =
    is_sensitive (is_active h.diary e.serial) (restart_of h.nodes e) side (list_any (is_same_event h.nodes e.serial item) (begin_list h.nodes e))

pub sensitive_is : (h : History) (e : Node) (side : Edge) (item : Item) (nodes : List Node) (who : ℕ) (active sensitive : Bool) → h.nodes ≡ nodes → e.serial ≡ who → active ≡ is_active h.diary who → sensitive ≡ is_sensitive active (restart_of nodes e) side (list_any (is_same_event nodes e.serial item) (begin_list nodes e)) → sensitive ≡ sensitive_to h e side item
sensitive_is h e side item nodes who active sensitive same own active_is is =
    is
    ∙ ap (λ a. is_sensitive a (restart_of nodes e) side (list_any (is_same_event nodes e.serial item) (begin_list nodes e))) (active_is ∙ ap (is_active h.diary) (sym own))
    ∙ ap (λ (ns : List Node). is_sensitive (is_active h.diary e.serial) (restart_of ns e) side (list_any (is_same_event ns e.serial item) (begin_list ns e))) (sym same)

pub heard : (h : History) (e : Node) (side : Edge) (item : Item) (who : ℕ) (awake sensitive : Bool) → e.serial ≡ who → awake ≡ (is_alive h who && not (outer_stands h who)) → sensitive ≡ sensitive_to h e side item → (awake && sensitive) ≡ hears h e side item
heard h e side item who awake sensitive own awake_is is =
    ap (λ t. t && sensitive) (awake_is ∙ ap (λ s. is_alive h s && not (outer_stands h s)) (sym own))
    ∙ ap (λ t. is_alive h e.serial && not (outer_stands h e.serial) && t) is
