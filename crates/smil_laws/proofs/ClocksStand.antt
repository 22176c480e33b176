-- The clock of an element that is not paused stands exactly where that of its time parent does.
use Rattle.std.proofs.Common.{◌≡◌, refl, sym, ◌∙◌, ap, ℕ, List, [], ◌∷◌, Some, Bool, true, false}
use Rattle.std.specs.Prelude.{cond, ◌||◌, ◌&&◌, reverse, drop, find}
use Rattle.std.specs.List.{list_any}
use Rattle.std.proofs.lemmas.Bool.{and_right}
use Rattle.smil_model.specs.declared.document.Node.{Node}
use Rattle.smil_model.specs.document.Document.{is_element, lineage}
use Rattle.smil_model.specs.diary.Diary.{History, is_paused}
use Rattle.smil_model.specs.diary.Clocks.{stands, stands_under, outer_stands}
use Rattle.smil_laws.proofs.LineageParents.{ParentsBefore, upwards-rest, upwards-head}

module _ (h : History) (first : ParentsBefore (reverse h.nodes)) where
  held_above : (s : ℕ) (chain : List Node) → lineage h.nodes s ≡ chain → list_any (λ (n : Node). is_element n && is_paused h.diary n.serial) chain ≡ stands_under h (find is_element chain)
  held_above s [] q = refl
  held_above s (m ∷ rest) q = step (is_element m) refl (held_above m.parent rest (upwards-rest (reverse h.nodes) s m rest first q))
    where
      step : (t : Bool) → is_element m ≡ t → list_any (λ (n : Node). is_element n && is_paused h.diary n.serial) rest ≡ stands_under h (find is_element rest) → ((t && is_paused h.diary m.serial) || list_any (λ (n : Node). is_element n && is_paused h.diary n.serial) rest) ≡ stands_under h (cond t (Some m) (find is_element rest))
      step true t later =
          let chain : lineage h.nodes m.serial ≡ m ∷ rest = ap (lineage h.nodes) (upwards-head (reverse h.nodes) s m rest q) ∙ q in
          ap (λ b. (b && is_paused h.diary m.serial) || list_any (λ (n : Node). is_element n && is_paused h.diary n.serial) rest) (sym t)
          ∙ sym (ap (list_any (λ (n : Node). is_element n && is_paused h.diary n.serial)) chain)
      step false t later = later

  pub chained : (s : ℕ) → is_paused h.diary s ≡ false → stands h s ≡ outer_stands h s
  chained s free = by_chain (lineage h.nodes s) refl
    where
      by_chain : (chain : List Node) → lineage h.nodes s ≡ chain → stands h s ≡ outer_stands h s
      by_chain [] q = ap (list_any (λ (n : Node). is_element n && is_paused h.diary n.serial)) q ∙ sym (ap (λ c. stands_under h (find is_element (drop 1 c))) q)
      by_chain (m ∷ rest) q =
          ap (list_any (λ (n : Node). is_element n && is_paused h.diary n.serial)) q
          ∙ ap (λ b. b || list_any (λ (n : Node). is_element n && is_paused h.diary n.serial) rest) (ap (λ r. is_element m && is_paused h.diary r) (upwards-head (reverse h.nodes) s m rest q) ∙ and_right (is_element m) _ free)
          ∙ held_above m.parent rest (upwards-rest (reverse h.nodes) s m rest first q)
          ∙ sym (ap (λ c. stands_under h (find is_element (drop 1 c))) q)
