-- A begin or a repeat of an element without time children is no birth.
use Rattle.std.proofs.Common.{◌≡◌, refl, sym, ◌∙◌, ap, ℕ, List, [], ◌∷◌, length, Option, Some, None, Bool, true, false, arith}
use Rattle.std.specs.Prelude.{cond, filter, is_some, ◌==◌, ◌&&◌}
use Rattle.std.proofs.lemmas.Bool.{eqb-true}
use Rattle.smil_model.specs.declared.diary.Step.{Step}
use Rattle.smil_model.specs.declared.document.Node.{Node}
use Rattle.smil_model.specs.document.Document.{elements, has_serial, is_element, is_time_child, node_at, serials, time_children, time_parent}
use Rattle.smil_model.specs.diary.Diary.{gives_birth}
use Rattle.smil_model.specs.diary.Plays.{is_birth_under}
use Rattle.smil_laws.proofs.LineageParents.{swap_eqb}
use Rattle.smil_instances.specs.Updates.{BearsNone}

module _ (nodes : List Node) (who s : ℕ) where
  -- no element has it for its time parent
  apart : (ns : List Node) → filter (is_time_child nodes who) ns ≡ [] → is_some (node_at (elements ns) s) ≡ true → has_serial who (time_parent nodes s) ≡ false
  apart [] none known = cc
  apart (n ∷ ns) none known = by_test (is_time_child nodes who n) refl (is_element n) refl (n.serial == s) refl none known (apart ns)
    where
      by_test : (c : Bool) → is_time_child nodes who n ≡ c → (t : Bool) → is_element n ≡ t → (m : Bool) → (n.serial == s) ≡ m → cond c (n ∷ filter (is_time_child nodes who) ns) (filter (is_time_child nodes who) ns) ≡ [] → is_some (node_at (cond t (n ∷ elements ns) (elements ns)) s) ≡ true → (filter (is_time_child nodes who) ns ≡ [] → is_some (node_at (elements ns) s) ≡ true → has_serial who (time_parent nodes s) ≡ false) → has_serial who (time_parent nodes s) ≡ false
      by_test true child t own m there none known rest = cc
      by_test false child true own true there none known rest =
          ap (λ k. has_serial who (time_parent nodes k)) (sym (eqb-true n.serial s there))
          ∙ ap (λ t. t && has_serial who (time_parent nodes n.serial)) (sym own)
          ∙ child
      by_test false child true own false there none known rest =
          rest none (ap (λ m. is_some (cond m (Some n) (node_at (elements ns) s))) (sym there) ∙ known)
      by_test false child false own m there none known rest = rest none known

none_listed : (ns : List Node) → serials ns ≡ [] → ns ≡ []
none_listed [] q = refl
none_listed (n ∷ ns) q = cc

pub no_members : (xs : List ℕ) → length xs ≡ 0 → xs ≡ []
no_members [] q = refl
no_members (x ∷ xs) q = absurd (omega (arith, q))

pub bears_none : (nodes : List Node) (who : ℕ) (step : Step) → ((k : ℕ) → gives_birth k step ≡ (who == k)) → serials (time_children nodes who) ≡ [] → BearsNone nodes step
bears_none nodes who step on none = λ s known. under (time_parent nodes s) (apart nodes who s nodes (none_listed (time_children nodes who) none) known)
  where
    under : (o : Option Node) → has_serial who o ≡ false → is_birth_under o step ≡ false
    under None q = refl
    under (Some p) q = on p.serial ∙ swap_eqb p.serial who q
