-- What comes of all elements, kept element by element.
use Rattle.std.specs.Prelude.{◌≡◌, ℕ, suc, ℤ, List, [], ◌∷◌, ◌++◌, map}
use Rattle.std.proofs.Common.{refl, sym, ◌∙◌, ap}
use Rattle.smil_model.specs.declared.document.Node.{Node}
use Rattle.smil_model.specs.document.Document.{elements}
use Rattle.smil_model.specs.diary.Diary.{History}
use Rattle.smil_model.specs.interval.Current.{current_interval}
use Rattle.smil_model.specs.happening.Keys.{DueChange, coming_of, coming_from, coming, keys}
use Rattle.smil_laws.specs.Same.{IsSame}
use Rattle.smil_element.specs.Element.{both}
use Rattle.smil_element.specs.declared.comings.DueChanges.{DueChanges}

-- these are what comes of the elements from a place on, by the current intervals
abbrev pub HaveDueChanges : History → ℤ → ℕ → List Node → List DueChanges → Type 0
HaveDueChanges h now place [] [] = Unit {0}
HaveDueChanges h now place [] (c ∷ cs) = ⊥
HaveDueChanges h now place (e ∷ es) [] = ⊥
HaveDueChanges h now place (e ∷ es) (c ∷ cs) =
    (both c.moved c.repeat ≡ coming_of h (current_interval h now) now place e)
    × HaveDueChanges h now (suc place) es cs

module _ (h k : History) (m n : ℤ) (same : IsSame h m k n) where
  from_stays : (place : ℕ) (es : List Node) (cs : List DueChanges) → HaveDueChanges h m place es cs
      → HaveDueChanges k n place es cs
  from_stays place [] [] is = tt
  from_stays place [] (c ∷ cs) is = is
  from_stays place (e ∷ es) [] is = is
  from_stays place (e ∷ es) (c ∷ cs) is =
      (is.0 ∙ sym (same.comings place e), from_stays (suc place) es cs is.1)

  of_nodes : (nodes : List Node) (cs : List DueChanges) → nodes ≡ h.nodes
      → HaveDueChanges k n 0 (elements h.nodes) cs → HaveDueChanges k n 0 (elements nodes) cs
  of_nodes nodes cs e is = rw e is

  -- they are so by another history by which the same comes
  pub comings_stay : (cs : List DueChanges) → HaveDueChanges h m 0 (elements h.nodes) cs
      → HaveDueChanges k n 0 (elements k.nodes) cs
  comings_stay cs is = of_nodes k.nodes cs same.nodes (from_stays 0 (elements h.nodes) cs is)

  pub all_stays : (place : ℕ) (es : List Node) → coming_from k (current_interval k n) n place es
      ≡ coming_from h (current_interval h m) m place es
  all_stays place [] = refl
  all_stays place (e ∷ es) =
      ap (λ cs. cs ++ coming_from k (current_interval k n) n (suc place) es) (same.comings place e)
      ∙ ap (λ cs. coming_of h (current_interval h m) m place e ++ cs) (all_stays (suc place) es)

  -- so the same comes of all
  pub coming_stays : coming k n ≡ coming h m
  coming_stays =
      ap (λ nodes. coming_from k (current_interval k n) n 0 (elements nodes)) same.nodes
      ∙ all_stays 0 (elements h.nodes)

  -- and so are their keys
  pub keys_stay : keys k n ≡ keys h m
  keys_stay =
      ap (λ nodes. map (λ (c : DueChange). c.key)
      (coming_from k (current_interval k n) n 0 (elements nodes))) same.nodes
      ∙ ap (map (λ (c : DueChange). c.key)) (all_stays 0 (elements h.nodes))
