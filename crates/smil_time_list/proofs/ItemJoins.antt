-- A list as it is written, item by item.
use Rattle.std.proofs.Common.{◌≡◌, ℕ, List, ◌++◌, length, take, sym, ap, ◌∙◌, arith, refl, [], ◌∷◌, append_assoc, ◌<◌, ◌+◌, suc, get_or, length-take}
use Rattle.std.proofs.lemmas.List.{take_more}
use Rattle.smil_time_list.specs.Joined.{next_text}
use Rattle.smil_model.specs.declared.document.Item.{Item}
use Rattle.smil_grammar.specs.Spellings.{item_text, list_text}

joined : (items : List Item) (y : Item) → list_text (items ++ y ∷ []) ≡ list_text items ++ next_text (length items) y
joined [] y = refl
joined (x ∷ []) y = refl
joined (x ∷ z ∷ items) y = ap (λ (t : List ℕ). item_text x ++ 59 ∷ t) (joined (z ∷ items) y ∙ ap (λ (t : List ℕ). list_text (z ∷ items) ++ t) (later (length items) y)) ∙ simp append_assoc
  where
    later : (n : ℕ) (y : Item) → next_text (suc n) y ≡ next_text (suc (suc n)) y
    later n y = refl

pub one_more : (old out new : List ℕ) (all items : List Item) (i : ℕ) (d : Item) → all ≡ items → i < length all → out ≡ old ++ list_text (take i items) → new ≡ out ++ next_text i (get_or all i d) → new ≡ old ++ list_text (take (i + 1) items)
one_more old out new all items i d same lt so-far now =
    let len : length (take i all) ≡ i = omega (arith, length-take i all) in
    let text : list_text (take (i + 1) all) ≡ list_text (take i all) ++ next_text i (get_or all i d) =
    ap list_text (take_more all i d lt) ∙ joined (take i all) (get_or all i d) ∙ ap (λ (n : ℕ). list_text (take i all) ++ next_text n (get_or all i d)) len in
    let before : out ≡ old ++ list_text (take i all) = so-far ∙ ap (λ (xs : List Item). old ++ list_text (take i xs)) (sym same) in
    now ∙ ap (λ (t : List ℕ). t ++ next_text i (get_or all i d)) before
    ∙ append_assoc old (list_text (take i all)) (next_text i (get_or all i d))
    ∙ sym (ap (λ (t : List ℕ). old ++ t) text)
    ∙ ap (λ (xs : List Item). old ++ list_text (take (i + 1) xs)) same
