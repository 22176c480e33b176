-- Node lines as they are written, attribute by attribute.
use Rattle.std.proofs.Common.{◌≡◌, ℕ, ◌+◌, ◌<◌, List, [], ◌∷◌, ◌++◌, length, take, get_or, flat_map, sym, ap, ◌∙◌, append_assoc, add-one}
use Rattle.std.proofs.Math.Seq.{take-suc}
use Rattle.std.proofs.lemmas.List.Concat.{flat_map-append}
use Rattle.std.proofs.lemmas.List.{append-nil}
use Rattle.smil_model.specs.declared.document.AttrName.{AttrName}

pub one_more : (f : AttrName → List ℕ) (ns : List AttrName) (n : AttrName) (old out new : List ℕ) (i : ℕ) → i < length ns → out ≡ old ++ flat_map f (take i ns) → new ≡ out ++ f (get_or ns i n) → new ≡ old ++ flat_map f (take (i + 1) ns)
one_more f ns n old out new i lt so-far now =
    let last : flat_map f (get_or ns i n ∷ []) ≡ f (get_or ns i n) = append-nil (f (get_or ns i n)) in
    let more : flat_map f (take (i + 1) ns) ≡ flat_map f (take i ns) ++ f (get_or ns i n) = rw add-one (ap (flat_map f) (take-suc ns i n lt) ∙ flat_map-append f (take i ns) (get_or ns i n ∷ []) ∙ ap (λ (t : List ℕ). flat_map f (take i ns) ++ t) last) in
    now ∙ ap (λ (t : List ℕ). t ++ f (get_or ns i n)) so-far ∙ append_assoc old (flat_map f (take i ns)) (f (get_or ns i n)) ∙ sym (ap (λ (t : List ℕ). old ++ t) more)
