-- The table of plain texts with one of them changed, and what is tested of all names.
use Rattle.std.proofs.Common.{◌≡◌, refl, ℕ, List, Option, Bool, true, inl, inr}
use Rattle.std.specs.Prelude.{◌⊎◌}
use Rattle.std.specs.List.{list_all}
use Rattle.std.proofs.lemmas.Bool.{and_parts}
use Rattle.smil_model.specs.declared.texts.Texts.{Texts}
use Rattle.smil_model.specs.declared.texts.TextName.{TextName}
use Rattle.smil_model.specs.declared.texts.TextName.TheVariants as text
use Rattle.smil_model.specs.document.Texts.{text_names, text_at, with_text}

-- a text is the one that is given for its name, or stays
pub changed_text : (texts : Texts) (n m : TextName) (given : Option (List ℕ)) → ((n ≡ m) × (text_at (with_text texts n given) m ≡ given)) ⊎ (text_at (with_text texts n given) m ≡ text_at texts m)
changed_text texts text.Src text.Src given = inl (refl, refl)
changed_text texts text.Src _ given = inr refl
changed_text texts text.Region text.Region given = inl (refl, refl)
changed_text texts text.Region _ given = inr refl
changed_text texts text.Alt text.Alt given = inl (refl, refl)
changed_text texts text.Alt _ given = inr refl
changed_text texts text.Title text.Title given = inl (refl, refl)
changed_text texts text.Title _ given = inr refl
changed_text texts text.TargetElement text.TargetElement given = inl (refl, refl)
changed_text texts text.TargetElement _ given = inr refl
changed_text texts text.AttributeName text.AttributeName given = inl (refl, refl)
changed_text texts text.AttributeName _ given = inr refl
changed_text texts text.To text.To given = inl (refl, refl)
changed_text texts text.To _ given = inr refl

-- what is tested of all names holds of each
pub each_text : (test : TextName → Bool) → list_all test text_names ≡ true → (n : TextName) → test n ≡ true
each_text test h n =
    let region = and_parts (test text.Src) _ h in
    let alt = and_parts (test text.Region) _ region.1 in
    let title = and_parts (test text.Alt) _ alt.1 in
    let target = and_parts (test text.Title) _ title.1 in
    let name = and_parts (test text.TargetElement) _ target.1 in
    let to = and_parts (test text.AttributeName) _ name.1 in
    let last = and_parts (test text.To) true to.1 in
    elim n as (λ n. test n ≡ true) [ text.Src ↦ region.0 | text.Region ↦ alt.0 | text.Alt ↦ title.0 | text.Title ↦ target.0 | text.TargetElement ↦ name.0 | text.AttributeName ↦ to.0 | text.To ↦ last.0 ]

-- and what holds of each passes the test of all
pub all_texts : (test : TextName → Bool) → ((n : TextName) → test n ≡ true) → list_all test text_names ≡ true
all_texts test each = rw (each text.Src, each text.Region, each text.Alt, each text.Title, each text.TargetElement, each text.AttributeName, each text.To) refl
