-- What is the same without the plain texts is the same of two documents that differ in these alone.
use Rattle.std.proofs.Common.{◌≡◌, sym, ◌∙◌, ap, List}
use Rattle.smil_model.specs.declared.document.Node.{Node}
use Rattle.smil_text_laws.specs.PlainTexts.{without_texts, bare, DifferInTexts}

pub same_of : {A : Type 0} (f : List Node → A) → ((ns : List Node) → f (bare ns) ≡ f ns) → (old new : List Node) → DifferInTexts old new → f old ≡ f new
same_of f same old new differ = sym (same old) ∙ ap f differ ∙ same new

-- and of a node in each of them
pub same_at : {A : Type 0} (f : List Node → Node → A) → ((ns : List Node) (e : Node) → f (bare ns) (without_texts e) ≡ f ns e) → (old new : List Node) → DifferInTexts old new → (a b : Node) → without_texts a ≡ without_texts b → f old a ≡ f new b
same_at f same old new differ a b alike = sym (same old a) ∙ (λ i. f (differ i) (alike i)) ∙ same new b
