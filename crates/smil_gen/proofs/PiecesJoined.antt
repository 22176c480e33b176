-- What is appended piece by piece.
use Rattle.std.proofs.Common.{◌≡◌, ℕ, List, ◌++◌, ap, ◌∙◌, append_assoc}

pub joined : (old a d b first last : List ℕ) → first ≡ old ++ (a ++ d) → last ≡ first ++ b → last ≡ old ++ (a ++ d ++ b)
joined old a d b first last one two = two ∙ ap (λ xs. xs ++ b) one ∙ simp append_assoc

pub joined_twice : (old a d b e c first second last : List ℕ) → first ≡ old ++ (a ++ d) → second ≡ first ++ (b ++ e) → last ≡ second ++ c
    → last ≡ old ++ (a ++ d ++ b ++ e ++ c)
joined_twice old a d b e c first second last one two three =
    three ∙ ap (λ xs. xs ++ c) (two ∙ ap (λ xs. xs ++ (b ++ e)) one) ∙ simp append_assoc
