-- What stays of a buffer behind what was written.
use Rattle.std.proofs.Common.{◌≡◌, ℕ, ◌+◌, ◌-◌, ◌≤◌, List, drop, sym, ap, ◌∙◌, arith}
use Rattle.std.proofs.lemmas.List.{drop-drop}

-- where two texts are the same behind a place, they are the same behind each later one
pub drop_later : (x y : List ℕ) (a b : ℕ) → drop a x ≡ drop a y → a ≤ b → drop b x ≡ drop b y
drop_later x y a b h le =
    let e : a + (b - a) ≡ b = omega arith in
    sym (ap (λ n. drop n x) e) ∙ sym (drop-drop (b - a) a x) ∙ ap (drop (b - a)) h ∙ drop-drop (b - a) a y
    ∙ ap (λ n. drop n y) e
