-- What stays at the front of a text that grows.
use Rattle.std.proofs.Common.{◌≡◌, ℕ, ◌≤◌, List, ◌++◌, length, take, drop, sym, ap, subst, ◌∙◌, arith, length-append, refl}
use Rattle.std.proofs.lemmas.List.{take_all, take_at, take-append-drop, take-take}
use Rattle.smil_model.specs.document.Words.{Begins}

pub begins_itself : (text : List ℕ) → Begins text text
begins_itself text = take_all (length text) text (omega arith)

pub begins_on : (a x c : List ℕ) → Begins (a ++ x) c → Begins a c
begins_on a x c h =
    let short : length a ≤ length (a ++ x) = omega (arith, length-append a x) in
    sym (take-take (length a) (length (a ++ x)) c short) ∙ ap (take (length a)) h ∙ take_at a x (length a) refl

front_of : (front text : List ℕ) → Begins front text → front ++ drop (length front) text ≡ text
front_of front text h = ap (λ (xs : List ℕ). xs ++ drop (length front) text) (sym h) ∙ take-append-drop (length front) text

pub begins_by : (front text more : List ℕ) → Begins front text → Begins text more → Begins front more
begins_by front text more h k = begins_on front (drop (length front) text) more (subst (λ (xs : List ℕ). Begins xs more) (sym (front_of front text h)) k)
