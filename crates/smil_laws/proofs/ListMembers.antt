-- Members of lists of nodes: which serials are among them, and that these are distinct.
use Rattle.std.proofs.Common.{◌≡◌, refl, sym, ◌∙◌, ap, ℕ, List, [], ◌∷◌, ◌++◌, Option, Some, None, Bool, true, false, inl, inr}
use Rattle.std.specs.Prelude.{cond, ◌==◌, ◌||◌, ◌⊎◌, reverse, filter, find, is_some, IsSome}
use Rattle.std.specs.List.{AllByRecursion, list_any}
use Rattle.std.proofs.lemmas.Bool.{or_from, or_left, or_right, or_cases, eqb-true, or_parts}
use Rattle.std.proofs.lemmas.List.{reverse-append}
use Rattle.std.proofs.lemmas.List.Folds.{list_any-append}
use Rattle.smil_model.specs.declared.document.Node.{Node}
use Rattle.smil_model.specs.document.Document.{node_at}
use Rattle.smil_model.specs.document.Valid.{IsDistinct}
use Rattle.smil_laws.proofs.LineageParents.{swap_eqb}
use Rattle.smil_laws.proofs.AsideDocuments.{each_append, each_reverse}
use Rattle.smil_laws.proofs.Lists.{each_kept}

-- a node that is there
pub record There (nodes : List Node) (s : ℕ) : Type 0 where
  pub node : Node
  pub at : node_at nodes s ≡ Some node

pub there : (nodes : List Node) (s : ℕ) → IsSome (node_at nodes s) → There nodes s
there nodes s some = by_node (node_at nodes s) refl some
  where
    by_node : (o : Option Node) → node_at nodes s ≡ o → IsSome o → There nodes s
    by_node None at h = absurd cc
    by_node (Some n) at h = record { node = n; at = at }

-- whether a node with this serial is among these
abbrev pub holds : ℕ → List Node → Bool
holds s ns = list_any (λ (n : Node). n.serial == s) ns

pub none_held : (s : ℕ) (ns : List Node) → AllByRecursion (λ (n : Node). n.serial == s ≡ false) ns → holds s ns ≡ false
none_held s [] each = refl
none_held s (n ∷ ns) each = or_from _ _ each.0 (none_held s ns each.1)

-- a serial among these has a property of each of them
pub held_each : (P : ℕ → Type 0) (s : ℕ) (ns : List Node) → AllByRecursion (λ (n : Node). P n.serial) ns → holds s ns ≡ true → P s
held_each P s [] each q = cc
held_each P s (n ∷ ns) each q = by_case (or_cases (n.serial == s) (holds s ns) q) (held_each P s ns each.1)
  where
    by_case : (n.serial == s ≡ true) ⊎ (holds s ns ≡ true) → (holds s ns ≡ true → P s) → P s
    by_case (inl d) later = rw (← eqb-true n.serial s d) each.0
    by_case (inr d) later = later d

pub held_reverse : (s : ℕ) (ns : List Node) → holds s (reverse ns) ≡ holds s ns
held_reverse s [] = refl
held_reverse s (n ∷ ns) =
    ap (holds s) (reverse-append (n ∷ []) ns)
    ∙ list_any-append (λ (m : Node). m.serial == s) (reverse ns) (n ∷ [])
    ∙ ap (λ t. t || holds s (n ∷ [])) (held_reverse s ns)
    ∙ turn (holds s ns) (n.serial == s)
  where
    turn : (a b : Bool) → (a || (b || false)) ≡ (b || a)
    turn true true = refl
    turn true false = refl
    turn false true = refl
    turn false false = refl

-- what is held is held among those that pass, where the serial passes
pub held_kept : (t : ℕ → Bool) (s : ℕ) (ns : List Node) → t s ≡ true → holds s (filter (λ (n : Node). t n.serial) ns) ≡ holds s ns
held_kept t s [] q = refl
held_kept t s (n ∷ ns) q = step (t n.serial) (n.serial == s) refl refl (held_kept t s ns q)
  where
    step : (b here : Bool) → t n.serial ≡ b → n.serial == s ≡ here → holds s (filter (λ (m : Node). t m.serial) ns) ≡ holds s ns → holds s (cond b (n ∷ filter (λ (m : Node). t m.serial) ns) (filter (λ (m : Node). t m.serial) ns)) ≡ ((n.serial == s) || holds s ns)
    step true here e d rest = ap (λ u. (n.serial == s) || u) rest
    step false true e d rest = let never : false ≡ true = sym e ∙ ap t (eqb-true n.serial s d) ∙ q in cc
    step false false e d rest = rest ∙ sym (ap (λ u. u || holds s ns) d)

-- a node that passes and is found is held
pub found_held : (t : Node → Bool) (s : ℕ) (ns : List Node) → is_some (find (λ (n : Node). n.serial == s) (filter t ns)) ≡ true → holds s ns ≡ true
found_held t s [] q = cc
found_held t s (n ∷ ns) q = step (t n) q (found_held t s ns)
  where
    here : (b : Bool) → n.serial == s ≡ b → is_some (cond b (Some n) (find (λ (m : Node). m.serial == s) (filter t ns))) ≡ true → (is_some (find (λ (m : Node). m.serial == s) (filter t ns)) ≡ true → holds s ns ≡ true) → ((n.serial == s) || holds s ns) ≡ true
    here true e r later = or_left _ _ e
    here false e r later = or_right _ _ (later r)

    step : (b : Bool) → is_some (find (λ (m : Node). m.serial == s) (cond b (n ∷ filter t ns) (filter t ns))) ≡ true → (is_some (find (λ (m : Node). m.serial == s) (filter t ns)) ≡ true → holds s ns ≡ true) → ((n.serial == s) || holds s ns) ≡ true
    step true r later = here (n.serial == s) refl r later
    step false r later = or_right _ _ (later r)

-- ---- distinct serials

pub differ_each : (s : ℕ) (ns : List Node) → list_any (λ (m : Node). m.serial == s) ns ≡ false → AllByRecursion (λ (m : Node). m.serial == s ≡ false) ns
differ_each s [] q = tt
differ_each s (n ∷ ns) q = let parts = or_parts (n.serial == s) (list_any (λ (m : Node). m.serial == s) ns) q in (parts.0, differ_each s ns parts.1)

abbrev pub Differ : List Node → Type 0
Differ [] = Unit {0}
Differ (n ∷ ns) = AllByRecursion (λ (m : Node). m.serial == n.serial ≡ false) ns × Differ ns

pub differ_all : (ns : List Node) → IsDistinct ns → Differ ns
differ_all [] d = tt
differ_all (n ∷ ns) d = (differ_each n.serial ns d.0, differ_all ns d.1)

differ_push : (ns : List Node) (n : Node) → Differ ns → AllByRecursion (λ (m : Node). m.serial == n.serial ≡ false) ns → Differ (ns ++ n ∷ [])
differ_push [] n d each = (tt, tt)
differ_push (m ∷ ms) n d each =
    (each_append (λ (x : Node). x.serial == m.serial ≡ false) ms (n ∷ []) d.0 (swap_eqb m.serial n.serial each.0, tt), differ_push ms n d.1 each.1)

pub differ_reverse : (ns : List Node) → Differ ns → Differ (reverse ns)
differ_reverse [] d = tt
differ_reverse (n ∷ ns) d =
    rw (reverse-append (n ∷ []) ns)
    (differ_push (reverse ns) n (differ_reverse ns d.1) (each_reverse (λ (m : Node). m.serial == n.serial ≡ false) ns d.0))

pub differ_kept : (t : Node → Bool) (ns : List Node) → Differ ns → Differ (filter t ns)
differ_kept t [] d = tt
differ_kept t (n ∷ ns) d = step (t n) (differ_kept t ns d.1)
  where
    step : (b : Bool) → Differ (filter t ns) → Differ (cond b (n ∷ filter t ns) (filter t ns))
    step true rest = (each_kept (λ (m : Node). m.serial == n.serial ≡ false) t ns d.0, rest)
    step false rest = rest
