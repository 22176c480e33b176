-- Places of the serials of nodes that grow.
use Rattle.std.proofs.Common.{◌≡◌, ℕ, Bool, true, false, ◌||◌, ◌+◌, List, [], ◌∷◌, ◌++◌, Option, refl, sym, ap, ◌∙◌, arith}
use Rattle.std.specs.Prelude.{Some, ◌==◌, if◌then◌else◌, is_some}
use Rattle.std.specs.FinMap.{FinMap, get}
use Rattle.std.specs.Ordering.{nat_cmp}
use Rattle.std.proofs.lemmas.List.Folds.{list_any-append}
use Rattle.std.proofs.lemmas.List.Sums.{sum_by-append, sum_by-cons}
use Rattle.smil_model.specs.declared.document.Node.{Node}
use Rattle.smil_model.specs.document.Valid.{references, references_among, references_of}
use Rattle.smil_outline.specs.Branches.{has_place, has_serial}

swap_or : (a b : Bool) → (a || b) ≡ (b || a)
swap_or true true = refl
swap_or true false = refl
swap_or false true = refl
swap_or false false = refl

either : (was is : Bool) (new : Bool) → (was || (is || false)) ≡ true → (was ≡ true → new ≡ true) → (is ≡ true → new ≡ true) → new ≡ true
either true is new h first second = first refl
either false true new h first second = second refl
either false false true h first second = refl
either false false false h first second = h

-- the references of one node more
pub counted_with : (nodes : List Node) (node : Node) (count more : ℕ)
    → count ≡ references nodes → more ≡ references_among node.attrs → count + more ≡ references (nodes ++ node ∷ [])
counted_with nodes node count more before own =
    omega (arith, before, own, sum_by-append references_of nodes (node ∷ []), sum_by-cons references_of node [])

placed_by : (t : Bool) (before : Option ℕ) (place : ℕ) → is_some (if t then Some place else before) ≡ (is_some before || t)
placed_by true before place = sym (swap_or (is_some before) true)
placed_by false before place = sym (swap_or (is_some before) false)

-- a serial that is given a place has one, and those that had one
pub placed : (before : FinMap nat_cmp ℕ) (now : FinMap nat_cmp ℕ) (serial place : ℕ)
    → ((other : ℕ) → get now other ≡ (if serial == other then Some place else get before other))
    → (other : ℕ) → has_place (Some now) other ≡ (has_place (Some before) other || serial == other)
placed before now serial place put other = ap is_some (put other) ∙ placed_by (serial == other) (get before other) place

-- the serials of nodes have places where one more node's does
pub numbered_with : (nodes : List Node) (node : Node) (places new : Option (FinMap nat_cmp ℕ))
    → ((serial : ℕ) → has_serial nodes serial ≡ true → has_place places serial ≡ true)
    → ((serial : ℕ) → has_place new serial ≡ (has_place places serial || node.serial == serial))
    → (serial : ℕ) → has_serial (nodes ++ node ∷ []) serial ≡ true → has_place new serial ≡ true
numbered_with nodes node places new before put serial is =
    either (has_serial nodes serial) (node.serial == serial) (has_place new serial)
    (sym (list_any-append (λ (n : Node). n.serial == serial) nodes (node ∷ [])) ∙ is)
    (λ was. put serial ∙ ap (λ b. b || node.serial == serial) (before serial was))
    (λ own. put serial ∙ ap (λ b. has_place places serial || b) own ∙ swap_or (has_place places serial) true)
