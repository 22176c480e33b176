-- The children of a node on the branch stay alike.
use Rattle.std.proofs.Common.{◌≡◌, ℕ, zero, suc, ◌-◌, ◌<◌, ◌≤◌, Bool, true, false, not, eqb, ◌&&◌, ◌||◌, List, [], ◌∷◌, ◌++◌, length, take, Option, Some, None, Result, Ok, Err, refl, sym, subst, ap, ◌∙◌, arith, length-append}
use mathlib.Core.Bool.{beq}
use Rattle.std.specs.List.{slice_get}
use Rattle.std.specs.Prelude.{OnOk, is_err}
use Rattle.std.specs.List.{list_any}
use Rattle.std.proofs.lemmas.Bool.{or_parts, or_left, or_right, ne_eqb}
use Rattle.std.proofs.lemmas.List.Folds.{list_any-append}
use Rattle.smil_model.specs.declared.document.Kind.{Kind}
use Rattle.smil_model.specs.declared.document.Node.{Node}
use Rattle.smil_grammar.specs.Results.{◌>>=◌}
use Rattle.smil_grammar.specs.Outlines.{Outline, no_lines, last_of, mixes, with_line, with_lines, with_node}
use Rattle.smil_model.specs.declared.limits.TheConstants.{NODES}
use Rattle.smil_laws.proofs.LineageParents.{swap_eqb}
use Rattle.smil_outline.specs.Branches.{differs, serial_of, is_known, AreAlike, AreKnown, IsOfBuilder, IsPlaced}
use Rattle.smil_model.specs.declared.order.Refusal.{Refusal}
use Rattle.smil_model.specs.document.Document.{is_class_kind}
use Rattle.smil_model.specs.document.Valid.{same_test}

-- the deepest node of a branch
abbrev pub deepest : ℕ × Kind → List (ℕ × Kind) → ℕ × Kind
deepest node [] = node
deepest node (child ∷ below) = deepest child below

pub deepest_is : (node : ℕ × Kind) (below : List (ℕ × Kind)) → last_of (node ∷ below) ≡ Some (deepest node below)
deepest_is node [] = refl
deepest_is node (child ∷ below) =
    let place : length (node ∷ child ∷ below) - 1 ≡ suc (length (child ∷ below) - 1) = omega arith in
    ap (slice_get (node ∷ child ∷ below)) place ∙ deepest_is child below

-- one more node, as a child and as none
abbrev mixes_one : Node → ℕ → Kind → Bool
mixes_one n serial kind = eqb n.parent serial && not (same_test (is_class_kind n.kind) (is_class_kind kind))

more : (nodes : List Node) (n : Node) (node : ℕ × Kind) (kind : Kind) → mixes (nodes ++ n ∷ []) (Some node) kind ≡ (mixes nodes (Some node) kind || mixes_one n node.0 kind)
more nodes n node kind = list_any-append _ nodes (n ∷ []) ∙ ap (λ b. mixes nodes (Some node) kind || b) (or_false (mixes_one n node.0 kind))
  where
    or_false : (b : Bool) → (b || false) ≡ b
    or_false true = refl
    or_false false = refl

no_child : (nodes : List Node) (n : Node) (node : ℕ × Kind) (kind : Kind) (among : Bool) → eqb n.parent node.0 ≡ false → mixes nodes (Some node) kind ≡ among → mixes (nodes ++ n ∷ []) (Some node) kind ≡ among
no_child nodes n node kind among other h =
    more nodes n node kind ∙ ap (λ b. mixes nodes (Some node) kind || (b && not (same_test (is_class_kind n.kind) (is_class_kind kind)))) other ∙ or_none (mixes nodes (Some node) kind) ∙ h
  where
    or_none : (b : Bool) → (b || false) ≡ b
    or_none true = refl
    or_none false = refl

same_class : (a b c : Bool) → not (same_test a b) ≡ false → (not (same_test a c) || not (same_test b c)) ≡ not (same_test b c)
same_class true true true h = refl
same_class true true false h = refl
same_class true false c h = absurd cc
same_class false true c h = absurd cc
same_class false false true h = refl
same_class false false false h = refl

like_last : (last : Option (ℕ × Kind)) (kind other : Kind) → differs last kind ≡ false → (differs last other || not (same_test (is_class_kind kind) (is_class_kind other))) ≡ not (same_test (is_class_kind kind) (is_class_kind other))
like_last None kind other h = refl
like_last (Some last) kind other h = same_class (is_class_kind last.1) (is_class_kind kind) (is_class_kind other) h

equal : (a b : ℕ) → a ≡ b → eqb a b ≡ true
equal a b h = grind arith

one_child : (nodes : List Node) (n : Node) (node : ℕ × Kind) (last : Option (ℕ × Kind)) (kind : Kind) → n.parent ≡ node.0 → ((k : Kind) → mixes nodes (Some node) k ≡ differs last k) → mixes nodes (Some node) n.kind ≡ false
    → mixes (nodes ++ n ∷ []) (Some node) kind ≡ not (same_test (is_class_kind n.kind) (is_class_kind kind))
one_child nodes n node last kind parent alike unmixed =
    more nodes n node kind
    ∙ ap (λ b. mixes nodes (Some node) kind || (b && not (same_test (is_class_kind n.kind) (is_class_kind kind)))) (equal n.parent node.0 parent)
    ∙ ap (λ b. b || not (same_test (is_class_kind n.kind) (is_class_kind kind))) (alike kind)
    ∙ like_last last n.kind kind (sym (alike n.kind) ∙ unmixed)

-- ---- serials that are known

pub other_serial : (nodes : List Node) (a b : ℕ) → is_known nodes a ≡ false → is_known nodes b ≡ true → eqb a b ≡ false
other_serial nodes a b h k = ne_eqb _ _ (λ e. let same : is_known nodes a ≡ true = ap (is_known nodes) e ∙ k in cc)

known_either : (a b c : Bool) → (a || b) ≡ true → (b ≡ true → c ≡ true) → (a || c) ≡ true
known_either true b c h k = refl
known_either false b c h k = k h

pub known_on : (nodes : List Node) (n : Node) (serial : ℕ) → is_known nodes serial ≡ true → is_known (nodes ++ n ∷ []) serial ≡ true
known_on nodes n serial h =
    known_either (eqb serial 0) (list_any (λ (m : Node). eqb m.serial serial) nodes) (list_any (λ (m : Node). eqb m.serial serial) (nodes ++ n ∷ [])) h
    (λ e. list_any-append (λ (m : Node). eqb m.serial serial) nodes (n ∷ []) ∙ or_left (list_any (λ (m : Node). eqb m.serial serial) nodes) _ e)

pub known_self : (nodes : List Node) (n : Node) → is_known (nodes ++ n ∷ []) n.serial ≡ true
known_self nodes n =
    let own : eqb n.serial n.serial ≡ true = equal n.serial n.serial refl in
    or_right (eqb n.serial 0) _ (list_any-append (λ (m : Node). eqb m.serial n.serial) nodes (n ∷ []) ∙ or_right (list_any (λ (m : Node). eqb m.serial n.serial) nodes) _ (or_left _ false own))

pub unknown_before : (nodes : List Node) (n : Node) (serial : ℕ) → is_known (nodes ++ n ∷ []) serial ≡ false → is_known nodes serial ≡ false
unknown_before nodes n serial h = by (is_known nodes serial) refl
  where
    by : (t : Bool) → is_known nodes serial ≡ t → t ≡ false
    by false e = refl
    by true e = let there = known_on nodes n serial e in absurd cc

new_is_alike : (nodes : List Node) (n : Node) → AreKnown nodes → is_known nodes n.parent ≡ true → is_known nodes n.serial ≡ false → AreAlike (nodes ++ n ∷ []) ((n.serial, n.kind) ∷ [])
new_is_alike nodes n earlier parent serial = (
  record {
    known = known_self nodes n;
    once = refl;
    alike = λ kind. no_child nodes n (n.serial, n.kind) kind false (swap_eqb n.serial n.parent (other_serial nodes n.serial n.parent serial parent)) (earlier n.serial kind n.kind serial);
  },
  tt,
)

-- a branch with a new node below it has no serial twice
once_on : (nodes : List Node) (node : ℕ × Kind) (below : List (ℕ × Kind)) (d serial : ℕ) (kind : Kind) → list_any (λ (other : ℕ × Kind). eqb other.0 node.0) below ≡ false → is_known nodes node.0 ≡ true → is_known nodes serial ≡ false
    → list_any (λ (other : ℕ × Kind). eqb other.0 node.0) (take d below ++ (serial, kind) ∷ []) ≡ false
once_on nodes node below zero serial kind once known new = rw (other_serial nodes serial node.0 new known) refl
once_on nodes node [] (suc d) serial kind once known new = rw (other_serial nodes serial node.0 new known) refl
once_on nodes node (child ∷ below) (suc d) serial kind once known new =
    let parts = or_parts (eqb child.0 node.0) (list_any (λ (other : ℕ × Kind). eqb other.0 node.0) below) once in
    rw (parts.0, once_on nodes node below d serial kind parts.1 known new) refl

-- the deepest of those below is none of those above
deepest_other : (node : ℕ × Kind) (child : ℕ × Kind) (below : List (ℕ × Kind)) (d : ℕ) → list_any (λ (other : ℕ × Kind). eqb other.0 node.0) (child ∷ below) ≡ false → eqb (deepest child (take d below)).0 node.0 ≡ false
deepest_other node child below zero once = (or_parts (eqb child.0 node.0) (list_any (λ (other : ℕ × Kind). eqb other.0 node.0) below) once).0
deepest_other node child [] (suc d) once = (or_parts (eqb child.0 node.0) false once).0
deepest_other node child (next ∷ below) (suc d) once = deepest_other node next below d (or_parts (eqb child.0 node.0) (list_any (λ (other : ℕ × Kind). eqb other.0 node.0) (next ∷ below)) once).1

below_is_alike : (nodes : List Node) (n : Node) (node : ℕ × Kind) (below : List (ℕ × Kind)) (d : ℕ) → AreKnown nodes → AreAlike nodes (node ∷ below) → d ≤ length below
    → is_known nodes n.serial ≡ false → n.parent ≡ (deepest node (take d below)).0 → is_known nodes n.parent ≡ true → mixes nodes (Some (deepest node (take d below))) n.kind ≡ false
    → AreAlike (nodes ++ n ∷ []) (node ∷ take d below ++ (n.serial, n.kind) ∷ [])
below_is_alike nodes n node below zero earlier h le serial parent known unmixed = (
  record {
    known = known_on nodes n node.0 h.0.known;
    once = once_on nodes node below zero n.serial n.kind h.0.once h.0.known serial;
    alike = λ kind. one_child nodes n node (slice_get below 0) kind parent h.0.alike unmixed;
  },
  new_is_alike nodes n earlier known serial,
)
below_is_alike nodes n node [] (suc d) earlier h le serial parent known unmixed = absurd (omega arith)
below_is_alike nodes n node (child ∷ below) (suc d) earlier h le serial parent known unmixed =
    let other : eqb n.parent node.0 ≡ false = subst (λ (p : ℕ). eqb p node.0 ≡ false) (sym parent) (deepest_other node child below d h.0.once) in (
      record {
        known = known_on nodes n node.0 h.0.known;
        once = once_on nodes node (child ∷ below) (suc d) n.serial n.kind h.0.once h.0.known serial;
        alike = λ kind. no_child nodes n node kind (differs (Some child) kind) other (h.0.alike kind);
      },
      below_is_alike nodes n child below d earlier h.1 (omega arith) serial parent known unmixed,
    )

deepest_known : (nodes : List Node) (node : ℕ × Kind) (below : List (ℕ × Kind)) (d : ℕ) → AreAlike nodes (node ∷ below) → is_known nodes (deepest node (take d below)).0 ≡ true
deepest_known nodes node below zero h = h.0.known
deepest_known nodes node [] (suc d) h = h.0.known
deepest_known nodes node (child ∷ below) (suc d) h = deepest_known nodes child below d h.1

-- the parent of a node below a branch depends on it
pub parent_known : (nodes : List Node) (branch : List (ℕ × Kind)) (d : ℕ) → AreAlike nodes branch → is_known nodes (serial_of (last_of (take d branch))) ≡ true
parent_known nodes branch zero h = refl
parent_known nodes [] (suc d) h = refl
parent_known nodes (node ∷ below) (suc d) h = ap (λ (o : Option (ℕ × Kind)). is_known nodes (serial_of o)) (deepest_is node (take d below)) ∙ deepest_known nodes node below d h

pub known_with : (nodes : List Node) (n : Node) → AreKnown nodes → is_known nodes n.parent ≡ true → AreKnown (nodes ++ n ∷ [])
known_with nodes n earlier parent serial kind other unknown =
    let before : is_known nodes serial ≡ false = unknown_before nodes n serial unknown in
    no_child nodes n (serial, other) kind false (swap_eqb serial n.parent (other_serial nodes serial n.parent before parent)) (earlier serial kind other before)

pub alike_with : (nodes : List Node) (branch : List (ℕ × Kind)) (d : ℕ) (n : Node) → AreKnown nodes → AreAlike nodes branch → d ≤ length branch
    → is_known nodes n.serial ≡ false → n.parent ≡ serial_of (last_of (take d branch)) → is_known nodes n.parent ≡ true → mixes nodes (last_of (take d branch)) n.kind ≡ false
    → AreAlike (nodes ++ n ∷ []) (take d branch ++ (n.serial, n.kind) ∷ [])
alike_with nodes branch zero n earlier h le serial parent known unmixed = new_is_alike nodes n earlier known serial
alike_with nodes [] (suc d) n earlier h le serial parent known unmixed = absurd (omega arith)
alike_with nodes (node ∷ below) (suc d) n earlier h le serial parent known unmixed =
    let last : last_of (node ∷ take d below) ≡ Some (deepest node (take d below)) = deepest_is node (take d below) in
    let of : n.parent ≡ (deepest node (take d below)).0 = parent ∙ ap serial_of last in
    below_is_alike nodes n node below d earlier h (omega arith) serial of known (sym (ap (λ p. mixes nodes p n.kind) last) ∙ unmixed)

mixed_below : (nodes : List Node) (node : ℕ × Kind) (below : List (ℕ × Kind)) (d : ℕ) (kind : Kind) → AreAlike nodes (node ∷ below) → d ≤ length below → mixes nodes (Some (deepest node (take d below))) kind ≡ differs (slice_get below d) kind
mixed_below nodes node below zero kind h le = h.0.alike kind
mixed_below nodes node [] (suc d) kind h le = absurd (omega arith)
mixed_below nodes node (child ∷ below) (suc d) kind h le = mixed_below nodes child below d kind h.1 (omega arith)

-- whether a node mixes with those beside it is seen on the branch
pub mixed_at : (nodes : List Node) (branch : List (ℕ × Kind)) (d : ℕ) (kind : Kind) → AreAlike nodes branch → 0 < d → d ≤ length branch → mixes nodes (last_of (take d branch)) kind ≡ differs (slice_get branch d) kind
mixed_at nodes branch zero kind h some le = absurd (omega arith)
mixed_at nodes [] (suc d) kind h some le = absurd (omega arith)
mixed_at nodes (node ∷ below) (suc d) kind h some le =
    ap (λ p. mixes nodes p kind) (deepest_is node (take d below)) ∙ mixed_below nodes node below d kind h (omega arith)

-- the same of an outline
pub mixed_in : (inside now : Outline) (d : ℕ) (kind : Kind) (child : Option (ℕ × Kind)) → inside ≡ now → AreAlike inside.nodes inside.branch → 0 < d → d ≤ length now.branch → child ≡ slice_get inside.branch d
    → differs child kind ≡ mixes now.nodes (last_of (take d now.branch)) kind
mixed_in inside now d kind child same h some near at =
    subst (λ (o : Outline). d ≤ length o.branch → differs child kind ≡ mixes o.nodes (last_of (take d o.branch)) kind) same
    (λ short. ap (λ (last : Option (ℕ × Kind)). differs last kind) at ∙ sym (mixed_at inside.nodes inside.branch d kind h some short)) near

pub unlike : (a b : Bool) → not (beq (not a) (not b)) ≡ not (same_test a b)
unlike true true = refl
unlike true false = refl
unlike false true = refl
unlike false false = refl

on_ok : (r : Result Outline Refusal) (lines more_lines : List (List ℕ)) (before after : Outline) → ((o : Outline) → with_lines o lines ≡ Ok before → with_lines o more_lines ≡ Ok after)
    → (r >>= λ o. with_lines o lines) ≡ Ok before → (r >>= λ o. with_lines o more_lines) ≡ Ok after
on_ok (Ok o) lines more_lines before after f h = f o h
on_ok (Err refusal) lines more_lines before after f h = absurd cc

-- one line more is read
read_on : (lines : List (List ℕ)) (line : List ℕ) (start before after : Outline) → with_lines start lines ≡ Ok before → with_line before line ≡ Ok after → with_lines start (lines ++ line ∷ []) ≡ Ok after
read_on [] line start before after h e =
    let same : start ≡ before = cc in
    ap (λ (r : Result Outline Refusal). r >>= λ more. Ok more) (ap (λ (o : Outline). with_line o line) same ∙ e)
read_on (first ∷ lines) line start before after h e = on_ok (with_line start first) lines (lines ++ line ∷ []) before after (λ o k. read_on lines line o before after k e) h

-- one more node keeps what is true of a builder
pub kept_with : (now : Outline) (d : ℕ) (n : Node) (line : List ℕ) → IsOfBuilder now → d ≤ length now.branch → IsPlaced now d n → length now.nodes < NODES → with_line now line ≡ Ok (with_node now d n) → IsOfBuilder (with_node now d n)
kept_with now d n line h near placed few reads =
    let known : is_known now.nodes n.parent ≡ true = ap (is_known now.nodes) placed.parent ∙ parent_known now.nodes now.branch d h.alike in
    record {
      few = omega (arith, length-append now.nodes (n ∷ []));
      read = (h.read.0 ++ line ∷ [], read_on h.read.0 line no_lines now (with_node now d n) h.read.1 reads);
      parents = known_with now.nodes n h.parents known;
      alike = alike_with now.nodes now.branch d n h.parents h.alike near placed.serial placed.parent known placed.unmixed;
    }

-- the same of the parts of a builder that a node was put into
pub kept_put : (inside now : Outline) (d : ℕ) (n : Node) (nodes : List Node) (branch : List (ℕ × Kind)) → inside ≡ now → nodes ≡ inside.nodes ++ n ∷ [] → branch ≡ take d inside.branch ++ (n.serial, n.kind) ∷ [] → IsOfBuilder (with_node now d n)
    → IsOfBuilder (record { nodes = nodes; branch = branch; next = inside.next })
kept_put inside now d n nodes branch same more longer h =
    let all : with_node now d n ≡ record { nodes = nodes; branch = branch; next = inside.next } =
    ap (λ (o : Outline). with_node o d n) (sym same)
    ∙ ap (λ (ns : List Node). record { nodes = ns; branch = take d inside.branch ++ (n.serial, n.kind) ∷ []; next = inside.next }) (sym more)
    ∙ ap (λ (b : List (ℕ × Kind)). record { nodes = nodes; branch = b; next = inside.next }) (sym longer) in
    subst IsOfBuilder all h

-- and so does a header
pub kept_headed : (now : Outline) (next : ℕ) (line : List ℕ) → IsOfBuilder now → with_line now line ≡ Ok (record now { next = Some next }) → IsOfBuilder (record now { next = Some next })
kept_headed now next line h reads = record {
  few = h.few;
  read = (h.read.0 ++ line ∷ [], read_on h.read.0 line no_lines now (record now { next = Some next }) h.read.1 reads);
  parents = h.parents;
  alike = h.alike;
}

pub where_ok : {T E P : Type 0} (r : Result T E) → is_err r ≡ false → OnOk r P → P
where_ok (Ok x) e h = h
where_ok (Err x) e h = absurd cc
