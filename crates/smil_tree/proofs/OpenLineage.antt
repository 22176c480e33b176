-- What is open behind a node are the nodes of its lineage, and the nodes within a node stand together behind it.
use Rattle.std.proofs.Common.{◌≡◌, refl, sym, ◌∙◌, ap, subst, ℕ, suc, ◌+◌, ◌≤◌, List, [], ◌∷◌, ◌++◌, Some, Bool, true, false, cond, length, filter, take, drop, arith, inl, inr}
use Rattle.std.specs.Prelude.{◌==◌, ◌||◌, ◌⊎◌, reverse, not}
use Rattle.std.specs.List.{list_any, AllByRecursion}
use Rattle.std.proofs.lemmas.Bool.{or_parts, or_from, or_right, or_cases, eqb-true, eq-eqb}
use Rattle.smil_model.specs.declared.document.Node.{Node}
use Rattle.smil_model.specs.document.Document.{node_at, lineage, is_within, serials}
use Rattle.smil_model.specs.document.Valid.{IsTreeFrom, open_from}
use Rattle.smil_laws.specs.Edited.{IsOrdered}
use Rattle.smil_laws.proofs.LineageParents.{upwards-rest, upwards-head, swap_eqb}
use Rattle.smil_laws.proofs.DescendantOrder.{below_none}
use Rattle.smil_laws.proofs.ListMembers.{holds}
use Rattle.smil_tree.proofs.NodeFamilies.{chain_of, above_of}

-- what is open behind these nodes
abbrev pub opened_after : List ℕ → List Node → List ℕ
opened_after opened [] = opened
opened_after opened (n ∷ ns) = opened_after (n.serial ∷ open_from n.parent opened) ns

pub tree_parts : (opened : List ℕ) (a b : List Node) → IsTreeFrom opened (a ++ b) → IsTreeFrom opened a × IsTreeFrom (opened_after opened a) b
tree_parts opened [] b tree = (tt, tree)
tree_parts opened (n ∷ a) b tree = let rest = tree_parts (n.serial ∷ open_from n.parent opened) a b tree.1 in ((tree.0, rest.0), rest.1)

pub tree_joined : (opened : List ℕ) (a b : List Node) → IsTreeFrom opened a → IsTreeFrom (opened_after opened a) b → IsTreeFrom opened (a ++ b)
tree_joined opened [] b first then = then
tree_joined opened (n ∷ a) b first then = (first.0, tree_joined (n.serial ∷ open_from n.parent opened) a b first.1 then)

abbrev pub is_open : ℕ → List ℕ → Bool
is_open s opened = list_any (λ x. x == s) opened

-- how many of the first of these keep x open
abbrev pub spanned : ℕ → List ℕ → List Node → ℕ
spanned x opened [] = 0
spanned x opened (n ∷ ns) =
    cond (is_open x (n.serial ∷ open_from n.parent opened)) (suc (spanned x (n.serial ∷ open_from n.parent opened) ns)) 0

pub spanned_within : (x : ℕ) (opened : List ℕ) (ns : List Node) → spanned x opened ns ≤ length ns
spanned_within x opened [] = omega arith
spanned_within x opened (n ∷ ns) = step (is_open x (n.serial ∷ open_from n.parent opened)) (spanned_within x (n.serial ∷ open_from n.parent opened) ns)
  where
    step : (t : Bool) → spanned x (n.serial ∷ open_from n.parent opened) ns ≤ length ns → cond t (suc (spanned x (n.serial ∷ open_from n.parent opened) ns)) 0 ≤ suc (length ns)
    step true rest = omega (arith, rest)
    step false rest = omega arith

-- of two that are open one is open below the other
pub either_below : (p q : ℕ) (xs : List ℕ) → is_open p xs ≡ true → is_open q xs ≡ true → (is_open p (open_from q xs) ≡ true) ⊎ (is_open q (open_from p xs) ≡ true)
either_below p q [] a b = cc
either_below p q (x ∷ xs) a b = step (x == q) (x == p) refl refl (or_cases (x == p) (is_open p xs) a) (or_cases (x == q) (is_open q xs) b) (either_below p q xs)
  where
    later : {u v : Bool} → u ≡ false → (u ≡ true) ⊎ (v ≡ true) → v ≡ true
    later e (inl d) = cc
    later e (inr d) = d

    step : (t u : Bool) → x == q ≡ t → x == p ≡ u → (x == p ≡ true) ⊎ (is_open p xs ≡ true) → (x == q ≡ true) ⊎ (is_open q xs ≡ true) → (is_open p xs ≡ true → is_open q xs ≡ true → (is_open p (open_from q xs) ≡ true) ⊎ (is_open q (open_from p xs) ≡ true)) → (is_open p (cond t (x ∷ xs) (open_from q xs)) ≡ true) ⊎ (is_open q (cond u (x ∷ xs) (open_from p xs)) ≡ true)
    step true u e f c d rest = inl a
    step false true e f c d rest = inr b
    step false false e f c d rest = rest (later f c) (later e d)

pub closed_below : (x p : ℕ) (xs : List ℕ) → is_open x xs ≡ false → is_open x (open_from p xs) ≡ false
closed_below x p [] none = refl
closed_below x p (y ∷ ys) none = step (y == p) (closed_below x p ys (or_parts (y == x) (is_open x ys) none).1)
  where
    step : (u : Bool) → is_open x (open_from p ys) ≡ false → is_open x (cond u (y ∷ ys) (open_from p ys)) ≡ false
    step true r = none
    step false r = r

pub open_below : (x p : ℕ) (xs : List ℕ) → is_open x (open_from p xs) ≡ true → is_open x xs ≡ true
open_below x p xs h = by_test (is_open x xs) refl
  where
    by_test : (t : Bool) → is_open x xs ≡ t → t ≡ true
    by_test true e = refl
    by_test false e = let never : false ≡ true = sym (closed_below x p xs e) ∙ h in cc

-- what is open is open below itself
pub open_own : (p : ℕ) (xs : List ℕ) → is_open p xs ≡ true → is_open p (open_from p xs) ≡ true
open_own p [] h = cc
open_own p (x ∷ xs) h = step (x == p) refl (or_cases (x == p) (is_open p xs) h) (open_own p xs)
  where
    step : (u : Bool) → x == p ≡ u → (x == p ≡ true) ⊎ (is_open p xs ≡ true) → (is_open p xs ≡ true → is_open p (open_from p xs) ≡ true) → is_open p (cond u (x ∷ xs) (open_from p xs)) ≡ true
    step true e c rest = h
    step false e (inl d) rest = cc
    step false e (inr d) rest = rest d

-- what is closed and does not come stays closed
pub closed_after : (x : ℕ) (opened : List ℕ) (ns : List Node) → is_open x opened ≡ false → holds x ns ≡ false → is_open x (opened_after opened ns) ≡ false
closed_after x opened [] shut absent = shut
closed_after x opened (n ∷ ns) shut absent =
    let parts = or_parts (n.serial == x) (holds x ns) absent in
    closed_after x (n.serial ∷ open_from n.parent opened) ns (or_from _ _ parts.0 (closed_below x n.parent opened shut)) parts.1

-- nothing passes, so what does not is all
pub rest_whole : (t : Node → Bool) (ns : List Node) → filter t ns ≡ [] → filter (λ n. not (t n)) ns ≡ ns
rest_whole t [] none = refl
rest_whole t (n ∷ ns) none = step (t n) none (rest_whole t ns)
  where
    step : (b : Bool) → cond b (n ∷ filter t ns) (filter t ns) ≡ [] → (filter t ns ≡ [] → filter (λ m. not (t m)) ns ≡ ns) → cond (not b) (n ∷ filter (λ m. not (t m)) ns) (filter (λ m. not (t m)) ns) ≡ n ∷ ns
    step true r rest = cc
    step false r rest = ap (λ ms. n ∷ ms) (rest r)

module _ (nodes : List Node) (o : IsOrdered nodes) where
  -- what is open from a member of a lineage on is the member's lineage
  pub open_lineage : (chain : List Node) (t p : ℕ) → lineage nodes t ≡ chain → is_open p (serials chain) ≡ true → open_from p (serials chain) ≡ serials (lineage nodes p)
  open_lineage [] t p e h = cc
  open_lineage (m ∷ rest) t p e h = step (m.serial == p) refl (or_cases (m.serial == p) (is_open p (serials rest)) h) (open_lineage rest m.parent p (upwards-rest (reverse nodes) t m rest o.first e))
    where
      head : m.serial ≡ t
      head = upwards-head (reverse nodes) t m rest e

      later : (m.serial == p ≡ false) → (m.serial == p ≡ true) ⊎ (is_open p (serials rest) ≡ true) → is_open p (serials rest) ≡ true
      later none (inl d) = cc
      later none (inr d) = d

      step : (u : Bool) → m.serial == p ≡ u → (m.serial == p ≡ true) ⊎ (is_open p (serials rest) ≡ true) → (is_open p (serials rest) ≡ true → open_from p (serials rest) ≡ serials (lineage nodes p)) → cond u (m.serial ∷ serials rest) (open_from p (serials rest)) ≡ serials (lineage nodes p)
      step true u c later_is = ap serials (sym e) ∙ ap (λ s. serials (lineage nodes s)) (sym head ∙ eqb-true m.serial p u)
      step false u c later_is = later_is (later u c)

  pub open_at : (opened : List ℕ) (t p : ℕ) → opened ≡ serials (lineage nodes t) → is_open p opened ≡ true → open_from p opened ≡ serials (lineage nodes p)
  open_at opened t p is h = ap (open_from p) is ∙ open_lineage (lineage nodes t) t p refl (ap (is_open p) (sym is) ∙ h)

  -- what is open behind a node is its lineage
  pub open_next : (opened : List ℕ) (t : ℕ) (n : Node) → opened ≡ serials (lineage nodes t) → node_at nodes n.serial ≡ Some n → is_open n.parent opened ≡ true → (n.serial ∷ open_from n.parent opened) ≡ serials (lineage nodes n.serial)
  open_next opened t n is known h =
      ap (λ xs. n.serial ∷ xs) (open_at opened t n.parent is h) ∙ ap serials (sym (chain_of nodes o n.serial n known))

  -- each of these is a node of the document
  abbrev pub Known : List Node → Type 0
  Known ns = AllByRecursion (λ (n : Node). node_at nodes n.serial ≡ Some n) ns

  any_serial : (x : ℕ) (chain : List Node) → list_any (λ (a : Node). a.serial == x) chain ≡ is_open x (serials chain)
  any_serial x [] = refl
  any_serial x (m ∷ rest) = ap (λ t. (m.serial == x) || t) (any_serial x rest)

  pub within_lineage : (x s : ℕ) → is_within nodes x s ≡ is_open x (serials (lineage nodes s))
  within_lineage x s = any_serial x (lineage nodes s)

  -- a node is within x exactly where x is open behind it
  pub within_open : (x : ℕ) (opened : List ℕ) (t : ℕ) (n : Node) → opened ≡ serials (lineage nodes t) → node_at nodes n.serial ≡ Some n → is_open n.parent opened ≡ true → is_within nodes x n.serial ≡ is_open x (n.serial ∷ open_from n.parent opened)
  within_open x opened t n is known h = within_lineage x n.serial ∙ ap (is_open x) (sym (open_next opened t n is known h))

  -- a node is within itself, and above it stands the lineage of its parent, where it is not
  pub open_self : (n : Node) → node_at nodes n.serial ≡ Some n → serials (lineage nodes n.serial) ≡ n.serial ∷ serials (lineage nodes n.parent)
  open_self n known = ap serials (chain_of nodes o n.serial n known)

  pub not_above : (n : Node) → node_at nodes n.serial ≡ Some n → is_open n.serial (serials (lineage nodes n.parent)) ≡ false
  not_above n known =
      sym (any_serial n.serial (lineage nodes n.parent))
      ∙ ap (list_any (λ (a : Node). a.serial == n.serial)) (sym (above_of nodes o n.serial n known))
      ∙ below_none nodes o n.serial

  -- ---- the nodes within a node

  -- where x is not open and does not come, nothing is within it
  pub none_within : (x : ℕ) (opened : List ℕ) (t : ℕ) (ns : List Node) → opened ≡ serials (lineage nodes t) → Known ns → IsTreeFrom opened ns → is_open x opened ≡ false → holds x ns ≡ false → filter (λ (n : Node). is_within nodes x n.serial) ns ≡ []
  none_within x opened t [] is known tree shut absent = refl
  none_within x opened t (n ∷ ns) is known tree shut absent =
      let parts = or_parts (n.serial == x) (holds x ns) absent in
      let still : is_open x (n.serial ∷ open_from n.parent opened) ≡ false = or_from _ _ parts.0 (closed_below x n.parent opened shut) in
      ap (λ b. cond b (n ∷ filter (λ (m : Node). is_within nodes x m.serial) ns) (filter (λ (m : Node). is_within nodes x m.serial) ns)) (within_open x opened t n is known.0 tree.0 ∙ still)
      ∙ none_within x (n.serial ∷ open_from n.parent opened) n.serial ns (open_next opened t n is known.0 tree.0) known.1 tree.1 still parts.1

  -- the first are within it, as many as keep it open, and no others
  pub record Split (x : ℕ) (k : ℕ) (ns : List Node) : Type 0 where
    pub count : length (filter (λ (n : Node). is_within nodes x n.serial) ns) ≡ k
    pub others : filter (λ (n : Node). not (is_within nodes x n.serial)) ns ≡ drop k ns
    pub inner : filter (λ (n : Node). is_within nodes x n.serial) ns ≡ take k ns

  pub split : (x : ℕ) (opened : List ℕ) (t : ℕ) (ns : List Node) → opened ≡ serials (lineage nodes t) → Known ns → IsTreeFrom opened ns → holds x ns ≡ false → Split x (spanned x opened ns) ns
  split x opened t [] is known tree absent = record { count = refl; others = refl; inner = refl }
  split x opened t (n ∷ ns) is known tree absent = step (is_open x (n.serial ∷ open_from n.parent opened)) refl (split x (n.serial ∷ open_from n.parent opened) n.serial ns (open_next opened t n is known.0 tree.0) known.1 tree.1 parts.1)
    where
      parts : (n.serial == x ≡ false) × (holds x ns ≡ false)
      parts = or_parts (n.serial == x) (holds x ns) absent

      inside : List Node
      inside = filter (λ (m : Node). is_within nodes x m.serial) ns

      outside : List Node
      outside = filter (λ (m : Node). not (is_within nodes x m.serial)) ns

      step : (b : Bool) → is_open x (n.serial ∷ open_from n.parent opened) ≡ b → Split x (spanned x (n.serial ∷ open_from n.parent opened) ns) ns → Split x (cond b (suc (spanned x (n.serial ∷ open_from n.parent opened) ns)) 0) (n ∷ ns)
      step true e rest =
          let here : is_within nodes x n.serial ≡ true = within_open x opened t n is known.0 tree.0 ∙ e in
          record {
            count = ap (λ b. length (cond b (n ∷ inside) inside)) here ∙ ap suc rest.count;
            others = ap (λ b. cond (not b) (n ∷ outside) outside) here ∙ rest.others;
            inner = ap (λ b. cond b (n ∷ inside) inside) here ∙ ap (λ ms. n ∷ ms) rest.inner;
          }
      step false e rest =
          let here : is_within nodes x n.serial ≡ false = within_open x opened t n is known.0 tree.0 ∙ e in
          let none : inside ≡ [] = none_within x (n.serial ∷ open_from n.parent opened) n.serial ns (open_next opened t n is known.0 tree.0) known.1 tree.1 e parts.1 in
          record {
            count = ap (λ b. length (cond b (n ∷ inside) inside)) here ∙ ap length none;
            others = ap (λ b. cond (not b) (n ∷ outside) outside) here ∙ ap (λ ms. n ∷ ms) (rest_whole (λ (m : Node). is_within nodes x m.serial) ns none);
            inner = ap (λ b. cond b (n ∷ inside) inside) here ∙ none;
          }

  -- ---- the span of a node ends where that of its last child ends

  -- x stays open up to a child
  pub up_to_child : (x : ℕ) (opened : List ℕ) (a : List Node) (c : Node) (b : List Node) → IsTreeFrom opened (a ++ c ∷ b) → c.parent ≡ x → holds x a ≡ false → spanned x opened (a ++ c ∷ b) ≡ length a + suc (spanned x (c.serial ∷ open_from c.parent (opened_after opened a)) b)
  up_to_child x opened [] c b tree is absent =
      let still : is_open x (c.serial ∷ open_from c.parent opened) ≡ true = or_right _ _ (ap (λ p. is_open p (open_from c.parent opened)) (sym is) ∙ open_own c.parent opened tree.0) in
      ap (λ t. cond t (suc (spanned x (c.serial ∷ open_from c.parent opened) b)) 0) still ∙ omega arith
  up_to_child x opened (n ∷ a) c b tree is absent =
      step (is_open x (n.serial ∷ open_from n.parent opened)) refl (up_to_child x (n.serial ∷ open_from n.parent opened) a c b tree.1 is parts.1)
    where
      parts : (n.serial == x ≡ false) × (holds x a ≡ false)
      parts = or_parts (n.serial == x) (holds x a) absent

      step : (t : Bool) → is_open x (n.serial ∷ open_from n.parent opened) ≡ t → spanned x (n.serial ∷ open_from n.parent opened) (a ++ c ∷ b) ≡ length a + suc (spanned x (c.serial ∷ open_from c.parent (opened_after (n.serial ∷ open_from n.parent opened) a)) b) → cond t (suc (spanned x (n.serial ∷ open_from n.parent opened) (a ++ c ∷ b))) 0 ≡ suc (length a) + suc (spanned x (c.serial ∷ open_from c.parent (opened_after (n.serial ∷ open_from n.parent opened) a)) b)
      step true e rest = omega (arith, rest)
      step false e rest =
          let there = (tree_parts (n.serial ∷ open_from n.parent opened) a (c ∷ b) tree.1).1 in
          let never : false ≡ true = sym (closed_after x (n.serial ∷ open_from n.parent opened) a e parts.1) ∙ ap (λ p. is_open p (opened_after (n.serial ∷ open_from n.parent opened) a)) (sym is) ∙ there.0 in
          cc

  -- where no child of x comes, x is open behind a node exactly where its child c is
  module _ (x c : Node) (known_x : node_at nodes x.serial ≡ Some x) (known_c : node_at nodes c.serial ≡ Some c) (child : c.parent ≡ x.serial) where
    line_c : serials (lineage nodes c.serial) ≡ c.serial ∷ x.serial ∷ serials (lineage nodes x.parent)
    line_c =
        open_self c known_c
        ∙ ap (λ p. c.serial ∷ serials (lineage nodes p)) child
        ∙ ap (λ xs. c.serial ∷ xs) (open_self x known_x)

    both : (opened : List ℕ) (t p : ℕ) → opened ≡ serials (lineage nodes t) → is_open c.serial opened ≡ true → is_open p opened ≡ true → p == x.serial ≡ false → is_open x.serial (open_from p opened) ≡ is_open c.serial (open_from p opened)
    both opened t p is top h apart = by_test (is_open c.serial (open_from p opened)) refl
      where
        line_p : open_from p opened ≡ serials (lineage nodes p)
        line_p = open_at opened t p is h

        -- p stands below x
        below : is_open c.serial (open_from p opened) ≡ false → is_open p (open_from c.serial opened) ≡ true → is_open x.serial (open_from p opened) ≡ false
        below none under =
            let among : is_open p (c.serial ∷ x.serial ∷ serials (lineage nodes x.parent)) ≡ true = ap (is_open p) (sym (open_at opened t c.serial is top ∙ line_c)) ∙ under in
            by_first (or_cases (c.serial == p) _ among)
          where
            by_second : (x.serial == p ≡ true) ⊎ (is_open p (serials (lineage nodes x.parent)) ≡ true) → is_open x.serial (open_from p opened) ≡ false
            by_second (inl d) = let never : true ≡ false = sym (eq-eqb p x.serial (sym (eqb-true x.serial p d))) ∙ apart in cc
            by_second (inr d) =
                ap (is_open x.serial) (line_p ∙ sym (open_at (serials (lineage nodes x.parent)) x.parent p refl d))
                ∙ closed_below x.serial p (serials (lineage nodes x.parent)) (not_above x known_x)

            by_first : (c.serial == p ≡ true) ⊎ (is_open p (x.serial ∷ serials (lineage nodes x.parent)) ≡ true) → is_open x.serial (open_from p opened) ≡ false
            by_first (inl d) =
                let never : false ≡ true = sym none ∙ ap (λ q. is_open c.serial (open_from q opened)) (sym (eqb-true c.serial p d)) ∙ open_own c.serial opened top in
                cc
            by_first (inr d) = by_second (or_cases (x.serial == p) _ d)

        by_test : (u : Bool) → is_open c.serial (open_from p opened) ≡ u → is_open x.serial (open_from p opened) ≡ u
        by_test true e =
            open_below x.serial c.serial (open_from p opened)
            (ap (is_open x.serial) (open_at (open_from p opened) p c.serial line_p e ∙ line_c) ∙ or_right (c.serial == x.serial) _ (ap (λ u. u || is_open x.serial (serials (lineage nodes x.parent))) (eq-eqb x.serial x.serial refl)))
        by_test false e = by_side (either_below c.serial p opened top h)
          where
            by_side : (is_open c.serial (open_from p opened) ≡ true) ⊎ (is_open p (open_from c.serial opened) ≡ true) → is_open x.serial (open_from p opened) ≡ false
            by_side (inl d) = let never : false ≡ true = sym e ∙ d in cc
            by_side (inr d) = below e d

    pub with_child : (opened : List ℕ) (t : ℕ) (ns : List Node) → opened ≡ serials (lineage nodes t) → Known ns → IsTreeFrom opened ns → is_open c.serial opened ≡ true → holds x.serial ns ≡ false → holds c.serial ns ≡ false → AllByRecursion (λ (n : Node). n.parent == x.serial ≡ false) ns → spanned x.serial opened ns ≡ spanned c.serial opened ns
    with_child opened t [] is known tree top no_x no_c others = refl
    with_child opened t (n ∷ ns) is known tree top no_x no_c others =
        step (is_open c.serial (n.serial ∷ open_from n.parent opened)) refl same (λ still. with_child (n.serial ∷ open_from n.parent opened) n.serial ns (open_next opened t n is known.0 tree.0) known.1 tree.1 still parts_x.1 parts_c.1 others.1)
      where
        parts_x : (n.serial == x.serial ≡ false) × (holds x.serial ns ≡ false)
        parts_x = or_parts (n.serial == x.serial) (holds x.serial ns) no_x

        parts_c : (n.serial == c.serial ≡ false) × (holds c.serial ns ≡ false)
        parts_c = or_parts (n.serial == c.serial) (holds c.serial ns) no_c

        same : is_open x.serial (n.serial ∷ open_from n.parent opened) ≡ is_open c.serial (n.serial ∷ open_from n.parent opened)
        same =
            ap (λ u. u || is_open x.serial (open_from n.parent opened)) parts_x.0
            ∙ both opened t n.parent is top tree.0 others.0
            ∙ sym (ap (λ u. u || is_open c.serial (open_from n.parent opened)) parts_c.0)

        step : (u : Bool) → is_open c.serial (n.serial ∷ open_from n.parent opened) ≡ u → is_open x.serial (n.serial ∷ open_from n.parent opened) ≡ is_open c.serial (n.serial ∷ open_from n.parent opened) → (is_open c.serial (n.serial ∷ open_from n.parent opened) ≡ true → spanned x.serial (n.serial ∷ open_from n.parent opened) ns ≡ spanned c.serial (n.serial ∷ open_from n.parent opened) ns) → spanned x.serial opened (n ∷ ns) ≡ spanned c.serial opened (n ∷ ns)
        step true e one rest =
            ap (λ u. cond u (suc (spanned x.serial (n.serial ∷ open_from n.parent opened) ns)) 0) (one ∙ e)
            ∙ ap suc (rest e)
            ∙ sym (ap (λ u. cond u (suc (spanned c.serial (n.serial ∷ open_from n.parent opened) ns)) 0) e)
        step false e one rest =
            ap (λ u. cond u (suc (spanned x.serial (n.serial ∷ open_from n.parent opened) ns)) 0) (one ∙ e)
            ∙ sym (ap (λ u. cond u (suc (spanned c.serial (n.serial ∷ open_from n.parent opened) ns)) 0) e)

  -- a node without children spans itself alone
  pub childless : (x : Node) → node_at nodes x.serial ≡ Some x → (ns : List Node) → IsTreeFrom (serials (lineage nodes x.serial)) ns → holds x.serial ns ≡ false → AllByRecursion (λ (n : Node). n.parent == x.serial ≡ false) ns → spanned x.serial (serials (lineage nodes x.serial)) ns ≡ 0
  childless x known [] tree absent others = refl
  childless x known (n ∷ ns) tree absent others =
      let parts = or_parts (n.serial == x.serial) (holds x.serial ns) absent in
      let shut : is_open x.serial (open_from n.parent (serials (lineage nodes x.serial))) ≡ false =
      ap (λ xs. is_open x.serial (open_from n.parent xs)) (open_self x known)
      ∙ ap (λ u. is_open x.serial (cond u (x.serial ∷ serials (lineage nodes x.parent)) (open_from n.parent (serials (lineage nodes x.parent))))) (swap_eqb n.parent x.serial others.0)
      ∙ closed_below x.serial n.parent (serials (lineage nodes x.parent)) (not_above x known) in
      ap (λ u. cond u (suc (spanned x.serial (n.serial ∷ open_from n.parent (serials (lineage nodes x.serial))) ns)) 0) (or_from _ _ parts.0 shut)

  -- ---- edits keep one tree

  -- what is open behind nodes is the lineage of the last of them
  pub open_after : (opened : List ℕ) (t : ℕ) (ns : List Node) → opened ≡ serials (lineage nodes t) → Known ns → IsTreeFrom opened ns → (u : ℕ) × (opened_after opened ns ≡ serials (lineage nodes u))
  open_after opened t [] is known tree = (t, is)
  open_after opened t (n ∷ ns) is known tree = open_after (n.serial ∷ open_from n.parent opened) n.serial ns (open_next opened t n is known.0 tree.0) known.1 tree.1

  -- the nodes behind a node's span stand where the node stood
  pub span_left_out : (x : ℕ) (before : List ℕ) (s : ℕ) (opened : List ℕ) (t : ℕ) (ns : List Node) → before ≡ serials (lineage nodes s) → ((p : ℕ) → is_open p (serials (lineage nodes x)) ≡ true → p == x ≡ false → is_open p before ≡ true) → opened ≡ serials (lineage nodes t) → is_open x opened ≡ true → Known ns → IsTreeFrom opened ns → IsTreeFrom before (drop (spanned x opened ns) ns)
  span_left_out x before s opened t [] at above is top known tree = tt
  span_left_out x before s opened t (n ∷ ns) at above is top known tree =
      step (is_open x (n.serial ∷ open_from n.parent opened)) refl (λ still. span_left_out x before s (n.serial ∷ open_from n.parent opened) n.serial ns at above (open_next opened t n is known.0 tree.0) still known.1 tree.1)
    where
      outside : is_open x (n.serial ∷ open_from n.parent opened) ≡ false → IsTreeFrom before (n ∷ ns)
      outside e = (up, subst (λ xs. IsTreeFrom (n.serial ∷ xs) ns) same tree.1)
        where
          shut : is_open x (open_from n.parent opened) ≡ false
          shut = (or_parts (n.serial == x) _ e).1

          apart : (u : Bool) → n.parent == x ≡ u → u ≡ false
          apart false d = refl
          apart true d = let never : false ≡ true = sym shut ∙ ap (λ p. is_open x (open_from p opened)) (eqb-true n.parent x d) ∙ open_own x opened top in cc

          by_side : (is_open x (open_from n.parent opened) ≡ true) ⊎ (is_open n.parent (open_from x opened) ≡ true) → is_open n.parent before ≡ true
          by_side (inl d) = let never : false ≡ true = sym shut ∙ d in cc
          by_side (inr d) = above n.parent (ap (is_open n.parent) (sym (open_at opened t x is top)) ∙ d) (apart (n.parent == x) refl)

          up : is_open n.parent before ≡ true
          up = by_side (either_below x n.parent opened top tree.0)

          same : open_from n.parent opened ≡ open_from n.parent before
          same = open_at opened t n.parent is tree.0 ∙ sym (open_at before s n.parent at up)

      step : (u : Bool) → is_open x (n.serial ∷ open_from n.parent opened) ≡ u → (is_open x (n.serial ∷ open_from n.parent opened) ≡ true → IsTreeFrom before (drop (spanned x (n.serial ∷ open_from n.parent opened) ns) ns)) → IsTreeFrom before (drop (cond u (suc (spanned x (n.serial ∷ open_from n.parent opened) ns)) 0) (n ∷ ns))
      step true e rest = rest e
      step false e rest = outside e

  -- a new node goes between where its parent is open and the next node's parent stays open
  put_between : (opened : List ℕ) (t : ℕ) (m b : Node) (bs : List Node) → opened ≡ serials (lineage nodes t) → IsTreeFrom opened (b ∷ bs) → is_open m.parent opened ≡ true → is_open b.parent (open_from m.parent opened) ≡ true → m.serial == b.parent ≡ false → IsTreeFrom opened (m ∷ b ∷ bs)
  put_between opened t m b bs is tree h next fresh =
      (h, (or_right (m.serial == b.parent) (is_open b.parent (open_from m.parent opened)) next, subst (λ xs. IsTreeFrom (b.serial ∷ xs) bs) (sym same) tree.1))
    where
      same : open_from b.parent (m.serial ∷ open_from m.parent opened) ≡ open_from b.parent opened
      same =
          ap (λ u. cond u (m.serial ∷ open_from m.parent opened) (open_from b.parent (open_from m.parent opened))) fresh
          ∙ open_at (open_from m.parent opened) m.parent b.parent (open_at opened t m.parent is h) next
          ∙ sym (open_at opened t b.parent is tree.0)

  -- before a child of its parent
  pub put_before : (opened : List ℕ) (t : ℕ) (m b : Node) (bs : List Node) → opened ≡ serials (lineage nodes t) → IsTreeFrom opened (b ∷ bs) → b.parent ≡ m.parent → m.serial == b.parent ≡ false → IsTreeFrom opened (m ∷ b ∷ bs)
  put_before opened t m b bs is tree child fresh =
      let h : is_open m.parent opened ≡ true = ap (λ p. is_open p opened) (sym child) ∙ tree.0 in
      put_between opened t m b bs is tree h (ap (λ p. is_open p (open_from m.parent opened)) child ∙ open_own m.parent opened h) fresh

  -- behind all that is within its parent
  pub put_behind : (m : Node) (opened : List ℕ) (t : ℕ) (ns : List Node) → opened ≡ serials (lineage nodes t) → Known ns → IsTreeFrom opened ns → is_open m.parent opened ≡ true → AllByRecursion (λ (n : Node). m.serial == n.parent ≡ false) ns → IsTreeFrom opened (take (spanned m.parent opened ns) ns ++ m ∷ drop (spanned m.parent opened ns) ns)
  put_behind m opened t [] is known tree h fresh = (h, tt)
  put_behind m opened t (n ∷ ns) is known tree h fresh =
      step (is_open m.parent (n.serial ∷ open_from n.parent opened)) refl (λ still. put_behind m (n.serial ∷ open_from n.parent opened) n.serial ns (open_next opened t n is known.0 tree.0) known.1 tree.1 still fresh.1)
    where
      by_side : is_open m.parent (n.serial ∷ open_from n.parent opened) ≡ false → (is_open m.parent (open_from n.parent opened) ≡ true) ⊎ (is_open n.parent (open_from m.parent opened) ≡ true) → is_open n.parent (open_from m.parent opened) ≡ true
      by_side e (inl d) = let never : false ≡ true = sym ((or_parts (n.serial == m.parent) _ e).1) ∙ d in cc
      by_side e (inr d) = d

      step : (u : Bool) → is_open m.parent (n.serial ∷ open_from n.parent opened) ≡ u → (is_open m.parent (n.serial ∷ open_from n.parent opened) ≡ true → IsTreeFrom (n.serial ∷ open_from n.parent opened) (take (spanned m.parent (n.serial ∷ open_from n.parent opened) ns) ns ++ m ∷ drop (spanned m.parent (n.serial ∷ open_from n.parent opened) ns) ns)) → IsTreeFrom opened (take (cond u (suc (spanned m.parent (n.serial ∷ open_from n.parent opened) ns)) 0) (n ∷ ns) ++ m ∷ drop (cond u (suc (spanned m.parent (n.serial ∷ open_from n.parent opened) ns)) 0) (n ∷ ns))
      step true e rest = (tree.0, rest e)
      step false e rest = put_between opened t m n ns is tree h (by_side e (either_below m.parent n.parent opened h tree.0)) fresh.0
