-- Which node has an id, where no two have one.
use Rattle.std.proofs.Common.{◌≡◌, refl, sym, ◌∙◌, ap, ℕ, ◌+◌, ◌≤◌, List, [], ◌∷◌, ◌++◌, Some, None, Bool, true, false, cond, arith}
use Rattle.std.specs.Prelude.{◌==◌, ◌&&◌, ◌||◌, not, find, count_by, sum_by, option_map}
use Rattle.std.specs.List.{list_any}
use Rattle.std.proofs.lemmas.List.Sums.{sum_by-cons, sum_by-append}
use Rattle.std.proofs.lemmas.Bool.{and_right, or_parts, or_from, eqb-true}
use Rattle.smil_model.specs.declared.document.Node.{Node}
use Rattle.smil_model.specs.declared.document.Attrs.{Attrs}
use Rattle.smil_model.specs.document.Document.{node_at}
use Rattle.smil_model.specs.document.Valid.{IsDistinct, is_id_taken, is_other_with}
use Rattle.smil_model.specs.document.Edits.{changed_at}
use Rattle.smil_tree.specs.TreeFields.{bears, owner, is_other}
use Rattle.smil_tree.specs.Places.{with_attrs}

-- ---- counts

pub count-cons : (q : List ℕ) (n : Node) (ns : List Node) → count_by (bears q) (n ∷ ns) ≡ cond (bears q n) 1 0 + count_by (bears q) ns
count-cons q n ns = sum_by-cons (λ (m : Node). cond (bears q m) 1 0) n ns

at_most : (q : List ℕ) (n : Node) (ns : List Node) (k : ℕ) → count_by (bears q) (n ∷ ns) ≤ k → cond (bears q n) 1 0 + count_by (bears q) ns ≤ k
at_most q n ns k h = omega (arith, h, count-cons q n ns)

pub count-append : (q : List ℕ) (a b : List Node) → count_by (bears q) (a ++ b) ≡ count_by (bears q) a + count_by (bears q) b
count-append q a b = sum_by-append (λ (m : Node). cond (bears q m) 1 0) a b

-- a sum over nodes by one of them
pub sum-one : (f : Node → ℕ) (a : List Node) (n : Node) (b : List Node) → sum_by f (a ++ n ∷ b) ≡ sum_by f a + (f n + sum_by f b)
sum-one f a n b = sum_by-append f a (n ∷ b) ∙ ap (λ k. sum_by f a + k) (sum_by-cons f n b)

pub count-one : (q : List ℕ) (a : List Node) (n : Node) (b : List Node) → count_by (bears q) (a ++ n ∷ b) ≡ count_by (bears q) a + (cond (bears q n) 1 0 + count_by (bears q) b)
count-one q a n b = sum-one (λ (m : Node). cond (bears q m) 1 0) a n b

borne : (q : List ℕ) (n : Node) (t : Bool) → bears q n ≡ t → ◌≡◌ {A = ℕ} (cond (bears q n) 1 0) (cond t 1 0)
borne q n t e = ap (λ u. cond u 1 0) e

-- nobody bears an id of which there is none
pub no_owner : (q : List ℕ) (ns : List Node) → count_by (bears q) ns ≤ 0 → owner q ns ≡ None
no_owner q [] none = refl
no_owner q (n ∷ ns) none = step (bears q n) (at_most q n ns 0 none) (no_owner q ns)
  where
    step : (t : Bool) → cond t 1 0 + count_by (bears q) ns ≤ 0 → (count_by (bears q) ns ≤ 0 → owner q ns ≡ None) → option_map (λ (m : Node). m.serial) (cond t (Some n) (find (bears q) ns)) ≡ None
    step true h rest = absurd (omega (arith, h))
    step false h rest = rest (omega (arith, h))

-- ---- one more node

-- a node between two lists in which nobody has its ids
pub owner-between : (q : List ℕ) (a : List Node) (n : Node) (b : List Node) → count_by (bears q) (a ++ n ∷ b) ≤ 1 → owner q (a ++ n ∷ b) ≡ cond (bears q n) (Some n.serial) (owner q (a ++ b))
owner-between q [] n b once = step (bears q n)
  where
    step : (t : Bool) → option_map (λ (m : Node). m.serial) (cond t (Some n) (find (bears q) b)) ≡ cond t (Some n.serial) (owner q b)
    step true = refl
    step false = refl
owner-between q (m ∷ a) n b once = step (bears q m) (bears q n) refl (at_most q m (a ++ n ∷ b) 1 once) (owner-between q a n b)
  where
    step : (t u : Bool) → bears q n ≡ u → cond t 1 0 + count_by (bears q) (a ++ n ∷ b) ≤ 1 → (count_by (bears q) (a ++ n ∷ b) ≤ 1 → owner q (a ++ n ∷ b) ≡ cond (bears q n) (Some n.serial) (owner q (a ++ b))) → option_map (λ (x : Node). x.serial) (cond t (Some m) (find (bears q) (a ++ n ∷ b))) ≡ cond u (Some n.serial) (option_map (λ (x : Node). x.serial) (cond t (Some m) (find (bears q) (a ++ b))))
    step true true e h rest = absurd (omega (arith, h, borne q n true e, count-one q a n b))
    step true false e h rest = refl
    step false u e h rest = rest (omega (arith, h)) ∙ ap (λ t. cond t (Some n.serial) (owner q (a ++ b))) e

-- and without it nobody has its ids
pub owner-without : (q : List ℕ) (a : List Node) (n : Node) (b : List Node) → count_by (bears q) (a ++ n ∷ b) ≤ 1 → owner q (a ++ b) ≡ cond (bears q n) None (owner q (a ++ n ∷ b))
owner-without q a n b once = by (bears q n) refl
  where
    by : (t : Bool) → bears q n ≡ t → owner q (a ++ b) ≡ cond t None (owner q (a ++ n ∷ b))
    by true e = no_owner q (a ++ b) (omega (arith, once, borne q n true e, count-append q a b, count-one q a n b))
    by false e = sym (owner-between q a n b once ∙ ap (λ t. cond t (Some n.serial) (owner q (a ++ b))) e)

-- ---- whether an id is taken

none_taken : (q : List ℕ) (s : ℕ) (ns : List Node) → count_by (bears q) ns ≤ 0 → list_any (is_other_with s q) ns ≡ false
none_taken q s [] none = refl
none_taken q s (n ∷ ns) none = step (bears q n) (at_most q n ns 0 none) (none_taken q s ns)
  where
    step : (t : Bool) → cond t 1 0 + count_by (bears q) ns ≤ 0 → (count_by (bears q) ns ≤ 0 → list_any (is_other_with s q) ns ≡ false) → ((not (n.serial == s) && t) || list_any (is_other_with s q) ns) ≡ false
    step true h rest = absurd (omega (arith, h))
    step false h rest = or_from _ _ (and_right (not (n.serial == s)) false refl) (rest (omega (arith, h)))

pub taken : (q : List ℕ) (s : ℕ) (ns : List Node) → count_by (bears q) ns ≤ 1 → is_id_taken ns s (Some q) ≡ is_other s (owner q ns)
taken q s [] once = refl
taken q s (n ∷ ns) once = step (bears q n) (at_most q n ns 1 once) (taken q s ns)
  where
    step : (t : Bool) → cond t 1 0 + count_by (bears q) ns ≤ 1 → (count_by (bears q) ns ≤ 1 → list_any (is_other_with s q) ns ≡ is_other s (owner q ns)) → ((not (n.serial == s) && t) || list_any (is_other_with s q) ns) ≡ is_other s (option_map (λ (m : Node). m.serial) (cond t (Some n) (find (bears q) ns)))
    step true h rest = ap (λ r. (not (n.serial == s) && true) || r) (none_taken q s ns (omega (arith, h))) ∙ plain (n.serial == s)
      where
        plain : (b : Bool) → ((not b && true) || false) ≡ not b
        plain true = refl
        plain false = refl
    step false h rest = ap (λ r. r || list_any (is_other_with s q) ns) (and_right (not (n.serial == s)) false refl) ∙ rest (omega (arith, h))

-- ---- a node changed in place

-- the count and the sum over nodes of which one is changed
module _ (change : Attrs → Attrs) (s : ℕ) where
  -- where no node has the serial, nothing changes
  pub unchanged : (ns : List Node) → list_any (λ (m : Node). m.serial == s) ns ≡ false → changed_at change s ns ≡ ns
  unchanged [] none = refl
  unchanged (n ∷ ns) none =
      let parts = or_parts (n.serial == s) (list_any (λ (m : Node). m.serial == s) ns) none in
      ap (λ t. cond t (with_attrs change n) n ∷ changed_at change s ns) parts.0 ∙ ap (λ ms. n ∷ ms) (unchanged ns parts.1)

  -- the list before the node, and the list behind it
  pub record Around (ns : List Node) (old : Node) : Type 0 where
    pub front : List Node
    pub back : List Node
    pub before : ns ≡ front ++ old ∷ back
    pub after : changed_at change s ns ≡ front ++ with_attrs change old ∷ back
    pub others : list_any (λ (m : Node). m.serial == s) (front ++ back) ≡ false

  pub around : (ns : List Node) (old : Node) → IsDistinct ns → node_at ns s ≡ Some old → Around ns old
  around [] old d at = cc
  around (n ∷ ns) old d at = step (n.serial == s) refl at (around ns old d.1)
    where
      step : (t : Bool) → n.serial == s ≡ t → cond t (Some n) (node_at ns s) ≡ Some old → (node_at ns s ≡ Some old → Around ns old) → Around (n ∷ ns) old
      step true e r rest =
          let one : n ≡ old = cc in
          let none : list_any (λ (m : Node). m.serial == s) ns ≡ false = ap (λ x. list_any (λ (m : Node). m.serial == x) ns) (sym (eqb-true n.serial s e)) ∙ d.0 in
          record {
            front = [];
            back = ns;
            before = ap (λ m. m ∷ ns) one;
            after = ap (λ t. cond t (with_attrs change n) n ∷ changed_at change s ns) e ∙ ap (λ m. with_attrs change m ∷ changed_at change s ns) one ∙ ap (λ ms. with_attrs change old ∷ ms) (unchanged ns none);
            others = none;
          }
      step false e r rest =
          let a = rest r in
          record {
            front = n ∷ a.front;
            back = a.back;
            before = ap (λ ms. n ∷ ms) a.before;
            after = ap (λ t. cond t (with_attrs change n) n ∷ changed_at change s ns) e ∙ ap (λ ms. n ∷ ms) a.after;
            others = or_from _ _ e a.others;
          }

-- a node owns its id
pub owned : (s : ℕ) (nodes : List Node) (old : Node) → IsDistinct nodes → node_at nodes s ≡ Some old → ((q : List ℕ) → count_by (bears q) nodes ≤ 1) → (q : List ℕ) → bears q old ≡ true → owner q nodes ≡ Some old.serial
owned s nodes old d at once q own =
    let a = around (λ attrs. attrs) s nodes old d at in
    ap (owner q) a.before
    ∙ owner-between q a.front old a.back (omega (arith, once q, ap (count_by (bears q)) a.before))
    ∙ ap (λ t. cond t (Some old.serial) (owner q (a.front ++ a.back))) own
