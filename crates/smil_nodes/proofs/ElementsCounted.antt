-- How many elements are taken in: at most as many as are reached, at least as many as pass a test that only these pass.
use Rattle.std.proofs.Common.{◌≡◌, refl, sym, ◌∙◌, ap, subst, ℕ, ◌≤◌, List, [], ◌∷◌, length, Some, Bool, true, false, inl, inr}
use Rattle.std.specs.Prelude.{cond, nat_eq, ◌==◌, ◌||◌, ◌⊎◌, filter}
use Rattle.std.specs.List.{AllByRecursion, IsDistinct, flat_map}
use Rattle.std.specs.Set.{is_member}
use Rattle.std.proofs.lemmas.Bool.{or_left, or_right, or_cases, eq-eqb, eqb-true}
use Rattle.std.proofs.lemmas.Cmp.{nat_eq_equiv}
use Rattle.std.proofs.lemmas.List.{length-map}
use Rattle.std.proofs.lemmas.List.Concat.{length-flat_map}
use Rattle.std.proofs.lemmas.List.Folds.{list_any-append}
use Rattle.std.proofs.lemmas.Map.Made.{length-le_from_is_member}
use Rattle.smil_model.specs.declared.diary.Entry.{Entry}
use Rattle.smil_model.specs.declared.diary.LogEntry.{LogEntry}
use Rattle.smil_model.specs.declared.document.Node.{Node}
use Rattle.smil_model.specs.document.Document.{elements, is_element, node_at, serials}
use Rattle.smil_model.specs.document.Valid as document
use Rattle.smil_model.specs.document.Closure.{has}
use Rattle.smil_model.specs.reach.Bounds.{reaches}
use Rattle.smil_model.specs.reach.Reach.{reach}
use Rattle.smil_laws.specs.Touched.{in_reaches}
use Rattle.smil_laws.proofs.ListMembers.{Differ, differ_all, differ_kept}
use Rattle.smil_cells.proofs.DistinctElements.{serials_differ}

-- a member by either of the two tests
member_has : (xs : List ℕ) (s : ℕ) → is_member nat_eq xs s ≡ has xs s
member_has [] s = refl
member_has (x ∷ xs) s = ap (λ t. t || is_member nat_eq xs s) (nat_eq_equiv.symm s x) ∙ ap (λ t. nat_eq x s || t) (member_has xs s)

-- a list of distinct serials, each of which another list has, is at most as long
pub at_most : (xs ys : List ℕ) → IsDistinct nat_eq xs → ((s : ℕ) → has xs s ≡ true → has ys s ≡ true) → length xs ≤ length ys
at_most xs ys distinct within = length-le_from_is_member nat_eq_equiv xs ys distinct (λ s q. member_has ys s ∙ within s (sym (member_has xs s) ∙ q))

-- ---- what the entries reach

reached_all : (nodes : List Node) (log : List LogEntry) (entries : List Entry) (s : ℕ) → in_reaches nodes log entries s ≡ true → has (flat_map (reach nodes log) entries) s ≡ true
reached_all nodes log [] s q = q
reached_all nodes log (y ∷ ys) s q =
    list_any-append (λ x. x == s) (reach nodes log y) (flat_map (reach nodes log) ys)
    ∙ by_case (or_cases (has (reach nodes log y) s) (in_reaches nodes log ys s) q) (reached_all nodes log ys s)
  where
    by_case : (has (reach nodes log y) s ≡ true) ⊎ (in_reaches nodes log ys s ≡ true) → (in_reaches nodes log ys s ≡ true → has (flat_map (reach nodes log) ys) s ≡ true) → (has (reach nodes log y) s || has (flat_map (reach nodes log) ys) s) ≡ true
    by_case (inl here) later = or_left _ _ here
    by_case (inr rest) later = or_right _ _ (later rest)

-- distinct serials that are all in the reach of one of the entries are at most as many as the reaches have in all
pub within_reaches : (nodes : List Node) (log : List LogEntry) (entries : List Entry) (taken : List ℕ) → IsDistinct nat_eq taken → ((s : ℕ) → has taken s ≡ true → in_reaches nodes log entries s ≡ true) → length taken ≤ reaches nodes log entries
within_reaches nodes log entries taken distinct reached =
    subst (λ n. length taken ≤ n) (length-flat_map (reach nodes log) entries)
    (at_most taken (flat_map (reach nodes log) entries) distinct (λ s q. reached_all nodes log entries s (reached s q)))

-- ---- the elements that pass a test

-- a serial among those of the nodes that pass is that of a node that passes and is found
passing_found : (test : Node → Bool) (ns : List Node) (s : ℕ) → Differ ns → has (serials (filter test ns)) s ≡ true → (e : Node) × (node_at ns e.serial ≡ Some e) × (test e ≡ true) × (e.serial ≡ s)
passing_found test [] s d q = cc
passing_found test (n ∷ ns) s d q = step (test n) refl q (passing_found test ns s d.1)
  where
    Found : Type 0
    Found = (e : Node) × (node_at (n ∷ ns) e.serial ≡ Some e) × (test e ≡ true) × (e.serial ≡ s)

    here : test n ≡ true → n.serial ≡ s → Found
    here t e = (n, ap (λ b. cond b (Some n) (node_at ns n.serial)) (eq-eqb n.serial n.serial refl), t, e)

    apart : (ms : List Node) (e : Node) → AllByRecursion (λ (m : Node). m.serial == n.serial ≡ false) ms → node_at ms e.serial ≡ Some e → n.serial == e.serial ≡ false
    apart [] e all at = cc
    apart (m ∷ ms) e all at = by_test (m.serial == e.serial) refl at (apart ms e all.1)
      where
        by_test : (b : Bool) → m.serial == e.serial ≡ b → cond b (Some m) (node_at ms e.serial) ≡ Some e → (node_at ms e.serial ≡ Some e → n.serial == e.serial ≡ false) → n.serial == e.serial ≡ false
        by_test true t r later =
            nat_eq_equiv.symm n.serial e.serial ∙ ap (λ k. k == n.serial) (sym (eqb-true m.serial e.serial t)) ∙ all.0
        by_test false t r later = later r

    later_found : ((e : Node) × (node_at ns e.serial ≡ Some e) × (test e ≡ true) × (e.serial ≡ s)) → Found
    later_found found =
        (found.0, ap (λ b. cond b (Some n) (node_at ns found.0.serial)) (apart ns found.0 d.0 found.1) ∙ found.1, found.2, found.3)

    step : (b : Bool) → test n ≡ b → has (serials (cond b (n ∷ filter test ns) (filter test ns))) s ≡ true → (has (serials (filter test ns)) s ≡ true → (e : Node) × (node_at ns e.serial ≡ Some e) × (test e ≡ true) × (e.serial ≡ s)) → Found
    step false t r later = later_found (later r)
    step true t r later = by_case (or_cases (n.serial == s) (has (serials (filter test ns)) s) r)
      where
        by_case : (n.serial == s ≡ true) ⊎ (has (serials (filter test ns)) s ≡ true) → Found
        by_case (inl e) = here t (eqb-true n.serial s e)
        by_case (inr e) = later_found (later e)

-- where each element that passes is taken, at most as many pass as are taken
pub passing_within : (nodes : List Node) (test : Node → Bool) (taken : List ℕ) → document.IsDistinct nodes → ((e : Node) → node_at (elements nodes) e.serial ≡ Some e → test e ≡ true → has taken e.serial ≡ true) → length (filter test (elements nodes)) ≤ length taken
passing_within nodes test taken distinct each =
    subst (λ n. n ≤ length taken) (length-map (filter test (elements nodes)) (λ (n : Node). n.serial))
    (at_most (serials (filter test (elements nodes))) taken (serials_differ (filter test (elements nodes)) (differ_kept test (elements nodes) differ)) passes)
  where
    differ : Differ (elements nodes)
    differ = differ_kept is_element nodes (differ_all nodes distinct)

    passes : (s : ℕ) → has (serials (filter test (elements nodes))) s ≡ true → has taken s ≡ true
    passes s q =
        let found = passing_found test (elements nodes) s differ q in
        subst (λ k. has taken k ≡ true) found.3 (each found.0 found.1 found.2)
