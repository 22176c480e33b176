-- Entries that do not list an element act on nothing above it, nor on a time child that it follows from.
use Rattle.std.proofs.Common.{◌≡◌, refl, sym, ◌∙◌, ap, subst, ℕ, List, [], ◌∷◌, Option, Some, None, Bool, true, false, inl, inr}
use Rattle.std.specs.Prelude.{◌&&◌, ◌||◌, ◌==◌, ◌⊎◌, cond, is_some, not}
use Rattle.std.specs.List.{list_any}
use Rattle.std.proofs.lemmas.Bool.{and_from, and_parts, eq-eqb, eqb-true, or_cases, or_left, or_parts, or_right}
use Rattle.smil_model.specs.declared.diary.Entry.{Entry}
use Rattle.smil_model.specs.declared.diary.LogEntry.{LogEntry}
use Rattle.smil_model.specs.declared.diary.Step.{Step}
use Rattle.smil_model.specs.declared.diary.Step.TheVariants.{Began, Repeated, Ended, Cut, Paused, Resumed, Deferred, Passed, Logged}
use Rattle.smil_model.specs.declared.document.Node.{Node}
use Rattle.smil_model.specs.declared.interval.Interval.{Interval}
use Rattle.smil_model.specs.document.Dependencies.{has_implicit_duration}
use Rattle.smil_model.specs.document.Document.{elements, has_serial, is_below, is_element, is_time_child, is_within, node_at, time_parent}
use Rattle.smil_model.specs.document.Valid.{IsDistinct}
use Rattle.smil_model.specs.reach.Reach.{key_of, reads, reads_node, subject_of}
use Rattle.smil_laws.specs.Touched.{is_touched, is_touched_by, is_touched_from, is_touched_through}
use Rattle.smil_laws.proofs.ReachClosed.{found_any}
use Rattle.smil_concern_laws.specs.Concerned.{follows, is_concerned_by, is_concerned_through}
use Rattle.smil_concern_laws.proofs.ConcernedTouched.{concerned_touched}
use Rattle.smil_past.proofs.ElementPlaces.{parent_found}
use Rattle.smil_past.proofs.KnownNodes.{known_node}
use Rattle.smil_graph.proofs.GraphAnswers.{element_at, only_element}
use Rattle.smil_laws.proofs.RoundsRest.{find-serial}
use Rattle.smil_cells.specs.Evaluated.{acts_on, ends_at, is_container, is_container_of, is_moved_container, is_noted_at, is_noted_by, may_end}
use Rattle.smil_nodes.proofs.EndsStay.{NoneEnds, is_acted_by, is_acted_on}
use Rattle.smil_nodes.proofs.RanksListed.{acted_noted, any_known, own_or_below}

-- ---- the container of an element

-- its duration follows from the element
pub record IsContainer (nodes : List Node) (x s : ℕ) : Type 0 where
  pub node : Node
  pub own : node.serial ≡ s
  pub above : time_parent nodes x ≡ Some node
  pub found : node_at (elements nodes) node.serial ≡ Some node
  pub implicit : has_implicit_duration node ≡ true
  pub fed : list_any (λ (c : Node). (c.serial == x) && is_time_child nodes node.serial c) nodes ≡ true

-- an element is among the time children of its time parent
pub child_fed : (nodes : List Node) → IsDistinct nodes → (x parent : ℕ) → is_some (node_at (elements nodes) x) ≡ true → has_serial parent (time_parent nodes x) ≡ true → list_any (λ (c : Node). (c.serial == x) && is_time_child nodes parent c) nodes ≡ true
child_fed nodes distinct x parent known under = by_node (node_at nodes x) refl (ap is_some (sym (element_at nodes x distinct)) ∙ known)
  where
    by_kind : (n : Node) → node_at nodes x ≡ Some n → (t : Bool) → is_element n ≡ t → is_some (cond t (Some n) None) ≡ true → list_any (λ (c : Node). (c.serial == x) && is_time_child nodes parent c) nodes ≡ true
    by_kind n at true q r = found_any x (is_time_child nodes parent) nodes n at (and_from _ _ q (ap (λ w. has_serial parent (time_parent nodes w)) (find-serial x nodes n at) ∙ under))
    by_kind n at false q r = cc

    by_node : (o : Option Node) → node_at nodes x ≡ o → is_some (only_element o) ≡ true → list_any (λ (c : Node). (c.serial == x) && is_time_child nodes parent c) nodes ≡ true
    by_node None at r = cc
    by_node (Some n) at r = by_kind n at (is_element n) refl r

pub container_is : (nodes : List Node) → IsDistinct nodes → (x s : ℕ) → is_some (node_at (elements nodes) x) ≡ true → is_container (time_parent nodes x) s ≡ true → IsContainer nodes x s
container_is nodes distinct x s known q = by (time_parent nodes x) refl q
  where
    by : (o : Option Node) → time_parent nodes x ≡ o → is_container o s ≡ true → IsContainer nodes x s
    by None at r = cc
    by (Some p) at r =
        let parts = and_parts (p.serial == s) (has_implicit_duration p) r in
        record {
          node = p;
          own = eqb-true p.serial s parts.0;
          above = at;
          found = parent_found nodes x p distinct (known_node nodes x known) at;
          implicit = parts.1;
          fed = child_fed nodes distinct x p.serial known (ap (has_serial p.serial) at ∙ eq-eqb p.serial p.serial refl);
        }

module _ (nodes : List Node) (distinct : IsDistinct nodes) (log : List LogEntry) (before : ℕ → Option Interval) where
  abbrev reads_below : ℕ → ℕ → Bool
  reads_below x s = list_any (λ (b : Node). is_below nodes x b.serial && reads nodes b.serial s) (elements nodes)

  abbrev is_mover : ℕ → Step → ℕ → Bool
  is_mover x step s = list_any (λ (e : Node). (e.serial == s) && follows nodes x step e) (elements nodes)

  -- ---- an element

  -- one entry that does not list an element acts on nothing that it is within
  unnoted_apart : (s : ℕ) (y : Entry) → is_noted_at nodes log before s y ≡ false → is_acted_on nodes (acts_on y.step) s ≡ false
  unnoted_apart s y free = by (acts_on y.step) refl
    where
      parts : (a b c d e : Bool) → (a && (((b || c) || d) || e)) ≡ false → a && b ≡ false
      parts true true c d e q = cc
      parts true false c d e q = refl
      parts false b c d e q = refl

      by : (o : Option ℕ) → acts_on y.step ≡ o → is_acted_on nodes o s ≡ false
      by None on = refl
      by (Some x) on = parts (is_some (node_at (elements nodes) x)) (is_within nodes x s) (reads_below x s) (is_mover x y.step s) (is_moved_container nodes before y.step x s) (sym (acted_noted nodes log before x s y.step on) ∙ free)

  pub unnoted_apart_all : (s : ℕ) (ys : List Entry) → is_noted_by nodes log before ys s ≡ false → is_acted_by nodes ys s ≡ false
  unnoted_apart_all s [] free = refl
  unnoted_apart_all s (y ∷ ys) free =
      let both = or_parts (is_noted_at nodes log before s y) (is_noted_by nodes log before ys s) free in
      ap (λ t. t || is_acted_by nodes ys s) (unnoted_apart s y both.0) ∙ unnoted_apart_all s ys both.1

  -- and does not concern it
  pub unconcerned : (s : ℕ) (ys : List Entry) → is_noted_by nodes log before ys s ≡ false → is_concerned_by nodes log ys s ≡ false
  unconcerned s [] free = refl
  unconcerned s (y ∷ ys) free =
      let both = or_parts (is_noted_at nodes log before s y) (is_noted_by nodes log before ys s) free in
      ap (λ t. t || is_concerned_by nodes log ys s) (or_parts _ _ both.0).0 ∙ unconcerned s ys both.1

  -- ---- its time children

  module _ (e : Node) (here : node_at (elements nodes) e.serial ≡ Some e) (implicit : has_implicit_duration e ≡ true) (s : ℕ) (known : is_some (node_at (elements nodes) s) ≡ true) (under : has_serial e.serial (time_parent nodes s) ≡ true) (fed : list_any (λ (c : Node). (c.serial == s) && is_time_child nodes e.serial c) nodes ≡ true) where
    child_read : reads nodes s e.serial ≡ true
    child_read = found_any e.serial (reads_node nodes s) (elements nodes) e here (or_left _ _ (or_left _ _ (or_left _ _ (and_from _ _ implicit fed))))

    held : is_container (time_parent nodes s) e.serial ≡ true
    held = by (time_parent nodes s) refl under
      where
        by : (o : Option Node) → time_parent nodes s ≡ o → has_serial e.serial o ≡ true → is_container o e.serial ≡ true
        by None at q = cc
        by (Some p) at q =
            let found = parent_found nodes s p distinct (known_node nodes s known) at in
            let both : Some p ≡ Some e = sym found ∙ ap (node_at (elements nodes)) (eqb-true p.serial e.serial q) ∙ here in
            let one : p ≡ e = cc in
            and_from _ _ q (ap has_implicit_duration one ∙ implicit)

    -- one entry that does not list the element acts on nothing that the child is within, or on the
    -- child without changing its ends
    unnoted_child : (y : Entry) → is_noted_at nodes log before e.serial y ≡ false → (is_acted_on nodes (acts_on y.step) s ≡ false) ⊎ ((acts_on y.step ≡ Some s) × (may_end before y.step s ≡ false))
    unnoted_child y free = by (acts_on y.step) refl
      where
        listed : (a b c d f : Bool) → (a && (((b || c) || d) || f)) ≡ false → a ≡ true → (c ≡ false) × (f ≡ false)
        listed true true c d f q r = cc
        listed true false true d f q r = cc
        listed true false false true f q r = cc
        listed true false false false f q r = (refl, q)
        listed false b c d f q r = cc

        none_ends : (a c : Bool) → (a && c) ≡ false → c ≡ true → a ≡ false
        none_ends true true q r = cc
        none_ends false true q r = refl
        none_ends a false q r = cc

        by_case : (x : ℕ) → acts_on y.step ≡ Some x → (reads_below x e.serial ≡ false) × (is_moved_container nodes before y.step x e.serial ≡ false) → (s == x ≡ true) ⊎ (is_below nodes x s ≡ true) → (acts_on y.step ≡ Some s) × (may_end before y.step s ≡ false)
        by_case x on out (inl own) =
            let one : s ≡ x = eqb-true s x own in
            (on ∙ ap Some (sym one), none_ends (may_end before y.step s) (is_container (time_parent nodes s) e.serial) (ap (λ z. is_moved_container nodes before y.step z e.serial) one ∙ out.1) held)
        by_case x on out (inr below) =
            let never : false ≡ true =
            sym out.0
            ∙ any_known (λ (b : Node). is_below nodes x b.serial && reads nodes b.serial e.serial) (elements nodes) s known
            (λ n same. and_from _ _ (ap (is_below nodes x) same ∙ below) (ap (λ z. reads nodes z e.serial) same ∙ child_read)) in
            cc

        by_within : (x : ℕ) → acts_on y.step ≡ Some x → is_some (node_at (elements nodes) x) ≡ true → (w : Bool) → is_within nodes x s ≡ w → (w ≡ false) ⊎ ((Some x ≡ Some s) × (may_end before y.step s ≡ false))
        by_within x on found false q = inl refl
        by_within x on found true q =
            let out = listed (is_some (node_at (elements nodes) x)) (is_within nodes x e.serial) (reads_below x e.serial) (is_mover x y.step e.serial) (is_moved_container nodes before y.step x e.serial) (sym (acted_noted nodes log before x e.serial y.step on) ∙ free) found in
            let own = by_case x on out (or_cases (s == x) (is_below nodes x s) (sym (own_or_below nodes distinct x s (known_node nodes s known)) ∙ q)) in
            inr (sym on ∙ own.0, own.1)

        by : (o : Option ℕ) → acts_on y.step ≡ o → (is_acted_on nodes o s ≡ false) ⊎ ((o ≡ Some s) × (may_end before y.step s ≡ false))
        by None on = inl refl
        by (Some x) on = by_found (is_some (node_at (elements nodes) x)) refl
          where
            by_found : (t : Bool) → is_some (node_at (elements nodes) x) ≡ t → ((t && is_within nodes x s) ≡ false) ⊎ ((Some x ≡ Some s) × (may_end before y.step s ≡ false))
            by_found true found = by_within x on found (is_within nodes x s) refl
            by_found false found = inl refl

    -- where the child had no interval, nothing acts on what it is within
    pub unnoted_child_all : (ys : List Entry) → before s ≡ None → is_noted_by nodes log before ys e.serial ≡ false → is_acted_by nodes ys s ≡ false
    unnoted_child_all [] none free = refl
    unnoted_child_all (y ∷ ys) none free =
        let both = or_parts (is_noted_at nodes log before e.serial y) (is_noted_by nodes log before ys e.serial) free in
        ap (λ t. t || is_acted_by nodes ys s) (apart (unnoted_child y both.0)) ∙ unnoted_child_all ys none both.1
      where
        none_may_end : (step : Step) → may_end before step s ≡ true
        none_may_end (Ended who end') = ap (λ o. not (ends_at end' o)) none
        none_may_end (Cut who) = refl
        none_may_end _ = ap (λ o. not (is_some o)) none

        apart : (is_acted_on nodes (acts_on y.step) s ≡ false) ⊎ ((acts_on y.step ≡ Some s) × (may_end before y.step s ≡ false)) → is_acted_on nodes (acts_on y.step) s ≡ false
        apart (inl q) = q
        apart (inr own) = let never : true ≡ false = sym (none_may_end y.step) ∙ own.1 in cc

    -- where it had one, nothing changes its ends
    pub unended_child_all : (ys : List Entry) → is_noted_by nodes log before ys e.serial ≡ false → NoneEnds nodes before s ys
    unended_child_all [] free = tt
    unended_child_all (y ∷ ys) free =
        let both = or_parts (is_noted_at nodes log before e.serial y) (is_noted_by nodes log before ys e.serial) free in
        (unnoted_child y both.0, unended_child_all ys both.1)

  -- ---- all that is listed

  -- is touched
  acted_touched : (x s : ℕ) (step : Step) → acts_on step ≡ Some x → is_touched_through nodes (key_of log step) (subject_of log step) s ≡ is_touched_from nodes (Some x) s
  acted_touched x s (Began who begin) on = let one : who ≡ x = cc in ap (λ z. is_touched_from nodes (Some z) s) one
  acted_touched x s (Repeated who start) on = let one : who ≡ x = cc in ap (λ z. is_touched_from nodes (Some z) s) one
  acted_touched x s (Ended who end') on = let one : who ≡ x = cc in ap (λ z. is_touched_from nodes (Some z) s) one
  acted_touched x s (Cut who) on = let one : who ≡ x = cc in ap (λ z. is_touched_from nodes (Some z) s) one
  acted_touched x s (Paused who) on = let one : who ≡ x = cc in ap (λ z. is_touched_from nodes (Some z) s) one
  acted_touched x s (Resumed who) on = let one : who ≡ x = cc in ap (λ z. is_touched_from nodes (Some z) s) one
  acted_touched x s (Deferred who begin) on = let one : who ≡ x = cc in ap (λ z. is_touched_from nodes (Some z) s) one
  acted_touched x s (Passed who begin) on = let one : who ≡ x = cc in ap (λ z. is_touched_from nodes (Some z) s) one
  acted_touched x s (Logged place) on = cc

  container_touched : (x s : ℕ) → is_some (node_at (elements nodes) x) ≡ true → is_container (time_parent nodes x) s ≡ true → is_touched nodes x s ≡ true
  container_touched x s known q =
      let holds = container_is nodes distinct x s known q in
      let p = holds.node in
      let reading : reads nodes x s ≡ true = subst (λ z. reads nodes x z ≡ true) holds.own (found_any p.serial (reads_node nodes x) (elements nodes) p holds.found (or_left _ _ (or_left _ _ (or_left _ _ (and_from _ _ holds.implicit holds.fed))))) in
      let within : is_within nodes x x ≡ true = own_or_below nodes distinct x x (known_node nodes x known) ∙ or_left _ _ (eq-eqb x x refl) in
      or_right _ _ (any_known (λ (b : Node). is_within nodes x b.serial && reads nodes b.serial s) (elements nodes) x known (λ m same. and_from _ _ (ap (is_within nodes x) same ∙ within) (ap (λ z. reads nodes z s) same ∙ reading)))

  one_touched : (s : ℕ) (y : Entry) → is_noted_at nodes log before s y ≡ true → is_touched_through nodes (key_of log y.step) (subject_of log y.step) s ≡ true
  one_touched s y q = by_case (or_cases (is_concerned_through nodes log (key_of log y.step) (subject_of log y.step) y.step s) (is_container_of nodes before y.step (acts_on y.step) s) q)
    where
      alone : (a : Bool) → (a || false) ≡ true → a ≡ true
      alone true r = refl
      alone false r = r

      by_container : (o : Option ℕ) → acts_on y.step ≡ o → is_container_of nodes before y.step o s ≡ true → is_touched_through nodes (key_of log y.step) (subject_of log y.step) s ≡ true
      by_container None on r = cc
      by_container (Some x) on r =
          let parts = and_parts (is_some (node_at (elements nodes) x)) (is_moved_container nodes before y.step x s) r in
          acted_touched x s y.step on ∙ and_from _ _ parts.0 (container_touched x s parts.0 (and_parts (may_end before y.step x) (is_container (time_parent nodes x) s) parts.1).1)

      by_case : (is_concerned_through nodes log (key_of log y.step) (subject_of log y.step) y.step s ≡ true) ⊎ (is_container_of nodes before y.step (acts_on y.step) s ≡ true) → is_touched_through nodes (key_of log y.step) (subject_of log y.step) s ≡ true
      by_case (inl concerned) = alone _ (concerned_touched nodes log (y ∷ []) s (or_left _ _ concerned))
      by_case (inr container) = by_container (acts_on y.step) refl container

  pub noted_touched : (s : ℕ) (ys : List Entry) → is_noted_by nodes log before ys s ≡ true → is_touched_by nodes log ys s ≡ true
  noted_touched s [] q = cc
  noted_touched s (y ∷ ys) q = by_case (or_cases (is_noted_at nodes log before s y) (is_noted_by nodes log before ys s) q) (noted_touched s ys)
    where
      by_case : (is_noted_at nodes log before s y ≡ true) ⊎ (is_noted_by nodes log before ys s ≡ true) → (is_noted_by nodes log before ys s ≡ true → is_touched_by nodes log ys s ≡ true) → is_touched_by nodes log (y ∷ ys) s ≡ true
      by_case (inl here) rest = or_left _ _ (one_touched s y here)
      by_case (inr later) rest = or_right _ _ (rest later)
