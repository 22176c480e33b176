-- Only elements whose views entries may change are put in.
use Rattle.std.proofs.Common.{◌≡◌, refl, sym, ◌∙◌, ap, subst, ℕ, zero, suc, ◌+◌, ◌-◌, ◌<◌, ◌≤◌, List, [], ◌∷◌, ◌++◌, Option, Some, None, ℤ, Bool, true, false, inl, inr, arith, length, take, drop, filter, get_or, eq-eqb, eqb-true}
use Rattle.std.proofs.Math.Seq.{take-append_seam}
use Rattle.std.specs.Prelude.{◌⊎◌, ◌||◌, ◌==◌, cond, is_some, pos, nat_abs, slice_get, slice_range}
use Rattle.std.specs.List.{position}
use Rattle.std.proofs.lemmas.Bool.{or_cases, or_left, or_right}
use Rattle.std.proofs.lemmas.Option.{same_Some}
use Rattle.smil_model.specs.declared.diary.Entry.{Entry}
use Rattle.smil_model.specs.declared.document.Node.{Node}
use Rattle.smil_model.specs.document.Document.{Document, elements, is_within, node_at, serials}
use Rattle.smil_model.specs.document.Closure.{has}
use Rattle.smil_model.specs.document.Edits.{place_in}
use Rattle.smil_model.specs.document.Valid.{IsNumberedTree}
use Rattle.smil_model.specs.interval.Current.{current_interval}
use Rattle.smil_laws.proofs.DependencyRanks.{filter_has}
use Rattle.smil_laws.proofs.RoundsRest.{find-serial}
use Rattle.smil_tree.proofs.ChildSpans.{node_of_place, place_told}
use Rattle.smil_instances.proofs.IdTargets.{known_node}
use Rattle.smil_diary.specs.declared.fault.BookFault.{BookFault}
use Rattle.smil_past.specs.Past.{MarkedHistory, history_of}
use Rattle.smil_past.proofs.KnownNodes.{known_at_place}
use Rattle.smil_cells.specs.Evaluated.{AreChanged}
use Rattle.smil_cells.specs.NewEntries.{ArePutBehind, MayDiffer, interval_before, interval_behind}
use Rattle.smil_cells.specs.Shown.{OnlyMore, TouchesOnly, any_shows, elements_at, touched_at}
use Rattle.smil_cells.specs.Standings.{standing_of}
use Rattle.smil_cells.proofs.ElementsByPlace.{stands_there}

-- ---- one after another

pub only_same : (nodes : List Node) (places : List ℕ) (test : ℕ → Bool) → OnlyMore nodes places places test
only_same nodes places test e here q = inl q

pub only_then : (nodes : List Node) (old mid new : List ℕ) (p q : ℕ → Bool) → OnlyMore nodes old mid p → OnlyMore nodes mid new q → ((s : ℕ) → q s ≡ true → p s ≡ true) → OnlyMore nodes old new p
only_then nodes old mid new p q first second implies e here on = by_second (second e here on)
  where
    by_second : (has (elements_at nodes mid) e.serial ≡ true) ⊎ (q e.serial ≡ true) → (has (elements_at nodes old) e.serial ≡ true) ⊎ (p e.serial ≡ true)
    by_second (inl was) = first e here was
    by_second (inr passes) = inr (implies e.serial passes)

-- ---- places

pub place_only : (start place end : ℕ) (old before after : List ℕ) → ((p : ℕ) → has after p ≡ ((p == place) || has before p)) → start ≤ place → place < end
    → ((p : ℕ) → has before p ≡ true → (has old p ≡ true) ⊎ ((start ≤ p) × (p < end)))
    → (p : ℕ) → has after p ≡ true → (has old p ≡ true) ⊎ ((start ≤ p) × (p < end))
place_only start place end old before after made from below was p q = by_case (or_cases (p == place) (has before p) (sym (made p) ∙ q))
  where
    by_case : (p == place ≡ true) ⊎ (has before p ≡ true) → (has old p ≡ true) ⊎ ((start ≤ p) × (p < end))
    by_case (inl e) = let same = eqb-true p place e in inr (omega (arith, same, from), omega (arith, same, below))
    by_case (inr b) = was p b

-- what stands at a place of a list
pub has_at : (xs : List ℕ) (i : ℕ) → i < length xs → has xs (get_or xs i 0) ≡ true
has_at [] i l = absurd (omega (arith, l))
has_at (x ∷ xs) zero l = or_left _ _ (eq-eqb x x refl)
has_at (x ∷ xs) (suc i) l = or_right _ _ (has_at xs i (omega (arith, l)))

pub listed_at : (xs : List ℕ) (i s : ℕ) → i < length xs → get_or xs i 0 == s ≡ true → has xs s ≡ true
listed_at xs i s l e = ap (has xs) (sym (eqb-true (get_or xs i 0) s e)) ∙ has_at xs i l

take_one : (ns : List Node) (k j : ℕ) (n : Node) → j < k → slice_get ns j ≡ Some n → slice_get (take k ns) j ≡ Some n
take_one [] k j n l at = cc
take_one (x ∷ xs) zero j n l at = absurd (omega (arith, l))
take_one (x ∷ xs) (suc k) zero n l at = at
take_one (x ∷ xs) (suc k) (suc j) n l at = take_one xs k j n (omega (arith, l)) at

whole : (ns : List Node) → drop 0 ns ≡ ns
whole [] = refl
whole (n ∷ ns) = refl

drop_one : (ns : List Node) (a j i : ℕ) (n : Node) → i ≡ a + j → slice_get ns i ≡ Some n → slice_get (drop a ns) j ≡ Some n
drop_one ns zero j i n e at =
    let same : j ≡ i = omega (arith, e) in
    ap (λ l. slice_get l j) (whole ns) ∙ ap (slice_get ns) same ∙ at
drop_one [] (suc a) j i n e at = cc
drop_one (x ∷ xs) (suc a) j zero n e at = absurd (omega (arith, e))
drop_one (x ∷ xs) (suc a) j (suc i) n e at = drop_one xs a j i n (omega (arith, e)) at

-- a node whose place is in a range is among those there
range_one : (ns : List Node) (a b i : ℕ) (n : Node) → a ≤ i → i < b → slice_get ns i ≡ Some n → slice_get (slice_range ns a b) (i - a) ≡ Some n
range_one ns a b i n from below at = take_one (drop a ns) (b - a) (i - a) n (omega (arith, from, below)) (drop_one ns a (i - a) i n (omega (arith, from)) at)

passes_at : (test : Node → Bool) (ns : List Node) (j : ℕ) (n : Node) → slice_get (filter test ns) j ≡ Some n → test n ≡ true
passes_at test [] j n at = cc
passes_at test (x ∷ xs) j n at = step (test x) refl j at (λ k. passes_at test xs k n)
  where
    step : (b : Bool) → test x ≡ b → (k : ℕ) → slice_get (cond b (x ∷ filter test xs) (filter test xs)) k ≡ Some n → ((i : ℕ) → slice_get (filter test xs) i ≡ Some n → test n ≡ true) → test n ≡ true
    step true e zero here later = let one : x ≡ n = cc in ap test (sym one) ∙ e
    step true e (suc k) here later = later k here
    step false e k here later = later k here

record IsNode (nodes : List Node) (s : ℕ) : Type 0 where
  node : Node
  known : node_at nodes s ≡ Some node

there : (nodes : List Node) (s : ℕ) → is_some (node_at nodes s) ≡ true → IsNode nodes s
there nodes s known = by_node (node_at nodes s) refl known
  where
    by_node : (o : Option Node) → node_at nodes s ≡ o → is_some o ≡ true → IsNode nodes s
    by_node (Some n) e k = record { node = n; known = e }
    by_node None e k = cc

module _ (nodes : List Node) (next : ℕ) (numbered : IsNumberedTree (record { nodes = nodes; next = next })) where
  one_place : (s t : ℕ) → is_some (node_at nodes s) ≡ true → is_some (node_at nodes t) ≡ true → place_in nodes s ≡ place_in nodes t → s ≡ t
  one_place s t a b same =
      let n = there nodes s a in
      let m = there nodes t b in
      let both : Some n.node ≡ Some m.node = sym (node_of_place nodes next numbered s n.node n.known) ∙ ap (slice_get nodes) same ∙ node_of_place nodes next numbered t m.node m.known in
      sym (find-serial s nodes n.node n.known) ∙ ap (λ (x : Node). x.serial) (same_Some n.node m.node both) ∙ find-serial t nodes m.node m.known

  -- the node that is put
  pub node_only : (s place : ℕ) (old new : List ℕ) → Some place ≡ position (λ (n : Node). n.serial == s) nodes → ((p : ℕ) → has new p ≡ ((p == place) || has old p)) → OnlyMore nodes old new (λ t. s == t)
  node_only s place old new found made e here q =
      let was = filter_has (λ t. has new (place_in nodes t)) (serials (elements nodes)) e.serial q in
      by_case (or_cases (place_in nodes e.serial == place) (has old (place_in nodes e.serial)) (sym (made (place_in nodes e.serial)) ∙ was.1))
    where
      known : is_some (node_at (elements nodes) e.serial) ≡ true
      known = ap (λ o. is_some o) here

      known_s : is_some (node_at nodes s) ≡ true
      known_s = known_at_place nodes s (ap (λ o. is_some o) (sym found))

      by_case : (place_in nodes e.serial == place ≡ true) ⊎ (has old (place_in nodes e.serial) ≡ true) → (has (elements_at nodes old) e.serial ≡ true) ⊎ (s == e.serial ≡ true)
      by_case (inl p) = inr (eq-eqb s e.serial (one_place s e.serial known_s (known_node nodes e.serial known) (sym (place_told nodes next numbered s place known_s found) ∙ sym (eqb-true (place_in nodes e.serial) place p))))
      by_case (inr o) = inl (stands_there nodes old e.serial known o)

  -- the nodes within one
  pub within_only : (a b who : ℕ) (old new : List ℕ) → slice_range nodes a b ≡ filter (λ (n : Node). is_within nodes who n.serial) nodes
      → ((p : ℕ) → has new p ≡ true → (has old p ≡ true) ⊎ ((a ≤ p) × (p < b)))
      → OnlyMore nodes old new (is_within nodes who)
  within_only a b who old new is only e here q =
      let was = filter_has (λ t. has new (place_in nodes t)) (serials (elements nodes)) e.serial q in
      by_case (only (place_in nodes e.serial) was.1)
    where
      known : is_some (node_at (elements nodes) e.serial) ≡ true
      known = ap (λ o. is_some o) here

      by_case : (has old (place_in nodes e.serial) ≡ true) ⊎ ((a ≤ place_in nodes e.serial) × (place_in nodes e.serial < b)) → (has (elements_at nodes old) e.serial ≡ true) ⊎ (is_within nodes who e.serial ≡ true)
      by_case (inl o) = inl (stands_there nodes old e.serial known o)
      by_case (inr between) =
          let n = there nodes e.serial (known_node nodes e.serial known) in
          let at = range_one nodes a b (place_in nodes e.serial) n.node between.0 between.1 (node_of_place nodes next numbered e.serial n.node n.known) in
          inr (ap (is_within nodes who) (sym (find-serial e.serial nodes n.node n.known))
          ∙ passes_at (λ (x : Node). is_within nodes who x.serial) nodes (place_in nodes e.serial - a) n.node (ap (λ (l : List Node). slice_get l (place_in nodes e.serial - a)) (sym is) ∙ at))

-- ---- entries that were taken in

pub front_of : (diary more new : List Entry) (start : ℕ) → new ≡ diary ++ more → start ≡ length diary → take start new ≡ diary
front_of diary more new start grown begins = ap (λ (n : ℕ). take n new) begins ∙ ap (take (length diary)) grown ∙ take-append_seam diary more

-- what a refresh of a table puts in
pub puts_only : (past : MarkedHistory) (from : ℕ) (moment : ℤ) (old mid new told changed : List ℕ) (tree : Document) → tree ≡ past.document → told ≡ []
    → OnlyMore past.document.nodes old mid (any_shows (history_of past) (drop from past.diary))
    → OnlyMore tree.nodes mid new (has changed)
    → AreChanged told changed (interval_before past from moment) (interval_behind past moment)
    → (e : Node) → node_at (elements past.document.nodes) e.serial ≡ Some e → has (elements_at past.document.nodes new) e.serial ≡ true
    → (has (elements_at past.document.nodes old) e.serial ≡ true) ⊎ MayDiffer past from moment e.serial
puts_only past from moment old mid new told changed tree is none shown put tells e here on =
    by_put (subst (λ (d : Document). OnlyMore d.nodes mid new (has changed)) is put e here on)
  where
    by_told : (has told e.serial ≡ true) ⊎ (interval_behind past moment e.serial ≡ interval_before past from moment e.serial → ⊥) → MayDiffer past from moment e.serial
    by_told (inl was) = let never : false ≡ true = sym (ap (λ (l : List ℕ). has l e.serial) none) ∙ was in absurd (cc)
    by_told (inr differs) = inr differs

    by_shown : (has (elements_at past.document.nodes old) e.serial ≡ true) ⊎ (any_shows (history_of past) (drop from past.diary) e.serial ≡ true) → (has (elements_at past.document.nodes old) e.serial ≡ true) ⊎ MayDiffer past from moment e.serial
    by_shown (inl was) = inl was
    by_shown (inr shows) = inr (inl shows)

    by_put : (has (elements_at past.document.nodes mid) e.serial ≡ true) ⊎ (has changed e.serial ≡ true) → (has (elements_at past.document.nodes old) e.serial ≡ true) ⊎ MayDiffer past from moment e.serial
    by_put (inl was) = by_shown (shown e here was)
    by_put (inr is_told) = inr (by_told (tells e.serial is_told))

-- by the cells before and behind
module _ (past new : MarkedHistory) (m z : ℤ) (fault : Option BookFault) (mark : Option ℤ) (touched : List ℕ) (start : ℕ) (doc : new.document ≡ past.document) (begins : start ≡ length past.diary) (before : take start new.diary ≡ past.diary) (here : z ≡ pos (nat_abs m)) where
  abbrev Told : ℕ → Type 0
  Told s =
      (any_shows (history_of new) (drop (length past.diary) new.diary) s ≡ true)
      ⊎ (current_interval (history_of new) (pos (nat_abs m)) s ≡ current_interval (record { nodes = new.document.nodes; log = new.log; diary = past.diary }) (pos (nat_abs m)) s → ⊥)

  by_told : (s : ℕ) → MayDiffer new start z s → Told s
  by_told s (inl shows) = inl (subst (λ (k : ℕ). any_shows (history_of new) (drop k new.diary) s ≡ true) begins shows)
  by_told s (inr differs) =
      inr (subst (λ (v : ℤ). current_interval (history_of new) v s ≡ current_interval (record { nodes = new.document.nodes; log = new.log; diary = past.diary }) v s → ⊥) here
      (subst (λ (d : List Entry). current_interval (history_of new) z s ≡ current_interval (record { nodes = new.document.nodes; log = new.log; diary = d }) z s → ⊥) before differs))

  pub touches_only : (places after others : List ℕ) → ArePutBehind new start z places after
      → TouchesOnly (touched_at (standing_of past m fault mark touched) places) (touched_at (standing_of new m None mark others) after)
  touches_only places after others put e there_e on = by_put (put.only e there_e on)
    where
      by_put : (has (elements_at new.document.nodes places) e.serial ≡ true) ⊎ MayDiffer new start z e.serial → (has (elements_at past.document.nodes places) e.serial ≡ true) ⊎ Told e.serial
      by_put (inl was) = inl (subst (λ (d : Document). has (elements_at d.nodes places) e.serial ≡ true) doc was)
      by_put (inr told) = inr (by_told e.serial told)
