-- The children that play in the excls of a document.
use Rattle.std.proofs.Common.{◌≡◌, refl, sym, ◌∙◌, ap, subst, ℕ, ◌+◌, ◌<◌, ◌≤◌, ℤ, List, [], ◌∷◌, Option, Some, None, Bool, true, false, length, get_or, arith, inl, inr}
use Rattle.std.specs.Prelude.{cond, not, ◌==◌, ◌&&◌, ◌||◌, ◌⊎◌, fold, nat_lt, filter, find, map, set, slice_get, is_some, option_map}
use Rattle.std.specs.List.{AllByRecursion, position}
use Rattle.std.specs.Option.{option_and_then}
use Rattle.std.proofs.lemmas.Bool.{and_parts, eqb-true, eq-eqb, le-ltb, lt-ltb, ltb-true}
use Rattle.std.proofs.lemmas.List.{length-map}
use Rattle.std.proofs.lemmas.List.Sums.{fold_push}
use Rattle.std.proofs.lemmas.Option.{slice_get-map, get_or_from_slice_get, same_Some}
use Rattle.smil_model.specs.declared.diary.Entry.{Entry}
use Rattle.smil_model.specs.declared.diary.Step.{Step}
use Rattle.smil_model.specs.declared.diary.Step.TheVariants.{Began, Repeated, Ended, Cut, Paused, Resumed, Deferred, Passed, Logged}
use Rattle.smil_model.specs.declared.document.Node.{Node}
use Rattle.smil_model.specs.declared.happening.Class.{Class}
use Rattle.smil_model.specs.document.Document.{has_kind, has_serial, is_element, is_excl_kind, is_time_child, node_at, serial_of, serials, time_children, time_parent}
use Rattle.smil_model.specs.document.Valid.{IsDistinct}
use Rattle.smil_model.specs.diary.Diary.{History, active_after, is_active, is_alive, is_paused, paused_after, with_entry}
use Rattle.smil_model.specs.diary.Lawful.{has_element, is_lawful_step, may_begin}
use Rattle.smil_model.specs.happening.Queue.{is_child_of, is_playing, is_playing_by}
use Rattle.smil_laws.proofs.AsideDocuments.{each_both, map_all}
use Rattle.smil_laws.proofs.LineageParents.{swap_eqb}
use Rattle.smil_laws.proofs.Lists.{each_kept, each_weaker}
use Rattle.smil_laws.proofs.ListMembers.{differ_each, held_each, holds}
use Rattle.smil_excl.specs.declared.queued_child.QueuedChild.{QueuedChild}
use Rattle.smil_excl.specs.QueueState.{QueueState, deferred_after}
use Rattle.smil_excl.specs.QueueState as state
use Rattle.smil_stretch.proofs.NodePlaces.{place}
use Rattle.smil_stretch.proofs.ClocksTurned.{each_place}
use Rattle.smil_tree.proofs.NodeFamilies.{node_of_place}
use Rattle.smil_past.proofs.TimeParents.{parent_node}
use Rattle.smil_past.proofs.QueuePut.{changed_there, node_there, none_there}
use Rattle.smil_past.proofs.KnownNodes.{known_node}
use Rattle.smil_past.specs.Queues.{IsIdle, KeptQueues, MayPlay, excl_in, excl_place, placed, playing_line, playing_lines, plays_after, with_play, without_play}

-- ---- nodes stand at rising places

pub Rising : (ℕ → ℕ) → List Node → Type 0
Rising at [] = Unit {0}
Rising at (n ∷ ns) = AllByRecursion (λ (m : Node). at n.serial < at m.serial) ns × Rising at ns

-- the places of nodes after these
rises : (at : ℕ → ℕ) (k : ℕ) (ns : List Node) → IsDistinct ns → AllByRecursion (λ (m : Node). at m.serial ≡ k + place m.serial ns) ns → Rising at ns
unfolding Rising
rises at k [] d each = tt
rises at k (n ∷ ns) d each = (
  each_weaker (λ (m : Node). at m.serial ≡ k + 1 + place m.serial ns) (λ (m : Node). at n.serial < at m.serial) ns later (λ (m : Node) q. omega (arith, q, first)),
  rises at (k + 1) ns d.1 later,
)
  where
    first : at n.serial ≡ k
    first = let here : place n.serial (n ∷ ns) ≡ 0 = ap (λ t. cond (not t) (1 + place n.serial ns) 0) (eq-eqb n.serial n.serial refl) in omega (arith, each.0, here)

    later : AllByRecursion (λ (m : Node). at m.serial ≡ k + 1 + place m.serial ns) ns
    later =
        each_weaker (λ (m : Node). (m.serial == n.serial ≡ false) × (at m.serial ≡ k + place m.serial (n ∷ ns))) (λ (m : Node). at m.serial ≡ k + 1 + place m.serial ns) ns
        (each_both (λ (m : Node). m.serial == n.serial ≡ false) (λ (m : Node). at m.serial ≡ k + place m.serial (n ∷ ns)) ns (differ_each n.serial ns d.0) each.1)
        (λ (m : Node) q. let on : place m.serial (n ∷ ns) ≡ 1 + place m.serial ns = ap (λ t. cond (not t) (1 + place m.serial ns) 0) (swap_eqb m.serial n.serial q.0) in omega (arith, q.1, on))

kept_rising : (at : ℕ → ℕ) (test : Node → Bool) (ns : List Node) → Rising at ns → Rising at (filter test ns)
unfolding Rising
kept_rising at test [] r = tt
kept_rising at test (n ∷ ns) r = step (test n) (kept_rising at test ns r.1)
  where
    step : (t : Bool) → Rising at (filter test ns) → Rising at (cond t (n ∷ filter test ns) (filter test ns))
    step true rest = (each_kept (λ (m : Node). at n.serial < at m.serial) test ns r.0, rest)
    step false rest = rest

children_rise : (nodes : List Node) (e : ℕ) → IsDistinct nodes → Rising (λ s. place s nodes) (time_children nodes e)
children_rise nodes e d =
    kept_rising (λ s. place s nodes) (is_time_child nodes e) nodes
    (rises (λ s. place s nodes) 0 nodes d (each_place (λ (m : Node). place m.serial nodes ≡ 0 + place m.serial nodes) nodes (λ j m q. omega arith)))

-- ---- an element plays or not

module _ (p q : ℕ → Bool) (who : ℕ) (others : (s : ℕ) → who == s ≡ false → p s ≡ q s) where
  -- among others than the element the same play
  same_apart : (xs : List Node) → AllByRecursion (λ (m : Node). who == m.serial ≡ false) xs → filter p (serials xs) ≡ filter q (serials xs)
  same_apart [] each = refl
  same_apart (x ∷ xs) each =
      ap (λ t. cond t (x.serial ∷ filter p (serials xs)) (filter p (serials xs))) (others x.serial each.0)
      ∙ ap (λ ys. cond (q x.serial) (x.serial ∷ ys) ys) (same_apart xs each.1)

  module _ (nodes : List Node) (e : ℕ) (apart : is_child_of nodes e who ≡ false) where
    child_differs : (ns : List Node) → AllByRecursion (λ (m : Node). who == m.serial ≡ false) (filter (is_time_child nodes e) ns)
    child_differs [] = tt
    child_differs (n ∷ ns) = step (is_time_child nodes e n) refl (child_differs ns)
      where
        differs : (t : Bool) → who == n.serial ≡ t → is_child_of nodes e n.serial ≡ true → who == n.serial ≡ false
        differs true w c = let never : true ≡ false = sym c ∙ ap (is_child_of nodes e) (sym (eqb-true who n.serial w)) ∙ apart in cc
        differs false w c = w

        step : (t : Bool) → is_time_child nodes e n ≡ t → AllByRecursion (λ (m : Node). who == m.serial ≡ false) (filter (is_time_child nodes e) ns) → AllByRecursion (λ (m : Node). who == m.serial ≡ false) (cond t (n ∷ filter (is_time_child nodes e) ns) (filter (is_time_child nodes e) ns))
        step true c rest = (differs (who == n.serial) refl (and_parts (is_element n) (is_child_of nodes e n.serial) c).1, rest)
        step false c rest = rest

  -- in a node whose child the element is not, the same play
  other_line : (nodes : List Node) (n : Node) → is_child_of nodes n.serial who ≡ false → playing_line nodes p n ≡ playing_line nodes q n
  other_line nodes n apart =
      ap (λ xs. cond (is_excl_kind n.kind) (record { held = map (placed nodes) xs; room = length (time_children nodes n.serial) }) (record { held = []; room = 0 }))
      (same_apart (time_children nodes n.serial) (child_differs nodes n.serial apart nodes))

  -- and in a node that is no excl none
  plain_line : (nodes : List Node) (n : Node) → is_excl_kind n.kind ≡ false → playing_line nodes p n ≡ playing_line nodes q n
  plain_line nodes n plain = ap (λ t. cond t (record { held = map (placed nodes) (filter p (serials (time_children nodes n.serial))); room = length (time_children nodes n.serial) }) (record { held = []; room = 0 })) plain
      ∙ sym (ap (λ t. cond t (record { held = map (placed nodes) (filter q (serials (time_children nodes n.serial))); room = length (time_children nodes n.serial) }) (record { held = []; room = 0 })) plain)

-- the excl in which an element is a time child, at its place
pub record IsExclAt (nodes : List Node) (who k : ℕ) : Type 0 where
  pub node : Node
  pub at : slice_get nodes k ≡ Some node
  pub kind : is_excl_kind node.kind ≡ true
  pub children : (e : ℕ) → is_child_of nodes e who ≡ (node.serial == e)

module _ (nodes : List Node) (who : ℕ) (distinct : IsDistinct nodes) (known : is_some (node_at nodes who) ≡ true) where
  each_known : AllByRecursion (λ (m : Node). node_at nodes m.serial ≡ Some m) nodes
  each_known = each_place (λ (m : Node). node_at nodes m.serial ≡ Some m) nodes (λ j m q. node_of_place nodes j m distinct q)

  pub excl_there : (k : ℕ) → Some k ≡ excl_place nodes who → IsExclAt nodes who k
  excl_there k q = by_parent (time_parent nodes who) refl q
    where
      by_kind : (p : Node) → time_parent nodes who ≡ Some p → (t : Bool) → is_excl_kind p.kind ≡ t → Some k ≡ option_and_then (λ (n : Node). position (λ (m : Node). m.serial == n.serial) nodes) (cond t (Some p) None) → IsExclAt nodes who k
      by_kind p under true excl r =
          let found = node_there nodes k p.serial r in
          let same : found.node ≡ p = same_Some found.node p (sym (node_of_place nodes k found.node distinct found.at) ∙ ap (node_at nodes) found.serial ∙ parent_node nodes who p distinct known under) in
          record {
            node = p;
            at = found.at ∙ ap Some same;
            kind = excl;
            children = λ e. ap (has_serial e) under;
          }
      by_kind p under false excl r = cc

      by_parent : (o : Option Node) → time_parent nodes who ≡ o → Some k ≡ option_and_then (λ (n : Node). position (λ (m : Node). m.serial == n.serial) nodes) (excl_in o) → IsExclAt nodes who k
      by_parent None under r = cc
      by_parent (Some p) under r = by_kind p under (is_excl_kind p.kind) refl r

  module _ (p q : ℕ → Bool) (others : (s : ℕ) → who == s ≡ false → p s ≡ q s) where
    -- an element that is in no excl changes nothing
    pub excl_absent : None ≡ excl_place nodes who → playing_lines nodes p ≡ playing_lines nodes q
    excl_absent none = by_parent (time_parent nodes who) refl none
      where
        each_same : (P : Node → Type 0) → AllByRecursion P nodes → ((m : Node) → P m → playing_line nodes p m ≡ playing_line nodes q m) → playing_lines nodes p ≡ playing_lines nodes q
        each_same P each same = map_all P (playing_line nodes p) (playing_line nodes q) nodes each same

        plain : (up m : Node) → time_parent nodes who ≡ Some up → is_excl_kind up.kind ≡ false → node_at nodes m.serial ≡ Some m → (t : Bool) → up.serial == m.serial ≡ t → playing_line nodes p m ≡ playing_line nodes q m
        plain up m under kind there true s =
            let same : m ≡ up = same_Some m up (sym there ∙ ap (node_at nodes) (sym (eqb-true up.serial m.serial s)) ∙ parent_node nodes who up distinct known under) in
            plain_line p q who others nodes m (ap (λ (x : Node). is_excl_kind x.kind) same ∙ kind)
        plain up m under kind there false s = other_line p q who others nodes m (ap (has_serial m.serial) under ∙ s)

        by_kind : (up : Node) → time_parent nodes who ≡ Some up → (t : Bool) → is_excl_kind up.kind ≡ t → None ≡ option_and_then (λ (n : Node). position (λ (m : Node). m.serial == n.serial) nodes) (cond t (Some up) None) → playing_lines nodes p ≡ playing_lines nodes q
        by_kind up under true kind r =
            each_same (λ (m : Node). m.serial == up.serial ≡ false) (none_there nodes up.serial r)
            (λ (m : Node) s. other_line p q who others nodes m (ap (has_serial m.serial) under ∙ swap_eqb m.serial up.serial s))
        by_kind up under false kind r =
            each_same (λ (m : Node). node_at nodes m.serial ≡ Some m) each_known (λ (m : Node) there. plain up m under kind there (up.serial == m.serial) refl)

        by_parent : (o : Option Node) → time_parent nodes who ≡ o → None ≡ option_and_then (λ (n : Node). position (λ (m : Node). m.serial == n.serial) nodes) (excl_in o) → playing_lines nodes p ≡ playing_lines nodes q
        by_parent None under r = each_same (λ (m : Node). node_at nodes m.serial ≡ Some m) each_known (λ (m : Node) there. other_line p q who others nodes m (ap (has_serial m.serial) under))
        by_parent (Some up) under r = by_kind up under (is_excl_kind up.kind) refl r

    -- in its excl the list is another
    pub excl_changed : (kept : List QueueState) (k : ℕ) (now : QueueState) (of : IsExclAt nodes who k) → kept ≡ playing_lines nodes p → now ≡ playing_line nodes q of.node → set kept k now ≡ playing_lines nodes q
    excl_changed kept k now of is value =
        ap (λ ls. set ls k now) is
        ∙ ap (set (playing_lines nodes p) k) value
        ∙ changed_there (playing_line nodes p) (playing_line nodes q) nodes k of.node distinct of.at (λ (m : Node) r. other_line p q who others nodes m (of.children m.serial ∙ r))

-- ---- the list of an excl

abbrev pub excl_line : List Node → (ℕ → Bool) → ℕ → QueueState
excl_line nodes plays e = record {
  held = map (placed nodes) (filter plays (serials (time_children nodes e)));
  room = length (time_children nodes e);
}

pub line_of_excl : (nodes : List Node) (plays : ℕ → Bool) (n : Node) → is_excl_kind n.kind ≡ true → playing_line nodes plays n ≡ excl_line nodes plays n.serial
line_of_excl nodes plays n excl = ap (λ t. cond t (excl_line nodes plays n.serial) (record { held = []; room = 0 })) excl

pub line_at : (nodes : List Node) (plays : ℕ → Bool) (kept : List QueueState) (k : ℕ) (n : Node) → kept ≡ playing_lines nodes plays → slice_get nodes k ≡ Some n → slice_get kept k ≡ Some (playing_line nodes plays n)
line_at nodes plays kept k n is at = ap (λ ls. slice_get ls k) is ∙ slice_get-map (playing_line nodes plays) nodes k ∙ ap (option_map (playing_line nodes plays)) at

pub excl_line_at : (nodes : List Node) (plays : ℕ → Bool) (kept : List QueueState) (who k : ℕ) (d : QueueState) (of : IsExclAt nodes who k) → kept ≡ playing_lines nodes plays → get_or kept k d ≡ excl_line nodes plays (of.node).serial
excl_line_at nodes plays kept who k d of is = get_or_from_slice_get kept k (excl_line nodes plays (of.node).serial) d (line_at nodes plays kept k of.node is of.at ∙ ap Some (line_of_excl nodes plays of.node of.kind))

-- ---- an element leaves

module _ (nodes : List Node) (who : ℕ) (plays : ℕ → Bool) where
  pub left_others : (s : ℕ) → who == s ≡ false → plays s ≡ without_play who plays s
  left_others s w = sym (ap (λ t. cond t false (plays s)) w)

  pub left : (xs : List ℕ) → state.without who (map (placed nodes) (filter plays xs)) ≡ map (placed nodes) (filter (without_play who plays) xs)
  left [] = refl
  left (x ∷ xs) = step (plays x) (who == x) refl (left xs)
    where
      step : (t w : Bool) → who == x ≡ w → state.without who (map (placed nodes) (filter plays xs)) ≡ map (placed nodes) (filter (without_play who plays) xs)
          → state.without who (map (placed nodes) (cond t (x ∷ filter plays xs) (filter plays xs))) ≡ map (placed nodes) (cond (cond w false t) (x ∷ filter (without_play who plays) xs) (filter (without_play who plays) xs))
      step true true w rest = ap (λ b. cond (not b) (placed nodes x ∷ state.without who (map (placed nodes) (filter plays xs))) (state.without who (map (placed nodes) (filter plays xs)))) (swap_true w) ∙ rest
        where
          swap_true : who == x ≡ true → x == who ≡ true
          swap_true e = eq-eqb x who (sym (eqb-true who x e))
      step true false w rest = ap (λ b. cond (not b) (placed nodes x ∷ state.without who (map (placed nodes) (filter plays xs))) (state.without who (map (placed nodes) (filter plays xs)))) (swap_eqb who x w) ∙ ap (λ ys. placed nodes x ∷ ys) rest
      step false true w rest = rest
      step false false w rest = rest

-- ---- an element enters

module _ (nodes : List Node) (who : ℕ) (plays : ℕ → Bool) (idle : plays who ≡ false) where
  pub entered_others : (s : ℕ) → who == s ≡ false → plays s ≡ with_play who plays s
  entered_others s w = sym (ap (λ t. t || plays s) w)

  abbrev put : List ℕ → List QueuedChild
  put xs = deferred_after (placed nodes who) (map (placed nodes) xs)

  -- before all whose places are later
  front : (xs : List Node) → AllByRecursion (λ (m : Node). place who nodes < place m.serial nodes) xs → put (filter plays (serials xs)) ≡ placed nodes who ∷ map (placed nodes) (filter plays (serials xs))
  front [] later = refl
  front (x ∷ xs) later = step (plays x.serial) (front xs later.1)
    where
      step : (t : Bool) → put (filter plays (serials xs)) ≡ placed nodes who ∷ map (placed nodes) (filter plays (serials xs)) → put (cond t (x.serial ∷ filter plays (serials xs)) (filter plays (serials xs))) ≡ placed nodes who ∷ map (placed nodes) (cond t (x.serial ∷ filter plays (serials xs)) (filter plays (serials xs)))
      step true rest =
          ap (λ b. cond b (placed nodes who ∷ placed nodes x.serial ∷ map (placed nodes) (filter plays (serials xs))) (placed nodes x.serial ∷ put (filter plays (serials xs)))) (lt-ltb (place who nodes) (place x.serial nodes) later.0)
      step false rest = rest

  later_differ : (xs : List Node) → AllByRecursion (λ (m : Node). place who nodes < place m.serial nodes) xs → AllByRecursion (λ (m : Node). who == m.serial ≡ false) xs
  later_differ xs later = each_weaker (λ (m : Node). place who nodes < place m.serial nodes) (λ (m : Node). who == m.serial ≡ false) xs later (λ (m : Node) l. apart m l (who == m.serial) refl)
    where
      apart : (m : Node) → place who nodes < place m.serial nodes → (t : Bool) → who == m.serial ≡ t → who == m.serial ≡ false
      apart m l true w = let same : place who nodes ≡ place m.serial nodes = ap (λ s. place s nodes) (eqb-true who m.serial w) in absurd (omega (arith, l, same))
      apart m l false w = w

  pub entered : (xs : List Node) → Rising (λ s. place s nodes) xs → holds who xs ≡ true → put (filter plays (serials xs)) ≡ map (placed nodes) (filter (with_play who plays) (serials xs))
  unfolding Rising
  entered [] rise held = cc
  entered (x ∷ xs) rise held = by_here (x.serial == who) refl held (entered xs rise.1)
    where
      with_there : Bool → List ℕ
      with_there t = cond t (x.serial ∷ filter (with_play who plays) (serials xs)) (filter (with_play who plays) (serials xs))

      further : (t : Bool) → place x.serial nodes < place who nodes → put (filter plays (serials xs)) ≡ map (placed nodes) (filter (with_play who plays) (serials xs)) → put (cond t (x.serial ∷ filter plays (serials xs)) (filter plays (serials xs))) ≡ map (placed nodes) (with_there t)
      further true before rest =
          ap (λ b. cond b (placed nodes who ∷ placed nodes x.serial ∷ map (placed nodes) (filter plays (serials xs))) (placed nodes x.serial ∷ put (filter plays (serials xs)))) (le-ltb (place who nodes) (place x.serial nodes) (omega (arith, before)))
          ∙ ap (λ ys. placed nodes x.serial ∷ ys) rest
      further false before rest = rest

      by_here : (t : Bool) → x.serial == who ≡ t → (t || holds who xs) ≡ true → (holds who xs ≡ true → put (filter plays (serials xs)) ≡ map (placed nodes) (filter (with_play who plays) (serials xs))) → put (filter plays (serials (x ∷ xs))) ≡ map (placed nodes) (filter (with_play who plays) (serials (x ∷ xs)))
      by_here true w r later_ones =
          let same : x.serial ≡ who = eqb-true x.serial who w in
          let later : AllByRecursion (λ (m : Node). place who nodes < place m.serial nodes) xs = subst (λ s. AllByRecursion (λ (m : Node). place s nodes < place m.serial nodes) xs) same rise.0 in
          ap (λ t. put (cond t (x.serial ∷ filter plays (serials xs)) (filter plays (serials xs)))) (ap plays same ∙ idle)
          ∙ front xs later
          ∙ ap (λ ys. placed nodes who ∷ map (placed nodes) ys) (same_apart plays (with_play who plays) who entered_others xs (later_differ xs later))
          ∙ ap (λ s. placed nodes s ∷ map (placed nodes) (filter (with_play who plays) (serials xs))) (sym same)
          ∙ ap (λ t. map (placed nodes) (cond (t || plays x.serial) (x.serial ∷ filter (with_play who plays) (serials xs)) (filter (with_play who plays) (serials xs)))) (sym (eq-eqb who x.serial (sym same)))
      by_here false w r later_ones =
          further (plays x.serial) (held_each (λ s. place x.serial nodes < place s nodes) who xs rise.0 r) (later_ones r)
          ∙ ap (λ t. map (placed nodes) (cond (t || plays x.serial) (x.serial ∷ filter (with_play who plays) (serials xs)) (filter (with_play who plays) (serials xs)))) (sym (swap_eqb x.serial who w))

  -- who does not play leaves room
  pub room_left : (xs : List Node) → holds who xs ≡ true → length (filter plays (serials xs)) < length xs
  room_left [] held = cc
  room_left (x ∷ xs) held = by_here (x.serial == who) refl held (plays x.serial) refl (room_left xs)
    where
      most : (ys : List Node) → length (filter plays (serials ys)) ≤ length ys
      most [] = omega arith
      most (y ∷ ys) = step (plays y.serial) (most ys)
        where
          step : (t : Bool) → length (filter plays (serials ys)) ≤ length ys → length (cond t (y.serial ∷ filter plays (serials ys)) (filter plays (serials ys))) ≤ length (y ∷ ys)
          step true rest = omega (arith, rest)
          step false rest = omega (arith, rest)

      by_here : (t : Bool) → x.serial == who ≡ t → (t || holds who xs) ≡ true → (b : Bool) → plays x.serial ≡ b → (holds who xs ≡ true → length (filter plays (serials xs)) < length xs) → length (cond b (x.serial ∷ filter plays (serials xs)) (filter plays (serials xs))) < length (x ∷ xs)
      by_here true w r true e rest = let never : true ≡ false = sym e ∙ ap plays (eqb-true x.serial who w) ∙ idle in cc
      by_here true w r false e rest = omega (arith, most xs)
      by_here false w r true e rest = omega (arith, rest r)
      by_here false w r false e rest = omega (arith, rest r)

-- an element is among the time children of its time parent
pub listed : (nodes : List Node) (e who : ℕ) (ns : List Node) → is_child_of nodes e who ≡ true → is_some (node_at (filter is_element ns) who) ≡ true → holds who (filter (is_time_child nodes e) ns) ≡ true
listed nodes e who [] c known = cc
listed nodes e who (n ∷ ns) c known = step (is_element n) known (listed nodes e who ns c)
  where
    rest : List Node
    rest = filter (is_time_child nodes e) ns

    skipped : (t : Bool) → holds who rest ≡ true → holds who (cond t (n ∷ rest) rest) ≡ true
    skipped true r = ap (λ b. (n.serial == who) || b) r ∙ either (n.serial == who)
      where
        either : (b : Bool) → (b || true) ≡ true
        either true = refl
        either false = refl
    skipped false r = r

    here : (t : Bool) → n.serial == who ≡ t → is_some (cond t (Some n) (node_at (filter is_element ns) who)) ≡ true → (is_some (node_at (filter is_element ns) who) ≡ true → holds who rest ≡ true) → holds who (cond (is_child_of nodes e n.serial) (n ∷ rest) rest) ≡ true
    here true w r later =
        ap (λ s. holds who (cond (is_child_of nodes e s) (n ∷ rest) rest)) (eqb-true n.serial who w)
        ∙ ap (λ t. holds who (cond t (n ∷ rest) rest)) c
        ∙ ap (λ t. t || holds who rest) w
    here false w r later = skipped (is_child_of nodes e n.serial) (later r)

    step : (t : Bool) → is_some (node_at (cond t (n ∷ filter is_element ns) (filter is_element ns)) who) ≡ true → (is_some (node_at (filter is_element ns) who) ≡ true → holds who rest ≡ true) → holds who (cond (t && is_child_of nodes e n.serial) (n ∷ rest) rest) ≡ true
    step true r later = here (n.serial == who) refl r later
    step false r later = later r

-- ---- what the calls make of the lists

module _ (nodes : List Node) (who : ℕ) (distinct : IsDistinct nodes) (known : is_some (node_at nodes who) ≡ true) (plays : ℕ → Bool) (kept : List QueueState) (k : ℕ) (d now : QueueState) (q : Some k ≡ excl_place nodes who) (is : kept ≡ playing_lines nodes plays) where
  pub has_left : now ≡ record { held = state.without who (get_or kept k d).held; room = (get_or kept k d).room } → set kept k now ≡ playing_lines nodes (without_play who plays)
  has_left made =
      let of = excl_there nodes who distinct known k q in
      let cs = time_children nodes (of.node).serial in
      excl_changed nodes who distinct known plays (without_play who plays) (left_others nodes who plays) kept k now of is
      (made
      ∙ ap (λ (l : QueueState). record { held = state.without who l.held; room = l.room }) (excl_line_at nodes plays kept who k d of is)
      ∙ ap (λ held. record { held = held; room = length cs }) (left nodes who plays (serials cs))
      ∙ sym (line_of_excl nodes (without_play who plays) of.node of.kind))

  module _ (element : has_element nodes who ≡ true) (idle : plays who ≡ false) where
    abbrev is_listed : (of : IsExclAt nodes who k) → holds who (time_children nodes (of.node).serial) ≡ true
    is_listed of = listed nodes (of.node).serial who nodes (of.children (of.node).serial ∙ eq-eqb (of.node).serial (of.node).serial refl) element

    pub has_entered : (r : ℕ) → r ≡ place who nodes → now ≡ record { held = deferred_after (record { who = who; rank = r }) (get_or kept k d).held; room = (get_or kept k d).room } → set kept k now ≡ playing_lines nodes (with_play who plays)
    has_entered r ranks made =
        let of = excl_there nodes who distinct known k q in
        let cs = time_children nodes (of.node).serial in
        excl_changed nodes who distinct known plays (with_play who plays) (entered_others nodes who plays idle) kept k now of is
        (made
        ∙ ap (λ j. record { held = deferred_after (record { who = who; rank = j }) (get_or kept k d).held; room = (get_or kept k d).room }) ranks
        ∙ ap (λ (l : QueueState). record { held = deferred_after (placed nodes who) l.held; room = l.room }) (excl_line_at nodes plays kept who k d of is)
        ∙ ap (λ held. record { held = held; room = length cs }) (entered nodes who plays idle cs (children_rise nodes (of.node).serial distinct) (is_listed of))
        ∙ sym (line_of_excl nodes (with_play who plays) of.node of.kind))

    pub may_enter : length (get_or kept k d).held < (get_or kept k d).room
    may_enter =
        let of = excl_there nodes who distinct known k q in
        let cs = time_children nodes (of.node).serial in
        subst (λ (l : QueueState). length l.held < l.room) (sym (excl_line_at nodes plays kept who k d of is))
        (subst (λ n. n < length cs) (sym (length-map (filter plays (serials cs)) (placed nodes))) (room_left nodes who plays idle cs (is_listed of)))

-- the place of an element is a place in the document
pub place_below : (nodes : List Node) (k s : ℕ) → Some k ≡ position (λ (n : Node). n.serial == s) nodes → (k ≡ place s nodes) × (k < length nodes)
place_below nodes k s q = by_test (nat_lt (place s nodes) (length nodes)) refl q
  where
    by_test : (t : Bool) → nat_lt (place s nodes) (length nodes) ≡ t → Some k ≡ cond t (Some (place s nodes)) None → (k ≡ place s nodes) × (k < length nodes)
    by_test true e r =
        let same : k ≡ place s nodes = same_Some k (place s nodes) r in
        (same, omega (arith, same, ltb-true (place s nodes) (length nodes) e))
    by_test false e r = cc

pub place_of_excl : (nodes : List Node) (o : Option Node) (s : ℕ) → Some s ≡ serial_of o → position (λ (n : Node). n.serial == s) nodes ≡ option_and_then (λ (p : Node). position (λ (n : Node). n.serial == p.serial) nodes) o
place_of_excl nodes None s q = cc
place_of_excl nodes (Some p) s q = ap (λ e. position (λ (n : Node). n.serial == e) nodes) (same_Some s p.serial q)

-- nothing plays at first
pub none_line : (nodes : List Node) (n : Node) → record { held = []; room = cond (is_excl_kind n.kind) (length (time_children nodes n.serial)) 0 } ≡ playing_line nodes (λ s. false) n
none_line nodes n = by_kind (is_excl_kind n.kind)
  where
    none : (xs : List ℕ) → [] ≡ map (placed nodes) (filter (λ s. false) xs)
    none [] = refl
    none (x ∷ xs) = none xs

    by_kind : (t : Bool) → record { held = []; room = cond t (length (time_children nodes n.serial)) 0 } ≡ cond t (excl_line nodes (λ s. false) n.serial) (record { held = []; room = 0 })
    by_kind true = ap (λ held. record { held = held; room = length (time_children nodes n.serial) }) (none (serials (time_children nodes n.serial)))
    by_kind false = refl

-- ---- the first that plays

-- the list of an excl, at its place
pub excl_kept : (nodes : List Node) (plays : ℕ → Bool) (kept : List QueueState) (excl k : ℕ) → IsDistinct nodes → has_kind is_excl_kind (node_at nodes excl) ≡ true → Some k ≡ position (λ (n : Node). n.serial == excl) nodes → kept ≡ playing_lines nodes plays → slice_get kept k ≡ Some (excl_line nodes plays excl)
excl_kept nodes plays kept excl k distinct kind q is =
    let found = node_there nodes k excl q in
    let here : node_at nodes excl ≡ Some found.node = ap (node_at nodes) (sym found.serial) ∙ node_of_place nodes k found.node distinct found.at in
    line_at nodes plays kept k found.node is found.at
    ∙ ap Some (line_of_excl nodes plays found.node (sym (ap (has_kind is_excl_kind) here) ∙ kind))
    ∙ ap (λ e. Some (excl_line nodes plays e)) found.serial

pub first_placed : (nodes : List Node) (xs : List ℕ) → option_map (λ (f : QueuedChild). f.who) (slice_get (map (placed nodes) xs) 0) ≡ slice_get xs 0
first_placed nodes [] = refl
first_placed nodes (x ∷ xs) = refl

pub first_plays : (diary : List Entry) (ns : List Node) → slice_get (filter (is_playing_by diary) (serials ns)) 0 ≡ serial_of (find (is_playing diary) ns)
first_plays diary [] = refl
first_plays diary (n ∷ ns) = step (is_playing_by diary n.serial) (first_plays diary ns)
  where
    step : (t : Bool) → slice_get (filter (is_playing_by diary) (serials ns)) 0 ≡ serial_of (find (is_playing diary) ns) → slice_get (cond t (n.serial ∷ filter (is_playing_by diary) (serials ns)) (filter (is_playing_by diary) (serials ns))) 0 ≡ serial_of (cond t (Some n) (find (is_playing diary) ns))
    step true rest = refl
    step false rest = rest

-- ---- one step more

pub plays_same : (nodes : List Node) (p q : ℕ → Bool) → ((s : ℕ) → p s ≡ q s) → playing_lines nodes p ≡ playing_lines nodes q
plays_same nodes p q same = over nodes
  where
    kept_same : (xs : List ℕ) → filter p xs ≡ filter q xs
    kept_same [] = refl
    kept_same (x ∷ xs) = ap (λ t. cond t (x ∷ filter p xs) (filter p xs)) (same x) ∙ ap (λ ys. cond (q x) (x ∷ ys) ys) (kept_same xs)

    over : (ns : List Node) → map (playing_line nodes p) ns ≡ map (playing_line nodes q) ns
    over [] = refl
    over (n ∷ ns) =
        ap (λ ys. cond (is_excl_kind n.kind) (record { held = map (placed nodes) ys; room = length (time_children nodes n.serial) }) (record { held = []; room = 0 }) ∷ map (playing_line nodes p) ns) (kept_same (serials (time_children nodes n.serial)))
        ∙ ap (λ ls. playing_line nodes q n ∷ ls) (over ns)

-- whether an element is paused where it is active
abbrev paused_in : List Entry → ℕ → Bool
paused_in diary s = fold (λ before (x : Entry). paused_after s before x.step) false diary

module _ (h : History) where
  resumed_active : (who : ℕ) → is_lawful_step h (Resumed who) ≡ true → is_active h.diary who ≡ true
  resumed_active who lawful = (and_parts (is_active h.diary who) (paused_in h.diary who) (and_parts (has_element h.nodes who) (is_paused h.diary who) lawful).1).0

  plays_step : (step : Step) (s : ℕ) → is_lawful_step h step ≡ true → plays_after (is_playing_by h.diary) step s ≡ (active_after s (is_active h.diary s) step && not (active_after s (is_active h.diary s) step && paused_after s (paused_in h.diary s) step))
  plays_step (Began who begin) s lawful = by (who == s)
    where
      by : (t : Bool) → (t || is_playing_by h.diary s) ≡ ((t || is_active h.diary s) && not ((t || is_active h.diary s) && cond t false (paused_in h.diary s)))
      by true = refl
      by false = refl
  plays_step (Resumed who) s lawful = by (who == s) refl
    where
      active : (a : Bool) → a ≡ true → true ≡ (a && not (a && false))
      active true e = refl
      active false e = cc

      by : (t : Bool) → who == s ≡ t → (t || is_playing_by h.diary s) ≡ (is_active h.diary s && not (is_active h.diary s && cond t false (paused_in h.diary s)))
      by true e = active (is_active h.diary s) (ap (is_active h.diary) (sym (eqb-true who s e)) ∙ resumed_active who lawful)
      by false e = refl
  plays_step (Paused who) s lawful = by (who == s) (is_active h.diary s)
    where
      by : (t a : Bool) → cond t false (a && not (a && paused_in h.diary s)) ≡ (a && not (a && (t || paused_in h.diary s)))
      by true true = refl
      by true false = refl
      by false a = refl
  plays_step (Ended who end') s lawful = by (who == s)
    where
      by : (t : Bool) → cond t false (is_playing_by h.diary s) ≡ (cond t false (is_active h.diary s) && not (cond t false (is_active h.diary s) && paused_in h.diary s))
      by true = refl
      by false = refl
  plays_step (Cut who) s lawful = by (who == s)
    where
      by : (t : Bool) → cond t false (is_playing_by h.diary s) ≡ (cond t false (is_active h.diary s) && not (cond t false (is_active h.diary s) && paused_in h.diary s))
      by true = refl
      by false = refl
  plays_step (Repeated who start) s lawful = refl
  plays_step (Deferred who begin) s lawful = refl
  plays_step (Passed who begin) s lawful = refl
  plays_step (Logged place) s lawful = refl

  pub plays_more : (nodes : List Node) (y : Entry) → h.nodes ≡ nodes → is_lawful_step h y.step ≡ true → playing_lines nodes (plays_after (is_playing_by h.diary) y.step) ≡ playing_lines h.nodes (is_playing_by (with_entry h y).diary)
  plays_more nodes y same lawful =
      ap (λ (ns : List Node). playing_lines ns (plays_after (is_playing_by h.diary) y.step)) (sym same)
      ∙ plays_same h.nodes (plays_after (is_playing_by h.diary) y.step) (is_playing_by (with_entry h y).diary)
      (λ s. plays_step y.step s lawful
      ∙ ap (λ a. a && not (a && paused_after s (paused_in h.diary s) y.step)) (sym (fold_push (λ before (x : Entry). active_after s before x.step) false h.diary y))
      ∙ ap (λ p. is_active (with_entry h y).diary s && not (is_active (with_entry h y).diary s && p)) (sym (fold_push (λ before (x : Entry). paused_after s before x.step) false h.diary y)))

-- ---- the element of a step

abbrev pub Starts : ℕ → Step → Type 0
Starts who step = ((begin : ℤ) × (step ≡ Began who begin)) ⊎ (step ≡ Resumed who)

abbrev pub Stops : ℕ → Step → Type 0
Stops who step = (step ≡ Paused who) ⊎ (((x : ℤ) × (step ≡ Ended who x)) ⊎ (step ≡ Cut who))

module _ (kept : List QueueState) (nodes : List Node) (step : Step) (h : History) (may : MayPlay kept nodes step h) where
  lawful_as : (other : Step) → step ≡ other → is_lawful_step h other ≡ true
  lawful_as other is = ap (is_lawful_step h) (sym is) ∙ may.step_lawful

  element_in : (who : ℕ) → has_element h.nodes who ≡ true → has_element nodes who ≡ true
  element_in who q = subst (λ (ns : List Node). has_element ns who ≡ true) may.same_nodes q

  not_true : (b : Bool) → not b ≡ true → b ≡ false
  not_true true e = cc
  not_true false e = refl

  starts_element : (who : ℕ) → Starts who step → has_element h.nodes who ≡ true
  starts_element who (inl w) = (and_parts (has_element h.nodes who) (may_begin h who) (lawful_as (Began who w.0) w.1)).0
  starts_element who (inr is) = (and_parts (has_element h.nodes who) (is_paused h.diary who) (lawful_as (Resumed who) is)).0

  pub starts_fresh : (who : ℕ) → Starts who step → is_playing_by h.diary who ≡ false
  starts_fresh who (inl w) =
      let parts = and_parts (has_element h.nodes who) (may_begin h who) (lawful_as (Began who w.0) w.1) in
      ap (λ a. a && not (is_paused h.diary who)) (not_true (is_active h.diary who) (and_parts (is_alive h who) (not (is_active h.diary who)) parts.1).1)
  starts_fresh who (inr is) = ap (λ p. is_active h.diary who && not p) (and_parts (has_element h.nodes who) (is_paused h.diary who) (lawful_as (Resumed who) is)).1 ∙ never (is_active h.diary who)
    where
      never : (a : Bool) → (a && false) ≡ false
      never true = refl
      never false = refl

  pub starts_idle : (who : ℕ) → Starts who step → IsIdle kept nodes who
  starts_idle who starts = record {
    plays = is_playing_by h.diary;
    value = may.value;
    known = element_in who (starts_element who starts);
    idle = starts_fresh who starts;
  }

  pub stops_known : (who : ℕ) → Stops who step → is_some (node_at nodes who) ≡ true
  stops_known who (inl is) = known_node nodes who (element_in who (and_parts (has_element h.nodes who) (is_active h.diary who && not (is_paused h.diary who)) (lawful_as (Paused who) is)).0)
  stops_known who (inr (inl w)) = known_node nodes who (element_in who (and_parts (has_element h.nodes who) (is_active h.diary who) (lawful_as (Ended who w.0) w.1)).0)
  stops_known who (inr (inr is)) = known_node nodes who (element_in who (and_parts (has_element h.nodes who) (is_active h.diary who) (lawful_as (Cut who) is)).0)

  pub all_lines : length kept ≡ length nodes
  all_lines = ap length may.value ∙ length-map nodes (playing_line nodes (is_playing_by h.diary))

pub started : (who : ℕ) (plays : ℕ → Bool) (nodes : List Node) (step : Step) → Starts who step → playing_lines nodes (with_play who plays) ≡ playing_lines nodes (plays_after plays step)
started who plays nodes step (inl w) = ap (λ x. playing_lines nodes (plays_after plays x)) (sym w.1)
started who plays nodes step (inr is) = ap (λ x. playing_lines nodes (plays_after plays x)) (sym is)

pub stopped : (who : ℕ) (plays : ℕ → Bool) (nodes : List Node) (step : Step) → Stops who step → playing_lines nodes (without_play who plays) ≡ playing_lines nodes (plays_after plays step)
stopped who plays nodes step (inl is) = ap (λ x. playing_lines nodes (plays_after plays x)) (sym is)
stopped who plays nodes step (inr (inl w)) = ap (λ x. playing_lines nodes (plays_after plays x)) (sym w.1)
stopped who plays nodes step (inr (inr is)) = ap (λ x. playing_lines nodes (plays_after plays x)) (sym is)

pub kind_known : (nodes : List Node) (excl : ℕ) → has_kind is_excl_kind (node_at nodes excl) ≡ true → is_some (node_at nodes excl) ≡ true
kind_known nodes excl q = by (node_at nodes excl) q
  where
    by : (o : Option Node) → has_kind is_excl_kind o ≡ true → is_some o ≡ true
    by None r = cc
    by (Some n) r = refl

-- ---- what is kept

abbrev pub kept_of : List QueueState → List QueueState → List Class → KeptQueues
kept_of queues playing classes = record { queues = queues; playing = playing; classes = classes }

pub kept_same : (queues queues2 playing playing2 : List QueueState) (classes classes2 : List Class) → queues ≡ queues2 → playing ≡ playing2 → classes ≡ classes2 → kept_of queues playing classes ≡ kept_of queues2 playing2 classes2
kept_same queues queues2 playing playing2 classes classes2 q p c =
    ap (λ x. kept_of x playing classes) q ∙ ap (λ x. kept_of queues2 x classes) p ∙ ap (kept_of queues2 playing2) c
