-- A change of the queue of one node.
use Rattle.std.proofs.Common.{◌≡◌, refl, sym, ◌∙◌, ap, subst, ℕ, zero, suc, ◌+◌, ◌<◌, ◌≤◌, List, [], ◌∷◌, Option, Some, None, Bool, true, false, length, get_or, arith}
use Rattle.std.specs.Prelude.{cond, not, ◌==◌, nat_lt, map, set, slice_get, option_map}
use Rattle.std.specs.List.{AllByRecursion, position}
use Rattle.std.specs.Option.{option_and_then}
use Rattle.std.proofs.lemmas.Bool.{ltb-true, ltb-false, lt-ltb, le-ltb, eq-eqb}
use Rattle.std.proofs.lemmas.List.{length-map}
use Rattle.std.proofs.lemmas.Option.{slice_get-map, get_or_from_slice_get, same_Some}
use Rattle.smil_model.specs.declared.document.Node.{Node}
use Rattle.smil_model.specs.document.Document.{has_serial, time_children, time_parent}
use Rattle.smil_model.specs.document.Valid.{IsDistinct}
use Rattle.smil_model.specs.happening.Queue.{is_child_of, rank, without}
use Rattle.smil_laws.proofs.LineageParents.{swap_eqb}
use Rattle.smil_laws.proofs.AsideDocuments.{map_all}
use Rattle.smil_laws.proofs.ListMembers.{differ_each}
use Rattle.smil_laws.proofs.Lists.{each_at}
use Rattle.smil_excl.specs.declared.queued_child.QueuedChild.{QueuedChild}
use Rattle.smil_excl.specs.QueueState.{QueueState, line_in, ranked}
use Rattle.smil_excl.proofs.QueuePlaces.{without_is_without}
use Rattle.smil_tree.specs.Outline.{parent_place}
use Rattle.smil_stretch.proofs.NodePlaces.{place, IsFound, found_at}
use Rattle.smil_past.specs.Queues.{AreWithout, HasRoom, lines, without_child}

-- another value at the place of one node
pub changed_there : (f g : Node → QueueState) (ns : List Node) (k : ℕ) (n : Node) → IsDistinct ns → slice_get ns k ≡ Some n → ((m : Node) → n.serial == m.serial ≡ false → f m ≡ g m) → set (map f ns) k (g n) ≡ map g ns
changed_there f g [] k n d at same = cc
changed_there f g (m ∷ ns) zero n d at same =
    let one : m ≡ n = cc in
    ap (λ (x : Node). g x ∷ map f ns) (sym one)
    ∙ ap (λ ls. g m ∷ ls)
    (map_all (λ (x : Node). x.serial == m.serial ≡ false) f g ns (differ_each m.serial ns d.0)
    (λ (x : Node) q. same x (ap (λ (y : Node). y.serial == x.serial) (sym one) ∙ swap_eqb x.serial m.serial q)))
changed_there f g (m ∷ ns) (suc k) n d at same =
    ap (λ l. l ∷ set (map f ns) k (g n)) (same m (each_at (λ (x : Node). x.serial == m.serial ≡ false) ns k n (differ_each m.serial ns d.0) at))
    ∙ ap (λ ls. g m ∷ ls) (changed_there f g ns k n d.1 at same)

-- the node at the place of a serial
pub node_there : (ns : List Node) (k s : ℕ) → Some k ≡ position (λ (n : Node). n.serial == s) ns → IsFound ns s k
node_there ns k s q = by_test (nat_lt (place s ns) (length ns)) refl q
  where
    by_test : (t : Bool) → nat_lt (place s ns) (length ns) ≡ t → Some k ≡ cond t (Some (place s ns)) None → IsFound ns s k
    by_test true e r = subst (λ j. IsFound ns s j) (sym (same_Some k (place s ns) r)) (found_at s ns (ltb-true (place s ns) (length ns) e))
    by_test false e r = cc

none_from : (s : ℕ) (ns : List Node) → nat_lt (place s ns) (length ns) ≡ false → AllByRecursion (λ (n : Node). n.serial == s ≡ false) ns
none_from s [] q = tt
none_from s (n ∷ ns) q = step (n.serial == s) refl q (none_from s ns)
  where
    step : (t : Bool) → n.serial == s ≡ t → nat_lt (cond (not t) (1 + place s ns) 0) (suc (length ns)) ≡ false → (nat_lt (place s ns) (length ns) ≡ false → AllByRecursion (λ (m : Node). m.serial == s ≡ false) ns) → (n.serial == s ≡ false) × AllByRecursion (λ (m : Node). m.serial == s ≡ false) ns
    step true e r later = let never : true ≡ false = sym (lt-ltb 0 (suc (length ns)) (omega arith)) ∙ r in cc
    step false e r later = let most : suc (length ns) ≤ 1 + place s ns = ltb-false (1 + place s ns) (suc (length ns)) r in (e, later (le-ltb (place s ns) (length ns) (omega (arith, most))))

pub none_there : (ns : List Node) (s : ℕ) → None ≡ position (λ (n : Node). n.serial == s) ns → AllByRecursion (λ (n : Node). n.serial == s ≡ false) ns
none_there ns s q = by_test (nat_lt (place s ns) (length ns)) refl q
  where
    by_test : (t : Bool) → nat_lt (place s ns) (length ns) ≡ t → None ≡ cond t (Some (place s ns)) None → AllByRecursion (λ (n : Node). n.serial == s ≡ false) ns
    by_test true e r = cc
    by_test false e r = none_from s ns e

module _ (nodes : List Node) (queue after : ℕ → List ℕ) where
  abbrev line : (ℕ → List ℕ) → ℕ → QueueState
  line held s = line_in nodes s (held s)

  pub lines_same : ((e : ℕ) → queue e ≡ after e) → lines nodes queue ≡ lines nodes after
  lines_same same = over nodes
    where
      over : (ns : List Node) → map (λ (n : Node). line queue n.serial) ns ≡ map (λ (n : Node). line after n.serial) ns
      over [] = refl
      over (n ∷ ns) = ap (λ q. line_in nodes n.serial q ∷ map (λ (m : Node). line queue m.serial) ns) (same n.serial) ∙ ap (λ ls. line after n.serial ∷ ls) (over ns)

  -- no node has the serial
  pub queue_absent : (s : ℕ) → None ≡ position (λ (n : Node). n.serial == s) nodes → ((e : ℕ) → s == e ≡ false → queue e ≡ after e) → lines nodes queue ≡ lines nodes after
  queue_absent s q same =
      map_all (λ (n : Node). n.serial == s ≡ false) (λ (n : Node). line queue n.serial) (λ (n : Node). line after n.serial) nodes (none_there nodes s q)
      (λ (n : Node) r. ap (line_in nodes n.serial) (same n.serial (swap_eqb n.serial s r)))

  -- the queue of the node with this serial is another
  pub queue_changed : (kept : List QueueState) (k s : ℕ) (now : QueueState) → IsDistinct nodes → kept ≡ lines nodes queue → Some k ≡ position (λ (n : Node). n.serial == s) nodes → now ≡ line_in nodes s (after s) → ((e : ℕ) → s == e ≡ false → queue e ≡ after e) → set kept k now ≡ lines nodes after
  queue_changed kept k s now d is q value same =
      let found = node_there nodes k s q in
      ap (λ ls. set ls k now) is
      ∙ ap (λ l. set (lines nodes queue) k l) (value ∙ ap (λ x. line after x) (sym found.serial))
      ∙ changed_there (λ (m : Node). line queue m.serial) (λ (m : Node). line after m.serial) nodes k found.node d found.at (λ (m : Node) r. ap (line_in nodes m.serial) (same m.serial (ap (λ x. x == m.serial) (sym found.serial) ∙ r)))

-- the queues without an element that is in none of them
pub lines_without : (nodes : List Node) (who : ℕ) (queue : ℕ → List ℕ) → ((e : ℕ) → without who (queue e) ≡ queue e) → AreWithout who (lines nodes queue)
lines_without nodes who queue same = over nodes
  where
    over : (ns : List Node) → AreWithout who (map (λ (n : Node). line_in nodes n.serial (queue n.serial)) ns)
    over [] = tt
    over (n ∷ ns) = (without_is_without nodes who (queue n.serial) ∙ ap (map (ranked nodes)) (same n.serial), over ns)

-- so they are those that it has left
pub none_left : (nodes : List Node) (who : ℕ) (queue : ℕ → List ℕ) (kept : List QueueState) → kept ≡ lines nodes queue → AreWithout who kept → lines nodes queue ≡ lines nodes (without_child nodes who queue)
none_left nodes who queue kept is out = over nodes (subst (AreWithout who) is out)
  where
    left : (t : Bool) (held : List ℕ) → map (ranked nodes) (without who held) ≡ map (ranked nodes) held → map (ranked nodes) held ≡ map (ranked nodes) (cond t (without who held) held)
    left true held same = sym same
    left false held same = refl

    over : (ns : List Node) → AreWithout who (map (λ (n : Node). line_in nodes n.serial (queue n.serial)) ns) → map (λ (n : Node). line_in nodes n.serial (queue n.serial)) ns ≡ map (λ (n : Node). line_in nodes n.serial (without_child nodes who queue n.serial)) ns
    over [] each = refl
    over (n ∷ ns) each =
        ap (λ held. record { held = held; room = length (time_children nodes n.serial) } ∷ map (λ (m : Node). line_in nodes m.serial (queue m.serial)) ns)
        (left (is_child_of nodes n.serial who) (queue n.serial) (sym (without_is_without nodes who (queue n.serial)) ∙ each.0))
        ∙ ap (λ ls. line_in nodes n.serial (without_child nodes who queue n.serial) ∷ ls) (over ns each.1)

-- the queue of a node
pub line_there : (nodes : List Node) (queue : ℕ → List ℕ) (kept : List QueueState) (k s : ℕ) (d : QueueState) → kept ≡ lines nodes queue → Some k ≡ position (λ (n : Node). n.serial == s) nodes → get_or kept k d ≡ line_in nodes s (queue s)
line_there nodes queue kept k s d is q =
    let found = node_there nodes k s q in
    get_or_from_slice_get kept k (line_in nodes s (queue s)) d
    (ap (λ ls. slice_get ls k) is ∙ slice_get-map (λ (n : Node). line_in nodes n.serial (queue n.serial)) nodes k ∙ ap (option_map (λ (n : Node). line_in nodes n.serial (queue n.serial))) found.at
    ∙ ap (λ x. Some (line_in nodes x (queue x))) found.serial)

-- ---- the queue of the time parent

pub record IsParent (nodes : List Node) (who k : ℕ) : Type 0 where
  pub parent : ℕ
  pub at : Some k ≡ position (λ (n : Node). n.serial == parent) nodes
  pub children : (e : ℕ) → is_child_of nodes e who ≡ (parent == e)

pub parent_there : (nodes : List Node) (who k : ℕ) → Some k ≡ parent_place nodes who → IsParent nodes who k
parent_there nodes who k q = by_parent (time_parent nodes who) refl q
  where
    by_parent : (o : Option Node) → time_parent nodes who ≡ o → Some k ≡ option_and_then (λ (p : Node). position (λ (n : Node). n.serial == p.serial) nodes) o → IsParent nodes who k
    by_parent None e r = cc
    by_parent (Some p) e r = record { parent = p.serial; at = r; children = λ x. ap (has_serial x) e }

-- the queue of the time parent after a change
abbrev pub joined : List Node → ℕ → (List ℕ → List ℕ) → (ℕ → List ℕ) → ℕ → List ℕ
joined nodes who change queue e = cond (is_child_of nodes e who) (change (queue e)) (queue e)

module _ (nodes : List Node) (who : ℕ) (change : List ℕ → List ℕ) (queue : ℕ → List ℕ) where
  others_same : (e : ℕ) → is_child_of nodes e who ≡ false → queue e ≡ joined nodes who change queue e
  others_same e c = sym (ap (λ t. cond t (change (queue e)) (queue e)) c)

  pub child_absent : None ≡ parent_place nodes who → lines nodes queue ≡ lines nodes (joined nodes who change queue)
  child_absent q = by_parent (time_parent nodes who) refl q
    where
      by_parent : (o : Option Node) → time_parent nodes who ≡ o → None ≡ option_and_then (λ (p : Node). position (λ (n : Node). n.serial == p.serial) nodes) o → lines nodes queue ≡ lines nodes (joined nodes who change queue)
      by_parent None e r = lines_same nodes queue (joined nodes who change queue) (λ x. others_same x (ap (has_serial x) e))
      by_parent (Some p) e r = queue_absent nodes queue (joined nodes who change queue) p.serial r (λ x s. others_same x (ap (has_serial x) e ∙ s))

  pub child_changed : (kept : List QueueState) (k : ℕ) (now : QueueState) (of : IsParent nodes who k) → IsDistinct nodes → kept ≡ lines nodes queue → now ≡ line_in nodes of.parent (change (queue of.parent)) → set kept k now ≡ lines nodes (joined nodes who change queue)
  child_changed kept k now of d is value =
      queue_changed nodes queue (joined nodes who change queue) kept k of.parent now d is of.at
      (value ∙ ap (λ t. line_in nodes of.parent (cond t (change (queue of.parent)) (queue of.parent))) (sym (of.children of.parent ∙ itself of.parent)))
      (λ e s. others_same e (of.children e ∙ s))
    where
      itself : (s : ℕ) → s == s ≡ true
      itself s = eq-eqb s s refl

-- ---- a child is put in

module _ (nodes : List Node) (who k : ℕ) (kept : List QueueState) (d : QueueState) (q : Some k ≡ parent_place nodes who) where
  -- the queue of the time parent has room
  pub room_there : HasRoom kept nodes who → length (get_or kept k d).held < (get_or kept k d).room
  room_there room =
      let of = parent_there nodes who k q in
      subst (λ (l : QueueState). length l.held < l.room) (sym (line_there nodes room.queue kept k of.parent d room.value of.at))
      (subst (λ n. n < (line_in nodes of.parent (room.queue of.parent)).room) (sym (length-map (room.queue of.parent) (ranked nodes)))
      (room.room of.parent (of.children of.parent ∙ eq-eqb of.parent of.parent refl)))

  -- and what is put in it with its rank is what the model puts in
  pub put_there : (put : QueuedChild → List QueuedChild → List QueuedChild) (change : List ℕ → List ℕ) → ((queue : List ℕ) → put (ranked nodes who) (map (ranked nodes) queue) ≡ map (ranked nodes) (change queue)) → (r : ℕ) (now : QueueState) (queue : ℕ → List ℕ) → IsDistinct nodes → kept ≡ lines nodes queue → r ≡ rank nodes who → now ≡ record { held = put (record { who = who; rank = r }) (get_or kept k d).held; room = (get_or kept k d).room } → set kept k now ≡ lines nodes (joined nodes who change queue)
  put_there put change same r now queue distinct is ranks made =
      let of = parent_there nodes who k q in
      child_changed nodes who change queue kept k now of distinct is
      (made
      ∙ ap (λ r. record { held = put (record { who = who; rank = r }) (get_or kept k d).held; room = (get_or kept k d).room }) ranks
      ∙ ap (λ (l : QueueState). record { held = put (ranked nodes who) l.held; room = l.room }) (line_there nodes queue kept k of.parent d is of.at)
      ∙ ap (λ held. record (line_in nodes of.parent (queue of.parent)) { held = held }) (same (queue of.parent)))
