-- The elements in whose views a step shows, among those at the places that are put in.
use Rattle.std.proofs.Common.{◌≡◌, refl, sym, ◌∙◌, ap, subst, ℕ, ◌-◌, List, [], ◌∷◌, Option, Some, None, Bool, true, false, length, take, drop, filter, reverse, eqb-true}
use Rattle.std.specs.Prelude.{◌||◌, ◌==◌, cond, find, is_some}
use Rattle.std.specs.List.{list_any, position}
use Rattle.std.proofs.lemmas.Option.{same_Some}
use Rattle.std.proofs.lemmas.List.Sorted.{list_any-IsPermutation, IsPermutation-reverse}
use Rattle.smil_model.specs.declared.diary.Entry.{Entry}
use Rattle.smil_model.specs.declared.diary.Step.{Step}
use Rattle.smil_model.specs.declared.document.Kind.{Kind}
use Rattle.smil_model.specs.declared.document.Node.{Node}
use Rattle.smil_model.specs.document.Document.{elements, is_element, is_excl_kind, is_seq_kind, is_within, node_at, serial_of, serials, time_parent, upwards}
use Rattle.smil_model.specs.document.Closure.{has}
use Rattle.smil_model.specs.document.Valid.{IsDistinct, kind_of}
use Rattle.smil_model.specs.diary.Diary.{History}
use Rattle.smil_laws.specs.Seen.{starts}
use Rattle.smil_graph.specs.Tables.{takes_turns}
use Rattle.smil_past.proofs.ElementPlaces.{parent_found}
use Rattle.smil_past.proofs.KnownNodes.{known_place}
use Rattle.smil_past.proofs.TimeParents.{IsUp}
use Rattle.smil_cells.specs.Shown.{displaced_in, rests_under, sequenced, shows_in}
use Rattle.std.proofs.lemmas.Bool.{or_left, or_parts, or_right}
use Rattle.smil_instances.proofs.IdTargets.{known_node}

or_none : (a b : Bool) → a ≡ false → b ≡ false → a || b ≡ false
or_none true b p q = cc
or_none false b p q = q

-- ---- who is within

-- a node that passes is among those that pass
there : (test : ℕ → Bool) (ns : List Node) (s : ℕ) → is_some (node_at ns s) ≡ true → test s ≡ true → has (serials (filter (λ (n : Node). test n.serial) ns)) s ≡ true
there test [] s q t = q
there test (n ∷ ns) s q t = by_test (n.serial == s) refl q (there test ns s)
  where
    by_test : (b : Bool) → n.serial == s ≡ b → is_some (cond b (Some n) (node_at ns s)) ≡ true
        → (is_some (node_at ns s) ≡ true → test s ≡ true → has (serials (filter (λ (n : Node). test n.serial) ns)) s ≡ true)
        → has (serials (cond (test n.serial) (n ∷ filter (λ (m : Node). test m.serial) ns) (filter (λ (m : Node). test m.serial) ns))) s ≡ true
    by_test true e p below =
        subst (λ (c : Bool). has (serials (cond c (n ∷ filter (λ (m : Node). test m.serial) ns) (filter (λ (m : Node). test m.serial) ns))) s ≡ true)
        (sym (ap test (eqb-true n.serial s e) ∙ t))
        (or_left (n.serial == s) (has (serials (filter (λ (m : Node). test m.serial) ns)) s) e)
    by_test false e p below = by_own (test n.serial) (below p t)
      where
        by_own : (c : Bool) → has (serials (filter (λ (m : Node). test m.serial) ns)) s ≡ true → has (serials (cond c (n ∷ filter (λ (m : Node). test m.serial) ns) (filter (λ (m : Node). test m.serial) ns))) s ≡ true
        by_own true r = or_right (n.serial == s) (has (serials (filter (λ (m : Node). test m.serial) ns)) s) r
        by_own false r = r

-- an element within a node is among the nodes within it
pub within_there : (nodes : List Node) (x : ℕ) (e : Node) → node_at (elements nodes) e.serial ≡ Some e → is_within nodes x e.serial ≡ true
    → has (serials (filter (λ (n : Node). is_within nodes x n.serial) nodes)) e.serial ≡ true
within_there nodes x e here q = there (λ (s : ℕ). is_within nodes x s) nodes e.serial (known_node nodes e.serial (ap (λ (o : Option Node). is_some o) here)) q

-- ---- a serial that no node has

any_up : (x : ℕ) (rs : List Node) (s : ℕ) → list_any (λ (a : Node). a.serial == x) rs ≡ false → list_any (λ (a : Node). a.serial == x) (upwards rs s) ≡ false
any_up x [] s q = refl
any_up x (n ∷ before) s q =
    let parts = or_parts (n.serial == x) (list_any (λ (a : Node). a.serial == x) before) q in
    by_here (n.serial == s) parts.0 (any_up x before n.parent parts.1) (any_up x before s parts.1)
  where
    by_here : (b : Bool) → n.serial == x ≡ false → list_any (λ (a : Node). a.serial == x) (upwards before n.parent) ≡ false → list_any (λ (a : Node). a.serial == x) (upwards before s) ≡ false
        → list_any (λ (a : Node). a.serial == x) (cond b (n ∷ upwards before (cond b n.parent s)) (upwards before (cond b n.parent s))) ≡ false
    by_here true own up still = or_none (n.serial == x) (list_any (λ (a : Node). a.serial == x) (upwards before n.parent)) own up
    by_here false own up still = still

none_any : (x : ℕ) (ns : List Node) → is_some (node_at ns x) ≡ false → list_any (λ (a : Node). a.serial == x) ns ≡ false
none_any x [] q = refl
none_any x (n ∷ ns) q = by_test (n.serial == x) q (none_any x ns)
  where
    by_test : (b : Bool) → is_some (cond b (Some n) (node_at ns x)) ≡ false → (is_some (node_at ns x) ≡ false → list_any (λ (a : Node). a.serial == x) ns ≡ false) → b || list_any (λ (a : Node). a.serial == x) ns ≡ false
    by_test true p below = cc
    by_test false p below = below p

pub no_node_within : (nodes : List Node) (x s : ℕ) → is_some (node_at nodes x) ≡ false → is_within nodes x s ≡ false
no_node_within nodes x s q =
    any_up x (reverse nodes) s (sym (list_any-IsPermutation (λ (a : Node). a.serial == x) nodes (reverse nodes) (IsPermutation-reverse nodes)) ∙ none_any x nodes q)

-- nothing is above it, and it has no time parent
none_up : (x : ℕ) (rs : List Node) → list_any (λ (a : Node). a.serial == x) rs ≡ false → upwards rs x ≡ []
none_up x [] q = refl
none_up x (n ∷ before) q = by_here (n.serial == x) q (none_up x before)
  where
    by_here : (b : Bool) → b || list_any (λ (a : Node). a.serial == x) before ≡ false → (list_any (λ (a : Node). a.serial == x) before ≡ false → upwards before x ≡ [])
        → cond b (n ∷ upwards before (cond b n.parent x)) (upwards before (cond b n.parent x)) ≡ []
    by_here true p below = cc
    by_here false p below = below p

none_above : (nodes : List Node) (x : ℕ) → is_some (node_at nodes x) ≡ false → time_parent nodes x ≡ None
none_above nodes x q =
    ap (λ (l : List Node). find is_element (drop 1 l))
    (none_up x (reverse nodes) (sym (list_any-IsPermutation (λ (a : Node). a.serial == x) nodes (reverse nodes) (IsPermutation-reverse nodes)) ∙ none_any x nodes q))

-- ---- where a step shows

-- a step of a serial that no node has shows nowhere
pub no_node_shows : (h : History) (step : Step) (x s : ℕ) → is_some (node_at h.nodes x) ≡ false → shows_in h step x s ≡ false
no_node_shows h step x s q =
    or_none (is_within h.nodes x s) (rests_under h (displaced_in h.nodes step x) s) (no_node_within h.nodes x s q)
    (ap (λ (o : Option Node). rests_under h (cond (starts step) (sequenced o) None) s) (none_above h.nodes x q) ∙ by_start (starts step))
  where
    by_start : (b : Bool) → rests_under h (cond b None None) s ≡ false
    by_start true = refl
    by_start false = refl

-- ---- what a kind is

pub kept_kind : (nodes : List Node) (who parent : ℕ) (kind : Kind) (step : Step) (t : Bool) (above : IsUp nodes who parent) → Some kind ≡ kind_of (node_at nodes parent) → starts step ≡ true → (is_seq_kind kind || is_excl_kind kind) ≡ t
    → serial_of (displaced_in nodes step who) ≡ cond t (Some parent) None
kept_kind nodes who parent kind step t above q started is =
    ap (λ (b : Bool). serial_of (cond b (sequenced (time_parent nodes who)) None)) started
    ∙ (ap (λ (o : Option Node). serial_of (sequenced o)) above.under
    ∙ (ap (λ (b : Bool). serial_of (cond b (Some above.node) None)) (ap (λ (k : Kind). is_seq_kind k || is_excl_kind k) (sym (same_Some kind above.node.kind (q ∙ ap kind_of above.known))) ∙ is)
    ∙ by t))
  where
    by : (b : Bool) → serial_of (cond b (Some above.node) None) ≡ cond b (Some parent) None
    by true = ap Some above.serial
    by false = refl

pub turns_there : (nodes : List Node) (who parent : ℕ) (kind : Kind) → IsDistinct nodes → is_some (node_at nodes who) ≡ true → (above : IsUp nodes who parent) → Some kind ≡ kind_of (node_at nodes parent) → (is_seq_kind kind || is_excl_kind kind) ≡ true
    → takes_turns (node_at (elements nodes) parent) ≡ true
turns_there nodes who parent kind distinct known above q is =
    ap takes_turns (ap (node_at (elements nodes)) (sym above.serial) ∙ parent_found nodes who above.node distinct known above.under)
    ∙ (ap (λ (k : Kind). is_seq_kind k || is_excl_kind k) (sym (same_Some kind above.node.kind (q ∙ ap kind_of above.known))) ∙ is)

pub turns_known : (o : Option Node) → takes_turns o ≡ true → is_some o ≡ true
turns_known None q = cc
turns_known (Some n) q = refl

pub none_displaced : (nodes : List Node) (step : Step) (who : ℕ) → None ≡ serial_of (time_parent nodes who) → serial_of (displaced_in nodes step who) ≡ None
none_displaced nodes step who q = by_start (starts step) (by_parent (time_parent nodes who) q)
  where
    by_parent : (o : Option Node) → None ≡ serial_of o → serial_of (sequenced o) ≡ None
    by_parent None e = refl
    by_parent (Some p) e = cc

    by_start : (b : Bool) → serial_of (sequenced (time_parent nodes who)) ≡ None → serial_of (cond b (sequenced (time_parent nodes who)) None) ≡ None
    by_start true e = e
    by_start false e = refl

-- ---- the entries one after another

-- those from an index on, as the slice of them is
abbrev pub entries_from : List Entry → ℕ → List Entry
entries_from entries from = take (length entries - from) (drop from entries)

-- ---- a serial without a place

pub no_place : (nodes : List Node) (x : ℕ) → is_some (position (λ (n : Node). n.serial == x) nodes) ≡ false → is_some (node_at nodes x) ≡ false
no_place nodes x q = by_test (is_some (node_at nodes x)) refl
  where
    by_test : (b : Bool) → is_some (node_at nodes x) ≡ b → b ≡ false
    by_test true e = let never : true ≡ false = sym (known_place nodes x e) ∙ q in cc
    by_test false e = refl
