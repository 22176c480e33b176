-- A walk through a tree in document order: depths among the nodes before are those among the open ones.
use Rattle.std.proofs.Common.{◌≡◌, ℕ, suc, ◌+◌, ◌<◌, Bool, true, false, eqb, ltb, ◌&&◌, List, [], ◌∷◌, ◌++◌, length, take, drop, reverse, get_or, Option, Some, refl, sym, ap, subst, ◌∙◌, arith, append_assoc}
use Rattle.std.specs.Prelude.{flat_map, slice_get}
use Rattle.std.specs.List.{list_any, list_all}
use Rattle.std.proofs.lemmas.Bool.{and_parts, or_parts, eq-eqb, eqb-true, ltb-true, cond_both}
use Rattle.std.proofs.Math.Seq.{drop-cons}
use Rattle.std.proofs.lemmas.List.{reverse-append, take_more, take-append-drop, take_at}
use Rattle.std.proofs.lemmas.Option.{get_or_from_slice_get, slice_get_within, slice_get-get_or}
use Rattle.smil_model.specs.declared.document.Node.{Node}
use Rattle.smil_model.specs.declared.document.Kind.{Kind}
use Rattle.smil_model.specs.document.Document.{Document, upwards, node_at as node_with}
use Rattle.smil_model.specs.document.Valid.{open_from, IsTreeFrom, IsTree, IsDistinct, IsValid, depth_of, kind_of, may_stand, agree_with, is_well_placed, has_fitting_attrs}
use Rattle.smil_model.specs.document.Values.{is_seq_parent}
use Rattle.smil_model.specs.document.Words.{Begins}
use Rattle.smil_laws.proofs.UnreachedIntervals.{absent_reverse}
use Rattle.smil_laws.proofs.Lists.{reverse-around}
use Rattle.smil_outline.specs.Written.{line_text, lines_behind}
use Rattle.smil_grammar.specs.Allowed.{IsAttrs}
use Rattle.smil_grammar.specs.Outlines.{depth_among}
use Rattle.smil_model.proofs.GrowingTexts.{begins_by}
use Rattle.smil_attrs.proofs.EditedAttributes.{attrs_anywhere}
use Rattle.smil_outline.proofs.FittingAttributes.{fits}

-- nodes from the last to the first, with their depths
abbrev pub depths_back : List Node → List (ℕ × ℕ)
depths_back [] = []
depths_back (n ∷ before) = (n.serial, depth_among (depths_back before) n.parent) ∷ depths_back before

-- the depth of the node that comes next is the number of nodes above it
pub depth_up : (before : List Node) (serial : ℕ) → depth_among (depths_back before) serial ≡ length (upwards before serial)
depth_up [] serial = refl
depth_up (n ∷ before) serial = by (eqb n.serial serial) refl (depth_up before n.parent) (depth_up before serial)
  where
    by : (t : Bool) → eqb n.serial serial ≡ t → depth_among (depths_back before) n.parent ≡ length (upwards before n.parent) → depth_among (depths_back before) serial ≡ length (upwards before serial) → depth_among (depths_back (n ∷ before)) serial ≡ length (upwards (n ∷ before) serial)
    by true e above here = rw e (omega arith)
    by false e above here = rw e here

-- what is open, from the last node upwards: each is as deep as there are others above it
abbrev pub Levels : List Node → List ℕ → Type 0
Levels before [] = Unit {0}
Levels before (s ∷ above) = (depth_among (depths_back before) s ≡ suc (length above)) × Levels before above

-- no open node's serial comes again
abbrev pub AreFresh : List ℕ → List Node → Type 0
AreFresh [] rest = Unit {0}
AreFresh (s ∷ above) rest = (list_any (λ (m : Node). eqb m.serial s) rest ≡ false) × AreFresh above rest

-- before the root nothing is open
abbrev pub IsRest : List Node → List ℕ → List Node → Type 0
IsRest before [] rest = (before ≡ []) × IsTree rest
IsRest before (s ∷ above) rest = IsTreeFrom (s ∷ above) rest

-- a walk that has come so far, with what is before and what is left
pub record IsWalked (before : List Node) (opened : List ℕ) (rest : List Node) : Type 0 where
  pub levels : Levels before opened
  pub fresh : AreFresh opened rest
  pub distinct : IsDistinct rest
  pub tree : IsRest before opened rest

among_open : (before : List Node) (opened : List ℕ) (parent : ℕ) → Levels before opened → list_any (λ s. eqb s parent) opened ≡ true → depth_among (depths_back before) parent ≡ length (open_from parent opened)
among_open before [] parent h e = absurd cc
among_open before (s ∷ above) parent h e = by before s above parent (eqb s parent) refl h e (among_open before above parent h.1)
  where
    by : (before : List Node) (s : ℕ) (above : List ℕ) (parent : ℕ) (t : Bool) → eqb s parent ≡ t → Levels before (s ∷ above) → list_any (λ s. eqb s parent) (s ∷ above) ≡ true
        → (list_any (λ s. eqb s parent) above ≡ true → depth_among (depths_back before) parent ≡ length (open_from parent above)) → depth_among (depths_back before) parent ≡ length (open_from parent (s ∷ above))
    by before s above parent true t h e other = let same : s ≡ parent = eqb-true _ _ t in rw t (subst (λ (p : ℕ). depth_among (depths_back before) p ≡ suc (length above)) same h.0)
    by before s above parent false t h e other = let rest : list_any (λ s. eqb s parent) above ≡ true = rw t at e in rw t (other rest)

-- the next node's depth is the number of open nodes from its parent upwards
pub next_depth : (before : List Node) (opened : List ℕ) (n : Node) (rest : List Node) → IsWalked before opened (n ∷ rest) → depth_among (depths_back before) n.parent ≡ length (open_from n.parent opened)
next_depth before [] n rest h = ap (λ (nodes : List Node). depth_among (depths_back nodes) n.parent) h.tree.0
next_depth before (s ∷ above) n rest h = among_open before (s ∷ above) n.parent h.levels h.tree.0

-- what stays open

levels_from : (before : List Node) (opened : List ℕ) (parent : ℕ) → Levels before opened → Levels before (open_from parent opened)
levels_from before [] parent h = tt
levels_from before (s ∷ above) parent h = cond_both (eqb s parent) (s ∷ above) (open_from parent above) (Levels before) (λ e. h) (λ e. levels_from before above parent h.1)

fresh_from : (opened : List ℕ) (parent : ℕ) (rest : List Node) → AreFresh opened rest → AreFresh (open_from parent opened) rest
fresh_from [] parent rest h = tt
fresh_from (s ∷ above) parent rest h = cond_both (eqb s parent) (s ∷ above) (open_from parent above) (λ kept. AreFresh kept rest) (λ e. h) (λ e. fresh_from above parent rest h.1)

fresh_later : (opened : List ℕ) (n : Node) (rest : List Node) → AreFresh opened (n ∷ rest) → AreFresh opened rest
fresh_later [] n rest h = tt
fresh_later (s ∷ above) n rest h = ((or_parts (eqb n.serial s) (list_any (λ (m : Node). eqb m.serial s) rest) h.0).1, fresh_later above n rest h.1)

levels_later : (before : List Node) (opened : List ℕ) (n : Node) (rest : List Node) → Levels before opened → AreFresh opened (n ∷ rest) → Levels (n ∷ before) opened
levels_later before [] n rest h k = tt
levels_later before (s ∷ above) n rest h k =
    let differ : eqb n.serial s ≡ false = (or_parts (eqb n.serial s) (list_any (λ (m : Node). eqb m.serial s) rest) k.0).0 in
    (rw differ (h.0), levels_later before above n rest h.1 k.1)

pub walk_on : (before : List Node) (opened : List ℕ) (n : Node) (rest : List Node) → IsWalked before opened (n ∷ rest) → IsWalked (n ∷ before) (n.serial ∷ open_from n.parent opened) rest
walk_on before opened n rest h =
    let own : eqb n.serial n.serial ≡ true = eq-eqb _ _ refl in
    record {
      levels = (rw own (omega (arith, next_depth before opened n rest h)), levels_later before (open_from n.parent opened) n rest (levels_from before opened n.parent h.levels) (fresh_from opened n.parent (n ∷ rest) h.fresh));
      fresh = (h.distinct.0, fresh_from opened n.parent rest (fresh_later opened n rest h.fresh));
      distinct = h.distinct.1;
      tree = below before opened n rest h.tree;
    }
  where
    below : (before : List Node) (opened : List ℕ) (n : Node) (rest : List Node) → IsRest before opened (n ∷ rest) → IsTreeFrom (n.serial ∷ open_from n.parent opened) rest
    below before [] n rest h = h.1.1
    below before (s ∷ above) n rest h = h.1

-- the depth of a node in the whole tree

skip : (front back : List Node) (serial : ℕ) → list_any (λ (m : Node). eqb m.serial serial) front ≡ false → upwards (front ++ back) serial ≡ upwards back serial
skip [] back serial e = refl
skip (n ∷ front) back serial e =
    let parts = or_parts (eqb n.serial serial) (list_any (λ (m : Node). eqb m.serial serial) front) e in
    rw parts.0 (skip front back serial parts.1)

-- the depth in the walk is the node's depth
pub depth_is : (front : List Node) (n : Node) (rest : List Node) → IsDistinct (n ∷ rest) → depth_of (front ++ n ∷ rest) n.serial ≡ depth_among (depths_back (reverse front)) n.parent
depth_is front n rest h =
    let own : eqb n.serial n.serial ≡ true = eq-eqb _ _ refl in
    let here : upwards (n ∷ reverse front) n.serial ≡ n ∷ upwards (reverse front) n.parent = rw own refl in
    let up : upwards (reverse (front ++ n ∷ rest)) n.serial ≡ n ∷ upwards (reverse front) n.parent =
    ap (λ (nodes : List Node). upwards nodes n.serial) (reverse-around front n rest) ∙ skip (reverse rest) (n ∷ reverse front) n.serial (absent_reverse (λ (m : Node). eqb m.serial n.serial) rest h.0) ∙ here in
    ap (λ (nodes : List Node). length (drop 1 nodes)) up ∙ sym (depth_up (reverse front) n.parent)

-- ---- places in the list

pub record IsAt (nodes : List Node) (place : ℕ) (n : Node) : Type 0 where
  pub rest : drop place nodes ≡ n ∷ drop (place + 1) nodes
  pub before : reverse (take (place + 1) nodes) ≡ n ∷ reverse (take place nodes)
  pub all : nodes ≡ take place nodes ++ n ∷ drop (place + 1) nodes

pub node_at : (nodes : List Node) (place : ℕ) (n : Node) → slice_get nodes place ≡ Some n → IsAt nodes place n
node_at nodes place n e =
    let lt : place < length nodes = slice_get_within nodes place n e in
    let same : get_or nodes place n ≡ n = get_or_from_slice_get nodes place n n e in
    let next : suc place ≡ place + 1 = omega arith in
    let rest : drop place nodes ≡ n ∷ drop (place + 1) nodes = drop-cons nodes place n lt ∙ ap (λ (m : Node). m ∷ drop (suc place) nodes) same ∙ ap (λ (i : ℕ). n ∷ drop i nodes) next in
    record {
      rest = rest;
      before = ap reverse (take_more nodes place n lt ∙ ap (λ (m : Node). take place nodes ++ m ∷ []) same) ∙ reverse-append (take place nodes) (n ∷ []);
      all = sym (take-append-drop place nodes) ∙ ap (λ (back : List Node). take place nodes ++ back) rest;
    }

-- what is left of the outline
abbrev pub text_behind : Bool → List Node → List Node → List ℕ
text_behind saved before rest = flat_map (λ line. line ++ 10 ∷ []) (lines_behind saved (depths_back before) rest)

first_line : (saved : Bool) (before : List Node) (n : Node) (rest : List Node) → text_behind saved before (n ∷ rest) ≡ (line_text saved (depth_among (depths_back before) n.parent) n ++ 10 ∷ []) ++ text_behind saved (n ∷ before) rest
first_line true before n rest = refl
first_line false before n rest = refl

pub text_ends : (saved : Bool) (before : List Node) → text_behind saved before [] ≡ []
text_ends true before = refl
text_ends false before = refl

abbrev pub IsWalkedTo : List Node → ℕ → List ℕ → Type 0
IsWalkedTo nodes place opened = IsWalked (reverse (take place nodes)) opened (drop place nodes)

pub walk_starts : (document : Document) → IsValid document → IsWalkedTo document.nodes 0 []
walk_starts document h = record { levels = tt; fresh = tt; distinct = h.numbered.distinct; tree = (refl, h.numbered.tree) }

at_node : (nodes : List Node) (place : ℕ) (opened : List ℕ) (n : Node) → IsAt nodes place n → IsWalkedTo nodes place opened → IsWalked (reverse (take place nodes)) opened (n ∷ drop (place + 1) nodes)
at_node nodes place opened n at h = subst (λ (rest : List Node). IsWalked (reverse (take place nodes)) opened rest) at.rest h

pub walk_goes_on : (nodes : List Node) (place : ℕ) (opened : List ℕ) (n : Node) → slice_get nodes place ≡ Some n → IsWalkedTo nodes place opened → IsWalkedTo nodes (place + 1) (n.serial ∷ open_from n.parent opened)
walk_goes_on nodes place opened n e h =
    let at = node_at nodes place n e in
    subst (λ (before : List Node). IsWalked before (n.serial ∷ open_from n.parent opened) (drop (place + 1) nodes)) (sym at.before) (walk_on (reverse (take place nodes)) opened n (drop (place + 1) nodes) (at_node nodes place opened n at h))

pub text_goes_on : (saved : Bool) (nodes : List Node) (place : ℕ) (opened : List ℕ) (n : Node) (out new all : List ℕ) → slice_get nodes place ≡ Some n → IsWalkedTo nodes place opened
    → out ++ text_behind saved (reverse (take place nodes)) (drop place nodes) ≡ all
    → new ≡ out ++ line_text saved (length (open_from n.parent opened)) n ++ 10 ∷ []
    → new ++ text_behind saved (reverse (take (place + 1) nodes)) (drop (place + 1) nodes) ≡ all
text_goes_on saved nodes place opened n out new all e h so_far step =
    let at = node_at nodes place n e in
    let before : List Node = reverse (take place nodes) in
    let later : List ℕ = text_behind saved (n ∷ before) (drop (place + 1) nodes) in
    let line : List ℕ = line_text saved (length (open_from n.parent opened)) n in
    let depth : depth_among (depths_back before) n.parent ≡ length (open_from n.parent opened) = next_depth before opened n (drop (place + 1) nodes) (at_node nodes place opened n at h) in
    let left : text_behind saved before (drop place nodes) ≡ (line ++ 10 ∷ []) ++ later =
    ap (text_behind saved before) at.rest ∙ first_line saved before n (drop (place + 1) nodes) ∙ ap (λ (d : ℕ). (line_text saved d n ++ 10 ∷ []) ++ later) depth in
    ap (λ (nodes_before : List Node). new ++ text_behind saved nodes_before (drop (place + 1) nodes)) at.before
    ∙ ap (λ (front : List ℕ). front ++ later) step
    ∙ ap (λ (front : List ℕ). front ++ later) (append_assoc out line (10 ∷ []))
    ∙ append_assoc out (line ++ 10 ∷ []) later
    ∙ ap (λ (back : List ℕ). out ++ back) (sym left) ∙ so_far

-- ---- what a valid document says of the node

pub all_at : (p : Node → Bool) (front : List Node) (n : Node) (back : List Node) → list_all p (front ++ n ∷ back) ≡ true → p n ≡ true
all_at p [] n back h = (and_parts (p n) (list_all p back) h).0
all_at p (m ∷ front) n back h = all_at p front n back (and_parts (p m) (list_all p (front ++ n ∷ back)) h).1

pub passes_at : (p : Node → Bool) (nodes : List Node) (place : ℕ) (n : Node) → slice_get nodes place ≡ Some n → list_all p nodes ≡ true → p n ≡ true
passes_at p nodes place n e h =
    let at = node_at nodes place n e in
    all_at p (take place nodes) n (drop (place + 1) nodes) (subst (λ (all : List Node). list_all p all ≡ true) at.all h)

pub is_shallow : (document : Document) (place : ℕ) (opened : List ℕ) (n : Node) → IsValid document → slice_get document.nodes place ≡ Some n → IsWalkedTo document.nodes place opened → length (open_from n.parent opened) < 32
is_shallow document place opened n valid e h =
    let nodes : List Node = document.nodes in
    let at = node_at nodes place n e in
    let here = at_node nodes place opened n at h in
    let placed : is_well_placed nodes n ≡ true = passes_at (is_well_placed nodes) nodes place n e valid.placed in
    let front = and_parts (ltb (depth_of nodes n.serial) 32 && may_stand (kind_of (node_with nodes n.parent)) n.kind) (agree_with nodes n.parent n.kind) placed in
    let deep = and_parts (ltb (depth_of nodes n.serial) 32) (may_stand (kind_of (node_with nodes n.parent)) n.kind) front.0 in
    let low : depth_of nodes n.serial < 32 = ltb-true _ _ deep.0 in
    let depth : depth_of nodes n.serial ≡ length (open_from n.parent opened) =
    ap (λ (all : List Node). depth_of all n.serial) at.all ∙ depth_is (take place nodes) n (drop (place + 1) nodes) here.distinct ∙ next_depth (reverse (take place nodes)) opened n (drop (place + 1) nodes) here in
    omega arith

pub can_write_at : (document : Document) (place : ℕ) (n : Node) → IsValid document → slice_get document.nodes place ≡ Some n → IsAttrs false n.kind n.attrs
can_write_at document place n valid e =
    let parent : Option Kind = kind_of (node_with document.nodes n.parent) in
    attrs_anywhere (is_seq_parent parent) n.kind n.attrs (fits n.kind parent n.attrs (passes_at (has_fitting_attrs document.nodes) document.nodes place n e valid.fitting))

-- the item of a slice of the nodes is the node at its place
pub item_at : (all nodes : List Node) (i : ℕ) (n : Node) → all ≡ nodes → i < length all → n ≡ get_or all i n → slice_get nodes i ≡ Some n
item_at all nodes i n same lt is = ap (λ (ns : List Node). slice_get ns i) (sym same) ∙ slice_get-get_or all i n lt ∙ ap Some (sym is)

-- ---- what stands at the front

pub begins_more : (front text new x : List ℕ) → Begins front text → new ≡ text ++ x → Begins front new
begins_more front text new x h e = subst (Begins front) (sym e) (begins_by front text (text ++ x) h (take_at text x (length text) refl))
