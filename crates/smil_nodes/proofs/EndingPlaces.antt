-- Where the endings of elements stand, and the ends of their time children at first.
use Rattle.std.proofs.Common.{◌≡◌, refl, sym, ◌∙◌, ap, subst, ℕ, zero, suc, ◌+◌, ◌<◌, ◌≤◌, List, [], ◌∷◌, ◌++◌, length, get_or, take, map, arith, Option, Some, None, Bool, true, false}
use Rattle.std.proofs.Math.ListN.{length-set}
use Rattle.std.specs.Prelude.{◌||◌, ◌==◌, cond, filter, nat_lt, not, set, slice_get, slice_index_or}
use Rattle.std.specs.List.{position, position_or_len}
use Rattle.std.proofs.lemmas.Bool.{and_from, eq-eqb, eqb-true, lt-ltb, or_left, or_right}
use Rattle.std.proofs.lemmas.List.{length-map, map-append, take_more}
use Rattle.std.proofs.lemmas.Option.{get_or_from_slice_get, slice_get-get_or, slice_get_within}
use Rattle.smil_model.specs.declared.document.Node.{Node}
use Rattle.smil_model.specs.declared.interval.ChildEnd.{ChildEnd}
use Rattle.smil_model.specs.document.Document.{Document, elements, has_serial, is_element, is_time_child, node_at, serial_of, serials, time_children, time_parent}
use Rattle.smil_model.specs.document.Valid.{IsDistinct, IsNumberedTree}
use Rattle.smil_model.specs.document.Closure.{has}
use Rattle.smil_laws.proofs.RoundsRest.{find-serial}
use Rattle.smil_past.proofs.ItemReferences.{stands}
use Rattle.smil_element.proofs.KnownElements.{IsChild, child_at, known_node, passes}
use Rattle.smil_rounds.specs.declared.current_rows.CurrentRow.{CurrentRow}
use Rattle.smil_rounds.specs.Round.{AreOfElements}
use Rattle.smil_rounds.proofs.RowsBesideElements.{element_at, first_at, serials_in, there_at}
use Rattle.smil_rounds.proofs.RowEvaluated.{IsFound, elements_differ}
use Rattle.smil_nodes.specs.declared.endings.Home.{Home}
use Rattle.smil_endsync.specs.Ends.{set_ends}
use Rattle.smil_element.specs.declared.endings.Ending.{Ending}
use Rattle.smil_nodes.specs.Endings.{AreHomes, AreHoused, HasHome, HaveHomes, IsHome, home_at, named_end, named_ends, put_among}
use Rattle.smil_nodes.proofs.RowAtElement.{first_serial}
use Rattle.smil_laws.proofs.Lists.{filter_shorter}

-- ---- homes one after another

pub home_each : (nodes es : List Node) (homes : List (Option Home)) (k : ℕ) (e : Node) → HaveHomes nodes es homes → slice_get es k ≡ Some e → HasHome nodes e.serial (home_at homes k)
home_each nodes [] homes k e have at = absurd (cc)
home_each nodes (d ∷ es) [] k e have at = absurd have
home_each nodes (d ∷ es) (o ∷ os) zero e have at =
    let one : d ≡ e = cc in
    subst (λ (n : Node). HasHome nodes n.serial o) one have.0
home_each nodes (d ∷ es) (o ∷ os) (suc k) e have at = home_each nodes es os k e have.1 at

pub home_more : (nodes es : List Node) (homes : List (Option Home)) (e : Node) (o : Option Home) → HaveHomes nodes es homes → HasHome nodes e.serial o → HaveHomes nodes (es ++ e ∷ []) (homes ++ o ∷ [])
home_more nodes [] [] e o have has = (has, tt)
home_more nodes [] (p ∷ ps) e o have has = absurd have
home_more nodes (d ∷ es) [] e o have has = absurd have
home_more nodes (d ∷ es) (p ∷ ps) e o have has = (have.0, home_more nodes es ps e o have.1 has)

-- one that is found is that of an element
home_of_place : (nodes es : List Node) (homes : List (Option Home)) (k : ℕ) (home : Home) → HaveHomes nodes es homes → home_at homes k ≡ Some home → (e : Node) × IsHome nodes e.serial home
home_of_place nodes [] [] k home have at = absurd (cc)
home_of_place nodes [] (o ∷ os) k home have at = absurd have
home_of_place nodes (e ∷ es) [] k home have at = absurd have
home_of_place nodes (e ∷ es) (o ∷ os) zero home have at = (e, subst (HasHome nodes e.serial) at have.0)
home_of_place nodes (e ∷ es) (o ∷ os) (suc k) home have at = home_of_place nodes es os k home have.1 at

pub ends_at : (f : Node → List ChildEnd) (ns : List Node) (k : ℕ) (n : Node) → slice_get ns k ≡ Some n → slice_index_or (map f ns) k [] ≡ f n
ends_at f [] k n at = absurd (cc)
ends_at f (m ∷ ns) zero n at = let one : m ≡ n = cc in ap f one
ends_at f (m ∷ ns) (suc k) n at = ends_at f ns k n at

-- each is among the ends of a container
pub housed : (nodes : List Node) (homes : List (Option Home)) (ends : List (List ChildEnd)) → AreHomes nodes homes → ends ≡ map (named_ends nodes) (elements nodes) → AreHoused homes ends
housed nodes homes ends have are place home at =
    let is = (home_of_place nodes (elements nodes) homes place home have at).1 in
    let within : home.container < length (elements nodes) = slice_get_within (elements nodes) home.container is.container is.above in
    let many : length ends ≡ length (elements nodes) = ap (λ (es : List (List ChildEnd)). length es) are ∙ length-map (elements nodes) (named_ends nodes) in
    let own : home.child < length (time_children nodes (is.container).serial) = slice_get_within (time_children nodes (is.container).serial) home.child is.element is.child in
    let row : slice_index_or ends home.container [] ≡ named_ends nodes is.container = ap (λ (es : List (List ChildEnd)). slice_index_or es home.container []) are ∙ ends_at (named_ends nodes) (elements nodes) home.container is.container is.above in
    let count : length (slice_index_or ends home.container []) ≡ length (time_children nodes (is.container).serial) = ap (λ (cs : List ChildEnd). length cs) row ∙ length-map (time_children nodes (is.container).serial) (named_end is.container) in
    (omega (arith, within, many), omega (arith, own, count))

-- ---- the element of a row

pub record IsRowed (nodes : List Node) (place who : ℕ) : Type 0 where
  pub element : Node
  pub here : slice_get (elements nodes) place ≡ Some element
  pub own : element.serial ≡ who
  pub known : node_at (elements nodes) who ≡ Some element

rowed : (nodes : List Node) (rows : List CurrentRow) (place : ℕ) (row : CurrentRow) → IsDistinct nodes → AreOfElements nodes rows → slice_get rows place ≡ Some row → IsRowed nodes place row.serial
rowed nodes rows place row distinct same got =
    let at = element_at (elements nodes) rows place row same got in
    let differ = elements_differ nodes distinct in
    let own : row.serial ≡ (at.0).serial = first_serial (at.0).serial rows place row (first_at (elements nodes) rows place at.0 differ same at.1) got in
    record {
      element = at.0;
      here = at.1;
      own = sym own;
      known = ap (node_at (elements nodes)) own ∙ there_at (elements nodes) place at.0 differ at.1;
    }

-- the same in a list that has the rows
pub rowed_in : (nodes : List Node) (rows read : List CurrentRow) (place : ℕ) (d : CurrentRow) → IsDistinct nodes → AreOfElements nodes rows → read ≡ rows → place < length read → IsRowed nodes place (get_or read place d).serial
rowed_in nodes rows read place d distinct same is within =
    rowed nodes read place (get_or read place d) distinct (ap serials_in is ∙ same) (slice_get-get_or read place d within)

pub rows_count : (nodes : List Node) (rows : List CurrentRow) → AreOfElements nodes rows → length rows ≡ length (elements nodes)
rows_count nodes rows same =
    sym (length-map rows (λ (r : CurrentRow). r.serial)) ∙ ap (λ (ss : List ℕ). length ss) same ∙ length-map (elements nodes) (λ (n : Node). n.serial)

-- the homes with that of one element more
pub homes_next : (nodes : List Node) (homes new : List (Option Home)) (place who : ℕ) (o : Option Home) → IsRowed nodes place who → HaveHomes nodes (take place (elements nodes)) homes → HasHome nodes who o → new ≡ homes ++ o ∷ [] → HaveHomes nodes (take (place + 1) (elements nodes)) new
homes_next nodes homes new place who o is have has pushed =
    let es = elements nodes in
    let next : take (place + 1) es ≡ take place es ++ is.element ∷ [] =
    take_more es place is.element (slice_get_within es place is.element is.here) ∙ ap (λ n. take place es ++ n ∷ []) (get_or_from_slice_get es place is.element is.element is.here) in
    (λ (both : HaveHomes nodes (take place es ++ is.element ∷ []) (homes ++ o ∷ [])).
    subst (λ (x : List Node × List (Option Home)). HaveHomes nodes x.0 x.1) (λ i. (sym next i, sym pushed i)) both)
    (home_more nodes (take place es) homes is.element o have (subst (λ s. HasHome nodes s o) (sym is.own) has))

-- the ends of the time children of one element more
pub ends_next : (nodes : List Node) (ends new : List (List ChildEnd)) (place who : ℕ) (made : List ChildEnd) → (is : IsRowed nodes place who) → ends ≡ map (named_ends nodes) (take place (elements nodes)) → made ≡ named_ends nodes is.element → new ≡ ends ++ made ∷ [] → new ≡ map (named_ends nodes) (take (place + 1) (elements nodes))
ends_next nodes ends new place who made is so_far own pushed =
    let es = elements nodes in
    let next : take (place + 1) es ≡ take place es ++ is.element ∷ [] =
    take_more es place is.element (slice_get_within es place is.element is.here) ∙ ap (λ n. take place es ++ n ∷ []) (get_or_from_slice_get es place is.element is.element is.here) in
    pushed
    ∙ (λ i. so_far i ++ own i ∷ [])
    ∙ sym (map-append (named_ends nodes) (take place es) (is.element ∷ []))
    ∙ ap (map (named_ends nodes)) (sym next)

-- ---- the home of one element

kept_has : (t : Node → Bool) (ns : List Node) (i : ℕ) (e : Node) → slice_get ns i ≡ Some e → t e ≡ true → has (serials (filter t ns)) e.serial ≡ true
kept_has t [] i e at q = absurd (cc)
kept_has t (n ∷ ns) zero e at q =
    let one : n ≡ e = cc in
    ap (λ b. has (serials (cond b (n ∷ filter t ns) (filter t ns))) e.serial) (ap t one ∙ q)
    ∙ or_left _ _ (eq-eqb n.serial e.serial (ap (λ (m : Node). m.serial) one))
kept_has t (n ∷ ns) (suc i) e at q = by_test (t n) refl (kept_has t ns i e at q)
  where
    by_test : (b : Bool) → t n ≡ b → has (serials (filter t ns)) e.serial ≡ true → has (serials (filter t (n ∷ ns))) e.serial ≡ true
    by_test true r later = ap (λ c. has (serials (cond c (n ∷ filter t ns) (filter t ns))) e.serial) r ∙ or_right _ _ later
    by_test false r later = ap (λ c. has (serials (cond c (n ∷ filter t ns) (filter t ns))) e.serial) r ∙ later

has_parent : (parent : ℕ) (o : Option Node) → serial_of o ≡ Some parent → has_serial parent o ≡ true
has_parent parent None q = absurd (cc)
has_parent parent (Some n) q = let one : n.serial ≡ parent = cc in eq-eqb n.serial parent one

-- an element is among the time children of its time parent
pub among_children : (document : Document) → IsNumberedTree document → (who parent : ℕ) (e : Node) (whos : List ℕ) → node_at (elements document.nodes) who ≡ Some e → serial_of (time_parent document.nodes who) ≡ Some parent → whos ≡ serials (time_children document.nodes parent) → has whos who ≡ true
among_children document numbered who parent e whos known under are =
    let nodes = document.nodes in
    let at = stands nodes who e (known_node document numbered who e known) in
    let own : e.serial ≡ who = find-serial who (elements nodes) e known in
    let is = passes is_element nodes (stands (elements nodes) who e known).place e (stands (elements nodes) who e known).at in
    let child : is_time_child nodes parent e ≡ true = and_from _ _ is (has_parent parent (time_parent nodes e.serial) (ap (λ s. serial_of (time_parent nodes s)) own ∙ under)) in
    ap (λ ws. has ws who) are
    ∙ ap (has (serials (time_children nodes parent))) (sym own)
    ∙ kept_has (is_time_child nodes parent) nodes at.place e at.at child

-- its ending stands there
pub is_home : (document : Document) → IsNumberedTree document → (rows : List CurrentRow) (who parent container child : ℕ) (e : Node) (whos : List ℕ) → node_at (elements document.nodes) who ≡ Some e → IsFound document.nodes rows parent container → whos ≡ serials (time_children document.nodes parent) → slice_get whos child ≡ Some who → IsHome document.nodes who (record { container = container; child = child })
is_home document numbered rows who parent container child e whos known above are at =
    let nodes = document.nodes in
    let there : IsChild nodes parent child who = subst (IsChild nodes parent child) (get_or_from_slice_get whos child who 0 at) (child_at document numbered parent child whos are (slice_get_within whos child who at)) in
    let both : Some there.node ≡ Some e = sym there.known ∙ known in
    let one : there.node ≡ e = cc in
    record {
      container = above.element;
      element = e;
      known = known;
      above = above.here;
      child = ap (λ s. slice_get (time_children nodes s) child) above.is_who ∙ there.at ∙ ap Some one;
    }

-- ---- the ends at a place

pub row_free : (ends : List (List ChildEnd)) (p : ℕ) (own : List ChildEnd) → own ≡ get_or ends p own → p < length ends → own ≡ slice_index_or ends p []
row_free [] p own is lt = absurd (omega (arith, lt))
row_free (e ∷ es) zero own is lt = is
row_free (e ∷ es) (suc p) own is lt = row_free es p own is (omega (arith, lt))

-- the home at a place, which is among the ends of a container
pub record IsHoused (homes : List (Option Home)) (ends : List (List ChildEnd)) (place : ℕ) (home : Home) : Type 0 where
  pub at : home_at homes place ≡ Some home
  pub container : home.container < length ends
  pub child : home.child < length (slice_index_or ends home.container [])

-- a home that is read is so
pub looked_up : (homes read : List (Option Home)) (ends : List (List ChildEnd)) (place : ℕ) (home : Home) → AreHoused homes ends → read ≡ homes → Some home ≡ home_at read place → IsHoused homes ends place home
looked_up homes read ends place home are same found =
    let at : home_at homes place ≡ Some home = ap (λ (hs : List (Option Home)). home_at hs place) (sym same) ∙ sym found in
    let within = are place home at in
    record { at = at; container = within.0; child = within.1 }

-- the child is among the ends that are read there
pub child_within : (homes : List (Option Home)) (ends : List (List ChildEnd)) (place : ℕ) (home : Home) (own : List ChildEnd) → IsHoused homes ends place home → own ≡ get_or ends home.container own → home.child < length own
child_within homes ends place home own is read =
    subst (λ (cs : List ChildEnd). home.child < length cs) (sym (row_free ends home.container own read is.container)) is.child

-- those that are put in the place of others are as many
count_at : (ends : List (List ChildEnd)) (p q : ℕ) (own new : List ChildEnd) → own ≡ get_or ends p own → p < length ends → length new ≡ length own → length (slice_index_or (set ends p new) q []) ≡ length (slice_index_or ends q [])
count_at [] p q own new is lt same = absurd (omega (arith, lt))
count_at (e ∷ es) zero zero own new is lt same = same ∙ ap (λ (cs : List ChildEnd). length cs) is
count_at (e ∷ es) zero (suc q) own new is lt same = refl
count_at (e ∷ es) (suc p) zero own new is lt same = refl
count_at (e ∷ es) (suc p) (suc q) own new is lt same = count_at es p q own new is (omega (arith, lt)) same

pub housed_set : (homes : List (Option Home)) (ends : List (List ChildEnd)) (p : ℕ) (own new : List ChildEnd) → AreHoused homes ends → own ≡ get_or ends p own → p < length ends → length new ≡ length own → AreHoused homes (set ends p new)
housed_set homes ends p own new are is lt same place home at =
    let was = are place home at in
    let many : length (set ends p new) ≡ length ends = simp length-set in
    let count = count_at ends p home.container own new is lt same in
    let container : home.container < length ends = was.0 in
    let child : home.child < length (slice_index_or ends home.container []) = was.1 in
    (omega (arith, container, many), omega (arith, child, count))

pub among_set : (ends : List (List ChildEnd)) (p k : ℕ) (x : Ending) (own new : List ChildEnd) → own ≡ get_or ends p own → p < length ends → new ≡ set_ends own k x.first x.latest → set ends p new ≡ put_among ends p k x
among_set [] p k x own new is lt made = absurd (omega (arith, lt))
among_set (e ∷ es) zero k x own new is lt made = ap (λ row. row ∷ es) (made ∙ ap (λ row. set_ends row k x.first x.latest) is)
among_set (e ∷ es) (suc p) k x own new is lt made = ap (λ rest. e ∷ rest) (among_set es p k x own new is (omega (arith, lt)) made)

-- at most as many as there are nodes
pub few_children : (nodes : List Node) (parent : ℕ) → length (time_children nodes parent) ≤ length nodes
few_children nodes parent = filter_shorter (is_time_child nodes parent) nodes

-- ---- a serial among others

member_place : (s : ℕ) (xs : List ℕ) → has xs s ≡ true → (k : ℕ) × (position_or_len (λ x. x == s) xs ≡ k) × (k < length xs) × (slice_get xs k ≡ Some s)
member_place s [] q = cc
member_place s (x ∷ xs) q = by_test (x == s) refl (member_place s xs)
  where
    by_test : (t : Bool) → x == s ≡ t → (has xs s ≡ true → (k : ℕ) × (position_or_len (λ y. y == s) xs ≡ k) × (k < length xs) × (slice_get xs k ≡ Some s)) → (k : ℕ) × (position_or_len (λ y. y == s) (x ∷ xs) ≡ k) × (k < length (x ∷ xs)) × (slice_get (x ∷ xs) k ≡ Some s)
    by_test true e later = (
      0,
      ap (λ t. cond (not t) (1 + position_or_len (λ y. y == s) xs) 0) e,
      omega arith,
      ap Some (eqb-true x s e),
    )
    by_test false e later =
        let found = later (sym (ap (λ t. t || has xs s) e) ∙ q) in (
          suc found.0,
          ap (λ t. cond (not t) (1 + position_or_len (λ y. y == s) xs) 0) e ∙ omega (arith, found.1),
          omega (arith, found.2),
          found.3,
        )

pub position_found : (s : ℕ) (xs : List ℕ) → has xs s ≡ true → (k : ℕ) × (position (λ x. x == s) xs ≡ Some k) × (slice_get xs k ≡ Some s)
position_found s xs q =
    let at = member_place s xs q in (
      at.0,
      ap (λ n. cond (nat_lt n (length xs)) (Some n) None) at.1 ∙ ap (λ t. cond t (Some at.0) None) (lt-ltb at.0 (length xs) at.2),
      at.3,
    )
