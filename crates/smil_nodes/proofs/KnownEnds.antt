-- The ends of time children are right while elements are evaluated.
use Rattle.std.proofs.Common.{◌≡◌, refl, sym, ◌∙◌, ap, subst, ℕ, zero, suc, ◌<◌, ◌≤◌, List, [], ◌∷◌, length, get_or, map, arith, Option, Some, None, Bool, true, false, ◌⊎◌, inl, inr}
use Rattle.std.specs.Prelude.{◌&&◌, ◌==◌, ◌+◌, is_some, nat_eq, slice_get, slice_index_or}
use Rattle.std.specs.List.{list_any}
use Rattle.std.proofs.lemmas.Bool.{eq-eqb, eqb-true, eqb-false}
use Rattle.std.proofs.lemmas.List.{length-map}
use Rattle.smil_model.specs.declared.interval.ChildEnd.{ChildEnd}
use Rattle.smil_model.specs.declared.interval.Interval.{Interval}
use Rattle.smil_model.specs.declared.times.Time.{Time}
use Rattle.smil_model.specs.declared.document.Node.{Node}
use Rattle.smil_model.specs.document.Document.{elements, has_serial, is_time_child, node_at, serial_of, time_children, time_parent}
use Rattle.smil_model.specs.document.Dependencies.{has_implicit_duration}
use Rattle.smil_model.specs.document.Valid.{IsDistinct}
use Rattle.smil_model.specs.document.Closure.{has}
use Rattle.smil_model.specs.diary.Diary.{History}
use Rattle.smil_model.specs.interval.Current.{child_end}
use Rattle.smil_laws.proofs.RoundsRest.{find-serial}
use Rattle.smil_concern_laws.specs.Unconcerned.{SameEnds}
use Rattle.smil_graph.specs.Graph.{IsGraphOrder}
use Rattle.smil_graph.proofs.LinksAreDependencies.{any_filter, any_there}
use Rattle.smil_element.specs.declared.endings.Ending.{Ending}
use Rattle.smil_element.specs.Endings.{ending_by}
use Rattle.smil_past.proofs.ElementPlaces.{parent_found}
use Rattle.smil_past.proofs.KnownNodes.{known_node}
use Rattle.smil_rounds.specs.declared.current_rows.CurrentRow.{CurrentRow}
use Rattle.smil_rounds.specs.Current.{interval_in}
use Rattle.smil_rounds.specs.Round.{AreOfElements}
use Rattle.smil_rounds.proofs.RowsBesideElements.{apart_at, there_at}
use Rattle.smil_rounds.proofs.RowEvaluated.{elements_differ}
use Rattle.smil_nodes.specs.declared.endings.Home.{Home}
use Rattle.smil_nodes.specs.Agenda.{IsLeastTaken}
use Rattle.smil_nodes.specs.Endings.{KeptEnds, AreHomes, AreKnown, HasHome, IsEnded, KnowsEnds, anyone, home_at, named_end, named_ends, names_of, nobody, put_among, put_ending, put_home}
use Rattle.smil_nodes.specs.Work.{HasKeptEnding, IsBelow, IsUnlisted}
use Rattle.smil_nodes.proofs.ChildEndsPut.{among_names, among_own, among_stays, names_in, set_own}
use Rattle.smil_nodes.proofs.TimeChildPlaces.{child_below, family, one_child, rank_of}
use Rattle.smil_nodes.proofs.EndingPlaces.{home_each, ends_at}
use Rattle.smil_nodes.proofs.EntriesNoted.{child_fed}
use Rattle.smil_nodes.proofs.EndsStay.{end_by_interval}
use Rattle.smil_nodes.proofs.RanksListed.{any_known}

-- ---- lists of ends

names_row : (xs : List (List ChildEnd)) (k : ℕ) → names_in (slice_index_or xs k []) ≡ slice_index_or (names_of xs) k []
names_row [] k = refl
names_row (x ∷ xs) zero = refl
names_row (x ∷ xs) (suc k) = names_row xs k

-- ends that are by each child those that f gives
ends_same : (f : Node → ChildEnd) (xs : List ChildEnd) (cs : List Node) → length xs ≡ length cs → ((k : ℕ) (c : Node) → slice_get cs k ≡ Some c → slice_get xs k ≡ Some (f c)) → xs ≡ map f cs
ends_same f [] [] same each = refl
ends_same f [] (c ∷ cs) same each = absurd (omega (arith, same))
ends_same f (x ∷ xs) [] same each = absurd (omega (arith, same))
ends_same f (x ∷ xs) (c ∷ cs) same each =
    let head : Some x ≡ Some (f c) = each 0 c refl in
    let one : x ≡ f c = cc in
    (λ i. one i ∷ ends_same f xs cs (omega (arith, same)) (λ k d at. each (suc k) d at) i)

-- the ends that stand at the place of a child
name_at : (xs : List ChildEnd) (f : Node → ChildEnd) (cs : List Node) (k : ℕ) (c : Node) → names_in xs ≡ names_in (map f cs) → slice_get cs k ≡ Some c → (x : ChildEnd) × (slice_get xs k ≡ Some x) × (x.named ≡ (f c).named)
name_at xs f [] k c same at = absurd (cc)
name_at [] f (d ∷ cs) k c same at = absurd (cc)
name_at (x ∷ xs) f (d ∷ cs) zero c same at =
    let one : d ≡ c = cc in
    let head : x.named ≡ (f d).named = cc in
    (x, refl, head ∙ ap (λ n. (f n).named) one)
name_at (x ∷ xs) f (d ∷ cs) (suc k) c same at = name_at xs f cs k c (cc) at

-- ---- of one container

module _ (h : History) (kept : KeptEnds) (names : names_of kept.ends ≡ names_of (map (named_ends h.nodes) (elements h.nodes))) where
  names_at : (place : ℕ) (e : Node) → slice_get (elements h.nodes) place ≡ Some e → names_in (slice_index_or kept.ends place []) ≡ names_in (named_ends h.nodes e)
  names_at place e here =
      names_row kept.ends place
      ∙ ap (λ ns. slice_index_or ns place []) names
      ∙ sym (names_row (map (named_ends h.nodes) (elements h.nodes)) place)
      ∙ ap names_in (ends_at (named_ends h.nodes) (elements h.nodes) place e here)

  count_at : (place : ℕ) (e : Node) → slice_get (elements h.nodes) place ≡ Some e → length (slice_index_or kept.ends place []) ≡ length (time_children h.nodes e.serial)
  count_at place e here =
      sym (length-map (slice_index_or kept.ends place []) (λ (c : ChildEnd). c.named))
      ∙ ap (λ (ns : List Bool). length ns) (names_at place e here)
      ∙ length-map (named_ends h.nodes e) (λ (c : ChildEnd). c.named)
      ∙ length-map (time_children h.nodes e.serial) (named_end e)

  pub as_many : length kept.ends ≡ length (elements h.nodes)
  as_many =
      sym (length-map kept.ends names_in)
      ∙ ap (λ (ns : List (List Bool)). length ns) names
      ∙ length-map (map (named_ends h.nodes) (elements h.nodes)) names_in
      ∙ length-map (elements h.nodes) (named_ends h.nodes)

-- the ends of one element's time children, where each of these passes the test
pub knows : (h : History) (rows : List CurrentRow) (kept : KeptEnds) (test : ℕ → Type 0) (who : ℕ) (e : Node) → IsDistinct h.nodes → AreOfElements h.nodes rows → AreKnown h (interval_in rows) test kept → node_at (elements h.nodes) who ≡ Some e → has_implicit_duration e ≡ true → ((k : ℕ) (c : Node) → slice_get (time_children h.nodes e.serial) k ≡ Some c → test c.serial) → KnowsEnds rows kept h who
knows h rows kept test who e distinct of_elements are known implicit each = record {
  of_elements = of_elements;
  as_many = as_many h kept are.names;
  ends_are = λ place d here is.
      let found : node_at (elements h.nodes) who ≡ Some d = ap (node_at (elements h.nodes)) (sym is) ∙ there_at (elements h.nodes) place d (elements_differ h.nodes distinct) here in
      let same : Some d ≡ Some e = sym found ∙ known in
      let one : e ≡ d = cc in
      ends_same (child_end h (interval_in rows) d) (slice_index_or kept.ends place []) (time_children h.nodes d.serial) (count_at h kept are.names place d here)
      (λ k c at. are.right place k d c here (ap has_implicit_duration (sym one) ∙ implicit) at (each k c (ap (λ (n : Node). slice_get (time_children h.nodes n.serial) k) one ∙ at)))
      ∙ ap (λ s. map (child_end h (interval_in rows) d) (time_children h.nodes s)) is;
}

-- ---- an ending is put

module _ (h : History) (who : ℕ) (before after : ℕ → Option Interval) (kept : KeptEnds) (place : ℕ) (element : Node) (distinct : IsDistinct h.nodes) (here : slice_get (elements h.nodes) place ≡ Some element) (is_who : element.serial ≡ who) (others : (s : ℕ) → who == s ≡ false → after s ≡ before s) where
  abbrev ending : Ending
  ending = ending_by h (after who) who

  names_put : (o : Option Home) → names_of (put_home kept.ends ending o) ≡ names_of kept.ends
  names_put None = refl
  names_put (Some home) = among_names kept.ends home.container home.child ending

  module _ (names : names_of kept.ends ≡ names_of (map (named_ends h.nodes) (elements h.nodes))) (p k : ℕ) (e c : Node) (at_e : slice_get (elements h.nodes) p ≡ Some e) (implicit : has_implicit_duration e ≡ true) (at_c : slice_get (time_children h.nodes e.serial) k ≡ Some c) where
    -- the ending of the element itself
    own_right : (o : Option Home) → HasHome h.nodes element.serial o → who ≡ c.serial → slice_get (slice_index_or (put_home kept.ends ending o) p []) k ≡ Some (child_end h after e c)
    own_right None none own =
        let of = family h.nodes e.serial k c distinct at_c in
        let known : node_at (elements h.nodes) e.serial ≡ Some e = there_at (elements h.nodes) p e (elements_differ h.nodes distinct) at_e in
        let never : true ≡ false = sym implicit ∙ none e known (ap (λ s. serial_of (time_parent h.nodes s)) (is_who ∙ own) ∙ of.under) in
        absurd (cc)
    own_right (Some home) is own =
        let of = family h.nodes e.serial k c distinct at_c in
        let found : Some is.element ≡ Some c = sym is.known ∙ ap (node_at (elements h.nodes)) (is_who ∙ own) ∙ of.known in
        let one : is.element ≡ c = cc in
        let above = family h.nodes (is.container).serial home.child is.element distinct is.child in
        let parents : Some (is.container).serial ≡ Some e.serial = sym above.under ∙ ap (λ (n : Node). serial_of (time_parent h.nodes n.serial)) one ∙ of.under in
        let same : (is.container).serial ≡ e.serial = cc in
        let container : home.container ≡ p = apart_at (elements h.nodes) home.container p is.container e (elements_differ h.nodes distinct) is.above at_e same in
        let child : home.child ≡ k = one_child h.nodes e.serial home.child k is.element c distinct (ap (λ s. slice_get (time_children h.nodes s) home.child) (sym same) ∙ is.child) at_c (ap (λ (n : Node). n.serial) one) in
        let was = name_at (slice_index_or kept.ends p []) (named_end e) (time_children h.nodes e.serial) k c (names_at h kept names p e at_e) at_c in
        ap (λ (at : ℕ × ℕ). slice_get (slice_index_or (put_among kept.ends at.0 at.1 ending) p []) k) (λ i. (container i, child i))
        ∙ ap (λ row. slice_get row k) (among_own kept.ends p k ending)
        ∙ set_own (slice_index_or kept.ends p []) k ending.first ending.latest was.0 was.1
        ∙ (λ i. Some (record { named = was.2 i; first = (ending_by h (after (own i)) (own i)).first; latest = (ending_by h (after (own i)) (own i)).latest }))

    -- the endings of the others stay
    other_right : (o : Option Home) → HasHome h.nodes element.serial o → who == c.serial ≡ false → slice_get (slice_index_or kept.ends p []) k ≡ Some (child_end h before e c) → slice_get (slice_index_or (put_home kept.ends ending o) p []) k ≡ Some (child_end h after e c)
    other_right o has other was = by_home o has ∙ was ∙ ap Some (sym (end_by_interval h before after e c (others c.serial other)))
      where
        by_home : (o : Option Home) → HasHome h.nodes element.serial o → slice_get (slice_index_or (put_home kept.ends ending o) p []) k ≡ slice_get (slice_index_or kept.ends p []) k
        by_home None none = refl
        by_home (Some home) is = among_stays kept.ends home.container home.child p k ending differ
          where
            differ : p ≡ home.container → k ≡ home.child → ⊥
            differ same_place same_child =
                let both : Some e ≡ Some is.container = sym at_e ∙ ap (slice_get (elements h.nodes)) same_place ∙ is.above in
                let one : e ≡ is.container = cc in
                let children : Some c ≡ Some is.element = sym at_c ∙ (λ i. slice_get (time_children h.nodes (one i).serial) (same_child i)) ∙ is.child in
                let child : c ≡ is.element = cc in
                let own : c.serial ≡ who = ap (λ (n : Node). n.serial) child ∙ find-serial element.serial (elements h.nodes) is.element is.known ∙ is_who in
                let never : true ≡ false = sym (eq-eqb who c.serial (sym own)) ∙ other in
                cc

  -- all that were right still are, and that of the element besides
  pub known_next : (old test : ℕ → Type 0) → ((c : Node) → node_at (elements h.nodes) c.serial ≡ Some c → who == c.serial ≡ false → test c.serial → old c.serial) → AreKnown h before old kept → AreKnown h after test (put_ending kept place ending)
  known_next old test was are = record {
    homes = are.homes;
    names = names_put (home_at kept.homes place) ∙ are.names;
    right = λ p k e c at_e implicit at_c passes. by_test p k e c at_e implicit at_c passes (who == c.serial) refl;
  }
    where
      by_test : (p k : ℕ) (e c : Node) → slice_get (elements h.nodes) p ≡ Some e → has_implicit_duration e ≡ true → slice_get (time_children h.nodes e.serial) k ≡ Some c → test c.serial → (t : Bool) → who == c.serial ≡ t → slice_get (slice_index_or (put_home kept.ends ending (home_at kept.homes place)) p []) k ≡ Some (child_end h after e c)
      by_test p k e c at_e implicit at_c passes true q =
          own_right are.names p k e c at_e implicit at_c (home_at kept.homes place) (home_each h.nodes (elements h.nodes) kept.homes place element are.homes here) (eqb-true who c.serial q)
      by_test p k e c at_e implicit at_c passes false q =
          other_right are.names p k e c at_e implicit at_c (home_at kept.homes place) (home_each h.nodes (elements h.nodes) kept.homes place element are.homes here) q
          (are.right p k e c at_e implicit at_c (was c (family h.nodes e.serial k c distinct at_c).known q passes))

-- an element was evaluated, and its ending put
pub known_ended : (h : History) (who : ℕ) (before after : List CurrentRow) (kept new : KeptEnds) (old test : ℕ → Type 0) → IsDistinct h.nodes → ((s : ℕ) → who == s ≡ false → interval_in after s ≡ interval_in before s) → IsEnded h who after kept new → ((c : Node) → node_at (elements h.nodes) c.serial ≡ Some c → who == c.serial ≡ false → test c.serial → old c.serial) → AreKnown h (interval_in before) old kept → AreKnown h (interval_in after) test new
known_ended h who before after kept new old test distinct others put was are =
    subst (AreKnown h (interval_in after) test) (sym put.after_is)
    (known_next h who (interval_in before) (interval_in after) kept put.place put.element distinct put.here put.is_who others old test was are)

-- ---- which are right

-- those that pass another test
pub known_weaker : (h : History) (given : ℕ → Option Interval) (old test : ℕ → Type 0) (kept : KeptEnds) → IsDistinct h.nodes → ((c : Node) → node_at (elements h.nodes) c.serial ≡ Some c → test c.serial → old c.serial) → AreKnown h given old kept → AreKnown h given test kept
known_weaker h given old test kept distinct implies are = record {
  homes = are.homes;
  names = are.names;
  right = λ p k e c at_e implicit at_c passes. are.right p k e c at_e implicit at_c (implies c (family h.nodes e.serial k c distinct at_c).known passes);
}

-- none, of ends that are not known
pub none_known : (h : History) (given : ℕ → Option Interval) (kept : KeptEnds) → AreHomes h.nodes kept.homes → kept.ends ≡ map (named_ends h.nodes) (elements h.nodes) → AreKnown h given nobody kept
none_known h given kept homes ends = record {
  homes = homes;
  names = ap names_of ends;
  right = λ p k e c at_e implicit at_c never. absurd never;
}

module _ (h : History) (given : ℕ → Option Interval) (order : List ℕ) (kept : KeptEnds) (distinct : IsDistinct h.nodes) (is : IsGraphOrder h.nodes order) where
  -- those of the elements that were evaluated, where none was
  pub none_below : AreKnown h given nobody kept → AreKnown h given (IsBelow order 0) kept
  none_below are = known_weaker h given nobody (IsBelow order 0) kept distinct (λ c here below. let less : below.rank < 0 = below.below in absurd (omega (arith, less))) are

  -- all, where all were
  pub all_below : (next : ℕ) → length order ≤ next → AreKnown h given (IsBelow order next) kept → AreKnown h given anyone kept
  all_below next whole are =
      known_weaker h given (IsBelow order next) anyone kept distinct
      (λ c here any.
      let at = rank_of h.nodes order c is here in
      let within : at.0 < length order = at.1 in
      record { rank = at.0; below = omega (arith, within, whole); within = within; at = at.2 })
      are

  -- all, where no rank is listed
  pub all_unlisted : (listed : ℕ → Bool) → ((r : ℕ) → listed r ≡ false) → AreKnown h given (HasKeptEnding h.nodes order listed) kept → AreKnown h given anyone kept
  all_unlisted listed none are =
      known_weaker h given (HasKeptEnding h.nodes order listed) anyone kept distinct
      (λ c here any. let at = rank_of h.nodes order c is here in inl (record { rank = at.0; within = at.1; at = at.2; free = none at.0 }))
      are

-- an element that is evaluated next, in its order
pub below_next : (order : List ℕ) (k who s : ℕ) → get_or order k 0 ≡ who → who == s ≡ false → IsBelow order (k + 1) s → IsBelow order k s
below_next order k who s at other below = by_test (nat_eq below.rank k) refl
  where
    by_test : (t : Bool) → nat_eq below.rank k ≡ t → IsBelow order k s
    by_test true q =
        let same : who ≡ s = sym at ∙ ap (λ r. get_or order r 0) (sym (eqb-true below.rank k q)) ∙ below.at in
        let never : true ≡ false = sym (eq-eqb who s same) ∙ other in
        cc
    by_test false q =
        let differ : below.rank ≡ k → ⊥ = eqb-false below.rank k q in
        let less : below.rank < k + 1 = below.below in
        record { rank = below.rank; below = omega (arith, less, differ); within = below.within; at = below.at }

-- an element that is taken off the list
pub unlisted_next : (order : List ℕ) (rank who s : ℕ) (old new : ℕ → Bool) → get_or order rank 0 ≡ who → ((r : ℕ) → new r ≡ false → (r ≡ rank) ⊎ (old r ≡ false)) → who == s ≡ false → IsUnlisted order new s → IsUnlisted order old s
unlisted_next order rank who s old new at left other is = by_rank (left is.rank is.free)
  where
    by_rank : (is.rank ≡ rank) ⊎ (old is.rank ≡ false) → IsUnlisted order old s
    by_rank (inl same) =
        let own : who ≡ s = sym at ∙ ap (λ r. get_or order r 0) (sym same) ∙ is.at in
        let never : true ≡ false = sym (eq-eqb who s own) ∙ other in
        cc
    by_rank (inr free) = record { rank = is.rank; within = is.within; at = is.at; free = free }

-- ---- the time children of a container whose duration is implicit

-- are not listed, where the container is the first that is
pub children_unlisted : (nodes : List Node) (order old mid : List ℕ) (rank : ℕ) (e : Node) → IsDistinct nodes → IsGraphOrder nodes order → rank < length order → get_or order rank 0 ≡ e.serial → node_at (elements nodes) e.serial ≡ Some e → has_implicit_duration e ≡ true → IsLeastTaken old rank mid → (k : ℕ) (c : Node) → slice_get (time_children nodes e.serial) k ≡ Some c → IsUnlisted order (has old) c.serial
children_unlisted nodes order old mid rank e distinct is lt at here implicit off k c child = record {
  rank = below.rank;
  within = below.within;
  at = below.at;
  free = by_test (has old below.rank) refl;
}
  where
    below : IsBelow order rank c.serial
    below = child_below nodes order rank k e c distinct is lt at here implicit child

    by_test : (t : Bool) → has old below.rank ≡ t → t ≡ false
    by_test false q = refl
    by_test true q =
        let least : rank ≤ below.rank = off.least below.rank q in
        let less : below.rank < rank = below.below in
        absurd (omega (arith, least, less))

swap_and : (a b : Bool) → (a && b) ≡ (b && a)
swap_and true true = refl
swap_and true false = refl
swap_and false true = refl
swap_and false false = refl

-- an element that is among the time children of another has a place there
child_at : (nodes : List Node) (parent who : ℕ) → list_any (λ (c : Node). (c.serial == who) && is_time_child nodes parent c) nodes ≡ true → (k : ℕ) × (c : Node) × (slice_get (time_children nodes parent) k ≡ Some c) × (c.serial ≡ who)
child_at nodes parent who fed =
    let found =
    any_there (λ (c : Node). c.serial == who) (time_children nodes parent)
    (any_filter (is_time_child nodes parent) (λ (c : Node). c.serial == who) nodes
    ∙ ap (λ (f : Node → Bool). list_any f nodes) (λ i c. swap_and (is_time_child nodes parent c) (c.serial == who) i)
    ∙ fed) in
    (found.0, found.1, found.2, eqb-true (found.1).serial who found.3)

child_place : (nodes : List Node) (parent : ℕ) (c : Node) → IsDistinct nodes → node_at (elements nodes) c.serial ≡ Some c → list_any (λ (n : Node). (n.serial == c.serial) && is_time_child nodes parent n) nodes ≡ true → (k : ℕ) × (slice_get (time_children nodes parent) k ≡ Some c)
child_place nodes parent c distinct here fed =
    let child = child_at nodes parent c.serial fed in
    let both : Some child.1 ≡ Some c = sym (family nodes parent child.0 child.1 distinct child.2).known ∙ ap (node_at (elements nodes)) child.3 ∙ here in
    (child.0, child.2 ∙ both)

-- the element that another is among the time children of is its time parent
pub parent_of : (nodes : List Node) → IsDistinct nodes → (who : ℕ) (e : Node) → node_at (elements nodes) e.serial ≡ Some e → list_any (λ (c : Node). (c.serial == who) && is_time_child nodes e.serial c) nodes ≡ true → time_parent nodes who ≡ Some e
parent_of nodes distinct who e here fed =
    let child = child_at nodes e.serial who fed in
    let of = family nodes e.serial child.0 child.1 distinct child.2 in
    by (time_parent nodes who) refl (ap (λ s. serial_of (time_parent nodes s)) (sym child.3) ∙ of.under) (ap is_some (ap (node_at (elements nodes)) (sym child.3) ∙ of.known))
  where
    by : (o : Option Node) → time_parent nodes who ≡ o → serial_of o ≡ Some e.serial → is_some (node_at (elements nodes) who) ≡ true → o ≡ Some e
    by None at q known = cc
    by (Some p) at q known =
        let same : p.serial ≡ e.serial = cc in
        sym (parent_found nodes who p distinct (known_node nodes who known) at) ∙ ap (node_at (elements nodes)) same ∙ here

place_at : (nodes : List Node) (e : Node) → IsDistinct nodes → node_at (elements nodes) e.serial ≡ Some e → (p : ℕ) × (slice_get (elements nodes) p ≡ Some e)
place_at nodes e distinct here =
    let found = any_there (λ (n : Node). n.serial == e.serial) (elements nodes) (any_known (λ (n : Node). n.serial == e.serial) (elements nodes) e.serial (ap is_some here) (λ n same. eq-eqb n.serial e.serial same)) in
    let both : Some found.1 ≡ Some e = sym (there_at (elements nodes) found.0 found.1 (elements_differ nodes distinct) found.2) ∙ ap (node_at (elements nodes)) (eqb-true (found.1).serial e.serial found.3) ∙ here in
    (found.0, found.2 ∙ both)

-- those that were, but for the element itself
pub kept_next : (nodes : List Node) (order old mid : List ℕ) (rank who : ℕ) (new : ℕ → Bool) → IsDistinct nodes → IsGraphOrder nodes order → rank < length order → get_or order rank 0 ≡ who → IsLeastTaken old rank mid → ((r : ℕ) → new r ≡ false → (r ≡ rank) ⊎ (has old r ≡ false)) → (c : Node) → node_at (elements nodes) c.serial ≡ Some c → who == c.serial ≡ false → HasKeptEnding nodes order new c.serial → HasKeptEnding nodes order (has old) c.serial
kept_next nodes order old mid rank who new distinct is lt at off left c here other (inl free) =
    inl (unlisted_next order rank who c.serial (has old) new at left other free)
kept_next nodes order old mid rank who new distinct is lt at off left c here other (inr under) = by_rank (left (under.unlisted).rank (under.unlisted).free)
  where
    e : Node
    e = under.container

    found : node_at (elements nodes) e.serial ≡ Some e
    found = parent_found nodes c.serial e distinct (known_node nodes c.serial (ap is_some here)) under.above

    fed : list_any (λ (n : Node). (n.serial == c.serial) && is_time_child nodes e.serial n) nodes ≡ true
    fed = child_fed nodes distinct c.serial e.serial (ap is_some here) (ap (has_serial e.serial) under.above ∙ eq-eqb e.serial e.serial refl)

    child : (k : ℕ) × (slice_get (time_children nodes e.serial) k ≡ Some c)
    child = child_place nodes e.serial c distinct here fed

    by_rank : ((under.unlisted).rank ≡ rank) ⊎ (has old (under.unlisted).rank ≡ false) → HasKeptEnding nodes order (has old) c.serial
    by_rank (inl same) =
        inl (children_unlisted nodes order old mid rank e distinct is lt (ap (λ r. get_or order r 0) (sym same) ∙ (under.unlisted).at) found under.implicit off child.0 c child.1)
    by_rank (inr free) = inr (record {
      container = e;
      above = under.above;
      implicit = under.implicit;
      unlisted = record { rank = (under.unlisted).rank; within = (under.unlisted).within; at = (under.unlisted).at; free = free };
    })

-- ---- an ending that stays

abbrev first_in : Option ChildEnd → Option Time
first_in None = None
first_in (Some c) = c.first

abbrev latest_in : Option ChildEnd → Option Time
latest_in None = None
latest_in (Some c) = c.latest

-- a time child whose kept ending stays, and is right before and after, ends as it did
pub same_ends_kept : (h : History) (before after : ℕ → Option Interval) (old new : ℕ → Type 0) (kept next : KeptEnds) (e : Node) (who : ℕ) → IsDistinct h.nodes → AreKnown h before old kept → AreKnown h after new next → next ≡ kept → node_at (elements h.nodes) e.serial ≡ Some e → has_implicit_duration e ≡ true → list_any (λ (c : Node). (c.serial == who) && is_time_child h.nodes e.serial c) h.nodes ≡ true → old who → new who → SameEnds h h (before who) (after who) who
same_ends_kept h before after old new kept next e who distinct was are stays here implicit fed had known =
    subst (λ s. SameEnds h h (before s) (after s) s) own (record { first = ap first_in both; latest = ap latest_in both })
  where
    child : (k : ℕ) × (c : Node) × (slice_get (time_children h.nodes e.serial) k ≡ Some c) × (c.serial ≡ who)
    child = child_at h.nodes e.serial who fed

    own : (child.1).serial ≡ who
    own = child.3

    place : (p : ℕ) × (slice_get (elements h.nodes) p ≡ Some e)
    place = place_at h.nodes e distinct here

    both : Some (child_end h after e child.1) ≡ Some (child_end h before e child.1)
    both =
        sym (are.right place.0 child.0 e child.1 place.1 implicit child.2 (subst new (sym own) known))
        ∙ ap (λ (k : KeptEnds). slice_get (slice_index_or k.ends place.0 []) child.0) stays
        ∙ was.right place.0 child.0 e child.1 place.1 implicit child.2 (subst old (sym own) had)
