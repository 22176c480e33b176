-- What is current before entries is, but for the elements that they list, as these entries leave it.
use Rattle.std.proofs.Common.{◌≡◌, refl, sym, ◌∙◌, ap, subst, ℕ, ◌<◌, List, ◌++◌, length, get_or, drop, Option, Some, None, Bool, true, false, ℤ, inl, inr}
use Rattle.std.specs.Prelude.{◌&&◌, ◌==◌, cond, is_some, nat_eq, slice_get}
use Rattle.std.specs.List.{IsDistinct, list_any, position}
use Rattle.std.proofs.lemmas.Bool.{and_parts, eq-eqb, eqb-true}
use Rattle.smil_model.specs.declared.document.Node.{Node}
use Rattle.smil_model.specs.declared.interval.Interval.{Interval}
use Rattle.smil_model.specs.document.Dependencies.{has_implicit_duration}
use Rattle.smil_model.specs.document.Document.{elements, has_serial, is_element, is_time_child, node_at, serial_of, time_children, time_parent}
use Rattle.smil_model.specs.diary.Diary.{History, up_to}
use Rattle.smil_model.specs.interval.Current.{child_end, simple_of}
use Rattle.smil_model.specs.happening.Keys.{coming_by}
use Rattle.smil_laws.specs.Edited.{IsOrdered}
use Rattle.smil_laws.specs.Touched.{GivesSame, in_reaches}
use Rattle.smil_laws.proofs.TouchedReached.{reaches_hold}
use Rattle.smil_concern_laws.specs.Unconcerned.{ChildrenEndSame, SameEnds}
use Rattle.smil_concern_laws.proofs.SimpleSame.{child_same as end_same}
use Rattle.smil_concern_laws.proofs.UnconcernedEnds.{same_ends}
use Rattle.smil_concern_laws.proofs.UnconcernedStay.{leaves_unconcerned}
use Rattle.smil_graph.specs.Graph.{IsGraphOrder}
use Rattle.smil_graph.proofs.GraphAnswers.{element_at, only_element}
use Rattle.smil_graph.proofs.LinksAreDependencies.{any_there}
use Rattle.smil_tree.proofs.NodeFamilies.{node_of_place}
use Rattle.smil_past.specs.Past.{MarkedHistory, front, history_of}
use Rattle.smil_rounds.specs.declared.current_rows.CurrentRow.{CurrentRow}
use Rattle.smil_rounds.specs.Current.{AreCurrent, interval_in}
use Rattle.smil_rounds.specs.Round.{IsRowOf}
use Rattle.smil_rounds.proofs.RowsBesideElements.{first_at, interval_at, there_at}
use Rattle.smil_rounds.proofs.RowEvaluated.{elements_differ}
use Rattle.smil_cells.specs.Evaluated.{is_noted_by}
use Rattle.smil_nodes.specs.Endings.{AreKnown, KeptEnds, anyone}
use Rattle.smil_nodes.specs.Work.{AreSettled, HasKeptEnding, IsUnlisted}
use Rattle.smil_nodes.proofs.EndsStay.{all_done, ends_by_interval, same_end}
use Rattle.smil_nodes.proofs.EntriesNoted.{noted_touched, unconcerned, unended_child_all, unnoted_apart_all, unnoted_child_all}
use Rattle.smil_nodes.proofs.RowAtElement.{current_elements, row_of_current}
use Rattle.smil_nodes.proofs.TimeChildPlaces.{family}
use Rattle.smil_nodes.proofs.WholeHistory.{front_whole}
use Rattle.smil_nodes.proofs.ElementRanks.{element_of, found_place}

module _ (past : MarkedHistory) (from : ℕ) (now : ℤ) (order : List ℕ) (rows : List CurrentRow) (listed : ℕ → Bool) (ordered : IsOrdered past.document.nodes) (is : IsGraphOrder past.document.nodes order) (distinct : IsDistinct nat_eq order) (told : (s r : ℕ) → position (λ t. t == s) order ≡ Some r → listed r ≡ is_noted_by past.document.nodes past.log (interval_in rows) (drop from past.diary) s) where
  -- a time child that an element follows from ends as it did
  child_same : (e c : Node) → node_at (elements past.document.nodes) e.serial ≡ Some e → has_implicit_duration e ≡ true → node_at (elements past.document.nodes) c.serial ≡ Some c → has_serial e.serial (time_parent past.document.nodes c.serial) ≡ true → list_any (λ (d : Node). (d.serial == c.serial) && is_time_child past.document.nodes e.serial d) past.document.nodes ≡ true → is_noted_by past.document.nodes past.log (interval_in rows) (drop from past.diary) e.serial ≡ false → (o : Option Interval) → interval_in rows c.serial ≡ o → SameEnds (front past from) (up_to (front past from) ((front past from).diary ++ drop from past.diary)) (interval_in rows c.serial) (interval_in rows c.serial) c.serial
  child_same e c here implicit there under fed free None none =
      same_ends (front past from) (up_to (front past from) ((front past from).diary ++ drop from past.diary)) (interval_in rows c.serial) c.serial
      (all_done c (front past from) (drop from past.diary) ordered.first there
      (unnoted_child_all past.document.nodes ordered.distinct past.log (interval_in rows) e here implicit c.serial (ap is_some there) under fed (drop from past.diary) none free))
  child_same e c here implicit there under fed free (Some i) some =
      subst (λ o. SameEnds (front past from) (up_to (front past from) ((front past from).diary ++ drop from past.diary)) o o c.serial) (sym some)
      (ends_by_interval c (interval_in rows) i some (front past from) (drop from past.diary) ordered.first there
      (unended_child_all past.document.nodes ordered.distinct past.log (interval_in rows) e here implicit c.serial (ap is_some there) under fed (drop from past.diary) free))

  -- so do all
  children_same : (e : Node) → node_at (elements past.document.nodes) e.serial ≡ Some e → is_noted_by past.document.nodes past.log (interval_in rows) (drop from past.diary) e.serial ≡ false → ChildrenEndSame (front past from) (up_to (front past from) ((front past from).diary ++ drop from past.diary)) (interval_in rows) (interval_in rows) e
  children_same e here free s implicit fed = by_child (any_there (λ (c : Node). (c.serial == s) && is_time_child past.document.nodes e.serial c) past.document.nodes fed)
    where
      by_child : ((i : ℕ) × (c : Node) × (slice_get past.document.nodes i ≡ Some c) × (((c.serial == s) && is_time_child past.document.nodes e.serial c) ≡ true)) → SameEnds (front past from) (up_to (front past from) ((front past from).diary ++ drop from past.diary)) (interval_in rows s) (interval_in rows s) s
      by_child at =
          let nodes = past.document.nodes in
          let c = at.1 in
          let own = and_parts (c.serial == s) (is_time_child nodes e.serial c) at.3 in
          let child = and_parts (is_element c) (has_serial e.serial (time_parent nodes c.serial)) own.1 in
          let there : node_at (elements nodes) c.serial ≡ Some c = element_at nodes c.serial ordered.distinct ∙ ap only_element (node_of_place nodes at.0 c ordered.distinct at.2) ∙ ap (λ t. cond t (Some c) None) child.0 in
          let read : list_any (λ (d : Node). (d.serial == c.serial) && is_time_child nodes e.serial d) nodes ≡ true = ap (λ z. list_any (λ (d : Node). (d.serial == z) && is_time_child nodes e.serial d) nodes) (eqb-true c.serial s own.0) ∙ fed in
          subst (λ z. SameEnds (front past from) (up_to (front past from) ((front past from).diary ++ drop from past.diary)) (interval_in rows z) (interval_in rows z) z) (eqb-true c.serial s own.0)
          (child_same e c here implicit there child.1 read free (interval_in rows c.serial) refl)

  given_same : (e : Node) → node_at (elements past.document.nodes) e.serial ≡ Some e → is_noted_by past.document.nodes past.log (interval_in rows) (drop from past.diary) e.serial ≡ false → GivesSame (front past from) (history_of past) (interval_in rows) now e
  given_same e here free =
      subst (λ k. GivesSame (front past from) k (interval_in rows) now e) (front_whole past from)
      (leaves_unconcerned (front past from) (drop from past.diary) (interval_in rows) now e ordered.first here (unconcerned past.document.nodes ordered.distinct past.log (interval_in rows) e.serial (drop from past.diary) free) (children_same e here free))

  -- the row of an element that is not listed
  row_given : (place : ℕ) (e : Node) (row : CurrentRow) → GivesSame (front past from) (history_of past) (interval_in rows) now e → interval_in rows e.serial ≡ row.interval → IsRowOf (front past from) (interval_in rows) now place e row → IsRowOf (history_of past) (interval_in rows) now place e row
  row_given place e row gives own was = record {
    serial = was.serial;
    interval = was.interval ∙ sym gives.interval;
    comings =
        was.comings
        ∙ ap (λ i. coming_by (front past from) i (simple_of (front past from) (interval_in rows) e) now place e) (sym own)
        ∙ sym (gives.coming place)
        ∙ ap (λ i. coming_by (history_of past) i (simple_of (history_of past) (interval_in rows) e) now place e) own;
  }

  pub settled_first : AreCurrent rows (front past from) now → AreSettled (history_of past) now order listed rows
  settled_first are = record {
    of_elements = current_elements rows (front past from) now are;
    rows_are = λ rank place e row lt at off here got.
        let there = there_at (elements past.document.nodes) place e (elements_differ past.document.nodes ordered.distinct) here in
        let first = first_at (elements past.document.nodes) rows place e (elements_differ past.document.nodes ordered.distinct) (current_elements rows (front past from) now are) here in
        let free = (sym (told e.serial rank (found_place e.serial order rank distinct lt at)) ∙ off) in
        row_given place e row (given_same e there free) (interval_at e.serial rows place row first got)
        (row_of_current rows (front past from) now place e row ordered are here got);
  }

  -- the endings of the elements that are not listed, and of the time children of those, are right
  pub known_first : (kept : KeptEnds) → AreKnown (front past from) (interval_in rows) anyone kept → AreKnown (history_of past) (interval_in rows) (HasKeptEnding past.document.nodes order listed) kept
  known_first kept are = record {
    homes = are.homes;
    names = are.names;
    right = λ p k e c at_e implicit at_c is_kept.
        are.right p k e c at_e implicit at_c tt
        ∙ ap Some (sym (ends p k e c at_e implicit at_c is_kept) ∙ ap (λ x. child_end x (interval_in rows) e c) (front_whole past from));
  }
    where
      later : History
      later = up_to (front past from) ((front past from).diary ++ drop from past.diary)

      unlisted : (s : ℕ) → IsUnlisted order listed s → is_noted_by past.document.nodes past.log (interval_in rows) (drop from past.diary) s ≡ false
      unlisted s free = sym (told s free.rank (found_place s order free.rank distinct free.within free.at)) ∙ free.free

      ends : (p k : ℕ) (e c : Node) → slice_get (elements past.document.nodes) p ≡ Some e → has_implicit_duration e ≡ true → slice_get (time_children past.document.nodes e.serial) k ≡ Some c → HasKeptEnding past.document.nodes order listed c.serial → child_end later (interval_in rows) e c ≡ child_end (front past from) (interval_in rows) e c
      ends p k e c at_e implicit at_c (inl free) =
          same_end (front past from) later (interval_in rows) e c
          (all_done c (front past from) (drop from past.diary) ordered.first (family past.document.nodes e.serial k c ordered.distinct at_c).known
          (unnoted_apart_all past.document.nodes ordered.distinct past.log (interval_in rows) c.serial (drop from past.diary) (unlisted c.serial free)))
      ends p k e c at_e implicit at_c (inr under) =
          let of = family past.document.nodes e.serial k c ordered.distinct at_c in
          let here : node_at (elements past.document.nodes) e.serial ≡ Some e = there_at (elements past.document.nodes) p e (elements_differ past.document.nodes ordered.distinct) at_e in
          let both : Some (under.container).serial ≡ Some e.serial = sym (ap serial_of under.above) ∙ of.under in
          let own : (under.container).serial ≡ e.serial = cc in
          end_same (front past from) later (interval_in rows) (interval_in rows) e c
          (child_same e c here implicit of.known (under_of (time_parent past.document.nodes c.serial) of.under) of.fed (subst (λ s. is_noted_by past.document.nodes past.log (interval_in rows) (drop from past.diary) s ≡ false) own (unlisted (under.container).serial under.unlisted)) (interval_in rows c.serial) refl)
        where
          under_of : (o : Option Node) → serial_of o ≡ Some e.serial → has_serial e.serial o ≡ true
          under_of None q = cc
          under_of (Some n) q = let one : n.serial ≡ e.serial = cc in eq-eqb n.serial e.serial one

  module _ (within : (r : ℕ) → listed r ≡ true → r < length order) (rank : ℕ) (on : listed rank ≡ true) where
    there : (e : Node) × (e.serial ≡ get_or order rank 0) × (node_at (elements past.document.nodes) e.serial ≡ Some e)
    there = element_of past.document.nodes order rank is (within rank on)

    own_noted : is_noted_by past.document.nodes past.log (interval_in rows) (drop from past.diary) (there.0).serial ≡ true
    own_noted = sym (told (there.0).serial rank (found_place (there.0).serial order rank distinct (within rank on) (sym there.1))) ∙ on

    -- a listed rank is that of an element that the entries have listed
    pub first_noted : is_noted_by past.document.nodes past.log (interval_in rows) (drop from past.diary) (get_or order rank 0) ≡ true
    first_noted = ap (is_noted_by past.document.nodes past.log (interval_in rows) (drop from past.diary)) (sym there.1) ∙ own_noted

    -- and that is in one of the reaches
    pub first_reached : in_reaches past.document.nodes past.log (drop from past.diary) (get_or order rank 0) ≡ true
    first_reached =
        ap (in_reaches past.document.nodes past.log (drop from past.diary)) (sym there.1)
        ∙ (reaches_hold past.document.nodes past.log (drop from past.diary)).touched there.0 there.2
        (noted_touched past.document.nodes ordered.distinct past.log (interval_in rows) (there.0).serial (drop from past.diary) own_noted)
