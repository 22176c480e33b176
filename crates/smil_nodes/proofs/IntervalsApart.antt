-- Intervals that agree but for one element, from which another does not follow.
use Rattle.std.proofs.Common.{◌≡◌, refl, sym, ◌∙◌, ap, subst, ℕ, ◌<◌, List, get_or, length, Option, Some, ℤ, Bool, true, false}
use Rattle.std.specs.Prelude.{◌&&◌, ◌||◌, ◌==◌, is_some, nat_eq, not}
use Rattle.std.specs.List.{IsDistinct, list_any, position}
use Rattle.std.proofs.lemmas.Bool.{or_left, or_right, and_from, and_parts, eq-eqb, eqb-true, not_from_false}
use Rattle.std.proofs.lemmas.List.Quantifiers.{position-Some}
use Rattle.smil_model.specs.declared.interval.Interval.{Interval}
use Rattle.smil_model.specs.declared.document.Node.{Node}
use Rattle.smil_model.specs.document.Document.{elements, node_at, has_serial, previous_in_seq, is_time_child, serials, time_parent}
use Rattle.smil_model.specs.document.Dependencies.{has_implicit_duration, is_sync_with, all_items, leads_to, feeds_node}
use Rattle.smil_model.specs.document.Valid as document
use Rattle.smil_model.specs.diary.Diary.{History}
use Rattle.smil_model.specs.happening.Keys.{coming_by}
use Rattle.smil_model.specs.interval.Current.{first_end_of, latest_end_of}
use Rattle.smil_model.specs.reach.Reach.{reads, reads_node, is_event_of, is_option}
use Rattle.smil_concern_laws.specs.Unconcerned.{AgreeByEnds, SameEnds}
use Rattle.smil_concern_laws.proofs.EndsLocality.{follow_from_ends}
use Rattle.smil_concern_laws.proofs.SimpleSame.{simple_same}
use Rattle.smil_laws.proofs.IntervalLocality.{AgreeFor}
use Rattle.smil_laws.proofs.ClosureExact.{any_has, has_filter}
use Rattle.smil_laws.proofs.ReachClosed.{found_any, own_is_all}
use Rattle.smil_laws.proofs.DependencyRanks.{any_elem, filter_has}
use Rattle.smil_graph.specs.Graph.{IsGraphOrder, follows, follows_by_item, follows_unlooped, followers_of, has_rank, is_follower_rank}
use Rattle.smil_graph.proofs.GraphTables.{place_is}
use Rattle.smil_graph.proofs.LinksAreDependencies.{any_there}
use Rattle.smil_rounds.specs.declared.current_rows.CurrentRow.{CurrentRow}
use Rattle.smil_rounds.specs.Round.{IsRowOf}
use Rattle.smil_rounds.proofs.RowsBesideElements.{there_at}
use Rattle.smil_rounds.proofs.RowEvaluated.{elements_differ}
use Rattle.smil_cells.specs.Evaluated.{is_container}
use Rattle.smil_nodes.proofs.ElementRanks.{found_place}
use Rattle.smil_nodes.proofs.EntriesNoted.{container_is}

-- ---- by the ends of time children

module _ (h : History) (J K : ℕ → Option Interval) where
  same_by : (s : ℕ) → K s ≡ J s → SameEnds h h (J s) (K s) s
  same_by s same = record {
    first = ap (λ o. first_end_of h o s) same;
    latest = ap (λ o. latest_end_of h o s) same;
  }

  -- intervals that agree for an element give its time children the same ends
  pub agree_by_ends : (e : Node) → AgreeFor h J K e → AgreeByEnds h J K e
  agree_by_ends e agree = record {
    children = λ s t q. same_by s (sym (agree.children s t q));
    previous = λ b q. sym (agree.before b q);
    named = λ x t c. sym (agree.named x t c);
  }

  -- the row of an element follows from these ends
  pub row_by_ends : (now : ℤ) (e : Node) (place : ℕ) (row : CurrentRow) → AgreeByEnds h J K e → IsRowOf h J now place e row → IsRowOf h K now place e row
  row_by_ends now e place row agree is = record {
    serial = is.serial;
    interval = is.interval ∙ sym (follow_from_ends h J K now e agree).interval;
    comings = is.comings ∙ ap (λ simple. coming_by h row.interval simple now place e) (sym (simple_same h h.diary J K e refl refl refl agree.children));
  }

  -- they agree for an element that does not follow from another by an item, where this ends as it did or is no
  -- time child of it
  pub agree_apart : (e : Node) (who : ℕ) → follows_by_item h.nodes who e ≡ false → (has_implicit_duration e ≡ true → list_any (λ (c : Node). (c.serial == who) && is_time_child h.nodes e.serial c) h.nodes ≡ true → SameEnds h h (J who) (K who) who) → ((x : ℕ) → who == x ≡ false → K x ≡ J x) → AgreeByEnds h J K e
  agree_apart e who free child others = record {
    children = λ s t q. by_child s t q (who == s) refl;
    previous = λ b q. apart b.serial (or_left _ _ (ap (has_serial b.serial) q ∙ eq-eqb b.serial b.serial refl));
    named = λ x t c. apart x (or_right _ _ (and_from _ _ t (not_from_false _ c)));
  }
    where
      by_child : (s : ℕ) → has_implicit_duration e ≡ true → list_any (λ (c : Node). (c.serial == s) && is_time_child h.nodes e.serial c) h.nodes ≡ true → (t : Bool) → who == s ≡ t → SameEnds h h (J s) (K s) s
      by_child s t q false other = same_by s (others s other)
      by_child s t q true own =
          let one = eqb-true who s own in
          subst (λ z. SameEnds h h (J z) (K z) z) one
          (child t (ap (λ z. list_any (λ (c : Node). (c.serial == z) && is_time_child h.nodes e.serial c) h.nodes) one ∙ q))

      apart : (x : ℕ) → follows_by_item h.nodes x e ≡ true → K x ≡ J x
      apart x following = by_test (who == x) refl
        where
          by_test : (t : Bool) → who == x ≡ t → K x ≡ J x
          by_test false q = others x q
          by_test true q =
              let never : false ≡ true = sym free ∙ ap (λ y. follows_by_item h.nodes y e) (eqb-true who x q) ∙ following in
              cc

-- and for every element where they are the same
pub agree_all : (h : History) (J K : ℕ → Option Interval) (e : Node) → ((x : ℕ) → J x ≡ K x) → AgreeFor h J K e
agree_all h J K e same = record { children = λ s t q. same s; before = λ b q. same b.serial; named = λ x t c. same x }

-- ---- what follows from an element by an item

module _ (nodes : List Node) (order : List ℕ) (who : ℕ) where
  -- has one of the ranks that are listed
  follower_at : (j : ℕ) (e : Node) → IsDistinct nat_eq order → j < length order → get_or order j 0 ≡ e.serial → node_at (elements nodes) e.serial ≡ Some e → follows_by_item nodes who e ≡ true → is_follower_rank nodes order who j ≡ true
  follower_at j e distinct lt at here q =
      any_has (has_rank order j) (followers_of nodes who) e.serial
      (has_filter (follows nodes who) (serials (elements nodes)) e.serial (own_is_all nodes 0 e here) (found_any e.serial (follows_by_item nodes who) (elements nodes) e here q))
      (ap (is_option j) (found_place e.serial order j distinct lt at) ∙ eq-eqb j j refl)

  pub not_following : (j : ℕ) (e : Node) → IsDistinct nat_eq order → j < length order → get_or order j 0 ≡ e.serial → node_at (elements nodes) e.serial ≡ Some e → is_follower_rank nodes order who j ≡ false → follows_by_item nodes who e ≡ false
  not_following j e distinct lt at here none = by_test (follows_by_item nodes who e) refl
    where
      by_test : (t : Bool) → follows_by_item nodes who e ≡ t → t ≡ false
      by_test false q = refl
      by_test true q = let never : true ≡ false = sym (follower_at j e distinct lt at here q) ∙ none in cc

-- ---- what follows from an element reads it, and stands behind it in the order

pub record IsLaterReader (nodes : List Node) (order : List ℕ) (rank who j : ℕ) : Type 0 where
  pub above : rank < j
  pub within : j < length order
  pub reading : reads nodes who (get_or order j 0) ≡ true

module _ (nodes : List Node) (order : List ℕ) (rank who : ℕ) (distinct : document.IsDistinct nodes) (is : IsGraphOrder nodes order) (lt : rank < length order) (at : get_or order rank 0 ≡ who) where
  item_feeds : (a b c n : Bool) → (b || (c && n)) ≡ true → (a || b) || c ≡ true
  item_feeds true b c n q = refl
  item_feeds false true c n q = refl
  item_feeds false false c n q = (and_parts c n q).0

  item_unlooped : (a b c n : Bool) → (b || (c && n)) ≡ true → (a || b) || (c && n) ≡ true
  item_unlooped true b c n q = refl
  item_unlooped false b c n q = q

  -- of an element at a rank
  later : (j : ℕ) (e : Node) → j < length order → get_or order j 0 ≡ e.serial → node_at (elements nodes) e.serial ≡ Some e → feeds_node nodes who e ≡ true → follows_unlooped nodes who e ≡ true → IsLaterReader nodes order rank who j
  later j e within at_e here feeding following = record {
    above = is.forward e rank j here lt within at_e (ap (λ x. follows_unlooped nodes x e) at ∙ following);
    within = within;
    reading =
        ap (reads nodes who) at_e
        ∙ found_any e.serial (reads_node nodes who) (elements nodes) e here
        (or_left (feeds_node nodes who e) (list_any (is_event_of nodes e.serial who) (all_items nodes e)) feeding);
  }

  pub follower_later : (j : ℕ) → is_follower_rank nodes order who j ≡ true → IsLaterReader nodes order rank who j
  follower_later j q =
      let one = any_elem (has_rank order j) (followers_of nodes who) q in
      let there = position-Some (λ s. s == one.0) order j 0 (place_is j (position (λ s. s == one.0) order) one.2) in
      let found = any_there (λ (e : Node). (e.serial == one.0) && follows_by_item nodes who e) (elements nodes) (filter_has (follows nodes who) (serials (elements nodes)) one.0 one.1).1 in
      let parts = and_parts ((found.1).serial == one.0) (follows_by_item nodes who found.1) found.3 in
      let fed = has_implicit_duration found.1 && list_any (λ (c : Node). (c.serial == who) && is_time_child nodes (found.1).serial c) nodes in
      let before = has_serial who (previous_in_seq nodes (found.1).serial) in
      let named = list_any (is_sync_with nodes who) (all_items nodes found.1) in
      let free = not (leads_to nodes (found.1).serial who) in
      later j found.1 there.0
      (eqb-true (get_or order j 0) one.0 there.1 ∙ sym (eqb-true (found.1).serial one.0 parts.0))
      (there_at (elements nodes) found.0 found.1 (elements_differ nodes distinct) found.2)
      (item_feeds fed before named free parts.1) (item_unlooped fed before named free parts.1)

  -- and so does its container
  pub container_later : (j : ℕ) → is_some (node_at (elements nodes) who) ≡ true → j < length order → is_container (time_parent nodes who) (get_or order j 0) ≡ true → IsLaterReader nodes order rank who j
  container_later j known within q =
      let holds = container_is nodes distinct who (get_or order j 0) known q in
      let held : (has_implicit_duration holds.node && list_any (λ (c : Node). (c.serial == who) && is_time_child nodes (holds.node).serial c) nodes) ≡ true = and_from _ _ holds.implicit holds.fed in
      later j holds.node within (sym holds.own) holds.found (or_left _ _ (or_left _ _ held)) (or_left _ _ (or_left _ _ held))
