use Rattle.std.proofs.Common.{◌≡◌, ◌∙◌, ap, sym, subst, refl, List, ℕ, ◌<◌, length, drop, get_or, ◌++◌, ◌∷◌, [], Some, ℤ, w64, to_z, of_z, arith, rules, true, false, inl, inr}
use Rattle.std.specs.Prelude.{◌==◌, ◌&&◌, ◌⊎◌, is_some, nat_eq}
use Rattle.std.specs.List.{IsDistinct, list_any}
use Rattle.std.proofs.lemmas.Bool.{and_from, eq-eqb}
use Rattle.std.proofs.lemmas.Int.{to_z-of_z}
use Rattle.smil_model.specs.document.Closure.{has}
use Rattle.smil_model.specs.declared.document.Node.{Node}
use Rattle.smil_model.specs.document.Dependencies.{has_implicit_duration}
use Rattle.smil_model.specs.document.Document.{Document, elements, is_time_child, node_at, time_parent}
use Rattle.smil_model.specs.interval.Current.{current_interval}
use Rattle.smil_laws.proofs.NumberedTrees.{ordered}
use Rattle.smil_laws.proofs.RoundsRest.{find-serial}
use Rattle.smil_concern_laws.specs.Unconcerned.{SameEnds}
use Rattle.smil_graph.specs.Graph.{IsGraphOrder, is_follower_rank}
use Rattle.smil_past.specs.Past.{front, history_of}
use Rattle.smil_element.proofs.PresentMoment.{present_fits}
use Rattle.smil_rounds.specs.Current.{interval_in}
use Rattle.smil_rounds.proofs.CurrentRowsExact.{ordered_element}
use Rattle.smil_rounds.proofs.RowEvaluated.{unchanged_both, unchanged_none}
use Rattle.smil_nodes.specs.Endings.{AreKnown}
use Rattle.smil_nodes.specs.Marked.{GoesBack}
use Rattle.smil_cells.specs.Evaluated.{AreChanged, is_container}
use Rattle.smil_nodes.specs.Agenda.{IsLeastTaken}
use Rattle.smil_nodes.specs.Work.{AreSettled, HasKeptEnding, HasSame, IsCounted, gap_from}
use Rattle.smil_nodes.proofs.RankGap.{gap_falls}
use Rattle.smil_nodes.proofs.RisingRanks.{taken_out}
use Rattle.smil_nodes.proofs.RowAtElement.{current_intervals}
use Rattle.smil_nodes.proofs.NearKeys.{near_present}
use Rattle.smil_nodes.proofs.RowsBefore.{first_noted, first_reached, known_first, settled_first}
use Rattle.smil_nodes.proofs.AgendaStep.{left_out, others_stay, settled_same, settled_changed}
use Rattle.smil_nodes.proofs.EvaluatedOnce.{none_counted, one_counted, rank_passed, told_more, told_still}
use Rattle.smil_nodes.proofs.AgendaEmpty.{counted_least, counted_most, evaluated_due, settled_current, told_differ, told_pushed, told_same, untold_stay}
use Rattle.smil_nodes.proofs.RefreshCalls.{differ_in, is_order, left_over, no_ending, no_follower, noted_told, noted_within, only_later, rest_of}
use Rattle.smil_nodes.proofs.IntervalsApart.{IsLaterReader}
use Rattle.smil_nodes.proofs.KnownEnds.{all_unlisted, children_unlisted, kept_next, known_ended, knows, parent_of, same_ends_kept}
use Rattle.smil_nodes.proofs.live.LiveTableTable.refresh.Given.{Over}
use Rattle.smil_nodes.proofs.live.LiveTableTable.refresh.Goals as goal
use Rattle.smil_nodes.proofs.live.LiveTableTable.refresh.Goals.{In_ok-effect, In_ok-put_container}

pub loop-rank-init : goal.loop-rank-init
loop-rank-init g c =
    let past = c.args.since.now.past.now in
    let nodes = past.document.nodes in
    let graph = c.graph-graph.result.now in
    let order = c.order-order.result.now in
    let rows = c.args.self.now.schedule in
    let listed = has c.note_concerned.new.agenda in
    let is = is_order graph nodes order c.graph-graph.ensures c.order-order.ensures.order in
    let in_order = ordered past.document c.possible.ensures.valid.numbered in
    let apart = differ_in nodes order c.possible.ensures.valid.numbered.distinct is in
    let told = noted_told graph past (interval_in rows) c.args.since.now.from c.clear.new.self c.note_concerned.new.agenda order c.order-order.ensures.kept c.graph-graph.ensures c.clear.ensures c.in_ok-note_concerned.ensures in
    let within = noted_within graph past (interval_in rows) c.args.since.now.from c.clear.new.self c.note_concerned.new.agenda order c.order-order.ensures.kept c.graph-graph.ensures c.clear.ensures c.in_ok-note_concerned.ensures in (
      subst (λ (m : ℤ). AreSettled (history_of past) m order listed rows) (sym (to_z-of_z w64 c.args.since.now.moment (present_fits c.args.since.now.past.now c.args.since.now.moment c.requires.moment)))
          (settled_first past c.args.since.now.from c.args.since.now.moment order rows listed in_order is apart told c.requires.before.rows_are),
      none_counted (history_of past) _ nodes past.log (drop c.args.since.now.from past.diary) order rows c.args.steps.now listed within
          (first_reached past c.args.since.now.from c.args.since.now.moment order rows listed in_order is apart told within)
          (first_noted past c.args.since.now.from c.args.since.now.moment order rows listed in_order is apart told within),
      unchanged_none c.args.changed.now rows,
      λ m. refl,
      refl,
      omega arith,
      known_first past c.args.since.now.from c.args.since.now.moment order rows listed in_order is apart told c.args.self.now.endings c.requires.before.ends_are,
      λ s on. inl on,
    )

pub bounds-order-rank : goal.bounds-order-rank
bounds-order-rank g c =
    ((c.loop-rank.invariant.1).above c.in-Some.rank (taken_out c.loop-rank.self.agenda c.in-Some.rank c.take_first.new.self c.in-Some.ensures.taken c.in-Some.ensures.order).member).1

pub offset_bounds-order-rank : goal.offset_bounds-order-rank
offset_bounds-order-rank g c =
    let low : c.in-Some.rank < length c.order-order.result.now = ((c.loop-rank.invariant.1).above c.in-Some.rank (taken_out c.loop-rank.self.agenda c.in-Some.rank c.take_first.new.self c.in-Some.ensures.taken c.in-Some.ensures.order).member).1 in
    first_of (omega (arith, low), search rules)

pub evaluate-requires-clause-element : goal.evaluate-requires-clause-element
evaluate-requires-clause-element g c =
    let nodes = c.args.since.now.past.now.document.nodes in
    let order = c.order-order.result.now in
    ordered_element nodes order c.in-Some.rank
    (is_order c.graph-graph.result.now nodes order c.graph-graph.ensures c.order-order.ensures.order)
    ((c.loop-rank.invariant.1).above c.in-Some.rank (taken_out c.loop-rank.self.agenda c.in-Some.rank c.take_first.new.self c.in-Some.ensures.taken c.in-Some.ensures.order).member).1

pub evaluate-requires-clause-known : goal.evaluate-requires-clause-known
evaluate-requires-clause-known g c = λ e here implicit.
    let past = c.args.since.now.past.now in
    let nodes = past.document.nodes in
    let order = c.order-order.result.now in
    let rank = c.in-Some.rank in
    let who = get_or order rank 0 in
    let old = c.loop-rank.self.agenda in
    let within : rank < length order = ((c.loop-rank.invariant.1).above rank (taken_out c.loop-rank.self.agenda c.in-Some.rank c.take_first.new.self c.in-Some.ensures.taken c.in-Some.ensures.order).member).1 in
    let is = is_order c.graph-graph.result.now nodes order c.graph-graph.ensures c.order-order.ensures.order in
    let distinct = c.possible.ensures.valid.numbered.distinct in
    let own : e.serial ≡ who = find-serial who (elements nodes) e here in
    knows (history_of past) c.loop-rank.self.schedule c.loop-rank.self.endings (HasKeptEnding nodes order (has old)) who e distinct (c.loop-rank.invariant.0).of_elements c.loop-rank.invariant.6 here implicit
    (λ k child at. inl (children_unlisted nodes order old c.take_first.new.self rank e distinct is within (sym own) (ap (node_at (elements nodes)) own ∙ here) implicit (taken_out c.loop-rank.self.agenda c.in-Some.rank c.take_first.new.self c.in-Some.ensures.taken c.in-Some.ensures.order) k child at))

pub follower_ranks-requires : goal.follower_ranks-requires
follower_ranks-requires g c =
    subst (λ (o : List ℕ). c.in-Some.rank < length o) c.order-order.ensures.kept
    ((c.loop-rank.invariant.1).above c.in-Some.rank (taken_out c.loop-rank.self.agenda c.in-Some.rank c.take_first.new.self c.in-Some.ensures.taken c.in-Some.ensures.order).member).1

pub put_container-requires-clause-graph : goal.put_container-requires-clause-graph
put_container-requires-clause-graph g c = c.graph-graph.ensures ∙ sym (ap (λ (d : Document). d.nodes) c.tree.ensures)

pub put_container-requires-clause-element : goal.put_container-requires-clause-element
put_container-requires-clause-element g c =
    let nodes = c.args.since.now.past.now.document.nodes in
    let order = c.order-order.result.now in
    ap (λ (d : Document). is_some (node_at (elements d.nodes) (get_or order c.in-Some.rank 0))) c.tree.ensures
    ∙ ordered_element nodes order c.in-Some.rank
    (is_order c.graph-graph.result.now nodes order c.graph-graph.ensures c.order-order.ensures.order)
    ((c.loop-rank.invariant.1).above c.in-Some.rank (taken_out c.loop-rank.self.agenda c.in-Some.rank c.take_first.new.self c.in-Some.ensures.taken c.in-Some.ensures.order).member).1

-- what holds where an element was evaluated
record Evaluated (g : Over) (c : In_ok-effect g) : Type 0 where
  within : c.in-Some.rank < length c.order-order.result.now
  is : IsGraphOrder c.args.since.now.past.now.document.nodes c.order-order.result.now
  apart : IsDistinct nat_eq c.order-order.result.now
  others : (s : ℕ) → get_or c.order-order.result.now c.in-Some.rank 0 == s ≡ false → interval_in c.evaluate.new.self.schedule s ≡ interval_in c.loop-rank.self.schedule s

evaluated : (g : Over) (c : In_ok-effect g) → Evaluated g c
evaluated g c =
    let past = c.args.since.now.past.now in
    let order = c.order-order.result.now in
    let is = is_order c.graph-graph.result.now past.document.nodes order c.graph-graph.ensures c.order-order.ensures.order in
    let distinct = c.possible.ensures.valid.numbered.distinct in
    record {
      within = ((c.loop-rank.invariant.1).above c.in-Some.rank (taken_out c.loop-rank.self.agenda c.in-Some.rank c.take_first.new.self c.in-Some.ensures.taken c.in-Some.ensures.order).member).1;
      is = is;
      apart = differ_in past.document.nodes order distinct is;
      others = others_stay (history_of past) _ (get_or order c.in-Some.rank 0) c.loop-rank.self.schedule c.evaluate.new.self.schedule distinct (c.loop-rank.invariant.0).of_elements c.in_ok-effect.ensures.taken;
    }

-- the interval of the element is another
abbrev Changes : (g : Over) (c : In_ok-effect g) → Type 0
Changes g c = HasSame (get_or c.order-order.result.now c.in-Some.rank 0) c.loop-rank.self.schedule c.evaluate.new.self.schedule → ⊥

-- only what was listed, and later readers of the element where it changes, are listed from now on
abbrev ListsLater : (g : Over) (c : In_ok-effect g) → List ℕ → Type 0
ListsLater g c new =
    (r : ℕ) → has new r ≡ true
    → (has c.take_first.new.self r ≡ true)
    ⊎ (IsLaterReader c.args.since.now.past.now.document.nodes c.order-order.result.now c.in-Some.rank (get_or c.order-order.result.now c.in-Some.rank 0) r × Changes g c)

-- what was listed is, and nothing else
listed_still : (g : Over) (c : In_ok-effect g) → ListsLater g c c.evaluate.new.self.agenda
listed_still g c r on = inl (sym (ap (λ l. has l r) c.in_ok-effect.ensures.agenda) ∙ on)

-- and what follows from the element is where its interval changes
later_listed : (g : Over) (c : In_ok-effect g) (r : ℕ) → Changes g c → (has c.take_first.new.self r ≡ true) ⊎ IsLaterReader c.args.since.now.past.now.document.nodes c.order-order.result.now c.in-Some.rank (get_or c.order-order.result.now c.in-Some.rank 0) r
    → (has c.take_first.new.self r ≡ true) ⊎ (IsLaterReader c.args.since.now.past.now.document.nodes c.order-order.result.now c.in-Some.rank (get_or c.order-order.result.now c.in-Some.rank 0) r × Changes g c)
later_listed g c r changes (inl was) = inl was
later_listed g c r changes (inr later) = inr (later, changes)

falls : (g : Over) (c : In_ok-effect g) (new : List ℕ) → ListsLater g c new → gap_from (has new) (length c.order-order.result.now) 0 < gap_from (has c.loop-rank.self.agenda) (length c.order-order.result.now) 0
falls g c new from =
    let past = c.args.since.now.past.now in
    let e = evaluated g c in
    gap_falls (has c.loop-rank.self.agenda) (has new) (length c.order-order.result.now) c.in-Some.rank e.within (taken_out c.loop-rank.self.agenda c.in-Some.rank c.take_first.new.self c.in-Some.ensures.taken c.in-Some.ensures.order).member
    (rank_passed (history_of past) _ past.document.nodes past.log (drop c.args.since.now.from past.diary) c.order-order.result.now c.args.self.now.schedule c.args.steps.now c.loop-rank.self.agenda c.loop-rank.self.schedule c.evaluate.new.self.schedule c.loop-rank.steps c.in-Some.rank _ e.is e.apart c.take_first.new.self e.within refl (taken_out c.loop-rank.self.agenda c.in-Some.rank c.take_first.new.self c.in-Some.ensures.taken c.in-Some.ensures.order) e.others c.loop-rank.invariant.1
    (has new) from)

counted : (g : Over) (c : In_ok-effect g) (new : List ℕ) → ListsLater g c new
    → IsCounted (history_of c.args.since.now.past.now) (to_z w64 (of_z w64 c.args.since.now.moment)) c.args.since.now.past.now.document.nodes c.args.since.now.past.now.log (drop c.args.since.now.from c.args.since.now.past.now.diary) c.order-order.result.now (has new) c.args.self.now.schedule c.evaluate.new.self.schedule c.args.steps.now c.evaluate.new.steps
counted g c new from =
    let past = c.args.since.now.past.now in
    let e = evaluated g c in
    one_counted (history_of past) _ past.document.nodes past.log (drop c.args.since.now.from past.diary) c.order-order.result.now c.args.self.now.schedule c.args.steps.now c.loop-rank.self.agenda c.loop-rank.self.schedule c.evaluate.new.self.schedule c.loop-rank.steps c.in-Some.rank _ e.is e.apart c.take_first.new.self e.within refl (taken_out c.loop-rank.self.agenda c.in-Some.rank c.take_first.new.self c.in-Some.ensures.taken c.in-Some.ensures.order) e.others c.loop-rank.invariant.1
    (has new) from c.evaluate.new.steps c.in_ok-effect.ensures.steps c.in_ok-effect.ensures.taken

goes_back : (g : Over) (c : In_ok-effect g) → GoesBack c.args.self.now c.evaluate.new.self
goes_back g c marked =
    let later = c.in_ok-effect.ensures.back (c.loop-rank.invariant.4 ∙ marked) in
    let before = c.loop-rank.invariant.3 marked in
    later ∙ before

ends_known : (g : Over) (c : In_ok-effect g) (new : List ℕ) → ((r : ℕ) → has new r ≡ false → (r ≡ c.in-Some.rank) ⊎ (has c.loop-rank.self.agenda r ≡ false))
    → AreKnown (history_of c.args.since.now.past.now) (interval_in c.evaluate.new.self.schedule) (HasKeptEnding c.args.since.now.past.now.document.nodes c.order-order.result.now (has new)) c.evaluate.new.self.endings
ends_known g c new left =
    let order = c.order-order.result.now in
    let nodes = c.args.since.now.past.now.document.nodes in
    let old = c.loop-rank.self.agenda in
    let e = evaluated g c in
    known_ended (history_of c.args.since.now.past.now) _ c.loop-rank.self.schedule c.evaluate.new.self.schedule c.loop-rank.self.endings c.evaluate.new.self.endings (HasKeptEnding nodes order (has old)) (HasKeptEnding nodes order (has new)) c.possible.ensures.valid.numbered.distinct e.others c.in_ok-effect.ensures.ended
    (λ child there other kept. kept_next nodes order old c.take_first.new.self c.in-Some.rank _ (has new) c.possible.ensures.valid.numbered.distinct e.is e.within refl (taken_out old c.in-Some.rank c.take_first.new.self c.in-Some.ensures.taken c.in-Some.ensures.order) left child there other kept)
    c.loop-rank.invariant.6

-- what is told after an evaluation has another interval
told_after : (g : Over) (c : In_ok-effect g) → AreChanged c.args.changed.now c.loop-rank.changed (interval_in c.args.self.now.schedule) (interval_in c.evaluate.new.self.schedule)
told_after g c =
    let past = c.args.since.now.past.now in
    let e = evaluated g c in
    told_still (history_of past) _ past.document.nodes past.log (drop c.args.since.now.from past.diary) c.order-order.result.now c.args.self.now.schedule c.args.steps.now c.loop-rank.self.agenda c.loop-rank.self.schedule c.evaluate.new.self.schedule c.loop-rank.steps c.in-Some.rank _ e.is e.apart c.take_first.new.self e.within refl (taken_out c.loop-rank.self.agenda c.in-Some.rank c.take_first.new.self c.in-Some.ensures.taken c.in-Some.ensures.order) e.others c.loop-rank.invariant.1
    c.args.changed.now c.loop-rank.changed c.loop-rank.invariant.7

told_besides : (g : Over) (c : In_ok-effect g) (new : List ℕ) → Changes g c → new ≡ c.loop-rank.changed ++ get_or c.order-order.result.now c.in-Some.rank 0 ∷ [] → AreChanged c.args.changed.now new (interval_in c.args.self.now.schedule) (interval_in c.evaluate.new.self.schedule)
told_besides g c new changes pushed =
    let past = c.args.since.now.past.now in
    let e = evaluated g c in
    told_more (history_of past) _ past.document.nodes past.log (drop c.args.since.now.from past.diary) c.order-order.result.now c.args.self.now.schedule c.args.steps.now c.loop-rank.self.agenda c.loop-rank.self.schedule c.evaluate.new.self.schedule c.loop-rank.steps c.in-Some.rank _ e.is e.apart c.take_first.new.self e.within refl (taken_out c.loop-rank.self.agenda c.in-Some.rank c.take_first.new.self c.in-Some.ensures.taken c.in-Some.ensures.order) e.others c.loop-rank.invariant.1
    c.args.changed.now c.loop-rank.changed new c.loop-rank.invariant.7 changes pushed

-- what an element whose interval is another has listed
module _ (g : Over) (c : In_ok-put_container g) where
  abbrev nodes : List Node
  nodes = c.args.since.now.past.now.document.nodes

  abbrev order : List ℕ
  order = c.order-order.result.now

  abbrev who : ℕ
  who = get_or order c.in-Some.rank 0

  is : IsGraphOrder nodes order
  is = is_order c.graph-graph.result.now nodes order c.graph-graph.ensures c.order-order.ensures.order

  off : IsLeastTaken c.loop-rank.self.agenda c.in-Some.rank c.take_first.new.self
  off = taken_out c.loop-rank.self.agenda c.in-Some.rank c.take_first.new.self c.in-Some.ensures.taken c.in-Some.ensures.order

  within : c.in-Some.rank < length order
  within = ((c.loop-rank.invariant.1).above c.in-Some.rank off.member).1

  known : is_some (node_at (elements nodes) who) ≡ true
  known = ordered_element nodes order c.in-Some.rank is within

  -- what is listed was, or reads the element and stands behind it
  only : (r : ℕ) → has c.put_container.new.agenda r ≡ true → (has c.take_first.new.self r ≡ true) ⊎ IsLaterReader nodes order c.in-Some.rank who r
  only = only_later c.graph-graph.result.now nodes order c.possible.ensures.valid.numbered.distinct is c.order-order.ensures.kept c.graph-graph.ensures c.loop-rank.self.agenda c.take_first.new.self c.evaluate.new.self.agenda c.put_ranks.new.agenda c.put_container.new.agenda c.in-Some.rank who (c.in_ok-effect.effect).ending within refl known off c.in_ok-effect.ensures.agenda c.follower_ranks.result.now c.follower_ranks.ensures c.in_ok-put_ranks.ensures c.in_ok-put_container.ensures

  -- what is not was not, or is the element itself
  left : (r : ℕ) → has c.put_container.new.agenda r ≡ false → (r ≡ c.in-Some.rank) ⊎ (has c.loop-rank.self.agenda r ≡ false)
  left = left_over c.graph-graph.result.now nodes order c.possible.ensures.valid.numbered.distinct is c.order-order.ensures.kept c.graph-graph.ensures c.loop-rank.self.agenda c.take_first.new.self c.evaluate.new.self.agenda c.put_ranks.new.agenda c.put_container.new.agenda c.in-Some.rank who (c.in_ok-effect.effect).ending within refl known off c.in_ok-effect.ensures.agenda c.follower_ranks.result.now c.follower_ranks.ensures c.in_ok-put_ranks.ensures c.in_ok-put_container.ensures (λ r on. ((c.loop-rank.invariant.1).above r on).1)

  -- and does not follow from the element by an item
  free : (r : ℕ) → r < length order → has c.put_container.new.agenda r ≡ false → is_follower_rank nodes order who r ≡ false
  free = no_follower c.graph-graph.result.now nodes order c.possible.ensures.valid.numbered.distinct is c.order-order.ensures.kept c.graph-graph.ensures c.loop-rank.self.agenda c.take_first.new.self c.evaluate.new.self.agenda c.put_ranks.new.agenda c.put_container.new.agenda c.in-Some.rank who (c.in_ok-effect.effect).ending within refl known off c.in_ok-effect.ensures.agenda c.follower_ranks.result.now c.follower_ranks.ensures c.in_ok-put_ranks.ensures c.in_ok-put_container.ensures

  -- a container that is not listed takes the same ends of the element
  ends : AreKnown (history_of c.args.since.now.past.now) (interval_in c.evaluate.new.self.schedule) (HasKeptEnding nodes order (has c.put_container.new.agenda)) c.evaluate.new.self.endings → (j : ℕ) (e : Node) → c.in-Some.rank < j → j < length order → get_or order j 0 ≡ e.serial → node_at (elements nodes) e.serial ≡ Some e → has c.put_container.new.agenda j ≡ false → has_implicit_duration e ≡ true → list_any (λ (d : Node). (d.serial == who) && is_time_child nodes e.serial d) nodes ≡ true → SameEnds (history_of c.args.since.now.past.now) (history_of c.args.since.now.past.now) (interval_in c.loop-rank.self.schedule who) (interval_in c.evaluate.new.self.schedule who) who
  ends known_now j e above below at here out implicit fed =
      let distinct = c.possible.ensures.valid.numbered.distinct in
      let under : time_parent nodes who ≡ Some e = parent_of nodes distinct who e here fed in
      let held : is_container (time_parent nodes who) (get_or order j 0) ≡ true = ap (λ o. is_container o (get_or order j 0)) under ∙ and_from _ _ (eq-eqb e.serial (get_or order j 0) (sym at)) implicit in
      let stays = no_ending c.graph-graph.result.now nodes order c.possible.ensures.valid.numbered.distinct is c.order-order.ensures.kept c.graph-graph.ensures c.loop-rank.self.agenda c.take_first.new.self c.evaluate.new.self.agenda c.put_ranks.new.agenda c.put_container.new.agenda c.in-Some.rank who (c.in_ok-effect.effect).ending within refl known off c.in_ok-effect.ensures.agenda c.follower_ranks.result.now c.follower_ranks.ensures c.in_ok-put_ranks.ensures c.in_ok-put_container.ensures j below out held in
      let was : has c.loop-rank.self.agenda j ≡ false = elim (left j out) [ inl same ↦ absurd (omega (arith, same, above)) | inr free_before ↦ free_before ] in
      same_ends_kept (history_of c.args.since.now.past.now) (interval_in c.loop-rank.self.schedule) (interval_in c.evaluate.new.self.schedule) (HasKeptEnding nodes order (has c.loop-rank.self.agenda)) (HasKeptEnding nodes order (has c.put_container.new.agenda)) c.loop-rank.self.endings c.evaluate.new.self.endings e who distinct c.loop-rank.invariant.6 known_now (c.in_ok-effect.ensures.ending stays) here implicit fed
      (inr (record { container = e; above = under; implicit = implicit; unlisted = record { rank = j; within = below; at = at; free = was } }))
      (inr (record { container = e; above = under; implicit = implicit; unlisted = record { rank = j; within = below; at = at; free = out } }))

pub loop-rank-smaller-in-Continue-branch-5 : goal.loop-rank-smaller-in-Continue-branch-5
loop-rank-smaller-in-Continue-branch-5 g c =
    let all = goal.at.loop-rank-smaller-in-Continue-branch-5 g c in
    let changes : Changes g all.In_ok-effect = (λ same. let never : true ≡ false = sym c.if-effect.true ∙ c.in_ok-effect.ensures.same.1 same in cc) in
    falls g all.In_ok-effect c.put_container.new.agenda (λ r on. later_listed g all.In_ok-effect r changes (only g all.In_ok-put_container r on))

pub loop-rank-preserved-in-Continue-branch-5 : goal.loop-rank-preserved-in-Continue-branch-5
loop-rank-preserved-in-Continue-branch-5 g c =
    let all = goal.at.loop-rank-preserved-in-Continue-branch-5 g c in
    let there = all.In_ok-put_container in
    let e = evaluated g all.In_ok-effect in
    let changes : Changes g all.In_ok-effect = (λ same. let never : true ≡ false = sym c.if-effect.true ∙ c.in_ok-effect.ensures.same.1 same in cc) in
    let known_now = ends_known g all.In_ok-effect c.put_container.new.agenda (left g there) in
    let old = c.loop-rank.self.agenda in (
      settled_changed (history_of c.args.since.now.past.now) _ _ c.loop-rank.self.schedule c.evaluate.new.self.schedule c.possible.ensures.valid.numbered.distinct (c.loop-rank.invariant.0).of_elements c.in_ok-effect.ensures.taken c.order-order.result.now c.in-Some.rank e.is e.within refl
          (has old) (has c.put_container.new.agenda) e.apart c.loop-rank.invariant.0 (left g there) (free g there) (ends g there known_now),
      counted g all.In_ok-effect c.put_container.new.agenda (λ r on. later_listed g all.In_ok-effect r changes (only g there r on)),
      unchanged_both c.args.changed.now c.loop-rank.changed c.push.new.self c.args.self.now.schedule c.loop-rank.self.schedule c.evaluate.new.self.schedule c.loop-rank.invariant.2
          (told_pushed c.loop-rank.changed c.push.new.self _ c.loop-rank.self.schedule c.evaluate.new.self.schedule e.others c.in_ok-push.ensures.ok),
      goes_back g all.In_ok-effect,
      c.in_ok-effect.ensures.has_mark ∙ c.loop-rank.invariant.4,
      omega (arith, c.in_ok-effect.ensures.counted, c.loop-rank.invariant.5),
      known_now,
      told_besides g all.In_ok-effect c.push.new.self changes c.in_ok-push.ensures.ok,
    )

pub loop-rank-smaller : goal.loop-rank-smaller
loop-rank-smaller g c =
    let all = (goal.at.loop-rank-smaller g c).In_ok-effect in
    falls g all c.evaluate.new.self.agenda (listed_still g all)

pub loop-rank-preserved : goal.loop-rank-preserved
loop-rank-preserved g c =
    let all = (goal.at.loop-rank-preserved g c).In_ok-effect in
    let e = evaluated g all in
    let old = c.loop-rank.self.agenda in
    let new = c.evaluate.new.self.agenda in
    let rest = rest_of old c.take_first.new.self new c.in-Some.rank c.in_ok-effect.ensures.agenda (taken_out c.loop-rank.self.agenda c.in-Some.rank c.take_first.new.self c.in-Some.ensures.taken c.in-Some.ensures.order) in
    let stays = c.in_ok-effect.ensures.same.0 c.if-effect.false in (
      settled_same (history_of c.args.since.now.past.now) _ _ c.loop-rank.self.schedule c.evaluate.new.self.schedule c.possible.ensures.valid.numbered.distinct (c.loop-rank.invariant.0).of_elements c.in_ok-effect.ensures.taken c.order-order.result.now c.in-Some.rank e.is e.within refl
          (has old) (has new) c.loop-rank.invariant.0 (λ r out. left_out (has old) c.in-Some.rank r (sym (rest r) ∙ out)) stays,
      counted g all new (listed_still g all),
      unchanged_both c.args.changed.now c.loop-rank.changed c.loop-rank.changed c.args.self.now.schedule c.loop-rank.self.schedule c.evaluate.new.self.schedule c.loop-rank.invariant.2
          (told_same c.loop-rank.changed c.loop-rank.changed _ c.loop-rank.self.schedule c.evaluate.new.self.schedule e.others refl stays),
      goes_back g all,
      c.in_ok-effect.ensures.has_mark ∙ c.loop-rank.invariant.4,
      omega (arith, c.in_ok-effect.ensures.counted, c.loop-rank.invariant.5),
      ends_known g all new (λ r out. left_out (has old) c.in-Some.rank r (sym (rest r) ∙ out)),
      told_after g all,
    )

-- the rows at the end
pub returns-clause-current : goal.returns-clause-current
returns-clause-current g c =
    let past = c.args.since.now.past.now in
    let order = c.order-order.result.now in
    let settled : AreSettled (history_of past) c.args.since.now.moment order (has c.loop-rank.self.agenda) c.loop-rank.self.schedule =
    subst (λ (m : ℤ). AreSettled (history_of past) m order (has c.loop-rank.self.agenda) c.loop-rank.self.schedule) (to_z-of_z w64 c.args.since.now.moment (present_fits c.args.since.now.past.now c.args.since.now.moment c.requires.moment)) c.loop-rank.invariant.0 in
    let is = is_order c.graph-graph.result.now past.document.nodes order c.graph-graph.ensures c.order-order.ensures.order in
    record {
      rows_are =
          settled_current (history_of past) c.args.since.now.moment order (has c.loop-rank.self.agenda) c.loop-rank.self.schedule (ordered past.document c.possible.ensures.valid.numbered) is settled
          (λ r. ap (λ (l : List ℕ). has l r) c.in_default.ensures.taken.0);
      ends_are =
          all_unlisted (history_of past) (interval_in c.loop-rank.self.schedule) order c.loop-rank.self.endings c.possible.ensures.valid.numbered.distinct is (has c.loop-rank.self.agenda)
          (λ r. ap (λ (l : List ℕ). has l r) c.in_default.ensures.taken.0) c.loop-rank.invariant.6;
      keys_are = near_present past c.args.since.now.moment c.possible.ensures c.requires.moment;
    }

pub returns-clause-changed : goal.returns-clause-changed
returns-clause-changed g c =
    untold_stay (front c.args.since.now.past.now c.args.since.now.from) (history_of c.args.since.now.past.now) c.args.since.now.moment c.args.self.now.schedule c.loop-rank.self.schedule c.args.changed.now c.loop-rank.changed
    c.requires.before.rows_are (returns-clause-current g c).rows_are c.loop-rank.invariant.2

pub returns-clause-told : goal.returns-clause-told
returns-clause-told g c =
    told_differ (front c.args.since.now.past.now c.args.since.now.from) (history_of c.args.since.now.past.now) c.args.since.now.moment c.args.self.now.schedule c.loop-rank.self.schedule c.args.changed.now c.loop-rank.changed
    c.requires.before.rows_are (returns-clause-current g c).rows_are c.loop-rank.invariant.7

pub returns-clause-most : goal.returns-clause-most
returns-clause-most g c =
    counted_most (history_of c.args.since.now.past.now) _ c.args.since.now.past.now.document.nodes c.args.since.now.past.now.log (drop c.args.since.now.from c.args.since.now.past.now.diary) c.order-order.result.now (has c.loop-rank.self.agenda)
    c.args.self.now.schedule c.loop-rank.self.schedule c.args.steps.now c.loop-rank.steps c.loop-rank.invariant.1

pub returns-clause-due : goal.returns-clause-due
returns-clause-due g c =
    let past = c.args.since.now.past.now in
    let before = front past c.args.since.now.from in
    evaluated_due (history_of past) c.args.since.now.moment past.document.nodes past.log (drop c.args.since.now.from past.diary) c.order-order.result.now (has c.loop-rank.self.agenda)
    c.args.self.now.schedule c.loop-rank.self.schedule c.args.steps.now c.loop-rank.steps
    (subst
    (λ (m : ℤ). IsCounted (history_of past) m past.document.nodes past.log (drop c.args.since.now.from past.diary) c.order-order.result.now (has c.loop-rank.self.agenda) c.args.self.now.schedule c.loop-rank.self.schedule c.args.steps.now c.loop-rank.steps)
    (to_z-of_z w64 c.args.since.now.moment (present_fits past c.args.since.now.moment c.requires.moment)) c.loop-rank.invariant.1)
    (is_order c.graph-graph.result.now past.document.nodes c.order-order.result.now c.graph-graph.ensures c.order-order.ensures.order)
    (current_interval before c.args.since.now.moment) (current_interval (history_of past) c.args.since.now.moment)
    (current_intervals c.args.self.now.schedule before c.args.since.now.moment c.requires.before.rows_are)
    (current_intervals c.loop-rank.self.schedule (history_of past) c.args.since.now.moment (returns-clause-current g c).rows_are)

pub returns-clause-least : goal.returns-clause-least
returns-clause-least g c =
    counted_least (history_of c.args.since.now.past.now) _ c.args.since.now.past.now.document.nodes c.args.since.now.past.now.log (drop c.args.since.now.from c.args.since.now.past.now.diary) c.order-order.result.now (has c.loop-rank.self.agenda)
    c.args.self.now.schedule c.loop-rank.self.schedule c.args.steps.now c.loop-rank.steps c.loop-rank.invariant.1
    (current_interval (front c.args.since.now.past.now c.args.since.now.from) c.args.since.now.moment) (current_interval (history_of c.args.since.now.past.now) c.args.since.now.moment) c.possible.ensures.valid.numbered.distinct
    (current_intervals c.args.self.now.schedule (front c.args.since.now.past.now c.args.since.now.from) c.args.since.now.moment c.requires.before.rows_are)
    (current_intervals c.loop-rank.self.schedule (history_of c.args.since.now.past.now) c.args.since.now.moment (returns-clause-current g c).rows_are)
