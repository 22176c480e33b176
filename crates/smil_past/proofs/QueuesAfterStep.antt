-- What a lawful step makes of the queues.
use Rattle.std.proofs.Common.{◌≡◌, refl, sym, ◌∙◌, ap, subst, ℕ, ℤ, ◌<◌, List, [], Bool, true, false, length, inl, inr}
use Rattle.std.specs.Prelude.{cond, ◌==◌, ◌⊎◌, ◌&&◌, not, is_some}
use Rattle.std.proofs.lemmas.Bool.{and_parts, not-true}
use Rattle.std.proofs.lemmas.List.{length-map}
use Rattle.std.proofs.lemmas.List.Sums.{fold_push}
use Rattle.smil_model.specs.declared.diary.Entry.{Entry}
use Rattle.smil_model.specs.declared.diary.Step.{Step}
use Rattle.smil_model.specs.declared.diary.Step.TheVariants.{Began, Repeated, Ended, Cut, Paused, Resumed, Deferred, Passed, Logged}
use Rattle.smil_model.specs.declared.document.Node.{Node}
use Rattle.smil_model.specs.document.Document.{node_at, time_children}
use Rattle.smil_model.specs.diary.Diary.{History, is_active, is_paused}
use Rattle.smil_model.specs.diary.Lawful.{has_element, is_lawful_step, may_begin}
use Rattle.smil_model.specs.happening.Queue.{is_child_of, put_paused, put_deferred, queue_after, queue_of, without}
use Rattle.smil_excl.specs.QueueState.{QueueState}
use Rattle.smil_excl.proofs.QueueMembers.{left_is, has_room}
use Rattle.smil_model.specs.diary.Diary.{with_entry}
use Rattle.smil_past.specs.Queues.{AreWithout, HasRoom, IsInNoQueue, MayTakeIn, WaitsNowhere, with_deferred, without_children, without_child, lines, with_paused, queues_after}
use Rattle.smil_past.proofs.KnownNodes.{known_node}
use Rattle.smil_past.proofs.QueuedElements.{playing_outside}
use Rattle.smil_past.proofs.QueuePut.{lines_same, lines_without}

pub lines_long : (nodes : List Node) (queue : ℕ → List ℕ) (kept : List QueueState) → kept ≡ lines nodes queue → length kept ≡ length nodes
lines_long nodes queue kept is = ap length is ∙ length-map nodes _

-- ---- the element of a step

abbrev pub EndsPlay : ℕ → Step → Type 0
EndsPlay who step = ((x : ℤ) × (step ≡ Ended who x)) ⊎ (step ≡ Cut who)

abbrev pub Leaves : ℕ → Step → Type 0
Leaves who step = (step ≡ Resumed who) ⊎ EndsPlay who step

abbrev pub Stays : Step → Type 0
Stays step = ((who : ℕ) × (begin : ℤ) × (step ≡ Passed who begin)) ⊎ ((place : ℕ) × (step ≡ Logged place))

module _ (kept : List QueueState) (nodes : List Node) (step : Step) (waits : Bool) (h : History) (may : MayTakeIn kept nodes step waits h) where
  lawful_as : (other : Step) → step ≡ other → is_lawful_step h other ≡ true
  lawful_as other is = ap (is_lawful_step h) (sym is) ∙ may.step_lawful

  known_in : (who : ℕ) → has_element h.nodes who ≡ true → is_some (node_at nodes who) ≡ true
  known_in who q = subst (λ (ns : List Node). is_some (node_at ns who) ≡ true) may.same_nodes (known_node h.nodes who q)

  began_element : (who : ℕ) (begin : ℤ) → step ≡ Began who begin → has_element h.nodes who ≡ true
  began_element who begin is = (and_parts (has_element h.nodes who) (may_begin h who) (lawful_as (Began who begin) is)).0

  paused_element : (who : ℕ) → step ≡ Paused who → has_element h.nodes who ≡ true
  paused_element who is = (and_parts (has_element h.nodes who) (is_active h.diary who && not (is_paused h.diary who)) (lawful_as (Paused who) is)).0

  deferred_element : (who : ℕ) (begin : ℤ) → step ≡ Deferred who begin → has_element h.nodes who ≡ true
  deferred_element who begin is = (and_parts (has_element h.nodes who) (may_begin h who) (lawful_as (Deferred who begin) is)).0

  pub began_known : (who : ℕ) (begin : ℤ) → step ≡ Began who begin → is_some (node_at nodes who) ≡ true
  began_known who begin is = known_in who (began_element who begin is)

  pub paused_known : (who : ℕ) → step ≡ Paused who → is_some (node_at nodes who) ≡ true
  paused_known who is = known_in who (paused_element who is)

  pub deferred_known : (who : ℕ) (begin : ℤ) → step ≡ Deferred who begin → is_some (node_at nodes who) ≡ true
  deferred_known who begin is = known_in who (deferred_element who begin is)

  pub leaving_known : (who : ℕ) → Leaves who step → is_some (node_at nodes who) ≡ true
  leaving_known who (inl is) = known_in who ((and_parts (has_element h.nodes who) (is_paused h.diary who) (lawful_as (Resumed who) is)).0)
  leaving_known who (inr (inl w)) = known_in who ((and_parts (has_element h.nodes who) (is_active h.diary who) (lawful_as (Ended who w.0) w.1)).0)
  leaving_known who (inr (inr is)) = known_in who ((and_parts (has_element h.nodes who) (is_active h.diary who) (lawful_as (Cut who) is)).0)

  -- ---- what a leave leaves

  pub all_left : (who e : ℕ) → without_child nodes who (queue_of h) e ≡ without who (queue_of h e)
  all_left who e = subst (λ (ns : List Node). without_child ns who (queue_of h) e ≡ without who (queue_of h e)) may.same_nodes (left_is h e who may.lawful)

  room_for : (who : ℕ) → has_element h.nodes who ≡ true → (e : ℕ) → is_child_of nodes e who ≡ true → length (without_child nodes who (queue_of h) e) < length (time_children nodes e)
  room_for who known e child =
      subst (λ q. length q < length (time_children nodes e)) (sym (all_left who e))
      (subst (λ (ns : List Node). is_child_of ns e who ≡ true → length (without who (queue_of h e)) < length (time_children ns e)) may.same_nodes (has_room h e who may.lawful known) child)

  -- who plays is in no queue
  paused_outside : (who : ℕ) → step ≡ Paused who → IsInNoQueue h who
  paused_outside who is =
      let parts = and_parts (has_element h.nodes who) (is_active h.diary who && not (is_paused h.diary who)) (lawful_as (Paused who) is) in
      let plays = and_parts (is_active h.diary who) (not (is_paused h.diary who)) parts.1 in
      playing_outside h who may.lawful plays.0 (not-true (is_paused h.diary who) plays.1)

  pub paused_room : (who : ℕ) → step ≡ Paused who → HasRoom kept nodes who
  paused_room who is = record {
    queue = queue_of h;
    value = may.value;
    room = λ e child. subst (λ q. length q < length (time_children nodes e)) (all_left who e ∙ paused_outside who is e) (room_for who (paused_element who is) e child);
  }

  pub deferred_room : (who : ℕ) (begin : ℤ) (now : List QueueState) → step ≡ Deferred who begin → now ≡ lines nodes (without_child nodes who (queue_of h)) → HasRoom now nodes who
  deferred_room who begin now is value = record { queue = without_child nodes who (queue_of h); value = value; room = room_for who (deferred_element who begin is) }

  -- ---- what each step makes

  after_as : (other : Step) (queue : ℕ → List ℕ) → step ≡ other → ((e : ℕ) → queue e ≡ queue_after nodes e (queue_of h e) other) → lines nodes queue ≡ lines nodes (queues_after nodes (queue_of h) step)
  after_as other queue is same = lines_same nodes queue (queues_after nodes (queue_of h) step) (λ e. same e ∙ ap (queue_after nodes e (queue_of h e)) (sym is))

  pub after_began : (who : ℕ) (begin : ℤ) → step ≡ Began who begin → lines nodes (without_child nodes who (without_children who (queue_of h))) ≡ lines nodes (queues_after nodes (queue_of h) step)
  after_began who begin is = after_as (Began who begin) (without_child nodes who (without_children who (queue_of h))) is (λ e. by e (who == e) (all_left who e))
    where
      none : (t : Bool) → cond t (without who []) [] ≡ []
      none true = refl
      none false = refl

      by : (e : ℕ) (t : Bool) → without_child nodes who (queue_of h) e ≡ without who (queue_of h e) → cond (is_child_of nodes e who) (without who (cond t [] (queue_of h e))) (cond t [] (queue_of h e)) ≡ cond t [] (without who (queue_of h e))
      by e true q = none (is_child_of nodes e who)
      by e false q = q

  pub after_repeated : (who : ℕ) (start : ℤ) → step ≡ Repeated who start → lines nodes (without_children who (queue_of h)) ≡ lines nodes (queues_after nodes (queue_of h) step)
  after_repeated who start is = after_as (Repeated who start) (without_children who (queue_of h)) is (λ e. refl)

  -- an element that does not wait is in none of the queues
  without_now : (who : ℕ) → IsInNoQueue h who → (queue : ℕ → List ℕ) (now : List QueueState) → now ≡ lines nodes queue → ((e : ℕ) → without who (queue_of h e) ≡ queue_of h e → without who (queue e) ≡ queue e) → AreWithout who now
  without_now who nowhere queue now is each =
      subst (AreWithout who) (sym is) (lines_without nodes who queue (λ e. each e (nowhere e)))

  nowhere_as : (other : Step) → step ≡ other → waits ≡ false → WaitsNowhere h other
  nowhere_as other is off = subst (WaitsNowhere h) is (may.stands off)

  pub began_without : (who : ℕ) (begin : ℤ) (now : List QueueState) → step ≡ Began who begin → now ≡ lines nodes (without_children who (queue_of h)) → waits ≡ false → AreWithout who now
  began_without who begin now is value off =
      without_now who (nowhere_as (Began who begin) is off) (without_children who (queue_of h)) now value (λ e q. by e (who == e) q)
    where
      by : (e : ℕ) (t : Bool) → without who (queue_of h e) ≡ queue_of h e → without who (cond t [] (queue_of h e)) ≡ cond t [] (queue_of h e)
      by e true q = refl
      by e false q = q

  pub deferred_without : (who : ℕ) (begin : ℤ) → step ≡ Deferred who begin → waits ≡ false → AreWithout who kept
  deferred_without who begin is off =
      without_now who (nowhere_as (Deferred who begin) is off) (queue_of h) kept may.value (λ e q. q)

  pub ended_without : (who : ℕ) → EndsPlay who step → waits ≡ false → AreWithout who kept
  ended_without who (inl w) off = without_now who (nowhere_as (Ended who w.0) w.1 off) (queue_of h) kept may.value (λ e q. q)
  ended_without who (inr is) off = without_now who (nowhere_as (Cut who) is off) (queue_of h) kept may.value (λ e q. q)

  either : (t : Bool) (put : List ℕ → List ℕ) (gone queue : List ℕ) → cond t (put (cond t gone queue)) (cond t gone queue) ≡ cond t (put gone) queue
  either true put gone queue = refl
  either false put gone queue = refl

  pub after_paused : (who : ℕ) → step ≡ Paused who → lines nodes (with_paused nodes who (queue_of h)) ≡ lines nodes (queues_after nodes (queue_of h) step)
  after_paused who is =
      after_as (Paused who) (with_paused nodes who (queue_of h)) is
      (λ e. ap (λ q. cond (is_child_of nodes e who) (put_paused nodes who q) (queue_of h e)) (sym (paused_outside who is e)))

  pub after_deferred : (who : ℕ) (begin : ℤ) → step ≡ Deferred who begin → lines nodes (with_deferred nodes who (without_child nodes who (queue_of h))) ≡ lines nodes (queues_after nodes (queue_of h) step)
  after_deferred who begin is = after_as (Deferred who begin) (with_deferred nodes who (without_child nodes who (queue_of h))) is (λ e. either (is_child_of nodes e who) (put_deferred nodes who) (without who (queue_of h e)) (queue_of h e))

  pub after_leaving : (who : ℕ) → Leaves who step → lines nodes (without_child nodes who (queue_of h)) ≡ lines nodes (queues_after nodes (queue_of h) step)
  after_leaving who (inl is) = after_as (Resumed who) (without_child nodes who (queue_of h)) is (all_left who)
  after_leaving who (inr (inl w)) = after_as (Ended who w.0) (without_child nodes who (queue_of h)) w.1 (all_left who)
  after_leaving who (inr (inr is)) = after_as (Cut who) (without_child nodes who (queue_of h)) is (all_left who)

  pub after_other : Stays step → lines nodes (queue_of h) ≡ lines nodes (queues_after nodes (queue_of h) step)
  after_other (inl w) = after_as (Passed w.0 w.1) (queue_of h) w.2 (λ e. refl)
  after_other (inr w) = after_as (Logged w.0) (queue_of h) w.1 (λ e. refl)

-- one entry more
pub entry_more : (h : History) (nodes : List Node) (y : Entry) → h.nodes ≡ nodes → lines nodes (queues_after nodes (queue_of h) y.step) ≡ lines h.nodes (queue_of (with_entry h y))
entry_more h nodes y same =
    ap (λ (ns : List Node). lines ns (queues_after ns (queue_of h) y.step)) (sym same)
    ∙ lines_same h.nodes (queues_after h.nodes (queue_of h) y.step) (queue_of (with_entry h y)) (λ e. sym (fold_push (λ queue (x : Entry). queue_after h.nodes e queue x.step) [] h.diary y))
