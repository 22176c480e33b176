-- Two documents that are the same but for the descendants of an element that has not begun: the same group of entries.
use Rattle.std.proofs.Common.{◌≡◌, refl, sym, ◌∙◌, ap, ℕ, List, [], ◌∷◌, ◌++◌, Option, Some, None, ℤ, Bool, true, false}
use Rattle.std.specs.Prelude.{cond, not, ◌==◌, ◌&&◌, nat_lt, nat_le, filter, find, fold, map, reverse, drop, position, unwrap_or}
use Rattle.std.specs.List.{AllByRecursion, list_any}
use Rattle.std.proofs.lemmas.Bool.{or_parts, and_parts, eqb-true}
use Rattle.smil_model.specs.declared.diary.Entry.{Entry}
use Rattle.smil_model.specs.declared.diary.LogEntry.{LogEntry}
use Rattle.smil_model.specs.declared.diary.Step.{Step}
use Rattle.smil_model.specs.declared.diary.Step.TheVariants.{Began, Repeated, Ended, Cut, Paused, Resumed, Deferred, Passed, Logged}
use Rattle.smil_model.specs.declared.document.Act.{Act}
use Rattle.smil_model.specs.declared.document.Act.TheVariants.{Stop, Pause, Defer, Never}
use Rattle.smil_model.specs.declared.document.Node.{Node}
use Rattle.smil_model.specs.document.Document.{node_at, ancestors, descendants, time_parent, time_children, is_excl_kind, has_serial, is_class_kind}
use Rattle.smil_model.specs.diary.Diary.{History, is_active, is_paused}
use Rattle.smil_model.specs.diary.Clocks.{outer}
use Rattle.smil_model.specs.happening.Queue.{class_if, parent_of, class_of, place_of, rank, decide_by, class_facts, decision, is_playing, playing_child, put_paused, put_deferred, without, is_child_of, queue_after, queue_of}
use Rattle.smil_model.specs.happening.Keys.{Change, begins, ends, repeats}
use Rattle.smil_model.specs.happening.Groups.{cuts, follower, followers, interruption, begin_beside, begin_under, steps_of, at_moment, group}
use Rattle.smil_laws.specs.Agreement.{IsPlaced, DifferBelow, is_on, SparesAll}
use Rattle.smil_laws.proofs.RoundsRest.{find-serial}
use Rattle.smil_laws.proofs.KeptNodes.{lineage_same, parent_same, parent_time_same}
use Rattle.smil_laws.proofs.AsideDocuments.{find_each, find_true, each_append, each_reverse, each_filter, find_within, filter_swap, inactive, is_out, spared, closed}
use Rattle.smil_laws.proofs.AsideIntervals.{far, children_ok}
use Rattle.smil_laws.proofs.Lists.{each_weaker, each_kept}

-- ---- lists

filter_all : (P : Node → Type 0) (f g : Node → Bool) (ns : List Node) → AllByRecursion P ns → ((n : Node) → P n → f n ≡ g n) → filter f ns ≡ filter g ns
filter_all P f g [] each s = refl
filter_all P f g (n ∷ ns) each s = ap (λ t. cond t (n ∷ filter f ns) (filter f ns)) (s n each.0) ∙ ap (λ xs. cond (g n) (n ∷ xs) xs) (filter_all P f g ns each.1 s)

filter_within_each : (f g : Node → Bool) (ns : List Node) → AllByRecursion (λ (n : Node). f n ≡ true → g n ≡ true) ns → filter f ns ≡ filter f (filter g ns)
filter_within_each f g [] each = refl
filter_within_each f g (n ∷ ns) each = step (f n) (g n) refl each.0 (filter_within_each f g ns each.1)
  where
    step : (t u : Bool) → f n ≡ t → (f n ≡ true → u ≡ true) → filter f ns ≡ filter f (filter g ns) → cond t (n ∷ filter f ns) (filter f ns) ≡ filter f (cond u (n ∷ filter g ns) (filter g ns))
    step true true e h q = ap (λ xs. n ∷ xs) q ∙ sym (ap (λ t. cond t (n ∷ filter f (filter g ns)) (filter f (filter g ns))) e)
    step true false e h q = let never : false ≡ true = h e in cc
    step false true e h q = q ∙ sym (ap (λ t. cond t (n ∷ filter f (filter g ns)) (filter f (filter g ns))) e)
    step false false e h q = q

pub each_map : {A B : Type 0} (P : A → Type 0) (Q : B → Type 0) (f : A → B) (xs : List A) → AllByRecursion P xs → ((x : A) → P x → Q (f x)) → AllByRecursion Q (map f xs)
each_map P Q f [] each g = tt
each_map P Q f (x ∷ xs) each g = (g x each.0, each_map P Q f xs each.1 g)

module _ (aside : ℕ → Bool) (p : ℕ) (n1 n2 : List Node) (differ : DifferBelow aside p n1 n2) (log1 log2 : List LogEntry) where
  abbrev k : ℕ → Bool
  k s = not (aside s)

  abbrev IsKept : ℕ → Type 0
  IsKept s = aside s ≡ false

  -- ---- classes and ranks

  at_same : (s : ℕ) → aside s ≡ false → node_at n1 s ≡ node_at n2 s
  at_same s a =
      find_within (λ (n : Node). n.serial == s) (λ (n : Node). k n.serial) n1 (λ n t. ap not (ap aside (eqb-true n.serial s t) ∙ a))
      ∙ ap (find (λ (n : Node). n.serial == s)) differ.same
      ∙ sym (find_within (λ (n : Node). n.serial == s) (λ (n : Node). k n.serial) n2 (λ n t. ap not (ap aside (eqb-true n.serial s t) ∙ a)))

  -- the parent of a node that is kept is neither p nor set aside
  parent_in : (s : ℕ) (n : Node) → aside s ≡ false → node_at n2 s ≡ Some n → is_out aside p n.parent ≡ false
  parent_in s n a q =
      sym (find_each (IsPlaced aside p) (λ (m : Node). m.serial == s) n2 n differ.in_new.placed q).0 ∙ ap aside (find-serial s n2 n q) ∙ a

  class_same : (s : ℕ) → aside s ≡ false → class_of n1 s ≡ class_of n2 s
  class_same s a = ap (λ o. class_if n1 (parent_of n1 o)) (at_same s a) ∙ by_node (node_at n2 s) (λ n q. parent_in s n a q)
    where
      if_same : (o : Option Node) → class_if n1 o ≡ class_if n2 o
      if_same None = refl
      if_same (Some n) = refl

      by_node : (o : Option Node) → ((n : Node) → o ≡ Some n → is_out aside p n.parent ≡ false) → class_if n1 (parent_of n1 o) ≡ class_if n2 (parent_of n2 o)
      by_node None f = refl
      by_node (Some n) f = ap (class_if n1) (at_same n.parent (or_parts _ _ (f n refl)).1) ∙ if_same (node_at n2 n.parent)

  class_in : (s : ℕ) → aside s ≡ false → (c : Node) → class_of n2 s ≡ Some c → is_out aside p c.parent ≡ false
  class_in s a c q = by_node (node_at n2 s) (λ n r. parent_in s n a r) q
    where
      by_class : (o : Option Node) → ((n : Node) → o ≡ Some n → is_out aside p n.parent ≡ false) → class_if n2 o ≡ Some c → is_out aside p c.parent ≡ false
      by_class None f r = cc
      by_class (Some n) f r = by_kind (is_class_kind n.kind) r
        where
          by_kind : (t : Bool) → cond t (Some n) None ≡ Some c → is_out aside p c.parent ≡ false
          by_kind true d = let one : n ≡ c = cc in rw (← one) (f n refl)
          by_kind false d = cc

      by_node : (o : Option Node) → ((n : Node) → o ≡ Some n → is_out aside p n.parent ≡ false) → class_if n2 (parent_of n2 o) ≡ Some c → is_out aside p c.parent ≡ false
      by_node None f r = cc
      by_node (Some n) f r = by_class (node_at n2 n.parent) (λ m d. parent_in n.parent m (or_parts _ _ (f n refl)).1 d) r

  place_same : (o : Option Node) → ((c : Node) → o ≡ Some c → is_out aside p c.parent ≡ false) → place_of n1 o ≡ place_of n2 o
  place_same None f = refl
  place_same (Some c) f =
      ap (λ ns. unwrap_or (position (λ (m : Node). m.serial == c.serial) ns) 0)
      (filter_within_each sibling (λ (n : Node). k n.serial) n1 (siblings n1 differ.in_old.placed)
      ∙ ap (filter sibling) differ.same
      ∙ sym (filter_within_each sibling (λ (n : Node). k n.serial) n2 (siblings n2 differ.in_new.placed)))
    where
      sibling : Node → Bool
      sibling = λ (m : Node). m.parent == c.parent

      siblings : (ns : List Node) → AllByRecursion (IsPlaced aside p) ns → AllByRecursion (λ (m : Node). m.parent == c.parent ≡ true → k m.serial ≡ true) ns
      siblings ns each =
          each_weaker (IsPlaced aside p) (λ (m : Node). m.parent == c.parent ≡ true → k m.serial ≡ true) ns each
          (λ m i t. ap not (i.0 ∙ ap (is_out aside p) (eqb-true m.parent c.parent t) ∙ f c refl))

  rank_same : (s : ℕ) → aside s ≡ false → rank n1 s ≡ rank n2 s
  rank_same s a = ap (place_of n1) (class_same s a) ∙ place_same (class_of n2 s) (class_in s a)

  class_facts_same : (s : ℕ) → aside s ≡ false → class_facts n1 s ≡ class_facts n2 s
  class_facts_same s a = rw (rank_same s a, class_same s a)

  decision_same : (x s : ℕ) → aside x ≡ false → aside s ≡ false → decision n1 x s ≡ decision n2 x s
  decision_same x s b a =
      ap (λ c. decide_by c (rank n1 s)) (class_facts_same x b) ∙ ap (decide_by (class_facts n2 x)) (rank_same s a)

  -- ---- queues

  paused_same : (s : ℕ) (queue : List ℕ) → aside s ≡ false → AllByRecursion IsKept queue → put_paused n1 s queue ≡ put_paused n2 s queue
  paused_same s [] a each = refl
  paused_same s (o ∷ os) a each =
      ap (λ r. cond (nat_le r (rank n1 o)) (s ∷ o ∷ os) (o ∷ put_paused n1 s os)) (rank_same s a)
      ∙ ap (λ r. cond (nat_le (rank n2 s) r) (s ∷ o ∷ os) (o ∷ put_paused n1 s os)) (rank_same o each.0)
      ∙ ap (λ q. cond (nat_le (rank n2 s) (rank n2 o)) (s ∷ o ∷ os) (o ∷ q)) (paused_same s os a each.1)

  deferred_same : (s : ℕ) (queue : List ℕ) → aside s ≡ false → AllByRecursion IsKept queue → put_deferred n1 s queue ≡ put_deferred n2 s queue
  deferred_same s [] a each = refl
  deferred_same s (o ∷ os) a each =
      ap (λ r. cond (nat_lt r (rank n1 o)) (s ∷ o ∷ os) (o ∷ put_deferred n1 s os)) (rank_same s a)
      ∙ ap (λ r. cond (nat_lt (rank n2 s) r) (s ∷ o ∷ os) (o ∷ put_deferred n1 s os)) (rank_same o each.0)
      ∙ ap (λ q. cond (nat_lt (rank n2 s) (rank n2 o)) (s ∷ o ∷ os) (o ∷ q)) (deferred_same s os a each.1)

  either : (t : Bool) (a b : List ℕ) → AllByRecursion IsKept a → AllByRecursion IsKept b → AllByRecursion IsKept (cond t a b)
  either true a b x y = x
  either false a b x y = y

  paused_kept : (ns : List Node) (s : ℕ) (queue : List ℕ) → aside s ≡ false → AllByRecursion IsKept queue → AllByRecursion IsKept (put_paused ns s queue)
  paused_kept ns s [] a each = (a, tt)
  paused_kept ns s (o ∷ os) a each = either (nat_le (rank ns s) (rank ns o)) (s ∷ o ∷ os) (o ∷ put_paused ns s os) (a, each) (each.0, paused_kept ns s os a each.1)

  deferred_kept : (ns : List Node) (s : ℕ) (queue : List ℕ) → aside s ≡ false → AllByRecursion IsKept queue → AllByRecursion IsKept (put_deferred ns s queue)
  deferred_kept ns s [] a each = (a, tt)
  deferred_kept ns s (o ∷ os) a each = either (nat_lt (rank ns s) (rank ns o)) (s ∷ o ∷ os) (o ∷ put_deferred ns s os) (a, each) (each.0, deferred_kept ns s os a each.1)

  without_kept : (s : ℕ) (queue : List ℕ) → AllByRecursion IsKept queue → AllByRecursion IsKept (without s queue)
  without_kept s queue each = each_kept IsKept (λ other. not (other == s)) queue each

  child_same : (x s : ℕ) → aside s ≡ false → is_child_of n1 x s ≡ is_child_of n2 x s
  child_same x s a = ap (has_serial x) (parent_same k n1 n2 differ.same (closed aside p n1 differ.in_old) (closed aside p n2 differ.in_new) log1 log2 [] s (ap not a))

  queue_same : (x : ℕ) (queue : List ℕ) (step : Step) → is_on aside step ≡ false → AllByRecursion IsKept queue → queue_after n1 x queue step ≡ queue_after n2 x queue step
  queue_same x queue (Paused who) a each =
      ap (λ t. cond t (put_paused n1 who (without who queue)) queue) (child_same x who a) ∙ ap (λ q. cond (is_child_of n2 x who) q queue) (paused_same who (without who queue) a (without_kept who queue each))
  queue_same x queue (Deferred who begin) a each =
      ap (λ t. cond t (put_deferred n1 who (without who queue)) queue) (child_same x who a) ∙ ap (λ q. cond (is_child_of n2 x who) q queue) (deferred_same who (without who queue) a (without_kept who queue each))
  queue_same x queue (Began who begin) a each = refl
  queue_same x queue (Repeated who start) a each = refl
  queue_same x queue (Resumed who) a each = refl
  queue_same x queue (Ended who end') a each = refl
  queue_same x queue (Cut who) a each = refl
  queue_same x queue (Passed who begin) a each = refl
  queue_same x queue (Logged place) a each = refl

  queue_kept : (ns : List Node) (x : ℕ) (queue : List ℕ) (step : Step) → is_on aside step ≡ false → AllByRecursion IsKept queue → AllByRecursion IsKept (queue_after ns x queue step)
  queue_kept ns x queue (Began who begin) a each = either (who == x) [] (without who queue) tt (without_kept who queue each)
  queue_kept ns x queue (Repeated who start) a each = either (who == x) [] queue tt each
  queue_kept ns x queue (Paused who) a each = either (is_child_of ns x who) (put_paused ns who (without who queue)) queue (paused_kept ns who (without who queue) a (without_kept who queue each)) each
  queue_kept ns x queue (Deferred who begin) a each = either (is_child_of ns x who) (put_deferred ns who (without who queue)) queue (deferred_kept ns who (without who queue) a (without_kept who queue each)) each
  queue_kept ns x queue (Resumed who) a each = without_kept who queue each
  queue_kept ns x queue (Ended who end') a each = without_kept who queue each
  queue_kept ns x queue (Cut who) a each = without_kept who queue each
  queue_kept ns x queue (Passed who begin) a each = each
  queue_kept ns x queue (Logged place) a each = each

  queues_same : (x : ℕ) (xs : List Entry) (queue : List ℕ) → SparesAll aside xs → AllByRecursion IsKept queue → fold (λ q (y : Entry). queue_after n1 x q y.step) queue xs ≡ fold (λ q (y : Entry). queue_after n2 x q y.step) queue xs
  queues_same x [] queue free each = refl
  queues_same x (y ∷ ys) queue free each =
      queues_same x ys (queue_after n1 x queue y.step) free.1 (queue_kept n1 x queue y.step free.0 each)
      ∙ ap (λ q. fold (λ q (y : Entry). queue_after n2 x q y.step) q ys) (queue_same x queue y.step free.0 each)

  queues_kept : (ns : List Node) (x : ℕ) (xs : List Entry) (queue : List ℕ) → SparesAll aside xs → AllByRecursion IsKept queue → AllByRecursion IsKept (fold (λ q (y : Entry). queue_after ns x q y.step) queue xs)
  queues_kept ns x [] queue free each = each
  queues_kept ns x (y ∷ ys) queue free each = queues_kept ns x ys (queue_after ns x queue y.step) free.1 (queue_kept ns x queue y.step free.0 each)

  -- ---- the steps of a happening

  module _ (ds : List Entry) (free : SparesAll aside ds) (m : ℤ) where
    abbrev h1 : History
    h1 = record { nodes = n1; log = log1; diary = ds }

    abbrev h2 : History
    h2 = record { nodes = n2; log = log2; diary = ds }

    abbrev Free : List Step → Type 0
    Free steps = AllByRecursion (λ (step : Step). is_on aside step ≡ false) steps

    active_kept : (s : ℕ) → is_active ds s ≡ true → aside s ≡ false
    active_kept s q = by_case (aside s) refl
      where
        by_case : (t : Bool) → aside s ≡ t → aside s ≡ false
        by_case true a = let never : false ≡ true = sym (inactive ds s (spared aside p ds s free a)) ∙ q in cc
        by_case false a = a

    abbrev is_live : Node → Bool
    is_live = λ (n : Node). is_active ds n.serial

    abbrev below : List Node → ℕ → Node → Bool
    below ns s = λ (n : Node). list_any (λ (a : Node). a.serial == s) (ancestors ns n.serial)

    cut_nodes_same : (s : ℕ) → filter is_live (descendants n1 s) ≡ filter is_live (descendants n2 s)
    cut_nodes_same s =
        filter_swap is_live (below n1 s) n1
        ∙ ap (filter (below n1 s))
        (filter_within_each is_live (λ (n : Node). k n.serial) n1 (all_live n1)
        ∙ ap (filter is_live) differ.same
        ∙ sym (filter_within_each is_live (λ (n : Node). k n.serial) n2 (all_live n2)))
        ∙ filter_all (λ (n : Node). aside n.serial ≡ false) (below n1 s) (below n2 s) (filter is_live n2)
        (each_filter (λ (n : Node). aside n.serial ≡ false) is_live n2 (λ n t. active_kept n.serial t))
        (λ n a. ap (λ c. list_any (λ (a : Node). a.serial == s) (drop 1 c)) (lineage_same k n1 n2 differ.same (closed aside p n1 differ.in_old) (closed aside p n2 differ.in_new) log1 log2 ds n.serial (ap not a)))
        ∙ sym (filter_swap is_live (below n2 s) n2)
      where
        all_live : (ns : List Node) → AllByRecursion (λ (n : Node). is_active ds n.serial ≡ true → k n.serial ≡ true) ns
        all_live [] = tt
        all_live (n ∷ ns) = (λ t. ap not (active_kept n.serial t), all_live ns)

    cuts_same : (s : ℕ) → cuts h1 s ≡ cuts h2 s
    cuts_same s = ap (λ ns. map (λ (n : Node). Cut n.serial) (reverse ns)) (cut_nodes_same s)

    cuts_free : (s : ℕ) → Free (cuts h1 s)
    cuts_free s =
        each_map (λ (n : Node). aside n.serial ≡ false) (λ (step : Step). is_on aside step ≡ false) (λ (n : Node). Cut n.serial) (reverse (filter (λ (n : Node). is_active ds n.serial) (descendants n1 s)))
        (each_reverse (λ (n : Node). aside n.serial ≡ false) (filter (λ (n : Node). is_active ds n.serial) (descendants n1 s))
        (each_filter (λ (n : Node). aside n.serial ≡ false) (λ (n : Node). is_active ds n.serial) (descendants n1 s) (λ n t. active_kept n.serial t)))
        (λ n a. a)

    playing_same : (q : ℕ) → is_out aside p q ≡ false → playing_child h1 q ≡ playing_child h2 q
    playing_same q o = ap (find (is_playing ds)) (children_ok aside p n1 n2 differ log1 log2 q o)

    playing_kept : (ns : List Node) (n : Node) → find (is_playing ds) ns ≡ Some n → aside n.serial ≡ false
    playing_kept ns n q = active_kept n.serial ((and_parts _ _ (find_true (is_playing ds) ns n q)).0)

    follower_same : (queue : List ℕ) → AllByRecursion IsKept queue → follower h1 m queue ≡ follower h2 m queue
    follower_same [] each = refl
    follower_same (x ∷ xs) each = rw (parent_time_same k n1 n2 differ.same (closed aside p n1 differ.in_old) (closed aside p n2 differ.in_new) log1 log2 ds x m (ap not each.0))

    either_free : (t : Bool) (a b : List Step) → Free a → Free b → Free (cond t a b)
    either_free true a b x y = x
    either_free false a b x y = y

    follower_free : (queue : List ℕ) → AllByRecursion IsKept queue → Free (follower h1 m queue)
    follower_free [] each = tt
    follower_free (x ∷ xs) each = either_free (is_paused ds x) (Resumed x ∷ []) (Began x (outer h1 x m) ∷ []) (each.0, tt) (each.0, tt)

    followers_same : (s : ℕ) → aside s ≡ false → followers h1 m s (time_parent n1 s) ≡ followers h2 m s (time_parent n2 s)
    followers_same s a = under (time_parent n1 s) (far aside p n1 n2 differ log1 log2 s a) ∙ ap (followers h2 m s) (parent_same k n1 n2 differ.same (closed aside p n1 differ.in_old) (closed aside p n2 differ.in_new) log1 log2 ds s (ap not a))
      where
        under : (o : Option Node) → ((q : Node) → o ≡ Some q → is_out aside p q.serial ≡ false) → followers h1 m s o ≡ followers h2 m s o
        under None f = refl
        under (Some q) f =
            ap (λ c. cond (is_excl_kind q.kind && has_serial s c) (follower h1 m (queue_of h1 q.serial)) []) (playing_same q.serial (f q refl))
            ∙ ap (λ xs. cond (is_excl_kind q.kind && has_serial s (playing_child h2 q.serial)) xs [])
            (follower_same (queue_of h1 q.serial) (queues_kept n1 q.serial ds [] free tt) ∙ ap (follower h2 m) (queues_same q.serial ds [] free tt))

    followers_free : (s : ℕ) (o : Option Node) → Free (followers h1 m s o)
    followers_free s None = tt
    followers_free s (Some q) =
        either_free (is_excl_kind q.kind && has_serial s (playing_child h1 q.serial)) (follower h1 m (queue_of h1 q.serial)) []
        (follower_free (queue_of h1 q.serial) (queues_kept n1 q.serial ds [] free tt)) tt

    interruption_same : (s : ℕ) (value : ℤ) (x : ℕ) (act : Act) → aside x ≡ false → interruption h1 m s value x act ≡ interruption h2 m s value x act
    interruption_same s value x Stop b =
        ap (λ cs. cs ++ (Ended x (outer h1 x m) ∷ Began s value ∷ [])) (cuts_same x)
        ∙ ap (λ v. cuts h2 x ++ (Ended x v ∷ Began s value ∷ [])) (parent_time_same k n1 n2 differ.same (closed aside p n1 differ.in_old) (closed aside p n2 differ.in_new) log1 log2 ds x m (ap not b))
    interruption_same s value x Pause b = refl
    interruption_same s value x Defer b = refl
    interruption_same s value x Never b = refl

    interruption_free : (s : ℕ) (value : ℤ) (x : ℕ) (act : Act) → aside s ≡ false → aside x ≡ false → Free (interruption h1 m s value x act)
    interruption_free s value x Stop a b = each_append (λ (step : Step). is_on aside step ≡ false) (cuts h1 x) (Ended x (outer h1 x m) ∷ Began s value ∷ []) (cuts_free x) (b, (a, tt))
    interruption_free s value x Pause a b = (b, (a, tt))
    interruption_free s value x Defer a b = (a, tt)
    interruption_free s value x Never a b = (a, tt)

    beside_same : (s : ℕ) (value : ℤ) (o : Option Node) → aside s ≡ false → ((n : Node) → o ≡ Some n → aside n.serial ≡ false) → begin_beside h1 m s value o ≡ begin_beside h2 m s value o
    beside_same s value None a f = refl
    beside_same s value (Some n) a f =
        ap (interruption h1 m s value n.serial) (decision_same n.serial s (f n refl) a) ∙ interruption_same s value n.serial (decision n2 n.serial s) (f n refl)

    beside_free : (s : ℕ) (value : ℤ) (o : Option Node) → aside s ≡ false → ((n : Node) → o ≡ Some n → aside n.serial ≡ false) → Free (begin_beside h1 m s value o)
    beside_free s value None a f = (a, tt)
    beside_free s value (Some n) a f = interruption_free s value n.serial (decision n1 n.serial s) a (f n refl)

    begin_same : (s : ℕ) (value : ℤ) → aside s ≡ false → begin_under h1 m s value (time_parent n1 s) ≡ begin_under h2 m s value (time_parent n2 s)
    begin_same s value a = under (time_parent n1 s) (far aside p n1 n2 differ log1 log2 s a) ∙ ap (begin_under h2 m s value) (parent_same k n1 n2 differ.same (closed aside p n1 differ.in_old) (closed aside p n2 differ.in_new) log1 log2 ds s (ap not a))
      where
        under : (o : Option Node) → ((q : Node) → o ≡ Some q → is_out aside p q.serial ≡ false) → begin_under h1 m s value o ≡ begin_under h2 m s value o
        under None f = refl
        under (Some q) f =
            ap (λ xs. cond (is_excl_kind q.kind) xs (Began s value ∷ []))
            (beside_same s value (playing_child h1 q.serial) a (λ n r. playing_kept (time_children n1 q.serial) n r) ∙ ap (begin_beside h2 m s value) (playing_same q.serial (f q refl)))

    begin_free : (s : ℕ) (value : ℤ) (o : Option Node) → aside s ≡ false → Free (begin_under h1 m s value o)
    begin_free s value None a = (a, tt)
    begin_free s value (Some q) a =
        either_free (is_excl_kind q.kind) (begin_beside h1 m s value (playing_child h1 q.serial)) (Began s value ∷ [])
        (beside_free s value (playing_child h1 q.serial) a (λ n r. playing_kept (time_children n1 q.serial) n r)) (a, tt)

    steps_same : (s : ℕ) (due : Change) → aside s ≡ false → steps_of h1 m s due ≡ steps_of h2 m s due
    steps_same s (begins value) a = begin_same s value a
    steps_same s (ends value) a =
        ap (λ cs. cs ++ (Ended s value ∷ followers h1 m s (time_parent n1 s))) (cuts_same s) ∙ ap (λ fs. cuts h2 s ++ (Ended s value ∷ fs)) (followers_same s a)
    steps_same s (repeats start) a = ap (λ cs. cs ++ (Repeated s start ∷ [])) (cuts_same s)

    steps_free : (s : ℕ) (due : Change) → aside s ≡ false → Free (steps_of h1 m s due)
    steps_free s (begins value) a = begin_free s value (time_parent n1 s) a
    steps_free s (ends value) a =
        each_append (λ (step : Step). is_on aside step ≡ false) (cuts h1 s) (Ended s value ∷ followers h1 m s (time_parent n1 s)) (cuts_free s) (a, followers_free s (time_parent n1 s))
    steps_free s (repeats start) a = each_append (λ (step : Step). is_on aside step ≡ false) (cuts h1 s) (Repeated s start ∷ []) (cuts_free s) (a, tt)

    -- the group of an element that is kept is the same in both documents
    pub group_same : (s : ℕ) (due : Change) → aside s ≡ false → group h1 m s due ≡ group h2 m s due
    group_same s due a = ap (at_moment m) (steps_same s due a)

    -- and has no entry on what is set aside
    pub group_spares : (s : ℕ) (due : Change) → aside s ≡ false → SparesAll aside (group h1 m s due)
    group_spares s due a =
        each_map (λ (step : Step). is_on aside step ≡ false) (λ (x : Entry). is_on aside x.step ≡ false) (λ step. record { moment = m; step = step }) (steps_of h1 m s due) (steps_free s due a) (λ step q. q)
