-- Each begin of a root that states no begin has the value 0.
use Rattle.std.proofs.Common.{◌≡◌, refl, sym, ◌∙◌, ap, subst, ℕ, List, [], ◌∷◌, ◌++◌, Option, Some, None, ℤ, Bool, true, false}
use Rattle.std.specs.Prelude.{cond, pos, not, ◌==◌, ◌&&◌, drop, nat_le, nat_lt, filter, fold, map, reverse, length, slice_get, option_map, flat_map, ◌+ℤ◌}
use Rattle.std.specs.List.{AllByRecursion}
use Rattle.std.proofs.lemmas.Bool.{eq-eqb, eqb-true}
use Rattle.smil_model.specs.declared.times.Time.{Time}
use Rattle.smil_model.specs.declared.times.Time.TheVariants.{At}
use Rattle.smil_model.specs.declared.diary.Entry.{Entry}
use Rattle.smil_model.specs.declared.diary.LogEntry.{LogEntry}
use Rattle.smil_model.specs.declared.diary.Step.{Step}
use Rattle.smil_model.specs.declared.diary.Step.TheVariants.{Began, Repeated, Ended, Cut, Paused, Resumed, Deferred, Passed, Logged}
use Rattle.smil_model.specs.declared.document.Act.{Act}
use Rattle.smil_model.specs.declared.document.Act.TheVariants.{Stop, Pause, Defer, Never}
use Rattle.smil_model.specs.declared.document.Node.{Node}
use Rattle.smil_model.specs.declared.interval.Interval.{Interval}
use Rattle.smil_model.specs.declared.interval.Facts.{Facts}
use Rattle.smil_model.specs.declared.interval.Play.{Play}
use Rattle.smil_model.specs.declared.document.Edge.TheVariants.{Begin}
use Rattle.smil_model.specs.declared.document.Item.TheVariants.{Offset, Indefinite}
use Rattle.smil_model.specs.Times.{time_le, later_time, within_horizon, numbers, rising}
use Rattle.smil_model.specs.document.Document.{Document, elements, is_element, time_parent, has_serial, has_kind, is_seq_kind, is_excl_kind, is_in_excl, previous_child, descendants}
use Rattle.smil_model.specs.document.Defaults.{items_or, begin_list}
use Rattle.smil_model.specs.document.Valid.{IsNumberedTree}
use Rattle.smil_model.specs.diary.Diary.{History, is_active, is_paused}
use Rattle.smil_model.specs.diary.Clocks.{outer, start_under, iteration_start}
use Rattle.smil_model.specs.interval.Intervals.{is_accepted, after_end, goes_on, is_over, judged, unless_over, first_from, next_from, interval_end, counts_after, may_restart, coming_interval, interval_by, interval_of}
use Rattle.smil_model.specs.interval.Instances.{number_of, offset_times, item_times, begin_times, end_times}
use Rattle.smil_model.specs.interval.Current.{simple_of, facts_of, interval_given, in_table, table, current_interval}
use Rattle.smil_model.specs.happening.Queue.{rank, put_paused, put_deferred, without, is_child_of, queue_after, queue_of, playing_child, decision}
use Rattle.smil_model.specs.happening.Keys.{Change, DueChange, begins, ends, repeats, coming, first_coming}
use Rattle.smil_model.specs.happening.Groups.{cuts, follower, followers, interruption, begin_beside, begin_under, steps_of, group}
use Rattle.smil_model.specs.happening.Resolution.{Progress, outset, history_at, after_steps}
use Rattle.smil_laws.specs.Agreement.{course_on}
use Rattle.smil_laws.specs.Firsts.{IsOfElement, moved_by, change_by}
use Rattle.smil_laws.proofs.AsideDocuments.{each_append, find_true}
use Rattle.smil_laws.proofs.AsideGroups.{each_map}
use Rattle.smil_laws.proofs.FirstElement.{first_of_element}
use Rattle.smil_laws.proofs.Lists.{each_kept}
use Rattle.smil_laws.proofs.ResolvedSteps.{Keeps, steps_keep}
use Rattle.smil_wall_laws.proofs.OneRoot.{split, root_alone}

-- ---- a search over the one begin instance 0

abbrev Starts : Option Interval → Type 0
Starts None = Unit {0}
Starts (Some i) = i.begin ≡ pos 0

-- the one number 0, or nothing
abbrev zero_if : Bool → List ℤ
zero_if t = cond t (pos 0 ∷ []) []

search_starts : (facts : Facts) (end_of : ℤ → Option Time) (t : Bool) → Starts (first_from facts end_of None (zero_if t))
search_starts facts end_of false = tt
search_starts facts end_of true = by_end (end_of (pos 0))
  where
    accepted : (b : Bool) (e : Time) → Starts (unless_over (cond b (is_over (Some (record { begin = pos 0; «end» = e }))) (goes_on (Some (after_end (pos 0) e)))) (λ later. first_from facts end_of later []))
    accepted true e = refl
    accepted false e = tt

    by_end : (o : Option Time) → Starts (unless_over (judged facts (pos 0) o) (λ later. first_from facts end_of later []))
    by_end None = tt
    by_end (Some e) = accepted (is_accepted facts.parent_start (pos 0) e) e

next_starts : (end_of : ℤ → Option Time) (from : Time) (t : Bool) → Starts (next_from end_of from (zero_if t))
next_starts end_of from false = tt
next_starts end_of from true = by_from (time_le from (At (pos 0))) (end_of (pos 0))
  where
    by_from : (b : Bool) (o : Option Time) → Starts (cond b (option_map (λ end'. record { begin = pos 0; «end» = end' }) o) None)
    by_from false o = tt
    by_from true None = tt
    by_from true (Some e) = refl

coming_starts : (facts : Facts) (es : List Time) (o : Option Interval) → Starts (coming_interval facts (pos 0 ∷ []) es o)
coming_starts facts es None = search_starts facts (interval_end facts (pos 0 ∷ []) es) (counts_after facts.passed (pos 0))
coming_starts facts es (Some last) = by_restart (may_restart facts.restart)
  where
    by_restart : (b : Bool) → Starts (cond b (next_from (interval_end facts (pos 0 ∷ []) es) (after_end last.begin last.«end») (zero_if (counts_after facts.passed (pos 0)))) None)
    by_restart true = next_starts (interval_end facts (pos 0 ∷ []) es) (after_end last.begin last.«end») (counts_after facts.passed (pos 0))
    by_restart false = tt

-- the interval of what isn't active
interval_starts : (facts : Facts) (es : List Time) → Starts (interval_by facts (pos 0 ∷ []) es None)
interval_starts facts es = by_alive (facts.alive && not facts.deferred)
  where
    by_alive : (b : Bool) → Starts (cond b (coming_interval facts (pos 0 ∷ []) es facts.last) None)
    by_alive true = coming_starts facts es facts.last
    by_alive false = tt

-- ---- what is queued is a child

each_either : (P : ℕ → Type 0) (t : Bool) (xs ys : List ℕ) → AllByRecursion P xs → AllByRecursion P ys → AllByRecursion P (cond t xs ys)
each_either P true xs ys a b = a
each_either P false xs ys a b = b

module _ (nodes : List Node) (x : ℕ) where
  abbrev Children : List ℕ → Type 0
  Children queue = AllByRecursion (λ q. is_child_of nodes x q ≡ true) queue

  children_paused : (who : ℕ) (queue : List ℕ) → is_child_of nodes x who ≡ true → Children queue → Children (put_paused nodes who queue)
  children_paused who [] c each = (c, tt)
  children_paused who (q ∷ qs) c each = each_either (λ q. is_child_of nodes x q ≡ true) (nat_le (rank nodes who) (rank nodes q)) (who ∷ q ∷ qs) (q ∷ put_paused nodes who qs) (c, each) (each.0, children_paused who qs c each.1)

  children_deferred : (who : ℕ) (queue : List ℕ) → is_child_of nodes x who ≡ true → Children queue → Children (put_deferred nodes who queue)
  children_deferred who [] c each = (c, tt)
  children_deferred who (q ∷ qs) c each = each_either (λ q. is_child_of nodes x q ≡ true) (nat_lt (rank nodes who) (rank nodes q)) (who ∷ q ∷ qs) (q ∷ put_deferred nodes who qs) (c, each) (each.0, children_deferred who qs c each.1)

  children_without : (who : ℕ) (queue : List ℕ) → Children queue → Children (without who queue)
  children_without who queue each = each_kept (λ q. is_child_of nodes x q ≡ true) (λ other. not (other == who)) queue each

  children_after : (queue : List ℕ) (step : Step) → Children queue → Children (queue_after nodes x queue step)
  children_after queue (Began who begin) each = each_either (λ q. is_child_of nodes x q ≡ true) (who == x) [] (without who queue) tt (children_without who queue each)
  children_after queue (Repeated who start) each = each_either (λ q. is_child_of nodes x q ≡ true) (who == x) [] queue tt each
  children_after queue (Paused who) each = by_child (is_child_of nodes x who) refl
    where
      by_child : (t : Bool) → is_child_of nodes x who ≡ t → Children (cond t (put_paused nodes who (without who queue)) queue)
      by_child true c = children_paused who (without who queue) c (children_without who queue each)
      by_child false c = each
  children_after queue (Deferred who begin) each = by_child (is_child_of nodes x who) refl
    where
      by_child : (t : Bool) → is_child_of nodes x who ≡ t → Children (cond t (put_deferred nodes who (without who queue)) queue)
      by_child true c = children_deferred who (without who queue) c (children_without who queue each)
      by_child false c = each
  children_after queue (Resumed who) each = children_without who queue each
  children_after queue (Ended who end') each = children_without who queue each
  children_after queue (Cut who) each = children_without who queue each
  children_after queue (Passed who begin) each = each
  children_after queue (Logged place) each = each

  all_children : (queue : List ℕ) (ds : List Entry) → Children queue → Children (fold (λ before (y : Entry). queue_after nodes x before y.step) queue ds)
  all_children queue [] each = each
  all_children queue (d ∷ ds) each = all_children (queue_after nodes x queue d.step) ds (children_after queue d.step each)

-- ---- the root

module _ (document : Document) (numbered : IsNumberedTree document) (root : Node) (first : slice_get document.nodes 0 ≡ Some root) (element : is_element root ≡ true) (plain : root.attrs.begin ≡ None) where
  abbrev ns : List Node
  ns = document.nodes

  abbrev with : List LogEntry → List Entry → History
  with log ds = record { nodes = ns; log = log; diary = ds }

  alone : time_parent ns root.serial ≡ None
  alone = root_alone document numbered root first

  -- a begin of the root has the value 0
  abbrev pub AtStart : Step → Type 0
  AtStart (Began who begin) = who == root.serial ≡ true → begin ≡ pos 0
  AtStart _ = Unit {0}

  abbrev pub AllAtStart : List Entry → Type 0
  AllAtStart ds = AllByRecursion (λ (x : Entry). AtStart x.step) ds

  -- ---- its interval

  root_begins : (log : List LogEntry) (ds : List Entry) (J : ℕ → Option Interval) (now : ℤ) → begin_times (with log ds) J now root ≡ pos 0 ∷ []
  root_begins log ds J now =
      ap (λ is. rising (numbers (flat_map (item_times (with log ds) J now root Begin) is))) listed
      ∙ ap (λ o. rising (numbers (offset_times (with log ds) J now root.serial (pos 0) (cond (has_kind is_seq_kind o) (previous_child ns o root.serial) None) ++ []))) alone
      ∙ ap (λ o. rising (numbers (within_horizon (start_under (with log ds) o +ℤ pos 0) ∷ []))) alone
    where
      listed : begin_list ns root ≡ Offset (pos 0) ∷ []
      listed =
          ap (items_or (cond (is_in_excl ns root.serial) (Indefinite ∷ []) (Offset (pos 0) ∷ []))) plain
          ∙ ap (λ o. cond (has_kind is_excl_kind o) (Indefinite ∷ []) (Offset (pos 0) ∷ [])) alone

  root_interval : (log : List LogEntry) (ds : List Entry) (J : ℕ → Option Interval) (now : ℤ) → is_active ds root.serial ≡ false → Starts (interval_given (with log ds) J now root)
  root_interval log ds J now idle =
      subst Starts
      (sym (ap (λ bs. interval_of (facts_of (with log ds) J now root) bs (end_times (with log ds) J now root)) (root_begins log ds J now)
      ∙ ap (interval_by (facts_of (with log ds) J now root) (pos 0 ∷ []) (end_times (with log ds) J now root)) (none_if (is_active ds root.serial) _ idle)))
      (interval_starts (facts_of (with log ds) J now root) (end_times (with log ds) J now root))
    where
      none_if : (t : Bool) (o : Option Play) → t ≡ false → cond t o None ≡ None
      none_if true o q = cc
      none_if false o q = refl

  root_current : (log : List LogEntry) (ds : List Entry) (now : ℤ) → is_active ds root.serial ≡ false → Starts (current_interval (with log ds) now root.serial)
  root_current log ds now idle =
      subst (λ es. Starts (in_table (table (with log ds) now (length es)) root.serial)) (sym listed)
      (subst (λ es. Starts (in_table (map (λ (e : Node). (e.serial, interval_given (with log ds) known now e)) es) root.serial)) (sym listed)
      (subst (λ t. Starts (cond t (interval_given (with log ds) known now root) (in_table (map (λ (e : Node). (e.serial, interval_given (with log ds) known now e)) others) root.serial))) (sym (eq-eqb root.serial root.serial refl))
      (root_interval log ds known now idle)))
    where
      others : List Node
      others = elements (drop 1 ns)

      known : ℕ → Option Interval
      known = in_table (table (with log ds) now (length others))

      listed : elements ns ≡ root ∷ others
      listed = ap elements (split document numbered root first) ∙ ap (λ t. cond t (root ∷ others) others) element

  -- ---- what comes

  -- where this is what happens to an element, it is no begin of the root after 0
  abbrev StartsBy : ℕ → Change → Type 0
  StartsBy s (begins value) = s == root.serial ≡ true → value ≡ pos 0
  StartsBy s _ = Unit {0}

  comes_at_start : (log : List LogEntry) (ds : List Entry) (now : ℤ) (c : DueChange) → first_coming (coming (with log ds) now) ≡ Some c → StartsBy c.key.serial c.change
  comes_at_start log ds now c f = by_change c.change refl
    where
      of : IsOfElement (with log ds) (current_interval (with log ds) now) c
      of = first_of_element (with log ds) now c numbered.distinct f

      same : of.element.serial ≡ c.key.serial
      same = eqb-true of.element.serial c.key.serial (find_true (λ (n : Node). n.serial == c.key.serial) (elements ns) of.element of.here)

      by_active : (value : ℤ) (a : Bool) (o : Option Interval) → moved_by a o ≡ Some (begins value) → (a ≡ false → Starts o) → value ≡ pos 0
      by_active value a None e start = cc
      by_active value false (Some i) e start = let one : i.begin ≡ value = cc in sym one ∙ start refl
      by_active value true (Some i) e start = by_number (number_of i.«end») e
        where
          by_number : (o : Option ℤ) → option_map ends o ≡ Some (begins value) → value ≡ pos 0
          by_number None e = cc
          by_number (Some x) e = cc

      by_repeat : (value : ℤ) (r : Bool) → change_by (with log ds) (current_interval (with log ds) now) of.element r ≡ Some (begins value) → c.key.serial == root.serial ≡ true → value ≡ pos 0
      by_repeat value true e t = by_number (number_of (later_time (simple_of (with log ds) (current_interval (with log ds) now) of.element) (iteration_start (with log ds) of.element.serial))) e
        where
          by_number : (o : Option ℤ) → option_map repeats o ≡ Some (begins value) → value ≡ pos 0
          by_number None e = cc
          by_number (Some x) e = cc
      by_repeat value false e t =
          let here : of.element.serial ≡ root.serial = same ∙ eqb-true c.key.serial root.serial t in
          by_active value (is_active ds of.element.serial) (current_interval (with log ds) now of.element.serial) e
          (λ idle. subst (λ s. Starts (current_interval (with log ds) now s)) (sym here) (root_current log ds now (ap (is_active ds) (sym here) ∙ idle)))

      by_change : (change : Change) → c.change ≡ change → StartsBy c.key.serial change
      by_change (begins value) e = by_repeat value c.key.repeat (of.change ∙ ap (λ x. Some x) e)
      by_change (ends value) e = tt
      by_change (repeats start) e = tt

  -- ---- a group

  module _ (log : List LogEntry) (ds : List Entry) (m : ℤ) where
    abbrev h : History
    h = with log ds

    abbrev StepsStart : List Step → Type 0
    StepsStart steps = AllByRecursion AtStart steps

    either : (t : Bool) (a b : List Step) → StepsStart a → StepsStart b → StepsStart (cond t a b)
    either true a b x y = x
    either false a b x y = y

    cuts_start : (s : ℕ) → StepsStart (cuts h s)
    cuts_start s = go (reverse (filter (λ (n : Node). is_active ds n.serial) (descendants ns s)))
      where
        go : (xs : List Node) → StepsStart (map (λ (n : Node). Cut n.serial) xs)
        go [] = tt
        go (x ∷ xs) = (tt, go xs)

    -- a child isn't the root
    not_root : (p q : ℕ) (value : ℤ) → is_child_of ns p q ≡ true → AtStart (Began q value)
    not_root p q value c t = let never : false ≡ true = sym (ap (has_serial p) (ap (time_parent ns) (eqb-true q root.serial t) ∙ alone)) ∙ c in cc

    follower_start : (p : ℕ) (queue : List ℕ) → Children ns p queue → StepsStart (follower h m queue)
    follower_start p [] each = tt
    follower_start p (q ∷ qs) each = either (is_paused ds q) (Resumed q ∷ []) (Began q (outer h q m) ∷ []) (tt, tt) (not_root p q (outer h q m) each.0, tt)

    followers_start : (s : ℕ) (o : Option Node) → StepsStart (followers h m s o)
    followers_start s None = tt
    followers_start s (Some p) =
        either (is_excl_kind p.kind && has_serial s (playing_child h p.serial)) (follower h m (queue_of h p.serial)) []
        (follower_start p.serial (queue_of h p.serial) (all_children ns p.serial [] ds tt)) tt

    module _ (s : ℕ) (value : ℤ) (own : s == root.serial ≡ true → value ≡ pos 0) where
      interruption_start : (x : ℕ) (act : Act) → StepsStart (interruption h m s value x act)
      interruption_start x Stop = each_append AtStart (cuts h x) (Ended x (outer h x m) ∷ Began s value ∷ []) (cuts_start x) (tt, (own, tt))
      interruption_start x Pause = (tt, (own, tt))
      interruption_start x Defer = (tt, tt)
      interruption_start x Never = (tt, tt)

      beside_start : (o : Option Node) → StepsStart (begin_beside h m s value o)
      beside_start None = (own, tt)
      beside_start (Some x) = interruption_start x.serial (decision ns x.serial s)

      begin_start : (o : Option Node) → StepsStart (begin_under h m s value o)
      begin_start None = (own, tt)
      begin_start (Some p) = either (is_excl_kind p.kind) (begin_beside h m s value (playing_child h p.serial)) (Began s value ∷ []) (beside_start (playing_child h p.serial)) (own, tt)

    steps_start : (s : ℕ) (change : Change) → StartsBy s change → StepsStart (steps_of h m s change)
    steps_start s (begins value) own = begin_start s value own (time_parent ns s)
    steps_start s (ends value) own = each_append AtStart (cuts h s) (Ended s value ∷ followers h m s (time_parent ns s)) (cuts_start s) (tt, followers_start s (time_parent ns s))
    steps_start s (repeats start) own = each_append AtStart (cuts h s) (Repeated s start ∷ []) (cuts_start s) (tt, tt)

    group_start : (s : ℕ) (change : Change) → StartsBy s change → AllAtStart (group h m s change)
    group_start s change own =
        each_map AtStart (λ (x : Entry). AtStart x.step) (λ step. record { moment = m; step = step }) (steps_of h m s change) (steps_start s change own)
        (λ step q. q)

  -- ---- the steps of the resolution

  pub all_at_start : (log : List LogEntry) (last steps : ℕ) → AllAtStart (after_steps (course_on ns log last) steps outset).diary
  all_at_start log last steps = steps_keep (course_on ns log last) (λ (p : Progress). AllAtStart p.diary) keeps steps outset tt
    where
      keeps : Keeps (course_on ns log last) (λ (p : Progress). AllAtStart p.diary)
      keeps = record {
        quiet = λ p held l. held;
        hears = λ p held. each_append (λ (x : Entry). AtStart x.step) p.diary (record { moment = pos p.moment; step = Logged p.heard } ∷ []) held (tt, tt);
        happens = λ p next held f.
            each_append (λ (x : Entry). AtStart x.step) p.diary (group (history_at (course_on ns log last) p) (pos p.moment) next.key.serial next.change) held
            (group_start log p.diary (pos p.moment) next.key.serial next.change (comes_at_start log p.diary (pos p.moment) next f));
      }
