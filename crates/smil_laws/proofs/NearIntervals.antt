-- The numbers of an interval are near where those of the diary are: each of them was capped.
use Rattle.std.proofs.Common.{◌≡◌, refl, sym, ℕ, List, [], ◌∷◌, ◌++◌, Option, Some, None, ℤ, Bool, true, false, arith}
use Rattle.std.specs.Prelude.{neg_ℤ, ◌+ℤ◌, ◌-ℤ◌, int_lt, int_le, cond, map, filter, filter_map, flat_map, fold, drop, min, option_map, option_to_list, ◌&&◌, ◌||◌, ◌==◌, not, is_some}
use Rattle.std.specs.List.{AllByRecursion, cons_option}
use Rattle.std.proofs.lemmas.Int.{ints}
use Rattle.smil_model.specs.declared.times.TheConstants.{HORIZON}
use Rattle.smil_model.specs.declared.times.Time.{Time}
use Rattle.smil_model.specs.declared.times.Time.TheVariants.{At, Indefinite, Unresolved}
use Rattle.smil_model.specs.declared.diary.Entry.{Entry}
use Rattle.smil_model.specs.declared.diary.Step.{Step}
use Rattle.smil_model.specs.declared.diary.Step.TheVariants.{Began, Ended, Cut}
use Rattle.smil_model.specs.declared.document.Node.{Node}
use Rattle.smil_model.specs.declared.document.Edge.{Edge}
use Rattle.smil_model.specs.declared.document.Edge.TheVariants.{Begin, End}
use Rattle.smil_model.specs.declared.document.Item.{Item}
use Rattle.smil_model.specs.declared.document.Item.TheVariants.{Offset, Sync, Event, Repeat, Key}
use Rattle.smil_model.specs.declared.document.Item.TheVariants as item
use Rattle.smil_model.specs.declared.document.Restart.{Restart}
use Rattle.smil_model.specs.declared.document.Restart.TheVariants.{Always}
use Rattle.smil_model.specs.declared.interval.Interval.{Interval}
use Rattle.smil_model.specs.declared.interval.Play.{Play}
use Rattle.smil_model.specs.declared.interval.Facts.{Facts}
use Rattle.smil_model.specs.declared.interval.EndList.{EndList}
use Rattle.smil_model.specs.declared.interval.EndList.TheVariants.{Absent, Hearing, Plain}
use Rattle.smil_model.specs.Rising.{put_in}
use Rattle.smil_model.specs.Times.{within_horizon, later_time, time_le, least_time, greatest_time, least_of, numbers, rising, rising_times, IsNear}
use Rattle.smil_model.specs.interval.Durations.{active_duration}
use Rattle.smil_model.specs.interval.Intervals.{bounds_in, counts_from, has_any, is_hearing, limit_of, end_limit_by, first_after, next_begin, play_end, duration_end, interval_end, after_end, is_from, is_accepted, goes_on, is_over, judged, unless_over, first_from, next_from, counts_after, may_restart, coming_interval, interval_by}
use Rattle.smil_model.specs.interval.Instances.{edge_time, happened_times, expected_times, interval_edge, sync_times, is_event, is_repeat, is_press, hears, heard_times, event_times, repeat_times, offset_times, named_times, item_times, begin_times, end_times}
use Rattle.smil_model.specs.interval.Current.{facts_of, interval_given, present_play}
use Rattle.smil_model.specs.document.Document.{element_named, previous_in_seq, target, time_parent}
use Rattle.smil_model.specs.document.Defaults.{begin_list, end_list}
use Rattle.smil_model.specs.document.Dependencies.{leads_to}
use Rattle.smil_model.specs.diary.Diary.{History, birth, is_active, is_paused, iteration, up_to, with_past}
use Rattle.smil_model.specs.diary.Clocks.{outer, between, parent_start, outer_stands, play_start, iteration_start, run}
use Rattle.smil_model.specs.diary.Plays.{PlayEdge, Plays, finish_with, is_birth_under, play_after, plays}
use Rattle.smil_laws.specs.Near.{AllNear, HasNear, IsTimeNear, IsIntervalNear, IntervalsAreNear}

abbrev AreNear : List ℤ → Type 0
AreNear xs = AllByRecursion IsNear xs

abbrev AreTimesNear : List Time → Type 0
AreTimesNear ts = AllByRecursion IsTimeNear ts

-- ---- capped numbers

low_near : IsNear (neg_ℤ HORIZON)
low_near = record { low = grind (arith, ints); high = grind (arith, ints) }

pub capped_near : (x : ℤ) → IsTimeNear (within_horizon x)
capped_near x = over (int_lt HORIZON x) refl
  where
    under : (t : Bool) → int_lt x (neg_ℤ HORIZON) ≡ t → int_lt HORIZON x ≡ false → IsTimeNear (cond t (At (neg_ℤ HORIZON)) (At x))
    under true u o = low_near
    under false u o = record { low = grind (arith, ints); high = grind (arith, ints) }

    over : (t : Bool) → int_lt HORIZON x ≡ t → IsTimeNear (cond t Indefinite (cond (int_lt x (neg_ℤ HORIZON)) (At (neg_ℤ HORIZON)) (At x)))
    over true o = tt
    over false o = under (int_lt x (neg_ℤ HORIZON)) refl o

pub later_near : (t : Time) (by : ℤ) → IsTimeNear (later_time t by)
later_near (At x) by = capped_near (x +ℤ by)
later_near Indefinite by = tt
later_near Unresolved by = tt

either_near : (b : Bool) (s t : Time) → IsTimeNear s → IsTimeNear t → IsTimeNear (cond b s t)
either_near true s t p q = p
either_near false s t p q = q

least_near : (s t : Time) → IsTimeNear s → IsTimeNear t → IsTimeNear (least_time s t)
least_near s t p q = either_near (time_le s t) s t p q

greatest_near : (s t : Time) → IsTimeNear s → IsTimeNear t → IsTimeNear (greatest_time s t)
greatest_near s t p q = either_near (time_le s t) t s q p

all_least_near : (t : Time) (ts : List Time) → IsTimeNear t → AreTimesNear ts → IsTimeNear (fold least_time t ts)
all_least_near t [] p q = p
all_least_near t (u ∷ us) p q = all_least_near (least_time t u) us (least_near t u p q.0) q.1

-- ---- lists

kept_near : (p : Time → Bool) (ts : List Time) → AreTimesNear ts → AreTimesNear (filter p ts)
kept_near p [] q = tt
kept_near p (t ∷ ts) q = step (p t) (kept_near p ts q.1)
  where
    step : (b : Bool) → AreTimesNear (filter p ts) → AreTimesNear (cond b (t ∷ filter p ts) (filter p ts))
    step true r = (q.0, r)
    step false r = r

pub chosen_near : (p : ℤ → Bool) (xs : List ℤ) → AreNear xs → AreNear (filter p xs)
chosen_near p [] q = tt
chosen_near p (x ∷ xs) q = step (p x) (chosen_near p xs q.1)
  where
    step : (b : Bool) → AreNear (filter p xs) → AreNear (cond b (x ∷ filter p xs) (filter p xs))
    step true r = (q.0, r)
    step false r = r

pub numbers_near : (ts : List Time) → AreTimesNear ts → AreNear (numbers ts)
numbers_near [] q = tt
numbers_near (At x ∷ ts) q = (q.0, numbers_near ts q.1)
numbers_near (Indefinite ∷ ts) q = numbers_near ts q.1
numbers_near (Unresolved ∷ ts) q = numbers_near ts q.1

put_near : (x : ℤ) (ys : List ℤ) → IsNear x → AreNear ys → AreNear (put_in int_le x ys)
put_near x [] p q = (p, tt)
put_near x (y ∷ ys) p q = step (int_le x y) (put_near x ys p q.1)
  where
    step : (b : Bool) → AreNear (put_in int_le x ys) → AreNear (cond b (x ∷ y ∷ ys) (y ∷ put_in int_le x ys))
    step true r = (p, q)
    step false r = (q.0, r)

pub rising_near : (xs : List ℤ) → AreNear xs → AreNear (rising xs)
rising_near [] q = tt
rising_near (x ∷ xs) q = put_near x (rising xs) q.0 (rising_near xs q.1)

put_time_near : (t : Time) (us : List Time) → IsTimeNear t → AreTimesNear us → AreTimesNear (put_in time_le t us)
put_time_near t [] p q = (p, tt)
put_time_near t (u ∷ us) p q = step (time_le t u) (put_time_near t us p q.1)
  where
    step : (b : Bool) → AreTimesNear (put_in time_le t us) → AreTimesNear (cond b (t ∷ u ∷ us) (u ∷ put_in time_le t us))
    step true r = (p, q)
    step false r = (q.0, r)

pub rising_times_near : (ts : List Time) → AreTimesNear ts → AreTimesNear (rising_times ts)
rising_times_near [] q = tt
rising_times_near (t ∷ ts) q = put_time_near t (rising_times ts) q.0 (rising_times_near ts q.1)

-- ---- the end of an interval

first_after_near : (b : ℤ) (xs : List ℤ) → AreNear xs → IsTimeNear (first_after b xs)
first_after_near b [] q = tt
first_after_near b (x ∷ xs) q = either_near (int_lt b x) (At x) (first_after b xs) q.0 (first_after_near b xs q.1)

next_begin_near : (r : Restart) (xs : List ℤ) (b : ℤ) → AreNear xs → IsTimeNear (next_begin r xs b)
next_begin_near Always xs b q = first_after_near b xs q
next_begin_near _ xs b q = tt

play_end_near : (facts : Facts) (o : Option ℤ) (play : Play) → IsTimeNear (play_end facts o play)
play_end_near facts None play = tt
play_end_near facts (Some shift) play = later_near _ shift

duration_end_near : (facts : Facts) (o : Option Play) (b : ℤ) → IsTimeNear (duration_end facts o b)
duration_end_near facts None b = later_near (active_duration (bounds_in facts) facts.simple) b
duration_end_near facts (Some play) b = play_end_near facts play.shift play

abbrev NearWhere : Option Time → Type 0
NearWhere None = Unit {0}
NearWhere (Some t) = IsTimeNear t

where_near : (b : Bool) → NearWhere (cond b (Some Unresolved) None)
where_near true = tt
where_near false = tt

limit_near : (facts : Facts) (b : ℤ) (ends ts : List Time) → AreTimesNear ts → NearWhere (limit_of facts b ends ts)
limit_near facts b ends [] q = where_near (is_some facts.play || is_hearing facts.end_list || not (has_any ends))
limit_near facts b ends (t ∷ ts) q =
    greatest_near (least_of (t ∷ ts)) (within_horizon (b +ℤ facts.min)) (all_least_near Unresolved (t ∷ ts) tt q) (capped_near (b +ℤ facts.min))

end_limit_near : (l : EndList) (facts : Facts) (ends : List Time) (b : ℤ) → AreTimesNear ends → NearWhere (end_limit_by l facts ends b)
end_limit_near Absent facts ends b q = tt
end_limit_near Hearing facts ends b q = limit_near facts b ends (filter (counts_from facts.last b) ends) (kept_near (counts_from facts.last b) ends q)
end_limit_near Plain facts ends b q = limit_near facts b ends (filter (counts_from facts.last b) ends) (kept_near (counts_from facts.last b) ends q)

pub interval_end_near : (facts : Facts) (begins : List ℤ) (ends : List Time) (b : ℤ) → AreNear begins → AreTimesNear ends → NearWhere (interval_end facts begins ends b)
interval_end_near facts begins ends b p q = by_limit (end_limit_by facts.end_list facts ends b) (end_limit_near facts.end_list facts ends b q)
  where
    by_limit : (o : Option Time) → NearWhere o → NearWhere (option_map (λ limit. least_time (duration_end facts facts.play b) (least_time limit (next_begin facts.restart begins b))) o)
    by_limit None r = tt
    by_limit (Some limit) r =
        least_near (duration_end facts facts.play b) (least_time limit (next_begin facts.restart begins b)) (duration_end_near facts facts.play b)
        (least_near limit (next_begin facts.restart begins b) r (next_begin_near facts.restart begins b p))

-- ---- the search

abbrev pub IntervalNear : Option Interval → Type 0
IntervalNear None = Unit {0}
IntervalNear (Some i) = IsIntervalNear i

module _ (facts : Facts) (end_of : ℤ → Option Time) (ends_near : (b : ℤ) → NearWhere (end_of b)) where
  first_near : (from : Option Time) (bs : List ℤ) → AreNear bs → IntervalNear (first_from facts end_of from bs)
  first_near from [] q = tt
  first_near from (b ∷ bs) q = by_from (λ later. first_near later bs q.1) (is_from from b) (end_of b) (ends_near b)
    where
      by_end : ((later : Option Time) → IntervalNear (first_from facts end_of later bs)) → (o : Option Time) → NearWhere o → IntervalNear (unless_over (judged facts b o) (λ later. first_from facts end_of later bs))
      by_end rest None n = tt
      by_end rest (Some t) n = by_accepted (is_accepted facts.parent_start b t)
        where
          by_accepted : (a : Bool) → IntervalNear (unless_over (cond a (is_over (Some (record { begin = b; «end» = t }))) (goes_on (Some (after_end b t)))) (λ later. first_from facts end_of later bs))
          by_accepted true = record { begin = q.0; finish = n }
          by_accepted false = rest (Some (after_end b t))

      by_from : ((later : Option Time) → IntervalNear (first_from facts end_of later bs)) → (a : Bool) (o : Option Time) → NearWhere o → IntervalNear (unless_over (cond a (judged facts b o) (goes_on from)) (λ later. first_from facts end_of later bs))
      by_from rest true o n = by_end rest o n
      by_from rest false o n = rest from

  next_near : (from : Time) (bs : List ℤ) → AreNear bs → IntervalNear (next_from end_of from bs)
  next_near from [] q = tt
  next_near from (b ∷ bs) q = by_from (time_le from (At b)) (next_near from bs q.1)
    where
      by_end : (o : Option Time) → NearWhere o → IntervalNear (option_map (λ end'. record { begin = b; «end» = end' }) o)
      by_end None n = tt
      by_end (Some t) n = record { begin = q.0; finish = n }

      by_from : (a : Bool) → IntervalNear (next_from end_of from bs) → IntervalNear (cond a (option_map (λ end'. record { begin = b; «end» = end' }) (end_of b)) (next_from end_of from bs))
      by_from true r = by_end (end_of b) (ends_near b)
      by_from false r = r

module _ (facts : Facts) (begins : List ℤ) (ends : List Time) (p : AreNear begins) (q : AreTimesNear ends) where
  coming_near : (o : Option Interval) → IntervalNear (coming_interval facts begins ends o)
  coming_near None =
      first_near facts (interval_end facts begins ends) (λ b. interval_end_near facts begins ends b p q) None
      (filter (counts_after facts.passed) begins) (chosen_near (counts_after facts.passed) begins p)
  coming_near (Some last) = by_restart (may_restart facts.restart)
    where
      by_restart : (a : Bool) → IntervalNear (cond a (next_from (interval_end facts begins ends) (after_end last.begin last.«end») (filter (counts_after facts.passed) begins)) None)
      by_restart true =
          next_near facts (interval_end facts begins ends) (λ b. interval_end_near facts begins ends b p q) (after_end last.begin last.«end»)
          (filter (counts_after facts.passed) begins) (chosen_near (counts_after facts.passed) begins p)
      by_restart false = tt

  pub interval_by_near : (o : Option Play) → ((play : Play) → o ≡ Some play → IsNear play.begin) → IntervalNear (interval_by facts begins ends o)
  interval_by_near (Some play) n = by_end (interval_end facts begins ends play.begin) (interval_end_near facts begins ends play.begin p q)
    where
      by_end : (o : Option Time) → NearWhere o → IntervalNear (option_map (λ end'. record { begin = play.begin; «end» = end' }) o)
      by_end None r = tt
      by_end (Some t) r = record { begin = n play refl; finish = r }
  interval_by_near None n = by_alive (facts.alive && not facts.deferred)
    where
      by_alive : (a : Bool) → IntervalNear (cond a (coming_interval facts begins ends facts.last) None)
      by_alive true = coming_near facts.last
      by_alive false = tt

-- ---- instance times

append_near : (xs ys : List Time) → AreTimesNear xs → AreTimesNear ys → AreTimesNear (xs ++ ys)
append_near [] ys p q = q
append_near (x ∷ xs) ys p q = (p.0, append_near xs ys p.1 q)

flat_near : {A : Type 0} (f : A → List Time) → ((a : A) → AreTimesNear (f a)) → (all : List A) → AreTimesNear (flat_map f all)
flat_near f p [] = tt
flat_near f p (a ∷ all) = append_near (f a) (flat_map f all) (p a) (flat_near f p all)

given_near : {A : Type 0} (f : A → Option Time) → ((a : A) → NearWhere (f a)) → (all : List A) → AreTimesNear (filter_map f all)
given_near f p [] = tt
given_near f p (a ∷ all) = put (f a) (p a) (given_near f p all)
  where
    put : (o : Option Time) → NearWhere o → AreTimesNear (filter_map f all) → AreTimesNear (cons_option o (filter_map f all))
    put None q r = r
    put (Some t) q r = (q, r)

when_near : (b : Bool) (x : ℤ) → NearWhere (cond b (Some (within_horizon x)) None)
when_near true x = capped_near x
when_near false x = tt

edge_near : (h : History) (e x : ℕ) (offset moment : ℤ) (edge : Edge) (step : Step) → NearWhere (edge_time h e x offset moment edge step)
edge_near h e x offset moment Begin (Began who begin) = when_near (who == x) (between h x e begin moment +ℤ offset)
edge_near h e x offset moment End (Ended who end') = when_near (who == x) (between h x e end' moment +ℤ offset)
edge_near h e x offset moment End (Cut who) = when_near (who == x) (outer h e moment +ℤ offset)
edge_near h e x offset moment _ _ = tt

happened_near : (h : History) (e x : ℕ) (offset : ℤ) (edge : Edge) → AreTimesNear (happened_times h e x offset edge)
happened_near h e x offset edge =
    given_near (λ (y : Entry). edge_time h e x offset y.moment edge y.step) (λ (y : Entry). edge_near h e x offset y.moment edge y.step)
    (drop (min (birth h e) (birth h x)) h.diary)

expected_near : (h : History) (intervals : ℕ → Option Interval) (now : ℤ) (e x : ℕ) (offset : ℤ) (edge : Edge) → AreTimesNear (expected_times h intervals now e x offset edge)
expected_near h intervals now e x offset edge =
    by_stands (outer_stands h e || outer_stands h x) (interval_edge edge (is_active h.diary x) (intervals x))
  where
    by_stands : (b : Bool) (o : Option ℤ) → AreTimesNear (cond b [] (map (λ value. within_horizon (between h x e value now +ℤ offset)) (option_to_list o)))
    by_stands true o = tt
    by_stands false None = tt
    by_stands false (Some value) = (capped_near (between h x e value now +ℤ offset), tt)

sync_near : (h : History) (intervals : ℕ → Option Interval) (now : ℤ) (e x : ℕ) (offset : ℤ) (edge : Edge) (looped : Bool) → AreTimesNear (sync_times h intervals now e x offset edge looped)
sync_near h intervals now e x offset edge true =
    append_near (happened_times h e x offset edge) [] (happened_near h e x offset edge) tt
sync_near h intervals now e x offset edge false =
    append_near (happened_times h e x offset edge) (expected_times h intervals now e x offset edge) (happened_near h e x offset edge)
    (expected_near h intervals now e x offset edge)

heard_near : (h : History) (e : Node) (side : Edge) (item : Item) (offset : ℤ) (occurs : History → Step → Bool) → AreTimesNear (heard_times h e side item offset occurs)
heard_near h e side item offset occurs =
    given_near
    (λ (p : List Entry × Entry).
    cond (occurs (up_to h p.0) (p.1).step && hears (up_to h p.0) e side item) (Some (within_horizon (outer h e.serial (p.1).moment +ℤ offset))) None)
    (λ (p : List Entry × Entry). when_near (occurs (up_to h p.0) (p.1).step && hears (up_to h p.0) e side item) (outer h e.serial (p.1).moment +ℤ offset))
    (drop (birth h e.serial) (with_past [] h.diary))

offset_near : (h : History) (intervals : ℕ → Option Interval) (now : ℤ) (e : ℕ) (offset : ℤ) (o : Option Node) → AreTimesNear (offset_times h intervals now e offset o)
offset_near h intervals now e offset None = (capped_near (parent_start h e +ℤ offset), tt)
offset_near h intervals now e offset (Some before) = sync_near h intervals now e before.serial offset End false

named_near : (h : History) (intervals : ℕ → Option Interval) (now : ℤ) (e : ℕ) (offset : ℤ) (edge : Edge) (o : Option Node) → AreTimesNear (named_times h intervals now e offset edge o)
named_near h intervals now e offset edge None = tt
named_near h intervals now e offset edge (Some x) = sync_near h intervals now e x.serial offset edge (leads_to h.nodes e x.serial)

event_near : (h : History) (e : Node) (side : Edge) (item : Item) (offset : ℤ) (name : List ℕ) (o : Option ℕ) → AreTimesNear (event_times h e side item offset name o)
event_near h e side item offset name None = tt
event_near h e side item offset name (Some x) = heard_near h e side item offset (λ past step. is_event past.log x name step)

repeat_near : (h : History) (e : Node) (side : Edge) (item : Item) (offset : ℤ) (n : ℕ) (o : Option ℕ) → AreTimesNear (repeat_times h e side item offset n o)
repeat_near h e side item offset n None = tt
repeat_near h e side item offset n (Some x) = heard_near h e side item offset (λ past step. is_repeat past x n step)

item_near : (h : History) (intervals : ℕ → Option Interval) (now : ℤ) (e : Node) (side : Edge) (i : Item) → AreTimesNear (item_times h intervals now e side i)
item_near h intervals now e side (Offset offset) = offset_near h intervals now e.serial offset (previous_in_seq h.nodes e.serial)
item_near h intervals now e side (Sync who edge offset) = named_near h intervals now e.serial offset edge (element_named h.nodes who)
item_near h intervals now e side (Event who name offset) = event_near h e side (Event who name offset) offset name (target h.nodes e.serial who)
item_near h intervals now e side (Repeat who n offset) = repeat_near h e side (Repeat who n offset) offset n (target h.nodes e.serial who)
item_near h intervals now e side (Key key offset) = heard_near h e side (Key key offset) offset (λ past step. is_press past.log key step)
item_near h intervals now e Begin item.Indefinite = tt
item_near h intervals now e End item.Indefinite = (tt, tt)

begins_near : (h : History) (intervals : ℕ → Option Interval) (now : ℤ) (e : Node) → AreNear (begin_times h intervals now e)
begins_near h intervals now e =
    rising_near (numbers (flat_map (item_times h intervals now e Begin) (begin_list h.nodes e)))
    (numbers_near (flat_map (item_times h intervals now e Begin) (begin_list h.nodes e))
    (flat_near (item_times h intervals now e Begin) (item_near h intervals now e Begin) (begin_list h.nodes e)))

ends_near_by : (h : History) (intervals : ℕ → Option Interval) (now : ℤ) (e : Node) → AreTimesNear (end_times h intervals now e)
ends_near_by h intervals now e =
    rising_times_near (flat_map (item_times h intervals now e End) (end_list e))
    (flat_near (item_times h intervals now e End) (item_near h intervals now e End) (end_list e))

-- ---- the present play

abbrev PresentNear : Option PlayEdge → Type 0
PresentNear None = Unit {0}
PresentNear (Some m) = IsNear m.value

module _ (h : History) (serial : ℕ) where
  after_near : (moment : ℤ) (step : Step) (so_far : Plays) → HasNear step → PresentNear so_far.present → PresentNear (play_after h serial moment so_far step).present
  after_near moment (Began who begin) so_far n p = by_who (who == serial)
    where
      by_who : (b : Bool) → PresentNear (cond b (record { present = Some (record { value = begin; moment = moment }); finished = so_far.finished }) so_far).present
      by_who true = n
      by_who false = p
  after_near moment (Ended who end') so_far n p = by_who (who == serial)
    where
      by_who : (b : Bool) → PresentNear (cond b (record { present = None; finished = finish_with so_far.present (record { value = end'; moment = moment }) false so_far.finished }) so_far).present
      by_who true = tt
      by_who false = p
  after_near moment (Cut who) so_far n p = by_who (who == serial)
    where
      by_who : (b : Bool) → PresentNear (cond b (record { present = None; finished = finish_with so_far.present (record { value = outer h serial moment; moment = moment }) true so_far.finished }) so_far).present
      by_who true = tt
      by_who false = p
  after_near moment _ so_far n p = p

  plays_near : (ds : List Entry) (so_far : Plays) → AllNear ds → PresentNear so_far.present
      → PresentNear (fold (λ (before : Plays) (x : Entry). cond (is_birth_under (time_parent h.nodes serial) x.step) (record { present = before.present; finished = [] }) (play_after h serial x.moment before x.step)) so_far ds).present
  plays_near [] so_far a p = p
  plays_near (x ∷ xs) so_far a p =
      plays_near xs (cond (is_birth_under (time_parent h.nodes serial) x.step) (record { present = so_far.present; finished = [] }) (play_after h serial x.moment so_far x.step)) a.1
      (by_birth (is_birth_under (time_parent h.nodes serial) x.step))
    where
      by_birth : (b : Bool) → PresentNear (cond b (record { present = so_far.present; finished = [] }) (play_after h serial x.moment so_far x.step)).present
      by_birth true = p
      by_birth false = after_near x.moment x.step so_far a.0 p

abbrev PlayNear : Option Play → Type 0
PlayNear None = Unit {0}
PlayNear (Some play) = IsNear play.begin

play_near : (h : History) (now : ℤ) (e : Node) → AllNear h.diary → PlayNear (present_play h now e)
play_near h now e a = by_active (is_active h.diary e.serial) (plays h e.serial).present (plays_near h e.serial h.diary (record { present = None; finished = [] }) a tt)
  where
    by_active : (b : Bool) (o : Option PlayEdge) → PresentNear o → PlayNear (cond b (option_map (λ (begin : PlayEdge). record {
      begin = begin.value;
      first = play_start h e.serial;
      start = iteration_start h e.serial;
      iteration = iteration h e.serial;
      shift = cond (is_paused h.diary e.serial) None (Some (outer h e.serial now -ℤ run h e.serial now));
    }) o) None)
    by_active true None p = tt
    by_active true (Some m) p = p
    by_active false o p = tt

same_play : (o p : Option Play) → o ≡ p → PlayNear o → PlayNear p
same_play o p e n = rw (sym e) n

same_interval : (o p : Option Interval) → o ≡ p → IntervalNear o → IntervalNear p
same_interval o p e n = rw (sym e) n

-- each interval that is given of an element
pub given_near_all : (h : History) (intervals : ℕ → Option Interval) (now : ℤ) (e : Node) → AllNear h.diary → IntervalNear (interval_given h intervals now e)
given_near_all h intervals now e a =
    interval_by_near (facts_of h intervals now e) (begin_times h intervals now e) (end_times h intervals now e) (begins_near h intervals now e) (ends_near_by h intervals now e)
    (present_play h now e) (λ play told. same_play (present_play h now e) (Some play) told (play_near h now e a))

pub interval_near : IntervalsAreNear
interval_near h intervals now e i a is = same_interval (interval_given h intervals now e) (Some i) is (given_near_all h intervals now e a)
