-- A par with one image that begins after b and lasts d.
use Rattle.std.proofs.Common.{◌≡◌, refl, sym, ◌∙◌, ap, ℕ, suc, zero, ◌<◌, ◌≤◌, ◌+◌, List, [], ◌∷◌, Option, Some, None, ℤ, true, false, arith, zero-add, add-zero}
use Rattle.std.specs.Prelude.{pos, ltb, leb, cond, int_le, ◌+ℤ◌, ◌-ℤ◌, option_map, ◌-◌, ◌&&◌, ◌||◌, ◌++◌, ◌==◌}
use Rattle.std.proofs.lemmas.Bool.{le-ltb, lt-ltb, le-leb, lt-leb, and_right}
use Rattle.smil_model.specs.declared.times.Time.{Time}
use Rattle.smil_model.specs.declared.times.Time.TheVariants as time
use Rattle.smil_model.specs.declared.interval.Interval.{Interval}
use Rattle.smil_model.specs.declared.diary.Entry.{Entry}
use Rattle.smil_model.specs.declared.document.Node.{Node}
use Rattle.smil_model.specs.declared.document.Kind.TheVariants.{Par, Img}
use Rattle.smil_model.specs.declared.document.Item.TheVariants.{Offset}
use Rattle.smil_model.specs.declared.document.Dur.TheVariants as dur
use Rattle.smil_model.specs.diary.Diary.{History}
use Rattle.smil_model.specs.interval.Current.{table, facts_of, interval_given, simple_of, in_table}
use Rattle.std.specs.Option.{option_or, option_map_or}
use Rattle.smil_model.specs.interval.Instances.{begin_times}
use Rattle.smil_model.specs.interval.Durations.{bounds_of, active_duration, active_end, container_duration}
use Rattle.smil_model.specs.declared.document.Endsync.TheVariants.{Last}
use Rattle.smil_model.specs.happening.Keys.{DueChange}
use Rattle.smil_model.specs.happening.Keys.{Change, is_repeating, DueChange, ends, begins as begins_at, coming_begin, coming_end, coming, first_coming}
use Rattle.smil_model.specs.happening.Resolution.{Course, Progress, next_step, after_coming, after_quiet, after_steps, resolved}
use Rattle.smil_model.specs.happening.Groups.{group}
use Rattle.smil_model.specs.diary.Clocks.{to_document, run, outer, parent_start, play_start, iteration_start}
use Rattle.smil_laws.proofs.UnpausedClocks.{own_all, parent_all, none_paused}
use Rattle.std.proofs.lemmas.Int.{ints}
use Rattle.smil_model.specs.declared.interval.Facts.{Facts}
use Rattle.smil_model.specs.interval.Intervals.{is_from, interval_of, interval_end, first_from, next_from, is_accepted, unless_over, goes_on, is_over, judged, after_end}
use Rattle.smil_model.specs.Times.{time_le, greatest_time, within_horizon, rising, numbers, least_time, later_time}
use Rattle.smil_model.specs.document.Edits.{no_attrs}
use Rattle.smil_laws.specs.Image.{node, image, begin_at, end_at}

abbrev pub img : ℕ → ℕ → List ℕ → Node
img b d id = node 2 Img 1 (record no_attrs { id = Some id; begin = Some (Offset (pos b) ∷ []); dur = Some (dur.Clock (pos d)) })

abbrev pub root : Node
root = node 1 Par 0 no_attrs

small : (x y : ℕ) → y ≡ x → x ≤ 1_000_000_000_000 → within_horizon (pos y) ≡ time.At (pos x)
small x y e h = rw (e, le-ltb 1_000_000_000_000 x h)

first_from-accepts : (facts : Facts) (end_of : ℤ → Option Time) (from : Option Time) (b : ℤ) (bs : List ℤ) (e : Time) → is_from from b ≡ true → end_of b ≡ Some e → is_accepted facts.parent_start b e ≡ true → first_from facts end_of from (b ∷ bs) ≡ Some (record { begin = b; «end» = e })
first_from-accepts facts end_of from b bs e p q r =
    ap (λ t. unless_over (cond t (judged facts b (end_of b)) (goes_on from)) (λ later. first_from facts end_of later bs)) p
    ∙ ap (λ o. unless_over (judged facts b o) (λ later. first_from facts end_of later bs)) q
    ∙ ap (λ t. unless_over (cond t (is_over (Some (record { begin = b; «end» = e }))) (goes_on (Some (after_end b e)))) (λ later. first_from facts end_of later bs)) r

next_from-none : (end_of : ℤ → Option Time) (from : Time) (b : ℤ) → time_le from (time.At b) ≡ false → next_from end_of from (b ∷ []) ≡ None
next_from-none end_of from b q = ap (λ t. cond t (option_map (λ end'. record { begin = b; «end» = end' }) (end_of b)) None) q

take_away : (a : ℤ) → a -ℤ a ≡ pos 0
take_away a = omega (arith, ints)

pub put_back : (a v : ℤ) → a +ℤ (v -ℤ a) ≡ v
put_back a v = omega (arith, ints)

module _ (b d : ℕ) (id : List ℕ) (fits : b + d ≤ 1_000_000_000_000) (long : 0 < d) where
  abbrev whole : ℕ
  whole = b + d

  abbrev with : List Entry → History
  with ds = record { nodes = image b d id; log = []; diary = ds }

  abbrev ds1 : List Entry
  ds1 = begin_at 1 0 ∷ []

  abbrev ds2 : List Entry
  ds2 = begin_at 1 0 ∷ begin_at 2 b ∷ []

  abbrev ds3 : List Entry
  ds3 = begin_at 1 0 ∷ begin_at 2 b ∷ end_at 2 whole ∷ []

  abbrev ds4 : List Entry
  ds4 = begin_at 1 0 ∷ begin_at 2 b ∷ end_at 2 whole ∷ end_at 1 whole ∷ []

  abbrev of_image : Interval
  of_image = record { begin = pos b; «end» = time.At (pos whole) }

  abbrev of_root : Interval
  of_root = record { begin = pos 0; «end» = time.At (pos whole) }

  positive : leb whole 0 ≡ false
  positive = lt-leb whole 0 (omega arith)

  -- ---- the par, whose simple duration is that of the image's end

  root_play : Time → ℤ → Option Interval
  root_play simple ahead =
      Some (record { begin = pos 0; «end» = least_time (later_time (active_end (bounds_of no_attrs) simple (pos 0) (pos 0) 0) ahead) time.Unresolved })

  lasts_whole : active_end (bounds_of no_attrs) (time.At (pos whole)) (pos 0) (pos 0) 0 ≡ time.At (pos whole)
  lasts_whole =
      let from_0 : leb 0 whole ≡ true = le-leb 0 whole (omega arith) in
      let same : whole + 0 ≡ whole = omega arith in
      let in_horizon : ltb 1_000_000_000_000 whole ≡ false = le-ltb 1_000_000_000_000 whole fits in
      simp (positive, from_0, same, in_horizon)

  root_by : (simple : Time) (ahead : ℤ) → simple ≡ time.At (pos whole) → ahead ≡ pos 0 → root_play simple ahead ≡ Some of_root
  unfolding root_play
  root_by simple ahead p q =
      ap (λ t. root_play t ahead) p ∙ ap (λ a. root_play (time.At (pos whole)) a) q
      ∙ ap (λ t. Some (record { begin = pos 0; «end» = least_time (later_time t (pos 0)) time.Unresolved })) lasts_whole
      ∙ ap (λ t. Some (record { begin = pos 0; «end» = least_time t time.Unresolved })) (small whole (whole + 0) (omega arith) fits)

  implicit_whole : (first : Option Time) → container_duration Par Last (pos 0) (record { named = false; first = first; latest = Some (time.At (pos whole)) } ∷ []) ≡ time.At (pos whole)
  implicit_whole first =
      ap (λ t. greatest_time (time.At (pos 0)) t) (small whole (whole + 0) (omega arith) fits)
      ∙ ap (λ t. cond t (time.At (pos whole)) (time.At (pos 0))) (le-leb 0 whole (omega arith))

  lasts_as : (J : ℕ → Option Interval) (o : Option Interval) → J 2 ≡ o → o ≡ Some of_image → container_duration Par Last (pos 0) (record { named = false; first = option_or None (option_map (λ (i : Interval). i.«end») (J 2)); latest = option_or (option_map (λ (i : Interval). i.«end») (J 2)) None } ∷ []) ≡ time.At (pos whole)
  lasts_as J o p q =
      ap (λ j. container_duration Par Last (pos 0) (record { named = false; first = option_or None (option_map (λ (i : Interval). i.«end») j); latest = option_or (option_map (λ (i : Interval). i.«end») j) None } ∷ [])) (p ∙ q)
      ∙ implicit_whole (Some (time.At (pos whole)))

  pub root-1 : (J : ℕ → Option Interval) (m : ℕ) → J 2 ≡ Some of_image → interval_given (with ds1) J (pos m) root ≡ Some of_root
  unfolding root_play
  root-1 J m p = root_by (simple_of (with ds1) J root) (pos m -ℤ run (with ds1) 1 (pos m)) (lasts_as J (J 2) refl p) (ap (λ a. pos m -ℤ a) (own_all (with ds1) refl 1 m) ∙ take_away (pos m))

  -- ---- the image waits

  begins : (J : ℕ → Option Interval) (m : ℤ) (ds : List Entry) → parent_start (with ds) 2 ≡ pos 0 → begin_times (with ds) J m (img b d id) ≡ pos b ∷ []
  begins J m ds p = ap (λ s. rising (numbers (within_horizon (s +ℤ pos b) ∷ []))) p ∙ ap (λ t. rising (numbers (t ∷ []))) (small b (0 + b) (omega arith) (omega arith))

  lasts : active_duration (bounds_of (img b d id).attrs) (time.At (pos d)) ≡ time.At (pos d)
  lasts =
      let more : leb d 0 ≡ false = lt-leb d 0 long in
      let from_0 : leb 0 d ≡ true = le-leb 0 d (omega arith) in
      simp (more, from_0)

  last_begin : least_time time.Unresolved (cond (ltb b b) (time.At (pos b)) time.Unresolved) ≡ time.Unresolved
  last_begin = ap (λ t. least_time time.Unresolved (cond t (time.At (pos b)) time.Unresolved)) (le-ltb b b (omega arith))

  ends_then : (J : ℕ → Option Interval) (m : ℤ) → interval_end (facts_of (with ds1) J m (img b d id)) (pos b ∷ []) [] (pos b) ≡ Some (time.At (pos whole))
  ends_then J m =
      ap (λ t. Some (least_time (later_time t (pos b)) (least_time time.Unresolved (cond (ltb b b) (time.At (pos b)) time.Unresolved)))) lasts
      ∙ ap (λ t. Some (least_time t (least_time time.Unresolved (cond (ltb b b) (time.At (pos b)) time.Unresolved)))) (small whole (d + b) (omega arith) fits)
      ∙ ap (λ t. Some (least_time (time.At (pos whole)) t)) last_begin

  pub image-1 : (J : ℕ → Option Interval) (m : ℤ) → interval_given (with ds1) J m (img b d id) ≡ Some of_image
  image-1 J m =
      ap (λ bs. interval_of (facts_of (with ds1) J m (img b d id)) bs []) (begins J m ds1 refl)
      ∙ first_from-accepts (facts_of (with ds1) J m (img b d id)) (interval_end (facts_of (with ds1) J m (img b d id)) (pos b ∷ []) [])
      None (pos b) [] (time.At (pos whole)) refl (ends_then J m) (rw positive)

  -- ---- the image plays

  own_at : (ds : List Entry) → none_paused ds ≡ true → (s m : ℕ) (v : ℤ) → run (with ds) s (pos m) +ℤ (v -ℤ outer (with ds) s (pos m)) ≡ v
  own_at ds free s m v =
      ap (λ a. a +ℤ (v -ℤ outer (with ds) s (pos m))) (own_all (with ds) free s m)
      ∙ ap (λ a. pos m +ℤ (v -ℤ a)) (parent_all (with ds) free s m)
      ∙ put_back (pos m) v

  image_play : ℤ → ℤ → ℤ → Option Interval
  image_play first start ahead =
      Some (record { begin = pos b; «end» = least_time (later_time (active_end (bounds_of (img b d id).attrs) (time.At (pos d)) first start 0) ahead) (least_time time.Unresolved (cond (ltb b b) (time.At (pos b)) time.Unresolved)) })

  lasts_from : active_end (bounds_of (img b d id).attrs) (time.At (pos d)) (pos b) (pos b) 0 ≡ time.At (pos whole)
  lasts_from =
      let more : leb d 0 ≡ false = lt-leb d 0 long in
      let same : d + b ≡ whole = omega arith in
      let here : b + 0 ≡ b = omega arith in
      let in_horizon : ltb 1_000_000_000_000 whole ≡ false = le-ltb 1_000_000_000_000 whole fits in
      let begins_in : ltb 1_000_000_000_000 b ≡ false = le-ltb 1_000_000_000_000 b (omega arith) in
      let later : leb b whole ≡ true = le-leb b whole (omega arith) in
      simp (more, same, here, in_horizon, begins_in, later)

  image_by : (first start ahead : ℤ) → first ≡ pos b → start ≡ pos b → ahead ≡ pos 0 → image_play first start ahead ≡ Some of_image
  unfolding image_play
  image_by first start ahead p q r =
      ap (λ f. image_play f start ahead) p ∙ ap (λ s. image_play (pos b) s ahead) q ∙ ap (λ a. image_play (pos b) (pos b) a) r
      ∙ ap (λ t. Some (record { begin = pos b; «end» = least_time (later_time t (pos 0)) (least_time time.Unresolved (cond (ltb b b) (time.At (pos b)) time.Unresolved)) })) lasts_from
      ∙ ap (λ t. Some (record { begin = pos b; «end» = least_time t (least_time time.Unresolved (cond (ltb b b) (time.At (pos b)) time.Unresolved)) })) (small whole (whole + 0) (omega arith) fits)
      ∙ ap (λ t. Some (record { begin = pos b; «end» = least_time (time.At (pos whole)) t })) last_begin

  pub image-2 : (J : ℕ → Option Interval) (m : ℕ) → interval_given (with ds2) J (pos m) (img b d id) ≡ Some of_image
  unfolding image_play
  image-2 J m =
      ap (λ bs. interval_of (facts_of (with ds2) J (pos m) (img b d id)) bs []) (begins J (pos m) ds2 refl)
      ∙ image_by (play_start (with ds2) 2) (iteration_start (with ds2) 2) (outer (with ds2) 2 (pos m) -ℤ run (with ds2) 2 (pos m)) (own_at ds2 refl 2 b (pos b)) (own_at ds2 refl 2 b (pos b))
      (ap (λ a. a -ℤ run (with ds2) 2 (pos m)) (parent_all (with ds2) refl 2 m) ∙ ap (λ a. pos m -ℤ a) (own_all (with ds2) refl 2 m) ∙ take_away (pos m))

  pub root-2 : (J : ℕ → Option Interval) (m : ℕ) → J 2 ≡ Some of_image → interval_given (with ds2) J (pos m) root ≡ Some of_root
  unfolding root_play
  root-2 J m p = root_by (simple_of (with ds2) J root) (pos m -ℤ run (with ds2) 1 (pos m)) (lasts_as J (J 2) refl p) (ap (λ a. pos m -ℤ a) (own_all (with ds2) refl 1 m) ∙ take_away (pos m))

  -- ---- the image is done

  after_it : after_end (pos b) (time.At (pos whole)) ≡ time.At (pos whole)
  after_it = ap (λ t. cond t (time.At (pos whole +ℤ pos 1)) (time.At (pos whole))) (and_right (leb b whole) (leb whole b) (lt-leb whole b (omega arith)))

  pub image-3 : (J : ℕ → Option Interval) (m : ℤ) → interval_given (with ds3) J m (img b d id) ≡ None
  image-3 J m =
      ap (λ bs. interval_of (facts_of (with ds3) J m (img b d id)) bs []) (begins J m ds3 refl)
      ∙ ap (λ from. next_from (interval_end (facts_of (with ds3) J m (img b d id)) (pos b ∷ []) []) from (pos b ∷ [])) after_it
      ∙ next_from-none (interval_end (facts_of (with ds3) J m (img b d id)) (pos b ∷ []) []) (time.At (pos whole)) (pos b) (lt-leb whole b (omega arith))

  gone : (J : ℕ → Option Interval) → J 2 ≡ None → container_duration Par Last (pos 0) (record { named = false; first = option_or (Some (time.At (pos whole))) (option_map (λ (i : Interval). i.«end») (J 2)); latest = option_or (option_map (λ (i : Interval). i.«end») (J 2)) (Some (time.At (pos whole))) } ∷ []) ≡ time.At (pos whole)
  gone J p =
      ap (λ j. container_duration Par Last (pos 0) (record { named = false; first = option_or (Some (time.At (pos whole))) (option_map (λ (i : Interval). i.«end») j); latest = option_or (option_map (λ (i : Interval). i.«end») j) (Some (time.At (pos whole))) } ∷ [])) p
      ∙ implicit_whole (Some (time.At (pos whole)))

  pub root-3 : (J : ℕ → Option Interval) (m : ℕ) → J 2 ≡ None → interval_given (with ds3) J (pos m) root ≡ Some of_root
  unfolding root_play
  root-3 J m p = root_by (simple_of (with ds3) J root) (pos m -ℤ run (with ds3) 1 (pos m)) (gone J p) (ap (λ a. pos m -ℤ a) (own_all (with ds3) refl 1 m) ∙ take_away (pos m))

  after_all : after_end (pos 0) (time.At (pos whole)) ≡ time.At (pos whole)
  after_all = ap (λ t. cond t (time.At (pos whole +ℤ pos 1)) (time.At (pos whole))) (and_right (leb 0 whole) (leb whole 0) positive)

  pub root-4 : (J : ℕ → Option Interval) (m : ℤ) → interval_given (with ds4) J m root ≡ None
  root-4 J m =
      ap (λ from. next_from (interval_end (facts_of (with ds4) J m root) (pos 0 ∷ []) []) from (pos 0 ∷ [])) after_all
      ∙ next_from-none (interval_end (facts_of (with ds4) J m root) (pos 0 ∷ []) []) (time.At (pos whole)) (pos 0) (lt-leb whole 0 (omega arith))

  -- ---- what comes first

  abbrev came : ℕ → ℕ → ℤ → ℕ → Change → DueChange
  came serial place moment class change = record {
    key = record { value = moment; class = class; position = place; serial = serial; repeat = is_repeating change };
    change = change;
  }

  two_keys : ℤ → ℕ → ℤ → ℕ → Change → Option DueChange
  two_keys m c n e due =
      first_coming (came 1 0 (m) (c) (ends (pos whole)) ∷ came 2 1 (n) (e) (due) ∷ [])

  moment_at : (ds : List Entry) → none_paused ds ≡ true → (m : ℕ) (v : ℤ) → to_document (with ds) 2 v (pos m) ≡ v
  moment_at ds free m v = ap (λ a. pos m +ℤ (v -ℤ a)) (parent_all (with ds) free 2 m) ∙ put_back (pos m) v

  begin_key_of : DueChange
  begin_key_of = came 2 1 (pos b) (2) (begins_at (pos b))

  least-1 : (m : ℕ) → first_coming (coming (with ds1) (pos m)) ≡ Some begin_key_of
  unfolding two_keys begin_key_of
  least-1 m =
      ap (λ o. first_coming ((coming_end (with ds1) (pos m) 0 root o ++ []) ++ (coming_begin (with ds1) (pos m) 1 (img b d id) (in_table (table (with ds1) (pos m) 2) 2) ++ [])))
      (root-1 (in_table (table (with ds1) (pos m) 1)) m (image-1 (in_table []) (pos m)))
      ∙ ap (λ o. first_coming ((coming_end (with ds1) (pos m) 0 root (Some of_root) ++ []) ++ (coming_begin (with ds1) (pos m) 1 (img b d id) o ++ [])))
      (image-1 (in_table (table (with ds1) (pos m) 1)) (pos m))
      ∙ ap (λ z. two_keys z (cond (ltb 0 whole) 1 3) (to_document (with ds1) 2 (pos b) (pos m)) 2 (begins_at (pos b))) (put_back (pos m) (pos whole))
      ∙ ap (λ z. two_keys (pos whole) (cond (ltb 0 whole) 1 3) z 2 (begins_at (pos b))) (moment_at ds1 refl m (pos b))
      ∙ ap (λ t. cond (t || (leb b whole && (ltb 2 (cond (ltb 0 whole) 1 3) || ((2 == cond (ltb 0 whole) 1 3) && ltb 1 0)))) (Some begin_key_of) (Some (came 1 0 (pos whole) (cond (ltb 0 whole) 1 3) (ends (pos whole))))) (lt-ltb b whole (omega arith))

  end_key_of : DueChange
  end_key_of = came 2 1 (pos whole) (1) (ends (pos whole))

  root_key_of : ℕ → DueChange
  root_key_of class = came 1 0 (pos whole) (class) (ends (pos whole))

  least-2 : (m : ℕ) → first_coming (coming (with ds2) (pos m)) ≡ Some end_key_of
  unfolding two_keys end_key_of
  least-2 m =
      ap (λ o. first_coming ((coming_end (with ds2) (pos m) 0 root o ++ []) ++ ((coming_end (with ds2) (pos m) 1 (img b d id) (in_table (table (with ds2) (pos m) 2) 2) ++ []) ++ [])))
      (root-2 (in_table (table (with ds2) (pos m) 1)) m (image-2 (in_table []) m))
      ∙ ap (λ o. first_coming ((coming_end (with ds2) (pos m) 0 root (Some of_root) ++ []) ++ ((coming_end (with ds2) (pos m) 1 (img b d id) o ++ []) ++ [])))
      (image-2 (in_table (table (with ds2) (pos m) 1)) m)
      ∙ ap (λ z. two_keys z (cond (ltb 0 whole) 1 3) (to_document (with ds2) 2 (pos whole) (pos m)) (cond (ltb b whole) 1 3) (ends (pos whole))) (put_back (pos m) (pos whole))
      ∙ ap (λ z. two_keys (pos whole) (cond (ltb 0 whole) 1 3) z (cond (ltb b whole) 1 3) (ends (pos whole))) (moment_at ds2 refl m (pos whole))
      ∙ ap (λ t. two_keys (pos whole) (cond t 1 3) (pos whole) (cond (ltb b whole) 1 3) (ends (pos whole))) (lt-ltb 0 whole (omega arith))
      ∙ ap (λ t. two_keys (pos whole) 1 (pos whole) (cond t 1 3) (ends (pos whole))) (lt-ltb b whole (omega arith))
      ∙ ap (λ t. cond (t || leb whole whole && true) (Some end_key_of) (Some (came 1 0 (pos whole) (1) (ends (pos whole))))) (le-ltb whole whole (omega arith))
      ∙ ap (λ t. cond (t && true) (Some end_key_of) (Some (came 1 0 (pos whole) (1) (ends (pos whole))))) (le-leb whole whole (omega arith))

  least-3 : (m : ℕ) → first_coming (coming (with ds3) (pos m)) ≡ Some (root_key_of (cond (ltb 0 whole) 1 3))
  unfolding root_key_of
  least-3 m =
      ap (λ o. first_coming ((coming_end (with ds3) (pos m) 0 root o ++ []) ++ (coming_begin (with ds3) (pos m) 1 (img b d id) (in_table (table (with ds3) (pos m) 2) 2) ++ [])))
      (root-3 (in_table (table (with ds3) (pos m) 1)) m (image-3 (in_table []) (pos m)))
      ∙ ap (λ o. first_coming ((coming_end (with ds3) (pos m) 0 root (Some of_root) ++ []) ++ (coming_begin (with ds3) (pos m) 1 (img b d id) o ++ [])))
      (image-3 (in_table (table (with ds3) (pos m) 1)) (pos m))
      ∙ ap (λ z. Some (came 1 0 (z) (cond (ltb 0 whole) 1 3) (ends (pos whole)))) (put_back (pos m) (pos whole))

  least-4 : (m : ℕ) → first_coming (coming (with ds4) (pos m)) ≡ None
  least-4 m =
      ap (λ o. first_coming (coming_begin (with ds4) (pos m) 0 root o ++ (coming_begin (with ds4) (pos m) 1 (img b d id) (in_table (table (with ds4) (pos m) 2) 2) ++ [])))
      (root-4 (in_table (table (with ds4) (pos m) 1)) (pos m))

  -- ---- the course

  module _ (last : ℕ) where
    abbrev course : Course
    course = record { nodes = image b d id; log = []; last = last }

    abbrev at : ℕ → List Entry → Progress
    at m ds = record { moment = m; heard = 0; diary = ds }

    starts : next_step course (at 0 []) ≡ Some (at 0 ds1)
    starts = refl

    quiet : (m : ℕ) (ds : List Entry) (k : DueChange) (due : ℕ) → first_coming (coming (with ds) (pos m)) ≡ Some k → k.key.value ≡ pos due → m < due → m < last → next_step course (at m ds) ≡ Some (at (suc m) ds)
    quiet m ds k due p q before more =
        ap (after_coming course (at m ds)) p
        ∙ ap (λ z. cond (int_le z (pos m)) (Some (record { moment = m; heard = 0; diary = ds ++ group (with ds) (pos m) k.key.serial k.change })) (after_quiet course (at m ds))) q
        ∙ ap (λ t. cond t (Some (record { moment = m; heard = 0; diary = ds ++ group (with ds) (pos m) k.key.serial k.change })) (after_quiet course (at m ds))) (lt-leb due m before)
        ∙ ap (λ t. cond t (Some (at (suc m) ds)) None) (lt-ltb m last more)

    happens : (m : ℕ) (ds : List Entry) (k : DueChange) (due : ℕ) → first_coming (coming (with ds) (pos m)) ≡ Some k → k.key.value ≡ pos due → due ≤ m → next_step course (at m ds) ≡ Some (at m (ds ++ group (with ds) (pos m) k.key.serial k.change))
    happens m ds k due p q now =
        ap (after_coming course (at m ds)) p
        ∙ ap (λ z. cond (int_le z (pos m)) (Some (record { moment = m; heard = 0; diary = ds ++ group (with ds) (pos m) k.key.serial k.change })) (after_quiet course (at m ds))) q
        ∙ ap (λ t. cond t (Some (record { moment = m; heard = 0; diary = ds ++ group (with ds) (pos m) k.key.serial k.change })) (after_quiet course (at m ds))) (le-leb due m now)

    halts : (ds : List Entry) (k : DueChange) (due : ℕ) → first_coming (coming (with ds) (pos last)) ≡ Some k → k.key.value ≡ pos due → last < due → next_step course (at last ds) ≡ None
    halts ds k due p q before =
        ap (after_coming course (at last ds)) p
        ∙ ap (λ z. cond (int_le z (pos last)) (Some (record { moment = last; heard = 0; diary = ds ++ group (with ds) (pos last) k.key.serial k.change })) (after_quiet course (at last ds))) q
        ∙ ap (λ t. cond t (Some (record { moment = last; heard = 0; diary = ds ++ group (with ds) (pos last) k.key.serial k.change })) (after_quiet course (at last ds))) (lt-leb due last before)
        ∙ ap (λ t. cond t (Some (at (suc last) ds)) None) (le-ltb last last (omega arith))

    quiet_end : (m : ℕ) → m < last → next_step course (at m ds4) ≡ Some (at (suc m) ds4)
    quiet_end m more = ap (after_coming course (at m ds4)) (least-4 m) ∙ ap (λ t. cond t (Some (at (suc m) ds4)) None) (lt-ltb m last more)

    halts_end : next_step course (at last ds4) ≡ None
    halts_end = ap (after_coming course (at last ds4)) (least-4 last) ∙ ap (λ t. cond t (Some (at (suc last) ds4)) None) (le-ltb last last (omega arith))

    one : (k : ℕ) (p q : Progress) → next_step course p ≡ Some q → after_steps course (suc k) p ≡ after_steps course k q
    one k p q e = ap (λ o. option_map_or (λ r. after_steps course k r) o p) e

    stop : (k : ℕ) (p : Progress) → next_step course p ≡ None → after_steps course k p ≡ p
    stop zero p e = refl
    stop (suc k) p e = ap (λ o. option_map_or (λ r. after_steps course k r) o p) e

    wait : (ds : List Entry) (bound : ℕ) → ((m : ℕ) → m < bound → next_step course (at m ds) ≡ Some (at (suc m) ds)) → (j m f : ℕ) → m + j ≤ bound → after_steps course (j + f) (at m ds) ≡ after_steps course f (at (m + j) ds)
    wait ds bound goes zero m f le = ap (λ k. after_steps course k (at m ds)) (zero-add f) ∙ ap (λ i. after_steps course f (at i ds)) (sym (add-zero m))
    wait ds bound goes (suc j) m f le =
        let more : suc j + f ≡ suc (j + f) = omega arith in
        let there : suc m + j ≡ m + suc j = omega arith in
        ap (λ k. after_steps course k (at m ds)) more
        ∙ one (j + f) (at m ds) (at (suc m) ds) (goes m (omega (arith, le)))
        ∙ wait ds bound goes j (suc m) f (omega (arith, le))
        ∙ ap (λ i. after_steps course f (at i ds)) there

    -- before the image begins
    pub early : last < b → resolved course ≡ at last ds1
    unfolding begin_key_of
    early le =
        let turned : 1_000_000 + last ≡ last + 1_000_000 = omega arith in
        let here : 0 + last ≡ last = omega arith in
        one (1_000_000 + last) (at 0 []) (at 0 ds1) starts
        ∙ ap (λ k. after_steps course k (at 0 ds1)) turned
        ∙ wait ds1 last (λ m more. quiet m ds1 begin_key_of b (least-1 m) refl (omega (arith, le, more)) more) last 0 1_000_000 (omega arith)
        ∙ ap (λ i. after_steps course 1_000_000 (at i ds1)) here
        ∙ stop 1_000_000 (at last ds1) (halts ds1 begin_key_of b (least-1 last) refl le)

    -- up to the begin of the image, with so many steps left
    to_begin : (f : ℕ) → b ≤ last → 1_000_000 + last ≡ b + suc f → resolved course ≡ after_steps course f (at b ds2)
    unfolding begin_key_of
    to_begin f le steps =
        let here : 0 + b ≡ b = omega arith in
        one (1_000_000 + last) (at 0 []) (at 0 ds1) starts
        ∙ ap (λ k. after_steps course k (at 0 ds1)) steps
        ∙ wait ds1 b (λ m more. quiet m ds1 begin_key_of b (least-1 m) refl more (omega (arith, le, more))) b 0 (suc f) (omega arith)
        ∙ ap (λ i. after_steps course (suc f) (at i ds1)) here
        ∙ one f (at b ds1) (at b ds2) (happens b ds1 begin_key_of b (least-1 b) refl (omega arith))

    -- while the image plays
    pub during : b ≤ last → last < whole → resolved course ≡ at last ds2
    unfolding end_key_of
    during le lt =
        let here : b + (last - b) ≡ last = omega (arith, le) in
        to_begin ((last - b) + 999_999) le (omega (arith, le))
        ∙ wait ds2 last (λ m more. quiet m ds2 end_key_of whole (least-2 m) refl (omega (arith, lt, more)) more) (last - b) b 999_999 (omega (arith, le))
        ∙ ap (λ i. after_steps course 999_999 (at i ds2)) here
        ∙ stop 999_999 (at last ds2) (halts ds2 end_key_of whole (least-2 last) refl lt)

    -- after the end of both
    pub after : whole ≤ last → resolved course ≡ at last ds4
    unfolding end_key_of root_key_of
    after le =
        let here : whole + (last - whole) ≡ last = omega (arith, le) in
        to_begin (d + suc (suc ((last - whole) + 999_997))) (omega (arith, le)) (omega (arith, le))
        ∙ wait ds2 whole (λ m more. quiet m ds2 end_key_of whole (least-2 m) refl more (omega (arith, le, more))) d b (suc (suc ((last - whole) + 999_997))) (omega arith)
        ∙ one (suc ((last - whole) + 999_997)) (at whole ds2) (at whole ds3) (happens whole ds2 end_key_of whole (least-2 whole) refl (omega arith))
        ∙ one ((last - whole) + 999_997) (at whole ds3) (at whole ds4) (happens whole ds3 (root_key_of (cond (ltb 0 whole) 1 3)) whole (least-3 whole) refl (omega arith))
        ∙ wait ds4 last quiet_end (last - whole) whole 999_997 (omega (arith, le))
        ∙ ap (λ i. after_steps course 999_997 (at i ds4)) here
        ∙ stop 999_997 (at last ds4) halts_end
