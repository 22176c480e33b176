-- A group has an entry, and none behind a begin or a repeat.
use Rattle.std.proofs.Common.{◌≡◌, refl, sym, ◌∙◌, ap, ℕ, ◌<◌, ℤ, List, [], ◌∷◌, ◌++◌, length, Option, Some, None, Bool, true, false, arith}
use Rattle.std.specs.Prelude.{cond, ◌&&◌, map, reverse, filter}
use Rattle.std.specs.List.{AllByRecursion}
use Rattle.smil_model.specs.declared.diary.Entry.{Entry}
use Rattle.smil_model.specs.declared.diary.Step.{Step}
use Rattle.smil_model.specs.declared.diary.Step.TheVariants.{Began, Repeated, Ended, Cut, Paused, Resumed, Deferred, Passed}
use Rattle.smil_model.specs.declared.document.Act.{Act}
use Rattle.smil_model.specs.declared.document.Act.TheVariants.{Stop, Pause, Defer, Never}
use Rattle.smil_model.specs.declared.document.Node.{Node}
use Rattle.smil_model.specs.document.Document.{has_serial, descendants, is_excl_kind, time_parent}
use Rattle.smil_model.specs.diary.Diary.{History, is_active, is_paused}
use Rattle.smil_model.specs.diary.Clocks.{outer}
use Rattle.smil_model.specs.happening.Queue.{playing_child, queue_of, decision}
use Rattle.smil_model.specs.happening.Keys.{Change, begins, ends, repeats}
use Rattle.smil_model.specs.happening.Groups.{cuts, follower, followers, interruption, begin_beside, begin_under, steps_of, at_moment, group}
use Rattle.smil_laws.specs.Resolved.{is_opening}

-- ---- an entry

filled : (m : ℤ) (xs : List Step) (y : Step) (ys : List Step) → 0 < length (at_moment m (xs ++ y ∷ ys))
filled m [] y ys = omega arith
filled m (x ∷ xs) y ys = omega arith

-- a list that is not empty, by a test
filled_either : (m : ℤ) (t : Bool) (xs ys : List Step) → 0 < length (at_moment m xs) → 0 < length (at_moment m ys) → 0 < length (at_moment m (cond t xs ys))
filled_either m true xs ys a b = a
filled_either m false xs ys a b = b

-- ---- the last entry

-- steps of which none follows a begin or a repeat
abbrev Closes : List Step → Type 0
Closes [] = Unit {0}
Closes (x ∷ xs) = (is_opening x ≡ true → xs ≡ []) × Closes xs

abbrev ClosesAt : List Entry → Type 0
ClosesAt [] = Unit {0}
ClosesAt (x ∷ xs) = (is_opening x.step ≡ true → xs ≡ []) × ClosesAt xs

closes_at : (m : ℤ) (steps : List Step) → Closes steps → ClosesAt (at_moment m steps)
closes_at m [] c = tt
closes_at m (x ∷ xs) c = (λ t. ap (at_moment m) (c.0 t), closes_at m xs c.1)

last_opening : (xs before : List Entry) (x : Entry) (after : List Entry) → ClosesAt xs → xs ≡ before ++ x ∷ after → is_opening x.step ≡ true → after ≡ []
last_opening [] [] x after c e t = cc
last_opening [] (y ∷ ys) x after c e t = cc
last_opening (z ∷ zs) [] x after c e t =
    let here : z ≡ x = cc in
    let rest : zs ≡ after = cc in
    sym rest ∙ c.0 (ap (λ (y : Entry). is_opening y.step) here ∙ t)
last_opening (z ∷ zs) (y ∷ ys) x after c e t = let rest : zs ≡ ys ++ x ∷ after = cc in last_opening zs ys x after c.1 rest t

closes_behind : (xs ys : List Step) → AllByRecursion (λ (x : Step). is_opening x ≡ false) xs → Closes ys → Closes (xs ++ ys)
closes_behind [] ys no_attrs c = c
closes_behind (x ∷ xs) ys no_attrs c = (λ t. let never : false ≡ true = sym no_attrs.0 ∙ t in cc, closes_behind xs ys no_attrs.1 c)

closes_one : (x : Step) → Closes (x ∷ [])
closes_one x = (λ t. refl, tt)

closes_either : (t : Bool) (xs ys : List Step) → Closes xs → Closes ys → Closes (cond t xs ys)
closes_either true xs ys a b = a
closes_either false xs ys a b = b

cuts_plain : (ns : List Node) → AllByRecursion (λ (x : Step). is_opening x ≡ false) (map (λ (n : Node). Cut n.serial) ns)
cuts_plain [] = tt
cuts_plain (n ∷ ns) = (refl, cuts_plain ns)

module _ (h : History) (m : ℤ) where
  cut_plain : (s : ℕ) → AllByRecursion (λ (x : Step). is_opening x ≡ false) (cuts h s)
  cut_plain s = cuts_plain (reverse (filter (λ (n : Node). is_active h.diary n.serial) (descendants h.nodes s)))

  -- ---- begins

  interruption_filled : (s : ℕ) (value : ℤ) (x : ℕ) (act : Act) → 0 < length (at_moment m (interruption h m s value x act))
  interruption_filled s value x Stop = filled m (cuts h x) (Ended x (outer h x m)) (Began s value ∷ [])
  interruption_filled s value x Pause = omega arith
  interruption_filled s value x Defer = omega arith
  interruption_filled s value x Never = omega arith

  interruption_closes : (s : ℕ) (value : ℤ) (x : ℕ) (act : Act) → Closes (interruption h m s value x act)
  interruption_closes s value x Stop =
      closes_behind (cuts h x) (Ended x (outer h x m) ∷ Began s value ∷ []) (cut_plain x)
      (closes_behind (Ended x (outer h x m) ∷ []) (Began s value ∷ []) (refl, tt) (closes_one (Began s value)))
  interruption_closes s value x Pause = closes_behind (Paused x ∷ []) (Began s value ∷ []) (refl, tt) (closes_one (Began s value))
  interruption_closes s value x Defer = closes_one (Deferred s value)
  interruption_closes s value x Never = closes_one (Passed s value)

  beside_filled : (s : ℕ) (value : ℤ) (o : Option Node) → 0 < length (at_moment m (begin_beside h m s value o))
  beside_filled s value None = omega arith
  beside_filled s value (Some c) = interruption_filled s value c.serial (decision h.nodes c.serial s)

  beside_closes : (s : ℕ) (value : ℤ) (o : Option Node) → Closes (begin_beside h m s value o)
  beside_closes s value None = closes_one (Began s value)
  beside_closes s value (Some c) = interruption_closes s value c.serial (decision h.nodes c.serial s)

  begin_filled : (s : ℕ) (value : ℤ) (o : Option Node) → 0 < length (at_moment m (begin_under h m s value o))
  begin_filled s value None = omega arith
  begin_filled s value (Some p) =
      filled_either m (is_excl_kind p.kind) (begin_beside h m s value (playing_child h p.serial)) (Began s value ∷ []) (beside_filled s value (playing_child h p.serial)) (omega arith)

  begin_closes : (s : ℕ) (value : ℤ) (o : Option Node) → Closes (begin_under h m s value o)
  begin_closes s value None = closes_one (Began s value)
  begin_closes s value (Some p) =
      closes_either (is_excl_kind p.kind) (begin_beside h m s value (playing_child h p.serial)) (Began s value ∷ []) (beside_closes s value (playing_child h p.serial)) (closes_one (Began s value))

  -- ---- ends

  follower_closes : (queue : List ℕ) → Closes (follower h m queue)
  follower_closes [] = tt
  follower_closes (x ∷ xs) =
      closes_either (is_paused h.diary x) (Resumed x ∷ []) (Began x (outer h x m) ∷ []) (closes_one (Resumed x)) (closes_one (Began x (outer h x m)))

  followers_close : (s : ℕ) (o : Option Node) → Closes (followers h m s o)
  followers_close s None = tt
  followers_close s (Some p) =
      closes_either (is_excl_kind p.kind && has_serial s (playing_child h p.serial)) (follower h m (queue_of h p.serial)) [] (follower_closes (queue_of h p.serial)) tt

  -- ---- groups

  pub group_filled : (s : ℕ) (change : Change) → 0 < length (group h m s change)
  group_filled s (begins value) = begin_filled s value (time_parent h.nodes s)
  group_filled s (ends value) = filled m (cuts h s) (Ended s value) (followers h m s (time_parent h.nodes s))
  group_filled s (repeats start) = filled m (cuts h s) (Repeated s start) []

  steps_close : (s : ℕ) (change : Change) → Closes (steps_of h m s change)
  steps_close s (begins value) = begin_closes s value (time_parent h.nodes s)
  steps_close s (ends value) =
      closes_behind (cuts h s) (Ended s value ∷ followers h m s (time_parent h.nodes s)) (cut_plain s)
      (closes_behind (Ended s value ∷ []) (followers h m s (time_parent h.nodes s)) (refl, tt) (followers_close s (time_parent h.nodes s)))
  steps_close s (repeats start) = closes_behind (cuts h s) (Repeated s start ∷ []) (cut_plain s) (closes_one (Repeated s start))

  pub group_closes : (s : ℕ) (change : Change) (before : List Entry) (x : Entry) (after : List Entry) → group h m s change ≡ before ++ x ∷ after → is_opening x.step ≡ true → after ≡ []
  group_closes s change before x after = last_opening (group h m s change) before x after (closes_at m (steps_of h m s change) (steps_close s change))
