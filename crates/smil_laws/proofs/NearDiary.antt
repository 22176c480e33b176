-- The numbers of a resolved diary are near: each is that of what came, or of a clock at a moment of the course.
use Rattle.std.proofs.Common.{ℕ, suc, zero, ◌≤◌, ◌+◌, List, [], ◌∷◌, Option, Some, None, ℤ, Bool, true, false, arith}
use Rattle.std.specs.Prelude.{pos, ◌≤ℤ◌, ◌&&◌, cond, map, filter, reverse}
use Rattle.std.specs.List.{AllByRecursion}
use Rattle.std.proofs.lemmas.Bool.{ltb-true}
use Rattle.std.proofs.lemmas.Int.{ints}
use Rattle.smil_model.specs.declared.times.TheConstants.{HORIZON}
use Rattle.smil_model.specs.declared.diary.Entry.{Entry}
use Rattle.smil_model.specs.declared.diary.Step.{Step}
use Rattle.smil_model.specs.declared.diary.Step.TheVariants.{Began, Repeated, Ended, Cut, Resumed, Logged}
use Rattle.smil_model.specs.declared.document.Act.{Act}
use Rattle.smil_model.specs.declared.document.Act.TheVariants.{Stop, Pause, Defer, Never}
use Rattle.smil_model.specs.declared.document.Node.{Node}
use Rattle.smil_model.specs.document.Document.{time_parent, descendants, is_excl_kind, has_serial}
use Rattle.smil_model.specs.diary.Diary.{History, is_active, is_paused}
use Rattle.smil_model.specs.diary.Clocks.{elapsed, stands_by, until, outer_under, outer}
use Rattle.smil_model.specs.happening.Queue.{playing_child, queue_of, decision}
use Rattle.smil_model.specs.happening.Keys.{Change, begins, ends, repeats}
use Rattle.smil_model.specs.happening.Groups.{cuts, follower, followers, interruption, begin_beside, begin_under, steps_of, group}
use Rattle.smil_model.specs.happening.Resolution.{Course, Progress, outset, history_at, after_steps}
use Rattle.smil_laws.specs.Agreement.{course_on}
use Rattle.smil_laws.proofs.AsideDocuments.{each_append}
use Rattle.smil_laws.proofs.AsideGroups.{each_map}
use Rattle.smil_laws.proofs.ResolvedSteps.{Keeps, steps_keep}
use Rattle.smil_model.specs.Times.{IsNear}
use Rattle.smil_laws.specs.Near.{AllNear, HasNear, ResolvedIsNear, value_in}
use Rattle.smil_laws.proofs.NearComing.{coming_is_near}

-- ---- clocks

near_pos : (n m : ℕ) → n ≤ m → pos m ≤ℤ HORIZON → IsNear (pos n)
near_pos n m l near = record { low = grind (arith, ints); high = grind (arith, ints) }

pub elapsed_within : (h : History) (s m : ℕ) → elapsed h s m ≤ m
elapsed_within h s zero = omega arith
elapsed_within h s (suc m) = step (stands_by h.nodes (until (pos m) h.diary) s) (elapsed_within h s m)
  where
    step : (b : Bool) → elapsed h s m ≤ m → elapsed h s m + cond b 0 1 ≤ suc m
    step true l = omega (arith, l)
    step false l = omega (arith, l)

-- ---- a group

module _ (h : History) (m : ℕ) (near : pos m ≤ℤ HORIZON) where
  under_near : (o : Option Node) → IsNear (outer_under h o (pos m))
  under_near None = near_pos m m (omega arith) near
  under_near (Some p) = near_pos (elapsed h p.serial m) m (elapsed_within h p.serial m) near

  outer_near : (s : ℕ) → IsNear (outer h s (pos m))
  outer_near s = under_near (time_parent h.nodes s)

  abbrev StepsNear : List Step → Type 0
  StepsNear steps = AllByRecursion HasNear steps

  either : (t : Bool) (a b : List Step) → StepsNear a → StepsNear b → StepsNear (cond t a b)
  either true a b x y = x
  either false a b x y = y

  cuts_near : (s : ℕ) → StepsNear (cuts h s)
  cuts_near s = go (reverse (filter (λ (n : Node). is_active h.diary n.serial) (descendants h.nodes s)))
    where
      go : (ns : List Node) → StepsNear (map (λ (n : Node). Cut n.serial) ns)
      go [] = tt
      go (x ∷ xs) = (tt, go xs)

  follower_near : (queue : List ℕ) → StepsNear (follower h (pos m) queue)
  follower_near [] = tt
  follower_near (x ∷ xs) = either (is_paused h.diary x) (Resumed x ∷ []) (Began x (outer h x (pos m)) ∷ []) (tt, tt) (outer_near x, tt)

  followers_near : (s : ℕ) (o : Option Node) → StepsNear (followers h (pos m) s o)
  followers_near s None = tt
  followers_near s (Some p) =
      either (is_excl_kind p.kind && has_serial s (playing_child h p.serial)) (follower h (pos m) (queue_of h p.serial)) []
      (follower_near (queue_of h p.serial)) tt

  interruption_near : (s : ℕ) (value : ℤ) (x : ℕ) (act : Act) → IsNear value → StepsNear (interruption h (pos m) s value x act)
  interruption_near s value x Stop n = each_append HasNear (cuts h x) (Ended x (outer h x (pos m)) ∷ Began s value ∷ []) (cuts_near x) (outer_near x, (n, tt))
  interruption_near s value x Pause n = (tt, (n, tt))
  interruption_near s value x Defer n = (n, tt)
  interruption_near s value x Never n = (n, tt)

  beside_near : (s : ℕ) (value : ℤ) (o : Option Node) → IsNear value → StepsNear (begin_beside h (pos m) s value o)
  beside_near s value None n = (n, tt)
  beside_near s value (Some x) n = interruption_near s value x.serial (decision h.nodes x.serial s) n

  begin_near : (s : ℕ) (value : ℤ) (o : Option Node) → IsNear value → StepsNear (begin_under h (pos m) s value o)
  begin_near s value None n = (n, tt)
  begin_near s value (Some p) n =
      either (is_excl_kind p.kind) (begin_beside h (pos m) s value (playing_child h p.serial)) (Began s value ∷ [])
      (beside_near s value (playing_child h p.serial) n) (n, tt)

  steps_near : (s : ℕ) (change : Change) → IsNear (value_in change) → StepsNear (steps_of h (pos m) s change)
  steps_near s (begins value) n = begin_near s value (time_parent h.nodes s) n
  steps_near s (ends value) n =
      each_append HasNear (cuts h s) (Ended s value ∷ followers h (pos m) s (time_parent h.nodes s)) (cuts_near s) (n, followers_near s (time_parent h.nodes s))
  steps_near s (repeats start) n = each_append HasNear (cuts h s) (Repeated s start ∷ []) (cuts_near s) (n, tt)

  group_near : (s : ℕ) (change : Change) → IsNear (value_in change) → AllNear (group h (pos m) s change)
  group_near s change n =
      each_map HasNear (λ (x : Entry). HasNear x.step) (λ step. record { moment = pos m; step = step }) (steps_of h (pos m) s change) (steps_near s change n)
      (λ step q. q)

-- ---- the steps of the resolution

module _ (c : Course) (near : pos c.last ≤ℤ HORIZON) where
  record NearSoFar (p : Progress) : Type 0 where
    within : p.moment ≤ c.last
    numbers : AllNear p.diary

  keeps : Keeps c NearSoFar
  keeps = record {
    quiet = λ p held l. record { within = omega (arith, ltb-true p.moment c.last l); numbers = held.numbers };
    hears = λ p held. record {
      within = held.within;
      numbers = each_append (λ (x : Entry). HasNear x.step) p.diary (record { moment = pos p.moment; step = Logged p.heard } ∷ []) held.numbers (tt, tt);
    };
    happens = λ p next held f. record {
      within = held.within;
      numbers =
          each_append (λ (x : Entry). HasNear x.step) p.diary (group (history_at c p) (pos p.moment) next.key.serial next.change) held.numbers
          (group_near (history_at c p) p.moment ((near_pos p.moment c.last held.within near).high) next.key.serial next.change
          (coming_is_near (history_at c p) (pos p.moment) next held.numbers f));
    };
  }

  near_after : (k : ℕ) → AllNear (after_steps c k outset).diary
  near_after k = (steps_keep c NearSoFar keeps k outset (record { within = omega arith; numbers = tt })).numbers

pub resolved_near : ResolvedIsNear
resolved_near document log last steps near = near_after (course_on document.nodes log last) near steps
