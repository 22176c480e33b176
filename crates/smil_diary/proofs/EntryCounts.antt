-- The iteration of an element and its finished intervals, counted entry by entry.
use Rattle.std.proofs.Common.{◌≡◌, ℕ, suc, ◌+◌, ◌-◌, Bool, true, false, ◌==◌, List, [], ◌∷◌, drop, length, refl, ap, sym, ◌∙◌, arith, length-append}
use Rattle.std.specs.Prelude.{fold, nat_le, cond, if◌then◌else◌, Option, Some, None, is_some, option_map, unwrap_or, ℤ}
use Rattle.std.specs.List.{count_by}
use Rattle.std.proofs.lemmas.List.{drop-drop}
use Rattle.smil_model.specs.declared.diary.Entry.{Entry}
use Rattle.smil_model.specs.declared.diary.Step.{Step}
use Rattle.smil_model.specs.declared.diary.Step.TheVariants.{Began, Repeated, Ended, Cut}
use Rattle.smil_model.specs.declared.diary.StepKind.TheVariants as kind
use Rattle.smil_model.specs.declared.document.Node.{Node}
use Rattle.smil_model.specs.diary.Diary.{History, later_place, iteration_after, iteration_from, is_step, last_step}
use Rattle.smil_model.specs.diary.Plays.{Plays, PlayEdge, FinishedInterval, plays, play_after, is_birth_under, finish_with}
use Rattle.smil_model.specs.diary.Clocks.{outer}
use Rattle.smil_model.specs.document.Document.{time_parent, serial_of}
use Rattle.smil_diary.proofs.TestChoices.{chosen}
use Rattle.smil_diary.proofs.LastPlaces.{fold-fusion, last-drop, drop_place}
use Rattle.smil_diary.specs.declared.tally.Tally.{Tally}
use Rattle.smil_diary.specs.Readings.{IsOf}
use Rattle.smil_diary.specs.Tallies.{is_birth, tally_on, tally_after, tally_of}

-- ---- finished intervals

tallied : Plays → Tally
tallied so_far = record { playing = is_some so_far.present; finished = length so_far.finished }

plays_after : History → ℕ → Plays → Entry → Plays
plays_after h who so_far x =
    if is_birth_under (time_parent h.nodes who) x.step
    then record { present = so_far.present; finished = [] }
    else play_after h who x.moment so_far x.step

births-same : (node : Option Node) (step : Step) → is_birth_under node step ≡ is_birth (serial_of node) step
births-same None step = refl
births-same (Some p) step = refl

finish-counts : (present : Option PlayEdge) (finish : PlayEdge) (was_cut : Bool) (done : List FinishedInterval)
    → length (finish_with present finish was_cut done) ≡ (if is_some present then length done + 1 else length done)
finish-counts None finish was_cut done = refl
finish-counts (Some begin) finish was_cut done = grind (arith, length-append)

abbrev made : Bool → ℕ → Tally
made playing finished = record { playing = playing; finished = finished }

tally-on : (h : History) (who : ℕ) (moment : ℤ) (so_far : Plays) (step : Step) →
    tallied (play_after h who moment so_far step) ≡ tally_on who (tallied so_far) step
unfolding tallied
tally-on h who moment so_far (Began on begin) = chosen tallied (λ t. t) (on == who) _ _ _ _ refl refl
tally-on h who moment so_far (Ended on end') =
    chosen tallied (λ t. t) (on == who) _ _ _ _ (ap (λ n. made false n) (finish-counts so_far.present (record { value = end'; moment = moment }) false so_far.finished)) refl
tally-on h who moment so_far (Cut on) =
    chosen tallied (λ t. t) (on == who) _ _ _ _ (ap (λ n. made false n) (finish-counts so_far.present (record { value = outer h who moment; moment = moment }) true so_far.finished)) refl
tally-on h who moment so_far _ = refl

tally-step : (h : History) (who : ℕ) (so_far : Plays) (x : Entry) →
    tallied (plays_after h who so_far x) ≡ tally_after (serial_of (time_parent h.nodes who)) who (tallied so_far) x.step
unfolding tallied plays_after
tally-step h who so_far x =
    chosen tallied (λ t. t) (is_birth_under (time_parent h.nodes who) x.step) (record { present = so_far.present; finished = [] }) (play_after h who x.moment so_far x.step)
    (made (is_some so_far.present) 0) (tally_on who (tallied so_far) x.step) refl (tally-on h who x.moment so_far x.step)
    ∙ ap (λ b. if b then made (is_some so_far.present) 0 else tally_on who (tallied so_far) x.step)
    (births-same (time_parent h.nodes who) x.step)

no_plays : Plays
no_plays = record { present = None; finished = [] }

finished-tally : (h : History) (who : ℕ) →
    length (plays h who).finished
    ≡ (fold (λ t (x : Entry). tally_after (serial_of (time_parent h.nodes who)) who t x.step) (made false 0) h.diary).finished
unfolding tallied plays_after no_plays
finished-tally h who =
    ap (λ (t : Tally). t.finished)
    (fold-fusion tallied (plays_after h who)
    (λ t (x : Entry). tally_after (serial_of (time_parent h.nodes who)) who t x.step)
    (tally-step h who) no_plays h.diary)

pub finished-of : (h : History) (who : ℕ) (parent : Option ℕ) (diary : List Entry) → IsOf h diary who parent
    → (tally_of parent who diary).finished ≡ length (plays h who).finished
finished-of h who parent diary of =
    sym
    (finished-tally h who
    ∙ ap (λ p. (tally_of p who h.diary).finished) of.parent_is
    ∙ ap (λ xs. (tally_of parent who xs).finished) of.diary_is)

-- ---- a count, element by element

count-more : {A : Type 0} (test : A → Bool) (n : ℕ) (xs : List A) →
    fold (λ (a : ℕ) (x : A). a + cond (test x) 1 0) n xs ≡ n + count_by test xs
count-more test n [] = omega arith
count-more test n (x ∷ xs) =
    let here : ℕ = cond (test x) 1 0 in
    let one = count-more test (n + here) xs in
    let two = count-more test (0 + here) xs in
    omega (arith, one, two)

count-cons : {A : Type 0} (test : A → Bool) (x : A) (xs : List A) →
    count_by test (x ∷ xs) ≡ cond (test x) 1 0 + count_by test xs
count-cons test x xs =
    let here : ℕ = cond (test x) 1 0 in
    let none : 0 + here ≡ here = omega arith in
    count-more test (0 + here) xs ∙ ap (λ k. k + count_by test xs) none

-- ---- iterations

repeats_in : ℕ → List Entry → ℕ
repeats_in s xs = count_by (λ (x : Entry). is_step kind.Repeated s x.step) xs

-- the repeats from the last begin on, or those after the ones that were counted before
by_begin : ℕ → Option ℕ → Option ℕ → List Entry → Option ℕ
by_begin s before None xs = option_map (λ n. n + repeats_in s xs) before
by_begin s before (Some k) xs = Some (repeats_in s (drop k xs))

counted : Bool → ℕ → Option ℕ → Option ℕ
counted true total before = Some total
counted false total before = option_map (λ n. n + total) before

more : (before : Option ℕ) (n total : ℕ) → total ≡ 0 + n → option_map (λ m. m + n) before ≡ option_map (λ m. m + total) before
more before n total e = let same : n ≡ total = omega arith in ap (λ k. option_map (λ m. m + k) before) same

began-counts : (c : Bool) (before : Option ℕ) (n total : ℕ) → total ≡ 0 + n
    → option_map (λ m. m + n) (if c then Some 0 else before) ≡ counted c total before
unfolding counted
began-counts true before n total e = let same : 0 + n ≡ total = omega arith in ap (λ (k : ℕ). Some k) same
began-counts false before n total e = more before n total e

repeat-counts : (c : Bool) (before : Option ℕ) (n total : ℕ) → total ≡ cond c 1 0 + n
    → option_map (λ m. m + n) (if c then option_map suc before else before) ≡ option_map (λ m. m + total) before
repeat-counts true None n total e = refl
repeat-counts true (Some m) n total e = let same : suc m + n ≡ m + total = omega arith in ap (λ (k : ℕ). Some k) same
repeat-counts false before n total e = more before n total e

step-counts : (s : ℕ) (before : Option ℕ) (step : Step) (n total : ℕ)
    → total ≡ cond (is_step kind.Repeated s step) 1 0 + n
    → option_map (λ m. m + n) (iteration_after s before step) ≡ counted (is_step kind.Began s step) total before
unfolding counted
step-counts s before (Began on begin) n total e = began-counts (on == s) before n total e
step-counts s before (Repeated on start) n total e = repeat-counts (on == s) before n total e
step-counts s before _ n total e = more before n total e

counted-begin : (s : ℕ) (t : Bool) (before : Option ℕ) (xs : List Entry) →
    counted t (repeats_in s xs) before ≡ by_begin s before (later_place t None) xs
unfolding counted by_begin
counted-begin s true before xs = refl
counted-begin s false before xs = refl

cons-begin : (s : ℕ) (before : Option ℕ) (x : Entry) (xs : List Entry) (S : Option ℕ) →
    by_begin s (iteration_after s before x.step) S xs ≡ by_begin s before (later_place (is_step kind.Began s x.step) S) (x ∷ xs)
unfolding by_begin repeats_in
cons-begin s before x xs (Some k) = refl
cons-begin s before x xs None =
    step-counts s before x.step (repeats_in s xs) (repeats_in s (x ∷ xs)) (count-cons (λ (y : Entry). is_step kind.Repeated s y.step) x xs)
    ∙ counted-begin s (is_step kind.Began s x.step) before (x ∷ xs)

nothing-more : (before : Option ℕ) → before ≡ option_map (λ n. n + 0) before
nothing-more None = refl
nothing-more (Some n) = let same : n ≡ n + 0 = omega arith in ap (λ (k : ℕ). Some k) same

iterations-begin : (s : ℕ) (before : Option ℕ) (xs : List Entry) →
    fold (λ b (x : Entry). iteration_after s b x.step) before xs ≡ by_begin s before (last_step xs kind.Began s) xs
unfolding by_begin repeats_in
iterations-begin s before [] = nothing-more before
iterations-begin s before (x ∷ xs) =
    iterations-begin s (iteration_after s before x.step) xs ∙ cons-begin s before x xs (last_step xs kind.Began s)

abbrev pub iteration_at : ℕ → ℕ → Option ℕ → List Entry → ℕ
iteration_at s b None diary = 0
iteration_at s b (Some k) diary =
    if nat_le b k then count_by (λ (x : Entry). is_step kind.Repeated s x.step) (drop k diary) else 0

drop-twice : (a b k : ℕ) (xs : List Entry) → a + b ≡ k → drop a (drop b xs) ≡ drop k xs
drop-twice a b k xs e = let sum : b + a ≡ k = omega arith in drop-drop a b xs ∙ ap (λ n. drop n xs) sum

kept : (s b k : ℕ) (diary : List Entry) (is : Bool) → nat_le b k ≡ is →
    unwrap_or (by_begin s None (if is then Some (k - b) else None) (drop b diary)) 0
    ≡ (if is then count_by (λ (x : Entry). is_step kind.Repeated s x.step) (drop k diary) else 0)
unfolding by_begin repeats_in
kept s b k diary true within =
    let sum : (k - b) + b ≡ k = grind arith in
    ap (λ xs. count_by (λ (x : Entry). is_step kind.Repeated s x.step) xs) (drop-twice (k - b) b k diary sum)
kept s b k diary false below = refl

dropped : (s b : ℕ) (S : Option ℕ) (diary : List Entry) →
    unwrap_or (by_begin s None (drop_place b S) (drop b diary)) 0 ≡ iteration_at s b S diary
unfolding by_begin
dropped s b None diary = refl
dropped s b (Some k) diary = kept s b k diary (nat_le b k) refl

pub iteration-last : (s b : ℕ) (diary : List Entry) →
    unwrap_or (iteration_from s (drop b diary)) 0 ≡ iteration_at s b (last_step diary kind.Began s) diary
iteration-last s b diary =
    ap (λ o. unwrap_or o 0) (iterations-begin s None (drop b diary))
    ∙ ap (λ S. unwrap_or (by_begin s None S (drop b diary)) 0) (last-drop (λ (x : Entry). is_step kind.Began s x.step) b diary)
    ∙ dropped s b (last_step diary kind.Began s) diary

-- the repeats since the last begin
pub repeats-last : (s k : ℕ) (diary : List Entry) → Some k ≡ last_step diary kind.Began s →
    unwrap_or (iteration_from s diary) 0 ≡ count_by (λ (x : Entry). is_step kind.Repeated s x.step) (drop k diary)
unfolding by_begin repeats_in
repeats-last s k diary last =
    ap (λ o. unwrap_or o 0) (iterations-begin s None diary ∙ ap (λ S. by_begin s None S diary) (sym last))

pub repeats-none : (s : ℕ) (diary : List Entry) → last_step diary kind.Began s ≡ None → iteration_from s diary ≡ None
unfolding by_begin
repeats-none s diary none = iterations-begin s None diary ∙ ap (λ S. by_begin s None S diary) none
