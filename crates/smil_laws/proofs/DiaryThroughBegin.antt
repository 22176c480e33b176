-- The part of a diary through the first begin of an element is where a step of the resolution ends.
use Rattle.std.proofs.Common.{◌≡◌, refl, sym, ◌∙◌, ap, ℕ, suc, zero, ◌+◌, List, [], ◌∷◌, ◌++◌, Option, Some, None, ℤ, Bool, true, false, append_assoc}
use Rattle.std.specs.Prelude.{cond, pos, map, length, nat_le, ◌||◌, ◌&&◌, option_to_list, reverse, filter}
use Rattle.std.specs.List.{list_any}
use Rattle.std.specs.Option.{option_map_or}
use Rattle.std.proofs.lemmas.Bool.{or_parts}
use Rattle.std.proofs.lemmas.List.Folds.{list_any-append}
use Rattle.std.proofs.lemmas.List.{append-nil}
use Rattle.smil_model.specs.declared.diary.Entry.{Entry}
use Rattle.smil_model.specs.declared.diary.LogEntry.{LogEntry}
use Rattle.smil_model.specs.declared.diary.Step.{Step}
use Rattle.smil_model.specs.declared.diary.StepKind.TheVariants as kind
use Rattle.smil_model.specs.declared.limits.TheConstants.{DIARY_ENTRIES}
use Rattle.smil_model.specs.declared.diary.Step.TheVariants.{Began, Repeated, Ended, Cut, Paused, Resumed, Deferred, Passed}
use Rattle.smil_model.specs.declared.document.Act.{Act}
use Rattle.smil_model.specs.declared.document.Act.TheVariants.{Stop, Pause, Defer, Never}
use Rattle.smil_model.specs.declared.document.Node.{Node}
use Rattle.smil_model.specs.document.Document.{time_parent, is_excl_kind, descendants, has_serial}
use Rattle.smil_model.specs.diary.Diary.{History, is_paused, is_active, is_step}
use Rattle.smil_model.specs.diary.Clocks.{outer}
use Rattle.smil_model.specs.happening.Queue.{playing_child, queue_of, decision}
use Rattle.smil_model.specs.happening.Keys.{Change, begins, ends, repeats}
use Rattle.smil_model.specs.happening.Groups.{cuts, follower, followers, interruption, begin_beside, begin_under, steps_of, at_moment}
use Rattle.smil_model.specs.happening.Resolution.{Course, Progress, outset, history_at, next_step, after_steps, Reaches, resolved, diary_of}
use Rattle.smil_laws.specs.Agreement.{DifferBelow, SparesAll, course_on}
use Rattle.smil_model.specs.reach.Bounds.{has_begun, through_begin}
use Rattle.smil_laws.proofs.ResolutionsAgree.{next_extends, begun_before, next_same, next_spares, agrees_until_begun}

-- ---- a group begins an element with its last entry, or none

abbrev begins_any : ℕ → List Step → Bool
begins_any p steps = list_any (λ (step : Step). is_step kind.Began p step) steps

-- steps of which none but the last begins the element
record EndsSo (p : ℕ) (steps : List Step) : Type 0 where
  front : List Step
  final : Option Step
  whole : steps ≡ front ++ option_to_list final
  no_attrs : begins_any p front ≡ false

behind : (p : ℕ) (xs steps : List Step) → begins_any p xs ≡ false → EndsSo p steps → EndsSo p (xs ++ steps)
behind p xs steps q e = record {
  front = xs ++ e.front;
  final = e.final;
  whole = ap (λ ys. xs ++ ys) e.whole ∙ sym (append_assoc xs e.front (option_to_list e.final));
  no_attrs = list_any-append (λ (step : Step). is_step kind.Began p step) xs e.front ∙ ap (λ t. t || begins_any p e.front) q ∙ e.no_attrs;
}

alone : (p : ℕ) (step : Step) → EndsSo p (step ∷ [])
alone p step = record { front = []; final = Some step; whole = refl; no_attrs = refl }

none_so : (p : ℕ) → EndsSo p []
none_so p = record { front = []; final = None; whole = refl; no_attrs = refl }

either_so : (p : ℕ) (t : Bool) (a b : List Step) → EndsSo p a → EndsSo p b → EndsSo p (cond t a b)
either_so p true a b x y = x
either_so p false a b x y = y

module _ (p : ℕ) (h : History) (m : ℤ) where
  cut_plain : (ns : List Node) → begins_any p (map (λ (n : Node). Cut n.serial) ns) ≡ false
  cut_plain [] = refl
  cut_plain (n ∷ ns) = cut_plain ns

  cuts_plain : (s : ℕ) → begins_any p (cuts h s) ≡ false
  cuts_plain s = cut_plain (reverse (filter (λ (n : Node). is_active h.diary n.serial) (descendants h.nodes s)))

  follower_so : (queue : List ℕ) → EndsSo p (follower h m queue)
  follower_so [] = none_so p
  follower_so (x ∷ xs) = either_so p (is_paused h.diary x) (Resumed x ∷ []) (Began x (outer h x m) ∷ []) (alone p (Resumed x)) (alone p (Began x (outer h x m)))

  followers_so : (s : ℕ) (o : Option Node) → EndsSo p (followers h m s o)
  followers_so s None = none_so p
  followers_so s (Some q) = either_so p (is_excl_kind q.kind && has_serial s (playing_child h q.serial)) (follower h m (queue_of h q.serial)) [] (follower_so (queue_of h q.serial)) (none_so p)

  interruption_so : (s : ℕ) (value : ℤ) (x : ℕ) (act : Act) → EndsSo p (interruption h m s value x act)
  interruption_so s value x Stop =
      behind p (cuts h x) (Ended x (outer h x m) ∷ Began s value ∷ []) (cuts_plain x)
      (behind p (Ended x (outer h x m) ∷ []) (Began s value ∷ []) refl (alone p (Began s value)))
  interruption_so s value x Pause = behind p (Paused x ∷ []) (Began s value ∷ []) refl (alone p (Began s value))
  interruption_so s value x Defer = alone p (Deferred s value)
  interruption_so s value x Never = alone p (Passed s value)

  beside_so : (s : ℕ) (value : ℤ) (o : Option Node) → EndsSo p (begin_beside h m s value o)
  beside_so s value None = alone p (Began s value)
  beside_so s value (Some n) = interruption_so s value n.serial (decision h.nodes n.serial s)

  begin_so : (s : ℕ) (value : ℤ) (o : Option Node) → EndsSo p (begin_under h m s value o)
  begin_so s value None = alone p (Began s value)
  begin_so s value (Some q) = either_so p (is_excl_kind q.kind) (begin_beside h m s value (playing_child h q.serial)) (Began s value ∷ []) (beside_so s value (playing_child h q.serial)) (alone p (Began s value))

  steps_so : (s : ℕ) (due : Change) → EndsSo p (steps_of h m s due)
  steps_so s (begins value) = begin_so s value (time_parent h.nodes s)
  steps_so s (ends value) =
      behind p (cuts h s) (Ended s value ∷ followers h m s (time_parent h.nodes s)) (cuts_plain s)
      (behind p (Ended s value ∷ []) (followers h m s (time_parent h.nodes s)) refl (followers_so s (time_parent h.nodes s)))
  steps_so s (repeats start) = behind p (cuts h s) (Repeated s start ∷ []) (cuts_plain s) (alone p (Repeated s start))

-- ---- the part through the first begin

-- entries that begin the element with their last one, where they do
abbrev Closes : ℕ → List Entry → Type 0
Closes p added = has_begun added p ≡ true → (zs : List Entry) → through_begin p (added ++ zs) ≡ added

through_plain : (p : ℕ) (xs zs : List Entry) → has_begun xs p ≡ false → through_begin p (xs ++ zs) ≡ xs ++ through_begin p zs
through_plain p [] zs q = refl
through_plain p (x ∷ xs) zs q =
    let parts = or_parts (is_step kind.Began p x.step) (has_begun xs p) q in
    ap (λ t. cond t (x ∷ []) (x ∷ through_begin p (xs ++ zs))) parts.0 ∙ ap (λ ys. x ∷ ys) (through_plain p xs zs parts.1)

pub through_all : (p : ℕ) (xs : List Entry) → has_begun xs p ≡ false → through_begin p xs ≡ xs
through_all p xs q = ap (through_begin p) (sym (append-nil xs)) ∙ through_plain p xs [] q ∙ append-nil xs

begun_at : (p : ℕ) (m : ℤ) (steps : List Step) → has_begun (at_moment m steps) p ≡ begins_any p steps
begun_at p m [] = refl
begun_at p m (step ∷ steps) = ap (λ t. is_step kind.Began p step || t) (begun_at p m steps)

pub at_append : (m : ℤ) (xs ys : List Step) → at_moment m (xs ++ ys) ≡ at_moment m xs ++ at_moment m ys
at_append m [] ys = refl
at_append m (x ∷ xs) ys = ap (λ zs. record { moment = m; step = x } ∷ zs) (at_append m xs ys)

closes_final : (p : ℕ) (m : ℤ) (xs : List Entry) (o : Option Step) → has_begun xs p ≡ false → Closes p (xs ++ at_moment m (option_to_list o))
closes_final p m xs None q t zs =
    let never : false ≡ true = sym (ap (λ ys. has_begun ys p) (append-nil xs) ∙ q) ∙ t in cc
closes_final p m xs (Some step) q t zs =
    let here : is_step kind.Began p step ≡ true = last_one (is_step kind.Began p step) refl (sym (list_any-append (λ (x : Entry). is_step kind.Began p x.step) xs (record { moment = m; step = step } ∷ []) ∙ ap (λ b. b || (is_step kind.Began p step || false)) q) ∙ t) in
    ap (through_begin p) (append_assoc xs (record { moment = m; step = step } ∷ []) zs)
    ∙ through_plain p xs (record { moment = m; step = step } ∷ zs) q
    ∙ ap (λ b. xs ++ cond b (record { moment = m; step = step } ∷ []) (record { moment = m; step = step } ∷ through_begin p zs)) here
  where
    last_one : (b : Bool) → is_step kind.Began p step ≡ b → (b || false) ≡ true → is_step kind.Began p step ≡ true
    last_one true e r = e
    last_one false e r = cc

closes : (p : ℕ) (m : ℤ) (steps : List Step) → EndsSo p steps → Closes p (at_moment m steps)
closes p m steps e =
    rw (e.whole, at_append m e.front (option_to_list e.final)) (closes_final p m (at_moment m e.front) e.final (begun_at p m e.front ∙ e.no_attrs))

-- ---- steps from behind

-- the diary after more steps is the one before with entries appended
pub more_added : (c : Course) (k : ℕ) (q : Progress) → (added : List Entry) × ((after_steps c k q).diary ≡ q.diary ++ added)
more_added c zero q = ([], sym (append-nil q.diary))
more_added c (suc k) q = by_next (next_step c q) refl (more_added c k)
  where
    by_next : (o : Option Progress) → next_step c q ≡ o → ((r : Progress) → (added : List Entry) × ((after_steps c k r).diary ≡ r.diary ++ added)) → (added : List Entry) × ((option_map_or (λ r. after_steps c k r) o q).diary ≡ q.diary ++ added)
    by_next None e later = ([], sym (append-nil q.diary))
    by_next (Some r) e later =
        let one = next_extends (λ added. Unit {0}) c q tt tt (λ next d. tt) r e in
        let rest = later r in
        (one.0 ++ rest.0, rest.1 ∙ ap (λ ds. ds ++ rest.0) one.1 ∙ append_assoc q.diary one.0 rest.0)

begun_later : (c : Course) (p k : ℕ) (q : Progress) → has_begun (after_steps c (suc k) q).diary p ≡ false → has_begun (after_steps c k q).diary p ≡ false
begun_later c p zero q never = begun_before c p 1 q never
begun_later c p (suc k) q never = by_next (next_step c q) never (begun_later c p k)
  where
    by_next : (o : Option Progress) → has_begun (option_map_or (λ r. after_steps c (suc k) r) o q).diary p ≡ false → ((r : Progress) → has_begun (after_steps c (suc k) r).diary p ≡ false → has_begun (after_steps c k r).diary p ≡ false) → has_begun (option_map_or (λ r. after_steps c k r) o q).diary p ≡ false
    by_next None f later = f
    by_next (Some r) f later = later r f

module _ (aside : ℕ → Bool) (p : ℕ) (n1 n2 : List Node) (differ : DifferBelow aside p n1 n2) (log : List LogEntry) (last : ℕ) where
  abbrev c1 : Course
  c1 = course_on n1 log last

  abbrev c2 : Course
  c2 = course_on n2 log last

  reached : (k : ℕ) (q : Progress) → SparesAll aside q.diary → has_begun q.diary p ≡ false → (j : ℕ) × ((after_steps c2 j q).diary ≡ through_begin p (after_steps c1 k q).diary)
  reached zero q free never = (0, sym (through_all p q.diary never))
  reached (suc k) q free never = by_next (next_step c1 q) refl (reached k)
    where
      by_next : (o : Option Progress) → next_step c1 q ≡ o → ((r : Progress) → SparesAll aside r.diary → has_begun r.diary p ≡ false → (j : ℕ) × ((after_steps c2 j r).diary ≡ through_begin p (after_steps c1 k r).diary)) → (j : ℕ) × ((after_steps c2 j q).diary ≡ through_begin p (option_map_or (λ r. after_steps c1 k r) o q).diary)
      by_next None e later = (0, sym (through_all p q.diary never))
      by_next (Some r) e later = by_begun (has_begun r.diary p) refl
        where
          next2 : next_step c2 q ≡ Some r
          next2 = sym (next_same aside p n1 n2 differ log last q free never) ∙ e

          by_begun : (t : Bool) → has_begun r.diary p ≡ t → (j : ℕ) × ((after_steps c2 j q).diary ≡ through_begin p (after_steps c1 k r).diary)
          by_begun false f =
              let rest = later r (next_spares aside p n1 n2 differ log last q free never r e) f in
              (suc rest.0, ap (λ o. (option_map_or (λ r. after_steps c2 rest.0 r) o q).diary) next2 ∙ rest.1)
          by_begun true f =
              let one = next_extends (Closes p) c1 q (λ t zs. cc) (λ t zs. cc) (λ next d. closes p (pos q.moment) (steps_of (history_at c1 q) (pos q.moment) next.key.serial next.change) (steps_so p (history_at c1 q) (pos q.moment) next.key.serial next.change)) r e in
              let rest = more_added c1 k r in
              let begun : has_begun one.0 p ≡ true = sym (list_any-append (λ (x : Entry). is_step kind.Began p x.step) q.diary one.0 ∙ ap (λ b. b || has_begun one.0 p) never) ∙ sym (ap (λ ds. has_begun ds p) one.1) ∙ f in (
                1,
                ap (λ o. (option_map_or (λ r. r) o q).diary) next2
                    ∙ one.1
                    ∙ ap (λ ds. q.diary ++ ds) (sym (one.2 begun rest.0))
                    ∙ sym (through_plain p q.diary (one.0 ++ rest.0) never)
                    ∙ sym (ap (through_begin p) (rest.1 ∙ ap (λ ds. ds ++ rest.0) one.1 ∙ append_assoc q.diary one.0 rest.0)),
              )

  pub agrees_through_begin : (k : ℕ) → (r : Progress) × Reaches c2 r × (r.diary ≡ through_begin p (after_steps c1 k outset).diary)
  agrees_through_begin k =
      let found = reached k outset tt refl in (after_steps c2 found.0 outset, (found.0, refl), found.1)

  pub same_unless_begun : has_begun (resolved c1).diary p ≡ false → diary_of c1 ≡ diary_of c2
  same_unless_begun never =
      ap (λ (r : Progress). cond (nat_le (length r.diary) DIARY_ENTRIES) (Some r.diary) None)
      (agrees_until_begun aside p n1 n2 differ log last (DIARY_ENTRIES + last) (begun_later c1 p (DIARY_ENTRIES + last) outset never))
