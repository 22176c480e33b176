-- What a resolution has come to tells how far a diary agrees with all that it comes to.
use Rattle.std.proofs.Common.{◌≡◌, refl, sym, ◌∙◌, ap, subst, ℕ, zero, suc, ◌+◌, ◌<◌, ◌≤◌, List, [], ◌∷◌, ◌++◌, Option, Some, None, arith, inl, inr, length, append_assoc, append-nil, length-append, take, Bool, true, false}
use Rattle.std.specs.Prelude.{◌⊎◌, ◌&&◌, cond, nat_abs, nat_le, ℤ, pos, ◌≤ℤ◌, min}
use Rattle.std.proofs.lemmas.List.{length-take, take_all}
use Rattle.smil_model.specs.document.Document.{Document}
use Rattle.std.proofs.lemmas.Bool.Decides.{nat_tests}
use Rattle.smil_model.specs.declared.diary.LogEntry.{LogEntry}
use Rattle.smil_model.specs.declared.document.Node.{Node}
use Rattle.smil_laws.specs.Agreement.{course_on}
use Rattle.smil_laws.specs.Cut.{logged}
use Rattle.std.specs.Option.{option_map_or}
use Rattle.smil_model.specs.declared.diary.Entry.{Entry}
use Rattle.smil_model.specs.declared.diary.Step.TheVariants.{Logged}
use Rattle.smil_model.specs.happening.Groups.{group}
use Rattle.smil_model.specs.happening.Resolution.{Course, Progress, Reaches, outset, history_at, next_step, after_steps}
use Rattle.smil_laws.proofs.ResolutionEnds.{comes, ended_there, extent, ordered, stays, then}
use Rattle.smil_laws.proofs.OneStep.{Steps, steps_so}
use Rattle.smil_rounds.proofs.MomentEntries.{positive}
use Rattle.smil_audit.specs.Entries.{agreed}
use Rattle.smil_audit.specs.Verdict.{entries_past, first_wrong, first_wrong_by, placed, wrong_after, wrong_by}
use Rattle.smil_audit.specs.Replayed.{AgreesBy, Replayed, begun, course_of, place_after}
use Rattle.smil_audit.proofs.AgreeingFronts.{agree_longer, agree_shorter, all_agree, within_first}

-- ---- a diary only grows

abbrev Grows : List Entry → List Entry → Type 0
Grows xs ys = (more : List Entry) × (ys ≡ xs ++ more)

step_grows : (c : Course) (q r : Progress) → next_step c q ≡ Some r → Grows q.diary r.diary
step_grows c q r e = by_step (steps_so c q r e)
  where
    by_step : Steps c q r → Grows q.diary r.diary
    by_step (inl p) = ([], sym (ap (λ (x : Progress). x.diary) p.is) ∙ sym (append-nil q.diary))
    by_step (inr (inl h)) = (record { moment = pos q.moment; step = Logged q.heard } ∷ [], sym (ap (λ (x : Progress). x.diary) h.is))
    by_step (inr (inr h)) = (group (history_at c q) (pos q.moment) h.next.key.serial h.next.change, sym (ap (λ (x : Progress). x.diary) h.is))

grows : (c : Course) (k : ℕ) (q : Progress) → Grows q.diary (after_steps c k q).diary
grows c zero q = ([], sym (append-nil q.diary))
grows c (suc k) q = by_next (next_step c q) refl (grows c k)
  where
    by_next : (o : Option Progress) → next_step c q ≡ o → ((r : Progress) → Grows r.diary (after_steps c k r).diary) → Grows q.diary (option_map_or (λ r. after_steps c k r) o q).diary
    by_next None e rest = ([], sym (append-nil q.diary))
    by_next (Some r) e rest =
        let one = step_grows c q r e in
        let more = rest r in
        (one.0 ++ more.0, more.1 ∙ ap (λ (xs : List Entry). xs ++ more.0) one.1 ∙ append_assoc q.diary one.0 more.0)

-- ---- what all comes to

module _ (c : Course) (p : Progress) (reached : Reaches c p) (front : List Entry) where
  abbrev all : ℕ
  all = suc (length front + c.last)

  abbrev last : Progress
  last = after_steps c all outset

  abbrev made : List Entry
  made = entries_past (length front) c

  -- where more steps were made than are asked for, the diary has gone on from what these come to
  from_there : (j : ℕ) → reached.0 + j ≡ all → last ≡ after_steps c j p
  from_there j e = ap (λ n. after_steps c n outset) (sym e) ∙ then c reached.0 j outset ∙ ap (after_steps c j) reached.1

  to_there : (j : ℕ) → all + j ≡ reached.0 → p ≡ after_steps c j last
  to_there j e = sym reached.1 ∙ ap (λ n. after_steps c n outset) (sym e) ∙ then c all j outset

  -- a resolution that has ended has made all that is made
  pub ended : next_step c p ≡ None → length p.diary ≤ length front → made ≡ p.diary
  ended e few = ap (λ (x : Progress). x.diary) (ended_there c p (length front) all (omega arith) reached.0 reached.1 e few)

  -- one that has come to an entry that disagrees, or to one more, tells how far all agrees
  pub record Tells : Type 0 where
    pub same : agreed front made ≡ agreed front p.diary
    pub more : agreed front made < length made

  pub decided : agreed front p.diary < length p.diary → Tells
  decided less = by_order (ordered reached.0 all)
    where
      longer_by : (more : List Entry) → made ≡ p.diary ++ more → Tells
      longer_by more e =
          let as_many : agreed front made ≡ agreed front p.diary = ap (agreed front) e ∙ agree_longer front p.diary more less in
          let len = ap (λ (xs : List Entry). length xs) e ∙ length-append p.diary more in
          record { same = as_many; more = omega (arith, as_many, len, less) }

      shorter_by : (more : List Entry) → p.diary ≡ made ++ more → length front < length made → Tells
      shorter_by more e long =
          let few = within_first front (made ++ more) in
          let as_many : agreed front made ≡ agreed front (made ++ more) = agree_shorter front made more (omega (arith, few, long)) in
          record { same = as_many ∙ ap (agreed front) (sym e); more = omega (arith, as_many, few, long) }

      by_far : (j : ℕ) → all + j ≡ reached.0 → (next_step c last ≡ None) ⊎ (all + extent outset ≤ extent last) → Tells
      by_far j there (inl early) =
          let one : made ≡ p.diary = ap (λ (x : Progress). x.diary) (sym (stays c j last early) ∙ sym (to_there j there)) in
          longer_by [] (one ∙ sym (append-nil p.diary))
      by_far j there (inr far) =
          let bound = (comes c all outset).within (omega arith) in
          let rest = grows c j last in
          shorter_by rest.0 (ap (λ (x : Progress). x.diary) (to_there j there) ∙ rest.1) (omega (arith, far, bound))

      by_order : ((j : ℕ) × (reached.0 + j ≡ all)) ⊎ ((j : ℕ) × (all + j ≡ reached.0)) → Tells
      by_order (inl (j, there)) = let rest = grows c j p in longer_by rest.0 (ap (λ (x : Progress). x.diary) (from_there j there) ∙ rest.1)
      by_order (inr (j, there)) = by_far j there (comes c all outset).far

-- ---- the place

test_false : (a b : ℕ) → b < a → nat_le a b ≡ false
test_false a b less = grind (arith, nat_tests)

-- what a resolution made anew tells of the entries before the first log entry that is out of its place is the verdict
pub placed_by : (nodes : List Node) (log : List LogEntry) (entries front : List Entry) (last : ℕ) (r : Replayed) (same : ℕ) (has_ended : Bool)
    → course_of r ≡ course_on nodes (take (logged front) log) last → length front ≤ length entries
    → AgreesBy r front same has_ended → first_wrong_by nodes log entries last front ≡ place_after has_ended same (length entries)
placed_by nodes log entries front last r same true course few ends =
    let reached = subst (λ (c : Course). Reaches c ends.at) course ends.reached in
    let over = subst (λ (c : Course). next_step c ends.at ≡ None) course ends.ended in
    let within : length ends.at.diary ≤ length front = within_front front ends.at.diary ends.follows in
    let made_is = ended (course_on nodes (take (logged front) log) last) ends.at reached front over within in
    ap (λ (made : List Entry). wrong_by front entries made) made_is ∙ by_same ends.at.diary ends.follows ends.same_is
  where
    whole : (t : Bool) → (t && nat_le same same) ≡ t
    whole true = grind (arith, nat_tests)
    whole false = refl

    within_front : (xs ys : List Entry) → take (length ys) xs ≡ ys → length ys ≤ length xs
    within_front xs ys e = let l = all_agree xs ys e in let w = within_first xs ys in omega (arith, l, w)

    by_same : (made : List Entry) → take (length made) front ≡ made → length made ≡ same → wrong_by front entries made ≡ place_after true same (length entries)
    by_same made follows is =
        let all_same : agreed front made ≡ same = all_agree front made follows ∙ is in
        ap (λ (k : ℕ). wrong_after k entries made) all_same
        ∙ ap (λ (n : ℕ). cond (nat_le (length entries) same && nat_le n same) None (Some (suc same))) is
        ∙ ap (λ (t : Bool). cond t None (Some (suc same))) (whole (nat_le (length entries) same))
placed_by nodes log entries front last r same false course few differs =
    let reached = subst (λ (c : Course). Reaches c differs.at) course differs.reached in
    let less : agreed front differs.at.diary < length differs.at.diary = subst (λ (k : ℕ). k < length differs.at.diary) (sym differs.index_is) differs.within in
    let tells = decided (course_on nodes (take (logged front) log) last) differs.at reached front less in
    by_same (entries_past (length front) (course_on nodes (take (logged front) log) last)) (tells.same ∙ differs.index_is) tells.more
  where
    none : (t : Bool) → (t && false) ≡ false
    none true = refl
    none false = refl

    by_same : (made : List Entry) → agreed front made ≡ same → agreed front made < length made → wrong_by front entries made ≡ Some (suc same)
    by_same made is more =
        ap (λ (k : ℕ). wrong_after k entries made) is
        ∙ ap (λ (t : Bool). cond (nat_le (length entries) same && t) None (Some (suc same))) (test_false (length made) same (subst (λ (k : ℕ). k < length made) is more))
        ∙ ap (λ (t : Bool). cond t None (Some (suc same))) (none (nat_le (length entries) same))

-- no more agree than there are
pub within : (r : Replayed) (front : List Entry) (same : ℕ) (has_ended : Bool) → AgreesBy r front same has_ended → same ≤ length front
within r front same true ends =
    let all_same = all_agree front ends.at.diary ends.follows in
    let few = within_first front ends.at.diary in
    omega (arith, all_same, few, ends.same_is)
within r front same false differs = let few = within_first front differs.at.diary in omega (arith, few, differs.index_is)

-- ---- the whole audit

take_least : (k : ℕ) (log : List LogEntry) → take (min k (length log)) log ≡ take k log
take_least k log = by_order (ordered k (length log))
  where
    by_order : ((j : ℕ) × (k + j ≡ length log)) ⊎ ((j : ℕ) × (length log + j ≡ k)) → take (min k (length log)) log ≡ take k log
    by_order (inl (j, e)) = let least : min k (length log) ≡ k = omega (arith, e) in ap (λ (n : ℕ). take n log) least
    by_order (inr (j, e)) =
        let least : min k (length log) ≡ length log = omega (arith, e) in
        ap (λ (n : ℕ). take n log) least ∙ take_all (length log) log (omega arith) ∙ sym (take_all k log (omega (arith, e)))

-- what a diary comes to by the entries before the first log entry that is out of its place
pub audited : (document : Document) (log part : List LogEntry) (entries given : List Entry) (now z : ℤ) (n k m : ℕ) (r : Replayed) (same : ℕ) (has_ended : Bool)
    → given ≡ entries → z ≡ now → pos 0 ≤ℤ now → take n given ≡ placed (pos 0) z given → k ≡ logged (take n given) → m ≡ min k (length log) → part ≡ take m log
    → r ≡ begun document part (nat_abs z) → AgreesBy r (take n given) same has_ended
    → place_after has_ended same (length given) ≡ first_wrong document.nodes log entries (nat_abs now)
audited document log part entries given now z n k m r same has_ended given_is z_is from front_is k_is m_is part_is r_is agrees =
    let front : List Entry = take n given in
    let whole : pos (nat_abs now) ≡ now = sym (positive now from) in
    let part_same : part ≡ take (logged front) log =
    part_is ∙ ap (λ (j : ℕ). take j log) (m_is ∙ ap (λ (j : ℕ). min j (length log)) k_is) ∙ take_least (logged front) log in
    let course : course_of r ≡ course_on document.nodes (take (logged front) log) (nat_abs now) =
    ap course_of r_is
    ∙ ap (λ (l : List LogEntry). course_on document.nodes l (nat_abs z)) part_same
    ∙ ap (λ (v : ℤ). course_on document.nodes (take (logged front) log) (nat_abs v)) z_is in
    let len = length-take n given in
    sym (placed_by document.nodes log given front (nat_abs now) r same has_ended course (omega (arith, len)) agrees)
    ∙ ap (first_wrong_by document.nodes log given (nat_abs now)) (front_is ∙ ap (λ (v : ℤ). placed (pos 0) v given) (z_is ∙ sym whole))
    ∙ ap (λ (es : List Entry). first_wrong document.nodes log es (nat_abs now)) given_is
