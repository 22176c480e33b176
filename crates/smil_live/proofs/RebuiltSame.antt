-- A diary that begins with the entries of another one up to a moment, and goes no further than that
-- moment, is these entries. So it is with the diary of the log up to that moment.
use Rattle.std.proofs.Common.{◌≡◌, refl, sym, ◌∙◌, ap, subst, ℕ, ◌≤◌, List, [], ◌∷◌, ◌++◌, Option, Some, None, ℤ, Bool, true, false, arith, length, take, drop, append-nil, length-append}
use Rattle.std.specs.Prelude.{cond, pos, int_le, filter}
use Rattle.std.proofs.lemmas.Bool.{and_parts}
use Rattle.std.proofs.lemmas.List.{take-append-drop, nil_from_length}
use Rattle.std.proofs.lemmas.List.Elements.{filter-append}
use Rattle.smil_model.specs.declared.diary.Entry.{Entry}
use Rattle.smil_model.specs.declared.diary.LogEntry.{LogEntry}
use Rattle.smil_model.specs.document.Document.{Document}
use Rattle.smil_model.specs.document.Valid.{IsNumberedTree}
use Rattle.smil_model.specs.diary.Clocks.{until}
use Rattle.smil_model.specs.diary.Logs.{is_log, is_logged_by, moments_rise}
use Rattle.smil_model.specs.happening.Resolution.{Course, Progress, outset, next_step, after_steps, Reaches, diary_of}
use Rattle.smil_model.proofs.NumberOrders.{le_total}
use Rattle.smil_laws.specs.Agreement.{course_on}
use Rattle.smil_laws.specs.Courses.{heard_by}
use Rattle.smil_laws.specs.Cut.{logged}
use Rattle.smil_laws.proofs.CourseEarlier.{reaches_back}
use Rattle.smil_laws.proofs.CourseCut.{reaches_when_cut}
use Rattle.smil_laws.proofs.ResolutionEnds.{then, stays}
use Rattle.smil_laws.proofs.CourseFurther.{is_past, reaches_further}
use Rattle.smil_laws.proofs.DiaryThroughBegin.{more_added}
use Rattle.smil_shown.proofs.SettledDiaries.{comes_to, has_ended}
use Rattle.smil_live.proofs.FullDiaries.{AreFrom, from_sooner, full_by_first, rising_from}
use Rattle.smil_live.proofs.LogParts.{log_parts}
use Rattle.smil_live.proofs.RebuiltParts.{front_until, log_until, none_passes}

-- what a course comes to begins its diary
pub begins_diary : (c : Course) (d : List Entry) (q : Progress) → diary_of c ≡ Some d → Reaches c q → (more : List Entry) × (d ≡ q.diary ++ more)
begins_diary c d q settled (k, e) =
    let end = has_ended c d settled in
    by_end end.at end.reached end.ended end.diary_is
  where
    by_end : (at : Progress) → Reaches c at → next_step c at ≡ None → at.diary ≡ d → (more : List Entry) × (d ≡ q.diary ++ more)
    by_end at (j, f) ended same =
        let there : after_steps c j q ≡ at =
        ap (after_steps c j) (sym e) ∙ (sym (then c k j outset) ∙ (ap (λ n. after_steps c n outset) (omega arith) ∙ (then c j k outset ∙ (ap (after_steps c k) f ∙ stays c k at ended)))) in
        let more = more_added c j q in
        (more.0, sym same ∙ (ap (λ (p : Progress). p.diary) (sym there) ∙ more.1))

-- ---- the same entries

pub none_added : (c : Course) (d : List Entry) (m : ℕ) (q : Progress) (more : List Entry) → diary_of c ≡ Some d → Reaches c q → q.moment ≡ m → q.diary ≡ until (pos m) d ++ more → more ≡ []
none_added c d m q more settled reached here is =
    let rest = begins_diary c d q settled reached in
    let past : until (pos m) q.diary ≡ q.diary = subst (λ (n : ℕ). until (pos n) q.diary ≡ q.diary) here (is_past c q reached).entries in
    let whole : until (pos m) d ≡ q.diary ++ until (pos m) rest.0 = ap (until (pos m)) rest.1 ∙ (filter-append (λ (x : Entry). int_le x.moment (pos m)) q.diary rest.0 ∙ ap (λ (l : List Entry). l ++ until (pos m) rest.0) past) in
    let one = ap (λ (l : List Entry). length l) is ∙ length-append (until (pos m) d) more in
    let two = ap (λ (l : List Entry). length l) whole ∙ length-append q.diary (until (pos m) rest.0) in
    nil_from_length more (omega (arith, one, two))

-- the log entries behind those up to a moment are not before it
later_from : (m from : ℤ) (log : List LogEntry) → moments_rise from log ≡ true → AreFrom m (drop (length (filter (λ (x : LogEntry). int_le x.moment m) log)) log)
later_from m from [] rise = tt
later_from m from (x ∷ xs) rise = by_test (int_le x.moment m) refl (later_from m x.moment xs rest)
  where
    rest : moments_rise x.moment xs ≡ true
    rest = (and_parts (int_le from x.moment) (moments_rise x.moment xs) rise).1

    by_test : (t : Bool) → int_le x.moment m ≡ t → AreFrom m (drop (length (filter (λ (y : LogEntry). int_le y.moment m) xs)) xs) → AreFrom m (drop (length (cond t (x ∷ filter (λ (y : LogEntry). int_le y.moment m) xs) (filter (λ (y : LogEntry). int_le y.moment m) xs))) (x ∷ xs))
    by_test true e behind = behind
    by_test false e behind =
        let after = le_total x.moment m e in
        subst (λ (l : List LogEntry). AreFrom m (drop (length l) (x ∷ xs))) (sym (none_passes m x.moment xs e rest)) (after, from_sooner m x.moment xs after (rising_from x.moment xs rest))

-- the diary with the log up to an earlier moment, where it begins with the entries up to that
-- moment, has no others
pub same_until : (document : Document) (log : List LogEntry) (last earlier : ℕ) (d e more : List Entry) → IsNumberedTree document → is_log log ≡ true
    → diary_of (course_on document.nodes log last) ≡ Some d → earlier ≤ last
    → take (length (filter (λ (x : LogEntry). int_le x.moment (pos earlier)) log)) log ≡ filter (λ (x : LogEntry). int_le x.moment (pos earlier)) log
    → diary_of (course_on document.nodes (filter (λ (x : LogEntry). int_le x.moment (pos earlier)) log) earlier) ≡ Some e
    → e ≡ until (pos earlier) d ++ more → more ≡ []
same_until document log last earlier d e more numbered is_a_log settled before front ended begins =
    let part = filter (λ (x : LogEntry). int_le x.moment (pos earlier)) log in
    let rise = (log_parts log is_a_log).0 in
    let end = has_ended (course_on document.nodes part earlier) e ended in
    let behind : AreFrom (pos end.at.moment) (drop (length part) log) = subst (λ (n : ℕ). AreFrom (pos n) (drop (length part) log)) (sym end.moment_is) (later_from (pos earlier) (pos 0) log rise) in
    let further = reaches_further document part (drop (length part) log) earlier last end.at numbered end.reached behind before in
    let whole : part ++ drop (length part) log ≡ log = ap (λ (l : List LogEntry). l ++ drop (length part) log) (sym front) ∙ take-append-drop (length part) log in
    none_added (course_on document.nodes log last) d earlier end.at more settled (subst (λ (l : List LogEntry). Reaches (course_on document.nodes l last) end.at) whole further) end.moment_is (end.diary_is ∙ begins)

module _ (document : Document) (log : List LogEntry) (last earlier : ℕ) (d : List Entry) where
  -- the log up to an earlier moment, and the entries up to it
  abbrev part : List LogEntry
  part = filter (λ (x : LogEntry). int_le x.moment (pos earlier)) log

  abbrev first : List Entry
  first = until (pos earlier) d

  -- the resolution of the one comes to the others
  comes_back : IsNumberedTree document → is_log log ≡ true → is_logged_by (pos last) log ≡ true → diary_of (course_on document.nodes log last) ≡ Some d → earlier ≤ last
      → (r : Progress) × (r.diary ≡ first) × Reaches (course_on document.nodes part earlier) r
  comes_back numbered is_a_log by settled before =
      let c = course_on document.nodes log last in
      let back = reaches_back document log last earlier (heard_by log d last) (comes_to c d by settled) before in
      let heard : take back.0.heard log ≡ part =
      ap (λ (n : ℕ). take n log) (sym (is_past c back.0 back.3).count)
      ∙ (ap (λ (l : List Entry). take (logged l) log) back.2 ∙ log_until c d (pos earlier) is_a_log by settled) in
      let there = subst (λ (l : List LogEntry). Reaches (course_on document.nodes l back.0.moment) back.0) heard (reaches_when_cut document log last back.0 numbered back.3) in
      (back.0, back.2, subst (λ (n : ℕ). Reaches (course_on document.nodes part n) back.0) back.1 there)

  -- so the diary of the one is the others; it is there, since the whole log has one
  pub diary_back : IsNumberedTree document → is_log log ≡ true → is_logged_by (pos last) log ≡ true → diary_of (course_on document.nodes log last) ≡ Some d → earlier ≤ last
      → diary_of (course_on document.nodes part earlier) ≡ Some first
  diary_back numbered is_a_log by settled before = by_diary (diary_of (course_on document.nodes part earlier)) refl
    where
      rise : moments_rise (pos 0) log ≡ true
      rise = (log_parts log is_a_log).0

      front : take (length part) log ≡ part
      front = front_until (pos earlier) (pos 0) log rise

      by_diary : (o : Option (List Entry)) → diary_of (course_on document.nodes part earlier) ≡ o → diary_of (course_on document.nodes part earlier) ≡ Some first
      by_diary None none =
          let full = full_by_first document log (length part) earlier last numbered (later_from (pos earlier) (pos 0) log rise) before (subst (λ (l : List LogEntry). diary_of (course_on document.nodes l earlier) ≡ None) (sym front) none) in
          let never : None ≡ Some d = sym full ∙ settled in
          cc
      by_diary (Some e) ended =
          let back = comes_back numbered is_a_log by settled before in
          let begun = begins_diary (course_on document.nodes part earlier) e back.0 ended back.2 in
          let begins : e ≡ first ++ begun.0 = begun.1 ∙ ap (λ (l : List Entry). l ++ begun.0) back.1 in
          let none = same_until document log last earlier d e begun.0 numbered is_a_log settled before front ended begins in
          let same : e ≡ first = begins ∙ (ap (λ (l : List Entry). first ++ l) none ∙ append-nil first) in
          ended ∙ ap (λ (l : List Entry). Some l) same
