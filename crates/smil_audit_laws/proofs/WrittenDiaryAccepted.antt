-- What the order `diary` writes is read again, and accepted.
use Rattle.std.proofs.Common.{◌≡◌, refl, sym, ◌∙◌, ap, subst, ℕ, ◌+◌, ◌≤◌, true, List, [], ◌∷◌, ◌++◌, length, take, map, flat_map, Option, Some, None, Ok, arith, append_assoc}
use Rattle.std.specs.Prelude.{All, pos, codes, int_le}
use Rattle.std.specs.List.{AllByRecursion}
use Rattle.std.specs.Str.Lines.{lines}
use Rattle.std.proofs.lemmas.Bool.{and_from, le-leb}
use Rattle.std.proofs.lemmas.Grind.{flat_map-append}
use Rattle.std.proofs.lemmas.List.{append-nil, take_all}
use Rattle.std.proofs.lemmas.List.Elements.{All-from_recursion, recursion_from_All}
use Rattle.smil_model.specs.declared.diary.Entry.{Entry}
use Rattle.smil_model.specs.declared.diary.LogEntry.{LogEntry}
use Rattle.smil_model.specs.declared.limits.TheConstants.{DIARY_ENTRIES}
use Rattle.smil_model.specs.declared.times.TheConstants.{HORIZON}
use Rattle.smil_model.specs.document.Values.{is_clock}
use Rattle.smil_model.specs.diary.Logs.{moments_rise}
use Rattle.smil_model.specs.happening.Resolution.{Course, Progress, Reaches, diary_of}
use Rattle.smil_model.specs.shown.Lines.{entry_line, now_line, outline_end}
use Rattle.smil_model.specs.shown.Orders.{IsState, Presentation, course_of}
use Rattle.smil_model.proofs.NumberOrders.{le_from}
use Rattle.smil_laws.specs.Courses.{heard_by}
use Rattle.smil_laws.specs.Cut.{logged}
use Rattle.smil_laws.proofs.AsideDocuments.{each_append}
use Rattle.smil_grammar.specs.Outlines.{saved_text}
use Rattle.smil_outline.specs.Written.{saved_lines}
use Rattle.smil_outline.proofs.PrintedBytes.{IsShown}
use Rattle.smil_audit.proofs.OwnDiaryAccepted.{own_diary_is_accepted}
use Rattle.smil_shown.proofs.SettledDiaries.{comes_to, diary_few, diary_is}
use Rattle.smil_live.proofs.LogParts.{log_parts}
use Rattle.smil_live.proofs.RebuiltLogs.{has_heard}
use Rattle.smil_script.specs.declared.entries.DiaryLine.TheVariants.{Now}
use Rattle.smil_top.specs.AuditInputs.{Reading, in_diary, recording}
use Rattle.smil_top.specs.Auditing.{audit_input, audit_lines, audit_text_by, told_by}
use Rattle.smil_audit_laws.specs.Lines.{DiariesArePlain, IsPlain}
use Rattle.smil_audit_laws.specs.Written.{IsWritten, WrittenDiariesAreAccepted, WrittenDiariesAreReadAgain, WrittenDiariesAreRight, recorded_as, written}
use Rattle.smil_audit_laws.proofs.DiaryLinesRead.{IsShort, diary_said, entries_on, line_on, outline_read, text_of}
use Rattle.smil_audit_laws.proofs.LinesCut.{cut_again, line_is, spaced, spaced_shown}
use Rattle.smil_audit_laws.proofs.SavedOutlineLines.{saved_all_shown}
use Rattle.smil_audit_laws.proofs.EntriesWritable.{InPlaces, all_plain, in_places}
use Rattle.smil_audit_laws.proofs.EntryRoundTrip.{entry_said, entry_words, now_not_blank, now_said, now_words}

-- ---- lists

each_front : {A : Type 0} (P : A → Type 0) (xs ys : List A) → AllByRecursion P (xs ++ ys) → AllByRecursion P xs
each_front P [] ys h = tt
each_front P (x ∷ xs) ys h = (h.0, each_front P xs ys h.1)

each_back : {A : Type 0} (P : A → Type 0) (xs ys : List A) → AllByRecursion P (xs ++ ys) → AllByRecursion P ys
each_back P [] ys h = h
each_back P (x ∷ xs) ys h = each_back P xs ys h.1

-- ---- the lines that are written

abbrev fed : List ℕ → List ℕ
fed line = line ++ 10 ∷ []

abbrev now_text : ℕ → List ℕ
now_text now = spaced (now_words (pos now))

-- the lines behind the outline, and all
abbrev diary_lines : Presentation → List Entry → List (List ℕ)
diary_lines p diary = map (text_of p.log) diary ++ now_text p.now ∷ []

abbrev all_lines : Presentation → List Entry → List (List ℕ)
all_lines p diary = saved_lines p.document ++ codes "%%" ∷ diary_lines p diary

entries_fed : (log : List LogEntry) (xs : List Entry) → flat_map (entry_line log) xs ≡ flat_map fed (map (text_of log) xs)
entries_fed log [] = refl
entries_fed log (x ∷ xs) =
    ap (λ (line : List ℕ). line ++ flat_map (entry_line log) xs) (line_is (entry_words log x)) ∙ ap (λ (rest : List ℕ). fed (text_of log x) ++ rest) (entries_fed log xs)

regroup : (a b c d : List ℕ) → a ++ b ++ c ++ d ≡ a ++ (b ++ (c ++ d))
regroup a b c d = simp append_assoc

text_is : (p : Presentation) (diary : List Entry) → saved_text p.document ++ outline_end ++ flat_map (entry_line p.log) diary ++ now_line (pos p.now) ≡ flat_map fed (all_lines p diary)
text_is p diary =
    regroup (saved_text p.document) outline_end (flat_map (entry_line p.log) diary) (now_line (pos p.now))
    ∙ ap (λ (text : List ℕ). saved_text p.document ++ (outline_end ++ text))
    (ap (λ (text : List ℕ). text ++ now_line (pos p.now)) (entries_fed p.log diary)
    ∙ ap (λ (line : List ℕ). flat_map fed (map (text_of p.log) diary) ++ line) (line_is (now_words (pos p.now)) ∙ sym (one_fed (now_text p.now)))
    ∙ sym (flat_map-append fed (map (text_of p.log) diary) (now_text p.now ∷ [])))
    ∙ sym (flat_map-append fed (saved_lines p.document) (codes "%%" ∷ diary_lines p diary))
  where
    one_fed : (line : List ℕ) → flat_map fed (line ∷ []) ≡ fed line
    one_fed line = append-nil (fed line)

entries_shown : (log : List LogEntry) (xs : List Entry) → AllByRecursion (IsPlain log) xs → AllByRecursion IsShown (map (text_of log) xs)
entries_shown log [] h = tt
entries_shown log (x ∷ xs) h = (spaced_shown (entry_words log x) (entry_said log x h.0).shown, entries_shown log xs h.1)

-- ---- the diary of a presentation

module _ (p : Presentation) (diary : List Entry) (state : IsState p) (resolved : diary_of (course_of p) ≡ Some diary) where
  -- it is what the resolution comes to at the present moment, with the whole log heard
  abbrev end : Progress
  end = heard_by p.log diary p.now

  reached : Reaches (course_of p) end
  reached = comes_to (course_of p) diary state.logged resolved

  rise : moments_rise (pos 0) p.log ≡ true
  rise = (log_parts p.log state.log).0

  pub all_heard : logged diary ≡ length p.log
  all_heard = (has_heard (course_of p) end rise reached).count

  named_in_places : InPlaces p.log 0 diary
  named_in_places = in_places (course_of p) rise end reached

  plain : AllByRecursion (IsPlain p.log) diary
  plain = all_plain p.document p.log p.now end state.document.numbered (le_from (pos p.now) HORIZON state.now) state.log reached

pub diaries_plain : DiariesArePlain
diaries_plain p diary state resolved = All-from_recursion (IsPlain p.log) diary (plain p diary state resolved)

-- ---- one presentation

module _ (p : Presentation) (diary : List Entry) (is : IsWritten p diary) where
  abbrev c : Course
  c = course_of p

  own_plain : AllByRecursion (IsPlain p.log) diary
  own_plain = plain p diary is.state is.resolved

  clock : is_clock (pos p.now) ≡ true
  clock = and_from (int_le (pos 0) (pos p.now)) (int_le (pos p.now) HORIZON) (le-leb 0 p.now (omega arith)) is.state.now

  written_is : written p ≡ flat_map fed (all_lines p diary)
  written_is = ap (λ (d : List Entry). saved_text p.document ++ outline_end ++ flat_map (entry_line p.log) d ++ now_line (pos p.now)) (diary_is c diary is.resolved) ∙ text_is p diary

  all_shown : AllByRecursion IsShown (all_lines p diary)
  all_shown =
      each_append IsShown (saved_lines p.document) (codes "%%" ∷ diary_lines p diary) (saved_all_shown p.document is.state.document) (
        (refl, (refl, tt)),
        each_append IsShown (map (text_of p.log) diary) (now_text p.now ∷ []) (entries_shown p.log diary own_plain) (spaced_shown (now_words (pos p.now)) (now_said (pos p.now) clock).shown, tt),
      )

  lines_are : lines (written p) ≡ all_lines p diary
  lines_are = ap lines written_is ∙ cut_again (all_lines p diary) all_shown

  short : AllByRecursion IsShort (all_lines p diary)
  short = recursion_from_All IsShort (all_lines p diary) (subst (λ (ls : List (List ℕ)). All IsShort ls) lines_are is.short)

  whole : audit_input (all_lines p diary) ≡ Ok (in_diary (recorded_as p diary))
  whole =
      let outline_short = each_front IsShort (saved_lines p.document) (codes "%%" ∷ diary_lines p diary) short in
      let behind = each_back IsShort (saved_lines p.document) (codes "%%" ∷ diary_lines p diary) short in
      let entries_short = each_front IsShort (map (text_of p.log) diary) (now_text p.now ∷ []) behind.1 in
      let now_short = each_back IsShort (map (text_of p.log) diary) (now_text p.now ∷ []) behind.1 in
      let outline = outline_read p.document is.state.document outline_short (All-from_recursion IsShort (saved_lines p.document) outline_short) (diary_lines p diary) in
      let few : 0 + length diary ≤ DIARY_ENTRIES = (let most = diary_few c diary is.resolved in omega (arith, most)) in
      let entries = entries_on p.document p.log outline.0 0 [] diary (now_text p.now ∷ []) own_plain (named_in_places p diary is.state is.resolved) entries_short few in
      let all : 0 + logged diary ≡ length p.log = (let heard = all_heard p diary is.state is.resolved in omega (arith, heard)) in
      let log_is : take (0 + logged diary) p.log ≡ p.log = ap (λ (n : ℕ). take n p.log) all ∙ take_all (length p.log) p.log (omega arith) in
      let last = line_on entries.0 (in_diary (recording p.document p.log diary None)) (in_diary (recorded_as p diary)) (now_text p.now) []
      (diary_said (recording p.document p.log diary None) (recorded_as p diary) (now_text p.now) (Now (pos p.now)) refl now_short.0 (now_not_blank (pos p.now)) (now_said (pos p.now) clock).read refl) in
      outline.1 ∙ entries.1 ∙ ap (λ (log : List LogEntry). audit_lines entries.0 (Ok (in_diary (recording p.document log diary None))) (now_text p.now ∷ [])) log_is ∙ last

  read : audit_input (lines (written p)) ≡ Ok (in_diary (recorded_as p diary))
  read = ap audit_input lines_are ∙ whole

pub written_read : WrittenDiariesAreReadAgain
written_read p diary is = read p diary is

pub written_right : WrittenDiariesAreRight
written_right p diary is =
    ap (λ (r : Reading). told_by (length (lines (written p))) r) (written_read p diary is)
    ∙ ap (λ (wrong : Option ℕ). Ok (record { entries = length diary; wrong = wrong })) (own_diary_is_accepted p diary is.state is.resolved)

pub written_accepted : WrittenDiariesAreAccepted
written_accepted p diary is = ap audit_text_by (written_right p diary is)
