-- The group of what comes first: what it is told by, and that each of its entries may follow.
use Rattle.std.proofs.Common.{◌≡◌, sym, ap, subst, ℕ, List, [], ◌∷◌, ◌++◌, Option, Some, ℤ, true, length, append_assoc}
use Rattle.std.proofs.Math.Seq.{take-append_seam}
use Rattle.std.specs.Prelude.{pos, ◌≤ℤ◌, is_some}
use Rattle.std.specs.List.{AllByRecursion}
use Rattle.smil_model.specs.declared.diary.Entry.{Entry}
use Rattle.smil_model.specs.declared.diary.LogEntry.{LogEntry}
use Rattle.smil_model.specs.declared.diary.Step.{Step}
use Rattle.smil_model.specs.declared.document.Node.{Node}
use Rattle.smil_model.specs.declared.times.TheConstants.{HORIZON}
use Rattle.smil_model.specs.document.Document.{Document, node_at}
use Rattle.smil_model.specs.document.Valid.{IsDistinct}
use Rattle.smil_model.specs.diary.Diary.{History, last_moment}
use Rattle.smil_model.specs.diary.Lawful.{IsLawful, has_element}
use Rattle.smil_model.specs.happening.Keys.{DueChange, coming, first_coming}
use Rattle.smil_model.specs.happening.Groups.{at_moment}
use Rattle.smil_laws.specs.Cut.{IsNamedBelow, NamesBelow}
use Rattle.smil_laws.specs.Firsts.{FirstIsOfElement}
use Rattle.smil_laws.specs.Near.{AllNear, HasNear}
use Rattle.smil_stretch.proofs.LawfulDiaries.{lawful_first}
use Rattle.smil_stretch.specs.Clocks.{AreClocksOf}
use Rattle.smil_instances.proofs.IdTargets.{known_node}
use Rattle.smil_past.specs.Past as past_of
use Rattle.smil_past.specs.Past.{MarkedHistory, IsPresent, with_diary}
use Rattle.smil_past.specs.Queues.{kept_queues}
use Rattle.smil_element.specs.declared.happening.parts.Parts.{Parts}
use Rattle.smil_element.specs.Parts.{ArePartsOf}
use Rattle.smil_rounds.specs.Appended.{MayAppendAll}
use Rattle.smil_rounds.proofs.MomentEntries.{is_late}

-- ---- what comes first is of an element

pub of_element : FirstIsOfElement → (h : History) (now : ℤ) (c : DueChange) → IsDistinct h.nodes → first_coming (coming h now) ≡ Some c → has_element h.nodes c.key.serial ≡ true
of_element law h now c distinct first = ap (λ (x : Option Node). is_some x) (law h now c distinct first).here

-- ---- each step of a group may follow

at_seam : (P : Entry → Type 0) (xs : List Entry) (y : Entry) (ys : List Entry) → AllByRecursion P (xs ++ y ∷ ys) → P y
at_seam P [] y ys all = all.0
at_seam P (x ∷ xs) y ys all = at_seam P xs y ys all.1

first_part : (nodes : List Node) (log : List LogEntry) (front rest : List Entry) → IsLawful (record { nodes = nodes; log = log; diary = front ++ rest }) → IsLawful (record { nodes = nodes; log = log; diary = front })
first_part nodes log front rest lawful =
    subst (λ (d : List Entry). IsLawful (record { nodes = nodes; log = log; diary = d })) (take-append_seam front rest)
    (lawful_first (record { nodes = nodes; log = log; diary = front ++ rest }) (length front) lawful)

pub all_may : (past : MarkedHistory) (m : ℤ) (steps : List Step) → IsLawful (record { nodes = past.document.nodes; log = past.log; diary = past.diary ++ at_moment m steps }) → AllNear (past.diary ++ at_moment m steps) → NamesBelow (length past.log) (past.diary ++ at_moment m steps) → MayAppendAll past (at_moment m steps)
all_may past m [] lawful near named = tt
all_may past m (x ∷ xs) lawful near named =
    let y : Entry = record { moment = m; step = x } in
    let seam : past.diary ++ (y ∷ at_moment m xs) ≡ (past.diary ++ y ∷ []) ++ at_moment m xs = sym (append_assoc past.diary (y ∷ []) (at_moment m xs)) in
    let whole = subst (λ (d : List Entry). IsLawful (record { nodes = past.document.nodes; log = past.log; diary = d })) seam lawful in (
      record {
        lawful = first_part past.document.nodes past.log (past.diary ++ y ∷ []) (at_moment m xs) whole;
        near = at_seam (λ (e : Entry). HasNear e.step) past.diary y (at_moment m xs) near;
        named = at_seam (λ (e : Entry). IsNamedBelow (length past.log) e.step) past.diary y (at_moment m xs) named;
      },
      all_may (with_diary past (past.diary ++ y ∷ [])) m xs whole
          (subst (λ (d : List Entry). AllNear d) seam near)
          (subst (λ (d : List Entry). NamesBelow (length past.log) d) seam named),
    )

-- ---- what the group is told by

pub parts : (past : MarkedHistory) (m : ℤ) (given : Parts) → given.moment ≡ m → IsPresent past m
    → given.tree.now ≡ past.document → given.book.now ≡ past.diary → AreClocksOf given.clocks.now (past_of.history_of past) → given.queues.now ≡ kept_queues (past_of.history_of past)
    → ArePartsOf given (past_of.history_of past)
parts past m given whole present d b c q = record {
  same_nodes = ap (λ (x : Document). x.nodes) (sym d);
  same_diary = sym b;
  clocks_are = c;
  queues_are = record { nodes = ap (λ (x : Document). x.nodes) (sym d); value = q };
  moment_is = record { low = subst (λ (v : ℤ). pos 0 ≤ℤ v) (sym whole) present.from; high = subst (λ (v : ℤ). v ≤ℤ HORIZON) (sym whole) present.within };
  late = subst (λ (v : ℤ). last_moment past.diary ≤ℤ v) (sym whole) (is_late m past.diary present.from present.past_is);
}

pub known_in : (past : MarkedHistory) (document : Document) (s : ℕ) → document ≡ past.document → has_element past.document.nodes s ≡ true → is_some (node_at document.nodes s) ≡ true
known_in past document s is q = subst (λ (d : Document). is_some (node_at d.nodes s) ≡ true) (sym is) (known_node past.document.nodes s q)
