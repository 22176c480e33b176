-- The lines of a load that is given by a call, cut one by one.
use Rattle.std.proofs.Common.{◌≡◌, ◌≤◌, ℕ, ◌+◌, suc, Bool, true, false, List, [], ◌∷◌, ◌++◌, length, Some, None, refl, ap, sym, ◌∙◌, arith, append_assoc}
use Rattle.std.proofs.lemmas.List.{append-nil}
use Rattle.std.specs.Prelude.{codes, if◌then◌else◌}
use Rattle.smil_model.specs.declared.limits.TheConstants.{LINE_BYTES}
use Rattle.smil_grammar.specs.Scripts.{opens_load}
use Rattle.smil_top.specs.Cut.{CutLines, LoadLines, NumberedLine, OrderLines, cut_further, ends, is_silent, load, with_line}
use Rattle.smil_top.specs.GivenLoads.{AreNodeLines, end_behind, nodes_from, outline_lines, with_load}
use Rattle.smil_top.proofs.CutLines.{cut-opens}
use Rattle.smil_top.proofs.LoadsGiven.{nodes-first, with_nodes}

module _ (whole : List OrderLines) where
  abbrev within : ℕ → LoadLines → CutLines
  within count at = record { count = count; whole = whole; «open» = Some at }

  abbrev behind : ℕ → LoadLines → List NumberedLine → CutLines
  behind number at nodes = record { count = number; whole = whole ++ load (record at { nodes = nodes }) (Some number) ∷ []; «open» = None }

  node-by : (silent : Bool) (count : ℕ) (at : LoadLines) (this : NumberedLine) → (if silent then within count at else within count (record at { nodes = at.nodes ++ this ∷ [] })) ≡ within count (with_nodes at (if silent then [] else this ∷ []))
  node-by true count at this = ap (λ ns. within count (record at { nodes = ns })) (sym (append-nil at.nodes))
  node-by false count at this = refl

  node-step : (at : LoadLines) (count : ℕ) (line : List ℕ) → ends line ≡ false → with_line (within count at) line ≡ within (suc count) (with_nodes at (nodes_from (suc count) (line ∷ [])))
  node-step at count line not_end =
      let this : NumberedLine = record { number = suc count; text = line } in
      ap
      (λ b. if b then record { count = suc count; whole = whole ++ load at (Some (suc count)) ∷ []; «open» = None }
      else (if is_silent line then within (suc count) at
      else within (suc count) (record at { nodes = at.nodes ++ this ∷ [] })))
      not_end
      ∙ node-by (is_silent line) (suc count) at this

  cut-nodes : (lines : List (List ℕ)) (count : ℕ) (at : LoadLines) (number : ℕ) → number ≡ suc (count + length lines) → AreNodeLines lines →
      cut_further (within count at) (lines ++ codes "%%" ∷ []) ≡ behind number at (at.nodes ++ nodes_from (suc count) lines)
  cut-nodes [] count at number is are =
      let here : suc count ≡ number = omega (arith, is) in
      ap (λ n. behind n at at.nodes) here ∙ ap (λ ns. behind number at ns) (sym (append-nil at.nodes))
  cut-nodes (line ∷ lines) count at number is are =
      let node : List NumberedLine = nodes_from (suc count) (line ∷ []) in
      ap (λ (c : CutLines). cut_further c (lines ++ codes "%%" ∷ [])) (node-step at count line are.0)
      ∙ cut-nodes lines (suc count) (with_nodes at node) number (omega (arith, is)) are.1
      ∙ ap (λ ns. behind number at ns)
      (append_assoc at.nodes node (nodes_from (suc (suc count)) lines)
      ∙ ap (λ ns. at.nodes ++ ns) (sym (nodes-first (suc count) line lines)))

pub load-cut : (cut : CutLines) (head outline : List ℕ) → cut.«open» ≡ None → length head ≤ LINE_BYTES → opens_load head ≡ true → AreNodeLines (outline_lines outline) →
    with_load cut head outline ≡ cut_further cut (head ∷ outline_lines outline ++ codes "%%" ∷ [])
load-cut cut head outline out short opens are =
    let at : LoadLines = record { head = record { number = suc cut.count; text = head }; nodes = [] } in
    sym
    (ap (λ (c : CutLines). cut_further c (outline_lines outline ++ codes "%%" ∷ [])) (cut-opens cut (suc cut.count) head refl out short opens)
    ∙ cut-nodes cut.whole (outline_lines outline) (suc cut.count) at (end_behind cut.count outline) (omega arith) are)
