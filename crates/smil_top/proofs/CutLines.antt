-- What one line does to a cut, case by case.
use Rattle.std.proofs.Common.{◌≡◌, ℕ, ◌<◌, ◌≤◌, suc, Bool, true, false, List, [], ◌∷◌, ◌++◌, length, Option, Some, None, refl, ap, sym, ◌∙◌, arith}
use Rattle.std.specs.Prelude.{if◌then◌else◌, ◌&&◌}
use Rattle.smil_model.specs.declared.limits.TheConstants.{LINE_BYTES}
use Rattle.smil_grammar.specs.Scripts.{is_blank, opens_load}
use Rattle.smil_script.specs.Loads.{ends_load}
use Rattle.smil_top.specs.Cut.{NumberedLine, LoadLines, single, load, CutLines, is_short, cut_by, with_line}

pub is_short-true : (line : List ℕ) → length line ≤ LINE_BYTES → is_short line ≡ true
is_short-true line h = grind arith

pub is_short-false : (line : List ℕ) → LINE_BYTES < length line → is_short line ≡ false
is_short-false line h = grind arith

-- the cut, with the place where it stands and the line's number written out
at_place : (cut : CutLines) (at : Option LoadLines) (number : ℕ) (line : List ℕ) → cut.«open» ≡ at → number ≡ suc cut.count →
    with_line cut line ≡ cut_by at cut.whole (record { number = number; text = line })
at_place cut at number line e n =
    ap (λ o. cut_by o cut.whole (record { number = suc cut.count; text = line })) e ∙ ap (λ k. cut_by at cut.whole (record { number = k; text = line })) (sym n)

module _ (cut : CutLines) (number : ℕ) (line : List ℕ) (n : number ≡ suc cut.count) where
  abbrev numbered : NumberedLine
  numbered = record { number = number; text = line }

  module _ (out : cut.«open» ≡ None) where
    when : (short opened blank : Bool) → is_short line ≡ short → opens_load line ≡ opened → is_blank line ≡ blank →
        with_line cut line ≡ (if short && opened then record { count = number; whole = cut.whole; «open» = Some (record { head = numbered; nodes = [] }) }
        else (if short && blank then record { count = number; whole = cut.whole; «open» = None }
        else record { count = number; whole = cut.whole ++ single numbered ∷ []; «open» = None }))
    when short opened blank s o b = at_place cut None number line out n ∙ simp (s, o, b)

    pub cut-long : LINE_BYTES < length line → with_line cut line ≡ record { count = number; whole = cut.whole ++ single numbered ∷ []; «open» = None }
    cut-long h = when false (opens_load line) (is_blank line) (is_short-false line h) refl refl

    pub cut-opens : length line ≤ LINE_BYTES → opens_load line ≡ true → with_line cut line ≡ record { count = number; whole = cut.whole; «open» = Some (record { head = numbered; nodes = [] }) }
    cut-opens h o = when true true (is_blank line) (is_short-true line h) o refl

    pub cut-blank : length line ≤ LINE_BYTES → opens_load line ≡ false → is_blank line ≡ true → with_line cut line ≡ record { count = number; whole = cut.whole; «open» = None }
    cut-blank h o b = when true false true (is_short-true line h) o b

    pub cut-single : length line ≤ LINE_BYTES → opens_load line ≡ false → is_blank line ≡ false → with_line cut line ≡ record { count = number; whole = cut.whole ++ single numbered ∷ []; «open» = None }
    cut-single h o b = when true false false (is_short-true line h) o b

  module _ (lines : LoadLines) (within : cut.«open» ≡ Some lines) where
    when_in : (short ended blank : Bool) → is_short line ≡ short → ends_load line ≡ ended → is_blank line ≡ blank →
        with_line cut line ≡ (if short && ended then record { count = number; whole = cut.whole ++ load lines (Some number) ∷ []; «open» = None }
        else (if short && blank then record { count = number; whole = cut.whole; «open» = Some lines }
        else record { count = number; whole = cut.whole; «open» = Some (record lines { nodes = lines.nodes ++ numbered ∷ [] }) }))
    when_in short ended blank s e b = at_place cut (Some lines) number line within n ∙ simp (s, e, b)

    pub cut-long_node : LINE_BYTES < length line → with_line cut line ≡ record { count = number; whole = cut.whole; «open» = Some (record lines { nodes = lines.nodes ++ numbered ∷ [] }) }
    cut-long_node h = when_in false (ends_load line) (is_blank line) (is_short-false line h) refl refl

    pub cut-ends : length line ≤ LINE_BYTES → ends_load line ≡ true → with_line cut line ≡ record { count = number; whole = cut.whole ++ load lines (Some number) ∷ []; «open» = None }
    cut-ends h e = when_in true true (is_blank line) (is_short-true line h) e refl

    pub cut-blank_node : length line ≤ LINE_BYTES → ends_load line ≡ false → is_blank line ≡ true → with_line cut line ≡ record { count = number; whole = cut.whole; «open» = Some lines }
    cut-blank_node h e b = when_in true false true (is_short-true line h) e b

    pub cut-node : length line ≤ LINE_BYTES → ends_load line ≡ false → is_blank line ≡ false → with_line cut line ≡ record { count = number; whole = cut.whole; «open» = Some (record lines { nodes = lines.nodes ++ numbered ∷ [] }) }
    cut-node h e b = when_in true false false (is_short-true line h) e b
