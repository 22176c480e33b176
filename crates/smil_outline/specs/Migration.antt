-- Limits that are raised: an outline that meets no smaller limit is read the same within larger
-- ones.
use Rattle.std.specs.Prelude.{◌≡◌, ℕ, List, true}
use Rattle.smil_model.specs.document.Limits.{Limits}
use Rattle.smil_grammar.specs.Outlines.{Outline, line_within, outline_within}
use Rattle.smil_laws.specs.Migration.{AreBelow, meets_no_limit}

-- one more line is read the same within larger limits
abbrev pub LinesMigrate : Type 0
LinesMigrate =
    (small large : Limits) (outline : Outline) (line : List ℕ) → AreBelow small large
    → meets_no_limit (line_within small outline line) ≡ true
    → line_within large outline line ≡ line_within small outline line

-- and so is an outline, which is read or refused for another cause than a limit
abbrev pub OutlinesMigrate : Type 0
OutlinesMigrate =
    (small large : Limits) (lines : List (List ℕ)) → AreBelow small large
    → meets_no_limit (outline_within small lines) ≡ true
    → outline_within large lines ≡ outline_within small lines
