-- The orders of a script: each is a single line, or a load, which has the lines up to `%%`.
use Rattle.std.specs.Prelude.{ℕ, suc, Bool, not, ◌&&◌, List, [], ◌∷◌, ◌++◌, length, nat_lt, Option, Some, None, if◌then◌else◌}
use Rattle.smil_model.specs.declared.limits.TheConstants.{LINE_BYTES}
use Rattle.smil_grammar.specs.Scripts.{is_blank, opens_load}
use Rattle.smil_script.specs.Loads.{ends_load}

-- a line that isn't too long
abbrev pub is_short : List ℕ → Bool
is_short line = not (nat_lt LINE_BYTES (length line))

-- a line that has no answer
abbrev pub is_silent : List ℕ → Bool
is_silent line = is_short line && is_blank line

-- a line that opens a load
abbrev pub opens : List ℕ → Bool
opens line = is_short line && opens_load line

-- a line that ends a load
abbrev pub ends : List ℕ → Bool
ends line = is_short line && ends_load line

-- a line and its number, from 1
pub record NumberedLine : Type 0 where
  pub number : ℕ
  pub text : List ℕ

-- the line that opens a load, and the load's node lines
pub record LoadLines : Type 0 where
  pub head : NumberedLine
  pub nodes : List NumberedLine

-- the lines of an order; a load has the number of the line that ends it, or the input ends before
pub data OrderLines : Type 0 where
  single : NumberedLine → OrderLines
  load : LoadLines → Option ℕ → OrderLines

-- the number of an order's first line
abbrev pub first_line : OrderLines → ℕ
first_line (single line) = line.number
first_line (load lines ended) = lines.head.number

-- how many lines there were, the orders that are whole, and the load that hasn't ended
pub record CutLines : Type 0 where
  pub count : ℕ
  pub whole : List OrderLines
  pub «open» : Option LoadLines

-- with a line outside loads
abbrev pub cut_outside : List OrderLines → NumberedLine → CutLines
cut_outside whole line =
    if opens line.text then record {
      count = line.number;
      whole = whole;
      «open» = Some
          (record { head = line; nodes = [] });
    }
    else (if is_silent line.text then record { count = line.number; whole = whole; «open» = None }
    else record { count = line.number; whole = whole ++ single line ∷ []; «open» = None })

-- with a line inside a load
abbrev pub cut_inside : List OrderLines → LoadLines → NumberedLine → CutLines
cut_inside whole lines line =
    if ends line.text then record {
      count = line.number;
      whole = whole
          ++ load lines (Some line.number) ∷ [];
      «open» = None;
    }
    else (if is_silent line.text
    then record { count = line.number; whole = whole; «open» = Some lines }
    else record {
      count = line.number;
      whole = whole;
      «open» = Some
          (record lines { nodes = lines.nodes ++ line ∷ [] });
    })

-- with a numbered line, where a load is open or none is
abbrev pub cut_by : Option LoadLines → List OrderLines → NumberedLine → CutLines
cut_by None whole line = cut_outside whole line
cut_by (Some lines) whole line = cut_inside whole lines line

-- one more line
abbrev pub with_line : CutLines → List ℕ → CutLines
with_line cut text = cut_by cut.«open» cut.whole (record { number = suc cut.count; text = text })

-- line by line
abbrev pub cut_further : CutLines → List (List ℕ) → CutLines
cut_further cut [] = cut
cut_further cut (line ∷ lines) = cut_further (with_line cut line) lines

-- what all these lines are cut into
abbrev pub cut_of : List (List ℕ) → CutLines
cut_of lines = cut_further (record { count = 0; whole = []; «open» = None }) lines

-- the orders that are whole in these lines
abbrev pub whole_orders : List (List ℕ) → List OrderLines
whole_orders lines = (cut_of lines).whole

-- a load that the input doesn't end
abbrev pub unended : Option LoadLines → List OrderLines
unended None = []
unended (Some lines) = load lines None ∷ []

-- all orders of an input of these lines
abbrev pub orders : List (List ℕ) → List OrderLines
orders lines = (cut_of lines).whole ++ unended (cut_of lines).«open»
