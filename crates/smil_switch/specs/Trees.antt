-- The choice among the lines of an outline, over the tree that their depths make.
use Rattle.std.specs.Prelude.{ℕ, zero, suc, ◌/◌, Bool, true, false, List, [], ◌∷◌, ◌++◌, fold, Result, Ok, Err, if◌then◌else◌}
use Rattle.smil_grammar.specs.declared.fault.NodeFault.{NodeFault}
use Rattle.smil_switch.specs.Preferences.{Wanted}
use Rattle.smil_switch.specs.Choices.{Seen, seen, is_switch, line_holds, kept_line}

-- Lines in their order: the first, those below it, and those beside it.
pub data Forest : Type 0 where
  bare : Forest
  tree : Seen → Forest → Forest → Forest

-- with one more line at this depth, behind all others
abbrev pub grown : ℕ → Seen → Forest → Forest
grown zero line bare = tree line bare bare
grown zero line (tree first below beside) = tree first below (grown zero line beside)
grown (suc d) line bare = bare
grown (suc d) line (tree first below bare) = tree first (grown d line below) bare
grown (suc d) line (tree first below (tree second lower beside)) =
    tree first below (grown (suc d) line (tree second lower beside))

-- the tree of these lines, two spaces deeper for each level
abbrev pub forest_of : List (List ℕ) → Forest
forest_of lines =
    fold (λ forest line. grown ((seen line).spaces / 2) (seen line) forest) bare lines

-- whether a line was found without fault, and all its tests hold
abbrev pub is_true : Result Bool NodeFault → Bool
is_true (Ok holds) = holds
is_true (Err fault) = false

-- whether all tests of a line hold
abbrev pub stays : Wanted → Seen → Bool
stays wanted line = is_true (line_holds wanted line.shape)

-- a line that is kept, and by how many levels it is raised
abbrev pub kept : ℕ → Seen → List ℕ × ℕ
kept n line = (kept_line line.spaces line.shape line.line, n)

-- A line whose tests don't hold goes with all below it. A switch is replaced by the first line
-- below it whose tests hold, chosen further in the same way, one level higher.

-- of lines below a switch, or of others, so many levels higher
abbrev pub choice : Wanted → Bool → ℕ → Forest → List (List ℕ × ℕ)
choice wanted one n bare = []
choice wanted true n (tree line below beside) =
    if stays wanted line
    then (if is_switch line.shape then choice wanted true (suc n) below
    else kept n line ∷ choice wanted false n below)
    else choice wanted true n beside
choice wanted false n (tree line below beside) =
    (if stays wanted line
    then (if is_switch line.shape then choice wanted true (suc n) below
    else kept n line ∷ choice wanted false n below)
    else [])
    ++ choice wanted false n beside

-- the lines of an outline that are kept, each with the number of levels by which it is raised
abbrev pub chosen_lines : Wanted → List (List ℕ) → List (List ℕ × ℕ)
chosen_lines wanted lines = choice wanted false 0 (forest_of lines)
