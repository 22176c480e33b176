-- The search for the groups of places that lead to one another.
use Rattle.std.specs.Prelude.{◌≡◌, ℕ, ◌+◌, ◌-◌, ◌*◌, ◌<◌, ◌≤◌, List, [], ◌∷◌, ◌++◌, length, take, drop, Bool, true, false, ⊤, if◌then◌else◌, nat_lt, count_by, slice_get, slice_set, slice_index, slice_index_or, replicate}
use Rattle.smil_graph.specs.declared.components.Visit.{Visit}
use Rattle.smil_graph.specs.declared.components.Visit.TheVariants.{New, Open, Done}
use Rattle.smil_model.specs.document.Closure.{has}
use Rattle.smil_graph.specs.Links.{row, links, LeadsTo}
use Rattle.smil_model.specs.reach.Reach.{is_option}

-- how far a search has come
pub record Grouping : Type 0 where
  -- of each place whether it is new, open (with its position among the members) or done (with the
  -- number of its group)
  pub marks : List Visit
  -- of each place how many of its links were followed
  pub next : List ℕ
  -- the places of the open groups, group by group
  pub members : List ℕ
  -- where the open groups start, the last one first
  pub starts : List ℕ
  -- where the places stand whose links are still followed, the last one first
  pub path : List ℕ
  -- how many groups are done
  pub closed : ℕ

abbrev pub mark_at : List Visit → ℕ → Visit
mark_at marks place = slice_index_or marks place New

abbrev pub is_new : Visit → Bool
is_new New = true
is_new _ = false

abbrev pub is_unfinished : Visit → Bool
is_unfinished (Done number) = false
is_unfinished _ = true

-- ---- steps

abbrev pub untouched : ℕ → Grouping
untouched count = record {
  marks = replicate count New;
  next = replicate count 0;
  members = [];
  starts = [];
  path = [];
  closed = 0;
}

-- a place is opened, in a group of its own
abbrev pub opened : Grouping → ℕ → Grouping
opened g place = record {
  marks = slice_set g.marks place (Open (length g.members));
  next = g.next;
  members = g.members ++ place ∷ [];
  starts = length g.members ∷ g.starts;
  path = length g.members ∷ g.path;
  closed = g.closed;
}

-- without the first ones that are above the position
abbrev pub without_above : ℕ → List ℕ → List ℕ
without_above position [] = []
without_above position (s ∷ starts) =
    if nat_lt position s then without_above position starts else s ∷ starts

-- the groups from that of the position on become one
abbrev pub merged : Grouping → ℕ → Grouping
merged g position = record g { starts = without_above position g.starts }

-- a link to a place with this mark is met
abbrev pub met : Grouping → ℕ → Visit → Grouping
met g place New = opened g place
met g place (Open position) = merged g position
met g place (Done number) = g

-- one more link of the place was followed
abbrev pub followed : Grouping → ℕ → Grouping
followed g place = record g { next = slice_set g.next place (slice_index g.next place + 1) }

abbrev pub marked_all : Visit → List ℕ → List Visit → List Visit
marked_all mark [] marks = marks
marked_all mark (place ∷ places) marks = marked_all mark places (slice_set marks place mark)

-- the last open group is done
abbrev pub closed_from : Grouping → ℕ → Grouping
closed_from g start = record {
  marks = marked_all (Done g.closed) (drop start g.members) g.marks;
  next = g.next;
  members = take start g.members;
  starts = drop 1 g.starts;
  path = g.path;
  closed = g.closed + 1;
}

abbrev pub off_path : Grouping → Grouping
off_path g = record g { path = drop 1 g.path }

-- the last place of the path is left, and its group is done where the place starts it
abbrev pub left : Grouping → ℕ → Grouping
left g position =
    if is_option position (slice_get g.starts 0) then closed_from (off_path g) position
    else off_path g

-- groups that were done later have higher levels
abbrev pub level_of : Visit → ℕ
level_of (Done number) = number
level_of _ = 0

-- ---- what holds at each step

-- the second position is in the group of the first, or in a later one
abbrev pub IsFrom : List ℕ → ℕ → ℕ → Type 0
IsFrom starts p q = (s : ℕ) → has starts s ≡ true → s ≤ p → s ≤ q

-- a place that a followed link of an open one leads to is done, or in the group of that one,
-- or in a later one
abbrev pub IsMet : List ℕ → ℕ → Visit → Type 0
IsMet starts p New = ⊥
IsMet starts p (Open q) = IsFrom starts p q
IsMet starts p (Done number) = ⊤

abbrev pub IsFalling : List ℕ → Type 0
IsFalling [] = ⊤
IsFalling (x ∷ xs) = ((y : ℕ) → has xs y ≡ true → y < x) × IsFalling xs

pub record IsGrouping (rows : List (List ℕ)) (g : Grouping) : Type 0 where
  pub marks_count : length g.marks ≡ length rows
  pub next_count : length g.next ≡ length rows
  pub placed : (p : ℕ) → p < length g.members → mark_at g.marks (slice_index g.members p) ≡ Open p
  pub stands : (a p : ℕ) → mark_at g.marks a ≡ Open p
      → (p < length g.members) × (slice_index g.members p ≡ a)
  -- each open place leads to all of its own group and of later ones
  pub leads :
      (a b p q : ℕ) → mark_at g.marks a ≡ Open p → mark_at g.marks b ≡ Open q → IsFrom g.starts p q
      → LeadsTo rows a b
  pub met :
      (a p k : ℕ) → mark_at g.marks a ≡ Open p → k < slice_index g.next a → k < length (row rows a)
      → IsMet g.starts p (mark_at g.marks (slice_index (row rows a) k))
  pub finished : (p : ℕ) → p < length g.members → has g.path p ≡ false
      → length (row rows (slice_index g.members p)) ≤ slice_index g.next (slice_index g.members p)
  pub fresh : (a : ℕ) → mark_at g.marks a ≡ New → slice_index g.next a ≡ 0
  -- each link of a place that is done leads to one that was done before it or with it
  pub done : (a b m : ℕ) → mark_at g.marks a ≡ Done m → links rows a b ≡ true
      → (k : ℕ) × (mark_at g.marks b ≡ Done k) × (k ≤ m) × (k ≡ m → LeadsTo rows b a)
  pub numbered : (a m : ℕ) → mark_at g.marks a ≡ Done m → m < g.closed
  -- a group that is done has a place
  pub few : g.closed + count_by is_unfinished g.marks ≤ length rows
  pub path : IsFalling (length g.members ∷ g.path)
  pub falling : IsFalling g.starts
  -- the place that starts an open group is on the path
  pub on_path : (s : ℕ) → has g.starts s ≡ true → has g.path s ≡ true
  pub first : 0 < length g.members → has g.starts 0 ≡ true

-- no place becomes new again
abbrev pub StayKnown : List Visit → List Visit → Type 0
StayKnown old new = (a : ℕ) → mark_at new a ≡ New → mark_at old a ≡ New

-- ---- the links that are still to be followed

abbrev pub links_left : List (List ℕ) → List ℕ → ℕ
links_left [] next = 0
links_left (r ∷ rows) [] = 0
links_left (r ∷ rows) (k ∷ next) = (length r - k) + links_left rows next

abbrev pub work_left : List (List ℕ) → Grouping → ℕ
work_left rows g = 2 * links_left rows g.next + length g.path

-- a step of the search
pub record IsStep (rows : List (List ℕ)) (old new : Grouping) : Type 0 where
  pub grouping : IsGrouping rows new
  pub known : StayKnown old.marks new.marks
  pub less : work_left rows new < work_left rows old
