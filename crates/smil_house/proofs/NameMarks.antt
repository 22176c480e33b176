-- Presentations are found by the marks of their names.
use Rattle.std.proofs.Common.{◌≡◌, ◌≢◌, ℕ, ◌+◌, ◌<◌, ◌≤◌, Bool, true, false, List, [], ◌∷◌, ◌++◌, length, get_or, take, drop, refl, sym, ap, ◌∙◌, arith}
use Rattle.std.specs.Prelude.{Some, None, bytes_eq, cond, nat_lt, slice_set}
use Rattle.std.proofs.Math.Seq.{map-set_same}
use Rattle.std.proofs.lemmas.Bool.{lt-ltb, le-ltb}
use Rattle.std.proofs.lemmas.List.{drop-map, get_or-map, get_or_default, map-append}
use Rattle.std.proofs.lemmas.List.Sums.{position_or_len_is}
use Rattle.std.proofs.lemmas.Slice.Eq.{bytes_eq-Decides}
use Rattle.std.specs.List.{take-map}
use Rattle.smil_house.specs.declared.house.NamedPlayer.{NamedPlayer}
use Rattle.smil_house.specs.House.{place_of, without}
use Rattle.smil_house.specs.Marks.{mark_of, marks_of}

-- names of different marks differ
pub other_name : (one other : List ℕ) → mark_of one ≢ mark_of other → bytes_eq one other ≡ false
other_name one other apart = by (bytes_eq one other) refl
  where
    by : (t : Bool) → bytes_eq one other ≡ t → t ≡ false
    by false q = refl
    by true q = absurd (apart (ap mark_of ((bytes_eq-Decides one other).0 q)))

-- none of the first presentations has the name
abbrev pub AreOthers : {P : Type 0} → List ℕ → ℕ → List (NamedPlayer P) → Type 0
AreOthers {P = P} name first held =
    (k : ℕ) → k < first → (d : NamedPlayer P) → bytes_eq (get_or held k d).name name ≡ false

-- the first presentation that has the name
pub found : {P : Type 0} (name : List ℕ) (held : List (NamedPlayer P)) (place : ℕ) (d : NamedPlayer P)
    → place < length held → AreOthers name place held → bytes_eq (get_or held place d).name name ≡ true → place_of name held ≡ Some place
found name held place d within others here =
    ap (λ n. cond (nat_lt n (length held)) (Some n) None)
    (position_or_len_is (λ h. bytes_eq h.name name) held place d (omega (arith, within)) (λ k less. others k less d) (λ _. here))
    ∙ ap (λ t. cond t (Some place) None) (lt-ltb place (length held) within)

-- no presentation has the name
pub absent : {P : Type 0} (name : List ℕ) (held : List (NamedPlayer P)) (first : ℕ)
    → length held ≤ first → AreOthers name first held → place_of name held ≡ None
absent name [] first all others = refl
absent name (h ∷ hs) first all others =
    let n = length (h ∷ hs) in
    ap (λ k. cond (nat_lt k n) (Some k) None)
    (position_or_len_is (λ other. bytes_eq other.name name) (h ∷ hs) n h (omega arith) (λ k less. others k (omega (arith, less, all)) h) (λ less. absurd (omega (arith, less))))
    ∙ ap (λ t. cond t (Some n) None) (le-ltb n n (omega arith))

-- what was read at a place is what stands there
pub read : {P : Type 0} (items held : List (NamedPlayer P)) (place : ℕ) (h d : NamedPlayer P)
    → items ≡ held → place < length held → h ≡ get_or items place h → get_or held place d ≡ h
read items held place h d same within here =
    get_or_default held place d h within ∙ ap (λ xs. get_or xs place h) (sym same) ∙ sym here

pub mark_read : {P : Type 0} (marks : List ℕ) (held : List (NamedPlayer P)) (place mark : ℕ) (d : NamedPlayer P)
    → marks ≡ marks_of held → place < length held → mark ≡ get_or marks place mark → mark_of (get_or held place d).name ≡ mark
mark_read marks held place mark d are within here =
    sym (get_or-map (λ h. mark_of h.name) held place d mark within) ∙ ap (λ xs. get_or xs place mark) (sym are) ∙ sym here

-- the marks without one
pub without_mark : {P : Type 0} (place : ℕ) (old new : List (NamedPlayer P)) (before after : List ℕ)
    → before ≡ marks_of old → after ≡ take place before ++ drop (place + 1) before → new ≡ without place old → after ≡ marks_of new
without_mark place old new before after are less fewer =
    less ∙ ap (λ ms. take place ms ++ drop (place + 1) ms) are
    ∙ ap (λ ms. ms ++ drop (place + 1) (marks_of old)) (take-map (λ h. mark_of h.name) place old)
    ∙ ap (λ ms. marks_of (take place old) ++ ms) (drop-map (λ h. mark_of h.name) (place + 1) old)
    ∙ sym (map-append (λ h. mark_of h.name) (take place old) (drop (place + 1) old))
    ∙ ap marks_of (sym fewer)

-- another player under the same name leaves the marks
pub player_turned : {P : Type 0} (old : List (NamedPlayer P)) (place : ℕ) (h : NamedPlayer P) (player : P)
    → h ≡ get_or old place h → marks_of (slice_set old place (record { name = h.name; player = player })) ≡ marks_of old
player_turned old place h player here =
    map-set_same (λ x. mark_of x.name) old place (record { name = h.name; player = player }) h (ap (λ x. mark_of x.name) here)
