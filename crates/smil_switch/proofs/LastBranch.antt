-- The levels of a choice are those along the last branch of the tree.
use Rattle.std.proofs.Common.{◌≡◌, ℕ, zero, suc, ◌+◌, Bool, true, false, cond, List, [], ◌∷◌, ◌++◌, take, Some, refl, sym, ap, ◌∙◌, append_assoc, arith}
use Rattle.std.specs.Prelude.{slice_get, count_by}
use Rattle.std.proofs.lemmas.List.{append-nil}
use Rattle.std.proofs.lemmas.List.Recursion.{is_count_by}
use Rattle.smil_switch.specs.declared.chosen.Below.{Below}
use Rattle.smil_switch.specs.declared.chosen.Below.TheVariants.{Aside, Open, Switch, Taken}
use Rattle.smil_switch.specs.Preferences.{Wanted}
use Rattle.smil_switch.specs.Choices.{Seen, is_switch, is_of_switch, below_kept}
use Rattle.smil_switch.specs.Trees.{Forest, bare, tree, grown, stays, kept, choice}

-- how lines beside a line fare behind it, and those below it
abbrev pub beside_of : Below → Bool → Below
beside_of Switch true = Taken
beside_of Switch false = Switch
beside_of Aside holds = Aside
beside_of Open holds = Open
beside_of Taken holds = Taken

abbrev pub below_of : Below → Bool → Bool → Below
below_of Open true switch = below_kept switch
below_of Switch true switch = below_kept switch
below_of f holds switch = Aside

abbrev pub step : Wanted → Below → Seen → Below
step w f line = beside_of f (stays w line)

abbrev pub lower : Wanted → Below → Seen → Below
lower w f line = below_of f (stays w line) (is_switch line.shape)

-- how one more line beside these fares
abbrev pub cur : Wanted → Below → Forest → Below
cur w f bare = f
cur w f (tree line under beside) = cur w (step w f line) beside

-- and one below the last of them, level by level
abbrev pub deep : Wanted → Below → Forest → List Below
deep w f bare = []
deep w f (tree line under bare) = cur w (lower w f line) under ∷ deep w (lower w f line) under
deep w f (tree line under (tree second low beside)) = deep w (step w f line) (tree second low beside)

abbrev pub spine : Wanted → Below → Forest → List Below
spine w f forest = cur w f forest ∷ deep w f forest

-- one level more below a switch
abbrev pub within : ℕ → Below → ℕ
within n f = cond (is_of_switch f) (suc n) n

-- the line itself, where it is kept
abbrev pub alone : Below → Bool → Bool → ℕ → Seen → List (List ℕ × ℕ)
alone Open true false n line = kept n line ∷ []
alone Switch true false n line = kept n line ∷ []
alone f holds switch n line = []

abbrev pub front : Wanted → Below → ℕ → Seen → List (List ℕ × ℕ)
front w f n line = alone f (stays w line) (is_switch line.shape) n line

-- the lines that are kept of a forest whose lines fare so
abbrev pub picked : Wanted → Below → ℕ → Forest → List (List ℕ × ℕ)
picked w f n bare = []
picked w f n (tree line under beside) =
    front w f n line ++ (picked w (lower w f line) (within n (lower w f line)) under ++ picked w (step w f line) n beside)

-- how many levels higher the lines of a level are
abbrev pub level_at : ℕ → ℕ → List Below → ℕ
level_at n zero levels = n
level_at n (suc d) [] = n
level_at n (suc d) (f ∷ levels) = level_at (within n f) d levels

-- ---- a level stays that of a switch or of none

beside_same : (f : Below) (holds : Bool) → is_of_switch (beside_of f holds) ≡ is_of_switch f
beside_same Aside holds = refl
beside_same Open holds = refl
beside_same Switch true = refl
beside_same Switch false = refl
beside_same Taken holds = refl

pub cur_same : (w : Wanted) (f : Below) (forest : Forest) → is_of_switch (cur w f forest) ≡ is_of_switch f
cur_same w f bare = refl
cur_same w f (tree line under beside) = cur_same w (step w f line) beside ∙ beside_same f (stays w line)

abbrev pub switches : List Below → ℕ
switches [] = 0
switches (f ∷ levels) = cond (is_of_switch f) (1 + switches levels) (switches levels)

pub switches_counted : (levels : List Below) → switches levels ≡ count_by is_of_switch levels
switches_counted levels = is_count_by switches is_of_switch refl (λ f others. refl) levels

within_count : (n : ℕ) (t : Bool) (rest : ℕ) → cond t (suc n) n + rest ≡ n + cond t (1 + rest) rest
within_count n true rest = omega arith
within_count n false rest = omega arith

pub level_counts : (n d : ℕ) (levels : List Below) → level_at n d levels ≡ n + switches (take d levels)
level_counts n zero levels = omega arith
level_counts n (suc d) [] = omega arith
level_counts n (suc d) (f ∷ levels) = level_counts (within n f) d levels ∙ within_count n (is_of_switch f) (switches (take d levels))

-- ---- one line more

nested : {A : Type 0} (a b c d : List A) → a ++ (b ++ (c ++ d)) ≡ (a ++ (b ++ c)) ++ d
nested a b c d = simp append_assoc

under_more : {A : Type 0} (a b d : List A) → a ++ ((b ++ d) ++ []) ≡ (a ++ (b ++ [])) ++ d
under_more a b d = simp (append_assoc, append-nil)

pub picked_grown : (w : Wanted) (f : Below) (n d : ℕ) (line : Seen) (forest : Forest) (b : Below) → slice_get (spine w f forest) d ≡ Some b
    → picked w f n (grown d line forest) ≡ picked w f n forest ++ front w b (level_at n d (deep w f forest)) line
picked_grown w f n zero line bare b e =
    let same : f ≡ b = cc in
    append-nil (front w f n line) ∙ ap (λ (g : Below). front w g n line) same
picked_grown w f n zero line (tree y u bs) b e =
    ap (λ (l : List (List ℕ × ℕ)). front w f n y ++ (picked w (lower w f y) (within n (lower w f y)) u ++ l)) (picked_grown w (step w f y) n zero line bs b e)
    ∙ nested (front w f n y) (picked w (lower w f y) (within n (lower w f y)) u) (picked w (step w f y) n bs) (front w b n line)
picked_grown w f n (suc d) line bare b e = absurd cc
picked_grown w f n (suc d) line (tree y u bare) b e =
    let g : Below = lower w f y in
    let below : picked w g (within n g) (grown d line u) ≡ picked w g (within n g) u ++ front w b (level_at (within n g) d (deep w g u)) line = picked_grown w g (within n g) d line u b e in
    let level : within n g ≡ within n (cur w g u) = ap (λ (t : Bool). cond t (suc n) n) (sym (cur_same w g u)) in
    ap (λ (l : List (List ℕ × ℕ)). front w f n y ++ (l ++ [])) below
    ∙ under_more (front w f n y) (picked w g (within n g) u) (front w b (level_at (within n g) d (deep w g u)) line)
    ∙ ap (λ (k : ℕ). (front w f n y ++ (picked w g (within n g) u ++ [])) ++ front w b (level_at k d (deep w g u)) line) level
picked_grown w f n (suc d) line (tree y u (tree z lo bs)) b e =
    ap (λ (l : List (List ℕ × ℕ)). front w f n y ++ (picked w (lower w f y) (within n (lower w f y)) u ++ l)) (picked_grown w (step w f y) n (suc d) line (tree z lo bs) b e)
    ∙ nested (front w f n y) (picked w (lower w f y) (within n (lower w f y)) u) (picked w (step w f y) n (tree z lo bs)) (front w b (level_at n (suc d) (deep w (step w f y) (tree z lo bs))) line)

pub spine_grown : (w : Wanted) (f : Below) (d : ℕ) (line : Seen) (forest : Forest) (b : Below) → slice_get (spine w f forest) d ≡ Some b
    → spine w f (grown d line forest) ≡ take d (spine w f forest) ++ step w b line ∷ lower w b line ∷ []
spine_grown w f zero line bare b e =
    let same : f ≡ b = cc in
    ap (λ (g : Below). step w g line ∷ lower w g line ∷ []) same
spine_grown w f zero line (tree y u bare) b e = spine_grown w (step w f y) zero line bare b e
spine_grown w f zero line (tree y u (tree z lo bs)) b e = spine_grown w (step w f y) zero line (tree z lo bs) b e
spine_grown w f (suc d) line bare b e = absurd cc
spine_grown w f (suc d) line (tree y u bare) b e =
    ap (λ (l : List Below). step w f y ∷ l) (spine_grown w (lower w f y) d line u b e)
spine_grown w f (suc d) line (tree y u (tree z lo bare)) b e = spine_grown w (step w f y) (suc d) line (tree z lo bare) b e
spine_grown w f (suc d) line (tree y u (tree z lo (tree x l2 bs))) b e = spine_grown w (step w f y) (suc d) line (tree z lo (tree x l2 bs)) b e

-- ---- the choice of the tree

none_picked : (w : Wanted) (n : ℕ) (forest : Forest) → (picked w Aside n forest ≡ []) × (picked w Taken n forest ≡ [])
none_picked w n bare = (refl, refl)
none_picked w n (tree line under beside) =
    let a : picked w Aside n under ≡ [] = (none_picked w n under).0 in
    let b = none_picked w n beside in
    (rw (a, b.0) refl, rw (a, b.1) refl)

open_choice : (w : Wanted) (n : ℕ) (line : Seen) (under beside : Forest) (h s : Bool)
    → picked w Open n under ≡ choice w false n under → picked w Switch (suc n) under ≡ choice w true (suc n) under → picked w Open n beside ≡ choice w false n beside
    → alone Open h s n line ++ (picked w (below_of Open h s) (within n (below_of Open h s)) under ++ picked w Open n beside)
    ≡ cond h (cond s (choice w true (suc n) under) (kept n line ∷ choice w false n under)) [] ++ choice w false n beside
open_choice w n line under beside false s a b c = rw ((none_picked w n under).0, c) refl
open_choice w n line under beside true true a b c = rw (b, c) refl
open_choice w n line under beside true false a b c = rw (a, c) refl

switch_choice : (w : Wanted) (n : ℕ) (line : Seen) (under beside : Forest) (h s : Bool)
    → picked w Open n under ≡ choice w false n under → picked w Switch (suc n) under ≡ choice w true (suc n) under → picked w Switch n beside ≡ choice w true n beside
    → alone Switch h s n line ++ (picked w (below_of Switch h s) (within n (below_of Switch h s)) under ++ picked w (beside_of Switch h) n beside)
    ≡ cond h (cond s (choice w true (suc n) under) (kept n line ∷ choice w false n under)) (choice w true n beside)
switch_choice w n line under beside false s a b c = rw ((none_picked w n under).0, c) refl
switch_choice w n line under beside true true a b c = rw (b, (none_picked w n beside).1) (append-nil (choice w true (suc n) under))
switch_choice w n line under beside true false a b c = rw (a, (none_picked w n beside).1) (ap (λ (l : List (List ℕ × ℕ)). kept n line ∷ l) (append-nil (choice w false n under)))

pub picked_choice : (w : Wanted) (n : ℕ) (forest : Forest) → (picked w Open n forest ≡ choice w false n forest) × (picked w Switch n forest ≡ choice w true n forest)
picked_choice w n bare = (refl, refl)
picked_choice w n (tree line under beside) =
    let here = picked_choice w n under in
    let more = picked_choice w (suc n) under in
    let others = picked_choice w n beside in (
      open_choice w n line under beside (stays w line) (is_switch line.shape) here.0 more.1 others.0,
      switch_choice w n line under beside (stays w line) (is_switch line.shape) here.0 more.1 others.1,
    )
