-- A line that is pushed grows the tree.
use Rattle.std.proofs.Common.{◌≡◌, ℕ, suc, ◌+◌, ◌/◌, ◌%◌, Bool, true, false, cond, eqb, List, [], ◌∷◌, ◌++◌, take, Option, Some, None, Result, Ok, Err, refl, sym, ap, subst, ◌∙◌, append_assoc, add-one, arith}
use Rattle.std.specs.Prelude.{slice_get, fold, count_by}
use Rattle.std.proofs.lemmas.List.{append-nil}
use Rattle.smil_model.specs.declared.order.Refusal.{Refusal}
use Rattle.smil_model.specs.declared.order.Refusal.TheVariants as refusal
use Rattle.smil_grammar.specs.declared.fault.NodeFault.{NodeFault}
use Rattle.smil_grammar.specs.Results.{◌>>=◌}
use Rattle.smil_grammar.specs.Outlines.{in_line, refuse_if}
use Rattle.smil_switch.specs.declared.chosen.Chosen.{Chosen}
use Rattle.smil_switch.specs.declared.chosen.Chosen.TheVariants.{Dropped}
use Rattle.smil_switch.specs.declared.chosen.Below.{Below}
use Rattle.smil_switch.specs.declared.chosen.Below.TheVariants.{Aside, Open, Switch, Taken}
use Rattle.smil_switch.specs.Preferences.{Wanted}
use Rattle.smil_switch.specs.Choices.{Choice, Seen, seen, is_switch, is_of_switch, line_holds, repeats_test, raised, with_kept, judged, with_below, pushed, unchosen}
use Rattle.smil_switch.specs.Trees.{Forest, bare, grown, stays, is_true}
use Rattle.smil_switch.specs.Laws.{with_chosen, all_pushed, ChoiceIsOfTheTree}
use Rattle.smil_switch.proofs.LastBranch.{beside_of, below_of, step, lower, deep, spine, alone, front, picked, level_at, cur_same, level_counts, switches, switches_counted, picked_grown, spine_grown, picked_choice}

-- what a pushed line does to the levels, and what it adds to the lines that are kept
pub record IsPushed (c : Choice) (s : Seen) (d : ℕ) (b : Below) (h switch : Bool) (r : Choice × Chosen) : Type 0 where
  pub wanted : r.0.wanted ≡ c.wanted
  pub levels : r.0.levels ≡ take d c.levels ++ beside_of b h ∷ below_of b h switch ∷ []
  pub kept : (rest : List (List ℕ × ℕ)) → with_chosen r.0 r.1 rest ≡ alone b h switch (raised c d) s ++ rest

keeps_open : (c : Choice) (d : ℕ) (s : Seen) (switch : Bool) → IsPushed c s d Open true switch (with_kept c d Open s switch)
keeps_open c d s true = record { wanted = refl; levels = refl; kept = λ rest. refl }
keeps_open c d s false = record { wanted = refl; levels = refl; kept = λ rest. refl }

keeps_switch : (c : Choice) (d : ℕ) (s : Seen) (switch : Bool) → IsPushed c s d Switch true switch (with_kept c d Switch s switch)
keeps_switch c d s true = record { wanted = refl; levels = refl; kept = λ rest. refl }
keeps_switch c d s false = record { wanted = refl; levels = refl; kept = λ rest. refl }

judges_open : (c : Choice) (d : ℕ) (s : Seen) (h : Bool) → IsPushed c s d Open h (is_switch s.shape) (judged c d Open s h)
judges_open c d s true = keeps_open c d s (is_switch s.shape)
judges_open c d s false = record { wanted = refl; levels = refl; kept = λ rest. refl }

judges_switch : (c : Choice) (d : ℕ) (s : Seen) (h : Bool) → IsPushed c s d Switch h (is_switch s.shape) (judged c d Switch s h)
judges_switch c d s true = keeps_switch c d s (is_switch s.shape)
judges_switch c d s false = record { wanted = refl; levels = refl; kept = λ rest. refl }

abbrev Judges : Below → Type 0
Judges b = (c : Choice) (d : ℕ) (s : Seen) (h : Bool) → IsPushed c s d b h (is_switch s.shape) (judged c d b s h)

by_test : (b : Below) → Judges b → (c : Choice) (d : ℕ) (s : Seen) (twice : Bool) (found : Result Bool NodeFault) (r : Choice × Chosen)
    → (refuse_if twice refusal.BadOutline >>= λ single. in_line s.spaces found >>= λ h. Ok (judged c d b s h)) ≡ Ok r
    → IsPushed c s d b (is_true found) (is_switch s.shape) r
by_test b judges c d s true found r e = absurd cc
by_test b judges c d s false (Err f) r e = absurd cc
by_test b judges c d s false (Ok h) r e =
    let same : judged c d b s h ≡ r = cc in
    subst (λ (x : Choice × Chosen). IsPushed c s d b h (is_switch s.shape) x) same (judges c d s h)

abbrev jump : Result (Choice × Chosen) Refusal
jump = Err refusal.DepthJump

never : (twice : Bool) (r : Choice × Chosen) → (refuse_if twice refusal.BadOutline >>= λ single. jump) ≡ Ok r → ⊥
never true r e = cc
never false r e = cc

-- below which line it stands
abbrev Stands : Choice → Seen → ℕ → Option Below → Choice × Chosen → Type 0
Stands c s d found r = (b : Below) × ((found ≡ Some b) × IsPushed c s d b (stays c.wanted s) (is_switch s.shape) r)

by_level : (c : Choice) (d : ℕ) (s : Seen) (found : Option Below) (r : Choice × Chosen) → with_below c d found s ≡ Ok r → Stands c s d found r
by_level c d s None r e = absurd (never (repeats_test s.shape) r e)
by_level c d s (Some Open) r e = (Open, (refl, by_test Open judges_open c d s (repeats_test s.shape) (line_holds c.wanted s.shape) r e))
by_level c d s (Some Switch) r e = (Switch, (refl, by_test Switch judges_switch c d s (repeats_test s.shape) (line_holds c.wanted s.shape) r e))
by_level c d s (Some Aside) r e =
    let same : (record c { levels = take d c.levels ++ Aside ∷ Aside ∷ [] }, Dropped) ≡ r = cc in
    (Aside, (refl, subst (λ (x : Choice × Chosen). IsPushed c s d Aside (stays c.wanted s) (is_switch s.shape) x) same (record { wanted = refl; levels = refl; kept = λ rest. refl })))
by_level c d s (Some Taken) r e =
    let same : (record c { levels = take d c.levels ++ Taken ∷ Aside ∷ [] }, Dropped) ≡ r = cc in
    (Taken, (refl, subst (λ (x : Choice × Chosen). IsPushed c s d Taken (stays c.wanted s) (is_switch s.shape) x) same (record { wanted = refl; levels = refl; kept = λ rest. refl })))

by_spaces : (c : Choice) (d : ℕ) (s : Seen) (odd : Bool) (found : Option Below) (r : Choice × Chosen)
    → (refuse_if odd refusal.BadOutline >>= λ even. with_below c d found s) ≡ Ok r → Stands c s d found r
by_spaces c d s true found r e = absurd cc
by_spaces c d s false found r e = by_level c d s found r e

pushed_stands : (c : Choice) (line : List ℕ) (r : Choice × Chosen) → pushed c line ≡ Ok r
    → Stands c (seen line) ((seen line).spaces / 2) (slice_get c.levels ((seen line).spaces / 2)) r
pushed_stands c line r e = by_spaces c ((seen line).spaces / 2) (seen line) (eqb ((seen line).spaces % 2) 1) (slice_get c.levels ((seen line).spaces / 2)) r e

-- the levels are those of the tree so far
pub record IsAt (w : Wanted) (c : Choice) (forest : Forest) : Type 0 where
  pub wanted : c.wanted ≡ w
  pub levels : c.levels ≡ spine w Open forest

raised_is : (w : Wanted) (c : Choice) (forest : Forest) (d : ℕ) → IsAt w c forest → level_at 0 d (deep w Open forest) ≡ raised c d
raised_is w c forest d at =
    let next : d + 1 ≡ suc d = add-one d in
    let none : 0 + switches (take d (deep w Open forest)) ≡ switches (take d (deep w Open forest)) = omega arith in
    level_counts 0 d (deep w Open forest) ∙ none
    ∙ sym (ap (λ (levels : List Below). count_by is_of_switch (take (d + 1) levels)) at.levels ∙ ap (λ (k : ℕ). count_by is_of_switch (take k (spine w Open forest))) next
    ∙ sym (switches_counted (take (suc d) (spine w Open forest)))
    ∙ ap (λ (t : Bool). cond t (1 + switches (take d (deep w Open forest))) (switches (take d (deep w Open forest)))) (cur_same w Open forest))

goes_on : (w : Wanted) (c : Choice) (forest : Forest) (line : List ℕ) (r : Choice × Chosen) → IsAt w c forest → pushed c line ≡ Ok r
    → IsAt w r.0 (grown ((seen line).spaces / 2) (seen line) forest)
    × ((rest : List (List ℕ × ℕ)) → picked w Open 0 (grown ((seen line).spaces / 2) (seen line) forest) ++ rest ≡ picked w Open 0 forest ++ with_chosen r.0 r.1 rest)
goes_on w c forest line r at e =
    let d : ℕ = (seen line).spaces / 2 in
    let s : Seen = seen line in
    let stands : Stands c s d (slice_get c.levels d) r = pushed_stands c line r e in
    let b : Below = stands.0 in
    let level : slice_get (spine w Open forest) d ≡ Some b = ap (λ (levels : List Below). slice_get levels d) (sym at.levels) ∙ stands.1.0 in
    let p0 : IsPushed c s d b (stays c.wanted s) (is_switch s.shape) r = stands.1.1 in
    let p : IsPushed c s d b (stays w s) (is_switch s.shape) r = subst (λ (x : Wanted). IsPushed c s d b (stays x s) (is_switch s.shape) r) at.wanted p0 in (
      record {
        wanted = p.wanted ∙ at.wanted;
        levels = p.levels ∙ ap (λ (levels : List Below). take d levels ++ step w b s ∷ lower w b s ∷ []) at.levels ∙ sym (spine_grown w Open d s forest b level);
      },
      λ rest.
          ap (λ (l : List (List ℕ × ℕ)). l ++ rest) (picked_grown w Open 0 d s forest b level)
          ∙ append_assoc (picked w Open 0 forest) (front w b (level_at 0 d (deep w Open forest)) s) rest
          ∙ ap (λ (n : ℕ). picked w Open 0 forest ++ (front w b n s ++ rest)) (raised_is w c forest d at)
          ∙ ap (λ (l : List (List ℕ × ℕ)). picked w Open 0 forest ++ l) (sym (p.kept rest)),
    )

abbrev grow : Forest → List ℕ → Forest
grow forest line = grown ((seen line).spaces / 2) (seen line) forest

-- from a choice on, the lines that are kept of these
abbrev GoesOn : Wanted → List (List ℕ) → Type 0
GoesOn w lines = (c : Choice) (forest : Forest) (given : List (List ℕ × ℕ)) → IsAt w c forest → all_pushed c lines ≡ Ok given
    → picked w Open 0 forest ++ given ≡ picked w Open 0 (fold grow forest lines)

by_rest : (w : Wanted) (line : List ℕ) (lines : List (List ℕ)) → GoesOn w lines → (c : Choice) (forest : Forest) (given : List (List ℕ × ℕ)) → IsAt w c forest
    → (next : Choice × Chosen) → pushed c line ≡ Ok next → (more : Result (List (List ℕ × ℕ)) Refusal) → all_pushed next.0 lines ≡ more → (more >>= λ rest. Ok (with_chosen next.0 next.1 rest)) ≡ Ok given
    → picked w Open 0 forest ++ given ≡ picked w Open 0 (fold grow (grow forest line) lines)
by_rest w line lines again c forest given at next p (Err f) m e = absurd cc
by_rest w line lines again c forest given at next p (Ok rest) m e =
    let same : with_chosen next.0 next.1 rest ≡ given = cc in
    let on : IsAt w next.0 (grow forest line) × ((rest : List (List ℕ × ℕ)) → picked w Open 0 (grow forest line) ++ rest ≡ picked w Open 0 forest ++ with_chosen next.0 next.1 rest) = goes_on w c forest line next at p in
    ap (λ (l : List (List ℕ × ℕ)). picked w Open 0 forest ++ l) (sym same) ∙ sym (on.1 rest) ∙ again next.0 (grow forest line) rest on.0 m

by_first : (w : Wanted) (line : List ℕ) (lines : List (List ℕ)) → GoesOn w lines → (c : Choice) (forest : Forest) (given : List (List ℕ × ℕ)) → IsAt w c forest
    → (first : Result (Choice × Chosen) Refusal) → pushed c line ≡ first → (first >>= λ next. all_pushed next.0 lines >>= λ rest. Ok (with_chosen next.0 next.1 rest)) ≡ Ok given
    → picked w Open 0 forest ++ given ≡ picked w Open 0 (fold grow (grow forest line) lines)
by_first w line lines again c forest given at (Err f) p e = absurd cc
by_first w line lines again c forest given at (Ok next) p e = by_rest w line lines again c forest given at next p (all_pushed next.0 lines) refl e

all_go_on : (w : Wanted) (lines : List (List ℕ)) → GoesOn w lines
all_go_on w [] c forest given at e =
    let none : [] ≡ given = cc in
    ap (λ (l : List (List ℕ × ℕ)). picked w Open 0 forest ++ l) (sym none) ∙ append-nil (picked w Open 0 forest)
all_go_on w (line ∷ lines) c forest given at e = by_first w line lines (all_go_on w lines) c forest given at (pushed c line) refl e

pub of_the_tree : ChoiceIsOfTheTree
of_the_tree w lines given e =
    all_go_on w lines (unchosen w) bare given (record { wanted = refl; levels = refl }) e
    ∙ (picked_choice w 0 (fold grow bare lines)).0
