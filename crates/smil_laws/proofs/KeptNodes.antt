-- Two documents that are the same but for nodes that are set aside: what is read of the nodes that are kept is the same.
use Rattle.std.proofs.Common.{◌≡◌, refl, sym, ◌∙◌, ap, ℕ, suc, zero, ◌+◌, List, [], ◌∷◌, ◌++◌, Option, Some, None, ℤ, Bool, true, false}
use Rattle.std.specs.Prelude.{filter_map, min, unwrap_or, option_and_then, option_to_list, map, ◌||◌, ◌+ℤ◌, ◌-ℤ◌, ◌&&◌, pos, negsuc, cond, ◌==◌, reverse, drop, find, filter, fold}
use Rattle.std.specs.List.{list_any}
use Rattle.smil_model.specs.declared.times.Time.{Time}
use Rattle.smil_model.specs.Times.{within_horizon}
use Rattle.smil_model.specs.diary.Diary.{is_active, History, is_paused, is_alive, lives_under, birth_under, birth, deferral, deferral_after, iteration, iteration_after}
use Rattle.smil_model.specs.diary.Clocks.{between, outer_stands, stands_under, play_start, play_start_after, iteration_start, iteration_start_after, parent_start, start_under, until, stands_by, elapsed, run, outer_under, outer}
use Rattle.smil_model.specs.interval.Instances.{edge_time, happened_times, expected_times, sync_times, interval_edge}
use Rattle.smil_model.specs.declared.interval.Interval.{Interval}
use Rattle.smil_model.specs.declared.diary.Step.TheVariants.{Ended, Began, Cut}
use Rattle.smil_model.specs.declared.document.Edge.{Edge}
use Rattle.smil_model.specs.declared.document.Edge.TheVariants.{Begin, End}
use Rattle.smil_model.specs.declared.diary.Step.{Step}
use Rattle.smil_model.specs.document.Document.{time_children, is_time_child, has_serial, is_element, upwards, lineage, time_parent, is_in_seq, has_kind, is_seq_kind}
use Rattle.smil_model.specs.document.Defaults.{restart_stated, restart_or, restart_of, first_stated}
use Rattle.smil_model.specs.declared.document.Restart.TheVariants.{Always}
use Rattle.smil_model.specs.diary.Plays.{Plays, plays, play_after, is_birth_under, passed, passed_after}
use Rattle.smil_laws.proofs.ForeignEntries.{filter_map_each, fold_same}
use Rattle.std.proofs.lemmas.Bool.{eqb-true}
use Rattle.std.proofs.lemmas.List.{reverse-append, append-nil}
use Rattle.std.proofs.lemmas.List.Elements.{filter-append}
use Rattle.smil_model.specs.declared.diary.Entry.{Entry}
use Rattle.smil_model.specs.declared.diary.LogEntry.{LogEntry}
use Rattle.smil_model.specs.declared.document.Node.{Node}
use Rattle.smil_laws.proofs.LineageParents.{skip, take_it}

-- the parent of a node that is kept is kept
abbrev pub KeepsParents : (ℕ → Bool) → List Node → Type 0
KeepsParents kept [] = Unit {0}
KeepsParents kept (n ∷ ns) = (kept n.serial ≡ true → kept n.parent ≡ true) × KeepsParents kept ns

abbrev pub AllKept : (ℕ → Bool) → List Node → Type 0
AllKept kept [] = Unit {0}
AllKept kept (n ∷ ns) = (kept n.serial ≡ true) × AllKept kept ns

pub filter_reverse : (p : Node → Bool) (ns : List Node) → filter p (reverse ns) ≡ reverse (filter p ns)
filter_reverse p [] = refl
filter_reverse p (n ∷ ns) =
    ap (filter p) (reverse-append (n ∷ []) ns) ∙ filter-append p (reverse ns) (n ∷ []) ∙ ap (λ xs. xs ++ cond (p n) (n ∷ []) []) (filter_reverse p ns) ∙ by_test (p n)
  where
    by_test : (t : Bool) → reverse (filter p ns) ++ cond t (n ∷ []) [] ≡ reverse (cond t (n ∷ filter p ns) (filter p ns))
    by_test true = sym (reverse-append (n ∷ []) (filter p ns))
    by_test false = append-nil (reverse (filter p ns))

module _ (kept : ℕ → Bool) where
  abbrev is_kept : Node → Bool
  is_kept n = kept n.serial

  pub upwards_kept : (rs : List Node) (s : ℕ) → kept s ≡ true → KeepsParents kept rs → upwards rs s ≡ upwards (filter is_kept rs) s
  upwards_kept [] s k closed = refl
  upwards_kept (n ∷ before) s k closed = step (n.serial == s) (kept n.serial) refl refl (upwards_kept before s k closed.1) (λ j. upwards_kept before n.parent j closed.1)
    where
      step : (t u : Bool) → n.serial == s ≡ t → kept n.serial ≡ u → upwards before s ≡ upwards (filter is_kept before) s → (kept n.parent ≡ true → upwards before n.parent ≡ upwards (filter is_kept before) n.parent) → upwards (n ∷ before) s ≡ upwards (cond u (n ∷ filter is_kept before) (filter is_kept before)) s
      step true true t u here above = take_it n before s t ∙ ap (λ xs. n ∷ xs) (above (closed.0 u)) ∙ sym (take_it n (filter is_kept before) s t)
      step true false t u here above =
          let lost : false ≡ true = sym u ∙ ap kept (eqb-true n.serial s t) ∙ k in cc
      step false true t u here above = skip n before s t ∙ here ∙ sym (skip n (filter is_kept before) s t)
      step false false t u here above = skip n before s t ∙ here

  pub upwards_all : (rs : List Node) (s : ℕ) → kept s ≡ true → KeepsParents kept rs → AllKept kept (upwards rs s)
  upwards_all [] s k closed = tt
  upwards_all (n ∷ before) s k closed = step (n.serial == s) refl (upwards_all before s k closed.1) (λ j. upwards_all before n.parent j closed.1)
    where
      step : (t : Bool) → n.serial == s ≡ t → AllKept kept (upwards before s) → (kept n.parent ≡ true → AllKept kept (upwards before n.parent)) → AllKept kept (cond t (n ∷ upwards before (cond t n.parent s)) (upwards before (cond t n.parent s)))
      step true t here above = let own : kept n.serial ≡ true = ap kept (eqb-true n.serial s t) ∙ k in (own, above (closed.0 own))
      step false t here above = here

  pub found_kept : (p : Node → Bool) (ns : List Node) (n : Node) → AllKept kept ns → find p ns ≡ Some n → kept n.serial ≡ true
  found_kept p [] n all q = cc
  found_kept p (m ∷ ms) n all q = step (p m) q (found_kept p ms n all.1)
    where
      step : (t : Bool) → cond t (Some m) (find p ms) ≡ Some n → (find p ms ≡ Some n → kept n.serial ≡ true) → kept n.serial ≡ true
      step true r later = let one : m ≡ n = cc in rw (← one) all.0
      step false r later = later r

  module _ (n1 n2 : List Node) (same : filter is_kept n1 ≡ filter is_kept n2) (closed1 : KeepsParents kept (reverse n1)) (closed2 : KeepsParents kept (reverse n2)) (log1 log2 : List LogEntry) (diary : List Entry) where
    abbrev h1 : History
    h1 = record { nodes = n1; log = log1; diary = diary }

    abbrev h2 : History
    h2 = record { nodes = n2; log = log2; diary = diary }

    pub lineage_same : (s : ℕ) → kept s ≡ true → lineage n1 s ≡ lineage n2 s
    lineage_same s k =
        upwards_kept (reverse n1) s k closed1
        ∙ ap (λ ns. upwards ns s) (filter_reverse is_kept n1 ∙ ap reverse same ∙ sym (filter_reverse is_kept n2))
        ∙ sym (upwards_kept (reverse n2) s k closed2)

    pub parent_same : (s : ℕ) → kept s ≡ true → time_parent n1 s ≡ time_parent n2 s
    parent_same s k = ap (λ c. find is_element (drop 1 c)) (lineage_same s k)

    -- defaults are inherited along the lineage
    pub restart_same : (e : Node) → kept e.serial ≡ true → restart_of n1 e ≡ restart_of n2 e
    restart_same e k =
        ap (λ c. restart_or (first_stated (λ (n : Node). option_and_then restart_stated n.attrs.restart_default) Always (filter is_element c)) e.attrs.restart)
        (lineage_same e.serial k)

    pub parent_kept : (s : ℕ) (p : Node) → kept s ≡ true → time_parent n1 s ≡ Some p → kept p.serial ≡ true
    parent_kept s p k q = by_chain (lineage n1 s) refl (upwards_all (reverse n1) s k closed1)
      where
        by_chain : (c : List Node) → lineage n1 s ≡ c → AllKept kept c → kept p.serial ≡ true
        by_chain [] e all = let never : None ≡ Some p = sym (ap (λ c. find is_element (drop 1 c)) e) ∙ q in cc
        by_chain (m ∷ rest) e all = found_kept is_element rest p all.1 (sym (ap (λ c. find is_element (drop 1 c)) e) ∙ q)

    pub alive_same : (s : ℕ) → kept s ≡ true → is_alive h1 s ≡ is_alive h2 s
    alive_same s k = ap (λ o. lives_under o diary) (parent_same s k)

    pub reset_same : (s : ℕ) → kept s ≡ true → birth h1 s ≡ birth h2 s
    reset_same s k = ap (λ o. birth_under o diary) (parent_same s k)

    pub deferral_same : (s : ℕ) → kept s ≡ true → deferral h1 s ≡ deferral h2 s
    deferral_same s k = ap (λ o. cond (lives_under o diary) (fold (λ before (x : Entry). deferral_after s x before x.step) None (drop (birth_under o diary) diary)) None) (parent_same s k)

    pub iteration_same : (s : ℕ) → kept s ≡ true → iteration h1 s ≡ iteration h2 s
    iteration_same s k = ap (λ r. unwrap_or (fold (λ before (x : Entry). iteration_after s before x.step) None (drop r diary)) 0) (reset_same s k)

    pub passed_same : (s : ℕ) → kept s ≡ true → passed h1 s ≡ passed h2 s
    passed_same s k = ap (λ r. fold (λ before (x : Entry). passed_after s before x.step) None (drop r diary)) (reset_same s k)

    pub in_seq_same : (s : ℕ) → kept s ≡ true → is_in_seq n1 s ≡ is_in_seq n2 s
    in_seq_same s k = ap (has_kind is_seq_kind) (parent_same s k)

    pub held_same : (ds : List Entry) (s : ℕ) → kept s ≡ true → stands_by n1 ds s ≡ stands_by n2 ds s
    held_same ds s k = ap (list_any (λ (n : Node). is_element n && is_paused ds n.serial)) (lineage_same s k)

    pub elapsed_same : (s m : ℕ) → kept s ≡ true → elapsed h1 s m ≡ elapsed h2 s m
    elapsed_same s zero k = refl
    elapsed_same s (suc m) k =
        ap (λ e. e + cond (stands_by n1 (until (pos m) diary) s) 0 1) (elapsed_same s m k) ∙ ap (λ t. elapsed h2 s m + cond t 0 1) (held_same (until (pos m) diary) s k)

    pub own_same : (s : ℕ) (m : ℤ) → kept s ≡ true → run h1 s m ≡ run h2 s m
    own_same s (pos m) k = ap pos (elapsed_same s m k)
    own_same s (negsuc m) k = refl

    pub parent_time_same : (s : ℕ) (m : ℤ) → kept s ≡ true → outer h1 s m ≡ outer h2 s m
    parent_time_same s m k = under (time_parent n1 s) (λ p q. parent_kept s p k q) ∙ ap (λ o. outer_under h2 o m) (parent_same s k)
      where
        under : (o : Option Node) → ((p : Node) → o ≡ Some p → kept p.serial ≡ true) → outer_under h1 o m ≡ outer_under h2 o m
        under None far = refl
        under (Some p) far = own_same p.serial m (far p refl)

    pub parent_held_same : (s : ℕ) → kept s ≡ true → outer_stands h1 s ≡ outer_stands h2 s
    parent_held_same s k = under (time_parent n1 s) (λ p q. parent_kept s p k q) ∙ ap (stands_under h2) (parent_same s k)
      where
        under : (o : Option Node) → ((p : Node) → o ≡ Some p → kept p.serial ≡ true) → stands_under h1 o ≡ stands_under h2 o
        under None far = refl
        under (Some p) far = held_same diary p.serial (far p refl)

    pub play_start_same : (s : ℕ) → kept s ≡ true → play_start h1 s ≡ play_start h2 s
    play_start_same s k =
        fold_same (λ before (z : Entry). play_start_after h1 s z.moment before z.step) (λ before (z : Entry). play_start_after h2 s z.moment before z.step) (pos 0) diary (λ b z. each z.moment b z.step)
      where
        each : (m b : ℤ) (step : Step) → play_start_after h1 s m b step ≡ play_start_after h2 s m b step
        each m b (Began who begin) =
            ap (λ o. cond (who == s) (o +ℤ (begin -ℤ outer h1 s m)) b) (own_same s m k) ∙ ap (λ q. cond (who == s) (run h2 s m +ℤ (begin -ℤ q)) b) (parent_time_same s m k)
        each m b _ = refl

    pub iteration_start_same : (s : ℕ) → kept s ≡ true → iteration_start h1 s ≡ iteration_start h2 s
    iteration_start_same s k =
        fold_same (λ before (z : Entry). iteration_start_after h1 s z.moment before z.step) (λ before (z : Entry). iteration_start_after h2 s z.moment before z.step) (pos 0) diary (λ b z. each z.moment b z.step)
      where
        each : (m b : ℤ) (step : Step) → iteration_start_after h1 s m b step ≡ iteration_start_after h2 s m b step
        each m b (Began who begin) =
            ap (λ o. cond (who == s) (o +ℤ (begin -ℤ outer h1 s m)) b) (own_same s m k) ∙ ap (λ q. cond (who == s) (run h2 s m +ℤ (begin -ℤ q)) b) (parent_time_same s m k)
        each m b _ = refl

    pub parent_start_same : (s : ℕ) → kept s ≡ true → parent_start h1 s ≡ parent_start h2 s
    parent_start_same s k = under (time_parent n1 s) (λ p q. parent_kept s p k q) ∙ ap (start_under h2) (parent_same s k)
      where
        under : (o : Option Node) → ((p : Node) → o ≡ Some p → kept p.serial ≡ true) → start_under h1 o ≡ start_under h2 o
        under None far = refl
        under (Some p) far = iteration_start_same p.serial (far p refl)

    pub plays_same : (s : ℕ) → kept s ≡ true → plays h1 s ≡ plays h2 s
    plays_same s k =
        ap (λ o. fold (follow h1 o) none diary) (parent_same s k)
        ∙ fold_same (follow h1 (time_parent n2 s)) (follow h2 (time_parent n2 s)) none diary (λ b z. ap (λ r. cond (is_birth_under (time_parent n2 s) z.step) (record { present = b.present; finished = [] }) r) (each z.moment b z.step))
      where
        none : Plays
        none = record { present = None; finished = [] }

        follow : History → Option Node → Plays → Entry → Plays
        follow h o = λ so_far z. cond (is_birth_under o z.step) (record { present = so_far.present; finished = [] }) (play_after h s z.moment so_far z.step)

        each : (m : ℤ) (b : Plays) (step : Step) → play_after h1 s m b step ≡ play_after h2 s m b step
        each m b (Cut who) = rw (parent_time_same s m k)
        each m b _ = refl

    -- ---- children

    pub filter_within : (p : Node → Bool) (ns : List Node) → ((n : Node) → p n ≡ true → kept n.serial ≡ true) → filter p ns ≡ filter p (filter is_kept ns)
    filter_within p [] f = refl
    filter_within p (n ∷ ns) f = step (p n) (kept n.serial) refl (f n) (filter_within p ns f)
      where
        step : (t u : Bool) → p n ≡ t → (p n ≡ true → u ≡ true) → filter p ns ≡ filter p (filter is_kept ns) → cond t (n ∷ filter p ns) (filter p ns) ≡ filter p (cond u (n ∷ filter is_kept ns) (filter is_kept ns))
        step true true e g q = ap (λ xs. n ∷ xs) q ∙ sym (ap (λ t. cond t (n ∷ filter p (filter is_kept ns)) (filter p (filter is_kept ns))) e)
        step true false e g q = let never : false ≡ true = g e in cc
        step false true e g q = q ∙ sym (ap (λ t. cond t (n ∷ filter p (filter is_kept ns)) (filter p (filter is_kept ns))) e)
        step false false e g q = q

    pub filter_agree : (p q : Node → Bool) (ns : List Node) → ((n : Node) → kept n.serial ≡ true → p n ≡ q n) → filter p (filter is_kept ns) ≡ filter q (filter is_kept ns)
    filter_agree p q [] f = refl
    filter_agree p q (n ∷ ns) f = step (kept n.serial) (f n) (filter_agree p q ns f)
      where
        step : (u : Bool) → (u ≡ true → p n ≡ q n) → filter p (filter is_kept ns) ≡ filter q (filter is_kept ns) → filter p (cond u (n ∷ filter is_kept ns) (filter is_kept ns)) ≡ filter q (cond u (n ∷ filter is_kept ns) (filter is_kept ns))
        step true g r = ap (λ t. cond t (n ∷ filter p (filter is_kept ns)) (filter p (filter is_kept ns))) (g refl) ∙ ap (λ xs. cond (q n) (n ∷ xs) xs) r
        step false g r = r

    -- a container of which no child is set aside has the same children in both
    pub children_same : (q : ℕ) → ((c : Node) → is_time_child n1 q c ≡ true → kept c.serial ≡ true) → ((c : Node) → is_time_child n2 q c ≡ true → kept c.serial ≡ true) → time_children n1 q ≡ time_children n2 q
    children_same q in1 in2 =
        filter_within (is_time_child n1 q) n1 in1
        ∙ filter_agree (is_time_child n1 q) (is_time_child n2 q) n1 (λ n k. ap (λ o. is_element n && has_serial q o) (parent_same n.serial k))
        ∙ ap (filter (is_time_child n2 q)) same
        ∙ sym (filter_within (is_time_child n2 q) n2 in2)

    -- ---- instance times, for intervals that are the same, and none of what is set aside

    module _ (J1 J2 : ℕ → Option Interval) (agree : (x : ℕ) → J1 x ≡ J2 x) (none : (x : ℕ) → kept x ≡ false → J1 x ≡ None) (now : ℤ) (e : Node) (keep : kept e.serial ≡ true) (quiet : (h : History) (x j : ℕ) (offset : ℤ) (edge : Edge) → kept x ≡ false → filter_map (λ (y : Entry). edge_time h e.serial x offset y.moment edge y.step) (drop j diary) ≡ []) where
      edge_same : (x : ℕ) (offset m : ℤ) (edge : Edge) (step : Step) → kept x ≡ true → edge_time h1 e.serial x offset m edge step ≡ edge_time h2 e.serial x offset m edge step
      edge_same x offset m Begin (Began who begin) k = rw (parent_time_same e.serial m keep, parent_time_same x m k)
      edge_same x offset m End (Ended who end') k = rw (parent_time_same e.serial m keep, parent_time_same x m k)
      edge_same x offset m End (Cut who) k = rw (parent_time_same e.serial m keep)
      edge_same x offset m Begin _ k = refl
      edge_same x offset m End _ k = refl

      happened_same : (x : ℕ) (offset : ℤ) (edge : Edge) (t : Bool) → kept x ≡ t → happened_times h1 e.serial x offset edge ≡ happened_times h2 e.serial x offset edge
      happened_same x offset edge true k =
          ap (λ r. filter_map (λ (y : Entry). edge_time h1 e.serial x offset y.moment edge y.step) (drop (min r (birth h1 x)) diary)) (reset_same e.serial keep)
          ∙ ap (λ r. filter_map (λ (y : Entry). edge_time h1 e.serial x offset y.moment edge y.step) (drop (min (birth h2 e.serial) r) diary)) (reset_same x k)
          ∙ filter_map_each (λ (y : Entry). edge_time h1 e.serial x offset y.moment edge y.step) (λ (y : Entry). edge_time h2 e.serial x offset y.moment edge y.step) (drop (min (birth h2 e.serial) (birth h2 x)) diary) (λ y. edge_same x offset y.moment edge y.step k)
      happened_same x offset edge false k = quiet h1 x (min (birth h1 e.serial) (birth h1 x)) offset edge k ∙ sym (quiet h2 x (min (birth h2 e.serial) (birth h2 x)) offset edge k)

      nothing : (edge : Edge) (active : Bool) → option_to_list (interval_edge edge active None) ≡ []
      nothing Begin true = refl
      nothing Begin false = refl
      nothing End active = refl

      empty : (t : Bool) → cond {A = List Time} t [] [] ≡ []
      empty true = refl
      empty false = refl

      no_expected : (h : History) (J : ℕ → Option Interval) (x : ℕ) (offset : ℤ) (edge : Edge) → J x ≡ None → expected_times h J now e.serial x offset edge ≡ []
      no_expected h J x offset edge q =
          ap (λ o. cond (outer_stands h e.serial || outer_stands h x) [] (map (λ v. within_horizon (between h x e.serial v now +ℤ offset)) (option_to_list (interval_edge edge (is_active h.diary x) o)))) q
          ∙ ap (λ l. cond (outer_stands h e.serial || outer_stands h x) [] (map (λ v. within_horizon (between h x e.serial v now +ℤ offset)) l)) (nothing edge (is_active h.diary x))
          ∙ empty (outer_stands h e.serial || outer_stands h x)

      expected_same : (x : ℕ) (offset : ℤ) (edge : Edge) (t : Bool) → kept x ≡ t → expected_times h1 J1 now e.serial x offset edge ≡ expected_times h2 J2 now e.serial x offset edge
      expected_same x offset edge true k =
          rw (parent_held_same e.serial keep, parent_held_same x k, parent_time_same e.serial now keep, parent_time_same x now k, agree x)
      expected_same x offset edge false k = no_expected h1 J1 x offset edge (none x k) ∙ sym (no_expected h2 J2 x offset edge (sym (agree x) ∙ none x k))

      pub sync_same : (x : ℕ) (offset : ℤ) (edge : Edge) (cyclic : Bool) → sync_times h1 J1 now e.serial x offset edge cyclic ≡ sync_times h2 J2 now e.serial x offset edge cyclic
      sync_same x offset edge cyclic =
          ap (λ ts. ts ++ cond cyclic [] (expected_times h1 J1 now e.serial x offset edge)) (happened_same x offset edge (kept x) refl)
          ∙ ap (λ ts. happened_times h2 e.serial x offset edge ++ cond cyclic [] ts) (expected_same x offset edge (kept x) refl)
