-- AllByRecursion entry of a group is lawful by those before it, and after a group what is active is alive.
use Rattle.std.proofs.Common.{◌≡◌, refl, sym, ◌∙◌, ap, ℕ, List, [], ◌∷◌, ◌++◌, Option, Some, None, ℤ, Bool, true, false, inl, inr, append_assoc}
use Rattle.std.specs.Prelude.{cond, not, ◌==◌, ◌||◌, ◌&&◌, ◌⊎◌, fold, filter, map, reverse}
use Rattle.std.specs.List.{AllByRecursion}
use Rattle.std.proofs.lemmas.Bool.{and_parts, and_from, both_ways, or_cases, or_right, not-true, not_from_false, eqb-true}
use Rattle.std.proofs.lemmas.List.{map-append, append-nil}
use Rattle.std.proofs.lemmas.List.Sums.{fold-append}
use Rattle.smil_model.specs.declared.diary.Entry.{Entry}
use Rattle.smil_model.specs.declared.diary.LogEntry.{LogEntry}
use Rattle.smil_model.specs.declared.diary.Step.{Step}
use Rattle.smil_model.specs.declared.diary.Step.TheVariants.{Began, Repeated, Ended, Cut, Paused, Resumed, Deferred, Passed}
use Rattle.smil_model.specs.declared.document.Node.{Node}
use Rattle.smil_model.specs.declared.document.Act.{Act}
use Rattle.smil_model.specs.declared.document.Act.TheVariants.{Stop, Pause, Defer, Never}
use Rattle.smil_model.specs.document.Document.{is_element, time_parent, has_serial, is_time_child, time_children, descendants, is_excl_kind, is_below}
use Rattle.smil_model.specs.diary.Diary.{active_after, is_active, paused_after, is_paused, lives_under, is_alive}
use Rattle.smil_model.specs.diary.Clocks.{outer}
use Rattle.smil_model.specs.diary.Lawful.{has_element, may_begin, is_lawful_step}
use Rattle.smil_model.specs.happening.Queue.{is_playing, playing_child, queue_of, decision}
use Rattle.smil_model.specs.happening.Keys.{Change, begins, ends, repeats}
use Rattle.smil_model.specs.happening.Groups.{cuts, follower, followers, end_steps, interruption, begin_beside, begin_under, at_moment, group}
use Rattle.smil_laws.specs.Edited.{IsOrdered}
use Rattle.smil_laws.proofs.LineageParents.{swap_eqb}
use Rattle.smil_laws.proofs.AsideDocuments.{each_filter, each_reverse, find_each, find_true}
use Rattle.smil_laws.proofs.ListMembers.{holds, held_each, held_reverse, held_kept, found_held, Differ, differ_all, differ_kept, differ_reverse}
use Rattle.smil_laws.proofs.DescendantOrder.{below_none, parent_apart, child_apart}
use Rattle.smil_laws.proofs.LawfulSteps.{pausing, active_push, pausing_push, still, by, Follow, follow_append, Known, IsWaiting, AllWaiting}
use Rattle.smil_laws.proofs.Lists.{each_weaker, each_kept}

and_true : (b : Bool) → (b && true) ≡ b
and_true true = refl
and_true false = refl

-- ---- cuts of nodes

module _ (m : ℤ) where
  abbrev pub mark : Step → Entry
  mark step = record { moment = m; step = step }

  abbrev cut_all : List Node → List Entry
  cut_all ns = at_moment m (map (λ (n : Node). Cut n.serial) ns)

  cut_active : (s : ℕ) (b : Bool) (ns : List Node) → fold (λ before (x : Entry). active_after s before x.step) b (cut_all ns) ≡ (b && not (holds s ns))
  cut_active s b [] = sym (and_true b)
  cut_active s b (n ∷ ns) = cut_active s (cond (n.serial == s) false b) ns ∙ step (n.serial == s) b
    where
      step : (t c : Bool) → (cond t false c && not (holds s ns)) ≡ (c && not (t || holds s ns))
      step true true = refl
      step true false = refl
      step false c = refl

  cut_pausing : (s : ℕ) (b : Bool) (ns : List Node) → fold (λ before (x : Entry). paused_after s before x.step) b (cut_all ns) ≡ b
  cut_pausing s b [] = refl
  cut_pausing s b (n ∷ ns) = cut_pausing s b ns

module _ (nodes : List Node) (o : IsOrdered nodes) (log : List LogEntry) (m : ℤ) where
  -- ---- what is active is alive

  abbrev pub Live : List Entry → Type 0
  Live ds = (s : ℕ) → is_active ds s ≡ true → is_alive (by nodes log ds) s ≡ true

  -- lawful entries after which what is active is alive
  abbrev pub Sound : List Entry → List Entry → Type 0
  Sound ds xs = Follow nodes log ds xs × Live (ds ++ xs)

  live_along : (ds es : List Entry) → ds ≡ es → Live ds → Live es
  live_along ds es e live = rw (← e) live

  sound_along : (ds xs ys : List Entry) → xs ≡ ys → Sound ds xs → Sound ds ys
  sound_along ds xs ys e s = rw (← e) s

  sound_none : (ds : List Entry) → Live ds → Sound ds []
  sound_none ds live = (tt, live_along ds (ds ++ []) (sym (append-nil ds)) live)

  sound_push : (ds : List Entry) (y : Entry) (ys : List Entry) → is_lawful_step (by nodes log ds) y.step ≡ true → Sound (ds ++ y ∷ []) ys → Sound ds (y ∷ ys)
  sound_push ds y ys l sound = ((l, sound.0), live_along ((ds ++ y ∷ []) ++ ys) (ds ++ y ∷ ys) (append_assoc ds (y ∷ []) ys) sound.1)

  sound_append : (ds xs ys : List Entry) → Follow nodes log ds xs → Sound (ds ++ xs) ys → Sound ds (xs ++ ys)
  sound_append ds xs ys f sound = (follow_append nodes log ds xs ys f sound.0, live_along ((ds ++ xs) ++ ys) (ds ++ (xs ++ ys)) (append_assoc ds xs ys) sound.1)

  -- after a begin of what was alive
  begin_live : (ds : List Entry) (s : ℕ) (value : ℤ) → Live ds → is_alive (by nodes log ds) s ≡ true → Live (ds ++ mark m (Began s value) ∷ [])
  begin_live ds s value live alive q t = by_case (or_cases (s == q) (is_active ds q) (sym (active_push ds (mark m (Began s value)) q) ∙ t))
    where
      under : (r : Option Node) → lives_under r ds ≡ true → lives_under r (ds ++ mark m (Began s value) ∷ []) ≡ true
      under None a = refl
      under (Some p) a = active_push ds (mark m (Began s value)) p.serial ∙ or_right (s == p.serial) (is_active ds p.serial) a

      by_case : (s == q ≡ true) ⊎ (is_active ds q ≡ true) → is_alive (by nodes log (ds ++ mark m (Began s value) ∷ [])) q ≡ true
      by_case (inl d) = under (time_parent nodes q) (ap (is_alive (by nodes log ds)) (sym (eqb-true s q d)) ∙ alive)
      by_case (inr d) = under (time_parent nodes q) (live q d)

  -- after a step that neither begins nor ends
  alive_same : (ds : List Entry) (y : Entry) (s : ℕ) → ((q : ℕ) → active_after q (is_active ds q) y.step ≡ is_active ds q) → is_alive (by nodes log (ds ++ y ∷ [])) s ≡ is_alive (by nodes log ds) s
  alive_same ds y s same = under (time_parent nodes s)
    where
      under : (r : Option Node) → lives_under r (ds ++ y ∷ []) ≡ lives_under r ds
      under None = refl
      under (Some p) = active_push ds y p.serial ∙ same p.serial

  pub same_live : (ds : List Entry) (y : Entry) → ((q : ℕ) → active_after q (is_active ds q) y.step ≡ is_active ds q) → Live ds → Live (ds ++ y ∷ [])
  same_live ds y same live q t = alive_same ds y q same ∙ live q (sym (same q) ∙ sym (active_push ds y q) ∙ t)

  begin_sound : (ds : List Entry) (s : ℕ) (value : ℤ) → Live ds → has_element nodes s ≡ true → is_alive (by nodes log ds) s ≡ true → is_active ds s ≡ false → Sound ds (mark m (Began s value) ∷ [])
  begin_sound ds s value live known alive idle =
      sound_push ds (mark m (Began s value)) []
      (and_from (has_element nodes s) (may_begin (by nodes log ds) s) known (and_from (is_alive (by nodes log ds) s) (not (is_active ds s)) alive (not_from_false (is_active ds s) idle)))
      (sound_none (ds ++ mark m (Began s value) ∷ []) (begin_live ds s value live alive))

  -- ---- the cuts of what is active below an element

  cuts_follow : (ns : List Node) (ds : List Entry) → Differ ns → AllByRecursion (λ (n : Node). has_element nodes n.serial ≡ true) ns → AllByRecursion (λ (n : Node). is_active ds n.serial ≡ true) ns → Follow nodes log ds (cut_all m ns)
  cuts_follow [] ds d known active = tt
  cuts_follow (n ∷ ns) ds d known active =
      (and_from (has_element nodes n.serial) (is_active ds n.serial) known.0 active.0, cuts_follow ns (ds ++ mark m (Cut n.serial) ∷ []) d.1 known.1 (stay ns d.0 active.1))
    where
      stay : (ks : List Node) → AllByRecursion (λ (k : Node). k.serial == n.serial ≡ false) ks → AllByRecursion (λ (k : Node). is_active ds k.serial ≡ true) ks → AllByRecursion (λ (k : Node). is_active (ds ++ mark m (Cut n.serial) ∷ []) k.serial ≡ true) ks
      stay [] apart each = tt
      stay (k ∷ ks) apart each =
          (active_push ds (mark m (Cut n.serial)) k.serial ∙ ap (λ t. cond t false (is_active ds k.serial)) (swap_eqb k.serial n.serial apart.0) ∙ each.0, stay ks apart.1 each.1)

  module _ (ds : List Entry) (known : Known nodes log ds) (live : Live ds) (x : ℕ) where
    abbrev lost_nodes : List Node
    lost_nodes = reverse (filter (λ (n : Node). is_active ds n.serial) (descendants nodes x))

    abbrev cut_entries : List Entry
    cut_entries = at_moment m (cuts (by nodes log ds) x)

    abbrev cut_diary : List Entry
    cut_diary = ds ++ cut_entries

    each_below : AllByRecursion (λ (n : Node). is_below nodes x n.serial ≡ true) lost_nodes
    each_below =
        each_reverse (λ (n : Node). is_below nodes x n.serial ≡ true) (filter (λ (n : Node). is_active ds n.serial) (descendants nodes x))
        (each_kept (λ (n : Node). is_below nodes x n.serial ≡ true) (λ (n : Node). is_active ds n.serial) (descendants nodes x)
        (each_filter (λ (n : Node). is_below nodes x n.serial ≡ true) (λ (n : Node). is_below nodes x n.serial) nodes (λ n t. t)))

    each_active : AllByRecursion (λ (n : Node). is_active ds n.serial ≡ true) lost_nodes
    each_active =
        each_reverse (λ (n : Node). is_active ds n.serial ≡ true) (filter (λ (n : Node). is_active ds n.serial) (descendants nodes x))
        (each_filter (λ (n : Node). is_active ds n.serial ≡ true) (λ (n : Node). is_active ds n.serial) (descendants nodes x) (λ n t. t))

    differ_lost : Differ lost_nodes
    differ_lost =
        differ_reverse (filter (λ (n : Node). is_active ds n.serial) (descendants nodes x))
        (differ_kept (λ (n : Node). is_active ds n.serial) (descendants nodes x)
        (differ_kept (λ (n : Node). is_below nodes x n.serial) nodes (differ_all nodes o.distinct)))

    cut_follow : Follow nodes log ds cut_entries
    cut_follow =
        cuts_follow lost_nodes ds differ_lost
        (each_weaker (λ (n : Node). is_active ds n.serial ≡ true) (λ (n : Node). has_element nodes n.serial ≡ true) lost_nodes each_active (λ n t. known n.serial t)) each_active

    active_cut : (s : ℕ) → is_active cut_diary s ≡ (is_active ds s && not (holds s lost_nodes))
    active_cut s = fold-append (λ before (y : Entry). active_after s before y.step) false ds cut_entries ∙ cut_active m s (is_active ds s) lost_nodes

    pausing_cut : (s : ℕ) → pausing cut_diary s ≡ pausing ds s
    pausing_cut s = fold-append (λ before (y : Entry). paused_after s before y.step) false ds cut_entries ∙ cut_pausing m s (pausing ds s) lost_nodes

    not_lost : (s : ℕ) → is_below nodes x s ≡ false → holds s lost_nodes ≡ false
    not_lost s free = by_case (holds s lost_nodes) refl
      where
        by_case : (t : Bool) → holds s lost_nodes ≡ t → holds s lost_nodes ≡ false
        by_case true e = absurd (both_ways (is_below nodes x s) free (held_each (λ q. is_below nodes x q ≡ true) s lost_nodes each_below e))
        by_case false e = e

    lost : (s : ℕ) → is_active ds s ≡ true → is_below nodes x s ≡ true → holds s lost_nodes ≡ true
    lost s active below =
        held_reverse s (filter (λ (n : Node). is_active ds n.serial) (descendants nodes x))
        ∙ held_kept (is_active ds) s (descendants nodes x) active
        ∙ held_kept (is_below nodes x) s nodes below
        ∙ found_held is_element s nodes (known s active)

    -- what is not below the element is active as before
    cut_keeps : (s : ℕ) → is_below nodes x s ≡ false → is_active cut_diary s ≡ is_active ds s
    cut_keeps s free = active_cut s ∙ ap (λ t. is_active ds s && not t) (not_lost s free) ∙ and_true (is_active ds s)

    -- and what is active was so, and is not below the element
    cut_leaves : (s : ℕ) → is_active cut_diary s ≡ true → (is_active ds s ≡ true) × (is_below nodes x s ≡ false)
    cut_leaves s t = (parts.0, by_case (is_below nodes x s) refl)
      where
        parts : (is_active ds s ≡ true) × (not (holds s lost_nodes) ≡ true)
        parts = and_parts (is_active ds s) (not (holds s lost_nodes)) (sym (active_cut s) ∙ t)

        by_case : (b : Bool) → is_below nodes x s ≡ b → is_below nodes x s ≡ false
        by_case true e = absurd (both_ways (holds s lost_nodes) (not-true (holds s lost_nodes) parts.1) (lost s parts.0 e))
        by_case false e = e

    cut_live : Live cut_diary
    cut_live s t = under (time_parent nodes s) refl (live s ((cut_leaves s t).0))
      where
        under : (r : Option Node) → time_parent nodes s ≡ r → lives_under r ds ≡ true → lives_under r cut_diary ≡ true
        under None e a = refl
        under (Some p) e a = cut_keeps p.serial ((parent_apart nodes o x s p ((cut_leaves s t).1) e).1) ∙ a

    -- ---- and then the end of the element, which was active

    module _ (active : is_active ds x ≡ true) (value : ℤ) where
      abbrev end_diary : List Entry
      end_diary = cut_diary ++ mark m (Ended x value) ∷ []

      still_active : is_active cut_diary x ≡ true
      still_active = cut_keeps x (below_none nodes o x) ∙ active

      end_lawful : is_lawful_step (by nodes log cut_diary) (Ended x value) ≡ true
      end_lawful = and_from (has_element nodes x) (is_active cut_diary x) (known x active) still_active

      end_keeps : (s : ℕ) → is_below nodes x s ≡ false → x == s ≡ false → is_active end_diary s ≡ is_active ds s
      end_keeps s free other = active_push cut_diary (mark m (Ended x value)) s ∙ ap (λ t. cond t false (is_active cut_diary s)) other ∙ cut_keeps s free

      end_leaves : (s : ℕ) → is_active end_diary s ≡ true → (is_active ds s ≡ true) × (is_below nodes x s ≡ false)
      end_leaves s t = cut_leaves s ((still (x == s) (is_active cut_diary s) (sym (active_push cut_diary (mark m (Ended x value)) s) ∙ t)).1)

      end_idle : (s : ℕ) → is_active ds s ≡ false → is_active end_diary s ≡ false
      end_idle s idle = by_case (is_active end_diary s) refl
        where
          by_case : (t : Bool) → is_active end_diary s ≡ t → is_active end_diary s ≡ false
          by_case true e = absurd (both_ways (is_active ds s) idle ((end_leaves s e).0))
          by_case false e = e

      pausing_end : (s : ℕ) → pausing end_diary s ≡ pausing ds s
      pausing_end s = pausing_push cut_diary (mark m (Ended x value)) s ∙ pausing_cut s

      end_live : Live end_diary
      end_live s t = under (time_parent nodes s) refl (live s ((end_leaves s t).0))
        where
          under : (r : Option Node) → time_parent nodes s ≡ r → lives_under r ds ≡ true → lives_under r end_diary ≡ true
          under None e a = refl
          under (Some p) e a =
              let apart = parent_apart nodes o x s p ((end_leaves s t).1) e in
              end_keeps p.serial apart.1 (swap_eqb p.serial x apart.0) ∙ a

      -- the time parent stays active
      parent_stays : (p : Node) → time_parent nodes x ≡ Some p → is_active end_diary p.serial ≡ is_active ds p.serial
      parent_stays p e =
          let apart = parent_apart nodes o x x p (below_none nodes o x) e in
          end_keeps p.serial apart.1 (swap_eqb p.serial x apart.0)

      -- lawful steps after the end, with the cuts and the end before them
      with_end : (after : List Step) → Sound end_diary (at_moment m after) → Sound ds (at_moment m (cuts (by nodes log ds) x ++ (Ended x value ∷ after)))
      with_end after sound =
          sound_along ds (cut_entries ++ at_moment m (Ended x value ∷ after)) (at_moment m (cuts (by nodes log ds) x ++ (Ended x value ∷ after)))
          (sym (map-append (λ step. mark m step) (cuts (by nodes log ds) x) (Ended x value ∷ after)))
          (sound_append ds cut_entries (at_moment m (Ended x value ∷ after)) cut_follow
          (sound_push cut_diary (mark m (Ended x value)) (at_moment m after) end_lawful sound))

    with_repeat : is_active ds x ≡ true → (start : ℤ) → Sound ds (at_moment m (cuts (by nodes log ds) x ++ (Repeated x start ∷ [])))
    with_repeat active start =
        sound_along ds (cut_entries ++ at_moment m (Repeated x start ∷ [])) (at_moment m (cuts (by nodes log ds) x ++ (Repeated x start ∷ [])))
        (sym (map-append (λ step. mark m step) (cuts (by nodes log ds) x) (Repeated x start ∷ [])))
        (sound_append ds cut_entries (mark m (Repeated x start) ∷ []) cut_follow
        (sound_push cut_diary (mark m (Repeated x start)) []
        (and_from (has_element nodes x) (is_active cut_diary x) (known x active) (cut_keeps x (below_none nodes o x) ∙ active))
        (sound_none (cut_diary ++ mark m (Repeated x start) ∷ []) (same_live cut_diary (mark m (Repeated x start)) (λ q. refl) cut_live))))

  -- ---- a begin

  module _ (ds : List Entry) (known : Known nodes log ds) (live : Live ds) (s : ℕ) (value : ℤ) (own : has_element nodes s ≡ true) (alive : is_alive (by nodes log ds) s ≡ true) (idle : is_active ds s ≡ false) where
    may : (step : Step) → is_lawful_step (by nodes log ds) step ≡ (has_element nodes s && may_begin (by nodes log ds) s) → is_lawful_step (by nodes log ds) step ≡ true
    may step e = e ∙ and_from (has_element nodes s) (may_begin (by nodes log ds) s) own (and_from (is_alive (by nodes log ds) s) (not (is_active ds s)) alive (not_from_false (is_active ds s) idle))

    alone : Sound ds (at_moment m (Began s value ∷ []))
    alone = begin_sound ds s value live own alive idle

    -- the playing child c of the excl p, which is the time parent
    module _ (p : Node) (under : time_parent nodes s ≡ Some p) (c : Node) (plays : is_playing ds c ≡ true) (child : is_time_child nodes p.serial c ≡ true) where
      parts : (is_active ds c.serial ≡ true) × (not (is_paused ds c.serial) ≡ true)
      parts = and_parts (is_active ds c.serial) (not (is_paused ds c.serial)) plays

      parent_active : is_active ds p.serial ≡ true
      parent_active = ap (λ r. lives_under r ds) (sym under) ∙ alive

      stop_sound : (at : ℤ) → Sound ds (at_moment m (cuts (by nodes log ds) c.serial ++ (Ended c.serial at ∷ Began s value ∷ [])))
      stop_sound at =
          with_end ds known live c.serial parts.0 at (Began s value ∷ [])
          (begin_sound (end_diary ds known live c.serial parts.0 at) s value (end_live ds known live c.serial parts.0 at) own
          (ap (λ r. lives_under r (end_diary ds known live c.serial parts.0 at)) under ∙ by_parent (time_parent nodes c.serial) refl ((and_parts (is_element c) (has_serial p.serial (time_parent nodes c.serial)) child).1))
          (end_idle ds known live c.serial parts.0 at s idle))
        where
          by_parent : (r : Option Node) → time_parent nodes c.serial ≡ r → has_serial p.serial r ≡ true → is_active (end_diary ds known live c.serial parts.0 at) p.serial ≡ true
          by_parent None e t = cc
          by_parent (Some r) e t =
              let one : r.serial ≡ p.serial = eqb-true r.serial p.serial t in
              ap (is_active (end_diary ds known live c.serial parts.0 at)) (sym one) ∙ parent_stays ds known live c.serial parts.0 at r e ∙ ap (is_active ds) one ∙ parent_active

      pause_sound : Sound ds (at_moment m (Paused c.serial ∷ Began s value ∷ []))
      pause_sound =
          sound_push ds (mark m (Paused c.serial)) (at_moment m (Began s value ∷ []))
          (and_from (has_element nodes c.serial) (is_active ds c.serial && not (is_paused ds c.serial)) (known c.serial parts.0) plays)
          (begin_sound (ds ++ mark m (Paused c.serial) ∷ []) s value (same_live ds (mark m (Paused c.serial)) (λ q. refl) live) own
          (alive_same ds (mark m (Paused c.serial)) s (λ q. refl) ∙ alive)
          (active_push ds (mark m (Paused c.serial)) s ∙ idle))

      act_sound : (act : Act) → Sound ds (at_moment m (interruption (by nodes log ds) m s value c.serial act))
      act_sound Stop = stop_sound (outer (by nodes log ds) c.serial m)
      act_sound Pause = pause_sound
      act_sound Defer =
          sound_push ds (mark m (Deferred s value)) [] (may (Deferred s value) refl)
          (sound_none (ds ++ mark m (Deferred s value) ∷ []) (same_live ds (mark m (Deferred s value)) (λ q. refl) live))
      act_sound Never =
          sound_push ds (mark m (Passed s value)) [] (may (Passed s value) refl)
          (sound_none (ds ++ mark m (Passed s value) ∷ []) (same_live ds (mark m (Passed s value)) (λ q. refl) live))

    beside_sound : (p : Node) → time_parent nodes s ≡ Some p → Sound ds (at_moment m (begin_beside (by nodes log ds) m s value (playing_child (by nodes log ds) p.serial)))
    beside_sound p under = by_child (playing_child (by nodes log ds) p.serial) refl
      where
        by_child : (r : Option Node) → playing_child (by nodes log ds) p.serial ≡ r → Sound ds (at_moment m (begin_beside (by nodes log ds) m s value r))
        by_child None e = alone
        by_child (Some c) e =
            act_sound p under c (find_true (is_playing ds) (time_children nodes p.serial) c e)
            (find_each (λ (n : Node). is_time_child nodes p.serial n ≡ true) (is_playing ds) (time_children nodes p.serial) c (each_filter (λ (n : Node). is_time_child nodes p.serial n ≡ true) (is_time_child nodes p.serial) nodes (λ n t. t)) e)
            (decision nodes c.serial s)

    pub begin_group : Sound ds (at_moment m (begin_under (by nodes log ds) m s value (time_parent nodes s)))
    begin_group = by_parent (time_parent nodes s) refl
      where
        by_kind : (p : Node) → time_parent nodes s ≡ Some p → (t : Bool) → Sound ds (at_moment m (cond t (begin_beside (by nodes log ds) m s value (playing_child (by nodes log ds) p.serial)) (Began s value ∷ [])))
        by_kind p e true = beside_sound p e
        by_kind p e false = alone

        by_parent : (r : Option Node) → time_parent nodes s ≡ r → Sound ds (at_moment m (begin_under (by nodes log ds) m s value r))
        by_parent None e = alone
        by_parent (Some p) e = by_kind p e (is_excl_kind p.kind)

  -- ---- an end

  module _ (ds : List Entry) (known : Known nodes log ds) (waiting : AllWaiting nodes log ds) (live : Live ds) (s : ℕ) (active : is_active ds s ≡ true) (value : ℤ) where
    abbrev ended : List Entry
    ended = end_diary ds known live s active value

    ended_live : Live ended
    ended_live = end_live ds known live s active value

    -- the first of the queue of the excl p, of which the ended element was the playing child
    module _ (p : Node) (under : time_parent nodes s ≡ Some p) (plays : is_paused ds s ≡ false) (first : ℕ) (waits : IsWaiting nodes log ds p.serial first) where
      parent_lives : is_active ds p.serial ≡ true
      parent_lives = ap (λ r. lives_under r ds) (sym under) ∙ live s active

      parent_apart_so : (p.serial == s ≡ false) × (is_below nodes s p.serial ≡ false)
      parent_apart_so = parent_apart nodes o s s p (below_none nodes o s) under

      resumed : is_paused ds first ≡ true → is_below nodes s first ≡ false → Sound ended (at_moment m (Resumed first ∷ []))
      resumed paused free =
          sound_push ended (mark m (Resumed first)) []
          (and_from (has_element nodes first) (is_paused ended first) waits.0
          (ap (λ t. t && pausing ended first) (end_keeps ds known live s active value first free (by_case (s == first) refl))
          ∙ ap (λ t. is_active ds first && t) (pausing_end ds known live s active value first) ∙ paused))
          (sound_none (ended ++ mark m (Resumed first) ∷ []) (same_live ended (mark m (Resumed first)) (λ q. refl) ended_live))
        where
          by_case : (t : Bool) → s == first ≡ t → s == first ≡ false
          by_case true e = absurd (both_ways (is_paused ds s) plays (ap (is_paused ds) (eqb-true s first e) ∙ paused))
          by_case false e = e

      began : (at : ℤ) → is_paused ds first ≡ false → is_alive (by nodes log ended) first ≡ true → Sound ended (at_moment m (Began first at ∷ []))
      began at paused alive =
          begin_sound ended first at ended_live waits.0 alive
          (end_idle ds known live s active value first (none (is_active ds first) (is_paused ds first) waits.2 paused))
        where
          none : (a w : Bool) → (w || not a) ≡ true → w ≡ false → a ≡ false
          none a true q r = cc
          none a false q r = not-true a q

      first_sound : Sound ended (at_moment m (cond (is_paused ds first) (Resumed first ∷ []) (Began first (outer (by nodes log ds) first m) ∷ [])))
      first_sound = by_parent (time_parent nodes first) refl waits.1
        where
          by_parent : (r : Option Node) → time_parent nodes first ≡ r → has_serial p.serial r ≡ true → Sound ended (at_moment m (cond (is_paused ds first) (Resumed first ∷ []) (Began first (outer (by nodes log ds) first m) ∷ [])))
          by_parent None e t = cc
          by_parent (Some r) e t = by_case (is_paused ds first) refl
            where
              one : r.serial ≡ p.serial
              one = eqb-true r.serial p.serial t

              by_case : (b : Bool) → is_paused ds first ≡ b → Sound ended (at_moment m (cond b (Resumed first ∷ []) (Began first (outer (by nodes log ds) first m) ∷ [])))
              by_case true q =
                  resumed q
                  (child_apart nodes o s first r (known s active) e (ap (λ y. y == s) one ∙ parent_apart_so.0) (ap (is_below nodes s) one ∙ parent_apart_so.1))
              by_case false q =
                  began (outer (by nodes log ds) first m) q
                  (ap (λ y. lives_under y ended) e ∙ ap (is_active ended) one ∙ parent_stays ds known live s active value p under ∙ parent_lives)

    queue_sound : (p : Node) → time_parent nodes s ≡ Some p → is_paused ds s ≡ false → (queue : List ℕ) → AllByRecursion (IsWaiting nodes log ds p.serial) queue → Sound ended (at_moment m (follower (by nodes log ds) m queue))
    queue_sound p e plays [] each = sound_none ended ended_live
    queue_sound p e plays (first ∷ rest) each = first_sound p e plays first each.0

    played : (p : Node) → has_serial s (playing_child (by nodes log ds) p.serial) ≡ true → is_paused ds s ≡ false
    played p q = by_child (playing_child (by nodes log ds) p.serial) refl q
      where
        by_child : (r : Option Node) → playing_child (by nodes log ds) p.serial ≡ r → has_serial s r ≡ true → is_paused ds s ≡ false
        by_child None e t = cc
        by_child (Some c) e t =
            ap (is_paused ds) (sym (eqb-true c.serial s t))
            ∙ not-true (is_paused ds c.serial) ((and_parts (is_active ds c.serial) (not (is_paused ds c.serial)) (find_true (is_playing ds) (time_children nodes p.serial) c e)).1)

    followers_sound : Sound ended (at_moment m (followers (by nodes log ds) m s (time_parent nodes s)))
    followers_sound = by_parent (time_parent nodes s) refl
      where
        by_test : (p : Node) → time_parent nodes s ≡ Some p → (t : Bool) → (is_excl_kind p.kind && has_serial s (playing_child (by nodes log ds) p.serial)) ≡ t → Sound ended (at_moment m (cond t (follower (by nodes log ds) m (queue_of (by nodes log ds) p.serial)) []))
        by_test p e true q =
            queue_sound p e (played p ((and_parts (is_excl_kind p.kind) (has_serial s (playing_child (by nodes log ds) p.serial)) q).1)) (queue_of (by nodes log ds) p.serial) (waiting p.serial)
        by_test p e false q = sound_none ended ended_live

        by_parent : (r : Option Node) → time_parent nodes s ≡ r → Sound ended (at_moment m (followers (by nodes log ds) m s r))
        by_parent None e = sound_none ended ended_live
        by_parent (Some p) e = by_test p e (is_excl_kind p.kind && has_serial s (playing_child (by nodes log ds) p.serial)) refl

    pub end_group : Sound ds (at_moment m (end_steps (by nodes log ds) m s value))
    end_group = with_end ds known live s active value (followers (by nodes log ds) m s (time_parent nodes s)) followers_sound

  -- ---- a group of what may happen

  -- what may happen to an element: a begin where it is alive and not active, an end or a repeat where it is active
  abbrev pub MayHappen : List Entry → ℕ → Change → Type 0
  MayHappen ds s (begins value) = (has_element nodes s ≡ true) × (is_alive (by nodes log ds) s ≡ true) × (is_active ds s ≡ false)
  MayHappen ds s (ends value) = is_active ds s ≡ true
  MayHappen ds s (repeats start) = is_active ds s ≡ true

  pub group_sound : (ds : List Entry) → Known nodes log ds → AllWaiting nodes log ds → Live ds → (s : ℕ) (change : Change) → MayHappen ds s change → Sound ds (group (by nodes log ds) m s change)
  group_sound ds known waiting live s (begins value) may = begin_group ds known live s value may.0 may.1 may.2
  group_sound ds known waiting live s (ends value) may = end_group ds known waiting live s may value
  group_sound ds known waiting live s (repeats start) may = with_repeat ds known live s may start
