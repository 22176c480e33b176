-- The next child of a seq, and whether its begin displaces a child.
use Rattle.std.proofs.Common.{◌≡◌, refl, sym, ◌∙◌, ap, subst, ℕ, suc, ◌+◌, List, [], ◌∷◌, drop, Bool, true, false, Option, Some, None, arith, zero-add}
use Rattle.std.specs.Prelude.{cond, ◌&&◌, ◌||◌, ◌==◌, slice_get, position, option_and_then}
use Rattle.std.specs.List.{AllByRecursion, list_any, position_from}
use Rattle.std.proofs.lemmas.Iterator.Adapters.{position_from-zero}
use Rattle.std.specs.Option.{option_map_or}
use Rattle.std.proofs.lemmas.Bool.{and_parts, eqb-true, eq-eqb, or_parts}
use Rattle.smil_model.specs.declared.diary.Entry.{Entry}
use Rattle.smil_model.specs.declared.diary.Step.{Step}
use Rattle.smil_model.specs.declared.diary.Step.TheVariants.{Began, Repeated, Ended, Cut, Paused, Resumed, Deferred, Passed, Logged}
use Rattle.smil_model.specs.declared.diary.StepKind.TheVariants as kind
use Rattle.smil_model.specs.declared.document.Node.{Node}
use Rattle.smil_model.specs.document.Document.{is_excl_kind, has_kind, has_serial, is_element, is_seq_kind, is_time_child, just_before, node_at, previous_child, previous_in_seq, serials, time_children, time_parent}
use Rattle.smil_model.specs.document.Valid.{IsDistinct, kind_of}
use Rattle.smil_model.specs.diary.Diary.{History, birth_under, is_step, since_birth}
use Rattle.smil_model.specs.diary.Lawful.{IsLawful, has_element}
use Rattle.smil_model.specs.diary.Plays.{first_of}
use Rattle.smil_model.specs.shown.Views.{begins_next, finished_by, is_displaced, sets_off_sibling, since_finish}
use Rattle.smil_model.specs.declared.document.Kind.{Kind}
use Rattle.smil_model.specs.declared.document.Kind.TheVariants as kinds
use Rattle.std.proofs.lemmas.Option.{same_Some}
use Rattle.smil_laws.proofs.AsideDocuments.{each_drop, each_filter}
use Rattle.smil_laws.proofs.LineageParents.{swap_eqb}
use Rattle.smil_laws.proofs.ListMembers.{Differ, differ_all, differ_kept}
use Rattle.smil_past.proofs.TimeParents.{IsUp, parent_node}
use Rattle.smil_instances.proofs.IdTargets.{known_node}
use Rattle.smil_element.specs.Displaced.{began_from, following, may_set_off}
use Rattle.smil_element.proofs.SiblingDisplacement.{sibling_is, IsKnown, any_all, any_none, any_place, is_child, known_all}

-- ---- by its place

following_from : (who : ℕ) (get : ℕ → Option ℕ) (i : ℕ) (cs : List ℕ) → ((j : ℕ) → get (i + j) ≡ slice_get cs j) → option_and_then (λ k. get (k + 1)) (position_from (λ c. c == who) i cs) ≡ following who cs
following_from who get i [] same = refl
following_from who get i (c ∷ cs) same = step (c == who) (following_from who get (i + 1) cs (λ j. ap get (omega arith) ∙ same (suc j)))
  where
    first : (ss : List ℕ) → slice_get ss 0 ≡ first_of ss
    first [] = refl
    first (s ∷ ss) = refl

    step : (t : Bool) → option_and_then (λ k. get (k + 1)) (position_from (λ s. s == who) (i + 1) cs) ≡ following who cs → option_and_then (λ k. get (k + 1)) (cond t (Some i) (position_from (λ s. s == who) (i + 1) cs)) ≡ cond t (first_of cs) (following who cs)
    step true rest = same 1 ∙ first cs
    step false rest = rest

following_place : (who : ℕ) (cs : List ℕ) → option_and_then (λ k. slice_get cs (k + 1)) (position (λ c. c == who) cs) ≡ following who cs
following_place who cs =
    ap (option_and_then (λ k. slice_get cs (k + 1))) (position_from-zero (λ c. c == who) cs)
    ∙ following_from who (slice_get cs) 0 cs (λ j. ap (slice_get cs) (zero-add j))

pub next_of_place : (who : ℕ) (children cs : List ℕ) (o : Option ℕ) → children ≡ cs → o ≡ position (λ c. c == who) children → option_and_then (λ k. slice_get children (k + 1)) o ≡ following who cs
next_of_place who children cs o same is = ap (option_and_then (λ k. slice_get children (k + 1))) is ∙ following_place who children ∙ ap (following who) same

-- ---- what stands before a node

abbrev Other : ℕ → List Node → Type 0
Other w ns = AllByRecursion (λ (n : Node). n.serial == w ≡ false) ns

-- whether this is the serial that was found
abbrev is_it : ℕ → Option ℕ → Bool
is_it w o = option_map_or (λ m. w == m) o false

none_before : (w : ℕ) (ns : List Node) (b : Option Node) → Other w ns → just_before w b ns ≡ None
none_before w [] b other = refl
none_before w (n ∷ ns) b other = ap (λ t. cond t b (just_before w (Some n) ns)) other.0 ∙ none_before w ns (Some n) other.1

not_first : (w : ℕ) (ns : List Node) → Other w ns → is_it w (first_of (serials ns)) ≡ false
not_first w [] other = refl
not_first w (n ∷ ns) other = swap_eqb n.serial w other.0

not_next : (w who : ℕ) (ns : List Node) → Other w ns → is_it w (following who (serials ns)) ≡ false
not_next w who [] other = refl
not_next w who (n ∷ ns) other = step (n.serial == who) (not_next w who ns other.1)
  where
    step : (t : Bool) → is_it w (following who (serials ns)) ≡ false → is_it w (cond t (first_of (serials ns)) (following who (serials ns))) ≡ false
    step true rest = not_first w ns other.1
    step false rest = rest

none_next : (who : ℕ) (ns : List Node) → Other who ns → following who (serials ns) ≡ None
none_next who [] other = refl
none_next who (n ∷ ns) other = ap (λ t. cond t (first_of (serials ns)) (following who (serials ns))) other.0 ∙ none_next who ns other.1

abbrev is_first : ℕ → List Node → Bool
is_first w ns = is_it w (first_of (serials ns))

before_is : (w who : ℕ) (ns : List Node) (b : Option Node) → Differ ns → has_serial who (just_before w b ns) ≡ ((has_serial who b && is_first w ns) || is_it w (following who (serials ns)))
before_is w who [] b d = by (has_serial who b)
  where
    by : (t : Bool) → false ≡ ((t && false) || false)
    by true = refl
    by false = refl
before_is w who (n ∷ ns) b d = step (n.serial == w) refl (n.serial == who) refl (before_is w who ns (Some n) d.1)
  where
    same : (t u : Bool) → u ≡ false → t ≡ ((t && true) || u)
    same true u q = refl
    same false u q = sym q

    none : (t x : Bool) → x ≡ ((t && false) || x)
    none true x = refl
    none false x = refl

    either : (f x : Bool) → x ≡ false → ((true && f) || x) ≡ f
    either true x q = refl
    either false x q = q

    turned : (t : Bool) → n.serial == w ≡ t → w == n.serial ≡ t
    turned true q = eq-eqb w n.serial (sym (eqb-true n.serial w q))
    turned false q = swap_eqb n.serial w q

    step : (t : Bool) → n.serial == w ≡ t → (u : Bool) → n.serial == who ≡ u
        → has_serial who (just_before w (Some n) ns) ≡ (((n.serial == who) && is_first w ns) || is_it w (following who (serials ns)))
        → has_serial who (cond t b (just_before w (Some n) ns)) ≡ ((has_serial who b && (w == n.serial)) || is_it w (cond u (first_of (serials ns)) (following who (serials ns))))
    step true q u r later =
        let other : Other w ns = subst (λ k. Other k ns) (eqb-true n.serial w q) d.0 in
        same (has_serial who b) (is_it w (cond u (first_of (serials ns)) (following who (serials ns)))) (by u other)
        ∙ ap (λ x. (has_serial who b && x) || is_it w (cond u (first_of (serials ns)) (following who (serials ns)))) (sym (turned true q))
      where
        by : (v : Bool) → Other w ns → is_it w (cond v (first_of (serials ns)) (following who (serials ns))) ≡ false
        by true other = not_first w ns other
        by false other = not_next w who ns other
    step false q true r later =
        let other : Other who ns = subst (λ k. Other k ns) (eqb-true n.serial who r) d.0 in
        later ∙ ap (λ x. (x && is_first w ns) || is_it w (following who (serials ns))) r
        ∙ either (is_first w ns) (is_it w (following who (serials ns))) (ap (is_it w) (none_next who ns other))
        ∙ none (has_serial who b) (is_first w ns)
        ∙ ap (λ x. (has_serial who b && x) || is_first w ns) (sym (turned false q))
    step false q false r later =
        later ∙ ap (λ x. (x && is_first w ns) || is_it w (following who (serials ns))) r
        ∙ none (has_serial who b) (is_it w (following who (serials ns)))
        ∙ ap (λ x. (has_serial who b && x) || is_it w (following who (serials ns))) (sym (turned false q))

absent : (w : ℕ) (ns : List Node) → list_any (λ c. w == c) (serials ns) ≡ false → Other w ns
absent w [] q = tt
absent w (n ∷ ns) q =
    let parts = or_parts (w == n.serial) (list_any (λ c. w == c) (serials ns)) q in
    (swap_eqb w n.serial parts.0, absent w ns parts.1)

none_such : (who w : ℕ) (ns : List Node) (b : Option Node) → Other who ns → has_serial who b ≡ false → has_serial who (just_before w b ns) ≡ false
none_such who w [] b other q = refl
none_such who w (n ∷ ns) b other q = step (n.serial == w) (none_such who w ns (Some n) other.1 other.0)
  where
    step : (t : Bool) → has_serial who (just_before w (Some n) ns) ≡ false → has_serial who (cond t b (just_before w (Some n) ns)) ≡ false
    step true rest = q
    step false rest = rest

module _ (h : History) (who : ℕ) (p : Node) (distinct : IsDistinct h.nodes) (there : has_element h.nodes who ≡ true) (under : time_parent h.nodes who ≡ Some p) (is_seq : is_seq_kind p.kind ≡ true) where
  abbrev children : List Node
  children = time_children h.nodes p.serial

  not_of_other : (q : Node) → p.serial == q.serial ≡ false → Other who (time_children h.nodes q.serial)
  not_of_other q apart = each_filter (λ (n : Node). n.serial == who ≡ false) (is_time_child h.nodes q.serial) h.nodes (λ n passes. by n (n.serial == who) refl passes)
    where
      by : (n : Node) (t : Bool) → n.serial == who ≡ t → is_time_child h.nodes q.serial n ≡ true → t ≡ false
      by n false e passes = refl
      by n true e passes =
          let inside : has_serial q.serial (time_parent h.nodes n.serial) ≡ true = (and_parts (is_element n) (has_serial q.serial (time_parent h.nodes n.serial)) passes).1 in
          let here : (p.serial == q.serial) ≡ true = sym (ap (has_serial q.serial) (ap (time_parent h.nodes) (eqb-true n.serial who e) ∙ under)) ∙ inside in
          let never : false ≡ true = sym apart ∙ here in cc

  one_seq : (w : ℕ) → has_element h.nodes w ≡ true → has_serial who (previous_in_seq h.nodes w) ≡ has_serial who (just_before w None children)
  one_seq w known = by (time_parent h.nodes w) refl
    where
      gone : has_serial p.serial (time_parent h.nodes w) ≡ false → has_serial who (just_before w None children) ≡ false
      gone q = ap (has_serial who) (none_before w children None (absent w children (is_child h.nodes p.serial w known ∙ q)))

      by : (o : Option Node) → time_parent h.nodes w ≡ o → has_serial who (cond (has_kind is_seq_kind (time_parent h.nodes w)) (previous_child h.nodes (time_parent h.nodes w) w) None) ≡ has_serial who (just_before w None children)
      by None e =
          ap (λ z. has_serial who (cond (has_kind is_seq_kind z) (previous_child h.nodes z w) None)) e
          ∙ sym (gone (ap (has_serial p.serial) e))
      by (Some q) e = ap (λ z. has_serial who (cond (has_kind is_seq_kind z) (previous_child h.nodes z w) None)) e ∙ same (q.serial == p.serial) refl
        where
          other : (t : Bool) → p.serial == q.serial ≡ false → has_serial who (cond t (just_before w None (time_children h.nodes q.serial)) None) ≡ false
          other true apart = none_such who w (time_children h.nodes q.serial) None (not_of_other q apart) refl
          other false apart = refl

          same : (t : Bool) → q.serial == p.serial ≡ t → has_serial who (cond (is_seq_kind q.kind) (just_before w None (time_children h.nodes q.serial)) None) ≡ has_serial who (just_before w None children)
          same true s =
              let serial : q.serial ≡ p.serial = eqb-true q.serial p.serial s in
              let found : Some q ≡ Some p = sym (parent_node h.nodes w q distinct (known_node h.nodes w known) e) ∙ ap (node_at h.nodes) serial ∙ parent_node h.nodes who p distinct (known_node h.nodes who there) under in
              let one : q ≡ p = cc in
              ap (λ (z : Node). has_serial who (cond (is_seq_kind z.kind) (just_before w None (time_children h.nodes z.serial)) None)) one
              ∙ ap (λ b. has_serial who (cond b (just_before w None children) None)) is_seq
          same false s =
              other (is_seq_kind q.kind) (swap_eqb q.serial p.serial s)
              ∙ sym (gone (ap (has_serial p.serial) e ∙ s))

  next_is : (w : ℕ) → has_element h.nodes w ≡ true → has_serial who (previous_in_seq h.nodes w) ≡ is_it w (following who (serials children))
  next_is w known = one_seq w known ∙ before_is w who children None (differ_kept (is_time_child h.nodes p.serial) h.nodes (differ_all h.nodes distinct))

  begins_is : (x : Entry) → IsKnown h.nodes x.step → begins_next h.nodes who x.step ≡ option_map_or (λ m. is_step kind.Began m x.step) (following who (serials children)) false
  begins_is x known = by x.step known
    where
      none : (o : Option ℕ) → false ≡ option_map_or (λ (m : ℕ). false) o false
      none None = refl
      none (Some m) = refl

      by : (step : Step) → IsKnown h.nodes step → begins_next h.nodes who step ≡ option_map_or (λ m. is_step kind.Began m step) (following who (serials children)) false
      by (Began w begin) q = next_is w q
      by (Repeated w start) q = none (following who (serials children))
      by (Ended w end') q = none (following who (serials children))
      by (Cut w) q = none (following who (serials children))
      by (Paused w) q = none (following who (serials children))
      by (Resumed w) q = none (following who (serials children))
      by (Deferred w begin) q = none (following who (serials children))
      by (Passed w begin) q = none (following who (serials children))
      by (Logged place) q = none (following who (serials children))

  pub next_began_is : (from : ℕ) → IsLawful h → option_map_or (began_from h.diary from) (following who (serials children)) false ≡ list_any (λ (x : Entry). begins_next h.nodes who x.step) (drop from h.diary)
  next_began_is from lawful =
      by (following who (serials children))
      ∙ sym (any_all (λ (x : Entry). IsKnown h.nodes x.step) (λ (x : Entry). begins_next h.nodes who x.step) (λ (x : Entry). option_map_or (λ m. is_step kind.Began m x.step) (following who (serials children)) false) (drop from h.diary)
      (each_drop (λ (x : Entry). IsKnown h.nodes x.step) from h.diary (known_all h [] h.diary lawful.steps)) begins_is)
    where
      by : (o : Option ℕ) → option_map_or (began_from h.diary from) o false ≡ list_any (λ (x : Entry). option_map_or (λ m. is_step kind.Began m x.step) o false) (drop from h.diary)
      by None = sym (any_none (drop from h.diary))
      by (Some m) = sym (any_place (λ (x : Entry). is_step kind.Began m x.step) from h.diary)

-- ---- what displaces a child, by the kind of its time parent

module _ (h : History) (who parent : ℕ) (above : IsUp h.nodes who parent) (kind : Kind) (told : Some kind ≡ kind_of (node_at h.nodes parent)) (lawful : IsLawful h) where
  kind_is : kind ≡ above.node.kind
  kind_is = same_Some kind above.node.kind (told ∙ ap kind_of above.known)

  abbrev siblings : Bool
  siblings = list_any (may_set_off h.diary who (finished_by h.diary who)) (serials (time_children h.nodes parent))

  abbrev nexts : Bool
  nexts = option_map_or (began_from h.diary (birth_under (Some above.node) h.diary)) (following who (serials (time_children h.nodes parent))) false

  abbrev set_off : Bool
  set_off = list_any (λ (x : Entry). sets_off_sibling h.nodes who x.step) (since_finish h.diary who)

  abbrev next_set_off : Bool
  next_set_off = list_any (λ (x : Entry). begins_next h.nodes who x.step) (since_birth h who)

  siblings_are : siblings ≡ set_off
  siblings_are =
      ap (λ k. list_any (may_set_off h.diary who (finished_by h.diary who)) (serials (time_children h.nodes k))) (sym above.serial)
      ∙ sibling_is h who (finished_by h.diary who) above.node above.under lawful

  nexts_are : IsDistinct h.nodes → has_element h.nodes who ≡ true → is_seq_kind above.node.kind ≡ true → nexts ≡ next_set_off
  nexts_are distinct there seq =
      ap (λ k. option_map_or (began_from h.diary (birth_under (Some above.node) h.diary)) (following who (serials (time_children h.nodes k))) false) (sym above.serial)
      ∙ next_began_is h who above.node distinct there above.under seq (birth_under (Some above.node) h.diary) lawful
      ∙ ap (λ o. list_any (λ (x : Entry). begins_next h.nodes who x.step) (drop (birth_under o h.diary) h.diary)) (sym above.under)

  abbrev by_kind : Kind → Bool
  by_kind k = ((is_seq_kind k || is_excl_kind k) && set_off) || (is_seq_kind k && next_set_off)

  displaced_is : by_kind kind ≡ is_displaced h who
  displaced_is =
      ap by_kind kind_is
      ∙ ap (λ o. ((has_kind is_seq_kind o || has_kind is_excl_kind o) && set_off) || (has_kind is_seq_kind o && next_set_off)) (sym above.under)

  pub seq_next : (n : Bool) → IsDistinct h.nodes → has_element h.nodes who ≡ true → kind ≡ kinds.Seq → n ≡ nexts → n ≡ true → n ≡ is_displaced h who
  seq_next n distinct there is says began =
      began ∙ by set_off ∙ ap (λ b. set_off || b) (sym began ∙ says ∙ nexts_are distinct there (ap is_seq_kind (sym kind_is ∙ is))) ∙ ap by_kind (sym is) ∙ displaced_is
    where
      by : (b : Bool) → true ≡ (b || true)
      by true = refl
      by false = refl

  pub seq_sibling : (n s : Bool) → IsDistinct h.nodes → has_element h.nodes who ≡ true → kind ≡ kinds.Seq → n ≡ nexts → n ≡ false → s ≡ siblings → s ≡ is_displaced h who
  seq_sibling n s distinct there is says idle also =
      also ∙ siblings_are ∙ by set_off ∙ ap (λ b. set_off || b) (sym idle ∙ says ∙ nexts_are distinct there (ap is_seq_kind (sym kind_is ∙ is))) ∙ ap by_kind (sym is) ∙ displaced_is
    where
      by : (b : Bool) → b ≡ (b || false)
      by true = refl
      by false = refl

  pub excl_sibling : (s : Bool) → kind ≡ kinds.Excl → s ≡ siblings → s ≡ is_displaced h who
  excl_sibling s is also = also ∙ siblings_are ∙ by set_off ∙ ap by_kind (sym is) ∙ displaced_is
    where
      by : (b : Bool) → b ≡ (b || false)
      by true = refl
      by false = refl

  pub no_displacing : (kind ≡ kinds.Seq → ⊥) → (kind ≡ kinds.Excl → ⊥) → false ≡ is_displaced h who
  no_displacing no_seq no_excl = by kind no_seq no_excl ∙ displaced_is
    where
      by : (k : Kind) → (k ≡ kinds.Seq → ⊥) → (k ≡ kinds.Excl → ⊥) → false ≡ by_kind k
      by kinds.Seq a b = absurd (a refl)
      by kinds.Excl a b = absurd (b refl)
      by kinds.Par a b = refl
      by kinds.PriorityClass a b = refl
      by kinds.Img a b = refl
      by kinds.Text a b = refl
      by kinds.Brush a b = refl
      by kinds.Audio a b = refl
      by kinds.Video a b = refl
      by kinds.Animation a b = refl
      by kinds.TextStream a b = refl
      by kinds.Ref a b = refl
      by kinds.Set a b = refl
