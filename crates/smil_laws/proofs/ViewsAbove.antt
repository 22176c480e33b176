-- Where an entry does not show in an element it shows in none above it, and neither displaces the element.
use Rattle.std.proofs.Common.{◌≡◌, refl, sym, ◌∙◌, ap, ℕ, List, [], ◌∷◌, Option, Some, None, Bool, true, false}
use Rattle.std.specs.Prelude.{cond, ◌==◌, ◌||◌, ◌&&◌, not, reverse, drop, find}
use Rattle.std.specs.List.{AllByRecursion, list_any}
use Rattle.std.proofs.lemmas.Bool.{or_parts, or_from, or_right, or_left, and_parts, eqb-true, eq-eqb, and_right}
use Rattle.smil_model.specs.declared.diary.LogEntry.{LogEntry}
use Rattle.smil_model.specs.declared.diary.Step.{Step}
use Rattle.smil_model.specs.declared.diary.Step.TheVariants.{Began, Resumed}
use Rattle.smil_model.specs.declared.document.Node.{Node}
use Rattle.smil_model.specs.document.Document.{is_element, lineage, is_within, time_parent, has_serial, has_kind, is_in_seq, is_in_excl, is_seq_kind, is_excl_kind, is_time_child, time_children, just_before, previous_child, previous_in_seq}
use Rattle.smil_model.specs.reach.Reach.{shares_parent}
use Rattle.smil_model.specs.shown.Views.{is_sibling, sets_off_sibling, begins_next}
use Rattle.smil_laws.specs.Locality.{ParentsBefore}
use Rattle.smil_laws.proofs.LineageParents.{upwards-rest, upwards-head}
use Rattle.smil_laws.proofs.ForeignEntries.{is_about, Apart}
use Rattle.smil_laws.proofs.AsideDocuments.{each_filter}
use Rattle.smil_laws.proofs.DescendantChains.{found_any}
use Rattle.smil_laws.specs.Seen.{starts}

-- what the tail of a list has, the list has
any_drop : (t : Node → Bool) (ns : List Node) → list_any t (drop 1 ns) ≡ true → list_any t ns ≡ true
any_drop t [] q = q
any_drop t (n ∷ ns) q = or_right _ _ q

weaker_any : (t u : Node → Bool) (ns : List Node) → ((n : Node) → t n ≡ false → u n ≡ false) → list_any t ns ≡ false → list_any u ns ≡ false
weaker_any t u [] f q = refl
weaker_any t u (n ∷ ns) f q = let parts = or_parts _ _ q in or_from _ _ (f n parts.0) (weaker_any t u ns f parts.1)

-- the one before is one of the list
before_each : (P : Node → Type 0) (s : ℕ) (ns : List Node) (o : Option Node) (b : Node) → AllByRecursion P ns → (o ≡ Some b → P b) → just_before s o ns ≡ Some b → P b
before_each P s [] o b each first q = cc
before_each P s (n ∷ ns) o b each first q = step (n.serial == s) q (before_each P s ns (Some n) b each.1 here)
  where
    here : Some n ≡ Some b → P b
    here e = let one : n ≡ b = cc in rw (← one) each.0

    step : (t : Bool) → cond t o (just_before s (Some n) ns) ≡ Some b → (just_before s (Some n) ns ≡ Some b → P b) → P b
    step true r later = first r
    step false r later = later r

module _ (nodes : List Node) (first : ParentsBefore (reverse nodes)) where
  -- what is not in a lineage is in none of those above
  each_above : (t : Node → Bool) (s : ℕ) (chain : List Node) → lineage nodes s ≡ chain → list_any t chain ≡ false → AllByRecursion (λ (p : Node). list_any t (lineage nodes p.serial) ≡ false) chain
  each_above t s [] q free = tt
  each_above t s (m ∷ rest) q free = (
    ap (λ y. list_any t (lineage nodes y)) (upwards-head (reverse nodes) s m rest q) ∙ ap (list_any t) q ∙ free,
    each_above t m.parent rest (upwards-rest (reverse nodes) s m rest first q) ((or_parts _ _ free).1),
  )

  -- the nearest element of a chain stands first in its lineage
  pub record Heads (p : Node) : Type 0 where
    pub rest : List Node
    pub whole : lineage nodes p.serial ≡ p ∷ rest

  heads_chain : (s : ℕ) (chain : List Node) (p : Node) → lineage nodes s ≡ chain → find is_element chain ≡ Some p → Heads p
  heads_chain s [] p q f = cc
  heads_chain s (m ∷ rest) p q f = step (is_element m) f (heads_chain m.parent rest p (upwards-rest (reverse nodes) s m rest first q))
    where
      here : m ≡ p → Heads p
      here one = record {
        rest = rest;
        whole = ap (λ (x : Node). lineage nodes x.serial) (sym one) ∙ ap (lineage nodes) (upwards-head (reverse nodes) s m rest q) ∙ q ∙ ap (λ x. x ∷ rest) one;
      }

      step : (t : Bool) → cond t (Some m) (find is_element rest) ≡ Some p → (find is_element rest ≡ Some p → Heads p) → Heads p
      step true r later = here (let one : m ≡ p = cc in one)
      step false r later = later r

  parent_heads : (s : ℕ) (p : Node) → time_parent nodes s ≡ Some p → Heads p
  parent_heads s p f = by_chain (lineage nodes s) refl
    where
      by_chain : (chain : List Node) → lineage nodes s ≡ chain → Heads p
      by_chain [] e = let never : None ≡ Some p = sym (ap (λ c. find is_element (drop 1 c)) e) ∙ f in cc
      by_chain (m ∷ rest) e = heads_chain m.parent rest p (upwards-rest (reverse nodes) s m rest first e) (sym (ap (λ c. find is_element (drop 1 c)) e) ∙ f)

  -- time parents with one serial are one
  same_parent : (s t : ℕ) (p q : Node) → time_parent nodes s ≡ Some p → time_parent nodes t ≡ Some q → p.serial ≡ q.serial → p ≡ q
  same_parent s t p q f g e =
      let a = parent_heads s p f in
      let b = parent_heads t q g in
      let both : p ∷ a.rest ≡ q ∷ b.rest = sym a.whole ∙ ap (lineage nodes) e ∙ b.whole in
      cc

  -- an element is within its time parent
  within_parent : (s : ℕ) (p : Node) → time_parent nodes s ≡ Some p → is_within nodes p.serial s ≡ true
  within_parent s p f = any_drop (λ (a : Node). a.serial == p.serial) (lineage nodes s) (found_any is_element (drop 1 (lineage nodes s)) p f)

  module _ (step : Step) (x : ℕ) where
    -- the entry does not show in the element
    pub record Unseen (s : ℕ) : Type 0 where
      pub apart : Apart nodes x s
      pub beside : (starts step && (is_in_seq nodes x || is_in_excl nodes x) && shares_parent nodes (time_parent nodes x) s) ≡ false

    shares_above : (o : Option Node) (s : ℕ) (chain : List Node) → lineage nodes s ≡ chain → shares_parent nodes o s ≡ false → AllByRecursion (λ (p : Node). shares_parent nodes o p.serial ≡ false) chain
    shares_above None s chain q free = all chain
      where
        all : (ns : List Node) → AllByRecursion (λ (p : Node). shares_parent nodes None p.serial ≡ false) ns
        all [] = tt
        all (n ∷ ns) = (refl, all ns)
    shares_above (Some p) s chain q free =
        each_above (λ (a : Node). a.serial == p.serial) s chain q (sym (ap (list_any (λ (a : Node). a.serial == p.serial)) q) ∙ free)

    beside_above : (a b : Bool) (s : ℕ) (chain : List Node) → lineage nodes s ≡ chain → (a && b && shares_parent nodes (time_parent nodes x) s) ≡ false → AllByRecursion (λ (p : Node). (a && b && shares_parent nodes (time_parent nodes x) p.serial) ≡ false) chain
    beside_above true true s chain q free = shares_above (time_parent nodes x) s chain q free
    beside_above true false s chain q free = none chain
      where
        none : (ns : List Node) → AllByRecursion (λ (p : Node). (true && false && shares_parent nodes (time_parent nodes x) p.serial) ≡ false) ns
        none [] = tt
        none (n ∷ ns) = (refl, none ns)
    beside_above false b s chain q free = none chain
      where
        none : (ns : List Node) → AllByRecursion (λ (p : Node). (false && b && shares_parent nodes (time_parent nodes x) p.serial) ≡ false) ns
        none [] = tt
        none (n ∷ ns) = (refl, none ns)

    -- of a whole chain: it holds neither x nor what shares its parent
    pub all_unseen : (s : ℕ) (chain : List Node) → lineage nodes s ≡ chain → is_within nodes x s ≡ false → (starts step && (is_in_seq nodes x || is_in_excl nodes x) && shares_parent nodes (time_parent nodes x) s) ≡ false → AllByRecursion (λ (p : Node). Unseen p.serial) chain
    all_unseen s chain q free beside =
        let within : list_any (λ (a : Node). a.serial == x) chain ≡ false = sym (ap (list_any (λ (a : Node). a.serial == x)) q) ∙ free in
        join chain within
        (each_above (λ (a : Node). a.serial == x) s chain q within)
        (beside_above (starts step) (is_in_seq nodes x || is_in_excl nodes x) s chain q beside)
      where
        join : (ns : List Node) → list_any (λ (a : Node). a.serial == x) ns ≡ false → AllByRecursion (λ (p : Node). is_within nodes x p.serial ≡ false) ns → AllByRecursion (λ (p : Node). (starts step && (is_in_seq nodes x || is_in_excl nodes x) && shares_parent nodes (time_parent nodes x) p.serial) ≡ false) ns → AllByRecursion (λ (p : Node). Unseen p.serial) ns
        join [] w f g = tt
        join (n ∷ ns) w f g =
            let parts = or_parts _ _ w in (
              record {
                apart = record {
                  self = parts.0;
                  above = weaker_any (λ (a : Node). a.serial == x) (λ (a : Node). is_element a && (a.serial == x)) (lineage nodes n.serial) (λ a e. and_right (is_element a) (a.serial == x) e) f.0;
                };
                beside = g.0;
              },
              join ns parts.1 f.1 g.1,
            )

  -- ---- what displaces

  -- a step on x, where the element is unseen, is of no sibling in a seq or an excl
  module _ (x s : ℕ) (who : ℕ) (here : who ≡ x) where
    in_one : (p q : Node) → time_parent nodes s ≡ Some p → time_parent nodes who ≡ Some q → q.serial ≡ p.serial → (is_in_seq nodes s || is_in_excl nodes s) ≡ true → ((is_in_seq nodes x || is_in_excl nodes x) ≡ true) × (shares_parent nodes (time_parent nodes x) s ≡ true)
    in_one p q f g e kind =
        let one : q ≡ p = same_parent who s q p g f e in
        let same : time_parent nodes x ≡ time_parent nodes s = ap (time_parent nodes) (sym here) ∙ g ∙ ap Some one ∙ sym f in (
          ap (λ o. has_kind is_seq_kind o || has_kind is_excl_kind o) same ∙ kind,
          ap (λ o. shares_parent nodes o s) (same ∙ f) ∙ within_parent s p f,
        )

    -- a sibling shares the time parent
    no_sibling : (o : Option Node) → time_parent nodes s ≡ o → ((is_in_seq nodes x || is_in_excl nodes x) && shares_parent nodes (time_parent nodes x) s) ≡ false → (is_in_seq nodes s || is_in_excl nodes s) ≡ true → is_sibling nodes o s who ≡ false
    no_sibling None f free kind = refl
    no_sibling (Some p) f free kind = by_test (has_serial p.serial (time_parent nodes who)) refl
      where
        never : (q : Node) → time_parent nodes who ≡ Some q → q.serial == p.serial ≡ true → ⊥
        never q g t =
            let both = in_one p q f g (eqb-true q.serial p.serial t) kind in
            let lost : true ≡ false = sym (ap (λ b. b && shares_parent nodes (time_parent nodes x) s) both.0 ∙ both.1) ∙ free in
            cc

        by_parent : (o : Option Node) → time_parent nodes who ≡ o → has_serial p.serial o ≡ true → ⊥
        by_parent None g t = cc
        by_parent (Some q) g t = never q g t

        by_test : (t : Bool) → has_serial p.serial (time_parent nodes who) ≡ t → (not (who == s) && has_serial p.serial (time_parent nodes who)) ≡ false
        by_test true e = absurd (by_parent (time_parent nodes who) refl e)
        by_test false e = and_right (not (who == s)) (has_serial p.serial (time_parent nodes who)) e

    -- so does the one before
    no_next : ((is_in_seq nodes x || is_in_excl nodes x) && shares_parent nodes (time_parent nodes x) s) ≡ false → has_serial s (previous_in_seq nodes who) ≡ false
    no_next free = by_test (has_serial s (previous_in_seq nodes who)) refl
      where
        child_parent : (q p b : Node) → time_parent nodes who ≡ Some q → time_parent nodes b.serial ≡ Some p → b.serial ≡ s → p.serial ≡ q.serial → is_in_seq nodes who ≡ true → ⊥
        child_parent q p b g f d e kind =
            let same : time_parent nodes x ≡ Some q = ap (time_parent nodes) (sym here) ∙ g in
            let under : time_parent nodes s ≡ Some p = ap (time_parent nodes) (sym d) ∙ f in
            let shares : shares_parent nodes (time_parent nodes x) s ≡ true = ap (λ o. shares_parent nodes o s) same ∙ ap (λ y. is_within nodes y s) (sym e) ∙ within_parent s p under in
            let seq : (is_in_seq nodes x || is_in_excl nodes x) ≡ true = or_left _ _ (ap (is_in_seq nodes) (sym here) ∙ kind) in
            let lost : true ≡ false = sym (ap (λ b. b && shares_parent nodes (time_parent nodes x) s) seq ∙ shares) ∙ free in
            cc

        by_child : (q b : Node) (o : Option Node) → time_parent nodes who ≡ Some q → time_parent nodes b.serial ≡ o → has_serial q.serial o ≡ true → b.serial ≡ s → is_in_seq nodes who ≡ true → ⊥
        by_child q b None g f t d kind = cc
        by_child q b (Some p) g f t d kind = child_parent q p b g f d (eqb-true p.serial q.serial t) kind

        by_parent : (o : Option Node) (b : Node) → time_parent nodes who ≡ o → previous_child nodes o who ≡ Some b → b.serial ≡ s → is_in_seq nodes who ≡ true → ⊥
        by_parent None b g f d kind = cc
        by_parent (Some q) b g f d kind =
            let child : is_time_child nodes q.serial b ≡ true = before_each (λ (n : Node). is_time_child nodes q.serial n ≡ true) who (time_children nodes q.serial) None b (each_filter (λ (n : Node). is_time_child nodes q.serial n ≡ true) (is_time_child nodes q.serial) nodes (λ n e. e)) (λ e. let never : None ≡ Some b = e in cc) f in
            by_child q b (time_parent nodes b.serial) g refl ((and_parts (is_element b) (has_serial q.serial (time_parent nodes b.serial)) child).1) d kind

        by_seq : (t : Bool) (b : Node) → is_in_seq nodes who ≡ t → cond t (previous_child nodes (time_parent nodes who) who) None ≡ Some b → b.serial ≡ s → ⊥
        by_seq true b kind f d = by_parent (time_parent nodes who) b refl f d kind
        by_seq false b kind f d = cc

        by_before : (o : Option Node) → previous_in_seq nodes who ≡ o → has_serial s o ≡ true → ⊥
        by_before None f t = cc
        by_before (Some b) f t = by_seq (is_in_seq nodes who) b refl f (eqb-true b.serial s t)

        by_test : (t : Bool) → has_serial s (previous_in_seq nodes who) ≡ t → has_serial s (previous_in_seq nodes who) ≡ false
        by_test true e = absurd (by_before (previous_in_seq nodes who) refl e)
        by_test false e = e

  -- a step that is about x alone
  module _ (log : List LogEntry) (x s : ℕ) where
    about : (who : ℕ) → (who == x ≡ false → who == who ≡ false) → who ≡ x
    about who only = by_test (who == x) refl
      where
        by_test : (t : Bool) → who == x ≡ t → who ≡ x
        by_test true e = eqb-true who x e
        by_test false e = let never : true ≡ false = sym (eq-eqb who who refl) ∙ only e in cc

    pub no_set_off : (step : Step) → ((t : ℕ) → t == x ≡ false → is_about log t step ≡ false) → Unseen step x s → (is_in_seq nodes s || is_in_excl nodes s) ≡ true → sets_off_sibling nodes s step ≡ false
    no_set_off (Began who begin) only unseen kind = no_sibling x s who (about who (only who)) (time_parent nodes s) refl unseen.beside kind
    no_set_off (Resumed who) only unseen kind = no_sibling x s who (about who (only who)) (time_parent nodes s) refl unseen.beside kind
    no_set_off _ only unseen kind = refl

    pub no_begin_next : (step : Step) → ((t : ℕ) → t == x ≡ false → is_about log t step ≡ false) → Unseen step x s → begins_next nodes s step ≡ false
    no_begin_next (Began who begin) only unseen = no_next x s who (about who (only who)) unseen.beside
    no_begin_next _ only unseen = refl
