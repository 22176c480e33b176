-- The layers of sets at different places, put one after another, are the same stack in any order.
use Rattle.std.proofs.Common.{eq-eqb, ◌≡◌, refl, sym, ◌∙◌, ap, ℕ, List, [], ◌∷◌, ◌++◌, append_assoc, append-nil, Bool, true, false}
use Rattle.std.specs.Prelude.{◌&&◌, ◌==◌, bytes_eq, not, cond, if◌then◌else◌, filter, fold, map, Option, Some, None}
use Rattle.std.proofs.lemmas.List.Sums.{fold-append}
use Rattle.std.proofs.lemmas.List.Elements.{filter-append}
use Rattle.std.specs.List.{AllByRecursion}
use Rattle.smil_model.specs.declared.view.Layer.{Layer}
use Rattle.smil_model.specs.shown.Sandwich.{is_above, put_layer, layers_on, stack_of}
use Rattle.smil_laws.proofs.Lists.{each_kept, each_push, each_weaker}
use Rattle.smil_sandwich.proofs.LayerOrder.{is_above_through, is_above_one_way, is_above_either, is_above_stays}
use Rattle.smil_sandwich.specs.Stacks.{AppliedIsStack, AppliedAreKept, ChangeIsKept, AreApart, AreKept, IsAbsent, IsApart, all_applied, applied, sorted, with_layer, without}

abbrev Row : Type 0
Row = ℕ × Layer

abbrev IsAbove : Row → Row → Type 0
IsAbove l m = is_above l.1 m.1 ≡ true

-- each is above all behind it
abbrev IsStack : List Row → Type 0
IsStack [] = Unit {0}
IsStack (l ∷ ls) = AllByRecursion (IsAbove l) ls × IsStack ls

-- ---- what holds of all

pub all_put : (P : Row → Type 0) (l : Row) (ls : List Row) → P l → AllByRecursion P ls → AllByRecursion P (put_layer ls l)
all_put P l [] p h = (p, tt)
all_put P l (o ∷ ls) p h = step (is_above l.1 o.1) (all_put P l ls p h.1)
  where
    step : (t : Bool) → AllByRecursion P (put_layer ls l) → AllByRecursion P (if t then l ∷ o ∷ ls else o ∷ put_layer ls l)
    step true rest = (p, h)
    step false rest = (h.0, rest)

-- ---- stacks

stack_kept : (test : Row → Bool) (ls : List Row) → IsStack ls → IsStack (filter test ls)
stack_kept test [] h = tt
stack_kept test (o ∷ ls) h = step (test o) (stack_kept test ls h.1)
  where
    step : (t : Bool) → IsStack (filter test ls) → IsStack (cond t (o ∷ filter test ls) (filter test ls))
    step true rest = (each_kept (IsAbove o) test ls h.0, rest)
    step false rest = rest

-- a layer at another place than those of a stack
abbrev IsElsewhere : Row → Row → Type 0
IsElsewhere l m = ((m.1).position == (l.1).position) ≡ false

stack_put : (l : Row) (ls : List Row) → IsStack ls → AllByRecursion (IsElsewhere l) ls → IsStack (put_layer ls l)
stack_put l [] h apart = (tt, tt)
stack_put l (o ∷ ls) h apart = step (is_above l.1 o.1) refl (stack_put l ls h.1 apart.1)
  where
    step : (t : Bool) → is_above l.1 o.1 ≡ t → IsStack (put_layer ls l) → IsStack (if t then l ∷ o ∷ ls else o ∷ put_layer ls l)
    step true e rest = ((e, each_weaker _ _ ls h.0 (λ m g. is_above_through l.1 o.1 m.1 e g)), h)
    step false e rest = (all_put (IsAbove o) l ls (is_above_either l.1 o.1 apart.0 e) h.0, rest)

-- a layer above all is put on top
put_top : (l : Row) (ls : List Row) → AllByRecursion (IsAbove l) ls → put_layer ls l ≡ l ∷ ls
put_top l [] h = refl
put_top l (o ∷ ls) h = ap (λ t. if t then l ∷ o ∷ ls else o ∷ put_layer ls l) h.0

-- a layer below all is put at the end
put_end : (l : Row) (ls : List Row) → AllByRecursion (λ o. IsAbove o l) ls → put_layer ls l ≡ ls ++ (l ∷ [])
put_end l [] h = refl
put_end l (o ∷ ls) h = ap (λ t. if t then l ∷ o ∷ ls else o ∷ put_layer ls l) (is_above_one_way o.1 l.1 h.0) ∙ ap (λ rest. o ∷ rest) (put_end l ls h.1)

-- ---- the layers that a test keeps

-- a layer that it keeps, put in a stack, is put in what it keeps
kept_put : (test : Row → Bool) (l : Row) (ls : List Row) → test l ≡ true → IsStack ls → filter test (put_layer ls l) ≡ put_layer (filter test ls) l
kept_put test l [] e h = ap (λ t. cond t (l ∷ []) []) e
kept_put test l (o ∷ ls) e h = step (is_above l.1 o.1) refl (kept_put test l ls e h.1)
  where
    kept : List Row
    kept = filter test ls

    below : (u : Bool) → is_above l.1 o.1 ≡ false → filter test (put_layer ls l) ≡ put_layer kept l
        → cond u (o ∷ filter test (put_layer ls l)) (filter test (put_layer ls l)) ≡ put_layer (cond u (o ∷ kept) kept) l
    below true d rest = ap (λ k. o ∷ k) rest ∙ sym (ap (λ t. if t then l ∷ o ∷ kept else o ∷ put_layer kept l) d)
    below false d rest = rest

    step : (t : Bool) → is_above l.1 o.1 ≡ t → filter test (put_layer ls l) ≡ put_layer kept l
        → filter test (if t then l ∷ o ∷ ls else o ∷ put_layer ls l) ≡ put_layer (filter test (o ∷ ls)) l
    step true d rest =
        ap (λ t. cond t (l ∷ filter test (o ∷ ls)) (filter test (o ∷ ls))) e
        ∙ sym (put_top l (filter test (o ∷ ls)) (each_kept (IsAbove l) test (o ∷ ls) (d, each_weaker _ _ ls h.0 (λ m g. is_above_through l.1 o.1 m.1 d g))))
    step false d rest = below (test o) d rest

-- a layer that it doesn't keep changes nothing of what it keeps
dropped_put : (test : Row → Bool) (l : Row) (ls : List Row) → test l ≡ false → filter test (put_layer ls l) ≡ filter test ls
dropped_put test l [] e = ap (λ t. cond t (l ∷ []) []) e
dropped_put test l (o ∷ ls) e = step (is_above l.1 o.1) (dropped_put test l ls e)
  where
    step : (t : Bool) → filter test (put_layer ls l) ≡ filter test ls → filter test (if t then l ∷ o ∷ ls else o ∷ put_layer ls l) ≡ filter test (o ∷ ls)
    step true rest = ap (λ t. cond t (l ∷ filter test (o ∷ ls)) (filter test (o ∷ ls))) e
    step false rest = ap (λ k. cond (test o) (o ∷ k) k) rest

all_pass : (test : Row → Bool) (ls : List Row) → AllByRecursion (λ m. test m ≡ true) ls → filter test ls ≡ ls
all_pass test [] h = refl
all_pass test (o ∷ ls) h = ap (λ t. cond t (o ∷ filter test ls) (filter test ls)) h.0 ∙ ap (λ k. o ∷ k) (all_pass test ls h.1)

-- ---- layers that are put one after another

-- a stack, and layers to be put that are apart from each other and from those of the stack
record Grows (s ls : List Row) : Type 0 where
  stack : IsStack s
  others : AllByRecursion (λ m. AllByRecursion (IsApart m) ls) s
  apart : AreApart ls

grows_on : (s : List Row) (l : Row) (ls : List Row) → Grows s (l ∷ ls) → Grows (put_layer s l) ls
grows_on s l ls g = record {
  stack = stack_put l s g.stack (each_weaker _ _ s g.others (λ m h. h.0.1));
  others = all_put (λ m. AllByRecursion (IsApart m) ls) l s g.apart.0 (each_weaker _ _ s g.others (λ m h. h.1));
  apart = g.apart.1;
}

stack_fold : (s ls : List Row) → Grows s ls → IsStack (fold put_layer s ls)
stack_fold s [] g = g.stack
stack_fold s (l ∷ ls) g = stack_fold (put_layer s l) ls (grows_on s l ls g)

applied_fold : (s ls : List Row) → Grows s ls → all_applied s ls ≡ fold put_layer s ls
applied_fold s [] g = refl
applied_fold s (l ∷ ls) g =
    ap (λ k. all_applied (put_layer k l) ls) (all_pass (λ m. not (m.0 == l.0)) s (each_weaker _ _ s g.others (λ m h. ap not h.0.0)))
    ∙ applied_fold (put_layer s l) ls (grows_on s l ls g)

kept_fold : (test : Row → Bool) (s ls : List Row) → Grows s ls → filter test (fold put_layer s ls) ≡ fold put_layer (filter test s) (filter test ls)
kept_fold test s [] g = refl
kept_fold test s (l ∷ ls) g = step (test l) refl (kept_fold test (put_layer s l) ls (grows_on s l ls g))
  where
    step : (t : Bool) → test l ≡ t
        → filter test (fold put_layer (put_layer s l) ls) ≡ fold put_layer (filter test (put_layer s l)) (filter test ls)
        → filter test (fold put_layer (put_layer s l) ls) ≡ fold put_layer (filter test s) (cond t (l ∷ filter test ls) (filter test ls))
    step true e rest = rest ∙ ap (λ k. fold put_layer k (filter test ls)) (kept_put test l s e g.stack)
    step false e rest = rest ∙ ap (λ k. fold put_layer k (filter test ls)) (dropped_put test l s e)

-- a stack that is put from its top down is itself
put_down : (s ls : List Row) → AllByRecursion (λ m. AllByRecursion (IsAbove m) ls) s → IsStack ls → fold put_layer s ls ≡ s ++ ls
put_down s [] h g = sym (append-nil s)
put_down s (l ∷ ls) h g =
    ap (λ k. fold put_layer k ls) (put_end l s (each_weaker _ _ s h (λ m a. a.0)))
    ∙ put_down (s ++ (l ∷ [])) ls (each_push (λ m. AllByRecursion (IsAbove m) ls) s l (each_weaker _ _ s h (λ m a. a.1)) g.0) g.1
    ∙ append_assoc s (l ∷ []) ls

stack_again : (ls : List Row) → IsStack ls → fold put_layer [] ls ≡ ls
stack_again ls g = put_down [] ls tt g

-- ---- layers that are put in another order

-- of two layers the one that is above a third is put before it, the other behind
high_low : (l m o : Row) (ls : List Row) → is_above l.1 o.1 ≡ true → is_above m.1 o.1 ≡ false → put_layer (l ∷ o ∷ ls) m ≡ put_layer (o ∷ put_layer ls m) l
high_low l m o ls d e =
    ap (λ t. if t then m ∷ l ∷ o ∷ ls else l ∷ put_layer (o ∷ ls) m) (is_above_stays m.1 l.1 o.1 e d)
    ∙ ap (λ t. l ∷ (if t then m ∷ o ∷ ls else o ∷ put_layer ls m)) e
    ∙ sym (ap (λ t. if t then l ∷ o ∷ put_layer ls m else o ∷ put_layer (put_layer ls m) l) d)

-- it makes no difference which of two layers is put first
put_swap : (l m : Row) (ls : List Row) → ((l.1).position == (m.1).position) ≡ false → put_layer (put_layer ls l) m ≡ put_layer (put_layer ls m) l
put_swap l m ls apart = over ls
  where
    both : (below : List Row) (t u : Bool) → is_above m.1 l.1 ≡ t → is_above l.1 m.1 ≡ u
        → (if t then m ∷ l ∷ below else l ∷ m ∷ below) ≡ (if u then l ∷ m ∷ below else m ∷ l ∷ below)
    both below true true d e = let no = is_above_one_way m.1 l.1 d in cc
    both below true false d e = refl
    both below false true d e = refl
    both below false false d e = let yes = is_above_either m.1 l.1 apart d in cc

    step : (o : Row) (ls : List Row) (t u : Bool) → is_above l.1 o.1 ≡ t → is_above m.1 o.1 ≡ u
        → put_layer (put_layer ls l) m ≡ put_layer (put_layer ls m) l
        → put_layer (if t then l ∷ o ∷ ls else o ∷ put_layer ls l) m ≡ put_layer (if u then m ∷ o ∷ ls else o ∷ put_layer ls m) l
    step o ls true true d e rest =
        ap (λ t. if is_above m.1 l.1 then m ∷ l ∷ o ∷ ls else l ∷ (if t then m ∷ o ∷ ls else o ∷ put_layer ls m)) e
        ∙ both (o ∷ ls) (is_above m.1 l.1) (is_above l.1 m.1) refl refl
        ∙ sym (ap (λ t. if is_above l.1 m.1 then l ∷ m ∷ o ∷ ls else m ∷ (if t then l ∷ o ∷ ls else o ∷ put_layer ls l)) d)
    step o ls true false d e rest = high_low l m o ls d e
    step o ls false true d e rest = sym (high_low m l o ls e d)
    step o ls false false d e rest =
        ap (λ t. if t then m ∷ o ∷ put_layer ls l else o ∷ put_layer (put_layer ls l) m) e
        ∙ ap (λ k. o ∷ k) rest
        ∙ sym (ap (λ t. if t then l ∷ o ∷ put_layer ls m else o ∷ put_layer (put_layer ls m) l) d)

    over : (ls : List Row) → put_layer (put_layer ls l) m ≡ put_layer (put_layer ls m) l
    over [] = both [] (is_above m.1 l.1) (is_above l.1 m.1) refl refl
    over (o ∷ ls) = step o ls (is_above l.1 o.1) (is_above m.1 o.1) refl refl (over ls)

-- nor whether it is put before some layers or after them
put_last : (l : Row) (s ls : List Row) → AllByRecursion (IsApart l) ls → fold put_layer (put_layer s l) ls ≡ put_layer (fold put_layer s ls) l
put_last l s [] h = refl
put_last l s (o ∷ ls) h = ap (λ k. fold put_layer k ls) (put_swap l o s h.0.1) ∙ put_last l (put_layer s o) ls h.1

-- ---- a layer among others

apart_behind : (before : List Row) (l : Row) (after : List Row) → AreApart (before ++ (l ∷ after)) → AllByRecursion (IsApart l) after
apart_behind [] l after h = h.0
apart_behind (b ∷ before) l after h = apart_behind before l after h.1

cleared : (setter : ℕ) (old : Option Layer) (before after : List Row) → IsAbsent setter before → IsAbsent setter after
    → without setter (with_layer before setter old after) ≡ before ++ after
cleared setter old before after h g = by_layer old
  where
    test : Row → Bool
    test l = not (l.0 == setter)

    passes : (ls : List Row) → IsAbsent setter ls → filter test ls ≡ ls
    passes ls a = all_pass test ls (each_weaker _ _ ls a (λ m q. ap not q))

    both : filter test before ++ filter test after ≡ before ++ after
    both = ap (λ k. k ++ filter test after) (passes before h) ∙ ap (λ k. before ++ k) (passes after g)

    by_layer : (old : Option Layer) → filter test (with_layer before setter old after) ≡ before ++ after
    by_layer None = filter-append test before after ∙ both
    by_layer (Some layer) =
        filter-append test before ((setter, layer) ∷ after)
        ∙ ap (λ t. filter test before ++ cond (not t) ((setter, layer) ∷ filter test after) (filter test after)) (eq-eqb setter setter refl)
        ∙ both

-- ---- the laws

starts : (layers : List Row) → AreApart layers → Grows [] layers
starts layers apart = record { stack = tt; others = tt; apart = apart }

pub applied_are_kept : AppliedAreKept
applied_are_kept layers apart = record { apart = apart; from_top = applied_fold [] layers (starts layers apart) }

pub change_is_kept : ChangeIsKept
change_is_kept before after kept setter old new none nor apart h = by_layer new apart
  where
    others : without setter kept ≡ sorted (before ++ after)
    others =
        ap (without setter) h.from_top ∙ kept_fold (λ l. not (l.0 == setter)) [] (with_layer before setter old after) (starts _ h.apart)
        ∙ ap sorted (cleared setter old before after none nor)

    by_layer : (new : Option Layer) → AreApart (with_layer before setter new after) → AreKept (with_layer before setter new after) (applied setter new kept)
    by_layer None apart = record { apart = apart; from_top = others }
    by_layer (Some layer) apart = record {
      apart = apart;
      from_top =
          ap (λ k. put_layer k (setter, layer)) (others ∙ fold-append put_layer [] before after)
          ∙ sym (put_last (setter, layer) (sorted before) after (apart_behind before (setter, layer) after apart))
          ∙ sym (fold-append put_layer [] before ((setter, layer) ∷ after));
    }

-- what is kept of an attribute is its stack
pub kept_on : (all kept : List Row) (target : ℕ) (name : List ℕ) → AreKept all kept → map (λ (l : Row). l.0) (layers_on kept target name) ≡ stack_of all target name
kept_on all kept target name h =
    ap (λ k. map (λ (l : Row). l.0) (layers_on k target name)) h.from_top
    ∙ ap (map (λ (l : Row). l.0)) (kept_fold (λ l. ((l.1).target == target) && bytes_eq (l.1).attr name) [] all (starts all h.apart))

pub applied_is_stack : AppliedIsStack
applied_is_stack layers target name apart =
    let test = λ (l : Row). ((l.1).target == target) && bytes_eq (l.1).attr name in
    let g : Grows [] layers = starts layers apart in
    let kept : filter test (fold put_layer [] layers) ≡ fold put_layer [] (filter test layers) = kept_fold test [] layers g in
    let on : layers_on (all_applied [] layers) target name ≡ filter test (fold put_layer [] layers) = ap (filter test) (applied_fold [] layers g) in
    ap (λ (ls : List Row). map (λ (l : Row). l.0) (fold put_layer [] ls)) on
    ∙ ap (map (λ (l : Row). l.0)) (stack_again (filter test (fold put_layer [] layers)) (stack_kept test _ (stack_fold [] layers g)) ∙ kept)
