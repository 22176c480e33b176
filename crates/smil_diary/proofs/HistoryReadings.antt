-- The readings of a history, from the last places in its diary.
use Rattle.std.proofs.Common.{◌≡◌, ℕ, suc, ◌<◌, ◌≤◌, Bool, true, false, ◌&&◌, List, drop, length, refl, ap, sym, ◌∙◌, arith}
use Rattle.std.specs.Prelude.{fold, nat_le, if◌then◌else◌, Option, Some, None, is_some, unwrap_or}
use Rattle.std.specs.List.{count_by}
use Rattle.std.specs.Option.{option_map_or}
use Rattle.smil_model.specs.declared.diary.Entry.{Entry}
use Rattle.smil_model.specs.declared.diary.StepKind.TheVariants as kind
use Rattle.smil_model.specs.declared.document.Node.{Node}
use Rattle.smil_model.specs.document.Document.{time_parent, serial_of}
use Rattle.smil_model.specs.diary.Diary.{History, last_place, gives_birth, birth_under, lives_under, is_paused, deferral_after, is_deferred, iteration, iteration_from, is_step, last_step}
use Rattle.smil_diary.specs.Places.{is_decision, is_from, is_later}
use Rattle.smil_diary.specs.Readings.{IsOf}
use Rattle.smil_diary.specs.ElementPlaces.{element_of, paused_by, birth_by, decision_by, deferred_by}
use Rattle.smil_diary.proofs.LastPlaces.{birth-last, paused-last, deferral-last, decision-last}
use Rattle.smil_diary.proofs.ElementIndex.{playing}
use Rattle.smil_diary.proofs.EntryCounts.{iteration_at, iteration-last, repeats-last}

-- the birth, from the place of the parent's last begin or repeat
pub birth-at : (node : Option Node) (parent : ℕ) (diary : List Entry) (B : Option ℕ)
    → B ≡ last_place (λ (x : Entry). gives_birth parent x.step) diary
    → serial_of node ≡ Some parent
    → birth_under node diary ≡ option_map_or suc B (length diary)
birth-at None parent diary B is same = cc
birth-at (Some p) parent diary B is same =
    let serial : p.serial ≡ parent = cc in
    ap (λ s. option_map_or suc (last_place (λ (x : Entry). gives_birth s x.step) diary) (length diary)) serial
    ∙ ap (λ o. option_map_or suc o (length diary)) (sym is)

pub birth-of : (s : ℕ) (diary : List Entry)
    → birth_by (element_of diary s) ≡ last_place (λ (x : Entry). gives_birth s x.step) diary
unfolding element_of
birth-of s diary = sym (birth-last s diary)

pub paused-of : (s : ℕ) (diary : List Entry)
    → paused_by (element_of diary s) ≡ is_paused diary s
unfolding element_of
paused-of s diary =
    let active = playing diary s in
    let last = paused-last s diary in
    cc

some-if : {A : Type 0} (a : Bool) (o : Option A) → (a && is_some o) ≡ is_some (if a then o else None)
some-if true o = refl
some-if false o = refl

-- whether the begin is put off by the entries from a place on
abbrev deferred_since : ℕ → ℕ → List Entry → Bool
deferred_since s from diary =
    is_some (fold (λ before (x : Entry). deferral_after s x before x.step) None (drop from diary))

decision-of : (s : ℕ) (diary : List Entry)
    → decision_by (element_of diary s) ≡ last_place (λ (x : Entry). is_decision s x.step) diary
unfolding element_of
decision-of s diary = sym (decision-last s diary)

deferral-of : (s b : ℕ) (diary : List Entry) → deferred_by b (element_of diary s) ≡ deferred_since s b diary
unfolding element_of
deferral-of s b diary =
    ap (λ o. is_from b (last_step diary kind.Deferred s) && is_later (last_step diary kind.Deferred s) o) (decision-of s diary)
    ∙ sym (deferral-last s b diary)

pub deferred-of : (h : History) (who b : ℕ) (parent : Option ℕ) (diary : List Entry) (alive : Bool)
    → IsOf h diary who parent
    → ((node : Option Node) → serial_of node ≡ parent → b ≡ birth_under node diary)
    → ((node : Option Node) → serial_of node ≡ parent → alive ≡ lives_under node diary)
    → (alive && deferred_by b (element_of diary who)) ≡ is_deferred h who
deferred-of h who b parent diary alive of birth-is alive-is =
    let node : Option Node = time_parent h.nodes who in
    ap (λ o. alive && o) (deferral-of who b diary)
    ∙ ap (λ k. alive && deferred_since who k diary) (birth-is node of.parent_is)
    ∙ ap (λ a. a && deferred_since who (birth_under node diary) diary) (alive-is node of.parent_is)
    ∙ ap (λ xs. lives_under node xs && deferred_since who (birth_under node xs) xs) (sym of.diary_is)
    ∙ some-if (lives_under node h.diary)
    (fold (λ before (x : Entry). deferral_after who x before x.step) None (drop (birth_under node h.diary) h.diary))

pub iteration-of : (h : History) (who b : ℕ) (parent : Option ℕ) (diary : List Entry) (S : Option ℕ)
    → IsOf h diary who parent
    → ((node : Option Node) → serial_of node ≡ parent → b ≡ birth_under node diary)
    → S ≡ last_step diary kind.Began who
    → iteration_at who b S diary ≡ iteration h who
iteration-of h who b parent diary S of birth-is s =
    let node : Option Node = time_parent h.nodes who in
    ap (λ o. iteration_at who b o diary) s
    ∙ sym (iteration-last who b diary)
    ∙ ap (λ k. unwrap_or (iteration_from who (drop k diary)) 0) (birth-is node of.parent_is)
    ∙ ap (λ xs. unwrap_or (iteration_from who (drop (birth_under node xs) xs)) 0) (sym of.diary_is)

pub iteration-none : (h : History) (who : ℕ) (parent : Option ℕ) (diary : List Entry)
    → IsOf h diary who parent → None ≡ last_step diary kind.Began who → 0 ≡ iteration h who
iteration-none h who parent diary of s =
    let node : Option Node = time_parent h.nodes who in
    ap (λ o. iteration_at who (birth_under node diary) o diary) s
    ∙ sym (iteration-last who (birth_under node diary) diary)
    ∙ ap (λ xs. unwrap_or (iteration_from who (drop (birth_under node xs) xs)) 0) (sym of.diary_is)

pub iteration-within : (s b k : ℕ) (diary : List Entry) → b ≤ k
    → count_by (λ (x : Entry). is_step kind.Repeated s x.step) (drop k diary) ≡ iteration_at s b (Some k) diary
iteration-within s b k diary within =
    let test : nat_le b k ≡ true = grind arith in
    ap (λ t. if t then count_by (λ (x : Entry). is_step kind.Repeated s x.step) (drop k diary) else 0) (sym test)

pub iteration-before : (s b k : ℕ) (diary : List Entry) → k < b → 0 ≡ iteration_at s b (Some k) diary
iteration-before s b k diary before =
    let test : nat_le b k ≡ false = grind arith in
    ap (λ t. if t then count_by (λ (x : Entry). is_step kind.Repeated s x.step) (drop k diary) else 0) (sym test)

-- the repeats that the index keeps
pub repeats-of : (s k : ℕ) (diary : List Entry) → Some k ≡ last_step diary kind.Began s
    → unwrap_or (element_of diary s).repeats 0 ≡ count_by (λ (x : Entry). is_step kind.Repeated s x.step) (drop k diary)
unfolding element_of
repeats-of s k diary last = repeats-last s k diary last
