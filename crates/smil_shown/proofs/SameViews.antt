-- Views that are told to be the same are equal.
use Rattle.std.proofs.Common.{◌≡◌, refl, sym, ◌∙◌, ap, ℕ, zero, suc, true, eqb-true}
use Rattle.std.specs.Prelude.{◌==◌, int_le}
use Rattle.std.proofs.lemmas.Bool.{and_parts}
use Rattle.smil_model.specs.declared.view.Shown.{Shown}
use Rattle.smil_model.specs.declared.view.Shown.TheVariants as shown
use Rattle.smil_model.specs.declared.view.State.{State}
use Rattle.smil_model.specs.declared.view.State.TheVariants as state
use Rattle.smil_model.specs.declared.view.View.{View}
use Rattle.smil_model.proofs.NumberOrders.{le_exact}
use Rattle.smil_model.specs.shown.Orders.{state_code, shown_eq, view_eq}

state_named : ℕ → State
state_named zero = state.Idle
state_named (suc zero) = state.Waiting
state_named (suc (suc zero)) = state.Active
state_named (suc (suc (suc zero))) = state.Paused
state_named (suc (suc (suc (suc zero)))) = state.Deferred
state_named (suc (suc (suc (suc (suc zero))))) = state.Frozen
state_named _ = state.Done

named : (s : State) → state_named (state_code s) ≡ s
unfolding state_named
named state.Idle = refl
named state.Waiting = refl
named state.Active = refl
named state.Paused = refl
named state.Deferred = refl
named state.Frozen = refl
named state.Done = refl

same_state : (s t : State) → state_code s == state_code t ≡ true → s ≡ t
same_state s t e = sym (named s) ∙ (ap state_named (eqb-true (state_code s) (state_code t) e) ∙ named t)

same_time : (x y : Shown) → shown_eq x y ≡ true → x ≡ y
same_time shown.Nothing shown.Nothing e = refl
same_time shown.Indefinite shown.Indefinite e = refl
same_time shown.Unresolved shown.Unresolved e = refl
same_time shown.Standing shown.Standing e = refl
same_time (shown.At x) (shown.At y) e = let parts = and_parts (int_le x y) (int_le y x) e in ap shown.At (le_exact x y parts.0 parts.1)
same_time _ _ e = cc

made : ℕ → State → Shown → Shown → ℕ → ℕ → View
made serial state begin finish iteration finished = record { serial = serial; state = state; begin = begin; «end» = finish; iteration = iteration; finished = finished }

all_same : (v w : View) → v.serial ≡ w.serial → v.state ≡ w.state → v.begin ≡ w.begin → v.«end» ≡ w.«end» → v.iteration ≡ w.iteration → v.finished ≡ w.finished → v ≡ w
unfolding made
all_same v w a b c d e f =
    ap (λ x. made x v.state v.begin v.«end» v.iteration v.finished) a
    ∙ (ap (λ x. made w.serial x v.begin v.«end» v.iteration v.finished) b
    ∙ (ap (λ x. made w.serial w.state x v.«end» v.iteration v.finished) c
    ∙ (ap (λ x. made w.serial w.state w.begin x v.iteration v.finished) d
    ∙ (ap (λ x. made w.serial w.state w.begin w.«end» x v.finished) e
    ∙ ap (λ x. made w.serial w.state w.begin w.«end» w.iteration x) f))))

pub same_view : (v w : View) → view_eq v w ≡ true → v ≡ w
same_view v w e =
    let f = and_parts _ (v.finished == w.finished) e in
    let i = and_parts _ (v.iteration == w.iteration) f.0 in
    let d = and_parts _ (shown_eq v.«end» w.«end») i.0 in
    let c = and_parts _ (shown_eq v.begin w.begin) d.0 in
    let a = and_parts (v.serial == w.serial) (state_code v.state == state_code w.state) c.0 in
    all_same v w
    (eqb-true v.serial w.serial a.0)
    (same_state v.state w.state a.1)
    (same_time v.begin w.begin c.1)
    (same_time v.«end» w.«end» d.1)
    (eqb-true v.iteration w.iteration i.1)
    (eqb-true v.finished w.finished f.1)
