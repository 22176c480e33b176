-- Attributes one after another.
use Rattle.std.proofs.Common.{◌≡◌, ℕ, Bool, true, false, ◌&&◌, List, [], ◌∷◌, Option, Some, None, Result, Ok, Err, refl, sym, ap, ◌∙◌}
use Rattle.std.specs.Prelude.{unwrap_or, IsSome, bytes_eq}
use Rattle.std.specs.List.{list_any}
use Rattle.smil_model.specs.declared.order.Refusal.{Refusal}
use Rattle.smil_grammar.specs.declared.fault.NodeFault.{NodeFault}
use Rattle.smil_grammar.specs.Results.{◌>>=◌}
use Rattle.smil_grammar.specs.Nodes.{WrittenAttr, with_written, at_column}
use Rattle.smil_grammar.specs.Outlines.{in_line}
use Rattle.smil_switch.specs.Preferences.{Wanted}
use Rattle.smil_switch.specs.Preferences.{is_test}
use Rattle.smil_switch.specs.Choices.{attribute_holds, attributes_hold, tests_repeat}

-- the tests before hold or don't, and those that follow
abbrev pub and_then : Bool → Result Bool Refusal → Result Bool Refusal
and_then before rest = rest >>= λ holds. Ok (before && holds)

-- one attribute is taken from those that are left
pub taken : (old new : Option (List WrittenAttr)) (w : WrittenAttr) → old ≡ with_written (Some w) new → IsSome old → IsSome new × (unwrap_or old [] ≡ w ∷ unwrap_or new [])
taken old None w e some = absurd cc
taken old (Some ws) w e some = (refl, ap (λ (o : Option (List WrittenAttr)). unwrap_or o []) e)

and_both : (a b c : Bool) → (a && (b && c)) ≡ ((a && b) && c)
and_both true b c = refl
and_both false b c = refl

abbrev fine : Bool → Result Bool Refusal
fine x = Ok x

by_parts : (spaces : ℕ) (before : Bool) (first rest : Result Bool NodeFault) (h : Bool) → in_line spaces first ≡ Ok h
    → and_then before (in_line spaces (first >>= λ a. rest >>= λ b. Ok (a && b))) ≡ and_then (before && h) (in_line spaces rest)
by_parts spaces before (Err f) rest h e = absurd cc
by_parts spaces before (Ok a) (Err f) h e = refl
by_parts spaces before (Ok a) (Ok b) h e =
    let same : a ≡ h = cc in
    ap fine (and_both before a b) ∙ ap (λ (x : Bool). fine ((before && x) && b)) same

pub held_on : (wanted : Wanted) (spaces : ℕ) (switch before h : Bool) (w : WrittenAttr) (ws : List WrittenAttr)
    → Ok h ≡ in_line spaces (at_column w (attribute_holds wanted switch w))
    → and_then before (in_line spaces (attributes_hold wanted switch (w ∷ ws))) ≡ and_then (before && h) (in_line spaces (attributes_hold wanted switch ws))
held_on wanted spaces switch before h w ws e = by_parts spaces before (at_column w (attribute_holds wanted switch w)) (attributes_hold wanted switch ws) h (sym e)

by_fault : (spaces : ℕ) (before : Bool) (first rest : Result Bool NodeFault) (f : Refusal) → in_line spaces first ≡ Err f
    → and_then before (in_line spaces (first >>= λ a. rest >>= λ b. Ok (a && b))) ≡ Err f
by_fault spaces before (Err g) rest f e = cc
by_fault spaces before (Ok a) rest f e = absurd cc

pub held_off : (wanted : Wanted) (spaces : ℕ) (switch before : Bool) (f : Refusal) (w : WrittenAttr) (ws : List WrittenAttr)
    → Err f ≡ in_line spaces (at_column w (attribute_holds wanted switch w))
    → and_then before (in_line spaces (attributes_hold wanted switch (w ∷ ws))) ≡ Err f
held_off wanted spaces switch before f w ws e = by_fault spaces before (at_column w (attribute_holds wanted switch w)) (attributes_hold wanted switch ws) f (sym e)

-- a test that stands once changes nothing
pub stands_once : (w : WrittenAttr) (ws : List WrittenAttr) → (is_test w.name && list_any (λ (other : WrittenAttr). bytes_eq other.name w.name) ws) ≡ false
    → tests_repeat ws ≡ tests_repeat (w ∷ ws)
stands_once w ws e = rw e refl
