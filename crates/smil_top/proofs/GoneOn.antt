-- A session that is given an order by a call goes on as by a line that says it.
use Rattle.std.proofs.Common.{◌≡◌, ◌≤◌, ℕ, suc, length, false, List, [], ◌∷◌, ◌++◌, Option, Some, None, Result, refl, sym, subst, ◌∙◌}
use Rattle.std.specs.Prelude.{is_some, true}
use Rattle.smil_model.specs.declared.limits.TheConstants.{LINE_BYTES}
use Rattle.smil_model.specs.declared.order.Order.{Order}
use Rattle.smil_model.specs.declared.order.Refusal.{Refusal}
use Rattle.smil_grammar.specs.declared.read.Read.TheVariants.{Close, To}
use Rattle.smil_grammar.specs.Scripts.{is_blank, opens_load}
use Rattle.smil_switch.specs.Preferences.{Wanted}
use Rattle.smil_top.specs.declared.counts.Counts.{Counts}
use Rattle.smil_top.specs.declared.held.Held.{Held}
use Rattle.smil_top.specs.declared.load.Load.{Load}
use Rattle.smil_top.specs.Cut.{CutLines, LoadLines, single, with_line}
use Rattle.smil_top.specs.Recorded.{GoesOn, Says, SaysClose, answered_by, next_single}
use Rattle.smil_top.specs.Running.{EvaluatesOn, IsOpen, IsRunning, Tells}
use Rattle.smil_top.specs.Transcript.{TranscriptState, with_answer}
use Rattle.smil_top.proofs.CutLines.{cut-single}
use Rattle.smil_top.proofs.OrderCuts.{count-with_line}
use Rattle.smil_top.proofs.EvaluationCounts.{evaluated-cut}
use Rattle.smil_top.proofs.SaidLines.{apart-close, apart-to, said-no_blank, said-no_load}

-- a load that is open has lines
pub has-lines : (load : Option Load) (wanted : Wanted) (lines : Option LoadLines) → IsOpen load wanted lines → is_some load ≡ true → is_some lines ≡ true
has-lines None wanted None is some = some
has-lines None wanted (Some lines) is some = absurd is
has-lines (Some load) wanted None is some = absurd is
has-lines (Some load) wanted (Some lines) is some = refl

-- and where none is open there are none
pub has-none : (load : Option Load) (wanted : Wanted) (lines : Option LoadLines) → IsOpen load wanted lines → is_some load ≡ false → lines ≡ None
has-none None wanted None is none = refl
has-none None wanted (Some lines) is none = absurd is
has-none (Some load) wanted lines is none = absurd cc

pub is-none : (load : Option Load) → is_some load ≡ false → load ≡ None
is-none None none = refl
is-none (Some load) none = absurd cc

-- a line that is an order
pub record IsSingle (line : List ℕ) : Type 0 where
  pub short : length line ≤ LINE_BYTES
  pub no_load : opens_load line ≡ false
  pub no_blank : is_blank line ≡ false

pub single-said : (name : List ℕ) (order : Order) (line : List ℕ) → Says line name order → IsSingle line
single-said name order line says =
    let apart = apart-to name order in
    record { short = says.short; no_load = said-no_load (To name order) apart line says.reading; no_blank = said-no_blank (To name order) apart line says.reading }

pub single-closes : (name line : List ℕ) → SaysClose line name → IsSingle line
single-closes name line says =
    let apart = apart-close name in
    record { short = says.short; no_load = said-no_load (Close name) apart line says.reading; no_blank = said-no_blank (Close name) apart line says.reading }

module _ (cut : CutLines) (line : List ℕ) (is_single : IsSingle line) (out : cut.«open» ≡ None) where
  cut-is : with_line cut line ≡ record { count = suc cut.count; whole = cut.whole ++ next_single cut line ∷ []; «open» = None }
  cut-is = cut-single cut (suc cut.count) line refl out is_single.short is_single.no_load is_single.no_blank

  pub goes-on : {A : Type 0} (r : Result A Refusal) (held : Held) (told : TranscriptState) (number : ℕ) → number ≡ suc cut.count → held.number ≡ number → held.run.load ≡ None →
      Tells false held.run (cut.whole ++ single (record { number = number; text = line }) ∷ []) (with_answer told (answered_by r told.session (single (record { number = number; text = line })))) →
      GoesOn r held cut told line
  goes-on r held told number is same no_load tells =
      let more : TranscriptState = with_answer told (answered_by r told.session (next_single cut line)) in
      let now : Tells false held.run (cut.whole ++ next_single cut line ∷ []) more =
      subst (λ n. Tells false held.run (cut.whole ++ single (record { number = n; text = line }) ∷ []) (with_answer told (answered_by r told.session (single (record { number = n; text = line }))))) is tells
      in
      record {
        running = subst (λ (c : CutLines). IsRunning false held.run c more) (sym cut-is) (record { tells = now; load = subst (λ (l : Option Load). IsOpen l more.session.wanted None) (sym no_load) tt });
        number = same ∙ is ∙ sym (count-with_line cut line);
      }

  pub evaluates-on : (old new : Counts) (number before after : ℕ) → number ≡ suc cut.count →
      EvaluatesOn old new cut.whole (cut.whole ++ single (record { number = number; text = line }) ∷ []) before after → EvaluatesOn old new cut.whole (with_line cut line).whole before after
  evaluates-on old new number before after is on =
      evaluated-cut old new cut.whole (cut.whole ++ next_single cut line ∷ []) (with_line cut line) (suc cut.count) None before after cut-is
      (subst (λ n. EvaluatesOn old new cut.whole (cut.whole ++ single (record { number = n; text = line }) ∷ []) before after) is on)
