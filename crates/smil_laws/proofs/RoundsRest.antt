-- The rounds come to rest: with a rank that rises along every dependency on no cycle, an element's interval stays
-- from the round after its rank on.
use Rattle.std.proofs.lemmas.Bool.{eqb-true}
use Rattle.std.proofs.Common.{add-zero, add-suc, ◌≡◌, refl, sym, ◌∙◌, ap, ℕ, suc, zero, ◌<◌, ◌+◌, List, [], ◌∷◌, Option, Some, None, ℤ, Bool, true, false, arith}
use Rattle.std.specs.Prelude.{map, find, cond, ◌==◌, option_and_then}
use Rattle.smil_model.specs.declared.interval.Interval.{Interval}
use Rattle.smil_model.specs.declared.document.Node.{Node}
use Rattle.smil_model.specs.document.Document.{elements, node_at}
use Rattle.smil_model.specs.diary.Diary.{History}
use Rattle.smil_model.specs.interval.Current.{interval_given, in_table, table}
use Rattle.smil_laws.specs.Rounds.{IsRank}
use Rattle.smil_laws.proofs.IntervalLocality.{same_interval}

in_table-map : (f : Node → Option Interval) (ns : List Node) (s : ℕ) → in_table (map (λ (n : Node). (n.serial, f n)) ns) s ≡ option_and_then f (find (λ (n : Node). n.serial == s) ns)
in_table-map f [] s = refl
in_table-map f (n ∷ ns) s = step (n.serial == s) (in_table-map f ns s)
  where
    step : (t : Bool) → in_table (map (λ (n : Node). (n.serial, f n)) ns) s ≡ option_and_then f (find (λ (n : Node). n.serial == s) ns) → cond t (f n) (in_table (map (λ (n : Node). (n.serial, f n)) ns) s) ≡ option_and_then f (cond t (Some n) (find (λ (n : Node). n.serial == s) ns))
    step true q = refl
    step false q = q

-- the interval of an element after k rounds
abbrev pub after_rounds : History → ℤ → ℕ → ℕ → Option Interval
after_rounds h now k s = in_table (table h now k) s

pub after_rounds-suc : (h : History) (now : ℤ) (k s : ℕ) → after_rounds h now (suc k) s ≡ option_and_then (interval_given h (after_rounds h now k) now) (node_at (elements h.nodes) s)
after_rounds-suc h now k s = in_table-map (interval_given h (after_rounds h now k) now) (elements h.nodes) s

pub find-serial : (s : ℕ) (ns : List Node) (e : Node) → find (λ (n : Node). n.serial == s) ns ≡ Some e → e.serial ≡ s
find-serial s [] e q = cc
find-serial s (n ∷ ns) e q = step (n.serial == s) refl q (find-serial s ns e)
  where
    step : (t : Bool) → n.serial == s ≡ t → cond t (Some n) (find (λ (n : Node). n.serial == s) ns) ≡ Some e → (find (λ (n : Node). n.serial == s) ns ≡ Some e → e.serial ≡ s) → e.serial ≡ s
    step true t q later = let same : n ≡ e = cc in rw (← same) (eqb-true n.serial s t)
    step false t q later = later q

module _ (h : History) (now : ℤ) (r : ℕ → ℕ) (ranked : (e : Node) → node_at (elements h.nodes) e.serial ≡ Some e → IsRank h.nodes r e) where
  mutual_step : (k : ℕ) (e : Node) → node_at (elements h.nodes) e.serial ≡ Some e → ((x : ℕ) → r x < r e.serial → after_rounds h now k x ≡ after_rounds h now (suc k) x) → interval_given h (after_rounds h now k) now e ≡ interval_given h (after_rounds h now (suc k)) now e
  mutual_step k e here below =
      same_interval h (after_rounds h now k) (after_rounds h now (suc k)) now e
      (record {
        children = λ s t q. below s ((ranked e here).children s t q);
        before = λ b q. below b.serial ((ranked e here).before b q);
        named = λ x t c. below x ((ranked e here).named x t c);
      })

  -- an element's interval stays from the round after its rank on
  pub rests : (k s : ℕ) → r s < k → after_rounds h now k s ≡ after_rounds h now (suc k) s
  rests zero s lt = absurd (omega arith)
  rests (suc k) s lt =
      after_rounds-suc h now k s
      ∙ at_node (node_at (elements h.nodes) s) refl (find-serial s (elements h.nodes)) (rests k)
      ∙ sym (after_rounds-suc h now (suc k) s)
    where
      at_node : (o : Option Node) → node_at (elements h.nodes) s ≡ o → ((e : Node) → o ≡ Some e → e.serial ≡ s) → ((x : ℕ) → r x < k → after_rounds h now k x ≡ after_rounds h now (suc k) x) → option_and_then (interval_given h (after_rounds h now k) now) o ≡ option_and_then (interval_given h (after_rounds h now (suc k)) now) o
      at_node None q f below = refl
      at_node (Some e) q f below =
          let same : e.serial ≡ s = f e refl in
          mutual_step k e (ap (node_at (elements h.nodes)) same ∙ q) (λ x less. below x (omega (arith, less, lt, ap r same)))

  -- so all rounds from a bound of the ranks on give the same
  pub all_rest : (n j s : ℕ) → r s < n → after_rounds h now n s ≡ after_rounds h now (n + j) s
  all_rest n zero s lt = rw add-zero
  all_rest n (suc j) s lt = all_rest n j s lt ∙ rests (n + j) s (omega arith) ∙ rw (add-suc n j)

  -- intervals that agree, each with those that feed it, are the current ones: so an evaluation along a rank finds them
  pub agrees : (n : ℕ) → ((s : ℕ) → r s < n) → (J : ℕ → Option Interval) → ((s : ℕ) → J s ≡ option_and_then (interval_given h J now) (node_at (elements h.nodes) s)) → (k s : ℕ) → r s < k → J s ≡ after_rounds h now n s
  agrees n bounded J fixed zero s lt = absurd (omega arith)
  agrees n bounded J fixed (suc k) s lt =
      fixed s
      ∙ at_node (node_at (elements h.nodes) s) refl (find-serial s (elements h.nodes)) (agrees n bounded J fixed k)
      ∙ sym (after_rounds-suc h now n s)
      ∙ sym (rests n s (bounded s))
    where
      at_node : (o : Option Node) → node_at (elements h.nodes) s ≡ o → ((e : Node) → o ≡ Some e → e.serial ≡ s) → ((x : ℕ) → r x < k → J x ≡ after_rounds h now n x) → option_and_then (interval_given h J now) o ≡ option_and_then (interval_given h (after_rounds h now n) now) o
      at_node None q f below = refl
      at_node (Some e) q f below =
          let same : e.serial ≡ s = f e refl in
          let here : node_at (elements h.nodes) e.serial ≡ Some e = ap (node_at (elements h.nodes)) same ∙ q in
          same_interval h J (after_rounds h now n) now e
          (record {
            children = λ c t i. below c (omega (arith, (ranked e here).children c t i, lt, ap r same));
            before = λ b i. below b.serial (omega (arith, (ranked e here).before b i, lt, ap r same));
            named = λ x t c. below x (omega (arith, (ranked e here).named x t c, lt, ap r same));
          })
