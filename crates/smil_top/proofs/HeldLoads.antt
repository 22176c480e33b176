-- A session that is given a load by a call goes on as by its lines.
use Rattle.std.proofs.Common.{◌≡◌, ℕ, suc, false, List, [], ◌∷◌, ◌++◌, Option, Some, None, Result, ap, sym, subst, ◌∙◌}
use Rattle.smil_report.specs.declared.records.Change.{Change}
use Rattle.smil_switch.specs.Preferences.{Wanted}
use Rattle.smil_top.specs.declared.counts.Counts.{Counts}
use Rattle.smil_top.specs.declared.fault.Fault.{Fault}
use Rattle.smil_top.specs.declared.held.Held.{Held}
use Rattle.smil_top.specs.declared.load.Load.{Load}
use Rattle.smil_top.specs.declared.session.Session.{Session as SessionSoFar}
use Rattle.smil_top.specs.Cut.{CutLines, LoadLines, OrderLines, load}
use Rattle.smil_top.specs.GivenLoads.{GoesOnLoaded, RecordsLoad, answered_as, end_behind, load_behind, nodes_from, outline_lines, with_load}
use Rattle.smil_top.specs.Running.{EvaluatesOn, IsOpen, IsRead, Tells}
use Rattle.smil_top.specs.Session.{Session}
use Rattle.smil_top.specs.Transcript.{TranscriptState, with_answer}

module _ (head outline : List ℕ) where
  -- the lines before the one that ends the load
  abbrev pub lines_at : ℕ → LoadLines
  lines_at first = record { head = record { number = first; text = head }; nodes = nodes_from (suc first) (outline_lines outline) }

  abbrev pub load_at : ℕ → ℕ → OrderLines
  load_at first «end» = load (lines_at first) (Some «end»)

  pub load-is : (count first «end» : ℕ) → first ≡ suc count → «end» ≡ end_behind count outline → load_at first «end» ≡ load_behind count head outline
  load-is count first «end» is ends = ap (λ n. load_at n «end») is ∙ ap (λ n. load_at (suc count) n) ends

  -- what was read, by the preferences of a session
  pub read-by : (first now : Load) (number : ℕ) (wanted preferred : Wanted) → wanted ≡ preferred → IsRead first preferred (record { head = record { number = number; text = head }; nodes = [] }) →
      ((w : Wanted) (lines : LoadLines) → IsRead first w lines → IsRead now w (record lines { nodes = lines.nodes ++ nodes_from (suc number) (outline_lines outline) })) → IsRead now wanted (lines_at number)
  read-by first now number wanted preferred same opened reads =
      subst (λ (w : Wanted). IsRead now w (lines_at number)) (sym same) (reads preferred (record { head = record { number = number; text = head }; nodes = [] }) opened)

  pub loads-into : (r : Result (Unit {0}) Fault) (changes : List Change) (so_far : SessionSoFar) (session : Session) (count first «end» : ℕ) → first ≡ suc count → «end» ≡ end_behind count outline →
      RecordsLoad r changes so_far session (load_at first «end») → RecordsLoad r changes so_far session (load_behind count head outline)
  loads-into r changes so_far session count first «end» is ends recorded =
      subst (RecordsLoad r changes so_far session) (load-is count first «end» is ends) recorded

  module _ (cut : CutLines) (first «end» : ℕ) (is : first ≡ suc cut.count) (ends : «end» ≡ end_behind cut.count outline) where
    pub loads-on : (r : Result (Unit {0}) Fault) (held : Held) (told : TranscriptState) → held.number ≡ «end» → held.run.load ≡ None →
        Tells false held.run (cut.whole ++ load_at first «end» ∷ []) (with_answer told (answered_as r told.session (load_at first «end»))) → GoesOnLoaded r held cut told head outline
    loads-on r held told same no_load tells =
        let more : TranscriptState = with_answer told (answered_as r told.session (load_behind cut.count head outline)) in
        record {
          running = record {
            tells = subst (λ (o : OrderLines). Tells false held.run (cut.whole ++ o ∷ []) (with_answer told (answered_as r told.session o))) (load-is cut.count first «end» is ends) tells;
            load = subst (λ (l : Option Load). IsOpen l more.session.wanted None) (sym no_load) tt;
          };
          number = same ∙ ends;
        }

    pub loads-evaluated : (old new : Counts) (before after : ℕ) → EvaluatesOn old new cut.whole (cut.whole ++ load_at first «end» ∷ []) before after →
        EvaluatesOn old new cut.whole (with_load cut head outline).whole before after
    loads-evaluated old new before after on =
        subst (λ (o : OrderLines). EvaluatesOn old new cut.whole (cut.whole ++ o ∷ []) before after) (load-is cut.count first «end» is ends) on
