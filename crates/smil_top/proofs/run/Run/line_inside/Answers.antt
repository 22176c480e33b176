use Rattle.std.proofs.Common.{◌≡◌, ℕ, [], ◌∷◌, ◌++◌, Some, true, false, refl, ap, sym, subst, ◌∙◌, arith}
use Rattle.std.proofs.KnownBytes.{Appends-nil}
use Rattle.smil_grammar.specs.Scripts.{is_blank}
use Rattle.smil_script.specs.Loads.{ends_load}
use Rattle.smil_top.specs.declared.run.Run.{Run}
use Rattle.smil_top.specs.Cut.{NumberedLine, LoadLines, with_line}
use Rattle.smil_top.specs.Running.{IsRead}
use Rattle.smil_top.proofs.CutLines.{cut-blank_node, cut-ends, cut-long_node, cut-node}
use Rattle.smil_top.proofs.TranscriptStep.{Shows, load-of, open-of, shown-line, running-order, running-load, tells-on}
use Rattle.smil_top.proofs.run.Run.line_inside.Goals as goal
use Rattle.smil_top.proofs.run.Run.line_inside.Goals.{in_default-via-in-Some-2+else-is_blank, in_default-via-in_default}

pub returns-in-Some-clause-answers : goal.returns-in-Some-clause-answers
returns-in-Some-clause-answers g c checks cut told line running number shows =
    let run : Run = c.args.self.now in
    let count : ℕ = c.args.next.now.number in
    let is = shown-line c.in-Some.is shows in
    let ended : ends_load line ≡ true = ap ends_load is.0 ∙ sym c.ends_load.ensures ∙ c.if-ends_load.true in
    let found = load-of c.unwrap-load.result told.session.wanted run.load cut.«open» running.load (sym c.take.ensures.value ∙ c.unwrap-load.ensures) in
    running-order (cut-ends cut count line number found.0 found.1 is.1 ended) (c.end_load.ensures.load ∙ c.take.ensures.after)
    (c.end_load.ensures.answers checks cut.whole found.0 told found.2 (tells-on checks run _ cut.whole told refl refl running.tells))

pub returns-in-Some-2-clause-answers : goal.returns-in-Some-2-clause-answers
returns-in-Some-2-clause-answers g c checks cut told line running number shows =
    let run : Run = c.args.self.now in
    let count : ℕ = c.args.next.now.number in
    let is = shown-line c.in-Some.is shows in
    let ended : ends_load line ≡ false = ap ends_load is.0 ∙ sym c.ends_load.ensures ∙ c.if-ends_load.false in
    let blank : is_blank line ≡ true = ap is_blank (shown-line c.in-Some-2.is shows).0 ∙ sym c.is_blank.ensures ∙ c.if-is_blank.true in
    let found = open-of told.session.wanted run.load cut.«open» c.requires.inside running.load in
    running-load (cut-blank_node cut count line number found.2 found.3 is.1 ended blank) found.1 found.4 running.tells c.requires.empty (Appends-nil (g.K.Sink.taken c.args.sink.now), omega arith)

pub returns-in-Some-load-clause-answers : goal.returns-in-Some-load-clause-answers
returns-in-Some-load-clause-answers g c checks cut told line running number shows =
    let run : Run = c.args.self.now in
    let count : ℕ = c.args.next.now.number in
    let this : NumberedLine = record { number = count; text = line } in
    let found = load-of c.in-Some-load.load told.session.wanted run.load cut.«open» running.load c.in-Some-load.is in
    let lines : LoadLines = found.0 in
    let more : LoadLines = record lines { nodes = lines.nodes ++ this ∷ [] } in
    let new : Run = record run { load = Some c.push.new.self } in
    let read_on : with_line cut line ≡ record { count = count; whole = cut.whole; «open» = Some more } = elim c.in_default.branch [
      | in_default-via-in-Some-2+else-is_blank w ↦
          (let is = shown-line w.in-Some.is shows in
          let ended : ends_load line ≡ false = ap ends_load is.0 ∙ sym w.ends_load.ensures ∙ w.if-ends_load.false in
          let blank : is_blank line ≡ false = ap is_blank (shown-line w.in-Some-2.is shows).0 ∙ sym w.is_blank.ensures ∙ w.if-is_blank.false in
          cut-node cut count line number lines found.1 is.1 ended blank)
      | in_default-via-in_default w ↦
          cut-long_node cut count line number lines found.1 (subst (λ o. Shows o line) w.in_default.is shows)
    ] in
    let read = subst (λ x. IsRead x told.session.wanted lines) (sym c.in-Some-load.load-is) found.2 in
    running-load read_on refl (c.push.ensures told.session.wanted lines line read shows) (tells-on checks run new cut.whole told refl refl running.tells) c.requires.empty (Appends-nil (g.K.Sink.taken c.args.sink.now), omega arith)
