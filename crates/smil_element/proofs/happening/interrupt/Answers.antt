use Rattle.std.proofs.Common.{◌≡◌, ◌++◌, ◌∷◌, [], List, ℕ, ℤ, ap, ◌∙◌, append_assoc, w64, to_z, of_z, arith}
use Rattle.std.proofs.lemmas.Int.{ints, to_z-of_z}
use Rattle.smil_model.specs.declared.diary.Step.{Step}
use Rattle.smil_model.specs.declared.diary.Step.TheVariants.{Began, Deferred, Ended, Passed, Paused}
use Rattle.smil_model.specs.declared.document.Act.TheVariants.{Stop, Pause, Defer, Never}
use Rattle.smil_model.specs.diary.Diary.{History}
use Rattle.smil_model.specs.diary.Clocks.{outer}
use Rattle.smil_model.specs.happening.Groups.{cuts, interruption}
use Rattle.smil_model.specs.happening.Queue.{decision}
use Rattle.smil_element.specs.Parts.{cuts_below}
use Rattle.smil_element.proofs.LastAppended.{behind, told}
use Rattle.smil_element.proofs.EndFollowers.{acts, cuts_are}
use Rattle.smil_element.proofs.happening.interrupt.Goals as goal

-- what the begin makes of the playing child and of itself
abbrev interrupted : ℕ → ℤ → ℕ → History → ℤ → List Step
interrupted who begin playing h m = interruption h m who begin playing (decision h.nodes playing who)

pub returns-in_ok-stop-in-Stop : goal.returns-in_ok-stop-in-Stop
returns-in_ok-stop-in-Stop c =
    let now = c.args.parts.now in
    let who = c.args.newcomer.who in
    let begin = c.args.newcomer.begin in
    let playing = c.args.playing in
    let finish = c.outer_of-end.result in
    let began = Began who (to_z w64 (of_z w64 begin)) in
    let ended = Ended playing (to_z w64 (of_z w64 finish)) in
    let whole : to_z w64 (of_z w64 begin) ≡ begin = omega (arith, ints) in
    let whole_end = to_z-of_z w64 finish (record { sfits = c.outer_of-end.type_inv }) in
    told c.put.result now c.args.entries.now c.put.new.entries ((cuts_below now playing ++ ended ∷ []) ++ began ∷ []) (interrupted who begin playing)
    (behind c.put.result now c.args.entries.now c.put.new.entries c.stop.new.entries (cuts_below now playing ++ ended ∷ []) (began ∷ []) c.in_ok-stop-in-Stop.ensures c.put.ensures)
    (λ h parts.
    append_assoc (cuts_below now playing) (ended ∷ []) (began ∷ [])
    ∙ ap (λ cs. cs ++ (ended ∷ began ∷ [])) (cuts_are now h playing parts)
    ∙ ap (λ v. cuts h playing ++ (Ended playing v ∷ began ∷ [])) (whole_end ∙ c.outer_of-end.ensures h parts)
    ∙ ap (λ v. cuts h playing ++ (Ended playing (outer h playing now.moment) ∷ Began who v ∷ [])) whole
    ∙ acts now h who begin playing Stop parts c.in-Stop.ensures)

pub returns-in_ok-put-in-Pause : goal.returns-in_ok-put-in-Pause
returns-in_ok-put-in-Pause c =
    let now = c.args.parts.now in
    let who = c.args.newcomer.who in
    let begin = c.args.newcomer.begin in
    let playing = c.args.playing in
    let began = Began who (to_z w64 (of_z w64 begin)) in
    let whole : to_z w64 (of_z w64 begin) ≡ begin = omega (arith, ints) in
    told c.put-in-Pause-2.result now c.args.entries.now c.put-in-Pause-2.new.entries (Paused playing ∷ began ∷ []) (interrupted who begin playing)
    (behind c.put-in-Pause-2.result now c.args.entries.now c.put-in-Pause-2.new.entries c.put-in-Pause.new.entries (Paused playing ∷ []) (began ∷ []) c.in_ok-put-in-Pause.ensures c.put-in-Pause-2.ensures)
    (λ h parts. ap (λ v. Paused playing ∷ Began who v ∷ []) whole ∙ acts now h who begin playing Pause parts c.in-Pause.ensures)

pub returns-in-Defer : goal.returns-in-Defer
returns-in-Defer c =
    let now = c.args.parts.now in
    let who = c.args.newcomer.who in
    let begin = c.args.newcomer.begin in
    let playing = c.args.playing in
    let whole : to_z w64 (of_z w64 begin) ≡ begin = omega (arith, ints) in
    told c.put-in-Defer.result now c.args.entries.now c.put-in-Defer.new.entries (Deferred who (to_z w64 (of_z w64 begin)) ∷ []) (interrupted who begin playing) c.put-in-Defer.ensures
    (λ h parts. ap (λ v. Deferred who v ∷ []) whole ∙ acts now h who begin playing Defer parts c.in-Defer.ensures)

pub returns-in-Never : goal.returns-in-Never
returns-in-Never c =
    let now = c.args.parts.now in
    let who = c.args.newcomer.who in
    let begin = c.args.newcomer.begin in
    let playing = c.args.playing in
    let whole : to_z w64 (of_z w64 begin) ≡ begin = omega (arith, ints) in
    told c.put-in-Never.result now c.args.entries.now c.put-in-Never.new.entries (Passed who (to_z w64 (of_z w64 begin)) ∷ []) (interrupted who begin playing) c.put-in-Never.ensures
    (λ h parts. ap (λ v. Passed who v ∷ []) whole ∙ acts now h who begin playing Never parts c.in-Never.ensures)
