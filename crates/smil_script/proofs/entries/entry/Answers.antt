use Rattle.std.proofs.Common.{subst, ℤ, w64}
use Rattle.std.specs.Prelude.{Option}
use Rattle.std.specs.Option.{ok_or}
use Rattle.std.proofs.lemmas.Int.{to_z-of_z}
use Rattle.smil_model.specs.declared.diary.Step.{Step}
use Rattle.smil_model.specs.declared.order.Refusal.TheVariants.{NotACommand}
use Rattle.smil_grammar.specs.Gives.{GivesReading}
use Rattle.smil_script.specs.Entries.{entry_or, happening_of, with_heard}
use Rattle.smil_script.proofs.entries.entry.Goals as goal

pub returns-in-None-clause-reading : goal.returns-in-None-clause-reading
returns-in-None-clause-reading c =
    subst (λ (s : Option Step). GivesReading c.heard.result (entry_or c.args.moment c.args.word.now c.args.rest.now s)) c.in-None.ensures
    (subst (λ (m : ℤ). GivesReading c.heard.result (with_heard m (ok_or (happening_of c.args.word.now c.args.rest.now) NotACommand)))
    (to_z-of_z w64 c.args.moment c.ranges.moment) c.heard.ensures.reading)
