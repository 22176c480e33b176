use Rattle.std.proofs.Common.{◌∙◌, sym, ap}
use Rattle.std.specs.Prelude.{is_some}
use Rattle.std.specs.Option.{option_copied}
use Rattle.smil_model.specs.diary.Plays.{last_finished}
use Rattle.smil_past.specs.declared.plays.facts.PlayFacts.{PlayFacts}
use Rattle.smil_past.specs.Past.{history_of}
use Rattle.smil_past.specs.Played.{past_interval}
use Rattle.smil_past.proofs.ReferenceLent.{some_lent}
use Rattle.smil_element.proofs.ElementReadings.{has_row, row_told}
use Rattle.smil_cells.proofs.EntryDisplaces.{some_mapped}
use Rattle.smil_cells.proofs.touched.has_finished.Goals as goal

pub unwrap-requires : goal.unwrap-requires
unwrap-requires c = some_lent c.of.result (ap is_some (c.of.ensures (history_of c.args.past.now) c.plays.ensures) ∙ has_row (history_of c.args.past.now) c.args.who c.requires)

pub returns : goal.returns
returns c =
    let h = history_of c.args.past.now in
    c.is_some.ensures
    ∙ ap (λ (r : PlayFacts). is_some r.last_finished) (row_told h c.args.who c.unwrap.result.now c.requires (sym (ap option_copied c.unwrap.ensures) ∙ c.of.ensures h c.plays.ensures))
    ∙ some_mapped (past_interval h c.args.who) (last_finished h c.args.who)
