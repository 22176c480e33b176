use Rattle.std.proofs.Common.{◌≡◌, ◌<◌, ◌^◌, drop}
use Rattle.smil_grammar.specs.Numbers.{number_after}
use Rattle.smil_script.proofs.entries.long.Given as goal

abbrev pub invariant-loop-digit : goal.invariant-loop-digit
invariant-loop-digit l = record {
  so_far : number_after l.number (drop l.digit-index l.digits) ≡ number_after 0 l.digits;
  bound : l.number < 10 ^ l.digit-index;
}
