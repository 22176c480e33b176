use Rattle.std.proofs.Common.{◌≡◌, take}
use Rattle.std.specs.Prelude.{map, string_bytes}
use Rattle.smilplay.proofs.word_list.Given as goal

-- the words so far are those of the arguments before the present one
abbrev pub invariant-loop-word : goal.invariant-loop-word
invariant-loop-word l = l.words ≡ map string_bytes (take l.word-index l.behind)
