-- What is known of a source over a reader of std and of a sink over a writer of std.
use Rattle.std.specs.Prelude.{ℕ, ◌+◌, min, List, Option}
use Rattle.smil_outside.specs.Faults.{last_count}

-- the bytes that the reader has left or the writer holds, where these are known,
-- and how many faults there were
pub record CountedBytes : Type 0 where
  pub bytes : Option (List ℕ)
  pub faults : ℕ

-- how many faults there are after one more
abbrev pub more_faults : ℕ → ℕ
more_faults faults = min (faults + 1) last_count
