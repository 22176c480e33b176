use Rattle.std.proofs.Common.{refl}
use Rattle.std.specs.Fmt.{digits}
use Rattle.smil_live.proofs.worked.worked_counts.Goals as goal

pub returns : goal.returns
unfolding digits
returns c = record {
  load_at_most = refl;
  load_at_least = refl;
  advance_at_most = refl;
  advance_at_least = refl;
  seek_at_most = refl;
  seek_at_least = refl;
  set_at_most = refl;
  set_at_least = refl;
  title_at_most = refl;
  title_at_least = refl;
}
