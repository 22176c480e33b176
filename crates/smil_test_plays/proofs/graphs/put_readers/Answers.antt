use Rattle.std.proofs.Common.{sym}
use Rattle.std.specs.Prelude.{◌==◌}
use Rattle.std.proofs.lemmas.List.Quantifiers.{position-Some}
use Rattle.smil_test_plays.proofs.graphs.put_readers.Goals as goal

pub reader_ranks-reader-items-requires : goal.reader_ranks-reader-items-requires
reader_ranks-reader-items-requires c = (position-Some (λ s. s == c.args.serial) c.args.graph.now.order c.in-Some.rank 0 (sym c.in-Some.ensures)).0
