use Rattle.smil_test_plays.proofs.PlaysLawful.{lawful_for}
use Rattle.smil_test_plays.proofs.plays.clocks_anew.Goals as goal

pub of-requires : goal.of-requires
of-requires c = lawful_for c.args.past.now c.tree.result.now c.book.result.now c.possible.ensures c.tree.ensures c.book.ensures
