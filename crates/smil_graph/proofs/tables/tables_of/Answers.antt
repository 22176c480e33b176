use Rattle.smil_graph.proofs.tables.tables_of.Goals as goal

pub returns : goal.returns
returns c =
    let times = c.in_ok-times.ensures in
    let links = c.in_ok-links.ensures in
    let ranking = c.in_ok-ranking.ensures in
    record {
      above = times.above;
      count = times.count;
      under = times.under;
      begun = c.in_ok-begins.ensures;
      ended = c.in_ok-ends.ensures;
      headed = links.headed;
      waiting = c.in_ok-waiting.ensures;
      ordered = ranking.ordered;
      ranked = ranking.ranked;
      read_ranked = ranking.read;
      followed = ranking.followed;
    }
