-- One more of the ranks that are listed has its number.
use Rattle.std.proofs.Common.{arith}
use Rattle.pattern.proofs.NoholeRanks.{asks_more}
use Rattle.pattern.proofs.noholes.next_noholes.Goals as goal

pub loop-rank-preserved : goal.loop-rank-preserved
loop-rank-preserved c =
    let I = c.loop-rank.invariant in
    record {
      order = I.order;
      shift = I.shift;
      asks = asks_more _ _ _ _ c.loop-rank.rank-index c.from-i.result c.below.result (omega arith) c.from-i.ensures
          (rw (c.from-p.ensures, c.from.ensures) at c.below.ensures.0) I.asks;
    }
