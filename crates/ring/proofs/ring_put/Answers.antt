-- `ring::ring_put` meets its contract. Assumes nothing.
use Rattle.std.proofs.Common.{arith}
use Rattle.ring.proofs.Ring.{put_parts}
use Rattle.ring.proofs.ring_put.Goals as goal

pub returns : goal.returns
returns c =
    let x = c.args in
    let p = put_parts x.ring.now x.src.now c.split_at.result.0.now c.split_at.result.1.now x.pos c.index-at.result c.before_seam.result
    (omega arith) c.requires.src_len_bound c.index-at.ensures c.before_seam.ensures c.split_at.ensures.front c.split_at.ensures.back in
    rw (c.copy.ensures, c.copy-2.ensures) p
