-- `sending::give` meets its contract. Assumes nothing.
use Rattle.std.proofs.Common.{arith, length-take}
use Rattle.sending.specs.GiveLaws.{room_small}
use Rattle.sending.proofs.give.Goals as goal

pub ring_put-requires : goal.ring_put-requires
ring_put-requires c =
    let h = room_small c.args.l c.args.acked in
    record { src_len_bound = simp length-take (omega arith) }
