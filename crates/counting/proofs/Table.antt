-- 03 §3: the three rows of the table, computed.
use Rattle.std.proofs.Common.{◌≡◌, refl}
use Rattle.counting.specs.Bounds.{hand_ticks, drop_ticks}

row_1_hand : hand_ticks 1 4 10 ≡ 14
row_1_hand = refl

row_1_dropped : drop_ticks 1 4 10 ≡ 18
row_1_dropped = refl

row_3_hand : hand_ticks 3 20 50 ≡ 170
row_3_hand = refl

row_3_dropped : drop_ticks 3 20 50 ≡ 530
row_3_dropped = refl

row_8_hand : hand_ticks 8 32 100 ≡ 832
row_8_hand = refl

row_8_dropped : drop_ticks 8 32 100 ≡ 6688
row_8_dropped = refl
