-- The definitions, computed: what arrives, what an ACK says, what is refused, and when the END is reported.
use Rattle.std.proofs.Common.{◌≡◌, refl, [], ◌∷◌, replicate}
use Rattle.laws.specs.Rows.{when, ◌or_else◌, branch}
use Rattle.receiving.specs.Receiving.{missing, byte, none, Receiving, first, lay, fill_cells, fill_of, hear_of, lead, low_of, up, reach, high_of, heads, take_of}
use Rattle.receiving.specs.Receiving.{end_at, ended_of, ack_position, ack_credit, beyond_of, misplaced_of, refusal_by, refusal_of}

-- 2 bytes taken, and the byte of position 3 has arrived
gap : Receiving
gap = record { taken = 2; cells = missing ∷ byte 7 ∷ missing ∷ missing ∷ []; end = none }

-- 1 2 3 4 come at position 1: 1 is passed over, 7 stays
overlap : hear_of gap 1 (1 ∷ 2 ∷ 3 ∷ 4 ∷ []) 0 ≡ record { taken = 2; cells = byte 2 ∷ byte 7 ∷ byte 4 ∷ missing ∷ []; end = none }
unfolding gap hear_of fill_of fill_cells lay first
overlap = refl

gap_low : low_of gap ≡ 2
unfolding gap low_of lead
gap_low = refl

gap_high : high_of gap ≡ 4
unfolding gap high_of reach up
gap_high = refl

overlap_low : low_of (hear_of gap 1 (1 ∷ 2 ∷ 3 ∷ 4 ∷ []) 0) ≡ 5
unfolding gap hear_of fill_of fill_cells lay first low_of lead
overlap_low = refl

-- 01 §2: 16 bytes have arrived and none is taken
gate : Receiving
gate = record { taken = 0; cells = lay (replicate 20 missing) (71 ∷ 65 ∷ 84 ∷ 69 ∷ 32 ∷ 51 ∷ 32 ∷ 84 ∷ 79 ∷ 32 ∷ 52 ∷ 48 ∷ 32 ∷ 67 ∷ 77 ∷ 10 ∷ []); end = none }

gate_position : ack_position gate ≡ 16
unfolding gate lay first ack_position low_of lead end_at
gate_position = refl

gate_credit : ack_credit gate ≡ 65520
unfolding gate lay first ack_credit ack_position low_of lead end_at
gate_credit = refl

-- the END alone after them
gate_end : Receiving
gate_end = hear_of gate 16 [] 1

gate_end_position : ack_position gate_end ≡ 17
unfolding gate_end gate hear_of fill_of fill_cells lay first ack_position low_of lead end_at
gate_end_position = refl

gate_end_credit : ack_credit gate_end ≡ 65519
unfolding gate_end gate hear_of fill_of fill_cells lay first ack_credit ack_position low_of lead end_at
gate_end_credit = refl

-- is reported once all 16 are taken
gate_end_early : ended_of (take_of gate_end 15) ≡ 0
unfolding gate_end gate hear_of fill_of fill_cells lay first take_of heads ended_of end_at
gate_end_early = refl

gate_end_reached : ended_of (take_of gate_end 16) ≡ 1
unfolding gate_end gate hear_of fill_of fill_cells lay first take_of heads ended_of end_at
gate_end_reached = refl

-- an END before its bytes: the position stays at the lowest missing one
end_first : ack_position (hear_of gap 6 [] 1) ≡ 2
unfolding gap hear_of fill_of fill_cells lay first ack_position low_of lead end_at
end_first = refl

end_filled : ack_position (hear_of (hear_of gap 6 [] 1) 2 (2 ∷ 3 ∷ 4 ∷ 5 ∷ []) 0) ≡ 7
unfolding gap hear_of fill_of fill_cells lay first ack_position low_of lead end_at
end_filled = refl

-- 8: position taken + 65,536 is the first that is refused, 2^62 - 1 the last byte of all; an END alone may stand anywhere
eight : refusal_of gap 65537 1 0 ∷ refusal_of gap 65537 2 0 ∷ refusal_of gap 65538 0 1 ∷ refusal_of gap 18446744073709551615 0 1 ∷ [] ≡ 0 ∷ 8 ∷ 0 ∷ 0 ∷ []
unfolding gap refusal_of refusal_by beyond_of misplaced_of high_of reach up when ◌or_else◌ branch
eight = refl

-- 9, while no END is known: one before position 4 is refused
nine_early : refusal_of gap 3 0 1 ∷ refusal_of gap 2 1 1 ∷ refusal_of gap 2 2 1 ∷ refusal_of gap 4 0 1 ∷ [] ≡ 9 ∷ 9 ∷ 0 ∷ 0 ∷ []
unfolding gap refusal_of refusal_by beyond_of misplaced_of high_of reach up when ◌or_else◌ branch
nine_early = refl

-- 9, once it is known at 16: bytes up to it, and it again, are fine
nine_known : refusal_of gate_end 15 1 0 ∷ refusal_of gate_end 15 1 1 ∷ refusal_of gate_end 15 2 0 ∷ refusal_of gate_end 16 0 1 ∷ refusal_of gate_end 17 0 1 ∷ refusal_of gate_end 3 2 1 ∷ [] ≡ 0 ∷ 0 ∷ 9 ∷ 0 ∷ 9 ∷ 9 ∷ []
unfolding gate_end gate hear_of fill_of fill_cells lay first refusal_of refusal_by beyond_of misplaced_of high_of reach up when ◌or_else◌ branch
nine_known = refl
