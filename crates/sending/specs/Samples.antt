-- 01 §2 and §6: worked examples, computed.
use Rattle.std.specs.Prelude.{◌≡◌, refl, List, [], ◌∷◌, ◌++◌, ℕ, length, replicate}
use Rattle.wire.specs.Datagram.{Message, DATA, ACK, PROBE, kind_of, flags_of, position_of, credit_of, payload_of, be, head_of, header_of, encode, wire}
use Rattle.segments.specs.declared.Tick.{Tick}
use Rattle.sending.specs.Sending.{never, Sending, fresh, start_of, part_of, data_of}
use Rattle.sending.specs.Giving.{room_of, give_of, finish_of}
use Rattle.sending.specs.Acking.{left_of, acked_of, ack_of}
use Rattle.sending.specs.Steps.{due_of, again_of, resend_of, cut_to, cut_one, cut_of, ago_of, probes_of, probe_of, cuts_of, steps_of, send_of}

gate : List ℕ
gate = 0x47 ∷ 0x41 ∷ 0x54 ∷ 0x45 ∷ 0x20 ∷ 0x33 ∷ 0x20 ∷ 0x54 ∷ 0x4f ∷ 0x20 ∷ 0x34 ∷ 0x30 ∷ 0x20 ∷ 0x43 ∷ 0x4d ∷ 0x0a ∷ []

-- tick `now` with R = 3, in which 32 datagrams may leave
abbrev on : ℕ → Tick
on now = record { now = now; every = 3; allowed = 32 }

-- the document's datagrams: 16 bytes are given and sent in tick 1; then finish, and the END alone leaves in tick 2
first : wire 7 0 (send_of (on 1) (give_of fresh gate)).sent
    ≡ (1 ∷ 0 ∷ 0 ∷ 0x10 ∷ 0 ∷ 0 ∷ 0 ∷ 0 ∷ 0 ∷ 0 ∷ 0 ∷ 7 ∷ 0 ∷ 0 ∷ 0 ∷ 0 ∷ 0 ∷ 0 ∷ 0 ∷ 1 ∷ 0 ∷ 0 ∷ 0 ∷ 0 ∷ 0 ∷ 0 ∷ 0 ∷ 0 ∷ 0 ∷ 0 ∷ 0 ∷ 0 ∷ []) ++ gate
unfolding gate be head_of header_of kind_of flags_of position_of credit_of payload_of encode wire fresh room_of give_of start_of data_of due_of again_of resend_of cut_to cut_one cut_of ago_of probes_of probe_of cuts_of steps_of part_of send_of
first = refl

second : wire 7 1 (send_of (on 2) (finish_of (send_of (on 1) (give_of fresh gate)).side)).sent
    ≡ 1 ∷ 1 ∷ 0 ∷ 0 ∷ 0 ∷ 0 ∷ 0 ∷ 0 ∷ 0 ∷ 0 ∷ 0 ∷ 7 ∷ 0 ∷ 0 ∷ 0 ∷ 0 ∷ 0 ∷ 0 ∷ 0 ∷ 2 ∷ 0 ∷ 0 ∷ 0 ∷ 0 ∷ 0 ∷ 0 ∷ 0 ∷ 0x10 ∷ 0 ∷ 0 ∷ 0 ∷ 0 ∷ []
unfolding gate be head_of header_of kind_of flags_of position_of credit_of payload_of encode wire fresh room_of give_of finish_of start_of data_of due_of again_of resend_of cut_to cut_one cut_of ago_of probes_of probe_of cuts_of steps_of part_of send_of
second = refl

-- what left, without the bytes: where each datagram starts, how many bytes it has, its END; a PROBE has 9 for an END
seen : List Message → List (List ℕ)
seen [] = []
seen (DATA p bs e ∷ ms) = seen ms ++ ((p ∷ length bs ∷ e ∷ []) ∷ [])
seen (PROBE p ∷ ms) = seen ms ++ ((p ∷ 0 ∷ 9 ∷ []) ∷ [])
seen (ACK p c ∷ ms) = seen ms

-- 2,500 bytes and finish: 1,024, 1,024, and the rest with the END
third : seen (send_of (on 1) (finish_of (give_of fresh (replicate 2500 7)))).sent ≡ (0 ∷ 1024 ∷ 0 ∷ []) ∷ (1024 ∷ 1024 ∷ 0 ∷ []) ∷ (2048 ∷ 452 ∷ 1 ∷ []) ∷ []
unfolding seen fresh room_of give_of finish_of start_of data_of due_of again_of resend_of cut_to cut_one cut_of ago_of probes_of probe_of cuts_of steps_of part_of send_of
third = refl

-- the gate's 16 bytes are sent again in tick 4 and in tick 7, and not in between
sent_in : ℕ → Sending → List (List ℕ)
sent_in now s = seen (send_of (on now) s).sent

after : ℕ → Sending → Sending
after now s = (send_of (on now) s).side

again : sent_in 3 (after 1 (give_of fresh gate)) ++ (sent_in 4 (after 1 (give_of fresh gate)) ++ (sent_in 6 (after 4 (after 1 (give_of fresh gate))) ++ sent_in 7 (after 4 (after 1 (give_of fresh gate)))))
    ≡ (0 ∷ 16 ∷ 0 ∷ []) ∷ (0 ∷ 16 ∷ 0 ∷ []) ∷ []
unfolding sent_in after gate seen fresh room_of give_of finish_of start_of data_of due_of again_of resend_of cut_to cut_one cut_of ago_of probes_of probe_of cuts_of steps_of part_of send_of
again = refl

-- all 16 are acknowledged by a peer that has no room; 4 more are given: a PROBE in tick 5, the next in tick 8; then credit for one byte, and one byte leaves
full : Sending
full = record { given = 20; closed = 0; acked = 16; next = 16; limit = 16; bytes = 1 ∷ 2 ∷ 3 ∷ 4 ∷ []; kept = []; probed = never }

probing : sent_in 5 full ++ (sent_in 7 (after 5 full) ++ (sent_in 8 (after 5 full) ++ sent_in 9 (ack_of (after 8 (after 5 full)) 16 1))) ≡ (16 ∷ 0 ∷ 9 ∷ []) ∷ (16 ∷ 0 ∷ 9 ∷ []) ∷ (16 ∷ 1 ∷ 0 ∷ []) ∷ []
unfolding sent_in after full left_of acked_of ack_of seen start_of data_of due_of again_of resend_of cut_to cut_one cut_of ago_of probes_of probe_of cuts_of steps_of part_of send_of
probing = refl

-- an ACK at the END's own position leaves the segment with the END, one beyond it drops it
ended : Sending
ended = record { given = 2; closed = 1; acked = 0; next = 3; limit = 65536; bytes = 1 ∷ 2 ∷ []; kept = record { to = 3; at = 1 } ∷ []; probed = never }

end_kept : (ack_of ended 2 9).kept ≡ ended.kept
unfolding ended left_of ack_of
end_kept = refl

end_dropped : ack_of ended 3 0 ≡ record { given = 2; closed = 1; acked = 3; next = 3; limit = 65536; bytes = []; kept = []; probed = never }
unfolding ended left_of acked_of ack_of
end_dropped = refl
