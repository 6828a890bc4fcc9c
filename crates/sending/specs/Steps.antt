-- 01 §6, step 4 of a tick, after steps 2 and 3. What leaves is listed newest first, so each step puts its datagrams in front.
use Rattle.std.specs.Prelude.{Bool, true, ◌&&◌, List, ◌∷◌, ℕ, ◌-◌, eqb, leb, ltb, length}
use Rattle.laws.specs.Choice.{if}
use Rattle.wire.specs.Datagram.{Message, PROBE}
use Rattle.segments.specs.declared.Tick.{Tick}
use Rattle.segments.specs.declared.Line.{Line}
use Rattle.sending.specs.Sending.{Segment, Probed, never, tick, Sending, line_of, part_of}
pub use Rattle.segments.specs.Steps.{Resent, Cut, bytes_to, after, then_cut}
unfoldable pub use Rattle.segments.specs.Steps.{due_of, again_of, resend_of, cut_to, cut_one, cut_of, cuts_of}

-- STEP 4: a PROBE
-- the last one was R ticks ago or more, or none was sent since room ran out
unfoldable pub ago_of : Tick → Probed → Bool
ago_of w never = true
ago_of w (tick t) = leb w.every (w.now - t)

-- there are bytes not yet sent, nothing is kept, limit gives no room; and one more than have left is allowed
unfoldable pub probes_of : Tick → Line → Probed → ℕ → ℕ → ℕ → Bool
probes_of w l probed next kept sent = ltb next l.given && (eqb kept 0 && (leb l.limit next && (ltb sent w.allowed && ago_of w probed)))

-- what a tick sent, the segments, the next position and the last PROBE
pub record Work : Type 0 where
  pub next : ℕ
  pub sent : List Message
  pub kept : List Segment
  pub probed : Probed

unfoldable pub probe_of : Tick → Line → Probed → Cut → Work
probe_of w l probed c =
    if (probes_of w l probed c.next (length c.kept) (length c.sent))
    (record { next = c.next; sent = PROBE c.next ∷ c.sent; kept = c.kept; probed = tick w.now })
    (record { next = c.next; sent = c.sent; kept = c.kept; probed = probed })

-- steps 2 and 3, and then 4
unfoldable pub steps_of : Tick → Line → Probed → (ℕ → ℕ → List ℕ) → ℕ → ℕ → List Segment → Work
steps_of w l probed part acked next gs = probe_of w l probed (cuts_of w l part acked next gs)

-- the sending side after a tick, and what left
pub record Sends : Type 0 where
  pub side : Sending
  pub sent : List Message

abbrev pub with_work : Sending → Work → Sends
with_work s k = record {
  side = record {
    given = s.given;
    closed = s.closed;
    acked = s.acked;
    next = k.next;
    limit = s.limit;
    bytes = s.bytes;
    kept = k.kept;
    probed = k.probed;
  };
  sent = k.sent;
}

unfoldable pub send_of : Tick → Sending → Sends
send_of w s = with_work s (steps_of w (line_of s) s.probed (part_of s) s.acked s.next s.kept)
