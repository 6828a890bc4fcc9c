-- 01 §6, steps 2 and 3 of a tick. What leaves is listed newest first, so each step puts its datagrams in front.
use Rattle.std.specs.Prelude.{Bool, ◌&&◌, List, [], ◌∷◌, ◌++◌, ℕ, zero, suc, ◌+◌, ◌-◌, min, eqb, leb, ltb, length}
use Rattle.laws.specs.Choice.{if}
use Rattle.wire.specs.Datagram.{payload_most, Message}
use Rattle.segments.specs.declared.Tick.{Tick}
use Rattle.segments.specs.declared.Line.{Line}
use Rattle.segments.specs.Segments.{segments_most, Segment, start_of, data_of}

-- STEP 2: segments already sent once, oldest first, whose last sending was R ticks ago or more
-- what was sent, and the segments after it
pub record Resent : Type 0 where
  pub sent : List Message
  pub kept : List Segment

-- due, and allowed after n others
unfoldable pub due_of : Tick → ℕ → ℕ → Bool
due_of w at n = leb w.every (w.now - at) && ltb n w.allowed

-- one segment more, which starts at a
unfoldable pub again_of : Tick → Line → (ℕ → ℕ → List ℕ) → ℕ → Segment → Resent → Resent
again_of w l part a g r =
    if (due_of w g.at (length r.sent))
    (record { sent = data_of l.given part a g.to ∷ r.sent; kept = record { to = g.to; at = w.now } ∷ r.kept })
    (record { sent = r.sent; kept = g ∷ r.kept })

unfoldable pub resend_of : Tick → Line → (ℕ → ℕ → List ℕ) → ℕ → List Segment → Resent
resend_of w l part acked [] = record { sent = []; kept = [] }
resend_of w l part acked (g ∷ gs) = again_of w l part (start_of acked gs) g (resend_of w l part acked gs)

-- STEP 3: new segments, while fewer than 64 are kept and there is something to send
-- what was sent, the segments, and the next position
pub record Cut : Type 0 where
  pub next : ℕ
  pub sent : List Message
  pub kept : List Segment

-- the end of the next bytes from a on
abbrev pub bytes_to : Line → ℕ → ℕ
bytes_to l a = a + min payload_most (min (l.given - a) (l.limit - a))

-- where a segment from a on would end: the END goes with the last bytes
unfoldable pub cut_to : Line → ℕ → ℕ
cut_to l a = if (eqb l.closed 1 && eqb (bytes_to l a) l.given) (bytes_to l a + 1) (bytes_to l a)

-- one segment, if it is not empty
unfoldable pub cut_one : Tick → Line → (ℕ → ℕ → List ℕ) → Cut → Cut
cut_one w l part c =
    if (ltb (length c.kept) segments_most && ltb c.next (cut_to l c.next))
    (record {
      next = cut_to l c.next;
      sent = data_of l.given part c.next (cut_to l c.next) ∷ c.sent;
      kept = record { to = cut_to l c.next; at = w.now } ∷ c.kept;
    })
    c

-- at most n
unfoldable pub cut_of : Tick → Line → (ℕ → ℕ → List ℕ) → ℕ → Cut → Cut
cut_of w l part zero c = c
cut_of w l part (suc n) c = cut_one w l part (cut_of w l part n c)

-- step 3 after step 2, with what that has left of the allowance
abbrev pub after : Resent → Cut → Cut
after r c = record { next = c.next; sent = c.sent ++ r.sent; kept = c.kept }

abbrev pub then_cut : Tick → Line → (ℕ → ℕ → List ℕ) → ℕ → Resent → Cut
then_cut w l part next r = after r (cut_of w l part (w.allowed - length r.sent) (record { next = next; sent = []; kept = r.kept }))

-- steps 2 and 3
unfoldable pub cuts_of : Tick → Line → (ℕ → ℕ → List ℕ) → ℕ → ℕ → List Segment → Cut
cuts_of w l part acked next gs = then_cut w l part next (resend_of w l part acked gs)
