-- 03 §1: what it is for a sending side, and for what it sends, to be true of the bytes H that were given so far.
use Rattle.std.specs.Prelude.{◌≡◌, List, [], ◌∷◌, ℕ, ◌+◌, ◌≤◌, ◌<◌, length}
use Rattle.laws.specs.History.{Says}
use Rattle.wire.specs.Datagram.{payload_most, Message, DATA, PROBE}
use Rattle.sending.specs.Sending.{Sending}
use Rattle.sending.specs.Buffers.{Orderly}

-- a DATA at p with bytes bs, and end 1 where the stream ends right after them
pub record TrueData (H : List ℕ) (closed limit p : ℕ) (bs : List ℕ) (end : ℕ) : Type 0 where
  pub says : Says H p bs
  -- the END only after finish, and after the last byte
  pub finished : end ≡ 1 → closed ≡ 1
  pub whole : end ≡ 1 → p + length bs ≡ length H
  -- never beyond what was given, nor beyond the limit
  pub inside : p + length bs ≤ length H
  pub within : p + length bs ≤ limit
  -- as 01 §2 has it
  pub short : length bs ≤ payload_most
  pub flag : end ≤ 1
  pub some : 0 < length bs + end

-- a PROBE stands where bytes wait; the sending side sends no ACK
pub data True (H : List ℕ) (closed limit : ℕ) : Message → Type 0 where
  data_true : {p : ℕ} {bs : List ℕ} {end : ℕ} → TrueData H closed limit p bs end → True H closed limit (DATA p bs end)
  probe_true : {p : ℕ} → p < length H → True H closed limit (PROBE p)

-- each of a list
pub data Each (P : Message → Type 0) : List Message → Type 0 where
  each_none : Each P []
  each_more : {m : Message} {ms : List Message} → P m → Each P ms → Each P (m ∷ ms)

-- a sending side that was given H, and whose peer has all below lo
pub record SendingOK (H : List ℕ) (lo : ℕ) (s : Sending) : Type 0 where
  pub orderly : Orderly s
  pub says : Says H s.acked s.bytes
  pub given : s.given ≡ length H
  pub behind : s.acked ≤ lo
