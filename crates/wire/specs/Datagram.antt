-- 01 §2: datagrams as an end sends them, and their bytes.
use Rattle.std.specs.Prelude.{List, [], ◌∷◌, ◌++◌, ℕ, zero, suc, ◌+◌, ◌*◌, ◌/◌, ◌%◌, ◌^◌, ◌≤◌, ◌<◌, length}
use Rattle.wire.specs.declared.Header.{Header}

-- the bytes before the payload, and the longest payload
abbrev pub head_size : ℕ
head_size = 32

abbrev pub payload_most : ℕ
payload_most = 1024

-- 2^62: numbers, ticks and positions stay below it
abbrev pub ceiling : ℕ
ceiling = 4611686018427387904

-- what a datagram says; its epoch and number are given to it when it leaves
pub data Message : Type 0 where
  -- position, payload, and 1 where the stream ends right after it
  DATA : ℕ → List ℕ → ℕ → Message
  -- position and credit
  ACK : ℕ → ℕ → Message
  -- position
  PROBE : ℕ → Message

unfoldable pub kind_of : Message → ℕ
kind_of (DATA p bs e) = 1
kind_of (ACK p c) = 2
kind_of (PROBE p) = 3

unfoldable pub flags_of : Message → ℕ
flags_of (DATA p bs e) = e
flags_of (ACK p c) = 0
flags_of (PROBE p) = 0

unfoldable pub position_of : Message → ℕ
position_of (DATA p bs e) = p
position_of (ACK p c) = p
position_of (PROBE p) = p

unfoldable pub credit_of : Message → ℕ
credit_of (DATA p bs e) = 0
credit_of (ACK p c) = c
credit_of (PROBE p) = 0

unfoldable pub payload_of : Message → List ℕ
payload_of (DATA p bs e) = bs
payload_of (ACK p c) = []
payload_of (PROBE p) = []

-- the n bytes of v, the highest first
unfoldable pub be : ℕ → ℕ → List ℕ
be zero v = []
be (suc n) v = v / 2 ^ (8 * n) % 256 ∷ be n v

-- the bytes before the payload: kind, flags, length, epoch, and then number, position, credit
abbrev pub start_of : Header → List ℕ
start_of h = be 1 h.kind ++ (be 1 h.flags ++ (be 2 h.length ++ be 8 h.epoch))

abbrev pub rest_of : Header → List ℕ
rest_of h = be 8 h.number ++ (be 8 h.position ++ be 4 h.credit)

unfoldable pub head_of : Header → List ℕ
head_of h = start_of h ++ rest_of h

unfoldable pub header_of : ℕ → ℕ → Message → Header
header_of epoch number m = record {
  kind = kind_of m;
  flags = flags_of m;
  length = length (payload_of m);
  epoch = epoch;
  number = number;
  position = position_of m;
  credit = credit_of m;
}

unfoldable pub encode : ℕ → ℕ → Message → List ℕ
encode epoch number m = head_of (header_of epoch number m) ++ payload_of m

-- one after the other, in the order in which they left; the list has the newest first, and the oldest one's number is the next after `number`
unfoldable pub wire : ℕ → ℕ → List Message → List ℕ
wire epoch number [] = []
wire epoch number (m ∷ ms) = wire epoch number ms ++ encode epoch (number + length ms + 1) m

-- what the fields can hold and section 2 allows
pub data Sendable : Message → Type 0 where
  a_DATA : {p e : ℕ} {bs : List ℕ} → p < 2 ^ 64 → length bs ≤ payload_most → e ≤ 1 → 0 < length bs + e → Sendable (DATA p bs e)
  an_ACK : {p c : ℕ} → p < 2 ^ 64 → c < 2 ^ 32 → Sendable (ACK p c)
  a_PROBE : {p : ℕ} → p < 2 ^ 64 → Sendable (PROBE p)
