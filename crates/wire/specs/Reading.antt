-- 01 §2 and §3: a datagram's bytes read, and refusals 1 and 2.
use Rattle.std.specs.Prelude.{not, List, ◌≡◌, ℕ, zero, suc, ◌+◌, ◌*◌, ◌<◌, eqb, ltb, length, get_or, drop}
use Rattle.laws.specs.Choice.{if}
use Rattle.laws.specs.Rows.{when, ◌or_else◌, branch}
use Rattle.wire.specs.declared.Header.{Header}
use Rattle.wire.specs.Datagram.{head_size, payload_most, Message, DATA, ACK, PROBE}

-- the number whose n bytes stand in s from `at` on, the highest first
unfoldable pub num : List ℕ → ℕ → ℕ → ℕ
num s at zero = 0
num s at (suc n) = num s at n * 256 + get_or s (at + n) 0

-- the table of section 2
unfoldable pub fields_of : List ℕ → Header
fields_of d = record {
  kind = num d 0 1;
  flags = num d 1 1;
  length = num d 2 2;
  epoch = num d 4 8;
  number = num d 12 8;
  position = num d 20 8;
  credit = num d 28 4;
}

-- what section 2 allows in a DATA, and in an ACK or a PROBE
unfoldable pub data_row : Header → ℕ
data_row h =
    when (ltb 1 h.flags) 2
    or_else when (ltb payload_most h.length) 2
    or_else when (ltb 0 h.credit) 2
    or_else when (eqb (h.length + h.flags) 0) 2
    or_else 0

unfoldable pub plain_row : Header → ℕ
plain_row h =
    when (ltb 0 h.flags) 2
    or_else when (ltb 0 h.length) 2
    or_else branch (eqb h.kind 3) (when (ltb 0 h.credit) 2 or_else 0) 0

-- 1 and 2, of the fields and the datagram's length
unfoldable pub rows_of : Header → ℕ → ℕ
rows_of h n =
    when (not (eqb n (head_size + h.length))) 1
    or_else when (eqb h.kind 0) 2
    or_else when (ltb 3 h.kind) 2
    or_else branch (eqb h.kind 1) (data_row h) (plain_row h)

-- 1, 2, or 0 where the form is right
unfoldable pub form_of : List ℕ → ℕ
form_of d = when (ltb (length d) head_size) 1 or_else rows_of (fields_of d) (length d)

-- what a datagram with these fields and this payload says
unfoldable pub message_of : Header → List ℕ → Message
message_of h payload =
    if (eqb h.kind 1) (DATA h.position payload h.flags)
    (if (eqb h.kind 2) (ACK h.position h.credit) (PROBE h.position))

-- a refusal, or the epoch, the number and what is said
pub data Decoded : Type 0 where
  refused : ℕ → Decoded
  read : ℕ → ℕ → Message → Decoded

unfoldable pub decode_as : ℕ → List ℕ → Decoded
decode_as zero d = read (fields_of d).epoch (fields_of d).number (message_of (fields_of d) (drop head_size d))
decode_as (suc r) d = refused (suc r)

unfoldable pub decode : List ℕ → Decoded
decode d = decode_as (form_of d) d

-- h is what stands in the fields of d
pub record Fields (d : List ℕ) (h : Header) : Type 0 where
  pub are : h ≡ fields_of d
  pub flags : h.flags < 256
  pub length : h.length < 65536
  pub credit : h.credit < 4294967296
