-- 01 §6: what a segment carries, and one datagram at its place in the output.
use Rattle.std.specs.Prelude.{◌≡◌, List, ℕ, ◌-◌, ◌≤◌, min, ltb, length}
use borrow.Rule.Slice.PartMut.{put_mid}
use Rattle.laws.specs.Choice.{if}
use Rattle.wire.specs.Datagram.{payload_most, Message, DATA}

-- how many bytes a segment from a to b carries
abbrev pub size_of : ℕ → ℕ → ℕ → ℕ
size_of given a b = min payload_most (min b given - a)

-- 1, the END, where a segment to b reaches beyond the last byte
abbrev pub end_of : ℕ → ℕ → ℕ
end_of given b = if (ltb given b) 1 0

-- the DATA of a segment from a to b; `part p n` gives the n bytes from position p on
unfoldable pub data_of : ℕ → (ℕ → ℕ → List ℕ) → ℕ → ℕ → Message
data_of given part a b = DATA a (part a (size_of given a b)) (end_of given b)

-- 32 and 1,024
abbrev pub datagram_most : ℕ
datagram_most = 1056

-- x is out, but for the datagram d at o
pub record SentOne (out : List ℕ) (o : ℕ) (d : List ℕ) (r : ℕ) (x : List ℕ) : Type 0 where
  pub size : r ≡ length d
  pub small : r ≤ datagram_most
  pub is : x ≡ put_mid o (length d) out d
