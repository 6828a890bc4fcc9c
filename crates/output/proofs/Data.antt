-- One datagram, written at its place. Assumes nothing.
use Rattle.std.proofs.Common.{◌≡◌, ◌∙◌, arith, refl, Bool, true, false, ltb, List, [], ◌++◌, append-nil, ℕ, ◌+◌, ◌-◌, length}
use Rattle.std.specs.Int.{from_bool}
use borrow.Rule.Slice.PartMut.{put_mid}
use Rattle.laws.specs.Choice.{if}
use Rattle.ring.specs.Ring.{span}
use Rattle.ring.specs.SpanLaws.{span_length}
use Rattle.wire.specs.Datagram.{head_size, PROBE, kind_of, flags_of, position_of, credit_of, payload_of, head_of, header_of, encode}
use Rattle.wire.specs.DatagramLaws.{head_length, encode_length}
use Rattle.output.specs.Output.{size_of, end_of, data_of, SentOne}

flag : (t : Bool) → from_bool t ≡ if t 1 0
flag true = refl
flag false = refl

-- the header and the bytes of a segment's DATA are the datagram
pub data_is : (given : ℕ) (ring : List ℕ) (e n a b k f len : ℕ) → k ≡ 1 → f ≡ end_of given b → len ≡ size_of given a b
    → head_of (record { kind = k; flags = f; length = len; epoch = e; number = n; position = a; credit = 0 }) ++ span ring a len ≡ encode e n (data_of given (span ring) a b)
unfolding encode data_of header_of kind_of flags_of position_of credit_of payload_of
data_is given ring e n a b k f len p q r = rw (p, q, r, span_length)

data_length : (given : ℕ) (ring : List ℕ) (e n a b : ℕ) → length (encode e n (data_of given (span ring) a b)) ≡ head_size + size_of given a b
unfolding data_of payload_of
data_length given ring e n a b = encode_length e n (data_of given (span ring) a b) ∙ rw span_length

pub sent_data : (given : ℕ) (ring : List ℕ) (e n a b : ℕ) {out y : List ℕ} {o k f len : ℕ} → k ≡ 1 → f ≡ from_bool (ltb given b) → len ≡ size_of given a b
    → y ≡ head_of (record { kind = k; flags = f; length = len; epoch = e; number = n; position = a; credit = 0 }) ++ span ring a len
    → SentOne out o (encode e n (data_of given (span ring) a b)) (head_size + len) (put_mid o (o + (head_size + len) - o) out y)
sent_data given ring e n a b {o = o} {k = k} {f = f} {len = len} p q r h =
    let l : length (encode e n (data_of given (span ring) a b)) ≡ o + (head_size + len) - o = data_length given ring e n a b ∙ (omega arith) in
    record { size = omega arith; small = omega arith; is = rw (h ∙ data_is given ring e n a b k f len p (q ∙ flag (ltb given b)) r, l) }

pub sent_probe : (e n a : ℕ) {out y : List ℕ} {o k : ℕ} → k ≡ 3 → y ≡ head_of (record { kind = k; flags = 0; length = 0; epoch = e; number = n; position = a; credit = 0 })
    → SentOne out o (encode e n (PROBE a)) head_size (put_mid o (o + head_size - o) out y)
unfolding encode header_of kind_of flags_of position_of credit_of payload_of
sent_probe e n a {y = y} {o = o} p h₀ =
    let H = head_of (record { kind = 3; flags = 0; length = 0; epoch = e; number = n; position = a; credit = 0 }) in
    let h : y ≡ H = rw p at h₀ in
    let l : length (H ++ []) ≡ o + head_size - o = rw (append-nil, head_length) (omega arith) in
    record { size = omega arith; small = omega arith; is = rw (h, l, append-nil H) }
