-- Laws of the bytes of numbers and datagrams. Assumes nothing.
use Rattle.std.specs.Prelude.{◌≡◌, refl, ℕ, zero, suc, ◌+◌, ◌-◌, ◌*◌, ◌/◌, ◌%◌, ◌^◌, ◌<◌, length, get_or}
use Rattle.std.proofs.Common.{ap, ◌∙◌, le_of_suc-le-suc, not-suc-le-zero, arith, length-append}
use Rattle.wire.specs.declared.Header.{Header}
use Rattle.wire.specs.Datagram.{head_size, Message, payload_of, be, start_of, rest_of, head_of, encode}

pub be_length : (n v : ℕ) → length (be n v) ≡ n
unfolding be
be_length zero v = refl
be_length (suc n) v = ap suc (be_length n v)

pub be_at : (n v i : ℕ) → i < n → get_or (be n v) i 0 ≡ v / 2 ^ (8 * (n - 1 - i)) % 256
unfolding be
be_at zero v i h = absurd (not-suc-le-zero h)
be_at (suc n) v zero h = ap (λ (e : ℕ). v / 2 ^ (8 * e) % 256) {x = n} {y = suc n - 1 - 0} (omega arith)
be_at (suc n) v (suc i) h = be_at n v i (le_of_suc-le-suc h) ∙ ap (λ (e : ℕ). v / 2 ^ (8 * e) % 256) {x = n - 1 - i} {y = suc n - 1 - suc i} (omega arith)

pub start_length : (h : Header) → length (start_of h) ≡ 12
start_length h = simp (length-append, be_length)

pub rest_length : (h : Header) → length (rest_of h) ≡ 20
rest_length h = simp (length-append, be_length)

pub head_length : (h : Header) → length (head_of h) ≡ head_size
unfolding head_of
head_length h = simp (length-append, be_length)

pub encode_length : (epoch number : ℕ) (m : Message) → length (encode epoch number m) ≡ head_size + length (payload_of m)
unfolding encode
encode_length epoch number m = rw (length-append, head_length)
