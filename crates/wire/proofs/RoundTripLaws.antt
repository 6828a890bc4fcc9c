-- 01 §2: what is encoded decodes to the same, and what decodes encodes back to the same bytes. Assumes nothing.
use Rattle.std.proofs.Common.{◌≡◌, refl, List, [], ◌∷◌, ◌++◌, ℕ, zero, suc, ◌+◌, ◌-◌, ◌*◌, ◌/◌, ◌%◌, ◌^◌, ◌≤◌, ◌<◌, length, get_or, take, drop, ap, sym, ◌∙◌, div-one, arith, shr-shr, length-drop, take-append-drop, ext_get_or, get_or-take, get_or-drop, take-add, drop-drop, length-take-le, drop_at, eq-eqb, ne_eqb, le-ltb}
use Rattle.std.proofs.Math.Decide.{ℕ_discrete}
use Rattle.std.proofs.Math.Nat.{sub_self}
use Rattle.laws.specs.Rows.{when, ◌or_else◌, branch}
use Rattle.laws.specs.RowsLaws.{miss_lt}
use Rattle.wire.specs.declared.Header.{Header}
use Rattle.wire.specs.Datagram.{head_size, payload_most, Message, DATA, ACK, PROBE, Sendable, kind_of, flags_of, position_of, credit_of, payload_of, be, head_of, header_of, encode}
use Rattle.wire.specs.Datagram.Sendable.{a_DATA, an_ACK, a_PROBE}
use Rattle.wire.specs.DatagramLaws.{be_length, be_at, head_length, encode_length}
use Rattle.wire.specs.Reading.{num, fields_of, data_row, plain_row, rows_of, form_of, message_of, read, decode_as, decode}
use Rattle.wire.proofs.ReadingLaws.{Narrow, fields_head, same_fields}
use Rattle.wire.specs.FormLaws.{Formed, WellFormed, form_formed}

-- WHAT IS ENCODED DECODES

-- the fields of a message that can be sent pass 1 and 2
passes : (epoch number : ℕ) {m : Message} → Sendable m → rows_of (header_of epoch number m) (head_size + length (payload_of m)) ≡ 0
unfolding rows_of data_row plain_row header_of kind_of flags_of credit_of payload_of when ◌or_else◌ branch
passes epoch number (a_DATA {p} {e} {bs} hp hb he some) =
    rw (eq-eqb (head_size + length bs) (head_size + length bs) refl, le-ltb 1 e he, le-ltb payload_most (length bs) hb, ne_eqb (length bs + e) 0 (λ x. omega arith))
passes epoch number (an_ACK hp hc) = refl
passes epoch number (a_PROBE hp) = refl

narrow : (epoch number : ℕ) {m : Message} → epoch < 2 ^ 64 → number < 2 ^ 64 → Sendable m → Narrow (header_of epoch number m)
unfolding header_of kind_of flags_of position_of credit_of payload_of
narrow epoch number he hn (a_DATA hp hb hf some) = record { kind = omega arith; flags = omega arith; length = omega arith; epoch = he; number = hn; position = hp; credit = omega arith }
narrow epoch number he hn (an_ACK hp hc) = record { kind = omega arith; flags = omega arith; length = omega arith; epoch = he; number = hn; position = hp; credit = hc }
narrow epoch number he hn (a_PROBE hp) = record { kind = omega arith; flags = omega arith; length = omega arith; epoch = he; number = hn; position = hp; credit = omega arith }

message_header : (epoch number : ℕ) (m : Message) → message_of (header_of epoch number m) (payload_of m) ≡ m
unfolding message_of header_of kind_of flags_of position_of credit_of payload_of
message_header epoch number (DATA p bs e) = refl
message_header epoch number (ACK p c) = refl
message_header epoch number (PROBE p) = refl

header_epoch : (epoch number : ℕ) (m : Message) → (header_of epoch number m).epoch ≡ epoch
unfolding header_of
header_epoch epoch number m = refl

header_number : (epoch number : ℕ) (m : Message) → (header_of epoch number m).number ≡ number
unfolding header_of
header_number epoch number m = refl

fields_encode : (epoch number : ℕ) (m : Message) → epoch < 2 ^ 64 → number < 2 ^ 64 → Sendable m → fields_of (encode epoch number m) ≡ header_of epoch number m
unfolding encode
fields_encode epoch number m he hn s = fields_head (header_of epoch number m) (payload_of m) (narrow epoch number he hn s)

drop_encode : (epoch number : ℕ) (m : Message) → drop head_size (encode epoch number m) ≡ payload_of m
unfolding encode
drop_encode epoch number m = drop_at (head_of (header_of epoch number m)) (payload_of m) head_size (head_length (header_of epoch number m))

pub form_encode : (epoch number : ℕ) (m : Message) → epoch < 2 ^ 64 → number < 2 ^ 64 → Sendable m → form_of (encode epoch number m) ≡ 0
unfolding form_of
form_encode epoch number m he hn s =
    let l = encode_length epoch number m in
    let f : 0 ≡ rows_of (fields_of (encode epoch number m)) (length (encode epoch number m)) = rw (fields_encode epoch number m he hn s, l) (sym (passes epoch number s)) in
    sym (miss_lt 0 1 _ (length (encode epoch number m)) head_size (omega arith) f)

-- THE THEOREM: every datagram that an end can send is read as it was sent
pub decode_encode : (epoch number : ℕ) (m : Message) → epoch < 2 ^ 64 → number < 2 ^ 64 → Sendable m → decode (encode epoch number m) ≡ read epoch number m
unfolding decode decode_as
decode_encode epoch number m he hn s =
    rw (form_encode epoch number m he hn s, fields_encode epoch number m he hn s, drop_encode epoch number m, message_header epoch number m, header_epoch epoch number m, header_number epoch number m)

-- WHAT DECODES ENCODES BACK

-- a list of bytes
pub Bytes : List ℕ → Type 0
Bytes d = (j : ℕ) → get_or d j 0 < 256

-- the first k bytes of a number of n
num_first : (d : List ℕ) (at n k : ℕ) → Bytes d → k ≤ n → num d at n / 2 ^ (8 * (n - k)) ≡ num d at k
unfolding num Bytes
num_first d at zero zero b h = refl
num_first d at zero (suc _) b h = elim h [ ]
num_first d at (suc n) k b h = elim (ℕ_discrete k (suc n)) [
  | yes e ↦ rw (e, sub_self) (div-one (num d at (suc n)))
  | no ne ↦
      let up : num d at (suc n) / 2 ^ 8 / 2 ^ (8 * (n - k)) ≡ num d at (suc n) / 2 ^ (8 + 8 * (n - k)) = shr-shr (num d at (suc n)) 8 (8 * (n - k)) in
      let one : num d at (suc n) / 2 ^ 8 ≡ num d at n = omega (arith, b (at + n)) in
      let e : 8 * (suc n - k) ≡ 8 + 8 * (n - k) = omega arith in
      rw e (sym up ∙ ap (λ (x : ℕ). x / 2 ^ (8 * (n - k))) one ∙ num_first d at n k b (omega arith))
]

num_byte : (d : List ℕ) (at n i : ℕ) → Bytes d → i < n → num d at n / 2 ^ (8 * (n - 1 - i)) % 256 ≡ get_or d (at + i) 0
unfolding num Bytes
num_byte d at n i b h =
    let e : 8 * (n - 1 - i) ≡ 8 * (n - suc i) = omega arith in
    let f = num_first d at n (suc i) b (omega arith) in
    rw (e, f) (omega (arith, b (at + i)))

be_field : (d : List ℕ) (at n : ℕ) → Bytes d → at + n ≤ length d → be n (num d at n) ≡ take n (drop at d)
be_field d at n b h =
    let l : length (take n (drop at d)) ≡ n = length-take-le n (drop at d) (rw length-drop (omega arith)) in
    ext_get_or 0 (be n (num d at n)) (take n (drop at d)) (be_length n _ ∙ sym l)
    (λ i g.
    let k : i < n = omega (arith, be_length n (num d at n)) in
    be_at n (num d at n) i k ∙ num_byte d at n i b k ∙ sym (get_or-take n (drop at d) i 0 k ∙ get_or-drop at d i 0))

-- two stretches, one after the other
joined : (d : List ℕ) (at m n to : ℕ) → at + m ≡ to → take m (drop at d) ++ take n (drop to d) ≡ take (m + n) (drop at d)
joined d at m n to e = rw (← e, ← drop-drop) (sym (take-add m n (drop at d)))

head_fields : (d : List ℕ) → Bytes d → head_size ≤ length d → head_of (fields_of d) ≡ take head_size d
unfolding head_of fields_of
head_fields d b h =
    rw (be_field d 0 1 b (omega arith), be_field d 1 1 b (omega arith), be_field d 2 2 b (omega arith), be_field d 4 8 b (omega arith))
    (rw (be_field d 12 8 b (omega arith), be_field d 20 8 b (omega arith), be_field d 28 4 b (omega arith))
    (rw (joined d 2 2 8 4 refl, joined d 1 1 10 2 refl, joined d 0 1 11 1 refl, joined d 20 8 4 28 refl, joined d 12 8 12 20 refl)
    (joined d 0 12 20 12 refl)))

-- the message that is read has the fields that it was read from
header_message : (h : Header) (payload : List ℕ) → Formed h (head_size + length payload) → header_of h.epoch h.number (message_of h payload) ≡ h
unfolding message_of header_of kind_of flags_of position_of credit_of payload_of
header_message h payload f = elim (ℕ_discrete h.kind 1) [
  | yes k ↦ rw (eq-eqb h.kind 1 k) (as_data h payload k (omega (arith, f.whole)) (f.no_credit (λ x. omega arith)))
  | no k ↦ elim (ℕ_discrete h.kind 2) [
    | yes j ↦ rw (ne_eqb h.kind 1 k, eq-eqb h.kind 2 j) (as_ack h j (omega (arith, f.plain k)) (omega (arith, f.plain k)))
    | no j ↦ rw (ne_eqb h.kind 1 k, ne_eqb h.kind 2 j) (as_probe h (omega (arith, f.kind_low, f.kind_high)) (omega (arith, f.plain k)) (omega (arith, f.plain k)) (f.no_credit j))
  ]
]
  where
    as_data : (h : Header) (payload : List ℕ) → h.kind ≡ 1 → length payload ≡ h.length → h.credit ≡ 0
        → header_of h.epoch h.number (DATA h.position payload h.flags) ≡ h
    as_data h payload k l c = same_fields h (sym k) refl l refl refl refl (sym c)

    as_ack : (h : Header) → h.kind ≡ 2 → h.flags ≡ 0 → h.length ≡ 0 → header_of h.epoch h.number (ACK h.position h.credit) ≡ h
    as_ack h k f l = same_fields h (sym k) (sym f) (sym l) refl refl refl refl

    as_probe : (h : Header) → h.kind ≡ 3 → h.flags ≡ 0 → h.length ≡ 0 → h.credit ≡ 0 → header_of h.epoch h.number (PROBE h.position) ≡ h
    as_probe h k f l c = same_fields h (sym k) (sym f) (sym l) refl refl refl (sym c)

payload_message : (h : Header) (payload : List ℕ) → Formed h (head_size + length payload) → payload_of (message_of h payload) ≡ payload
unfolding message_of payload_of
payload_message h payload f = elim (ℕ_discrete h.kind 1) [
  | yes k ↦ rw (eq-eqb h.kind 1 k)
  | no k ↦
      let z : [] ≡ payload = no_payload payload (omega (arith, f.plain k, f.whole)) in
      elim (ℕ_discrete h.kind 2) [
        | yes j ↦ rw (ne_eqb h.kind 1 k, eq-eqb h.kind 2 j) z
        | no j ↦ rw (ne_eqb h.kind 1 k, ne_eqb h.kind 2 j) z
      ]
]
  where
    no_payload : (l : List ℕ) → length l ≡ 0 → [] ≡ l
    no_payload [] e = refl
    no_payload (x ∷ l) e = absurd (omega arith)

-- where a datagram is read, its form is right, and this is what is read
pub record Was (d : List ℕ) (epoch number : ℕ) (m : Message) : Type 0 where
  pub well : WellFormed d
  pub epoch_is : epoch ≡ (fields_of d).epoch
  pub number_is : number ≡ (fields_of d).number
  pub message_is : m ≡ message_of (fields_of d) (drop head_size d)

was_as : (r : ℕ) (d : List ℕ) (epoch number : ℕ) (m : Message) → r ≡ form_of d → decode_as r d ≡ read epoch number m → Was d epoch number m
unfolding decode_as
was_as zero d epoch number m f e = record { well = form_formed d 0 f refl; epoch_is = cc; number_is = cc; message_is = cc }
was_as (suc r) d epoch number m f e = let z : ◌≡◌ {A = ℕ} 0 1 = cc in absurd (omega arith)

pub decode_was : (d : List ℕ) (epoch number : ℕ) (m : Message) → decode d ≡ read epoch number m → Was d epoch number m
unfolding decode
decode_was d epoch number m e = was_as (form_of d) d epoch number m refl e

-- THE THEOREM: whatever is read stands in just these bytes
pub encode_decode : (d : List ℕ) (epoch number : ℕ) (m : Message) → Bytes d → decode d ≡ read epoch number m → encode epoch number m ≡ d
unfolding encode
encode_decode d epoch number m b e =
    let w = decode_was d epoch number m e in
    let h = fields_of d in
    let payload = drop head_size d in
    let l : length d ≡ head_size + length payload = rw length-drop (omega (arith, w.well.whole_header)) in
    let f : Formed h (head_size + length payload) = rw l at w.well.formed in
    let k : header_of epoch number m ≡ h = rw (w.epoch_is, w.number_is, w.message_is) (header_message h payload f) in
    rw (k, w.message_is, payload_message h payload f, head_fields d b w.well.whole_header) (take-append-drop head_size d)
