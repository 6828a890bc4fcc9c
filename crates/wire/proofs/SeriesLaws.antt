-- Bytes are a series of datagrams in one way only, and what leaves is a series. Assumes nothing.
use Rattle.std.proofs.Common.{◌≡◌, refl, List, [], ◌∷◌, ◌++◌, ℕ, ◌+◌, ◌≤◌, length, take, drop, sym, ap, ◌∙◌, append-nil, append_assoc, arith, length-append, take_at, drop_at}
use Rattle.std.proofs.Math.ListN.{get_or-append}
use Rattle.wire.specs.Datagram.{head_size, Message, encode, wire}
use Rattle.wire.specs.Reading.{fields_of, read, decode}
use Rattle.wire.proofs.ReadingLaws.{num_same}
use Rattle.wire.proofs.RoundTripLaws.{decode_was}
use Rattle.wire.specs.Series.{Series, nothing, first}

-- the length field of the first datagram
pub length_field : (d s : List ℕ) → head_size ≤ length d → (fields_of (d ++ s)).length ≡ (fields_of d).length
unfolding fields_of
length_field d s h = num_same d (d ++ s) 2 2 (λ j lo hi. get_or-append d s 0 j (omega arith))

same_parts : (d e s t : List ℕ) → d ++ s ≡ e ++ t → length d ≡ length e → (d ≡ e) × (s ≡ t)
same_parts d e s t q l = (
  sym (take_at d s (length e) l) ∙ ap (λ (x : List ℕ). take (length e) x) q ∙ take_at e t (length e) refl,
  sym (drop_at d s (length e) l) ∙ ap (λ (x : List ℕ). drop (length e) x) q ∙ drop_at e t (length e) refl,
)

-- in one way only
pub series_only : {s t : List ℕ} {ds es : List (List ℕ)} → Series s ds → Series t es → s ≡ t → ds ≡ es
series_only nothing nothing q = refl
series_only nothing (first d {s} l a) q = let z = ap length q in let y = length-append d s in absurd (omega arith)
series_only (first d {s} l a) nothing q = let z = ap length q in let y = length-append d s in absurd (omega arith)
series_only (first d {s} {ds} l a) (first e {s = t} {ds = es} k b) q =
    let x : (fields_of d).length ≡ (fields_of e).length =
    sym (length_field d s (omega arith)) ∙ ap (λ (z : List ℕ). (fields_of z).length) q ∙ length_field e t (omega arith) in
    let p = same_parts d e s t q (omega arith) in
    let i = series_only a b p.1 in
    rw (i, p.0)

-- one more
pub series_last : {s d : List ℕ} {ds : List (List ℕ)} → Series s ds → length d ≡ head_size + (fields_of d).length → Series (s ++ d) (d ∷ ds)
series_last {d = d} nothing l = rw (append-nil d) at (first d l nothing)
series_last {d = d} (first e k a) l = rw append_assoc (first e k (series_last a l))

-- what leaves
pub wire_none : (e n : ℕ) → wire e n [] ≡ []
unfolding wire
wire_none e n = refl

pub wire_next : (e n : ℕ) (m : Message) (ms : List Message) → wire e n (m ∷ ms) ≡ wire e n ms ++ encode e (n + length ms + 1) m
unfolding wire
wire_next e n m ms = refl

-- what is read is as long as it says
pub read_whole : (d : List ℕ) (epoch number : ℕ) (m : Message) → decode d ≡ read epoch number m → length d ≡ head_size + (fields_of d).length
read_whole d epoch number m q = (decode_was d epoch number m q).well.formed.whole
