-- An ACK's position beyond the lowest missing one: then every byte and the END have arrived. Assumes nothing.
use Rattle.std.proofs.Common.{◌≡◌, List, ℕ, ◌+◌, ◌<◌, length, arith}
use Rattle.receiving.specs.Receiving.{Receiving, low_of, end_at, ack_position}
use Rattle.receiving.specs.Truth.{ReceivingOK}
use Rattle.receiving.specs.ReadLaws.{end_at_small}
use Rattle.receiving.proofs.ReceivingLaws.{end_true}

pub record Arrived (H : List ℕ) (closed : ℕ) (v : Receiving) : Type 0 where
  pub finished : closed ≡ 1
  pub last : low_of v ≡ length H
  pub past : ack_position v ≡ length H + 1

pub past_end : {H got : List ℕ} {closed : ℕ} {v : Receiving} → ReceivingOK H got closed v → low_of v < ack_position v → Arrived H closed v
unfolding ack_position
past_end {v = v} k h =
    let s = end_at_small v.end (low_of v) in
    let e : end_at v.end (low_of v) ≡ 1 = omega arith in
    let t = end_true k (low_of v) e in
    record { finished = t.0; last = t.1; past = omega (arith, t.1) }
