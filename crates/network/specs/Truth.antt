-- 03 §1: what holds throughout a run, for one direction and for one end.
use Rattle.std.specs.Prelude.{◌≡◌, List, ℕ, ◌+◌, ◌-◌, ◌≤◌, ◌<◌, length, take}
use Rattle.wire.specs.Datagram.{ceiling, Message, DATA, ACK, PROBE}
use Rattle.ring.specs.Ring.{capacity}
use Rattle.window.specs.History.{Reached}
use Rattle.receiving.specs.Receiving.{Receiving, ack_position, ack_credit}
use Rattle.receiving.specs.Truth.{ReceivingOK}
use Rattle.sending.specs.Sending.{Sending}
use Rattle.sending.specs.True.{True, SendingOK}
use Rattle.network.specs.World.{Entry, Site}
use Rattle.network.specs.Delivered.{numbers_of, acks_in, asks_in, Every}
use Rattle.sending.specs.NetworkLaws.{Below}

-- what a direction needs to know of the end that it comes from, and of the end that it goes to
pub record Source : Type 0 where
  pub given : List ℕ
  pub finished : ℕ
  pub side : Sending
  pub sent : List Entry

pub record Sink : Type 0 where
  pub taken : List ℕ
  pub reported : ℕ
  pub side : Receiving
  pub sent : List Entry

abbrev pub source : Site → Source
source x = record { given = x.given; finished = x.finished; side = x.end.sending; sent = x.sent }

abbrev pub sink : Site → Sink
sink x = record { taken = x.taken; reported = x.reported; side = x.end.receiving; sent = x.sent }

-- the position that an ACK says, and how far it grants
abbrev pub position : Sink → ℕ
position b = ack_position b.side

abbrev pub grant : Sink → ℕ
grant b = ack_position b.side + ack_credit b.side

-- the bytes that have left at least once, and 1 where the END has
abbrev pub gone : Source → List ℕ
gone a = take a.side.next a.given

abbrev pub gone_end : Source → ℕ
gone_end a = a.side.next - length a.given

-- DATA and PROBE are true of what was given, and what they carry is counted as sent; nothing is said of ACKs
pub data Forth (H : List ℕ) (closed limit next : ℕ) : Message → Type 0 where
  forth : {m : Message} → True H closed limit m → Below next m → Forth H closed limit next m
  an_ack : {p c : ℕ} → Forth H closed limit next (ACK p c)

-- an ACK says no more than its end would say now; nothing is said of DATA and PROBE
pub data Back (position grant : ℕ) : Message → Type 0 where
  back : {p c : ℕ} → p ≤ position → p + c ≤ grant → c ≤ capacity → Back position grant (ACK p c)
  a_data : {p e : ℕ} {bs : List ℕ} → Back position grant (DATA p bs e)
  a_probe : {p : ℕ} → Back position grant (PROBE p)

-- ONE DIRECTION
pub record Flow (a : Source) (b : Sink) : Type 0 where
  pub sender : SendingOK a.given (position b) a.side
  pub closed : a.side.closed ≡ a.finished
  pub limit : a.side.limit ≤ grant b
  -- what b holds is true of what has left
  pub receiver : ReceivingOK (gone a) b.taken (gone_end a) b.side
  pub finished : b.reported ≡ 1 → a.finished ≡ 1
  pub whole : b.reported ≡ 1 → b.taken ≡ a.given
  pub sent : Every (λ d. Forth a.given a.finished a.side.limit a.side.next d.message) a.sent
  pub acks : Every (λ d. Back (position b) (grant b) d.message) b.sent

-- ONE END
pub record Numbered (last : ℕ) (d : Entry) : Type 0 where
  pub some : 0 < d.number
  pub most : d.number ≤ last

pub record Own (epoch : ℕ) (x : Site) : Type 0 where
  pub epoch_is : x.end.epoch ≡ epoch
  pub number : x.end.number < ceiling
  pub numbered : Every (Numbered x.end.number) x.sent
  pub window : Reached (numbers_of x.accepted) x.end.window
  pub due : acks_in x.sent + x.end.due ≤ asks_in x.accepted

-- BOTH, seen from x
pub record Pair (epoch : ℕ) (x y : Site) : Type 0 where
  pub here : Own epoch x
  pub there : Own epoch y
  pub out : Flow (source x) (sink y)
  pub back : Flow (source y) (sink x)
