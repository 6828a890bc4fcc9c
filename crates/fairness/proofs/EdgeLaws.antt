-- 03 §2: how far behind the highest number a datagram comes.
use Rattle.std.proofs.Common.{◌≡◌, ℕ, ◌+◌, ◌-◌, ◌*◌, ◌^◌, ◌≤◌, ◌<◌, List, arith}
use Rattle.sending.specs.CallLaws.{In}
use Rattle.network.specs.World.{Entry, Arrival}
use Rattle.fairness.specs.Timed.{Plan, Side, other, site_at, end_at}
use Rattle.fairness.specs.Networks.{sent_in}
use Rattle.fairness.specs.TimedLaws.{twice, heard}
use Rattle.fairness.specs.StateLaws.{number_few}
use Rattle.fairness.proofs.TakenLaws.{pair_at, heard_pair, sent_above, Under, under_at, heard_under, high_under}
use Rattle.network.proofs.RunLaws.{swap}

-- WINDOW EDGE: e was sent in tick k, and tick j is one of the D after it. Whatever the other end has heard by then, and xs in this tick,
-- its h is at most 32 * D - 1 above e
pub window_edge : (σ : Plan) (d : Side) (D k j : ℕ) (e : Entry) (xs : List Arrival) → σ.epoch < 2 ^ 64 → In e (sent_in σ d k) → k < j → j ≤ k + D
    → (heard (site_at σ (other d) j) (site_at σ d j) xs).end.window.high ≤ e.number + (32 * D - 1)
window_edge σ d D k j e xs h i lt near =
    let v = swap (pair_at σ d j h) in
    let u : Under (site_at σ (other d) j) (end_at σ d j).number = rw (twice d) at (under_at σ (other d) j h) in
    let top = high_under (heard_pair xs h v) (heard_under xs h v u) in
    let few : (end_at σ d j).number ≤ (end_at σ d k).number + 32 * (j - k) = (let q : k + (j - k) ≡ j = omega arith in rw q at (number_few σ d k (j - k))) in
    omega (arith, sent_above σ d k i)
