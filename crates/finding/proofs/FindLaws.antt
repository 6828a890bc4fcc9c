-- Laws of what is found, by position and by whole bytes. Nothing here knows how a mark is kept. Assumes nothing.
use Rattle.std.proofs.Common.{◌≡◌, ◌∙◌, sym, arith, Bool, true, false, length-take, length-drop, List, length, take, drop, ℕ, ◌+◌, ◌-◌, ◌*◌, ◌/◌, ◌%◌, ◌≤◌, ◌<◌, get_or, get_or-take, get_or-drop}
use Rattle.finding.specs.Search.{Other}
use Rattle.ring.specs.Ring.{capacity}
use Rattle.std.specs.Int.{from_bool}
use Rattle.marks.specs.MarkLaws.{mark_lt}
use Rattle.marks.specs.ByteLaws.{mark_byte}
use Rattle.marks.specs.Stretches.{Straight}
use Rattle.finding.specs.Finding.{Skips, Finds, Runs}

pub runs_found : {m : List ℕ} {low top l : ℕ} → Finds m 1 low top l → Runs m low top l
runs_found {m} {low} {top} {l} f = record {
  low_l = f.skips.a_l;
  l_top = f.skips.l_b;
  marked = λ q h k. let e = f.skips.all q h k in omega arith;
  stop = λ h. let n = f.stop h in let b = mark_lt m l in omega arith;
}

-- n whole bytes from index at on are the positions a .. b - 1
passed_bytes : (m : List ℕ) (a b at n v z : ℕ) → length m ≡ capacity → Straight a b → at ≡ a % capacity / 8 → n ≡ (b - a) / 8 → v < 2 → Other (take n (drop at m)) (v * 255) 0 z
    → Skips m v a b (a + z * 8)
passed_bytes m a b at n v z full s ea en bin f =
    let o = s.whole.order in
    let c = s.fits in
    let w = s.whole.from in
    let u = s.whole.upto in
    let i : at + n ≤ length m = omega arith in
    let l : length (take n (drop at m)) ≡ n = simp (length-take, length-drop) (omega arith) in
    let h = f.high in record {
      a_l = omega arith;
      l_b = omega arith;
      all = λ q lo hi.
          let j : ℕ = (q - a) / 8 in
          let k : j < z = omega arith in
          let g : get_or m (at + j) 0 ≡ v * 255 = sym (get_or-take n (drop at m) j 0 (omega arith) ∙ get_or-drop at m j 0) ∙ f.before j k (omega arith) in
          mark_byte m q s ea lo (omega arith) bin g;
    }

bit_bound : (v : Bool) → from_bool v < 2
bit_bound true = omega arith
bit_bound false = omega arith

-- with the numbers as the code has them
pub skips_bytes : (v : Bool) {m : List ℕ} {a b at w z : ℕ} → Other (take (at + (b - a) / 8 - at) (drop at m)) w 0 z → w ≡ from_bool v * 255 → length m ≡ capacity → Straight a b
    → at ≡ a % capacity / 8
    → Skips m (from_bool v) a b (a + z * 8)
skips_bytes v {m} {a} {b} {at} {w} {z} f e full s ea =
    passed_bytes m a b at (at + (b - a) / 8 - at) (from_bool v) z full s ea (omega arith) (bit_bound v) (rw e at f)
