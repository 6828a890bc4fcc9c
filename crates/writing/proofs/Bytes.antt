-- What `to_be_bytes` gives is what a datagram has of a number. Assumes nothing.
use Rattle.std.proofs.Common.{◌≡◌, ap, ◌∙◌, List, take, drop, ℕ, div-one}
use Rattle.std.specs.Int.{w64, to_be_bytes}
use Rattle.wire.specs.Datagram.{be}

-- all eight bytes, and the lowest four, two and one
pub be_8 : {y bs : List ℕ} (v : ℕ) → y ≡ bs → bs ≡ to_be_bytes w64 v → y ≡ be 8 v
unfolding be
be_8 v e f = e ∙ f ∙ rw div-one

pub be_4 : {y bs : List ℕ} (v : ℕ) → y ≡ take 4 (drop 4 bs) → bs ≡ to_be_bytes w64 v → y ≡ be 4 v
unfolding be
be_4 v e f = e ∙ ap (λ (x : List ℕ). take 4 (drop 4 x)) f ∙ rw div-one

pub be_2 : {y bs : List ℕ} (v : ℕ) → y ≡ take 2 (drop 6 bs) → bs ≡ to_be_bytes w64 v → y ≡ be 2 v
unfolding be
be_2 v e f = e ∙ ap (λ (x : List ℕ). take 2 (drop 6 x)) f ∙ rw div-one

pub be_1 : {y bs : List ℕ} (v : ℕ) → y ≡ take 1 (drop 7 bs) → bs ≡ to_be_bytes w64 v → y ≡ be 1 v
unfolding be
be_1 v e f = e ∙ ap (λ (x : List ℕ). take 1 (drop 7 x)) f ∙ rw div-one
