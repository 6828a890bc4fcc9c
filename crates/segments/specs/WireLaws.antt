-- Laws of what leaves in several steps, one after the other. Assumes nothing.
use Rattle.std.specs.Prelude.{◌≡◌, refl, List, [], ◌∷◌, ◌++◌, ℕ, ◌+◌, ◌≤◌, length, take, drop}
use Rattle.std.proofs.Common.{sym, ◌∙◌, append-nil, append_assoc, arith, length-append, length-drop, drop_of_length-le, drop-drop, take_all}
use Rattle.std.proofs.Math.Seq.{take-append_seam, drop-append_seam}
use borrow.Rule.Slice.PartMut.{put_mid}
use Rattle.laws.specs.Over.{over}
use Rattle.wire.specs.Datagram.{Message, encode, wire}

pub wire_more : (e n : ℕ) (m : Message) (ms : List Message) → wire e n (m ∷ ms) ≡ wire e n ms ++ encode e (n + length ms + 1) m
unfolding wire
wire_more e n m ms = refl

-- what leaves later stands after what left before
pub wire_append : (e n : ℕ) (ms ks : List Message) → wire e n (ms ++ ks) ≡ wire e n ks ++ wire e (n + length ks) ms
unfolding wire
wire_append e n [] ks = sym (append-nil _)
wire_append e n (m ∷ ms) ks =
    let q : n + length (ms ++ ks) + 1 ≡ n + length ks + length ms + 1 = rw length-append (omega arith) in
    rw (wire_append e n ms ks, q, append_assoc)

-- the rest of a buffer, lent, and written over in its turn
pub over_rest : (xs ys out x y : List ℕ) (a k : ℕ) → x ≡ over xs out → a ≡ length xs → length x ≤ a + k → y ≡ over ys (take k (drop a x)) → put_mid a k x y ≡ over (xs ++ ys) out
unfolding over
over_rest xs ys out x y a k e p l h =
    let u : drop a x ≡ drop (length xs) out = rw (e, p, drop-append_seam) in
    let v : length (drop a x) ≤ k = rw length-drop (omega arith) in
    let w : take a x ≡ xs = rw (e, p, take-append_seam) in
    let z : y ≡ ys ++ drop (length ys) (drop (length xs) out) = h ∙ rw (take_all k (drop a x) v, u) in
    rw (drop_of_length-le (drop a x) {i = k} v, append-nil, w, z, drop-drop, append_assoc, length-append)
