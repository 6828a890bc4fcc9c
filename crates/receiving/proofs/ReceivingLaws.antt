-- Statement B's steps for the receiving side, call by call, and why an honest peer's DATA is never refused. Assumes nothing.
use Rattle.std.proofs.Common.{ℕ, ◌+◌, ◌≤◌, ◌<◌, ◌≡◌, refl, List, [], ◌++◌, length, eqb, ap, sym, ◌∙◌, ⊎_elim, arith, length-append, eqb-true}
use Rattle.std.proofs.lemmas.List.{length-replicate}
use Rattle.laws.specs.Choice.{if_case}
use Rattle.laws.specs.RowsLaws.{miss_row}
use Rattle.laws.specs.History.{Says}
use Rattle.laws.specs.HistoryLaws.{says_grow, says_at, says_append}
use Rattle.wire.specs.Datagram.{ceiling}
use Rattle.ring.specs.Ring.{capacity}
use Rattle.receiving.specs.Receiving.{missing, End, none, at, Receiving, fresh, fill_of, hear_of, low_of, reach, high_of, heads, got_of, take_of}
use Rattle.receiving.specs.Receiving.{end_at, ended_of, ack_position, ack_credit, beyond_of, misplaced_of, refusal_by, refusal_of}
use Rattle.laws.specs.Split.{split}
use Rattle.receiving.specs.CellLaws.{length_fill}
use Rattle.receiving.specs.ReadLaws.{end_at_small}
use Rattle.receiving.specs.RefusalLaws.{beyond_none, beyond_within, unknown_after, unknown_none, known_there, known_none}
use Rattle.receiving.specs.AckLaws.{taken_low, size_take, low_room, got_length, taken_take, end_take, ack_says}
use Rattle.receiving.specs.Truth.{Fits, Ends, unknown, known, ReceivingOK}
use Rattle.receiving.proofs.TruthLaws.{says_below, says_length, says_whole, fits_start, fits_grow, fits_fill, fits_taken, says_heads, fits_lead, fits_reach}

-- a fresh end, whatever its peer was given
pub receiving_start : (H : List ℕ) (closed : ℕ) → ReceivingOK H [] closed fresh
unfolding fresh
receiving_start H closed = record { cells = fits_start capacity; says = Says.none; count = refl; ends = unknown; size = length-replicate capacity missing }

-- history grows: by nothing once the peer's host has called finish
pub receiving_give : {H got : List ℕ} {closed : ℕ} {v : Receiving} (K : List ℕ) → (closed ≡ 1 → length K ≡ 0) → ReceivingOK H got closed v → ReceivingOK (H ++ K) got closed v
receiving_give {H} {got} {closed} {v} K z k = record {
  cells = fits_grow K k.cells;
  says = says_grow K k.says;
  count = k.count;
  ends = ends_grow k.ends;
  size = k.size;
}
  where
    ends_grow : {E : End} → Ends H closed E → Ends (H ++ K) closed E
    ends_grow unknown = unknown
    ends_grow (known {k = q} c l) = let e : q ≡ length (H ++ K) = omega (arith, z c, length-append H K) in known c e

-- so freely until it does
pub receiving_grow : {H got : List ℕ} {closed : ℕ} {v : Receiving} (K : List ℕ) → closed ≡ 0 → ReceivingOK H got closed v → ReceivingOK (H ++ K) got closed v
receiving_grow K z k = receiving_give K (λ c. absurd (omega arith)) k

-- and then it does
pub receiving_close : {H got : List ℕ} {closed : ℕ} {v : Receiving} → ReceivingOK H got closed v → ReceivingOK H got 1 v
receiving_close {H} {got} {closed} k = record { cells = k.cells; says = k.says; count = k.count; ends = ends_close k.ends; size = k.size }
  where
    ends_close : {E : End} → Ends H closed E → Ends H 1 E
    ends_close unknown = unknown
    ends_close (known c l) = known refl l

-- a DATA that is true of the history
pub receiving_hear : {H got : List ℕ} {closed p e : ℕ} {bs : List ℕ} {v : Receiving} → Says H p bs → (e ≡ 1 → closed ≡ 1) → (e ≡ 1 → p + length bs ≡ length H)
    → ReceivingOK H got closed v
    → ReceivingOK H got closed (hear_of v p bs e)
unfolding hear_of fill_of
receiving_hear {H} {got} {closed} {p} {e} {bs} {v} h c l k = record {
  cells = fits_fill k.cells h;
  says = k.says;
  count = k.count;
  ends = if_case (Ends H closed) (eqb e 1) (λ t. known (c (eqb-true e 1 t)) (l (eqb-true e 1 t))) (λ t. k.ends);
  size = length_fill v.taken v.cells p bs ∙ k.size;
}

says_got : {H : List ℕ} (v : Receiving) (n : ℕ) → Fits H v.taken v.cells → Says H v.taken (got_of v n)
unfolding got_of
says_got v n f = says_heads n f

taken_cells : {H : List ℕ} (v : Receiving) (n : ℕ) → Fits H v.taken v.cells → Fits H (take_of v n).taken (take_of v n).cells
unfolding take_of
taken_cells v n f = fits_taken (length (heads n v.cells)) (length (heads n v.cells)) f

-- what take hands up continues what was handed up before
pub receiving_take : {H got : List ℕ} {closed : ℕ} {v : Receiving} (n : ℕ) → ReceivingOK H got closed v → ReceivingOK H (got ++ got_of v n) closed (take_of v n)
receiving_take {H} {got} {closed} {v} n k = record {
  cells = taken_cells v n k.cells;
  says = says_append k.says (says_at (says_got v n k.cells) (omega (arith, k.count)));
  count = simp length-append (omega (arith, k.count, taken_take v n));
  ends = rw (end_take v n) k.ends;
  size = size_take v n ∙ k.size;
}

-- END: reported only when the peer's host has called finish, and every byte that it gave has been taken
at_one : (E : End) (q : ℕ) → end_at E q ≡ 1 → E ≡ at q
unfolding end_at
at_one none q e = absurd (omega arith)
at_one (at k) q e = if_case (λ (n : ℕ). n ≡ 1 → at k ≡ at q) (eqb k q) (λ t x. ap at (eqb-true k q t)) (λ t x. absurd (omega arith)) e

record Known (H : List ℕ) (closed q : ℕ) : Type 0 where
  finished : closed ≡ 1
  last : q ≡ length H

known_at : {H : List ℕ} {closed q : ℕ} {E : End} → Ends H closed E → E ≡ at q → Known H closed q
known_at unknown e = let z : ◌≡◌ {A = ℕ} 0 1 = cc in absurd (omega arith)
known_at (known {k = k} c l) e = record { finished = c; last = cc }

-- where the END is at q, q is the length of the history
pub end_true : {H got : List ℕ} {closed : ℕ} {v : Receiving} → ReceivingOK H got closed v → (q : ℕ) → end_at v.end q ≡ 1 → (closed ≡ 1) × (q ≡ length H)
end_true {v = v} k q e = let w = known_at k.ends (at_one v.end q e) in (w.finished, w.last)

pub ended_closed : {H got : List ℕ} {closed : ℕ} {v : Receiving} → ReceivingOK H got closed v → ended_of v ≡ 1 → closed ≡ 1
unfolding ended_of
ended_closed {v = v} k e = (end_true k v.taken e).0

pub ended_all : {H got : List ℕ} {closed : ℕ} {v : Receiving} → ReceivingOK H got closed v → ended_of v ≡ 1 → got ≡ H
unfolding ended_of
ended_all {v = v} k e = says_whole k.says (k.count ∙ (end_true k v.taken e).1)

-- THE ACK
pub taken_true : {H got : List ℕ} {closed : ℕ} {v : Receiving} → ReceivingOK H got closed v → v.taken ≤ length H
taken_true k = let l = says_length k.says in omega (arith, k.count)

pub low_true : {H got : List ℕ} {closed : ℕ} {v : Receiving} → ReceivingOK H got closed v → low_of v ≤ length H
unfolding low_of
low_true k = fits_lead k.cells (taken_true k)

pub high_true : {H got : List ℕ} {closed : ℕ} {v : Receiving} → ReceivingOK H got closed v → high_of v ≤ length H
unfolding high_of
high_true {v = v} k =
    let t = taken_true k in
    ⊎_elim (λ z. omega arith) (λ z. let h = fits_reach k.cells z in omega arith) (split (reach v.cells) 1)

-- the position passes the last byte only once finish was called, and then by one
pub ack_true : {H got : List ℕ} {closed : ℕ} {v : Receiving} → ReceivingOK H got closed v → ack_position v ≤ length H + closed
unfolding ack_position
ack_true {v = v} k =
    let l = low_true k in
    let s = end_at_small v.end (low_of v) in
    ⊎_elim (λ z. omega arith) (λ z. let w = (end_true k (low_of v) (omega arith)).0 in omega arith) (split (end_at v.end (low_of v)) 1)

pub ack_most : {H got : List ℕ} {closed : ℕ} {v : Receiving} → ReceivingOK H got closed v → ack_position v ≤ length H + 1
unfolding ack_position
ack_most {v = v} k = let l = low_true k in let s = end_at_small v.end (low_of v) in omega arith

-- bytes that the history has, up to what an ACK grants, lie below taken + 65,536
pub grant_true : {H got : List ℕ} {closed : ℕ} {v : Receiving} → ReceivingOK H got closed v → (q : ℕ) → q ≤ ack_position v + ack_credit v → q ≤ length H → q ≤ v.taken + capacity
unfolding ack_position
grant_true {v = v} k q h l =
    let a = ack_says v in
    let r = low_room v in
    let z = k.size in
    let s = end_at_small v.end (low_of v) in
    ⊎_elim (λ y. omega arith) (λ y. let w = (end_true k (low_of v) (omega arith)).1 in omega arith) (split (end_at v.end (low_of v)) 1)

-- once the position is past the END, a take that takes all reports it
pub ended_when : {H got : List ℕ} {closed : ℕ} {v : Receiving} (n : ℕ) → ReceivingOK H got closed v → ack_position v ≡ length H + 1 → low_of v ≤ v.taken + n → ended_of (take_of v n) ≡ 1
unfolding ack_position ended_of
ended_when {v = v} n k e h =
    let l = low_true k in
    let s = end_at_small v.end (low_of v) in
    let t = taken_take v n in
    let g = got_length v n in
    let x : (take_of v n).taken ≡ low_of v = omega (arith, taken_low v) in
    let y : end_at v.end (low_of v) ≡ 1 = omega arith in
    rw (x, end_take v n) y

-- REFUSALS 8 AND 9 never meet a DATA that is true of the history and within what was granted
pub never_refused : {H got : List ℕ} {closed : ℕ} {v : Receiving} {p e : ℕ} {bs : List ℕ} → ReceivingOK H got closed v → Says H p bs → (e ≡ 1 → p + length bs ≡ length H)
    → (0 < length bs → p + length bs ≤ v.taken + capacity)
    → length H ≤ ceiling
    → refusal_of v p (length bs) e ≡ 0
unfolding refusal_of refusal_by
never_refused {H} {got} {closed} {v} {p} {e} {bs} k s l room c =
    let n : ℕ = length bs in
    let b : 0 ≡ beyond_of v.taken p n =
    ⊎_elim (λ z. beyond_none v.taken p n (omega arith))
    (λ z. let x = says_below s z in beyond_within v.taken p n (omega arith) (room z))
    (split n 1) in
    sym (miss_row 0 _ _ 0 b refl (placed k.ends))
  where
    placed : {E : End} → Ends H closed E → 0 ≡ misplaced_of E (high_of v) (p + length bs) (length bs) e
    placed unknown =
        ⊎_elim (λ z. unknown_none (high_of v) (p + length bs) (length bs) e (λ x. omega arith))
        (λ z.
        ⊎_elim (λ y. let x : e ≡ 1 = omega arith in let h = high_true k in let w = l x in unknown_after (high_of v) (p + length bs) (length bs) e x (omega arith))
        (λ y. unknown_none (high_of v) (p + length bs) (length bs) e (λ x. omega arith))
        (split e 2))
        (split e 1)
    placed (known {k = q} c' m) =
        let before : 0 < length bs → p + length bs ≤ q = λ z. let x = says_below s z in omega arith in
        ⊎_elim (λ z. known_none q (high_of v) (p + length bs) (length bs) e (λ x. omega arith) before)
        (λ z.
        ⊎_elim (λ y. let x : e ≡ 1 = omega arith in let w = l x in known_there q (high_of v) (p + length bs) (length bs) e x (omega arith))
        (λ y. known_none q (high_of v) (p + length bs) (length bs) e (λ x. omega arith) before)
        (split e 2))
        (split e 1)
