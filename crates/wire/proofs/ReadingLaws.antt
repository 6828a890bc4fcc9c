-- Laws of numbers read, and the round trips of 01 §2. Assumes nothing.
use Rattle.std.proofs.Common.{◌≡◌, refl, List, [], ◌++◌, ℕ, zero, suc, ◌+◌, ◌-◌, ◌*◌, ◌/◌, ◌^◌, ◌≤◌, ◌<◌, length, get_or, ap, sym, ◌∙◌, append_assoc, div-one, arith, shr-shr, length-append, get_or-append-add}
use Rattle.std.proofs.Math.Nat.{div-eq_of_lt, sub-zero, sub_self}
use Rattle.std.proofs.Math.ListN.{get_or-append}
use Rattle.laws.specs.RowsLaws.{miss_lt}
use Rattle.wire.specs.declared.Header.{Header}
use Rattle.wire.specs.Datagram.{head_size, be, start_of, rest_of, head_of}
use Rattle.wire.specs.DatagramLaws.{be_length, be_at, start_length}
use Rattle.wire.specs.Reading.{num, fields_of, rows_of, form_of, Fields}

-- a number is its bytes'
pub num_same : (s s' : List ℕ) (at n : ℕ) → ((j : ℕ) → at ≤ j → j < at + n → get_or s' j 0 ≡ get_or s j 0) → num s' at n ≡ num s at n
unfolding num
num_same s s' at zero h = refl
num_same s s' at (suc n) h = rw (num_same s s' at n (λ j lo hi. h j lo (omega arith)), h (at + n) (omega arith) (omega arith))

-- the bytes of v, read back
be_num : (s : List ℕ) (at n v i : ℕ) → i ≤ n → v < 2 ^ (8 * n) → ((j : ℕ) → j < n → get_or s (at + j) 0 ≡ get_or (be n v) j 0) → num s at i ≡ v / 2 ^ (8 * (n - i))
unfolding num
be_num s at n v zero h l f = rw sub-zero (sym (div-eq_of_lt l))
be_num s at n v (suc i) h l f =
    let k : ℕ = 8 * (n - 1 - i) in
    let up : v / 2 ^ k / 2 ^ 8 ≡ v / 2 ^ (8 * (n - i)) = shr-shr v k 8 ∙ ap (λ (e : ℕ). v / 2 ^ e) (omega arith) in
    let down : v / 2 ^ k ≡ v / 2 ^ (8 * (n - suc i)) = ap (λ (e : ℕ). v / 2 ^ e) (omega arith) in
    rw (be_num s at n v i (omega arith) l f, f i (omega arith), be_at n v i (omega arith)) (omega (arith, up, down))

-- a number that stands in d after `pre`
field : (d pre post : List ℕ) (at n v : ℕ) → d ≡ pre ++ (be n v ++ post) → length pre ≡ at → v < 2 ^ (8 * n) → num d at n ≡ v
field d pre post at n v e l b =
    let f : num d at n ≡ v / 2 ^ (8 * (n - n)) =
    be_num d at n v n (omega arith) b
    (λ j h.
    let g : j < length (be n v) = omega (arith, be_length n v) in
    rw (e, ← l) (get_or-append-add pre (be n v ++ post) j 0 ∙ get_or-append (be n v) post 0 j g)) in
    f ∙ rw sub_self (div-one v)

-- the fields of a header fit their bytes
pub record Narrow (h : Header) : Type 0 where
  pub kind : h.kind < 2 ^ 8
  pub flags : h.flags < 2 ^ 8
  pub length : h.length < 2 ^ 16
  pub epoch : h.epoch < 2 ^ 64
  pub number : h.number < 2 ^ 64
  pub position : h.position < 2 ^ 64
  pub credit : h.credit < 2 ^ 32

pub same_fields : (h : Header) {k f l e n p c : ℕ} → k ≡ h.kind → f ≡ h.flags → l ≡ h.length → e ≡ h.epoch → n ≡ h.number → p ≡ h.position → c ≡ h.credit
    → ◌≡◌ {A = Header} (record { kind = k; flags = f; length = l; epoch = e; number = n; position = p; credit = c }) h
same_fields h e₁ e₂ e₃ e₄ e₅ e₆ e₇ = rw (e₁, e₂, e₃, e₄, e₅, e₆, e₇)

pub fields_head : (h : Header) (payload : List ℕ) → Narrow h → fields_of (head_of h ++ payload) ≡ h
unfolding fields_of head_of
fields_head h payload w =
    let d : List ℕ = (start_of h ++ rest_of h) ++ payload in
    let kd = be 1 h.kind in
    let fl = be 1 h.flags in
    let le = be 2 h.length in
    let ep = be 8 h.epoch in
    let nu = be 8 h.number in
    let po = be 8 h.position in
    let cr = be 4 h.credit in
    let f₁ : num d 0 1 ≡ h.kind = field d [] (fl ++ (le ++ (ep ++ (nu ++ (po ++ (cr ++ payload)))))) 0 1 h.kind (simp append_assoc) refl w.kind in
    let f₂ : num d 1 1 ≡ h.flags = field d kd (le ++ (ep ++ (nu ++ (po ++ (cr ++ payload))))) 1 1 h.flags (simp append_assoc) (simp be_length) w.flags in
    let f₃ : num d 2 2 ≡ h.length = field d (kd ++ fl) (ep ++ (nu ++ (po ++ (cr ++ payload)))) 2 2 h.length (simp append_assoc) (simp (length-append, be_length)) w.length in
    let f₄ : num d 4 8 ≡ h.epoch = field d (kd ++ (fl ++ le)) (nu ++ (po ++ (cr ++ payload))) 4 8 h.epoch (simp append_assoc) (simp (length-append, be_length)) w.epoch in
    let f₅ : num d 12 8 ≡ h.number = field d (start_of h) (po ++ (cr ++ payload)) 12 8 h.number (simp append_assoc) (start_length h) w.number in
    let f₆ : num d 20 8 ≡ h.position = field d (start_of h ++ nu) (cr ++ payload) 20 8 h.position (simp append_assoc) (simp (length-append, be_length)) w.position in
    let f₇ : num d 28 4 ≡ h.credit = field d (start_of h ++ (nu ++ po)) payload 28 4 h.credit (simp append_assoc) (simp (length-append, be_length)) w.credit in
    same_fields h f₁ f₂ f₃ f₄ f₅ f₆ f₇

-- the rows of the fields that were read, where there is a whole header
pub form_rows : {d : List ℕ} {h : Header} (r : ℕ) → Fields d h → head_size ≤ length d → r ≡ rows_of h (length d) → r ≡ form_of d
unfolding form_of
form_rows {d} r f l q = miss_lt r 1 (rows_of (fields_of d) (length d)) (length d) head_size l (rw f.are at q)
