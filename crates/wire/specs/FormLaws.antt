-- What refusals 1 and 2 let through. Assumes nothing.
use Rattle.std.specs.Prelude.{◌≡◌, refl, List, ℕ, ◌+◌, ◌≤◌, ◌<◌, ltb, length}
use Rattle.std.proofs.Common.{sym, ◌∙◌, arith}
use Rattle.std.proofs.Math.Decide.{ℕ_discrete}
use Rattle.laws.specs.Rows.{when, ◌or_else◌}
use Rattle.laws.specs.RowsLaws.{then_eq, else_eq, row_left, row_right, passed_lt, passed_eq, passed_ne}
use Rattle.wire.specs.declared.Header.{Header}
use Rattle.wire.specs.Datagram.{head_size, payload_most}
use Rattle.wire.specs.Reading.{fields_of, data_row, plain_row, rows_of, form_of}

-- a DATA
record DataFormed (h : Header) : Type 0 where
  small : h.length ≤ payload_most
  flags : h.flags ≤ 1
  no_credit : h.credit ≡ 0
  some : 0 < h.length + h.flags

data_formed : (h : Header) → data_row h ≡ 0 → DataFormed h
unfolding data_row
data_formed h q =
    let r₁ = row_right _ _ q in
    let r₂ = row_right _ _ r₁ in
    let r₃ = row_right _ _ r₂ in
    let z = passed_eq (h.length + h.flags) 0 2 (omega arith) (row_left _ _ r₃) in
    record {
      small = passed_lt payload_most h.length 2 (omega arith) (row_left _ _ r₁);
      flags = passed_lt 1 h.flags 2 (omega arith) (row_left _ _ q);
      no_credit = omega (arith, passed_lt 0 h.credit 2 (omega arith) (row_left _ _ r₂));
      some = omega arith;
    }

-- an ACK or a PROBE
record PlainFormed (h : Header) : Type 0 where
  no_flags : h.flags ≡ 0
  no_length : h.length ≡ 0
  no_credit : h.kind ≡ 3 → h.credit ≡ 0

plain_formed : (h : Header) → plain_row h ≡ 0 → PlainFormed h
unfolding plain_row
plain_formed h q =
    let r₁ = row_right _ _ q in
    let r₂ = row_right _ _ r₁ in
    record {
      no_flags = omega (arith, passed_lt 0 h.flags 2 (omega arith) (row_left _ _ q));
      no_length = omega (arith, passed_lt 0 h.length 2 (omega arith) (row_left _ _ r₁));
      no_credit = λ k.
          let c = then_eq _ (when (ltb 0 h.credit) 2 or_else 0) 0 h.kind 3 k refl ∙ r₂ in
          omega (arith, passed_lt 0 h.credit 2 (omega arith) (row_left _ _ c));
    }

pub record Formed (h : Header) (n : ℕ) : Type 0 where
  pub whole : n ≡ head_size + h.length
  pub kind_low : 0 < h.kind
  pub kind_high : h.kind ≤ 3
  pub small : h.length ≤ payload_most
  pub flags : h.flags ≤ 1
  pub no_credit : (h.kind ≡ 2 → ⊥) → h.credit ≡ 0
  pub some : h.kind ≡ 1 → 0 < h.length + h.flags
  pub plain : (h.kind ≡ 1 → ⊥) → h.flags + h.length ≡ 0

pub formed_rows : (h : Header) (n : ℕ) → rows_of h n ≡ 0 → Formed h n
unfolding rows_of
formed_rows h n e =
    let r₁ = row_right _ _ e in
    let r₂ = row_right _ _ r₁ in
    let r₃ = row_right _ _ r₂ in
    let w = passed_ne n (head_size + h.length) 1 (omega arith) (row_left _ _ e) in
    let z = passed_eq h.kind 0 2 (omega arith) (row_left _ _ r₁) in
    let t = passed_lt 3 h.kind 2 (omega arith) (row_left _ _ r₂) in
    elim (ℕ_discrete h.kind 1) [
      | yes k ↦
          let d = data_formed h (then_eq (data_row h) (data_row h) (plain_row h) h.kind 1 k refl ∙ r₃) in
          record { whole = w; kind_low = omega arith; kind_high = t; small = d.small; flags = d.flags; no_credit = λ x. d.no_credit; some = λ x. d.some; plain = λ x. absurd (x k) }
      | no k ↦
          let d = plain_formed h (else_eq (plain_row h) (data_row h) (plain_row h) h.kind 1 k refl ∙ r₃) in
          record {
            whole = w;
            kind_low = omega arith;
            kind_high = t;
            small = omega (arith, d.no_length);
            flags = omega (arith, d.no_flags);
            no_credit = λ x. d.no_credit (omega arith);
            some = λ x. absurd (k x);
            plain = λ x. omega (arith, d.no_flags, d.no_length);
          }
    ]

-- where a form is right
pub record WellFormed (d : List ℕ) : Type 0 where
  pub whole_header : head_size ≤ length d
  pub formed : Formed (fields_of d) (length d)

pub form_formed : (d : List ℕ) (r : ℕ) → r ≡ form_of d → r ≡ 0 → WellFormed d
unfolding form_of
form_formed d r e z = record {
  whole_header = passed_lt (length d) head_size 1 (omega arith) (row_left _ _ (sym e ∙ z));
  formed = formed_rows (fields_of d) (length d) (row_right _ _ (sym e ∙ z));
}
