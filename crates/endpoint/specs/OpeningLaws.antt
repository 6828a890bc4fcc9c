-- Laws of open: its refusals, and the call as a whole. Assumes nothing.
use Rattle.std.specs.Prelude.{◌≡◌, refl, List, ℕ, ◌≤◌, ◌<◌, ℤ, length}
use Rattle.std.proofs.Common.{sym, ap, ◌∙◌, arith}
use Rattle.laws.specs.RowsLaws.{row_left, row_right, passed_lt, passed_eq}
use Rattle.ring.specs.Ring.{capacity}
use Rattle.table.specs.Layout.{table_words}
use Rattle.table.specs.Rows.{interval_most, interval_row, short_row}
use Rattle.endpoint.specs.Answer.{answer_of}
use Rattle.endpoint.specs.Calls.{open_row, Opens}
use Rattle.endpoint.specs.OutcomeLaws.{interval_small, short_small, or_small, at_most}
use Rattle.stream.specs.Opening.{Opened}
use Rattle.stream.specs.OpeningLaws.{opened_sound, opened_end}

-- THE ROWS
pub record OpenRows (interval t o i m : ℕ) : Type 0 where
  pub some : 0 < interval
  pub most : interval ≤ interval_most
  pub table_size : table_words ≤ t
  pub outgoing_size : capacity ≤ o
  pub incoming_size : capacity ≤ i
  pub marks_size : capacity ≤ m

pub open_rows : (interval t o i m r : ℕ) → r ≡ open_row interval t o i m → r ≡ 0 → OpenRows interval t o i m
unfolding open_row interval_row short_row
open_rows interval t o i m r e z =
    let f = sym e ∙ z in
    let a = row_left _ _ f in
    let b = row_right _ _ f in
    let s = row_left _ _ b in
    let s₁ = row_right _ _ s in
    let s₂ = row_right _ _ s₁ in
    let x = passed_eq interval 0 10 (omega arith) (row_left _ _ a) in
    record {
      some = omega arith;
      most = passed_lt interval_most interval 10 (omega arith) (row_left _ _ (row_right _ _ a));
      table_size = passed_lt t table_words 11 (omega arith) (row_left _ _ s);
      outgoing_size = passed_lt o capacity 11 (omega arith) (row_left _ _ s₁);
      incoming_size = passed_lt i capacity 11 (omega arith) (row_left _ _ s₂);
      marks_size = passed_lt m capacity 11 (omega arith) (row_left _ _ (row_right _ _ b));
    }

open_most : (interval t o i m : ℕ) → open_row interval t o i m ≤ 13
unfolding open_row
open_most interval t o i m = or_small _ _ 13 (interval_small interval) (or_small _ _ 13 (short_small t o i) (or_small _ _ 13 (at_most _ 11 13 (omega arith)) (omega arith)))

pub open_small : (interval t o i m r : ℕ) → r ≡ open_row interval t o i m → r < 64
open_small interval t o i m r e = omega (arith, open_most interval t o i m)

pub open_table : (interval t o i m r : ℕ) → r ≡ open_row interval t o i m → r ≡ 0 → table_words ≤ t
open_table interval t o i m r e z = (open_rows interval t o i m r e z).table_size

pub open_marks : (interval t o i m r : ℕ) → r ≡ open_row interval t o i m → r ≡ 0 → capacity ≤ m
open_marks interval t o i m r e z = (open_rows interval t o i m r e z).marks_size

-- THE CALL
module _ {t o i m : List ℕ} {epoch interval : ℕ} {r : ℤ} {no : ℕ} (e : no ≡ open_row interval (length t) (length o) (length i) (length m)) where
  pub open_refused : (no ≡ 0 → ⊥) → r ≡ answer_of no 0 → Opens t o i m epoch interval r t m
  open_refused n a = record {
    answer = a ∙ ap (λ (x : ℕ). answer_of x 0) e;
    refused = λ x. (refl, refl);
    sound = λ z. absurd (n (e ∙ z));
    end = λ z. absurd (n (e ∙ z));
    table_kept = refl;
    marks_kept = refl;
  }

  pub open_done : {t' m' : List ℕ} → no ≡ 0 → Opened t m epoch interval t' m' → r ≡ answer_of 0 0 → Opens t o i m epoch interval r t' m'
  open_done z h a =
      let k = open_rows interval (length t) (length o) (length i) (length m) no e z in
      record {
        answer = a ∙ ap (λ (x : ℕ). answer_of x 0) (sym z ∙ e);
        refused = λ n. absurd (n (sym e ∙ z));
        sound = λ x. opened_sound h o i k.table_size k.outgoing_size k.incoming_size k.marks_size k.some k.most;
        end = λ x. opened_end h o i;
        table_kept = h.size;
        marks_kept = h.marks_size;
      }
