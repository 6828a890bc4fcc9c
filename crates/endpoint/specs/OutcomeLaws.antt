-- Laws of a call as a whole: refused, or done. Assumes nothing.
use Rattle.std.specs.Prelude.{◌≡◌, refl, Bool, true, false, List, ℕ, zero, suc, ◌-◌, ◌≤◌, ◌<◌, ℤ, length}
use Rattle.std.proofs.Common.{sym, ap, ◌∙◌, arith}
use Rattle.laws.specs.Rows.{when, ◌or_else◌}
use Rattle.ring.specs.Ring.{capacity}
use Rattle.receiving.specs.declared.Scalars.{Scalars}
use Rattle.receiving.specs.Receiving.{end_of}
use Rattle.receiving.specs.ReadLaws.{end_at_small}
use Rattle.receiving.specs.Calls.{ended_by}
use Rattle.table.specs.Layout.{sections_of, scalars_of}
use Rattle.table.specs.Rows.{interval_row, short_row, opened_row, ready_of}
use Rattle.endpoint.specs.Answer.{answer_of}
use Rattle.endpoint.specs.Calls.{Gives, Finishes, Takes}
use Rattle.stream.specs.Streams.{Finished, Gave, Took}
use Rattle.endpoint.specs.BecameLaws.{finish_became, give_became, take_became}

-- REFUSAL NUMBERS ARE SMALL
pub when_small : (b : Bool) (n : ℕ) → when b n ≤ n
unfolding when
when_small true n = omega arith
when_small false n = omega arith

pub or_small : (a b k : ℕ) → a ≤ k → b ≤ k → (a or_else b) ≤ k
unfolding ◌or_else◌
or_small zero b k f g = g
or_small (suc a) b k f g = f

pub at_most : (b : Bool) (n k : ℕ) → n ≤ k → when b n ≤ k
at_most b n k h = omega (arith, when_small b n)

pub interval_small : (interval : ℕ) → interval_row interval ≤ 13
unfolding interval_row
interval_small interval = or_small _ _ 13 (at_most _ 10 13 (omega arith)) (or_small _ _ 13 (at_most _ 10 13 (omega arith)) (omega arith))

pub short_small : (t a b : ℕ) → short_row t a b ≤ 13
unfolding short_row
short_small t a b = or_small _ _ 13 (at_most _ 11 13 (omega arith)) (or_small _ _ 13 (at_most _ 11 13 (omega arith)) (or_small _ _ 13 (at_most _ 11 13 (omega arith)) (omega arith)))

pub ready_most : (t : List ℕ) (a b : ℕ) → ready_of t a b ≤ 13
unfolding ready_of opened_row
ready_most t a b = or_small _ _ 13 (short_small (length t) a b) (at_most _ 12 13 (omega arith))

pub ready_small : (t : List ℕ) (a b r : ℕ) → r ≡ ready_of t a b → r < 64
ready_small t a b r e = omega (arith, ready_most t a b)

-- FINISH
pub finish_refused : {t : List ℕ} {r : ℤ} {no : ℕ} → no ≡ ready_of t capacity capacity → (no ≡ 0 → ⊥) → r ≡ answer_of no 0 → Finishes t r t
finish_refused e n a = record { answer = a ∙ ap (λ (x : ℕ). answer_of x 0) e; refused = λ x. refl; done = λ z. absurd (n (e ∙ z)); table_kept = refl }

pub finish_done : {t : List ℕ} {r : ℤ} {no : ℕ} {t' : List ℕ} → no ≡ ready_of t capacity capacity → no ≡ 0 → Finished t t' → r ≡ answer_of 0 0 → Finishes t r t'
finish_done e z h a = record { answer = a ∙ ap (λ (x : ℕ). answer_of x 0) (sym z ∙ e); refused = λ n. absurd (n (sym e ∙ z)); done = λ x. finish_became h; table_kept = h.size }

-- GIVE
pub give_refused : {t o bs : List ℕ} {r : ℤ} {no : ℕ} → no ≡ ready_of t (length o) capacity → (no ≡ 0 → ⊥) → r ≡ answer_of no 0 → Gives t o bs r t o
give_refused e n a = record {
  answer = λ x. a ∙ ap (λ (y : ℕ). answer_of y 0) e;
  refused = λ x. (refl, refl);
  within = λ z. absurd (n (e ∙ z));
  done = λ z. absurd (n (e ∙ z));
  table_kept = refl;
  outgoing_kept = refl;
}

pub give_done : {t o bs : List ℕ} {r : ℤ} {no n : ℕ} {t' o' : List ℕ} → no ≡ ready_of t (length o) capacity → no ≡ 0 → Gave t o bs n t' o' → r ≡ answer_of 0 n → Gives t o bs r t' o'
give_done {n = n} e z h a = record {
  answer = λ x. absurd (x (sym e ∙ z));
  refused = λ x. absurd (x (sym e ∙ z));
  within = λ x. record { count = n; is = a; most = h.most };
  done = λ x i m s. rw a (give_became h i m s);
  table_kept = h.size;
  outgoing_kept = h.outgoing_size;
}

-- TAKE
pub take_refused : {t i d : List ℕ} {e : ℕ} {r : ℤ} {no : ℕ} → no ≡ ready_of t (length i) capacity → (no ≡ 0 → ⊥) → r ≡ answer_of no 0 → Takes t i d e r t d e
take_refused q n a = record {
  answer = λ x. a ∙ ap (λ (y : ℕ). answer_of y 0) q;
  refused = λ x. (refl, refl, refl);
  within = λ z. absurd (n (q ∙ z));
  done = λ z. absurd (n (q ∙ z));
  table_kept = refl;
  output_kept = refl;
}

-- what the code computes of take
pub ended_small : (v : Scalars) (r : ℕ) → r ≡ ended_by v → r ≤ 1
unfolding ended_by
ended_small v r e = omega (arith, end_at_small (end_of v.known v.end) v.taken)

module _ {t i d : List ℕ} {s v : Scalars} {t' d' : List ℕ} (es : s ≡ scalars_of (sections_of t).receives) (h : Took t i d v t' d') where
  pub taken_up : s.taken ≤ v.taken
  taken_up = rw es h.takes.rises

  pub taken_few : v.taken - s.taken < 4294967296
  taken_few = rw es (omega (arith, h.takes.few))

pub take_done : {t i d : List ℕ} {e : ℕ} {r : ℤ} {no : ℕ} {s v : Scalars} {t' d' : List ℕ} {e' : ℕ} → no ≡ ready_of t (length i) capacity → no ≡ 0
    → s ≡ scalars_of (sections_of t).receives → Took t i d v t' d' → e' ≡ ended_by v → r ≡ answer_of 0 (v.taken - s.taken) → Takes t i d e r t' d' e'
take_done {s = s} {v = v} q z es h ee a = record {
  answer = λ x. absurd (x (sym q ∙ z));
  refused = λ x. absurd (x (sym q ∙ z));
  within = λ x. record { count = v.taken - s.taken; is = a; most = rw es h.takes.count };
  done = λ x o m k. rw (a, es, ee) (take_became h o m k);
  table_kept = h.size;
  output_kept = h.output_size;
}
