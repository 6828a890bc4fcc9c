-- Laws of refusals 11 and 12: what an answer of 0 says of the table, and that an end is never taken for none. Assumes nothing.
use Rattle.std.specs.Prelude.{◌≡◌, refl, Bool, true, not, List, ℕ, ◌+◌, ◌≤◌, length}
use Rattle.std.proofs.Common.{sym, ◌∙◌, arith, eqb-true, leb-true, ltb-true, eq-eqb, le-leb, lt-ltb}
use Rattle.std.proofs.Math.Bool.{false}
use Rattle.laws.specs.Rows.{when}
use Rattle.laws.specs.RowsLaws.{hit_row, miss_row, row_left, row_right, passed_lt, and_left, and_right, both, and_fails, and_passes, same_test}
use Rattle.ring.specs.Ring.{capacity}
use Rattle.wire.specs.Datagram.{ceiling}
use Rattle.receiving.specs.declared.Scalars.{Scalars}
use Rattle.receiving.specs.Receiving.{Ranged, plausible_of}
use Rattle.receiving.specs.ReadLaws.{plausible_ranged, ranged_plausible}
use Rattle.segments.specs.declared.Line.{Line}
use Rattle.segments.specs.declared.Row.{Row}
use Rattle.sending.specs.Sending.{segments_most}
use Rattle.sending.specs.Buffers.{Plausible}
use Rattle.sending.specs.BufferLaws.{sound_plausible}
use Rattle.sending.specs.Outcome.{Tells}
use Rattle.table.specs.declared.Common.{Common}
use Rattle.table.specs.declared.Sends.{Sends}
use Rattle.table.specs.Layout.{table_words, Sections, sections_of, common_of, sends_of, scalars_of, Going, SoundIn}
use Rattle.table.specs.Rows.{interval_most, short_row, going_of, orderly_of, opened_of, opened_row, ready_of}

-- THE WORDS OF AN OPENED END
pub going_true : (c : Common) → going_of c ≡ true → Going c
unfolding going_of
going_true c e =
    let r₁ = and_right _ _ e in
    let r₂ = and_right _ _ r₁ in
    let r₃ = and_right _ _ r₂ in
    let r₄ = and_right _ _ r₃ in
    record {
      opened = eqb-true c.opened 1 (and_left _ _ e);
      interval_some = ltb-true 0 c.interval (and_left _ _ r₁);
      interval_most_lem = leb-true c.interval interval_most (and_left _ _ r₂);
      clock = leb-true c.clock ceiling (and_left _ _ r₃);
      number = ltb-true c.number ceiling (and_left _ _ r₄);
      due = leb-true c.due 1 (and_right _ _ r₄);
    }

pub true_going : (c : Common) → Going c → going_of c ≡ true
unfolding going_of
true_going c g =
    both _ _ (eq-eqb c.opened 1 g.opened)
    (both _ _ (lt-ltb 0 c.interval g.interval_some)
    (both _ _ (le-leb c.interval interval_most g.interval_most_lem)
    (both _ _ (le-leb c.clock ceiling g.clock) (both _ _ (lt-ltb c.number ceiling g.number) (le-leb c.due 1 g.due)))))

pub orderly_true : (l : Line) (p : Row) → orderly_of l p ≡ true → Plausible l p
unfolding orderly_of
orderly_true l p e =
    let r₁ = and_right _ _ e in
    let r₂ = and_right _ _ r₁ in
    let r₃ = and_right _ _ r₂ in
    let r₄ = and_right _ _ r₃ in
    let r₅ = and_right _ _ r₄ in
    record {
      given = leb-true l.given ceiling (and_left _ _ e);
      closed = leb-true l.closed 1 (and_left _ _ r₁);
      acked = leb-true p.acked p.next (and_left _ _ r₂);
      next = leb-true p.next (l.given + 1) (and_left _ _ r₃);
      room = leb-true l.given (p.acked + capacity) (and_left _ _ r₄);
      oldest = ltb-true p.oldest segments_most (and_left _ _ r₅);
      kept = leb-true p.kept segments_most (and_right _ _ r₅);
    }

pub true_orderly : (l : Line) (p : Row) → Plausible l p → orderly_of l p ≡ true
unfolding orderly_of
true_orderly l p g =
    both _ _ (le-leb l.given ceiling g.given)
    (both _ _ (le-leb l.closed 1 g.closed)
    (both _ _ (le-leb p.acked p.next g.acked)
    (both _ _ (le-leb p.next (l.given + 1) g.next)
    (both _ _ (le-leb l.given (p.acked + capacity) g.room) (both _ _ (lt-ltb p.oldest segments_most g.oldest) (le-leb p.kept segments_most g.kept))))))

pub tells_orderly : (r : Bool) (l : Line) (p : Row) → Tells r (Plausible l p) → r ≡ orderly_of l p
tells_orderly r l p t = same_test r (orderly_of l p) (λ e. true_orderly l p (t.yes e)) (λ e. t.only (orderly_true l p e))

-- what every call goes by
pub record Ready (s : Sections) : Type 0 where
  pub going : Going (common_of s.common)
  pub sends : Plausible (sends_of s.sends).line (sends_of s.sends).row
  pub receives : Ranged (scalars_of s.receives)

pub opened_ready : (s : Sections) → opened_of s ≡ true → Ready s
unfolding opened_of
opened_ready s e =
    let r = and_right _ _ e in
    record {
      going = going_true _ (and_left _ _ e);
      sends = orderly_true _ _ (and_left _ _ r);
      receives = plausible_ranged (scalars_of s.receives) (plausible_of (scalars_of s.receives)) refl (and_right _ _ r);
    }

pub ready_opened : (s : Sections) → Ready s → opened_of s ≡ true
unfolding opened_of
ready_opened s r = both _ _ (true_going _ r.going) (both _ _ (true_orderly _ _ r.sends) (ranged_plausible (scalars_of s.receives) r.receives))

pub sound_ready : {s : Sections} {o i m : List ℕ} → SoundIn s o i m → Ready s
sound_ready v = record { going = v.going; sends = sound_plausible v.sends; receives = v.receives.ranged }

-- the code's three tests
module _ (s : Sections) (b : Bool) where
  pub opened_not_going : (c : Common) → c ≡ common_of s.common → b ≡ going_of c → b ≡ false → false ≡ opened_of s
  unfolding opened_of
  opened_not_going c e f n = and_fails _ _ (sym (rw e at f) ∙ n)

  module _ (c : Common) (g : Bool) (e : c ≡ common_of s.common) (f : g ≡ going_of c) (y : g ≡ true) (v : Sends) (ev : v ≡ sends_of s.sends) where
    pub opened_not_orderly : Tells b (Plausible v.line v.row) → b ≡ false → false ≡ opened_of s
    unfolding opened_of
    opened_not_orderly t n =
        let o = tells_orderly b v.line v.row t in
        and_passes _ false _ (sym (rw e at f) ∙ y) (and_fails _ _ (sym (rw ev at o) ∙ n))

    pub opened_plausible : (r : Scalars) → r ≡ scalars_of s.receives → Tells b (Plausible v.line v.row) → b ≡ true → (p : Bool) → p ≡ plausible_of r → p ≡ opened_of s
    unfolding opened_of
    opened_plausible r er t n p q =
        let o = tells_orderly b v.line v.row t in
        and_passes _ p _ (sym (rw e at f) ∙ y) (and_passes _ p _ (sym (rw ev at o) ∙ n) (rw er at q))

-- THE ROWS
pub row_opened : (s : Sections) → opened_row s ≡ 0 → opened_of s ≡ true
unfolding opened_row when
row_opened s e = go (opened_of s) e
  where
    go : (b : Bool) → when (not b) 12 ≡ 0 → b ≡ true
    go true e = refl
    go false e = absurd (omega arith)

pub opened_row_lem : (s : Sections) (b : Bool) → b ≡ opened_of s → b ≡ true → 0 ≡ opened_row s
unfolding opened_row when
opened_row_lem s b e t = rw (← e, t)

pub unopened_row : (s : Sections) (b : Bool) → b ≡ opened_of s → b ≡ false → 12 ≡ opened_row s
unfolding opened_row when
unopened_row s b e t = rw (← e, t)

-- what an answer of 0 says
pub record Readied (t : List ℕ) (a b : ℕ) : Type 0 where
  pub table_size : table_words ≤ length t
  pub first_size : capacity ≤ a
  pub second_size : capacity ≤ b
  pub ready : Ready (sections_of t)

pub ready_is : (t : List ℕ) (a b r : ℕ) → r ≡ ready_of t a b → r ≡ 0 → Readied t a b
unfolding ready_of short_row
ready_is t a b r e z =
    let f = sym e ∙ z in
    let s = row_left _ _ f in
    let s₁ = row_right _ _ s in
    let s₂ = row_right _ _ s₁ in
    record {
      table_size = passed_lt (length t) table_words 11 (omega arith) (row_left _ _ s);
      first_size = passed_lt a capacity 11 (omega arith) (row_left _ _ s₁);
      second_size = passed_lt b capacity 11 (omega arith) (row_left _ _ s₂);
      ready = opened_ready (sections_of t) (row_opened (sections_of t) (row_right _ _ f));
    }

pub short_table : (n a b r : ℕ) → r ≡ short_row n a b → r ≡ 0 → table_words ≤ n
unfolding short_row
short_table n a b r e z = passed_lt n table_words 11 (omega arith) (row_left _ _ (sym e ∙ z))

-- the code's three answers
module _ (t : List ℕ) (a b s : ℕ) (e : s ≡ short_row (length t) a b) where
  pub ready_short : (s ≡ 0 → ⊥) → s ≡ ready_of t a b
  unfolding ready_of
  ready_short n = hit_row s _ _ e n

  module _ (z : s ≡ 0) (q : Bool) (f : q ≡ opened_of (sections_of t)) where
    pub ready_fine : q ≡ true → 0 ≡ ready_of t a b
    unfolding ready_of
    ready_fine y = miss_row 0 _ _ s e z (opened_row_lem (sections_of t) q f y)

    pub ready_unopened : q ≡ false → 12 ≡ ready_of t a b
    unfolding ready_of
    ready_unopened y = miss_row 12 _ _ s e z (unopened_row (sections_of t) q f y)

-- what the calls behind the rows ask, from an answer of 0
module _ (t : List ℕ) (a b r : ℕ) (e : r ≡ ready_of t a b) (z : r ≡ 0) where
  pub ready_table : table_words ≤ length t
  ready_table = (ready_is t a b r e z).table_size

  pub ready_first : capacity ≤ a
  ready_first = (ready_is t a b r e z).first_size

  pub ready_second : capacity ≤ b
  ready_second = (ready_is t a b r e z).second_size

  pub ready_sections : Ready (sections_of t)
  ready_sections = (ready_is t a b r e z).ready

pub ready_ranged : {v : Sections} {s : Scalars} → Ready v → s ≡ scalars_of v.receives → Ranged s
ready_ranged r e = rw e r.receives

pub ruleset readied = (ready_table, ready_first, ready_sections)

pub ruleset opened_laws = (opened_plausible, opened_not_orderly, opened_not_going)

pub ruleset ready_laws = (short_table, ready_short, ready_fine, ready_unopened)
