-- Laws of a datagram's judgement and of what is noted of it, over the sections of the table. Assumes nothing.
use Rattle.std.proofs.Common.{◌≡◌, refl, List, ℕ, ◌+◌, ◌-◌, ◌*◌, ◌≤◌, ◌<◌, length, take, drop, sym, ap, ◌∙◌, arith, length-drop, take_all}
use borrow.Rule.Slice.PartMut.{put_mid}
use Rattle.laws.specs.RowsLaws.{hit_ne, miss_ne, hit_row, miss_row, then_eq, else_eq, row_left, row_right, passed_ne, passed_lt}
use Rattle.laws.specs.Part.{part}
use Rattle.laws.specs.PartLaws.{length_put}
use Rattle.ring.specs.Ring.{capacity}
use Rattle.wire.specs.declared.Header.{Header}
use Rattle.wire.specs.Datagram.{head_size, payload_most, ceiling}
use Rattle.wire.specs.Reading.{fields_of, form_of, Fields}
use Rattle.wire.specs.FormLaws.{form_formed}
use Rattle.window.specs.Window.{width, verdict_of}
use Rattle.window.specs.Marks.{window_of, Accepts}
use Rattle.window.proofs.MarksLaws.{new_near, new_some}
use Rattle.receiving.specs.declared.Scalars.{Scalars}
use Rattle.receiving.specs.RefusalLaws.{judge_room}
use Rattle.receiving.specs.Calls as receiving
use Rattle.segments.specs.declared.Row.{Row}
use Rattle.sending.specs.declared.Credit.{Credit}
use Rattle.sending.specs.Sending.{segments_most}
use Rattle.sending.specs.Acking.{ack_refusal}
use Rattle.sending.specs.Outcome as sending
use Rattle.sending.specs.BufferLaws.{raised}
use Rattle.table.specs.declared.Common.{Common}
use Rattle.table.specs.declared.Sends.{Sends}
use Rattle.table.specs.Layout.{common_size, sends_at, sends_size, receives_at, receives_size, window_at, window_size, table_words, Sections, sections_of, common_words, common_of, sends_words, sends_of, scalars_words, scalars_of}
use Rattle.table.specs.LayoutLaws.{common_size_lem, sends_size_lem, scalars_size, put_common, put_sends, put_receives, put_window, window_size_lem, ring_put_lem, ring_size}
use Rattle.table.specs.ReadyLaws.{ready_ranged}
use Rattle.table.specs.ReadyLaws.{Ready}
use Rattle.hearing.specs.Judged.{Judged, Hearable, Hearing, HearReady}
use Rattle.hearing.specs.Hearing.{place_row, judge_row, hear_row, noting, Noted, DataDone, AckDone, Heard}

-- THE ROWS, as the code goes through them
module _ (s : Sections) (h : Header) where
  pub place_data : (v : Scalars) (r : ℕ) → h.kind ≡ 1 → v ≡ scalars_of s.receives → r ≡ receiving.refusal v h.position h.length h.flags → r ≡ place_row s h
  unfolding place_row
  place_data v r k e q = then_eq r _ _ h.kind 1 k (rw e at q)

  pub place_ack : (v : Sends) (r : ℕ) → (h.kind ≡ 1 → ⊥) → h.kind ≡ 2 → v ≡ sends_of s.sends → r ≡ ack_refusal v.row.next h.position → r ≡ place_row s h
  unfolding place_row
  place_ack v r n k e q = else_eq r _ _ h.kind 1 n (then_eq r _ _ h.kind 2 k (rw e at q))

  pub place_probe : (h.kind ≡ 1 → ⊥) → (h.kind ≡ 2 → ⊥) → 0 ≡ place_row s h
  unfolding place_row
  place_probe n k = else_eq 0 _ _ h.kind 1 n (else_eq 0 _ _ h.kind 2 k refl)

  module _ (c : Common) (e : c ≡ common_of s.common) where
    pub judge_epoch : (h.epoch ≡ c.epoch → ⊥) → 3 ≡ judge_row s h
    unfolding judge_row
    judge_epoch n = hit_ne 0 3 _ h.epoch (common_of s.common).epoch (λ q. n (q ∙ sym (ap (λ (x : Common). x.epoch) e))) (omega arith)

    module _ (same : h.epoch ≡ c.epoch) (v : ℕ) (q : v ≡ verdict_of (window_of c.high s.window) h.number) where
      here : h.epoch ≡ (common_of s.common).epoch
      here = same ∙ ap (λ (x : Common). x.epoch) e

      pub judge_number : (v ≡ 0 → ⊥) → v ≡ judge_row s h
      unfolding judge_row
      judge_number n = miss_ne v 3 _ h.epoch (common_of s.common).epoch here (hit_row v _ _ (rw e at q) n)

      pub judge_place : (r : ℕ) → v ≡ 0 → r ≡ place_row s h → r ≡ judge_row s h
      unfolding judge_row
      judge_place r z p = miss_ne r 3 _ h.epoch (common_of s.common).epoch here (miss_row r _ _ v (rw e at q) z p)

module _ (s : Sections) (d : List ℕ) (f : ℕ) (e : f ≡ form_of d) where
  pub hear_form : (f ≡ 0 → ⊥) → f ≡ hear_row s d
  unfolding hear_row
  hear_form n = hit_row f _ _ e n

  pub hear_judge : {h : Header} (r : ℕ) → f ≡ 0 → Fields d h → r ≡ judge_row s h → r ≡ hear_row s d
  unfolding hear_row
  hear_judge r z k q = miss_row r _ _ f e z (rw k.are at q)

pub ruleset rows = (place_data, place_ack, place_probe, judge_epoch, judge_number, judge_place, hear_form, hear_judge)

-- WHAT AN ANSWER OF 0 SAYS
pub judged : (s : Sections) (h : Header) → judge_row s h ≡ 0 → Judged s h
unfolding judge_row
judged s h z =
    let b = row_right _ _ z in
    record { epoch = passed_ne _ _ 3 (omega arith) (row_left _ _ z); verdict = row_left _ _ b; placed = row_right _ _ b }

pub judged_near : {s : Sections} {h : Header} → Judged s h → (common_of s.common).high < h.number + width
judged_near {s} {h} j = new_near (common_of s.common).high s.window h.number 0 (sym j.verdict) refl

pub judged_some : {s : Sections} {h : Header} → Judged s h → 0 < h.number
judged_some {s} {h} j = new_some (common_of s.common).high s.window h.number 0 (sym j.verdict) refl

pub judged_room : {s : Sections} {h : Header} {v : Scalars} → Judged s h → h.kind ≡ 1 → v ≡ scalars_of s.receives → h.length ≤ payload_most → receiving.Room v h.position h.length
unfolding place_row
judged_room {s} {h} {v} j k e l =
    let z = then_eq (receiving.refusal (scalars_of s.receives) h.position h.length h.flags) _ _ h.kind 1 k refl ∙ j.placed in
    rw e (judge_room (scalars_of s.receives) h.position h.length h.flags 0 (sym z) refl l)

pub hearable : (s : Sections) (d : List ℕ) (r : ℕ) → r ≡ hear_row s d → r ≡ 0 → Hearable s d
unfolding hear_row
hearable s d r e z = record { well = form_formed d 0 (sym (row_left _ _ (sym e ∙ z))) refl; judged_zero = row_right _ _ (sym e ∙ z) }

pub form_zero : (s : Sections) (d : List ℕ) (r : ℕ) → r ≡ hear_row s d → r ≡ 0 → form_of d ≡ 0
unfolding hear_row
form_zero s d r e z = row_left _ _ (sym e ∙ z)

pub form_header : (d : List ℕ) (r : ℕ) → r ≡ form_of d → r ≡ 0 → head_size ≤ length d
form_header d r e z = (form_formed d r e z).whole_header

-- A NUMBER IS NOTED
pub near_loaded : (s : Sections) (c : Common) (n : ℕ) → c ≡ common_of s.common → (common_of s.common).high < n → c.high < n
near_loaded s c n e h = rw e h

pub noted : (t x y : List ℕ) (number due high : ℕ) (c : Common) → table_words ≤ length t → c ≡ common_of (sections_of t).common
    → Accepts c.high (sections_of t).window number high x → y ≡ common_words (noting c due high)
    → Noted t number due (put_mid 0 common_size (put_mid window_at window_size t x) y)
noted t x y number due high c lt e a ey =
    let l : length x ≡ window_size = a.long ∙ window_size_lem t lt in
    let n : length y ≡ common_size = ap length ey ∙ common_size_lem (noting c due high) in
    let t₁ = put_mid window_at window_size t x in
    let l₁ : length t₁ ≡ length t = length_put t x window_at window_size (omega arith) l in
    record {
      size = length_put t₁ y 0 common_size (omega arith) n ∙ l₁;
      high = high;
      words = x;
      accepts = rw (← e) a;
      sections = put_common t₁ y (omega arith) n ∙ rw (put_window t x lt l, ey, e);
    }

-- A DATA
-- its payload, as the code lends it
pub payload_all : (d : List ℕ) → take (length d - head_size) (drop head_size d) ≡ drop head_size d
payload_all d = take_all (length d - head_size) (drop head_size d) (rw length-drop (omega arith))

module _ {t : List ℕ} {i m : ℕ} {d : List ℕ} {h : Header} (k : Hearing t i m d h) where
  payload_length : length (drop head_size d) ≡ h.length
  payload_length = rw (length-drop, k.fields.are) (omega (arith, k.well.formed.whole))

  pub data_room : {v : Scalars} → h.kind ≡ 1 → v ≡ scalars_of (sections_of t).receives → receiving.Room v h.position (length (take (length d - head_size) (drop head_size d)))
  data_room j e = rw (payload_all d, payload_length) (judged_room k.is_judged j e (rw k.fields.are k.well.formed.small))

  pub data_near : (common_of (sections_of t).common).high < h.number + width
  data_near = judged_near k.is_judged

  pub data_some : 0 < h.number
  data_some = judged_some k.is_judged

-- the rings, as the code lends them
module _ {n : ℕ} (size : n ≡ capacity) where
  pub data_lent : {t : List ℕ} (i m : List ℕ) {d : List ℕ} {h : Header} {v : Scalars} → Hearing t (length i) (length m) d h → v ≡ scalars_of (sections_of t).receives
      → receiving.Lent v (part 0 n i) (part 0 n m)
  data_lent i m k e = rw size (record { ring_size = ring_size i k.incoming_size; marks_size = ring_size m k.marks_size; ranged = ready_ranged k.ready e })

  pub data_done : {t t₁ y i m d x z : List ℕ} {h : Header} {u v : Scalars} → Hearing t (length i) (length m) d h → u ≡ scalars_of (sections_of t).receives
      → receiving.Hears (part 0 n i) (part 0 n m) u h.position (take (length d - head_size) (drop head_size d)) h.flags x z v → Noted t h.number 1 t₁ → y ≡ scalars_words v
      → DataDone t i m d h (put_mid receives_at receives_size t₁ y) (put_mid 0 n i x) (put_mid 0 n m z)
  data_done {t} {t₁} {y} {i} {m} {d} {x} {z} {h} {u} {v} k e f c ey =
      let a = rw size at f in
      let ly : length y ≡ receives_size = ap length ey ∙ scalars_size v in
      let lt : table_words ≤ length t₁ = omega (arith, c.size, k.table_size) in
      let lx : length x ≡ capacity = a.ring_same ∙ ring_size i k.incoming_size in
      let lz : length z ≡ capacity = a.marks_same ∙ ring_size m k.marks_size in
      rw size (record {
        size = length_put t₁ y receives_at receives_size (omega arith) ly ∙ c.size;
        incoming_size = length_put i x 0 capacity (omega (arith, k.incoming_size)) lx;
        marks_size = length_put m z 0 capacity (omega (arith, k.marks_size)) lz;
        heard = record {
          middle = t₁;
          noted = c;
          scalars = v;
          sections = put_receives t₁ y lt ly ∙ rw ey;
          hears = rw (ring_put_lem i x k.incoming_size lx, ring_put_lem m z k.marks_size lz, ← e, ← payload_all d) a;
        };
      })

-- AN ACK
pub ack_within : {s : Sections} {h : Header} → Ready s → Judged s h → h.kind ≡ 2 → h.position ≤ ceiling + 1
unfolding place_row
ack_within {s} {h} r j k =
    let z = else_eq (ack_refusal (sends_of s.sends).row.next h.position) (receiving.refusal (scalars_of s.receives) h.position h.length h.flags) _ h.kind 1 (λ q. omega arith)
    (then_eq (ack_refusal (sends_of s.sends).row.next h.position) _ 0 h.kind 2 k refl) ∙ j.placed in
    let p = passed_lt (sends_of s.sends).row.next h.position 7 (omega arith) z in
    omega (arith, r.sends.next, r.sends.given)

pub ack_row : {s : Sections} {v : Sends} → Ready s → v ≡ sends_of s.sends → v.row.oldest + v.row.kept ≤ 2 * segments_most
ack_row {s} {v} r e = rw e (omega (arith, r.sends.oldest, r.sends.kept))

pub ack_done : {t t₁ y : List ℕ} {h : Header} {c : Common} {u : Sends} {r : Row} {g : Credit} → table_words ≤ length t → c ≡ common_of (sections_of t).common → u ≡ sends_of (sections_of t).sends
    → sending.Acked (sections_of t).ends u.row h.position r → sending.Granted u.line.limit u.probed (h.position + h.credit) g
    → Noted t h.number c.due t₁ → y ≡ sends_words (record { line = raised u.line g; row = r; probed = g.probed })
    → AckDone t h (put_mid sends_at sends_size t₁ y)
ack_done {t} {t₁} {y} {h} {c} {u} {r} {g} lt ec e a gr n ey =
    let v : Sends = record { line = raised u.line g; row = r; probed = g.probed } in
    let ly : length y ≡ sends_size = ap length ey ∙ sends_size_lem v in
    let l₁ : table_words ≤ length t₁ = omega (arith, n.size) in
    record {
      size = length_put t₁ y sends_at sends_size (omega arith) ly ∙ n.size;
      heard = record {
        middle = t₁;
        noted = rw (← ec) n;
        row = r;
        credit = g;
        sections = put_sends t₁ y l₁ ly ∙ rw (ey, e);
        acked = rw (← e) a;
        granted = rw (← e) gr;
      };
    }

-- ANY DATAGRAM
module _ {t : List ℕ} {i m : ℕ} {d : List ℕ} {h : Header} (k : HearReady t i m d) (f : Fields d h) where
  pub may_judged : Judged (sections_of t) h
  may_judged = rw f.are (judged (sections_of t) (fields_of d) k.may.judged_zero)

  pub may_hearing : Hearing t i m d h
  may_hearing = record { table_size = k.table_size; incoming_size = k.incoming_size; marks_size = k.marks_size; ready = k.ready; fields = f; well = k.may.well; is_judged = may_judged }

module _ {t i m d : List ℕ} {h : Header} (f : Fields d h) where
  pub heard_data : {t' i' m' : List ℕ} → h.kind ≡ 1 → DataDone t i m d h t' i' m' → Heard t i m d (fields_of d) t' i' m'
  heard_data k x = rw (← f.are) (record {
    size = x.size;
    incoming_size = x.incoming_size;
    marks_size = x.marks_size;
    data_heard = λ q. x.heard;
    ack_heard = λ q. absurd (omega arith);
    probe_heard = λ q. absurd (omega arith);
    same = λ n. absurd (n k);
  })

  pub heard_ack : {t' : List ℕ} → h.kind ≡ 2 → AckDone t h t' → Heard t i m d (fields_of d) t' i m
  heard_ack k x = rw (← f.are) (record {
    size = x.size;
    incoming_size = refl;
    marks_size = refl;
    data_heard = λ q. absurd (omega arith);
    ack_heard = λ q. x.heard;
    probe_heard = λ q. absurd (omega arith);
    same = λ n. (refl, refl);
  })

  pub heard_probe : {t' : List ℕ} → (h.kind ≡ 1 → ⊥) → (h.kind ≡ 2 → ⊥) → Noted t h.number 1 t' → Heard t i m d (fields_of d) t' i m
  heard_probe j k x = rw (← f.are) (record {
    size = x.size;
    incoming_size = refl;
    marks_size = refl;
    data_heard = λ q. absurd (j q);
    ack_heard = λ q. absurd (k q);
    probe_heard = λ q. x;
    same = λ n. (refl, refl);
  })

pub ruleset heard = (heard_ack, heard_probe)
