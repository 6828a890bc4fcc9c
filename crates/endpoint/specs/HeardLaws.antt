-- Laws of the end that the table holds after a datagram. Assumes nothing.
use Rattle.std.specs.Prelude.{◌≡◌, not, List, eqb, ℤ, length, drop}
use Rattle.std.proofs.Math.Path.{refl, ap}
use Rattle.std.proofs.Common.{sym, ◌∙◌, arith, length-drop, eq-eqb, ne_eqb}
use Prim.Native.Nat.{ℕ, zero, suc, ◌≤◌}
use Rattle.std.proofs.Math.Decide.{ℕ_discrete}
use Rattle.laws.specs.Rows.{when, ◌or_else◌}
use Rattle.wire.specs.declared.Header.{Header}
use Rattle.wire.specs.Datagram.{head_size, Message, DATA, ACK, PROBE}
use Rattle.wire.specs.Reading.{fields_of, form_of, message_of, Decoded, refused, read, decode_as, decode}
use Rattle.wire.specs.FormLaws.{WellFormed, form_formed}
use Rattle.window.specs.Window.{verdict_of}
use Rattle.window.specs.Marks.{window_of}
use Rattle.receiving.specs.ReadLaws.{refusal_read}
use Rattle.receiving.specs.Calls.{refusal}
use Rattle.sending.specs.Acking as acking
use Rattle.sending.specs.Buffers.{sending_of}
use Rattle.sending.specs.BufferLaws.{raised, acked_end}
use Rattle.table.specs.declared.Common.{Common}
use Rattle.table.specs.declared.Sends.{Sends}
use Rattle.end.specs.End.{End, place_of, refusal_of, accepted_of, accept_if, answer_to, after_hearing, hear_answer, hear_of}
use Rattle.table.specs.Layout.{Sections, sections_of, common_words, common_of, sends_words, sends_of, scalars_words, scalars_of, ring_of, end_in, end_of, Going, Sound}
use Rattle.table.specs.LayoutLaws.{with_common, with_sends, with_receives, with_window, common_words_lem, sends_words_lem, scalars_words_lem}
use Rattle.table.specs.ReadyLaws.{ready_is}
use Rattle.table.specs.Rows.{ready_of}
use Rattle.endpoint.specs.Answer.{answer_of}
use Rattle.endpoint.specs.Calls.{Became, Hears}
use Rattle.endpoint.specs.BecameLaws.{became_as}
use Rattle.hearing.specs.Hearing.{place_row, judge_row, hear_row, noting, Noted, HeardData, HeardAck, Heard}
use Rattle.hearing.specs.Judged.{HearReady}
use Rattle.hearing.proofs.HearingLaws.{hear_form, form_zero, place_data, place_ack, place_probe, hearable}

-- THE ANSWER
payload_length : (d : List ℕ) (h : Header) → h ≡ fields_of d → WellFormed d → length (drop head_size d) ≡ h.length
payload_length d h e w = rw (length-drop, e) (omega (arith, w.formed.whole))

next_read : (s : Sections) (o : List ℕ) → (sending_of (sends_of s.sends).line (sends_of s.sends).row (sends_of s.sends).probed (ring_of o) s.ends s.times).next ≡ (sends_of s.sends).row.next
unfolding sending_of
next_read s o = refl

message_data : (h : Header) (payload : List ℕ) → h.kind ≡ 1 → message_of h payload ≡ DATA h.position payload h.flags
unfolding message_of
message_data h payload k = rw (eq-eqb h.kind 1 k)

message_ack : (h : Header) (payload : List ℕ) → h.kind ≡ 2 → message_of h payload ≡ ACK h.position h.credit
unfolding message_of
message_ack h payload k = rw (ne_eqb h.kind 1 (λ q. omega arith), eq-eqb h.kind 2 k)

message_probe : (h : Header) (payload : List ℕ) → (h.kind ≡ 1 → ⊥) → (h.kind ≡ 2 → ⊥) → message_of h payload ≡ PROBE h.position
unfolding message_of
message_probe h payload k j = rw (ne_eqb h.kind 1 k, ne_eqb h.kind 2 j)

module _ (t o i m : List ℕ) (s : Sound t o i m) where
  place_data_is : (p n f : ℕ) (bs : List ℕ) → length bs ≡ n → refusal (scalars_of (sections_of t).receives) p n f ≡ place_of (end_of t o i m) (DATA p bs f)
  unfolding place_of end_of end_in
  place_data_is p n f bs l = rw l (refusal_read s.holds.receives p n f)

  place_ack_is : (p c : ℕ) → acking.ack_refusal (sends_of (sections_of t).sends).row.next p ≡ place_of (end_of t o i m) (ACK p c)
  unfolding place_of end_of end_in
  place_ack_is p c = rw (next_read (sections_of t) o)

  place_probe_is : (p : ℕ) → 0 ≡ place_of (end_of t o i m) (PROBE p)
  unfolding place_of
  place_probe_is p = refl

  place_is : (d : List ℕ) (h : Header) → h ≡ fields_of d → WellFormed d → place_row (sections_of t) h ≡ place_of (end_of t o i m) (message_of h (drop head_size d))
  place_is d h e w = elim (ℕ_discrete h.kind 1) [
    | yes k ↦ rw (message_data h (drop head_size d) k) (sym (place_data (sections_of t) h (scalars_of (sections_of t).receives) _ k refl refl) ∙ place_data_is h.position h.length h.flags (drop head_size d) (payload_length d h e w))
    | no k ↦ elim (ℕ_discrete h.kind 2) [
      | yes j ↦ rw (message_ack h (drop head_size d) j) (sym (place_ack (sections_of t) h (sends_of (sections_of t).sends) _ k j refl refl) ∙ place_ack_is h.position h.credit)
      | no j ↦ rw (message_probe h (drop head_size d) k j) (sym (place_probe (sections_of t) h k j) ∙ place_probe_is h.position)
    ]
  ]

  judge_is : (d : List ℕ) (h : Header) → h ≡ fields_of d → WellFormed d → judge_row (sections_of t) h ≡ refusal_of (end_of t o i m) h.epoch h.number (message_of h (drop head_size d))
  unfolding judge_row refusal_of end_of end_in
  judge_is d h e w = ap (λ (x : ℕ). when (not (eqb h.epoch (common_of (sections_of t).common).epoch)) 3 or_else verdict_of (window_of (common_of (sections_of t).common).high (sections_of t).window) h.number or_else x) (place_is d h e w)

  answer_as : (d : List ℕ) (f : ℕ) → f ≡ form_of d → f or_else judge_row (sections_of t) (fields_of d) ≡ answer_to (end_of t o i m) (decode_as f d)
  unfolding ◌or_else◌ answer_to decode_as
  answer_as d zero e = judge_is d (fields_of d) refl (form_formed d 0 e refl)
  answer_as d (suc f) e = refl

  -- the code's judgement is the definition's
  pub hear_answer_lem : (d : List ℕ) → hear_row (sections_of t) d ≡ hear_answer (end_of t o i m) d
  unfolding hear_row hear_answer decode
  hear_answer_lem d = answer_as d (form_of d) refl

-- THE END AFTER
same_if : (r : ℕ) (e : End) (number : ℕ) (m : Message) → (r ≡ 0 → ⊥) → accept_if r e number m ≡ e
unfolding accept_if
same_if zero e number m n = absurd (n refl)
same_if (suc r) e number m n = refl

same_after : (e : End) (x : Decoded) → (answer_to e x ≡ 0 → ⊥) → after_hearing e x ≡ e
unfolding answer_to after_hearing
same_after e (refused r) n = refl
same_after e (read epoch number m) n = same_if (refusal_of e epoch number m) e number m n

-- a refusal changes nothing
pub hear_same : (e : End) (d : List ℕ) → (hear_answer e d ≡ 0 → ⊥) → hear_of e d ≡ e
unfolding hear_answer hear_of
hear_same e d n = same_after e (decode d) n

accept_zero : (r : ℕ) (e : End) (number : ℕ) (m : Message) → r ≡ 0 → accept_if r e number m ≡ accepted_of e number m
unfolding accept_if
accept_zero zero e number m z = refl
accept_zero (suc r) e number m z = absurd (omega arith)

decode_form : (d : List ℕ) → form_of d ≡ 0 → decode d ≡ read (fields_of d).epoch (fields_of d).number (message_of (fields_of d) (drop head_size d))
unfolding decode decode_as
decode_form d z = rw z

-- an accepted datagram
pub hear_accepted : (e : End) (d : List ℕ) → form_of d ≡ 0 → hear_answer e d ≡ 0 → hear_of e d ≡ accepted_of e (fields_of d).number (message_of (fields_of d) (drop head_size d))
unfolding hear_answer hear_of answer_to after_hearing
hear_accepted e d f z =
    let q : refusal_of e (fields_of d).epoch (fields_of d).number (message_of (fields_of d) (drop head_size d)) ≡ 0 = rw (decode_form d f) at z in
    rw (decode_form d f) (accept_zero _ e (fields_of d).number (message_of (fields_of d) (drop head_size d)) q)

going_noting : (c : Common) (due high : ℕ) → due ≤ 1 → Going c → Going (noting c due high)
going_noting c due high h g = record { opened = g.opened; interval_some = g.interval_some; interval_most_lem = g.interval_most_lem; clock = g.clock; number = g.number; due = h }

module _ {t o i m : List ℕ} (s : Sound t o i m) where
  noted_going : {number due : ℕ} {t₁ : List ℕ} → due ≤ 1 → (n : Noted t number due t₁) → Going (common_of (common_words (noting (common_of (sections_of t).common) due n.high)))
  noted_going {due = due} h n = rw (common_words_lem (noting (common_of (sections_of t).common) due n.high)) (going_noting _ _ _ h s.holds.going)

  -- a DATA
  data_became : {d t' i' m' : List ℕ} {h : Header} → length t' ≡ length t → length i' ≡ length i → length m' ≡ length m → HeardData t i m d h t' i' m'
      → Became t o i m t' o i' m' (λ e. accepted_of e h.number (DATA h.position (drop head_size d) h.flags))
  unfolding end_of end_in accepted_of
  data_became {d} {t'} {i'} {m'} {h} lt li lm k =
      let n = k.noted in
      let c = noting (common_of (sections_of t).common) 1 n.high in
      let es : sections_of t' ≡ with_receives (with_common (with_window (sections_of t) n.words) (common_words c)) (scalars_words k.scalars) = k.sections ∙ rw n.sections in
      record {
        sound = record {
          table_size = omega (arith, s.table_size);
          outgoing_size = s.outgoing_size;
          incoming_size = omega (arith, s.incoming_size);
          marks_size = omega (arith, s.marks_size);
          holds = rw es (record { going = noted_going (omega arith) n; sends = s.holds.sends; receives = rw (scalars_words_lem k.scalars) (k.hears.done s.holds.receives) });
        };
        end = rw (es, common_words_lem c, scalars_words_lem k.scalars, n.accepts.window, k.hears.read s.holds.receives);
      }

  -- an ACK
  ack_became : {t' : List ℕ} {h : Header} → length t' ≡ length t → HeardAck t h t' → Became t o i m t' o i m (λ e. accepted_of e h.number (ACK h.position h.credit))
  unfolding end_of end_in accepted_of
  ack_became {t'} {h} lt k =
      let n = k.noted in
      let v = sends_of (sections_of t).sends in
      let c = noting (common_of (sections_of t).common) (common_of (sections_of t).common).due n.high in
      let w : Sends = record { line = raised v.line k.credit; row = k.row; probed = k.credit.probed } in
      let es : sections_of t' ≡ with_sends (with_common (with_window (sections_of t) n.words) (common_words c)) (sends_words w) = k.sections ∙ rw n.sections in
      let a = acked_end v.line v.row v.probed (ring_of o) (sections_of t).ends (sections_of t).times h.position h.credit k.row k.credit k.acked k.granted s.holds.sends in
      record {
        sound = record {
          table_size = omega (arith, s.table_size);
          outgoing_size = s.outgoing_size;
          incoming_size = s.incoming_size;
          marks_size = s.marks_size;
          holds = rw es (record { going = noted_going s.holds.going.due n; sends = rw (sends_words_lem w) a.sound; receives = s.holds.receives });
        };
        end = rw (es, common_words_lem c, sends_words_lem w, n.accepts.window, a.side);
      }

  -- a PROBE
  probe_became : {t' : List ℕ} (h : Header) → Noted t h.number 1 t' → Became t o i m t' o i m (λ e. accepted_of e h.number (PROBE h.position))
  unfolding end_of end_in accepted_of
  probe_became {t'} h n =
      let c = noting (common_of (sections_of t).common) 1 n.high in
      record {
        sound = record {
          table_size = omega (arith, s.table_size, n.size);
          outgoing_size = s.outgoing_size;
          incoming_size = s.incoming_size;
          marks_size = s.marks_size;
          holds = rw n.sections (record { going = noted_going (omega arith) n; sends = s.holds.sends; receives = s.holds.receives });
        };
        end = rw (n.sections, common_words_lem c, n.accepts.window);
      }

  -- any
  heard_became : (d t' i' m' : List ℕ) → form_of d ≡ 0 → WellFormed d → hear_answer (end_of t o i m) d ≡ 0 → Heard t i m d (fields_of d) t' i' m' → Became t o i m t' o i' m' (λ e. hear_of e d)
  heard_became d t' i' m' f w z k =
      let h = fields_of d in
      let a = hear_accepted (end_of t o i m) d f z in
      elim (ℕ_discrete h.kind 1) [
        | yes q ↦ became_as (data_became k.size k.incoming_size k.marks_size (k.data_heard q)) (ap (accepted_of (end_of t o i m) h.number) (sym (message_data h (drop head_size d) q)) ∙ sym a)
        | no q ↦
            let same = k.same q in
            rw (same.0, same.1)
            (elim (ℕ_discrete h.kind 2) [
              | yes j ↦ became_as (ack_became k.size (k.ack_heard j)) (ap (accepted_of (end_of t o i m) h.number) (sym (message_ack h (drop head_size d) j)) ∙ sym a)
              | no j ↦
                  became_as (probe_became h (k.probe_heard (omega (arith, w.formed.kind_low, w.formed.kind_high))))
                  (ap (accepted_of (end_of t o i m) h.number) (sym (message_probe h (drop head_size d) q j)) ∙ sym a)
            ])
      ]

-- THE CALL
module _ {t i m d : List ℕ} {r : ℤ} {no : ℕ} (e : no ≡ ready_of t (length i) (length m)) where
  pub hear_unready : (no ≡ 0 → ⊥) → r ≡ answer_of no 0 → Hears t i m d r t i m
  hear_unready n a = record {
    answer = λ x. a ∙ ap (λ (y : ℕ). answer_of y 0) e;
    malformed = λ z. absurd (n (e ∙ z));
    refused = λ x. (refl, refl, refl);
    done = λ z. absurd (n (e ∙ z));
    table_kept = refl;
    incoming_kept = refl;
    marks_kept = refl;
  }

  module _ (z : no ≡ 0) (wrong : ℕ) (q : wrong ≡ hear_row (sections_of t) d) where
    pub hear_refused : (wrong ≡ 0 → ⊥) → r ≡ answer_of wrong 0 → Hears t i m d r t i m
    hear_refused n a = record {
      answer = λ x. absurd (x (sym e ∙ z));
      malformed = λ x f. a ∙ ap (λ (y : ℕ). answer_of y 0) (q ∙ sym (hear_form (sections_of t) d (form_of d) refl f));
      refused = λ x. (refl, refl, refl);
      done = λ x o s. record {
        became = record { sound = s; end = sym (hear_same (end_of t o i m) d (λ y. n (q ∙ hear_answer_lem t o i m s d ∙ y))) };
        answer = a ∙ ap (λ (y : ℕ). answer_of y 0) (q ∙ hear_answer_lem t o i m s d);
      };
      table_kept = refl;
      incoming_kept = refl;
      marks_kept = refl;
    }

    pub hear_done : {t' i' m' : List ℕ} → wrong ≡ 0 → Heard t i m d (fields_of d) t' i' m' → r ≡ answer_of 0 0 → Hears t i m d r t' i' m'
    hear_done {t'} {i'} {m'} y k a =
        let h = hearable (sections_of t) d wrong q y in
        let f = form_zero (sections_of t) d wrong q y in
        record {
          answer = λ x. absurd (x (sym e ∙ z));
          malformed = λ x n. absurd (n f);
          refused = λ x. absurd (x a);
          done = λ x o s.
              let g : hear_answer (end_of t o i m) d ≡ 0 = sym (hear_answer_lem t o i m s d) ∙ sym q ∙ y in
              record { became = heard_became s d t' i' m' f h.well g k; answer = a ∙ ap (λ (v : ℕ). answer_of v 0) (sym g) };
          table_kept = k.size;
          incoming_kept = k.incoming_size;
          marks_kept = k.marks_size;
        }

-- what hearing asks, from two answers of 0
pub hear_ready : (t i m d : List ℕ) (no wrong : ℕ) → no ≡ ready_of t (length i) (length m) → no ≡ 0 → wrong ≡ hear_row (sections_of t) d → wrong ≡ 0 → HearReady t (length i) (length m) d
hear_ready t i m d r wrong e z q y =
    let k = ready_is t (length i) (length m) r e z in
    record { table_size = k.table_size; incoming_size = k.first_size; marks_size = k.second_size; ready = k.ready; may = hearable (sections_of t) d wrong q y }
