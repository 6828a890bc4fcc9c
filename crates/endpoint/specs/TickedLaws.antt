-- Laws of the end that the table holds after a tick, and of the call. Assumes nothing.
use Rattle.std.specs.Prelude.{◌≡◌, Bool, true, false, ◌&&◌, List, [], ◌∷◌, ◌++◌, ℕ, ◌+◌, ◌-◌, ◌≤◌, ◌<◌, eqb, ℤ, length, take, drop}
use Rattle.std.proofs.Math.Path.{refl}
use Rattle.std.proofs.Common.{sym, ap, ◌∙◌, arith}
use Rattle.std.proofs.Math.Dec.{ltb}
use Rattle.std.proofs.Math.ListN.{length-append}
use Rattle.laws.specs.Choice.{if}
use Rattle.laws.specs.RowsLaws.{passed_lt, hit_row, miss_row}
use Rattle.laws.specs.Over.{over}
use Rattle.ring.specs.Ring.{capacity}
use Rattle.wire.specs.Datagram.{Message, ACK, wire}
use Rattle.receiving.specs.Receiving.{ack_position, ack_credit}
use Rattle.receiving.specs.ReadLaws.{position_read, credit_read}
use Rattle.receiving.specs.Calls.{position_by, credit_by}
use Rattle.sending.specs.Sending.{Sending}
use Rattle.sending.specs.Steps.{Sends, send_of}
use Rattle.sending.specs.Buffers.{sending_of}
use Rattle.sending.specs.BufferLaws.{moved, SentEnd, sent_end}
use Rattle.segments.specs.WireLaws.{wire_append, over_rest}
use Rattle.table.specs.declared.Common.{Common}
use Rattle.end.specs.End.{End, clock_of, allowance_of, ack_of, step_of, sent_of, tick_of, output_of}
use Rattle.table.specs.Layout.{Sections, sections_of, common_words, common_of, sends_words, sends_of, scalars_of, ring_of, end_in, end_of, Going, Sound}
use Rattle.table.specs.LayoutLaws.{with_common, with_sends, with_ends, with_times, common_words_lem, sends_words_lem}
use Rattle.table.specs.Rows.{output_least, ready_of, output_row}
use Rattle.table.specs.ReadyLaws.{ready_is}
use Rattle.endpoint.specs.Answer.{answer_of}
use Rattle.endpoint.specs.Calls.{tick_row, TickedEnd, Ticks}
use Rattle.endpoint.specs.OutcomeLaws.{at_most}
use Rattle.ticking.specs.Ticking.{clock_by, allowance_by, acks_by, may_of, acks_of, work_of, stamp_of, ack_messages, TickReady, ticking, Ticked}
use Rattle.ticking.specs.TickingLaws.{allowance_numbers, acks_few}

-- WHAT A TICK GOES BY is the definition's
one_or_none : (s : Sections) (p c : ℕ) (b : Bool) → position_by (scalars_of s.receives) ≡ p → credit_by (scalars_of s.receives) ≡ c → ack_messages s (if b 1 0) ≡ if b (ACK p c ∷ []) []
unfolding ack_messages
one_or_none s p c true e f = rw (e, f)
one_or_none s p c false e f = refl

one_length : (b : Bool) (m : Message) → length (if {A = List Message} b (m ∷ []) []) ≡ if b 1 0
one_length true m = refl
one_length false m = refl

end_position : (t o i m : List ℕ) → Sound t o i m → position_by (scalars_of (sections_of t).receives) ≡ ack_position (end_of t o i m).receiving
unfolding end_of end_in
end_position t o i m s = position_read s.holds.receives

end_credit : (t o i m : List ℕ) → Sound t o i m → credit_by (scalars_of (sections_of t).receives) ≡ ack_credit (end_of t o i m).receiving
unfolding end_of end_in
end_credit t o i m s = credit_read s.holds.receives

-- the sending side that the sections hold
abbrev side_of : Sections → List ℕ → Sending
side_of s o = sending_of (sends_of s.sends).line (sends_of s.sends).row (sends_of s.sends).probed (ring_of o) s.ends s.times

module _ (t o i m : List ℕ) where
  side_is : side_of (sections_of t) o ≡ (end_of t o i m).sending
  unfolding end_of end_in
  side_is = refl

  may_is : may_of (sections_of t) ≡ allowance_of (end_of t o i m)
  unfolding allowance_by allowance_of clock_of end_of end_in sending_of
  may_is = refl

  due_is : (common_of (sections_of t).common).due ≡ (end_of t o i m).due
  unfolding end_of end_in
  due_is = refl

  acks_length : acks_of (sections_of t) ≡ length (ack_of (end_of t o i m))
  unfolding acks_by ack_of
  acks_length = rw (may_is, due_is) (sym (one_length (eqb (end_of t o i m).due 1 && ltb 0 (allowance_of (end_of t o i m))) _))

  work_is : work_of (sections_of t) ≡ record { now = clock_of (end_of t o i m); every = (end_of t o i m).interval; allowed = allowance_of (end_of t o i m) - length (ack_of (end_of t o i m)) }
  unfolding end_of end_in clock_of
  work_is = rw (acks_length, may_is)

  acks_is : Sound t o i m → ack_messages (sections_of t) (acks_of (sections_of t)) ≡ ack_of (end_of t o i m)
  unfolding acks_by ack_of
  acks_is s = rw (may_is, due_is) (one_or_none (sections_of t) _ _ (eqb (end_of t o i m).due 1 && ltb 0 (allowance_of (end_of t o i m))) (end_position t o i m s) (end_credit t o i m s))

  step_is : send_of (work_of (sections_of t)) (side_of (sections_of t) o) ≡ step_of (end_of t o i m)
  unfolding step_of
  step_is = rw (work_is, side_is)

-- THE END AFTER
module _ {t o out : List ℕ} {r : ℕ} {t' out' : List ℕ} (k : Ticked t o out r t' out') (i m : List ℕ) (s : Sound t o i m) where
  abbrev c : Common
  c = common_of (sections_of t).common

  abbrev work : SentEnd (work_of (sections_of t)) (stamp_of (sections_of t)) (sends_of (sections_of t).sends).line (sends_of (sections_of t).sends).row (sends_of (sections_of t).sends).probed (ring_of o) (sections_of t).ends (sections_of t).times
      (take (length k.first - k.from) (drop k.from k.first)) k.sent k.segments.ends k.segments.times k.rest
  work = sent_end (work_of (sections_of t)) (stamp_of (sections_of t)) _ _ _ (ring_of o) (sections_of t).ends (sections_of t).times _ k.sent k.segments.ends k.segments.times k.rest k.segments.sends s.holds.sends

  after : sections_of t' ≡ with_common (with_sends (with_times (with_ends (sections_of t) k.segments.ends) k.segments.times)
      (sends_words (record { line = (sends_of (sections_of t).sends).line; row = moved (sends_of (sections_of t).sends).row k.sent; probed = k.sent.probed })))
      (common_words (ticking c (acks_of (sections_of t)) k.sent.count))
  after = k.sections ∙ rw k.segments.sections

  going_after : Going (ticking c (acks_of (sections_of t)) k.sent.count)
  going_after =
      let g = s.holds.going in
      let f = acks_few c.due (may_of (sections_of t)) in
      let n = allowance_numbers (clock_by c.clock) (sends_of (sections_of t).sends).row.next c.number g.number in
      record {
        opened = g.opened;
        interval_some = g.interval_some;
        interval_most_lem = g.interval_most_lem;
        clock = omega arith;
        number = omega (arith, k.segments.sends.few, f.allowed_most);
        due = omega (arith, g.due);
      }

  sound_after : Sound t' o i m
  sound_after = record {
    table_size = omega (arith, k.size, s.table_size);
    outgoing_size = s.outgoing_size;
    incoming_size = s.incoming_size;
    marks_size = s.marks_size;
    holds = rw after (record {
      going = rw (common_words_lem (ticking c (acks_of (sections_of t)) k.sent.count)) going_after;
      sends = rw (sends_words_lem (record { line = (sends_of (sections_of t).sends).line; row = moved (sends_of (sections_of t).sends).row k.sent; probed = k.sent.probed })) work.sound;
      receives = s.holds.receives;
    });
  }

  -- what left
  count_is : k.sent.count ≡ length (step_of (end_of t o i m)).sent
  count_is = work.count ∙ ap (λ (x : Sends). length x.sent) (step_is t o i m)

  side_after : sending_of (sends_of (sections_of t).sends).line (moved (sends_of (sections_of t).sends).row k.sent) k.sent.probed (ring_of o) k.segments.ends k.segments.times ≡ (step_of (end_of t o i m)).side
  side_after = work.side ∙ ap (λ (x : Sends). x.side) (step_is t o i m)

  number_is : c.number + acks_of (sections_of t) + k.sent.count ≡ (end_of t o i m).number + length (sent_of (end_of t o i m))
  unfolding sent_of end_of end_in
  number_is = rw length-append (omega (arith, acks_length t o i m, count_is))

  -- the end, field by field
  fields_after : (e : End) (number due : ℕ) (side : Sending) → number ≡ e.number + length (sent_of e) → due ≡ e.due - length (ack_of e) → side ≡ (step_of e).side
      → ◌≡◌ {A = End} (record { epoch = e.epoch; interval = e.interval; clock = clock_of e; number = number; due = due; window = e.window; sending = side; receiving = e.receiving }) (tick_of e)
  unfolding tick_of
  fields_after e number due side e₁ e₂ e₃ = rw (e₁, e₂, e₃)

  read_after : end_of t' o i m ≡ record {
    epoch = (end_of t o i m).epoch;
    interval = (end_of t o i m).interval;
    clock = clock_of (end_of t o i m);
    number = c.number + acks_of (sections_of t) + k.sent.count;
    due = c.due - acks_of (sections_of t);
    window = (end_of t o i m).window;
    sending = sending_of (sends_of (sections_of t).sends).line (moved (sends_of (sections_of t).sends).row k.sent) k.sent.probed (ring_of o) k.segments.ends k.segments.times;
    receiving = (end_of t o i m).receiving;
  }
  unfolding end_of end_in clock_of
  read_after = rw (after, common_words_lem (ticking c (acks_of (sections_of t)) k.sent.count), sends_words_lem (record { line = (sends_of (sections_of t).sends).line; row = moved (sends_of (sections_of t).sends).row k.sent; probed = k.sent.probed }))

  end_after : end_of t' o i m ≡ tick_of (end_of t o i m)
  unfolding end_of end_in
  end_after = read_after ∙ fields_after (end_of t o i m) _ _ _ number_is (rw (due_is t o i m, acks_length t o i m)) side_after

  -- the bytes
  stamped : wire (stamp_of (sections_of t)).epoch (stamp_of (sections_of t)).number (send_of (work_of (sections_of t)) (side_of (sections_of t) o)).sent ≡ wire (end_of t o i m).epoch ((end_of t o i m).number + length (ack_of (end_of t o i m))) (step_of (end_of t o i m)).sent
  unfolding end_of end_in
  stamped = rw (step_is t o i m, acks_length t o i m)

  first_is : wire c.epoch c.number (ack_messages (sections_of t) (acks_of (sections_of t))) ≡ wire (end_of t o i m).epoch (end_of t o i m).number (ack_of (end_of t o i m))
  unfolding end_of end_in
  first_is = rw (acks_is t o i m s)

  output_is : wire c.epoch c.number (ack_messages (sections_of t) (acks_of (sections_of t)))
      ++ wire (stamp_of (sections_of t)).epoch (stamp_of (sections_of t)).number (send_of (work_of (sections_of t)) (side_of (sections_of t) o)).sent
      ≡ output_of (end_of t o i m)
  unfolding output_of sent_of
  output_is = rw (first_is, stamped) (sym (wire_append (end_of t o i m).epoch (end_of t o i m).number (step_of (end_of t o i m)).sent (ack_of (end_of t o i m))))

  pub tick_became : TickedEnd t o i m out (answer_of 0 r) t' out'
  tick_became = record {
    became = record { sound = sound_after; end = end_after };
    answer = ap (answer_of 0) (k.bytes ∙ bytes_are ∙ ap length output_is);
    sent = k.wrote ∙ over_rest _ _ out k.first k.rest k.from (length k.first - k.from) k.acked.wrote k.acked.bytes (omega arith) work.wrote ∙ ap (λ (x : List ℕ). over x out) output_is;
  }
    where
      bytes_are : k.from + k.sent.bytes ≡ length (wire c.epoch c.number (ack_messages (sections_of t) (acks_of (sections_of t)))
          ++ wire (stamp_of (sections_of t)).epoch (stamp_of (sections_of t)).number (send_of (work_of (sections_of t)) (side_of (sections_of t) o)).sent)
      bytes_are = rw length-append (omega (arith, k.acked.bytes, work.bytes))

-- THE CALL
output_most : (n : ℕ) → output_row n ≤ 13
unfolding output_row
output_most n = at_most (ltb n output_least) 13 13 (omega arith)

pub output_small : (n w : ℕ) → w ≡ output_row n → w < 64
output_small n w f = omega (arith, output_most n)

module _ (t o out : List ℕ) (r : ℤ) (ready : ℕ) (e : ready ≡ ready_of t (length o) capacity) where
  row_unready : (ready ≡ 0 → ⊥) → ready ≡ tick_row t (length o) (length out)
  unfolding tick_row
  row_unready n = hit_row ready _ _ e n

  pub tick_unready : (ready ≡ 0 → ⊥) → r ≡ answer_of ready 0 → Ticks t o out r t out
  tick_unready n a = record {
    answer = λ x. a ∙ ap (λ (y : ℕ). answer_of y 0) (row_unready n);
    refused = λ x. (refl, refl);
    within = λ z. absurd (n (row_unready n ∙ z));
    done = λ z. absurd (n (row_unready n ∙ z));
    table_kept = refl;
    output_kept = refl;
  }

  module _ (z : ready ≡ 0) (w : ℕ) (f : w ≡ output_row (length out)) where
    row_output : w ≡ tick_row t (length o) (length out)
    unfolding tick_row
    row_output = miss_row w _ _ ready e z f

    pub tick_refused : (w ≡ 0 → ⊥) → r ≡ answer_of w 0 → Ticks t o out r t out
    tick_refused n a = record {
      answer = λ x. a ∙ ap (λ (y : ℕ). answer_of y 0) row_output;
      refused = λ x. (refl, refl);
      within = λ y. absurd (n (row_output ∙ y));
      done = λ y. absurd (n (row_output ∙ y));
      table_kept = refl;
      output_kept = refl;
    }

    pub tick_ready : w ≡ 0 → TickReady t (length o) (length out)
    unfolding output_row
    tick_ready y =
        let k = ready_is t (length o) capacity ready e z in
        record { table_size = k.table_size; outgoing_size = k.first_size; out_size = passed_lt (length out) output_least 13 (omega arith) (sym f ∙ y); ready = k.ready }

    pub tick_done : {n : ℕ} {t' out' : List ℕ} → w ≡ 0 → Ticked t o out n t' out' → r ≡ answer_of 0 n → Ticks t o out r t' out'
    tick_done {n} y k a = record {
      answer = λ x. absurd (x (sym row_output ∙ y));
      refused = λ x. absurd (x (sym row_output ∙ y));
      within = λ x. record { count = n; is = a; most = k.most };
      done = λ x i m s. rw a (tick_became k i m s);
      table_kept = k.size;
      output_kept = k.output_size;
    }
