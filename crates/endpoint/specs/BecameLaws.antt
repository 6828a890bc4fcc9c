-- Laws of the end that the table holds after give, finish and take. Assumes nothing.
use Rattle.std.specs.Prelude.{◌≡◌, refl, List, ℕ, ◌-◌, ◌≤◌, length}
use Rattle.std.proofs.Common.{ap, ◌∙◌, arith}
use Rattle.laws.specs.Over.{over}
use Rattle.ring.specs.Ring.{capacity}
use Rattle.receiving.specs.declared.Scalars.{Scalars}
use Rattle.receiving.specs.Receiving.{Receiving, receiving_of}
use Rattle.receiving.specs.Receiving as receiving
use Rattle.receiving.specs.ReadLaws.{ended_read}
use Rattle.receiving.specs.Calls.{ended_by}
use Rattle.sending.specs.Sending.{Sending}
use Rattle.sending.specs.Giving as giving
use Rattle.sending.specs.Buffers.{sending_of}
use Rattle.sending.specs.Buffers as sending
use Rattle.sending.specs.BufferLaws.{given_end, finished_end}
use Rattle.table.specs.declared.Sends.{Sends}
use Rattle.end.specs.End.{End, with_sending, give_of, given_of, finish_of, got_of, take_of, reached_of}
use Rattle.table.specs.Layout.{Sections, sections_of, sends_words, sends_of, scalars_words, scalars_of, ring_of, end_in, end_of, Sound}
use Rattle.table.specs.LayoutLaws.{with_sends, with_receives, sends_words_lem, scalars_words_lem}
use Rattle.endpoint.specs.Answer.{answer_of}
use Rattle.endpoint.specs.Calls.{Became, GaveEnd, TookEnd}
use Rattle.stream.specs.Streams.{with_line, closed, longer, Finished, Gave, Took}

-- the sending side that the sections hold, and the receiving one
abbrev side_of : Sections → List ℕ → Sending
side_of s o = sending_of (sends_of s.sends).line (sends_of s.sends).row (sends_of s.sends).probed (ring_of o) s.ends s.times

abbrev other_of : Sections → List ℕ → List ℕ → Receiving
other_of s i m = receiving_of (scalars_of s.receives) (ring_of i) (ring_of m)

pub end_sending : (t o i m : List ℕ) → (end_of t o i m).sending ≡ side_of (sections_of t) o
unfolding end_of end_in
end_sending t o i m = refl

pub end_receiving : (t o i m : List ℕ) → (end_of t o i m).receiving ≡ other_of (sections_of t) i m
unfolding end_of end_in
end_receiving t o i m = refl

-- only the sending side's scalars and bytes are others
pub sends_became : (t o i m t' o' : List ℕ) (v : Sends) (f : Sending) → Sound t o i m → length t' ≡ length t → capacity ≤ length o'
    → sections_of t' ≡ with_sends (sections_of t) (sends_words v)
    → sending.Sound v.line v.row v.probed (ring_of o') (sections_of t).ends (sections_of t).times
    → sending_of v.line v.row v.probed (ring_of o') (sections_of t).ends (sections_of t).times ≡ f
    → Became t o i m t' o' i m (λ e. with_sending e f)
unfolding end_of end_in
sends_became t o i m t' o' v f s lt lo es sv ev = record {
  sound = record {
    table_size = omega (arith, s.table_size);
    outgoing_size = lo;
    incoming_size = s.incoming_size;
    marks_size = s.marks_size;
    holds = rw es (record { going = s.holds.going; sends = rw (sends_words_lem v) sv; receives = s.holds.receives });
  };
  end = rw (es, sends_words_lem v, ev);
}

-- said otherwise
pub became_as : {t o i m t' o' i' m' : List ℕ} {f g : End → End} → Became t o i m t' o' i' m' f → f (end_of t o i m) ≡ g (end_of t o i m) → Became t o i m t' o' i' m' g
became_as b e = record { sound = b.sound; end = b.end ∙ e }

finish_side : (t o i m : List ℕ) → with_sending (end_of t o i m) (giving.finish_of (side_of (sections_of t) o)) ≡ finish_of (end_of t o i m)
unfolding finish_of end_of end_in
finish_side t o i m = refl

pub finish_became : {t t' : List ℕ} → Finished t t' → (o i m : List ℕ) → Sound t o i m → Became t o i m t' o i m finish_of
finish_became {t} {t'} h o i m s =
    let v = sends_of (sections_of t).sends in
    let k = finished_end v.line v.row v.probed (ring_of o) (sections_of t).ends (sections_of t).times s.holds.sends in
    became_as (sends_became t o i m t' o (with_line v (closed v.line)) _ s h.size s.outgoing_size h.sections k.sound k.side) (finish_side t o i m)

give_side : (t o i m bs : List ℕ) → with_sending (end_of t o i m) (giving.give_of (side_of (sections_of t) o) bs) ≡ give_of (end_of t o i m) bs
unfolding give_of end_of end_in
give_side t o i m bs = refl

give_count : (t o i m bs : List ℕ) → giving.taken_of (side_of (sections_of t) o) bs ≡ given_of (end_of t o i m) bs
unfolding given_of end_of end_in
give_count t o i m bs = refl

pub give_became : {t o bs : List ℕ} {n : ℕ} {t' o' : List ℕ} → Gave t o bs n t' o' → (i m : List ℕ) → Sound t o i m → GaveEnd t o i m bs (answer_of 0 n) t' o'
give_became {t} {o} {bs} {n} {t'} {o'} h i m s =
    let v = sends_of (sections_of t).sends in
    let k = given_end v.line v.row v.probed (ring_of o) (sections_of t).ends (sections_of t).times bs n (ring_of o') h.gave s.holds.sends in
    record {
      became = became_as (sends_became t o i m t' o' (with_line v (longer v.line n)) _ s h.size (omega (arith, h.outgoing_size, s.outgoing_size)) h.sections k.sound k.side) (give_side t o i m bs);
      answer = ap (answer_of 0) (k.count ∙ give_count t o i m bs);
    }

taken_end : (t t' o i m : List ℕ) (v : Scalars) (n : ℕ) → sections_of t' ≡ with_receives (sections_of t) (scalars_words v)
    → receiving_of v (ring_of i) (ring_of m) ≡ receiving.take_of (other_of (sections_of t) i m) n
    → end_of t' o i m ≡ take_of (end_of t o i m) n
unfolding take_of end_of end_in
taken_end t t' o i m v n es er = rw (es, scalars_words_lem v, er)

take_got : (t o i m : List ℕ) (n : ℕ) → receiving.got_of (other_of (sections_of t) i m) n ≡ got_of (end_of t o i m) n
unfolding got_of end_of end_in
take_got t o i m n = refl

take_reached : (t o i m : List ℕ) (n : ℕ) → receiving.ended_of (receiving.take_of (other_of (sections_of t) i m) n) ≡ reached_of (end_of t o i m) n
unfolding reached_of take_of end_of end_in
take_reached t o i m n = refl

pub take_became : {t i d : List ℕ} {v : Scalars} {t' d' : List ℕ} → Took t i d v t' d' → (o m : List ℕ) → Sound t o i m
    → TookEnd t o i m d (answer_of 0 (v.taken - (scalars_of (sections_of t).receives).taken)) t' d' (ended_by v)
take_became {t} {i} {d} {v} {t'} {d'} h o m s =
    let y = s.holds.receives in
    let k = h.takes in
    record {
      became = record {
        sound = record {
          table_size = omega (arith, s.table_size, h.size);
          outgoing_size = s.outgoing_size;
          incoming_size = s.incoming_size;
          marks_size = s.marks_size;
          holds = rw h.sections (record { going = s.holds.going; sends = s.holds.sends; receives = rw (scalars_words_lem v) (k.done (ring_of m) y) });
        };
        end = taken_end t t' o i m v (length d) h.sections (k.read (ring_of m) y);
      };
      answer = ap (answer_of 0) (k.counted (ring_of m) y ∙ ap length (take_got t o i m (length d)));
      bytes = (k.got (ring_of m) y).is ∙ ap (λ (x : List ℕ). over x d) (take_got t o i m (length d));
      reached = ended_read v (ring_of i) (ring_of m) ∙ ap receiving.ended_of (k.read (ring_of m) y) ∙ take_reached t o i m (length d);
    }
