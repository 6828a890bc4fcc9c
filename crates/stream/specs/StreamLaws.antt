-- Laws of give, finish and take: first of the table, as the code leaves it, then of the end that it holds. Assumes nothing.
use Rattle.std.specs.Prelude.{◌≡◌, List, ℕ, ◌+◌, ◌≤◌, length}
use Rattle.std.proofs.Common.{ap, ◌∙◌, arith}
use borrow.Rule.Slice.PartMut.{put_mid}
use Rattle.laws.specs.Part.{part}
use Rattle.laws.specs.PartLaws.{length_put}
use Rattle.ring.specs.Ring.{capacity}
use Rattle.wire.specs.Datagram.{ceiling}
use Rattle.receiving.specs.declared.Scalars.{Scalars}
use Rattle.receiving.specs.Calls as receiving
use Rattle.segments.specs.declared.Line.{Line}
use Rattle.sending.specs.GiveLaws.{room_small}
use Rattle.sending.specs.Outcome as sending
use Rattle.table.specs.declared.Sends.{Sends}
use Rattle.table.specs.Layout.{sends_at, sends_size, receives_at, receives_size, table_words, Sections, sections_of, sends_words, sends_of, scalars_words, scalars_of}
use Rattle.table.specs.LayoutLaws.{sends_size_lem, scalars_size, put_sends, put_receives, ring_put_lem, ring_size}
use Rattle.table.specs.ReadyLaws.{Ready}
use Rattle.stream.specs.Streams.{with_line, closed, longer, Finished, Gave, Took}

-- a line that was loaded can be longer by what give takes
pub room_count : {l : Line} {acked : ℕ} {ring bs : List ℕ} {n : ℕ} {ring' : List ℕ} → sending.Gave l acked ring bs n ring' → n ≤ capacity
room_count {l} {acked} g = omega (arith, g.count, room_small l acked)

pub given_fits : {v : Sections} {s : Sends} {acked : ℕ} {ring bs : List ℕ} {n : ℕ} {ring' : List ℕ} → Ready v → s ≡ sends_of v.sends → sending.Gave s.line acked ring bs n ring'
    → s.line.given + n ≤ ceiling + capacity
given_fits {v} {s} r e g = omega (arith, room_count g, ap (λ (x : Sends). x.line.given) e, r.sends.given)

module _ (t y : List ℕ) (s : Sends) (long : table_words ≤ length t) (e : s ≡ sends_of (sections_of t).sends) where
  pub finished : (l : Line) → l ≡ closed s.line → y ≡ sends_words (with_line s l) → Finished t (put_mid sends_at sends_size t y)
  finished l el ey =
      let n : length y ≡ sends_size = ap length ey ∙ sends_size_lem (with_line s l) in
      record {
        size = length_put t y sends_at sends_size (omega arith) n;
        sections = put_sends t y long n ∙ rw (ey, el, e);
      }

  pub gave : {k : ℕ} → k ≡ capacity → (o bs g : List ℕ) (n : ℕ) → capacity ≤ length o → sending.Gave s.line s.row.acked (part 0 k o) bs n g
      → y ≡ sends_words (with_line s (longer s.line n)) → Gave t o bs n (put_mid sends_at sends_size t y) (put_mid 0 k o g)
  gave size o bs g n lo f ey =
      let h = rw size at f in
      let k : length y ≡ sends_size = ap length ey ∙ sends_size_lem (with_line s (longer s.line n)) in
      let lg : length g ≡ capacity = h.put.size ∙ ring_size o lo in
      rw size (record {
        size = length_put t y sends_at sends_size (omega arith) k;
        outgoing_size = length_put o g 0 capacity (omega arith) lg;
        most = omega (arith, h.count);
        small = room_count h;
        sections = put_sends t y long k ∙ rw (ey, e);
        gave = rw (ring_put_lem o g lo lg, ← e) h;
      })

pub took : {n : ℕ} → n ≡ capacity → (t y i d d' : List ℕ) (s v : Scalars) → table_words ≤ length t → s ≡ scalars_of (sections_of t).receives → receiving.Takes (part 0 n i) s d d' v
    → y ≡ scalars_words v → Took t i d v (put_mid receives_at receives_size t y) d'
took size t y i d d' s v long e h ey =
    let k : length y ≡ receives_size = ap length ey ∙ scalars_size v in
    record {
      size = length_put t y receives_at receives_size (omega arith) k;
      output_size = h.same;
      sections = put_receives t y long k ∙ rw ey;
      takes = rw (← e) (rw size at h);
    }
