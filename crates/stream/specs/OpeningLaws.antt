-- Laws of open: of the table, as the code leaves it, and of the end that it holds. Assumes nothing.
use Rattle.std.specs.Prelude.{◌≡◌, refl, List, ℕ, ◌≤◌, ◌<◌, length}
use Rattle.std.proofs.Common.{ap, ◌∙◌, arith}
use borrow.Rule.Slice.PartMut.{put_mid}
use Rattle.laws.specs.Part.{part}
use Rattle.laws.specs.PartLaws.{length_put}
use Rattle.ring.specs.Ring.{capacity}
use Rattle.window.proofs.MarksLaws.{window_fresh}
use Rattle.receiving.specs.declared.Scalars.{Scalars}
use Rattle.receiving.specs.Calls as receiving
use Rattle.segments.specs.declared.Line.{Line}
use Rattle.segments.specs.declared.Row.{Row}
use Rattle.sending.specs.Buffers.{fresh_line, fresh_row}
use Rattle.sending.specs.BufferLaws.{fresh_end}
use Rattle.table.specs.declared.Common.{Common}
use Rattle.table.specs.declared.Sends.{Sends}
use Rattle.end.specs.End.{open_of}
use Rattle.table.specs.Layout.{common_size, sends_at, sends_size, receives_at, receives_size, table_words, sections_of, common_words, sends_words, scalars_words, ring_of, end_in, end_of, Sound}
use Rattle.table.specs.LayoutLaws.{common_words_lem, sends_words_lem, scalars_words_lem, common_size_lem, sends_size_lem, scalars_size, put_common, put_sends, put_receives, ring_put_lem, ring_size}
use Rattle.table.specs.Rows.{interval_most}
use Rattle.stream.specs.Opening.{fresh_common, fresh_sends, Saved, Opened}

-- THE TABLE, as the code leaves it
pub saved : (t y₁ y₂ y₃ : List ℕ) (c : Common) (s : Sends) (v : Scalars) → table_words ≤ length t → y₁ ≡ common_words c → y₂ ≡ sends_words s → y₃ ≡ scalars_words v
    → Saved t c s v (put_mid receives_at receives_size (put_mid sends_at sends_size (put_mid 0 common_size t y₁) y₂) y₃)
saved t y₁ y₂ y₃ c s v lt e₁ e₂ e₃ =
    let n₁ : length y₁ ≡ common_size = ap length e₁ ∙ common_size_lem c in
    let n₂ : length y₂ ≡ sends_size = ap length e₂ ∙ sends_size_lem s in
    let n₃ : length y₃ ≡ receives_size = ap length e₃ ∙ scalars_size v in
    let t₁ = put_mid 0 common_size t y₁ in
    let t₂ = put_mid sends_at sends_size t₁ y₂ in
    let l₁ : length t₁ ≡ length t = length_put t y₁ 0 common_size (omega arith) n₁ in
    let l₂ : length t₂ ≡ length t₁ = length_put t₁ y₂ sends_at sends_size (omega arith) n₂ in
    let l₃ : length (put_mid receives_at receives_size t₂ y₃) ≡ length t₂ = length_put t₂ y₃ receives_at receives_size (omega arith) n₃ in
    record {
      size = l₃ ∙ l₂ ∙ l₁;
      sections = put_receives t₂ y₃ (omega arith) n₃ ∙ rw (put_sends t₁ y₂ (omega arith) n₂, put_common t y₁ lt n₁, e₁, e₂, e₃);
    }

pub opened : {n : ℕ} → n ≡ capacity → (t m z : List ℕ) (epoch interval : ℕ) {l : Line} {p : Row} {v : Scalars} {t' : List ℕ} → capacity ≤ length m
    → receiving.Starts (part 0 n m) z v → l ≡ fresh_line → p ≡ fresh_row
    → Saved t (fresh_common epoch interval) (record { line = l; row = p; probed = 0 }) v t'
    → Opened t m epoch interval t' (put_mid 0 n m z)
opened size t m z epoch interval {l} {p} {v} lm f el ep h =
    let st = rw size at f in
    let lz : length z ≡ capacity = st.marks_same ∙ ring_size m lm in
    rw size (record {
      size = h.size;
      marks_size = length_put m z 0 capacity (omega arith) lz;
      scalars = v;
      sections = h.sections ∙ rw (el, ep);
      starts = rw (ring_put_lem m z lm lz) st;
    })

-- THE END that it holds
pub opened_sound : {t m : List ℕ} {epoch interval : ℕ} {t' m' : List ℕ} → Opened t m epoch interval t' m' → (o i : List ℕ) → table_words ≤ length t → capacity ≤ length o → capacity ≤ length i → capacity ≤ length m
    → 0 < interval → interval ≤ interval_most → Sound t' o i m'
opened_sound {t} {m} {epoch} {interval} {t'} {m'} h o i lt lo li lm some most =
    let f = fresh_end (ring_of o) (sections_of t).ends (sections_of t).times in
    record {
      table_size = omega (arith, h.size);
      outgoing_size = lo;
      incoming_size = li;
      marks_size = omega (arith, h.marks_size);
      holds = rw h.sections (record {
        going = rw (common_words_lem (fresh_common epoch interval)) (record { opened = refl; interval_some = some; interval_most_lem = most; clock = omega arith; number = omega arith; due = omega arith });
        sends = rw (sends_words_lem fresh_sends) f.sound;
        receives = rw (scalars_words_lem h.scalars) (h.starts.done (ring_of i) (ring_size i li));
      });
    }

pub opened_end : {t m : List ℕ} {epoch interval : ℕ} {t' m' : List ℕ} → Opened t m epoch interval t' m' → (o i : List ℕ) → end_of t' o i m' ≡ open_of epoch interval
unfolding end_of end_in open_of
opened_end {t} {m} {epoch} {interval} {t'} {m'} h o i =
    rw (h.sections, common_words_lem (fresh_common epoch interval), sends_words_lem fresh_sends, scalars_words_lem h.scalars, window_fresh (sections_of t).window, (fresh_end (ring_of o) (sections_of t).ends (sections_of t).times).side, h.starts.read (ring_of i))
