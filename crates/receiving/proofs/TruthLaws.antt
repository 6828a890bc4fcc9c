-- Laws of bytes and cells that are true of a history. Assumes nothing.
use Rattle.std.proofs.Common.{ℕ, zero, suc, ◌+◌, ◌-◌, ◌≤◌, ◌<◌, ◌≡◌, refl, List, [], ◌∷◌, ◌++◌, length, take, drop, replicate, ap, sym, ◌∙◌, ⊎_elim, append-nil, arith, add-zero, length-append}
use Rattle.laws.specs.History.{At, Says, Prefix}
use Rattle.laws.specs.History.At.{here, there}
use Rattle.laws.specs.History.Says.{none, more}
use Rattle.laws.specs.HistoryLaws.{at_grow, says_at, says_drop, says_prefix}
use Rattle.receiving.specs.Receiving.{Cell, missing, byte, first, lay, fill_cells, lead, up, reach, heads}
use Rattle.laws.specs.Split.{split}
use Rattle.receiving.specs.Truth.{Fits}
use Rattle.receiving.specs.Truth.Fits.{end, skip, fill}

-- what a history has stands below its length
at_below : {H : List ℕ} {p b : ℕ} → At H p b → p < length H
at_below here = omega arith
at_below (there h) = let k = at_below h in omega arith

pub says_below : {H : List ℕ} {p : ℕ} {bs : List ℕ} → Says H p bs → 0 < length bs → p + length bs ≤ length H
says_below none h = absurd (omega arith)
says_below (more a none) h = let k = at_below a in omega arith
says_below (more a (more b s)) h = let k = says_below (more b s) (omega arith) in omega arith

pub says_length : {H bs : List ℕ} → Says H 0 bs → length bs ≤ length H
says_length {H} {bs} s = ⊎_elim (λ l. omega arith) (λ l. let k = says_below s l in omega arith) (split (length bs) 1)

-- all of a history is the history
pub says_whole : {H bs : List ℕ} → Says H 0 bs → length bs ≡ length H → bs ≡ H
unfolding Prefix
says_whole {H} {bs} s l = let k = says_prefix bs s in rest_none k.0 k.1
  where
    none_rest : (r : List ℕ) → length r ≡ 0 → r ≡ []
    none_rest [] e = refl
    none_rest (x ∷ r) e = absurd (omega arith)

    rest_none : (r : List ℕ) → bs ++ r ≡ H → bs ≡ H
    rest_none r e =
        let n : length bs + length r ≡ length H = sym (length-append bs r) ∙ ap length e in
        let z : r ≡ [] = none_rest r (omega arith) in
        sym (append-nil bs) ∙ rw z at e

-- CELLS
fits_at : {H : List ℕ} {p q : ℕ} {cs : List Cell} → Fits H p cs → p ≡ q → Fits H q cs
fits_at h e = rw e at h

pub fits_grow : {H : List ℕ} {p : ℕ} {cs : List Cell} (K : List ℕ) → Fits H p cs → Fits (H ++ K) p cs
fits_grow K end = end
fits_grow K (skip f) = skip (fits_grow K f)
fits_grow K (fill a f) = fill (at_grow K a) (fits_grow K f)

fits_lay : {H : List ℕ} {p : ℕ} {cs : List Cell} {bs : List ℕ} → Fits H p cs → Says H p bs → Fits H p (lay cs bs)
unfolding lay first
fits_lay end h = end
fits_lay (skip f) none = skip f
fits_lay (skip f) (more a h) = fill a (fits_lay f h)
fits_lay (fill c f) none = fill c f
fits_lay (fill c f) (more a h) = fill c (fits_lay f h)

fits_lay_from : {H : List ℕ} {p : ℕ} {cs : List Cell} {bs : List ℕ} (n : ℕ) → Fits H p cs → Says H (p + n) bs → Fits H p (take n cs ++ lay (drop n cs) bs)
unfolding lay
fits_lay_from zero f h = fits_lay f (rw add-zero at h)
fits_lay_from (suc n) end h = end
fits_lay_from (suc n) (skip {p = p} f) h = skip (fits_lay_from n f (says_at h (omega arith)))
fits_lay_from (suc n) (fill {p = p} a f) h = fill a (fits_lay_from n f (says_at h (omega arith)))

-- bytes that are true of H keep the cells true
pub fits_fill : {H : List ℕ} {p t : ℕ} {cs : List Cell} {bs : List ℕ} → Fits H t cs → Says H p bs → Fits H t (fill_cells t cs p bs)
unfolding fill_cells
fits_fill {p = p} {t = t} f h = fits_lay_from (p - t) f (says_at (says_drop (t - p) h) (omega arith))

-- what take hands up is true
pub says_heads : {H : List ℕ} {p : ℕ} {cs : List Cell} (n : ℕ) → Fits H p cs → Says H p (heads n cs)
unfolding heads
says_heads zero f = none
says_heads (suc n) end = none
says_heads (suc n) (skip f) = none
says_heads (suc n) (fill a f) = more a (says_heads n f)

pub fits_start : {H : List ℕ} {p : ℕ} (n : ℕ) → Fits H p (replicate n missing)
fits_start zero = end
fits_start (suc n) = skip (fits_start n)

fits_blank : {H : List ℕ} {p : ℕ} {cs : List Cell} (n : ℕ) → Fits H p cs → Fits H p (cs ++ replicate n missing)
fits_blank n end = fits_start n
fits_blank n (skip f) = skip (fits_blank n f)
fits_blank n (fill a f) = fill a (fits_blank n f)

-- and what stays is true
pub fits_taken : {H : List ℕ} {p : ℕ} {cs : List Cell} (k n : ℕ) → Fits H p cs → Fits H (p + k) (drop k cs ++ replicate n missing)
fits_taken zero n f = rw add-zero (fits_blank n f)
fits_taken (suc k) n end = fits_start n
fits_taken (suc k) n (skip {p = p} f) = fits_at (fits_taken k n f) (omega arith)
fits_taken (suc k) n (fill {p = p} a f) = fits_at (fits_taken k n f) (omega arith)

-- no cell beyond the history holds a byte
pub fits_lead : {H : List ℕ} {p : ℕ} {cs : List Cell} → Fits H p cs → p ≤ length H → p + lead cs ≤ length H
unfolding lead
fits_lead end h = omega arith
fits_lead (skip f) h = omega arith
fits_lead (fill a f) h = let k = fits_lead f (at_below a) in omega arith

record Up (n m : ℕ) : Type 0 where
  some : 0 < n
  is : m ≡ suc n

up_missing : (n : ℕ) → 0 < up missing n → Up n (up missing n)
unfolding up
up_missing zero h = absurd (omega arith)
up_missing (suc n) h = record { some = omega arith; is = refl }

up_byte : (b n : ℕ) → up (byte b) n ≡ suc n
unfolding up
up_byte b n = refl

pub fits_reach : {H : List ℕ} {p : ℕ} {cs : List Cell} → Fits H p cs → 0 < reach cs → p + reach cs ≤ length H
unfolding reach
fits_reach end h = absurd (omega arith)
fits_reach (skip {cs = cs} f) h =
    let u = up_missing (reach cs) h in
    let e = u.is in
    let k = fits_reach f u.some in
    omega arith
fits_reach (fill {b = b} {cs = cs} a f) h =
    let l = at_below a in
    let e : up (byte b) (reach cs) ≡ suc (reach cs) = up_byte b (reach cs) in
    ⊎_elim (λ z. omega arith) (λ z. let k = fits_reach f z in omega arith) (split (reach cs) 1)
