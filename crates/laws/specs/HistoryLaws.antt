-- Laws of what is true of a history. Assumes nothing.
use Rattle.std.specs.Prelude.{ℕ, zero, suc, ◌+◌, ◌≡◌, refl, List, [], ◌∷◌, ◌++◌, length, take, drop}
use Rattle.std.proofs.Common.{ap, arith, add-zero}
use Rattle.laws.specs.History.{At, Says, Prefix}
use Rattle.laws.specs.History.At.{here, there}
use Rattle.laws.specs.History.Says.{none, more}

-- history grows, and what was true of it stays true
pub at_grow : {H : List ℕ} {p b : ℕ} (K : List ℕ) → At H p b → At (H ++ K) p b
at_grow K here = here
at_grow K (there h) = there (at_grow K h)

pub says_grow : {H : List ℕ} {p : ℕ} {bs : List ℕ} (K : List ℕ) → Says H p bs → Says (H ++ K) p bs
says_grow K none = none
says_grow K (more a h) = more (at_grow K a) (says_grow K h)

-- a position may be written otherwise
pub says_at : {H : List ℕ} {p q : ℕ} {bs : List ℕ} → Says H p bs → p ≡ q → Says H q bs
says_at h e = rw e at h

pub at_at : {H : List ℕ} {p q b : ℕ} → At H p b → p ≡ q → At H q b
at_at h e = rw e at h

-- parts of what is said
pub says_take : {H : List ℕ} {p : ℕ} {bs : List ℕ} (n : ℕ) → Says H p bs → Says H p (take n bs)
says_take zero h = none
says_take (suc n) none = none
says_take (suc n) (more a h) = more a (says_take n h)

pub says_drop : {H : List ℕ} {p : ℕ} {bs : List ℕ} (n : ℕ) → Says H p bs → Says H (p + n) (drop n bs)
says_drop zero h = rw add-zero h
says_drop (suc n) none = none
says_drop (suc n) (more {p = p} a h) = says_at (says_drop n h) (omega arith)

pub says_append : {H : List ℕ} {p : ℕ} {bs cs : List ℕ} → Says H p bs → Says H (p + length bs) cs → Says H p (bs ++ cs)
says_append {p = p} none k = rw add-zero at k
says_append (more {p = p} {bs = bs} a h) k = more a (says_append h (says_at k (omega arith)))

-- a history says itself, and what follows it says
pub says_later : {H : List ℕ} {p x : ℕ} {bs : List ℕ} → Says H p bs → Says (x ∷ H) (suc p) bs
says_later none = none
says_later (more a h) = more (there a) (says_later h)

pub says_self : (H : List ℕ) → Says H 0 H
says_self [] = none
says_self (x ∷ H) = more here (says_later (says_self H))

pub says_end : (H K : List ℕ) → Says (H ++ K) (length H) K
says_end [] K = says_self K
says_end (x ∷ H) K = says_later (says_end H K)

says_earlier : {H : List ℕ} {x p : ℕ} {bs : List ℕ} → Says (x ∷ H) (suc p) bs → Says H p bs
says_earlier none = none
says_earlier (more (there a) h) = more a (says_earlier h)

pub says_prefix : (t : List ℕ) {H : List ℕ} → Says H 0 t → Prefix t H
unfolding Prefix
says_prefix [] {H} none = (H, refl)
says_prefix (b ∷ t) (more here h) = let k = says_prefix t (says_earlier h) in (k.0, ap (λ l. b ∷ l) k.1)
