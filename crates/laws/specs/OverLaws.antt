-- Laws of writing on, part after part. Assumes nothing.
use Rattle.std.specs.Prelude.{◌≡◌, refl, List, [], ◌++◌, ℕ, ◌-◌, ◌≤◌, length}
use Rattle.std.proofs.Common.{sym, ap, ◌∙◌, append-nil, append_assoc, arith, length-append, length-drop, drop_of_length-le, drop-drop}
use Rattle.std.proofs.Math.Seq.{take-append_seam, drop-append_seam}
use borrow.Rule.Slice.PartMut.{put_mid}
use Rattle.laws.specs.Over.{over, Over}

-- nothing yet
pub over_none : (out : List ℕ) → Over [] out out
unfolding over
over_none out = record { is = refl }

-- one part more, lent right after what was written, and given back as ys
pub over_more : (ys zs : List ℕ) (a k : ℕ) {x xs out : List ℕ} → Over xs out x → ys ≡ zs → a ≡ length xs → length zs ≡ k → Over (xs ++ zs) out (put_mid a k x ys)
unfolding over
over_more ys zs a k {x} {xs} {out} e r p q = record {
  is = rw (e.is, r, p, ← q, take-append_seam, drop-append_seam, drop-drop, append_assoc, length-append);
}

-- all of it
pub over_all : {x xs out : List ℕ} → Over xs out x → length out ≤ length xs → x ≡ xs
unfolding over
over_all {x} {xs} {out} e h = e.is ∙ rw (drop_of_length-le out h, append-nil)

pub over_length : {x xs out : List ℕ} → Over xs out x → length xs ≤ length out → length x ≡ length out
unfolding over
over_length {x} {xs} {out} e h = ap length e.is ∙ simp (length-append, length-drop) (omega arith)

-- a buffer written whole, in two parts
pub parts_2 : (out y₁ y₂ z₁ z₂ : List ℕ) (a n : ℕ) → y₁ ≡ z₁ → y₂ ≡ z₂ → length z₁ ≡ a → length z₂ ≡ n - a → a ≤ n → length out ≡ n
    → put_mid a (n - a) (put_mid 0 a out y₁) y₂ ≡ z₁ ++ z₂
parts_2 out y₁ y₂ z₁ z₂ a n e₁ e₂ l₁ l₂ h l =
    let o₁ = over_more y₁ z₁ 0 a (over_none out) e₁ refl l₁ in
    let o₂ = over_more y₂ z₂ a (n - a) o₁ e₂ (sym l₁) l₂ in
    over_all o₂ (rw length-append (omega arith))

-- in three parts
pub parts_3 : (out y₁ y₂ y₃ z₁ z₂ z₃ : List ℕ) (a b n : ℕ) → y₁ ≡ z₁ → y₂ ≡ z₂ → y₃ ≡ z₃ → length z₁ ≡ a → length z₂ ≡ b - a → length z₃ ≡ n - b → a ≤ b → b ≤ n → length out ≡ n
    → put_mid b (n - b) (put_mid a (b - a) (put_mid 0 a out y₁) y₂) y₃ ≡ z₁ ++ (z₂ ++ z₃)
parts_3 out y₁ y₂ y₃ z₁ z₂ z₃ a b n e₁ e₂ e₃ l₁ l₂ l₃ h i l =
    let o₁ = over_more y₁ z₁ 0 a (over_none out) e₁ refl l₁ in
    let o₂ = over_more y₂ z₂ a (b - a) o₁ e₂ (sym l₁) l₂ in
    let p : b ≡ length (z₁ ++ z₂) = rw length-append (omega arith) in
    let o₃ = over_more y₃ z₃ b (n - b) o₂ e₃ p l₃ in
    over_all o₃ (rw (length-append, length-append) (omega arith)) ∙ append_assoc z₁ z₂ z₃

-- in four
pub parts_4 : (out y₁ y₂ y₃ y₄ z₁ z₂ z₃ z₄ : List ℕ) (a b d n : ℕ) → y₁ ≡ z₁ → y₂ ≡ z₂ → y₃ ≡ z₃ → y₄ ≡ z₄ → length z₁ ≡ a → length z₂ ≡ b - a → length z₃ ≡ d - b → length z₄ ≡ n - d
    → a ≤ b → b ≤ d → d ≤ n → length out ≡ n
    → put_mid d (n - d) (put_mid b (d - b) (put_mid a (b - a) (put_mid 0 a out y₁) y₂) y₃) y₄ ≡ z₁ ++ (z₂ ++ (z₃ ++ z₄))
parts_4 out y₁ y₂ y₃ y₄ z₁ z₂ z₃ z₄ a b d n e₁ e₂ e₃ e₄ l₁ l₂ l₃ l₄ h i j l =
    let o₁ = over_more y₁ z₁ 0 a (over_none out) e₁ refl l₁ in
    let o₂ = over_more y₂ z₂ a (b - a) o₁ e₂ (sym l₁) l₂ in
    let p : b ≡ length (z₁ ++ z₂) = rw length-append (omega arith) in
    let o₃ = over_more y₃ z₃ b (d - b) o₂ e₃ p l₃ in
    let q : d ≡ length (z₁ ++ z₂ ++ z₃) = rw (length-append, length-append) (omega arith) in
    let o₄ = over_more y₄ z₄ d (n - d) o₃ e₄ q l₄ in
    over_all o₄ (rw (length-append, length-append, length-append) (omega arith)) ∙ append_assoc (z₁ ++ z₂) z₃ z₄ ∙ append_assoc z₁ z₂ (z₃ ++ z₄)
