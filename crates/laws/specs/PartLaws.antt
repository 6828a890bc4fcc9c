-- Laws of a part that was lent and came back as y: `put_mid a k t y` is t with it. Assumes nothing.
use Rattle.std.specs.Prelude.{◌≡◌, List, ◌++◌, ℕ, ◌+◌, ◌-◌, ◌≤◌, ◌<◌, length, take, drop, get_or}
use Rattle.std.proofs.Common.{refl, [], sym, ap, ◌∙◌, append-nil, arith, length-take, length-drop, drop_of_length-le, ext_get_or, get_or-append-add, get_or-take, get_or-drop, take_at, drop_at, drop-drop, length-take-le, append_assoc, length-append, take-take}
use Rattle.std.proofs.Math.ListN.{get_or-append}
use Rattle.std.proofs.lemmas.List.{take-append-le, drop-append-le}
use Rattle.std.proofs.lemmas.List.Edits.{sets, sets-eq}
use borrow.Rule.Slice.PartMut.{put_mid, post_of, same_len_mid}
use Rattle.laws.specs.Part.{part}

pub length_part : (t : List ℕ) (a n : ℕ) → a + n ≤ length t → length (part a n t) ≡ n
length_part t a n h = length-take-le n (drop a t) (rw length-drop (omega arith))

module _ (t y : List ℕ) (a k : ℕ) (fits : a + k ≤ length t) (size : length y ≡ k) where
  pub part_here : part a k (put_mid a k t y) ≡ y
  part_here =
      let l : length (take a t) ≡ a = length-take-le a t (omega arith) in
      ap (take k) (drop_at (take a t) (y ++ post_of a k t) a l) ∙ take_at y (post_of a k t) k size

  pub length_put : length (put_mid a k t y) ≡ length t
  length_put = same_len_mid a k t y (size ∙ sym (length_part t a k fits))

  pub part_before : (b n : ℕ) → b + n ≤ a → part b n (put_mid a k t y) ≡ part b n t
  part_before b n h =
      let l : length (take a t) ≡ a = length-take-le a t (omega arith) in
      let m : length (drop b (take a t)) ≡ a - b = rw length-drop (omega arith) in
      ap (take n) (drop-append-le b (take a t) (y ++ post_of a k t) (omega arith)) ∙ take-append-le n (drop b (take a t)) (y ++ post_of a k t) (omega arith)
      ∙ ext_get_or 0 (take n (drop b (take a t))) (take n (drop b t)) (length-take-le n (drop b (take a t)) (omega arith) ∙ sym (length_part t b n (omega arith)))
      (λ i g.
      let j : i < n = omega (arith, length-take n (drop b (take a t))) in
      get_or-take n (drop b (take a t)) i 0 j ∙ get_or-drop b (take a t) i 0 ∙ get_or-take a t (b + i) 0 (omega arith)
      ∙ sym (get_or-take n (drop b t) i 0 j ∙ get_or-drop b t i 0))

  pub part_after : (b n : ℕ) → a + k ≤ b → part b n (put_mid a k t y) ≡ part b n t
  part_after b n h =
      let l : length (take a t) ≡ a = length-take-le a t (omega arith) in
      let e : a + (k + (b - (a + k))) ≡ b = omega arith in
      let d₁ : drop a (put_mid a k t y) ≡ y ++ post_of a k t = drop_at (take a t) (y ++ post_of a k t) a l in
      let d₂ : drop k (drop a (put_mid a k t y)) ≡ post_of a k t = ap (drop k) d₁ ∙ drop_at y (post_of a k t) k size in
      let d₃ : drop (b - (a + k)) (drop k (drop a (put_mid a k t y))) ≡ drop (b - (a + k)) (post_of a k t) = ap (drop (b - (a + k))) d₂ in
      let u : drop (b - (a + k)) (drop k (drop a (put_mid a k t y))) ≡ drop b (put_mid a k t y) =
      drop-drop (b - (a + k)) k (drop a (put_mid a k t y)) ∙ drop-drop (k + (b - (a + k))) a (put_mid a k t y) ∙ ap (λ (x : ℕ). drop x (put_mid a k t y)) e in
      let v : drop (b - (a + k)) (post_of a k t) ≡ drop b t =
      drop-drop (b - (a + k)) k (drop a t) ∙ drop-drop (k + (b - (a + k))) a t ∙ ap (λ (x : ℕ). drop x t) e in
      ap (take n) (sym u ∙ d₃ ∙ v)

-- two parts side by side, lent from the halves of t: it is t with both
module _ (t x y : List ℕ) (a n m : ℕ) (fits : a + n + m ≤ length t) (size_x : length x ≡ n) (size_y : length y ≡ m) where
  pub put_halves : (take a (take (a + n) t) ++ (x ++ post_of a (length (take (a + n) t) - a) (take (a + n) t))) ++ (y ++ drop m (drop (a + n) t))
      ≡ put_mid (a + n) m (put_mid a n t x) y
  put_halves =
      let front = take (a + n) t in
      let none : post_of a (length front - a) front ≡ [] = drop_of_length-le (drop a front) (rw length-drop (omega arith)) in
      let start : take a front ≡ take a t = take-take a (a + n) t (omega arith) in
      let size : length (take a t ++ x) ≡ a + n = rw (length-append, length-take-le a t (omega arith)) (omega arith) in
      let rest : drop n (drop a t) ≡ drop (a + n) t = drop-drop n a t in
      let whole : put_mid a n t x ≡ (take a t ++ x) ++ drop (a + n) t = rw rest (sym (append_assoc (take a t) x (drop (a + n) t))) in
      let here : take (a + n) (put_mid a n t x) ≡ take a t ++ x = ap (take (a + n)) whole ∙ take_at (take a t ++ x) (drop (a + n) t) (a + n) size in
      let after : drop (a + n) (put_mid a n t x) ≡ drop (a + n) t = ap (drop (a + n)) whole ∙ drop_at (take a t ++ x) (drop (a + n) t) (a + n) size in
      rw (none, start, here, after, append-nil) refl

-- the same, element by element
past : (x y : List ℕ) (n j : ℕ) → length x ≡ n → get_or (x ++ y) (n + j) 0 ≡ get_or y j 0
past x y n j e = rw (← e) (get_or-append-add x y j 0)

module _ (r y : List ℕ) (a k : ℕ) (fits : a ≤ length r) where
  pub in_part : (j : ℕ) → j < length y → get_or (put_mid a k r y) (a + j) 0 ≡ get_or y j 0
  in_part j h = past (take a r) (y ++ post_of a k r) a j (length-take-le a r fits) ∙ get_or-append y (post_of a k r) 0 j h

  pub before_part : (j : ℕ) → j < a → get_or (put_mid a k r y) j 0 ≡ get_or r j 0
  before_part j h =
      let l : length (take a r) ≡ a = length-take-le a r fits in
      get_or-append (take a r) (y ++ post_of a k r) 0 j (omega arith) ∙ get_or-take a r j 0 h

  pub after_part : (j : ℕ) → length y ≡ k → a + k ≤ j → get_or (put_mid a k r y) j 0 ≡ get_or r j 0
  after_part j e h =
      let m : ℕ = j - (a + k) in
      let p : j ≡ a + (k + m) = omega arith in
      rw p
      (past (take a r) (y ++ post_of a k r) a (k + m) (length-take-le a r fits) ∙ past y (post_of a k r) k m e ∙ get_or-drop k (drop a r) m 0
      ∙ get_or-drop a r (k + m) 0)

-- a list that was written over whole, word by word
pub sets_all : (ws s : List ℕ) → length s ≡ length ws → sets s 0 ws ≡ ws
sets_all ws s h =
    sets-eq ws s 0 (omega arith) ∙ (rw (drop_of_length-le s {i = 0 + length ws} (omega arith)) (append-nil ws))
