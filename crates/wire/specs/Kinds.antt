-- 01 §2: the kinds of datagrams, and their numbers.
use Rattle.std.specs.Prelude.{◌≡◌, ◌⊎◌, ◌<◌, ℕ, Result, Ok, Err}
use Rattle.refusals.specs.declared.Refusal.{Refusal}
use Rattle.refusals.specs.declared.Refusal.TheVariants.{Form}
use Rattle.wire.specs.declared.Kind.{Kind}
use Rattle.wire.specs.declared.Kind.TheVariants.{Data, Ack, Probe}

abbrev pub kind_number : Kind → ℕ
kind_number Data = 1
kind_number Ack = 2
kind_number Probe = 3

-- r is the kind with the number n, or the refusal of a datagram whose form is wrong, where there is none
abbrev pub KindOf : ℕ → Result Kind Refusal → Type 0
KindOf n (Ok k) = kind_number k ≡ n
KindOf n (Err e) = (e ≡ Form) × ((n ≡ 0) ⊎ (3 < n))
