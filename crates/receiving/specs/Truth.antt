-- Statement B, for the receiving side: what it is for an end to hold and hand up only what is true of its peer's history.
use Rattle.std.specs.Prelude.{ℕ, suc, ◌≡◌, List, [], ◌∷◌, length}
use Rattle.laws.specs.History.{At, Says}
use Rattle.ring.specs.Ring.{capacity}
use Rattle.receiving.specs.Receiving.{Cell, missing, byte, End, none, at, Receiving}

-- what stands in the cells, whose first is of position p, is what H has there
pub data Fits (H : List ℕ) : ℕ → List Cell → Type 0 where
  end : {p : ℕ} → Fits H p []
  skip : {p : ℕ} {cs : List Cell} → Fits H (suc p) cs → Fits H p (missing ∷ cs)
  fill : {p b : ℕ} {cs : List Cell} → At H p b → Fits H (suc p) cs → Fits H p (byte b ∷ cs)

-- an END is known only once no more bytes will be given, and stands right after them
pub data Ends (H : List ℕ) (closed : ℕ) : End → Type 0 where
  unknown : Ends H closed none
  known : {k : ℕ} → closed ≡ 1 → k ≡ length H → Ends H closed (at k)

-- the peer was given the bytes H, and closed is 1 once its host called finish; this host has taken the bytes got
pub record ReceivingOK (H got : List ℕ) (closed : ℕ) (v : Receiving) : Type 0 where
  pub cells : Fits H v.taken v.cells
  pub says : Says H 0 got
  pub count : length got ≡ v.taken
  pub ends : Ends H closed v.end
  pub size : length v.cells ≡ capacity
