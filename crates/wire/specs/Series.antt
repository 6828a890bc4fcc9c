-- 01 §2: datagrams one after the other, as tick writes them: each is as long as its own length field says.
use Rattle.std.specs.Prelude.{◌≡◌, List, [], ◌∷◌, ◌++◌, ℕ, ◌+◌, length}
use Rattle.wire.specs.Datagram.{head_size}
use Rattle.wire.specs.Reading.{fields_of}

-- the bytes, and the datagrams in them, the newest first
pub data Series : List ℕ → List (List ℕ) → Type 0 where
  nothing : Series [] []
  first : (d : List ℕ) {s : List ℕ} {ds : List (List ℕ)} → length d ≡ head_size + (fields_of d).length → Series s ds → Series (d ++ s) (ds ++ (d ∷ []))
