-- 03 §1: a run, computed: the network loses, repeats, reorders and digs out an old epoch, and the bytes and the END still come over.
use Rattle.std.proofs.Common.{◌≡◌, refl, List, [], ◌∷◌, ℕ, length}
use Rattle.wire.specs.Datagram.{DATA, encode}
use Rattle.network.specs.World.{World, handed, stray, gives, finishes, takes, arrives, calls, ticks, Choice, near_acts, far_acts, run}
use Rattle.network.specs.Computing.{computing}
use Rattle.network.specs.Delivered.{numbers_of}

-- the newest first: read it from below. Datagrams count from the newest too.
choices : List Choice
choices =
    -- the ACK arrives
    near_acts (arrives (handed 0))
    ∷ far_acts ticks
    ∷ far_acts (calls (takes 10))
    -- number 3, the first segment again, three ticks after it was sent first
    ∷ far_acts (arrives (handed 0))
    ∷ near_acts ticks
    ∷ near_acts ticks
    -- nothing can be taken yet
    ∷ far_acts (calls (takes 10))
    -- number 2 comes twice; number 1 is lost
    ∷ far_acts (arrives (handed 0))
    ∷ far_acts (arrives (handed 0))
    -- a datagram of an older epoch
    ∷ far_acts (arrives (stray (encode 6 9 (DATA 0 (99 ∷ []) 0))))
    ∷ near_acts ticks
    ∷ near_acts (calls finishes)
    ∷ near_acts (calls (gives (68 ∷ 69 ∷ [])))
    ∷ near_acts ticks
    ∷ near_acts (calls (gives (65 ∷ 66 ∷ 67 ∷ [])))
    ∷ []

-- what is asked: the bytes taken at far and whether the END was reported; the numbers that far accepted, and near; where near's acked is, and how many segments it keeps
told : World → List (List ℕ)
told w =
    w.far.taken ∷ (w.far.reported ∷ []) ∷ numbers_of w.far.accepted ∷ numbers_of w.near.accepted
    ∷ (w.near.end.sending.acked ∷ length w.near.end.sending.kept ∷ []) ∷ []

-- all has come over, once, and near keeps nothing more
brought : told (run 7 3 3 choices) ≡ (65 ∷ 66 ∷ 67 ∷ 68 ∷ 69 ∷ []) ∷ (1 ∷ []) ∷ (3 ∷ 2 ∷ []) ∷ (1 ∷ []) ∷ (6 ∷ 0 ∷ []) ∷ []
unfolding computing choices told numbers_of
brought = refl
