-- `script::shown::HexDisplay::fmt` meets its contract. Assumes nothing.
use Rattle.std.proofs.Common.{rules, ◌≡◌, ℕ, ◌+◌, ◌-◌, ◌^◌, ◌<◌, List, [], ◌∷◌, ◌++◌, length, get_or, take, false, sym, ◌∙◌, ap}
use Rattle.std.proofs.lemmas.List.{take_more, flat_map_more}
use Rattle.std.proofs.lemmas.Fmt.{hex_byte}
use Rattle.std.proofs.Output.{has_written_append, has_written_of_eq}
use Rattle.std.specs.List.{flat_map}
use Rattle.std.specs.Fmt.{HasWritten, padded_integral, format_spec, digits}
use Rattle.script.specs.Shown.{pair}
use Rattle.script.proofs.shown.HexDisplay.fmt.Goals as goal

-- what `{:02x}` writes after a space
written : ℕ → List ℕ
written b = 32 ∷ padded_integral (format_spec 32 0 4 2 (2 ^ 64 - 1)) false [] (digits 16 false b)

-- the bytes before, and one more
shown_more : (bs : List ℕ) (i : ℕ) → i < length bs → get_or bs i 0 < 256 → flat_map pair (take i bs) ++ written (get_or bs i 0) ≡ flat_map pair (take (i + 1) bs)
unfolding written
shown_more bs i l small =
    ap (λ (text : List ℕ). flat_map pair (take i bs) ++ 32 ∷ text) (hex_byte false (get_or bs i 0) small)
    ∙ flat_map_more pair [] (take i bs) (get_or bs i 0)
    ∙ ap (λ (xs : List ℕ). flat_map pair xs) (sym (take_more bs i 0 l))

pub loop-b-preserved : goal.loop-b-preserved
unfolding written
loop-b-preserved g c p =
    let bs = c.args.self.now.bytes.now in
    let i = c.loop-b.b-index in
    let one : HasWritten g.W.Write.write_str_gives c.loop-b.f (written (get_or bs i 0)) c.write.new.self = search rules in
    let small : get_or bs i 0 < 256 = search rules in
    has_written_of_eq _ _ _ _ _ (shown_more bs i c.loop-b-test.true small) (has_written_append _ _ _ _ _ _ (c.loop-b.invariant p) one)
