-- `writing::write` meets its contract. Assumes nothing.
use Rattle.std.proofs.Common.{arith, refl, ◌∙◌, append_assoc, length-append}
use Rattle.laws.specs.OverLaws.{over_none, over_more, over_all}
use Rattle.wire.specs.Datagram.{be, head_of}
use Rattle.wire.specs.DatagramLaws.{be_length}
use Rattle.writing.proofs.Bytes.{be_1, be_2, be_4, be_8}
use Rattle.writing.proofs.write.Goals as goal

pub returns : goal.returns
unfolding head_of
returns c =
    let h = c.args.h in
    let o₁ = over_more _ (be 1 h.kind) 0 1 (over_none c.args.out.now) (be_1 _ c.copy_from_slice.ensures.after c.to_be_bytes.ensures) refl (be_length 1 _) in
    let o₂ = over_more _ (be 1 h.flags) 1 1 o₁ (be_1 _ c.copy_from_slice-2.ensures.after c.to_be_bytes-2.ensures) (simp (length-append, be_length)) (be_length 1 _) in
    let o₃ = over_more _ (be 2 h.length) 2 2 o₂ (be_2 _ c.copy_from_slice-3.ensures.after c.to_be_bytes-3.ensures) (simp (length-append, be_length)) (be_length 2 _) in
    let o₄ = over_more _ (be 8 h.epoch) 4 8 o₃ (be_8 _ c.copy_from_slice-4.ensures.after c.to_be_bytes-4.ensures) (simp (length-append, be_length)) (be_length 8 _) in
    let o₅ = over_more _ (be 8 h.number) 12 8 o₄ (be_8 _ c.copy_from_slice-5.ensures.after c.to_be_bytes-5.ensures) (simp (length-append, be_length)) (be_length 8 _) in
    let o₆ = over_more _ (be 8 h.position) 20 8 o₅ (be_8 _ c.copy_from_slice-6.ensures.after c.to_be_bytes-6.ensures) (simp (length-append, be_length)) (be_length 8 _) in
    let o₇ = over_more _ (be 4 h.credit) 28 4 o₆ (be_4 _ c.copy_from_slice-7.ensures.after c.to_be_bytes-7.ensures) (simp (length-append, be_length)) (be_length 4 _) in
    over_all o₇ (simp (length-append, be_length) (omega arith)) ∙ simp append_assoc
