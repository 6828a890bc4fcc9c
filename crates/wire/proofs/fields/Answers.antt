-- `wire::fields` meets its contract. Assumes nothing.
use Rattle.std.proofs.Common.{sym, rules}
use Rattle.wire.specs.Reading.{fields_of}
use Rattle.wire.proofs.ReadingLaws.{same_fields}
use Rattle.wire.proofs.Numbers.{num_1, num_2, num_4, num_8}
use Rattle.wire.proofs.fields.Goals as goal

pub returns : goal.returns
unfolding fields_of
returns c = record {
  are =
      same_fields (fields_of c.args.d.now)
      (sym (num_1 _ 0)) (sym (num_1 _ 1))
      (num_2 _ 2 c.from_be_bytes.ensures c.bytes.ensures)
      (num_8 _ 4 c.from_be_bytes-2.ensures c.bytes-2.ensures)
      (num_8 _ 12 c.from_be_bytes-3.ensures c.bytes-3.ensures)
      (num_8 _ 20 c.from_be_bytes-4.ensures c.bytes-4.ensures)
      (num_4 _ 28 c.from_be_bytes-5.ensures c.bytes-5.ensures);
  flags = search rules;
  length = search rules;
  credit = search rules;
}
