use Rattle.auto_reduce.proofs.quotient.place_table.Goals as goal

pub class_numbers-requires : goal.class_numbers-requires
class_numbers-requires c = rw (c.as_slice.ensures.value, c.in_ok-numbers.ensures.size) c.requires.canon

pub returns : goal.returns
returns c = record {
  numbers = c.in_ok-numbers.numbers.items;
  are_numbers = c.in_ok-numbers.ensures;
  are_class_numbers = rw c.as_slice.ensures.value at c.in_ok-table.ensures;
}
