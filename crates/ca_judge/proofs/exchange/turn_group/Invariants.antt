use Rattle.ca_judge.proofs.exchange.turn_group.Given as goal

abbrev pub invariant-loop-number : goal.invariant-loop-number
invariant-loop-number l = record {
  ready : (goal.iterator-loop-number).can_next l.number-iterator;
  ends : (goal.iterator-loop-number).is_finite l.number-iterator;
}
