use Rattle.ca_linked.specs.code.Reading.{HaveReaders, ReadsSoFar}
use Rattle.ca_linked.proofs.readers.Readers.add_part.Given as goal

abbrev pub invariant-loop-pin : goal.invariant-loop-pin
invariant-loop-pin l = HaveReaders l.draft (ReadsSoFar l.draft l.u l.inputs l.pin) l.self
