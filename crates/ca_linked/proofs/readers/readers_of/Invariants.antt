use Rattle.ca_linked.specs.code.Reading.{HaveReaders, ReadsAmong}
use Rattle.ca_linked.proofs.readers.readers_of.Given as goal

abbrev pub invariant-loop-u : goal.invariant-loop-u
invariant-loop-u l = HaveReaders l.draft (ReadsAmong l.draft l.u) l.readers
