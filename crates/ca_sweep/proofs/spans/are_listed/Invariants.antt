use Rattle.ca_sweep.specs.code.Spans.{AreListed}
use Rattle.ca_sweep.proofs.spans.are_listed.Given as goal

abbrev pub invariant-loop-place : goal.invariant-loop-place
invariant-loop-place l = record {
  listed : AreListed l.cell l.list l.start l.place;
}
