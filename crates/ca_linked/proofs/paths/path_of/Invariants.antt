use Rattle.std.specs.Prelude.{take}
use Rattle.ca_linked.specs.Linked.{net_count, path_nets}
use Rattle.ca_linked.specs.Paths.{AreMarks, is_among}
use Rattle.ca_linked.proofs.paths.path_of.Given as goal

abbrev pub invariant-loop-u : goal.invariant-loop-u
invariant-loop-u l = AreMarks (net_count l.draft) (is_among path_nets (take l.u l.draft.parts)) l.marks
