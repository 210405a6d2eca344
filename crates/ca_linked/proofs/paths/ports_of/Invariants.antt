use Rattle.std.specs.Prelude.{take}
use Rattle.std.specs.List.{list_any}
use Rattle.ca_linked.specs.Linked.{net_count}
use Rattle.ca_linked.specs.Paths.{AreMarks, is_port_on}
use Rattle.ca_linked.proofs.paths.ports_of.Given as goal

abbrev pub invariant-loop-p : goal.invariant-loop-p
invariant-loop-p l = AreMarks (net_count l.draft) (λ net. list_any (is_port_on l.is_input net) (take l.p l.draft.ports)) l.marks
