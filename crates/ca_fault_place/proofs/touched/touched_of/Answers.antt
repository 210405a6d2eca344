use Rattle.ca_fault_place.proofs.touched.touched_of.Goals as goal

pub push_ports-requires-clause-ports : goal.push_ports-requires-clause-ports
push_ports-requires-clause-ports c = rw (c.as_slice-2.ensures, c.as_slice-3.ensures) c.requires.ports
