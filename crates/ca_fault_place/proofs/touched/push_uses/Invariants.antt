use Rattle.std.proofs.Common.{◌≡◌, ◌++◌}
use Rattle.std.specs.Prelude.{take}
use Rattle.std.specs.List.{flat_map}
use Rattle.ca_verilog.specs.declared.raw.RawUse.{RawUse}
use Rattle.ca_fault_place.specs.code.Touched.{use_wires}
use Rattle.ca_fault_place.proofs.touched.push_uses.Given as goal

abbrev pub invariant-loop-k : goal.invariant-loop-k
invariant-loop-k l = l.wires.items
    ≡ l.fn.wires.items ++ flat_map (λ (used : RawUse). use_wires l.bits used.bit) (take l.k l.uses)
