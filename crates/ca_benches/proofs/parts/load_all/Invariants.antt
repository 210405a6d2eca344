use Rattle.std.proofs.Common.{◌≡◌, length, take, map}
use Rattle.std.specs.List.{All}
use Rattle.ca_code.specs.Filled.{trits_of}
use Rattle.ca_benches.proofs.parts.load_all.Given as goal

abbrev pub invariant-loop-k : goal.invariant-loop-k
invariant-loop-k g l = record {
  room : length l.parts.items ≡ length l.fn.parts.items;
  tasks : map g.B.Simulator.task l.parts.items ≡ map g.B.Simulator.task l.fn.parts.items;
  bits : All (λ own. own ≡ trits_of l.pair) (take l.k (map g.B.Simulator.bits l.parts.items));
  aimed : map g.B.Simulator.aimed l.parts.items ≡ map g.B.Simulator.aimed l.fn.parts.items;
  aimed_in : map g.B.Simulator.aimed_in l.parts.items ≡ map g.B.Simulator.aimed_in l.fn.parts.items;
}
