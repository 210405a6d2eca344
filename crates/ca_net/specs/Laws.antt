-- Laws of the definitions. Each is the contract of a public function that does nothing (src/laws.rt).
use Rattle.std.specs.Prelude.{ℕ, ◌≡◌, ◌<◌, List, length, ◌↔◌, ◌≢◌}
use Rattle.ca_net.specs.declared.scale.TheConstants.{INNER_NODE, OUTPUT_NET, WEAKEST, STRONGEST, BRIDGE}
use Rattle.ca_net.specs.declared.scale.TheConstants.{INPUT}
use Rattle.ca_net.specs.declared.trit.Trit.{Trit}
use Rattle.ca_net.specs.declared.trit.Trit.TheVariants.{X}
use Rattle.ca_net.specs.Circuit.{Circuit, IsWellFormed}
use Rattle.ca_net.specs.Trit.{IsBelow}
use Rattle.ca_net.specs.State.{IsStateBelow, value_at}
use Rattle.ca_net.specs.Response.{IsResponse, HasUnblocked}
use Rattle.ca_net.specs.PairRun.{EndsAt}
use Rattle.ca_net.specs.Limits.{AreLimits, IsMeet}

-- the scale of sizes and strengths is in order, weakest first: inner node, output net, the weakest
-- transistors, the strongest ones, bridge, input node; and no size is 0
pub record ScaleIsOrdered : Type 0 where
  pub some_size : 0 < INNER_NODE
  pub sizes : INNER_NODE < OUTPUT_NET
  pub devices_above_nodes : OUTPUT_NET < WEAKEST
  pub transistors : WEAKEST < STRONGEST
  pub bridge_above_transistors : STRONGEST < BRIDGE
  pub inputs_above_devices : BRIDGE < INPUT

-- the response rises: that of a node in a state is below its response in any state above
abbrev pub ResponseRises : Type 0
ResponseRises =
    (net : Circuit) (s t : List Trit) (n : ℕ) (v w : Trit) → IsWellFormed net → n < length net.nodes
    → IsStateBelow s t
    → IsResponse net s n v → IsResponse net t n w → IsBelow v w

-- a response never holds for lack of paths: to each node some definite path isn't blocked
abbrev pub SomePathIsUnblocked : Type 0
SomePathIsUnblocked =
    (net : Circuit) (s : List Trit) (n : ℕ) → IsWellFormed net → n < length net.nodes → HasUnblocked net s n

-- the last limit of a node is v in {0, 1} exactly where every pair run ends with v there
abbrev pub LastLimitIsEnd : Type 0
LastLimitIsEnd =
    (net : Circuit) (v1 vm v2 first middle last : List Trit) (n : ℕ) (v : Trit) → IsWellFormed net
    → n < length net.nodes
    → IsMeet net v1 v2 vm → AreLimits net v1 vm v2 first middle last
    → ((v ≢ X) × (value_at last n ≡ v)) ↔ EndsAt net v1 v2 n v
