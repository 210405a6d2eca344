-- Laws of replayed runs. Each is the contract of a public function that does nothing (src/laws.rt).
use Rattle.std.specs.Prelude.{◌≡◌, List}
use Rattle.std.specs.List.{AllByRecursion}
use Rattle.ca_net.specs.declared.trit.Trit.{Trit}
use Rattle.ca_net.specs.declared.node.NodeId.{NodeId}
use Rattle.ca_net.specs.Circuit.{Circuit, IsWellFormed}
use Rattle.ca_net.specs.Event.{Event}
use Rattle.ca_net.specs.PairRun.{MayCome, PairRun}
use Rattle.ca_replay.specs.Replay.{CoverInputs, IsReplay}

-- a replayed run is a pair run, where its events may come and its inputs cover those that change
abbrev pub ReplayIsPairRun : Type 0
ReplayIsPairRun =
    (net : Circuit) (inputs : List NodeId) (v1 v2 : List Trit) (events : List Event) (end : List Trit)
    → CoverInputs net v1 v2 inputs → AllByRecursion (MayCome v1 v2) events
    → IsReplay net inputs v1 v2 events end → PairRun net v1 v2 end

-- the events name one run: it ends in one state
abbrev pub ReplayIsUnique : Type 0
ReplayIsUnique =
    (net : Circuit) (inputs : List NodeId) (v1 v2 : List Trit) (events : List Event) (one other : List Trit)
    → IsWellFormed net → IsReplay net inputs v1 v2 events one → IsReplay net inputs v1 v2 events other
    → one ≡ other
