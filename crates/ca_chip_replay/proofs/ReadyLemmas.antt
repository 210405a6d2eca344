-- What is ready for a run is of the chip's flat network.
use Rattle.std.proofs.Common.{ℕ, ◌+◌, ◌≤◌, List, ◌++◌, length, length-append, map, replicate, sym, ap, subst}
use Rattle.std.proofs.Common.{arith}
use Rattle.std.specs.Prelude.{Result, Ok, Err, IfOk}
use Rattle.std.specs.List.{All}
use Rattle.ca_net.specs.declared.trit.Trit.{Trit}
use Rattle.ca_net.specs.declared.node.NodeId.{NodeId}
use Rattle.ca_net.specs.declared.scale.TheConstants.{INNER_NODE}
use Rattle.ca_net.specs.declared.node.NodeKind.TheVariants.{Storage}
use Rattle.ca_net.specs.Circuit.{Circuit}
use Rattle.ca_net.specs.PairRun.{PairRun}
use Rattle.ca_flat.specs.Chip.{count_of}
use Rattle.ca_flat.specs.Flat.{flat, inner_before, new_nodes, defect_of}
use Rattle.ca_flat.specs.Pair.{net_value, first_vector, last_vector}
use Rattle.ca_order.specs.declared.event.Event as order
use Rattle.ca_order.specs.declared.event.OrderFault.{OrderFault}
use Rattle.ca_order.specs.Allowed.{meaning, IsAllowed, ReadsFor}
use Rattle.ca_replay.specs.Replay.{CoverInputs, IsReplay}
use Rattle.ca_chip_replay.specs.ChipRun.{RunOf, input_nodes, AreReplayed}
use Rattle.ca_chip_replay.specs.code.Kept.{IsReady, HaveOneValue, AreOutputValues}
use Rattle.ca_chip_replay.proofs.VectorLemmas.{one_value}
use Rattle.ca_chip_replay.proofs.SameLemmas.{same_back, replay_same, pair_run_same, allowed_same, reads_same}
use Rattle.ca_chip_replay.proofs.SameLemmas.{answer_allowed}
use Rattle.ca_chip_replay.proofs.InputLemmas.{inputs_cover}

-- what each value has that has another
pub on_ok : {T E : Type 0} (result : Result T E) (P Q : T → Type 0) → ((x : T) → P x → Q x) → IfOk result P → IfOk result Q
on_ok (Ok x) P Q h is = h x is
on_ok (Err e) P Q h is = tt

module _ (run : RunOf) (net : Circuit) (inputs : List NodeId) (first last : List Trit) (is : IsReady run net inputs first last) where
  one_first : HaveOneValue first (first_vector run.chip run.pair)
  one_first = one_value run.chip (net_value run.chip run.pair 0) (length net.nodes) first is.first_is

  one_last : HaveOneValue last (last_vector run.chip run.pair)
  one_last = one_value run.chip (net_value run.chip run.pair (length run.chip.inputs)) (length net.nodes) last is.last_is

  pub ready_reads : (text : List ℕ) (answer : Result (List order.Event) OrderFault) → ReadsFor net first last text answer
      → ReadsFor (flat run.chip run.given) (first_vector run.chip run.pair) (last_vector run.chip run.pair) text answer
  ready_reads text answer reads = subst (λ (c : Circuit). ReadsFor c (first_vector run.chip run.pair) (last_vector run.chip run.pair) text answer) is.is_net
      (reads_same net first last (first_vector run.chip run.pair) (last_vector run.chip run.pair) text answer one_first one_last reads)

  pub ready_allowed : (answer : Result (List order.Event) OrderFault) → IfOk answer (All (IsAllowed net first last))
      → IfOk answer (All (IsAllowed (flat run.chip run.given) (first_vector run.chip run.pair) (last_vector run.chip run.pair)))
  ready_allowed answer all =
      subst (λ (c : Circuit). IfOk answer (All (IsAllowed c (first_vector run.chip run.pair) (last_vector run.chip run.pair)))) is.is_net
      (answer_allowed net first last (first_vector run.chip run.pair) (last_vector run.chip run.pair) answer one_first one_last all)

  pub ready_events : (events : List order.Event)
      → All (IsAllowed (flat run.chip run.given) (first_vector run.chip run.pair) (last_vector run.chip run.pair)) events
      → All (IsAllowed net first last) events
  ready_events events all =
      allowed_same net (first_vector run.chip run.pair) (last_vector run.chip run.pair) first last
      (same_back first (first_vector run.chip run.pair) one_first) (same_back last (last_vector run.chip run.pair) one_last) events
      (subst (λ (c : Circuit). All (IsAllowed c (first_vector run.chip run.pair) (last_vector run.chip run.pair)) events) (sym is.is_net) all)

  pub nets_fit : 2 + length run.chip.nets ≤ length net.nodes
  nets_fit =
      let l = length-append run.chip.nets (replicate (inner_before run.chip (count_of run.chip)) (Storage INNER_NODE) ++ new_nodes (defect_of run.given)) in
      let e = ap (λ (c : Circuit). length c.nodes) is.is_net in
      subst (λ (n : ℕ). 2 + length run.chip.nets ≤ n) (sym e) (omega (arith, l))

  pub ready_covers : CoverInputs net first last inputs
  ready_covers =
      subst (λ (c : Circuit). CoverInputs c first last inputs) (sym is.is_net)
      (subst (CoverInputs (flat run.chip run.given) first last) (sym is.inputs_are)
      (inputs_cover run.chip run.given run.pair (length net.nodes) first last is.pinned
      (subst (λ (c : Circuit). 2 + length run.chip.nets ≤ length c.nodes) is.is_net nets_fit) is.first_is is.last_is))

  pub ready_replayed : (events : List order.Event) (end values : List Trit) → IsReplay net inputs first last (map meaning events) end
      → PairRun net first last end → AreOutputValues run.chip end values → AreReplayed run (map meaning events) values
  ready_replayed events end values replay pair_run are = record {
    end = end;
    is_replay = subst (λ (c : Circuit). IsReplay c (input_nodes run.chip) (first_vector run.chip run.pair) (last_vector run.chip run.pair) (map meaning events) end)
        is.is_net (subst (λ (l : List NodeId). IsReplay net l (first_vector run.chip run.pair) (last_vector run.chip run.pair) (map meaning events) end) is.inputs_are
        (replay_same net inputs first last (first_vector run.chip run.pair) (last_vector run.chip run.pair) (map meaning events) end one_first one_last replay));
    is_pair_run = subst (λ (c : Circuit). PairRun c (first_vector run.chip run.pair) (last_vector run.chip run.pair) end) is.is_net
        (pair_run_same net first last (first_vector run.chip run.pair) (last_vector run.chip run.pair) end one_first one_last pair_run);
    count = are.count;
    each = are.each;
  }
