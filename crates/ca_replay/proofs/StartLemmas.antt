-- The state in which a run begins, one node after another.
use Rattle.std.proofs.Common.{◌≡◌, ℕ, ◌+◌, ◌<◌, List, length, ◌∙◌, sym, subst, arith, get_or-set_same}
use Rattle.std.proofs.Common.{get_or-set_other, length-set}
use Rattle.std.specs.Prelude.{Some, slice_get, slice_set}
use Rattle.std.proofs.lemmas.Option.{get_or_from_slice_get}
use native.Mathlib.Decide.{ℕ_discrete}
use Rattle.ca_net.specs.declared.trit.Trit.{Trit}
use Rattle.ca_net.specs.declared.trit.Trit.TheVariants.{X}
use Rattle.ca_net.specs.declared.node.NodeKind.{NodeKind}
use Rattle.ca_net.specs.declared.node.NodeKind.TheVariants.{Input, Storage}
use Rattle.ca_net.specs.Circuit.{Circuit, kind_at, IsStorage}
use Rattle.ca_net.specs.State.{value_at}
use Rattle.ca_replay.specs.Replay.{IsStart}

-- the inputs among the first n nodes have their values, and no storage node is known
pub record HasBegun (net : Circuit) (v : List Trit) (n : ℕ) (at : List Trit) : Type 0 where
  pub room : length at ≡ length net.nodes
  pub unknown : (m : ℕ) → IsStorage net m → value_at at m ≡ X
  pub inputs : (m : ℕ) → m < n → kind_at net m ≡ Input → value_at at m ≡ value_at v m

module _ (net : Circuit) (v : List Trit) (n : ℕ) (at : List Trit) (before : HasBegun net v n at) where
  pub input_begun : n < length net.nodes → slice_get net.nodes n ≡ Some Input → (given : Trit) → given ≡ value_at v n
      → HasBegun net v (n + 1) (slice_set at n given)
  input_begun lt got given is = record {
    room = length-set at n given ∙ before.room;
    unknown = λ m storage.
        get_or-set_other at n m given X
        (λ e. storage (subst (λ k. kind_at net k ≡ Input) (sym e) (get_or_from_slice_get net.nodes n Input Input got)))
        ∙ before.unknown m storage;
    inputs = λ m le input. elim (ℕ_discrete m n) [
      | yes e ↦ subst (λ k. value_at (slice_set at n given) k ≡ value_at v k) (sym e)
          (get_or-set_same at n given X (subst (λ k. n < k) (sym before.room) lt) ∙ is)
      | no ne ↦ get_or-set_other at n m given X ne ∙ before.inputs m (omega arith) input
    ];
  }

  pub storage_begun : (size : ℕ) → slice_get net.nodes n ≡ Some (Storage size) → HasBegun net v (n + 1) at
  storage_begun size got = record {
    room = before.room;
    unknown = before.unknown;
    inputs = λ m le input. elim (ℕ_discrete m n) [
      | yes e ↦
          let here : ◌≡◌ {A = NodeKind} (Storage size) Input =
          sym (get_or_from_slice_get net.nodes n (Storage size) Input got) ∙ subst (λ k. kind_at net k ≡ Input) e input in cc
      | no ne ↦ before.inputs m (omega arith) input
    ];
  }

  pub all_begun : n ≡ length net.nodes → IsStart net v at
  all_begun all = record {
    is_state = before.room;
    inputs = λ m input. before.inputs m (let lt = input.0 in omega arith) input.1;
    unknown = before.unknown;
  }
