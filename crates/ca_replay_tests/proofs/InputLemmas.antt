-- The input nodes of a network, listed one after another.
use Rattle.std.proofs.Common.{◌≡◌, ℕ, ◌+◌, ◌<◌, List, [], ◌∷◌, ◌++◌, length, ◌∙◌, sym, subst, arith}
use Rattle.std.specs.Prelude.{Some, slice_get}
use Rattle.std.specs.List.{Contains}
use native.Mathlib.Decide.{ℕ_discrete}
use Rattle.std.proofs.lemmas.Option.{get_or_from_slice_get}
use Rattle.std.proofs.lemmas.List.{map-append}
use Rattle.std.proofs.lemmas.List.Elements.{All-nil, All-push, Contains-append_left, Contains-push}
use Rattle.ca_net.specs.declared.trit.Trit.{Trit}
use Rattle.ca_net.specs.declared.node.NodeId.{NodeId}
use Rattle.ca_net.specs.declared.node.NodeKind.{NodeKind}
use Rattle.ca_net.specs.declared.node.NodeKind.TheVariants.{Input, Storage}
use Rattle.ca_net.specs.Circuit.{Circuit, kind_at, IsInput}
use Rattle.ca_order.specs.Allowed.{numbers}
use Rattle.ca_replay.specs.Replay.{CoverInputs}
use Rattle.ca_replay_tests.specs.code.Inputs.{AreInputs}

module _ (net : Circuit) (n : ℕ) (inputs : List NodeId) (before : AreInputs net n inputs) where
  pub input_listed : (node : NodeId) → node.0 ≡ n → n < length net.nodes → slice_get net.nodes n ≡ Some Input
      → AreInputs net (n + 1) (inputs ++ node ∷ [])
  input_listed node is lt got = record {
    are_inputs = All-push (λ (input : NodeId). IsInput net input.0) inputs node before.are_inputs
        (subst (IsInput net) (sym is) (lt, get_or_from_slice_get net.nodes n Input Input got));
    listed = λ m le input.
        subst (λ all. Contains all m) (sym (map-append (λ (x : NodeId). x.0) inputs (node ∷ []))) (elim (ℕ_discrete m n) [
          | yes e ↦ subst (Contains (numbers inputs ++ node.0 ∷ [])) (is ∙ sym e) (Contains-push (numbers inputs) node.0)
          | no ne ↦ Contains-append_left (numbers inputs) (node.0 ∷ []) m (before.listed m (omega arith) input)
        ]);
  }

  pub storage_passed : (size : ℕ) → slice_get net.nodes n ≡ Some (Storage size) → AreInputs net (n + 1) inputs
  storage_passed size got = record {
    are_inputs = before.are_inputs;
    listed = λ m le input. elim (ℕ_discrete m n) [
      | yes e ↦
          let here : ◌≡◌ {A = NodeKind} (Storage size) Input =
          sym (get_or_from_slice_get net.nodes n (Storage size) Input got) ∙ subst (λ k. kind_at net k ≡ Input) e input in cc
      | no ne ↦ before.listed m (omega arith) input
    ];
  }

  pub all_inputs : n ≡ length net.nodes → (v1 v2 : List Trit) → CoverInputs net v1 v2 inputs
  all_inputs all v1 v2 = record {
    are_inputs = before.are_inputs;
    others = λ m input out. absurd (out (before.listed m (let lt = input.0 in omega arith) input.1));
  }

-- of an empty list
pub no_inputs : (net : Circuit) → AreInputs net 0 []
no_inputs net = record { are_inputs = All-nil (λ (input : NodeId). IsInput net input.0); listed = λ m lt. absurd (omega arith) }
