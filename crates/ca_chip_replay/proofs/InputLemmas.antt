-- The nodes of the chip inputs, and that no other input node changes.
use Rattle.std.proofs.Common.{◌≡◌, ℕ, zero, suc, ◌+◌, ◌<◌, ◌≤◌, ◌==◌, List, [], ◌∷◌, ◌++◌, length, inl, inr}
use Rattle.std.proofs.Common.{refl, sym, ◌∙◌, ap, subst, arith}
use Rattle.std.specs.Prelude.{map, take, slice_index, Option}
use Rattle.std.specs.List.{Contains}
use Rattle.std.proofs.lemmas.Bool.{cases_lt, cond-false}
use Rattle.std.proofs.lemmas.List.{take_all, map-append}
use Rattle.std.proofs.lemmas.List.Elements.{All-map, All-from_get_or}
use Rattle.ca_net.specs.declared.trit.Trit.{Trit}
use Rattle.ca_net.specs.declared.trit.Trit.TheVariants.{X}
use Rattle.ca_net.specs.declared.node.NodeId.{NodeId}
use Rattle.ca_net.specs.Circuit.{IsInput}
use Rattle.ca_net.specs.State.{value_at}
use Rattle.ca_flat.specs.declared.chip_defect.ChipDefect.{ChipDefect}
use Rattle.ca_flat.specs.Chip.{Chip}
use Rattle.ca_flat.specs.Flat.{flat}
use Rattle.ca_flat.specs.Pair.{input_value, constant_value, net_value}
use Rattle.ca_flat.proofs.Spots.{flat_net}
use Rattle.ca_order.specs.Allowed.{numbers}
use Rattle.ca_replay.specs.Replay.{CoverInputs}
use Rattle.ca_replay.proofs.ValueLemmas.{contains_head, contains_tail}
use Rattle.ca_view.specs.Linked.{IsPinned}
use Rattle.ca_sim.proofs.Feeding.{neq-eqb}
use Rattle.ca_chip_replay.specs.ChipRun.{input_nodes}
use Rattle.ca_chip_replay.specs.code.Kept.{IsVector}

-- the node of a net
abbrev pub node_of : ℕ → NodeId
node_of net = record { 0 = 2 + net }

take_next : (xs : List ℕ) (k : ℕ) → k < length xs → take (suc k) xs ≡ take k xs ++ slice_index xs k ∷ []
take_next [] k within = absurd (omega arith)
take_next (x ∷ xs) zero within = refl
take_next (x ∷ xs) (suc k) within = ap (λ (rest : List ℕ). x ∷ rest) (take_next xs k (omega arith))

-- one node more
pub node_adds : (inputs : List ℕ) (k : ℕ) (node : NodeId) (old new : List NodeId) → k < length inputs → node ≡ node_of (slice_index inputs k)
    → old ≡ map node_of (take k inputs) → new ≡ old ++ node ∷ [] → new ≡ map node_of (take (k + 1) inputs)
node_adds inputs k node old new within node_is old_is new_is =
    new_is ∙ ap (λ (l : List NodeId). l ++ node ∷ []) old_is ∙ ap (λ (n : NodeId). map node_of (take k inputs) ++ n ∷ []) node_is
    ∙ sym (map-append node_of (take k inputs) (slice_index inputs k ∷ []))
    ∙ ap (map node_of) (sym (take_next inputs k within) ∙ ap (λ (n : ℕ). take n inputs) (let e : suc k ≡ k + 1 = omega arith in e))

pub nodes_all : (inputs : List ℕ) (k : ℕ) (nodes : List NodeId) → length inputs ≤ k → nodes ≡ map node_of (take k inputs) → nodes ≡ map node_of inputs
nodes_all inputs k nodes all is = is ∙ ap (map node_of) (take_all k inputs all)

-- a net that is no chip input has no bit
no_bit : (inputs : List ℕ) (bits : List Trit) (bit net : ℕ) → (Contains (numbers (map node_of inputs)) (2 + net) → ⊥) → input_value inputs bits bit net ≡ X
no_bit [] bits bit net none = refl
no_bit (input ∷ inputs) bits bit net none =
    cond-false (net == input) _ _ (neq-eqb net input (λ e. none (subst (λ (n : ℕ). Contains (numbers (map node_of (input ∷ inputs))) (2 + n)) (sym e)
    (contains_head (2 + input) (numbers (map node_of inputs))))))
    ∙ no_bit inputs bits (bit + 1) net (λ has. none (contains_tail (2 + input) (numbers (map node_of inputs)) (2 + net) has))

module _ (chip : Chip) (given : Option ChipDefect) (pair : List Trit) where
  -- the nodes of the chip inputs are input nodes, and no other input node changes from the one vector to the
  -- other
  pub inputs_cover : (nodes : ℕ) (first last : List Trit) → IsPinned chip → 2 + length chip.nets ≤ length (flat chip given).nodes
      → IsVector nodes (length chip.nets) (net_value chip pair 0) first
      → IsVector nodes (length chip.nets) (net_value chip pair (length chip.inputs)) last
      → CoverInputs (flat chip given) first last (input_nodes chip)
  inputs_cover nodes first last pinned fits first_is last_is = record {
    are_inputs = All-map (λ (input : NodeId). IsInput (flat chip given) input.0) node_of chip.inputs
        (All-from_get_or (λ (net : ℕ). IsInput (flat chip given) (2 + net)) chip.inputs 0 (λ k lt.
        let within = pinned.within k lt in
        (omega arith, flat_net chip given (slice_index chip.inputs k) within ∙ pinned.kind k lt)));
    others = others;
  }
    where
      same_net : (net : ℕ) → net < length chip.nets → (Contains (numbers (input_nodes chip)) (2 + net) → ⊥) → value_at first (2 + net) ≡ value_at last (2 + net)
      same_net net lt out =
          first_is.each net lt
          ∙ ap (λ v. constant_value chip.constants v net) (no_bit chip.inputs pair 0 net out ∙ sym (no_bit chip.inputs pair (length chip.inputs) net out))
          ∙ sym (last_is.each net lt)

      others : (n : ℕ) → IsInput (flat chip given) n → (Contains (numbers (input_nodes chip)) n → ⊥) → value_at first n ≡ value_at last n
      others zero is out = first_is.power ∙ sym last_is.power
      others (suc zero) is out = first_is.ground ∙ sym last_is.ground
      others (suc (suc n)) is out = elim (cases_lt n (length chip.nets)) [
        | inl within ↦
            let e : suc (suc n) ≡ 2 + n = omega arith in
            ap (value_at first) e ∙ same_net n within (subst (λ k. Contains (numbers (input_nodes chip)) k → ⊥) e out) ∙ sym (ap (value_at last) e)
        | inr far ↦ first_is.past (suc (suc n)) (omega arith) ∙ sym (last_is.past (suc (suc n)) (omega arith))
      ]
