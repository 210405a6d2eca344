-- How many of the first nodes are input nodes.
use Rattle.std.proofs.Common.{◌≡◌, ℕ, zero, suc, ◌+◌, List, [], ◌∷◌, take, Some, ◌∙◌, ap, arith}
use Rattle.std.specs.Prelude.{slice_get}
use Rattle.ca_net.specs.declared.node.NodeKind.{NodeKind}
use Rattle.ca_net.specs.declared.node.NodeKind.TheVariants.{Input, Storage}
use Rattle.ca_net.specs.Wave.{input_count}

count_suc : (kinds : List NodeKind) (n : ℕ) (kind : NodeKind) → slice_get kinds n ≡ Some kind
    → input_count (take (suc n) kinds) ≡ input_count (take n kinds) + input_count (kind ∷ [])
count_suc [] n kind is = absurd cc
count_suc (Storage size ∷ kinds) zero kind is = cc
count_suc (Storage size ∷ kinds) (suc n) kind is = count_suc kinds n kind is
count_suc (Input ∷ kinds) zero kind is = cc
count_suc (Input ∷ kinds) (suc n) kind is = let h = count_suc kinds n kind is in omega arith

-- one node more counts as one where it is an input node
pub counts_more : (kinds : List NodeKind) (n : ℕ) (kind : NodeKind) → slice_get kinds n ≡ Some kind
    → input_count (take (n + 1) kinds) ≡ input_count (take n kinds) + input_count (kind ∷ [])
counts_more kinds n kind is =
    ap (λ k. input_count (take k kinds)) (let e : n + 1 ≡ suc n = omega arith in e) ∙ count_suc kinds n kind is
