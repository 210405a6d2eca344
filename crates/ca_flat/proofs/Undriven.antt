-- A net that is driven by a cell without devices is unknown.
use Rattle.std.proofs.Common.{◌≡◌, ℕ, ◌+◌, ◌<◌, List, [], length, inl, inr, refl, sym, ◌∙◌, ap, subst, arith}
use Rattle.std.specs.List.{Contains}
use Rattle.ca_net.specs.declared.scale.TheConstants.{OUTPUT_NET}
use Rattle.ca_net.specs.declared.node.NodeKind.{NodeKind}
use Rattle.ca_net.specs.declared.node.NodeKind.TheVariants.{Input, Storage}
use Rattle.ca_net.specs.declared.device.Device.{Device}
use Rattle.ca_net.specs.declared.trit.Trit.{Trit}
use Rattle.ca_net.specs.declared.trit.Trit.TheVariants.{Zero, One, X}
use Rattle.ca_net.specs.Circuit.{Circuit, IsStorage, kind_at}
use Rattle.ca_net.specs.Trit.{IsBelow}
use Rattle.ca_net.specs.State.{value_at}
use Rattle.ca_net.specs.Path.{Path, Root, Via, end_of, strength_of, root_strength, IsPath}
use Rattle.ca_net.specs.Response.{Reaches, ResponseAt, IsResponse}
use Rattle.ca_net.specs.Limits.{IsFixed, AreLimits}
use Rattle.ca_net.proofs.StateLemmas.{storage_within}
use Rattle.ca_net.proofs.EndsAbove.{base, base_state, base_inputs, base_storage}
use Rattle.ca_flat.specs.Chip.{inputs_at, output_net}
use Rattle.ca_flat.specs.Flat.{circuit_in}
use Rattle.ca_flat.specs.Waves.{wave_of, unknown_wave, UndrivenIsUnknown}
use Rattle.ca_flat.proofs.Clashes.{wave_ext}
use Rattle.ca_flat.proofs.Spots.{body}
use Rattle.ca_flat.proofs.InstanceWaves.{at_instance, output_value, part_limits}

-- what is below an unknown value is unknown
below_unknown : (a : Trit) → IsBelow a X → a ≡ X
below_unknown a (inl e) = e
below_unknown a (inr e) = e

module _ (net : Circuit) (bare : net.devices ≡ []) where
  no_device : (d : Device) → Contains net.devices d → ⊥
  no_device d h =
      let below : h.0 < length net.devices = h.1 in
      let none : length net.devices ≡ 0 = ap length bare in
      omega arith

  -- the only path to a node is its own charge
  no_stronger : (n : ℕ) (p : Path) → IsPath net p → end_of p ≡ n → strength_of net (Root n) < strength_of net p → ⊥
  no_stronger n (Root r) is ends less =
      let same : root_strength (kind_at net r) ≡ root_strength (kind_at net n) = ap (λ m. root_strength (kind_at net m)) ends in omega arith
  no_stronger n (Via p d m) is ends less = no_device d is.1

  -- so an unknown node responds with X
  unknown_responds : (s : List Trit) (n : ℕ) → n < length net.nodes → value_at s n ≡ X → IsResponse net s n X
  unknown_responds s n within unknown = by (kind_at net n) refl
    where
      reaches : Reaches net s n (Root n)
      reaches = record { is_path = within; ends = refl; potential = tt; unblocked = λ h. no_stronger n h.path h.is_path h.ends h.stronger }

      not_zero : X ≡ Zero → ⊥
      not_zero same = cc

      not_one : X ≡ One → ⊥
      not_one same = cc

      by : (k : NodeKind) → kind_at net n ≡ k → ResponseAt k net s n X
      by Input is = sym unknown
      by (Storage size) is = ((λ all. not_zero (sym unknown ∙ all (Root n) reaches)), (λ all. not_one (sym unknown ∙ all (Root n) reaches)))

  blank : (v : List Trit) → List Trit
  blank v = base net v []

  blank_unknown : (v : List Trit) (n : ℕ) → IsStorage net n → value_at (blank v) n ≡ X
  unfolding blank
  blank_unknown v n st = base_storage net v [] n st

  blank_fixed : (v : List Trit) → IsFixed net v (blank v)
  unfolding blank
  blank_fixed v = record {
    is_state = base_state net v [];
    inputs = base_inputs net v [];
    fixed = λ n st. subst (IsResponse net (base net v []) n) (sym (base_storage net v [] n st))
        (unknown_responds (base net v []) n (storage_within net n st) (base_storage net v [] n st));
  }

  module _ (v1 vm v2 first middle last : List Trit) (limits : AreLimits net v1 vm v2 first middle last) (n : ℕ) (st : IsStorage net n) where
    pub first_unknown : value_at first n ≡ X
    first_unknown = below_unknown _ (subst (IsBelow (value_at first n)) (blank_unknown v1 n st) (limits.is_first.least (blank v1) (blank_fixed v1) n))

    pub middle_unknown : value_at middle n ≡ X
    middle_unknown = below_unknown _ (subst (IsBelow (value_at middle n)) first_unknown (limits.is_middle.held.below_first n))

  pub last_unknown : (v1 vm v2 first middle last : List Trit) → AreLimits net v1 vm v2 first middle last → (n : ℕ) → IsStorage net n → value_at last n ≡ X
  last_unknown v1 vm v2 first middle last limits n st = below_unknown _ (subst (IsBelow (value_at last n)) (blank_unknown v2 n st)
      (limits.is_last.least (blank v2) (blank_fixed v2) (λ m sm. inl (middle_unknown v1 vm v2 first middle last limits m sm)) n))

pub not_input : (k : NodeKind) (size : ℕ) → k ≡ Storage size → k ≡ Input → ⊥
not_input k size stored given = let same : Input ≡ Storage size = sym given ∙ stored in cc

pub undriven_is_unknown_lem : UndrivenIsUnknown
undriven_is_unknown_lem chip rank o pair waves u output flattened lt within bare =
    let net : Circuit = circuit_in chip o u in
    let n : ℕ = 2 + inputs_at chip u + output in
    let limits = part_limits chip rank o flattened pair waves u lt in
    let stored : kind_at net n ≡ Storage OUTPUT_NET =
    (body chip rank o flattened.chip_is flattened.defect_is u lt).driven n (omega arith) (omega arith) in
    let st : IsStorage net n = not_input (kind_at net n) OUTPUT_NET stored in
    let at : (s : List Trit) → value_at (at_instance chip rank o flattened u s) n ≡ value_at s (2 + output_net chip u output) =
    λ s. output_value chip rank o flattened u output s lt within in
    wave_ext (wave_of waves (output_net chip u output)) unknown_wave
    (sym (at waves.first) ∙ first_unknown net bare _ _ _ _ _ _ limits n st)
    (sym (at waves.middle) ∙ middle_unknown net bare _ _ _ _ _ _ limits n st)
    (sym (at waves.last) ∙ last_unknown net bare _ _ _ _ _ _ limits n st)
