-- A net's wave depends only on the bits from which a chain of instances leads to it.
use Rattle.std.proofs.Common.{◌≡◌, ℕ, suc, ◌+◌, ◌<◌, List, [], ◌∷◌, length, Option, Some, Bool, true, false}
use Rattle.std.proofs.Common.{cond, inl, inr, refl, sym, ◌∙◌, ap, subst, arith, ◌==◌}
use Rattle.std.specs.Prelude.{slice_get}
use Rattle.std.proofs.lemmas.Bool.{eqb-true}
use Rattle.ca_net.specs.declared.trit.Trit.{Trit}
use Rattle.ca_net.specs.Trit.{meet_of}
use Rattle.ca_net.specs.State.{value_at}
use Rattle.ca_flat.specs.declared.chip_defect.ChipDefect.{ChipDefect}
use Rattle.ca_flat.specs.Chip.{Constant, Chip, output_net}
use Rattle.ca_flat.specs.Pair.{input_value, constant_value, net_value}
use Rattle.ca_flat.specs.Waves.{FlatWaves, wave_of}
use Rattle.ca_flat.specs.Chain.{Leads, AgreeBefore, WavesDependOnBitsBefore}
use Rattle.ca_flat.proofs.Clashes.{wave_ext}
use Rattle.ca_flat.specs.Simulation.{IsFlattened}
use Rattle.ca_flat.proofs.InstanceWaves.{input_wave, instance_same}
use Rattle.ca_flat.proofs.NetInduction.{net_induction}

-- the value of an input net is that of its bits
input_value_same : (inputs : List ℕ) (low high : List Trit) (bit net : ℕ)
    → ((place : ℕ) → slice_get inputs place ≡ Some net → value_at low (bit + place) ≡ value_at high (bit + place))
    → input_value inputs low bit net ≡ input_value inputs high bit net
input_value_same [] low high bit net same = refl
input_value_same (input ∷ inputs) low high bit net same = at (net == input) refl (input_value_same inputs low high (bit + 1) net (λ place there.
    let shift : bit + suc place ≡ bit + 1 + place = omega arith in
    subst (λ x. value_at low x ≡ value_at high x) shift (same (suc place) there)))
  where
    at : (b : Bool) → (net == input) ≡ b → input_value inputs low (bit + 1) net ≡ input_value inputs high (bit + 1) net
        → cond b (value_at low bit) (input_value inputs low (bit + 1) net) ≡ cond b (value_at high bit) (input_value inputs high (bit + 1) net)
    at true e rest =
        let here : bit + 0 ≡ bit = omega arith in
        subst (λ x. value_at low x ≡ value_at high x) here (same 0 (ap Some (sym (eqb-true net input e))))
    at false e rest = rest

constant_value_same : (constants : List Constant) (a b : Trit) (net : ℕ) → a ≡ b → constant_value constants a net ≡ constant_value constants b net
constant_value_same constants a b net e = ap (λ x. constant_value constants x net) e

module _ (chip : Chip) (rank : ℕ → ℕ) (o : Option ChipDefect) (flattened : IsFlattened chip rank o) (pair other : List Trit)
    (waves : FlatWaves chip o pair) (others : FlatWaves chip o other) (end : ℕ) (agree : AgreeBefore chip pair other end) where
  first_same : (net : ℕ) → Leads chip net end → net_value chip pair 0 net ≡ net_value chip other 0 net
  first_same net leads = constant_value_same chip.constants _ _ net (input_value_same chip.inputs pair other 0 net
      (λ place there. agree (0 + place) place net there (inl (omega arith)) leads))

  last_same : (net : ℕ) → Leads chip net end → net_value chip pair (length chip.inputs) net ≡ net_value chip other (length chip.inputs) net
  last_same net leads = constant_value_same chip.constants _ _ net (input_value_same chip.inputs pair other (length chip.inputs) net
      (λ place there. agree (length chip.inputs + place) place net there (inr refl) leads))

  -- nets that lead to the end have one wave for both pairs
  leading_same : (net : ℕ) → net < length chip.nets → Leads chip net end → wave_of waves net ≡ wave_of others net
  leading_same = net_induction chip rank flattened.chip_is (λ net. Leads chip net end → wave_of waves net ≡ wave_of others net)
      (λ net within kind leads. input_wave chip rank o flattened pair waves net within kind
      ∙ wave_ext _ _ (first_same net leads)
      (ap (λ x. meet_of x (net_value chip pair (length chip.inputs) net)) (first_same net leads) ∙ ap (λ x. meet_of (net_value chip other 0 net) x) (last_same net leads))
      (last_same net leads)
      ∙ sym (input_wave chip rank o flattened other others net within kind))
      (λ u lt pins output k leads. instance_same chip rank o o flattened flattened pair other waves others u lt refl
      (λ pin pk. pins pin pk (record {
        path = output_net chip u output ∷ leads.path;
        is_chain = (record { instance = u; known = lt; pin = pin; pin_within = pk; reads = refl; output = output; output_within = k; drives = refl }, leads.is_chain);
      })) output k)

pub waves_depend_on_bits_before_lem : WavesDependOnBitsBefore
waves_depend_on_bits_before_lem chip rank o pair other waves others net flattened within agree =
    leading_same chip rank o flattened pair other waves others net agree net within (record { path = []; is_chain = refl })
