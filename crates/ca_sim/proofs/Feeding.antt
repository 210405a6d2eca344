-- The two bits of a chip input are changed, and its net is given their wave.
use Rattle.std.proofs.Common.{◌≡◌, ◌≢◌, ℕ, zero, suc, ◌+◌, ◌<◌, ◌≤◌, ◌==◌, List, [], ◌∷◌, length, Bool, true}
use Rattle.std.proofs.Common.{false, Option, inl, inr, refl, sym, ◌∙◌, ap, subst, arith, eq-eqb}
use Rattle.std.specs.Prelude.{cond, slice_index}
use Rattle.std.proofs.lemmas.Bool.{cases_eq, cond-true, cond-false, eqb-true}
use Rattle.ca_net.specs.declared.trit.Trit.{Trit}
use Rattle.ca_net.specs.declared.wave.Wave.{Wave}
use Rattle.ca_net.specs.State.{value_at}
use Rattle.ca_net.specs.Wave.{IsWave}
use Rattle.ca_net.specs.Wave.{pair_of}
use Rattle.ca_flat.specs.declared.chip_defect.ChipDefect.{ChipDefect}
use Rattle.ca_flat.specs.Chip.{Chip, count_of, net_kind}
use Rattle.ca_flat.specs.Pair.{input_value, constant_value, net_value}
use Rattle.ca_response.specs.Gives.{wave_at}
use Rattle.ca_sim.specs.Current.{pair_wave, IsSimulated}
use Rattle.ca_view.specs.Linked.{IsPinned, IsLinked}
use Rattle.ca_sim.specs.declared.network.Network.{Network}
use Rattle.ca_sim.specs.Network.{IsDue, IsPut, IsFedAt, IsReady}
use Rattle.ca_sim.proofs.StepLemmas.{fed}
use Rattle.ca_sim.proofs.Putting.{reader_placed}

pub neq-eqb : (a b : ℕ) → (a ≡ b → ⊥) → (a == b) ≡ false
neq-eqb a b apart = at (a == b) refl
  where
    at : (c : Bool) → (a == b) ≡ c → c ≡ false
    at true p = absurd (apart (eqb-true a b p))
    at false p = refl

-- the value of the net of an input, no net before which is the same
value_here : (inputs : List ℕ) (bits : List Trit) (bit input : ℕ) → input < length inputs
    → ((j : ℕ) → j < input → slice_index inputs j ≡ slice_index inputs input → ⊥) → input_value inputs bits bit (slice_index inputs input) ≡ value_at bits (bit + input)
value_here [] bits bit input lt first = absurd (omega arith)
value_here (net ∷ inputs) bits bit zero lt first = cond-true (net == net) _ _ (eq-eqb net net refl) ∙ ap (value_at bits) (let e : bit ≡ bit + 0 = omega arith in e)
value_here (net ∷ inputs) bits bit (suc input) lt first =
    cond-false (slice_index inputs input == net) _ _ (neq-eqb (slice_index inputs input) net (λ e. first 0 (omega arith) (sym e)))
    ∙ value_here inputs bits (bit + 1) input (omega arith) (λ j less. first (suc j) (omega arith))
    ∙ ap (value_at bits) (let e : bit + 1 + input ≡ bit + suc input = omega arith in e)

-- the value of another net
value_elsewhere : (inputs : List ℕ) (old new : List Trit) (bit input net : ℕ) → ((place : ℕ) → bit ≤ place → place ≢ bit + input → place < bit + length inputs → value_at new place ≡ value_at old place)
    → (slice_index inputs input ≡ net → ⊥) → input_value inputs new bit net ≡ input_value inputs old bit net
value_elsewhere [] old new bit input net same apart = refl
value_elsewhere (head ∷ inputs) old new bit zero net same apart =
    cond-false (net == head) _ _ (neq-eqb net head (λ e. apart (sym e)))
    ∙ keeps inputs (bit + 1) (λ place low high. same place (omega arith) (λ e. absurd (omega arith)) (omega arith))
    ∙ sym (cond-false (net == head) _ _ (neq-eqb net head (λ e. apart (sym e))))
  where
    keeps : (rest : List ℕ) (from : ℕ) → ((place : ℕ) → from ≤ place → place < from + length rest → value_at new place ≡ value_at old place) → input_value rest new from net ≡ input_value rest old from net
    keeps [] from held = refl
    keeps (x ∷ rest) from held =
        let here = held from (omega arith) (omega arith) in
        let after = keeps rest (from + 1) (λ place low high. held place (omega arith) (omega arith)) in
        ap (λ v. cond (net == x) v (input_value rest new (from + 1) net)) here ∙ ap (cond (net == x) (value_at old from)) after
value_elsewhere (head ∷ inputs) old new bit (suc input) net same apart =
    let here = same bit (omega arith) (λ e. absurd (omega arith)) (omega arith) in
    let after = value_elsewhere inputs old new (bit + 1) input net (λ place low other high. same place (omega arith) (λ e. other (omega arith)) (omega arith)) apart in
    ap (λ v. cond (net == head) v (input_value inputs new (bit + 1) net)) here ∙ ap (cond (net == head) (value_at old bit)) after

-- the lists have the same bits but for the two of this input
abbrev pub SameElsewhere : Chip → ℕ → List Trit → List Trit → Type 0
SameElsewhere chip input old new = (place : ℕ) → place ≢ input → place ≢ length chip.inputs + input → value_at new place ≡ value_at old place

module _ (chip : Chip) (place_of number_of : ℕ → ℕ) (linked : IsLinked chip place_of number_of) (pinned : IsPinned chip) (input : ℕ) (lt : input < length chip.inputs) where
  value_of_input : (bits : List Trit) (bit : ℕ) → net_value chip bits bit (slice_index chip.inputs input) ≡ value_at bits (bit + input)
  value_of_input bits bit = pinned.free input _ lt ∙ value_here chip.inputs bits bit input lt
      (λ j less e. let same : j ≡ input = pinned.distinct j input (omega arith) lt e in absurd (omega arith))

  pub wave_of_input : (bits : List Trit) → pair_wave chip bits (slice_index chip.inputs input) ≡ pair_of (value_at bits input) (value_at bits (length chip.inputs + input))
  wave_of_input bits =
      let first : net_value chip bits 0 (slice_index chip.inputs input) ≡ value_at bits input = value_of_input bits 0 ∙ ap (value_at bits) (let e : 0 + input ≡ input = omega arith in e) in
      let last = value_of_input bits (length chip.inputs) in
      ap (λ v. pair_of v (net_value chip bits (length chip.inputs) (slice_index chip.inputs input))) first ∙ ap (pair_of (value_at bits input)) last

  wave_elsewhere : (old new : List Trit) (net : ℕ) → SameElsewhere chip input old new → (slice_index chip.inputs input ≡ net → ⊥) → pair_wave chip new net ≡ pair_wave chip old net
  wave_elsewhere old new net same apart =
      let first : net_value chip new 0 net ≡ net_value chip old 0 net = ap (λ v. constant_value chip.constants v net)
      (value_elsewhere chip.inputs old new 0 input net (λ place low other high. same place (λ e. other (omega arith)) (λ e. absurd (omega arith))) apart) in
      let last : net_value chip new (length chip.inputs) net ≡ net_value chip old (length chip.inputs) net = ap (λ v. constant_value chip.constants v net)
      (value_elsewhere chip.inputs old new (length chip.inputs) input net (λ place low other high. same place (λ e. absurd (omega arith)) other) apart) in
      ap (λ v. pair_of v (net_value chip new (length chip.inputs) net)) first ∙ ap (pair_of (net_value chip old 0 net)) last

  -- the waves are simulated for the changed bits
  pub fed_input : (o : Option ChipDefect) (bits next : List Trit) (old new : Network) → SameElsewhere chip input bits next
      → IsPut chip place_of (slice_index chip.inputs input) (pair_of (value_at next input) (value_at next (length chip.inputs + input))) old new
      → IsSimulated chip o bits (IsDue place_of old.due) old.waves → IsSimulated chip o next (IsDue place_of new.due) new.waves
  fed_input o bits next old new same put sim = fed chip place_of linked.is_chip o bits (IsDue place_of old.due) (IsDue place_of new.due) old.waves new.waves sim next
      (record {
        count = put.count;
        fed = λ net within kind. elim (cases_eq (slice_index chip.inputs input) net) [
          | inl e ↦ subst (λ n. wave_at new.waves n ≡ pair_wave chip next n) e (put.here ∙ sym (wave_of_input next))
          | inr apart ↦ put.others net (λ e. apart (sym e)) ∙ sim.inputs net within kind ∙ sym (wave_elsewhere bits next net same apart)
        ];
        others = λ net within storage. put.others net (λ e. storage (ap (net_kind chip) e ∙ pinned.kind input lt));
      })
      (λ w due. put.kept (place_of w) due) put.readers

  -- it is ready as before
  pub put_ready : (net : ℕ) (wave : Wave) (old new : Network) → IsWave wave → IsPut chip place_of net wave old new → IsReady chip place_of old → IsReady chip place_of new
  put_ready net wave old new is put ready = record {
    count = put.count ∙ ready.count;
    are_waves = λ n. elim (cases_eq n net) [
      | inl e ↦ subst (λ k. IsWave (wave_at new.waves k)) (sym e) (subst IsWave (sym put.here) is)
      | inr apart ↦ subst IsWave (sym (put.others n apart)) (ready.are_waves n)
    ];
    room = put.room (count_of chip + 1) ready.room;
    within = λ place has. elim (put.added place has) [
      | inl before ↦ ready.within place before
      | inr reader ↦ record { instance = reader.0; is_placed = reader_placed chip place_of number_of linked reader.0 _ reader.1; at = reader.2 }
    ];
  }

-- a net was given the wave of a chip input's bits
pub put_fed : (chip : Chip) (place_of : ℕ → ℕ) (input : ℕ) (bits : List Trit) (inputs net : ℕ) (first last : Trit) (wave : Wave) (place : ℕ) (old new : Network)
    → inputs ≡ length chip.inputs → net ≡ slice_index chip.inputs input → first ≡ value_at bits input → last ≡ value_at bits place → wave ≡ pair_of first last
    → place ≡ inputs + input → IsPut chip place_of net wave old new → IsFedAt chip place_of input bits old new
put_fed chip place_of input bits inputs net first last wave place old new inputs_is net_is first_is last_is wave_is place_is put =
    let at : value_at bits place ≡ value_at bits (length chip.inputs + input) = ap (value_at bits) (place_is ∙ ap (λ k. k + input) inputs_is) in
    let is : wave ≡ pair_of (value_at bits input) (value_at bits (length chip.inputs + input)) =
    wave_is ∙ ap (λ v. pair_of v last) first_is ∙ ap (pair_of (value_at bits input)) (last_is ∙ at) in
    subst (λ w. IsPut chip place_of (slice_index chip.inputs input) w old new) is (subst (λ n. IsPut chip place_of n wave old new) net_is put)
