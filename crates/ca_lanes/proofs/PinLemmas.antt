-- The values of an instance's input pins, read from the choices of the nets.
use Rattle.std.proofs.Common.{◌≡◌, ℕ, zero, suc, ◌+◌, ◌<◌, true, List, [], ◌∷◌, get_or, length, map, take}
use Rattle.std.proofs.Common.{refl, sym, ap, ap₂, ◌∙◌, subst, arith}
use Rattle.std.proofs.lemmas.List.{get_or-take, length-map, length-take}
use Rattle.ca_net.specs.declared.trit.Trit.{Trit}
use Rattle.ca_net.specs.declared.trit.Trit.TheVariants.{Zero, One, X}
use Rattle.ca_net.specs.State.{value_at}
use Rattle.ca_flat.specs.Chip.{Chip, instance_at, inputs_at, outputs_at, net_of}
use Rattle.ca_lanes.specs.declared.values.Values.{Values}
use Rattle.ca_lanes.specs.Choice.{Choice, no_choice, choice_of, choice_for, trit_for, choices_of, choice_at}
use Rattle.ca_lanes.specs.Loaded.{trits_for, IsOfTrit}
use Rattle.ca_lanes.specs.code.Allowed.{allowed_by}
use Rattle.ca_lanes.specs.code.Evaluated.{pin_choices, masks_for}
use Rattle.ca_lanes.proofs.PlainLemmas.{ArePins}

pub trit_again : (t : Trit) → trit_for (choice_for t) ≡ t
trit_again Zero = refl
trit_again One = refl
trit_again X = refl

pub of_trit : (t : Trit) (choice : Choice) → choice ≡ choice_for t → IsOfTrit choice
of_trit t choice is = ap (λ c. choice_for (trit_for c)) is ∙ ap choice_for (trit_again t) ∙ sym is

pub value_of : (choices : List Choice) (net : ℕ) → value_at (trits_for choices) net ≡ trit_for (choice_at choices net)
value_of choices net = read choices net
  where
    read : (cs : List Choice) (n : ℕ) → get_or (map trit_for cs) n X ≡ trit_for (get_or cs n no_choice)
    read [] n = refl
    read (c ∷ cs) zero = refl
    read (c ∷ cs) (suc n) = read cs n

-- a value that is read in a lane
pub value_in : (nets : List Values) (net lane : ℕ) (values : Values) → net < length nets → values ≡ get_or nets net values
    → trit_for (choice_of values lane) ≡ value_at (trits_for (choices_of nets lane)) net
value_in nets net lane values within there = ap trit_for (read nets net within there) ∙ sym (value_of (choices_of nets lane) net)
  where
    read : (list : List Values) (n : ℕ) → n < length list → values ≡ get_or list n values → choice_of values lane ≡ choice_at (choices_of list lane) n
    read [] n less is = let no : ⊥ = omega (arith, less) in absurd no
    read (first ∷ list) zero less is = ap (λ each. choice_of each lane) is
    read (first ∷ list) (suc n) less is = read list n (omega (arith, less)) is

-- the values of the pins, read from the choices
abbrev pub pin_trits : List Choice → List ℕ → List Trit
pin_trits choices nets = map (λ net. trit_for (choice_at choices net)) nets

pub pins_again : (choices : List Choice) (nets : List ℕ) → ((pin : ℕ) → pin < length nets → IsOfTrit (choice_at choices (get_or nets pin 0)))
    → map choice_for (pin_trits choices nets) ≡ pin_choices choices nets
pins_again choices [] each = refl
pins_again choices (net ∷ nets) each = ap₂ (λ c cs. c ∷ cs) (each 0 (omega arith)) (pins_again choices nets (λ pin within. each (suc pin) (omega (arith, within))))

pub pin_trit : (choices : List Choice) (nets : List ℕ) (pin : ℕ) → pin < length nets → value_at (pin_trits choices nets) pin ≡ trit_for (choice_at choices (get_or nets pin 0))
pin_trit choices [] pin within = let no : ⊥ = omega (arith, within) in absurd no
pin_trit choices (net ∷ nets) zero within = refl
pin_trit choices (net ∷ nets) (suc pin) within = pin_trit choices nets pin (omega (arith, within))

module _ (chip : Chip) (u : ℕ) (count : length (instance_at chip u).pins ≡ inputs_at chip u + outputs_at chip u) (choices : List Choice)
    (each : (pin : ℕ) → pin < inputs_at chip u → IsOfTrit (choice_at choices (net_of chip u pin))) where
  some_taken : length (take (inputs_at chip u) (instance_at chip u).pins) ≡ inputs_at chip u
  some_taken = length-take (inputs_at chip u) (instance_at chip u).pins ∙ omega (arith, count)

  pub instance_pins : ArePins chip u (trits_for choices) (pin_trits choices (take (inputs_at chip u) (instance_at chip u).pins))
  instance_pins = record {
    count = length-map (take (inputs_at chip u) (instance_at chip u).pins) (λ net. trit_for (choice_at choices net)) ∙ some_taken;
    each = λ pin within.
        pin_trit choices (take (inputs_at chip u) (instance_at chip u).pins) pin (subst (λ n. pin < n) (sym some_taken) within)
        ∙ ap (λ net. trit_for (choice_at choices net)) (get_or-take (inputs_at chip u) (instance_at chip u).pins pin 0 within) ∙ sym (value_of choices (net_of chip u pin));
  }

  pub instance_masks : allowed_by true (map choice_for (pin_trits choices (take (inputs_at chip u) (instance_at chip u).pins)))
      ≡ masks_for true choices (inputs_at chip u) (instance_at chip u).pins
  instance_masks = ap (allowed_by true) (pins_again choices (take (inputs_at chip u) (instance_at chip u).pins) (λ pin within.
      let fits : pin < inputs_at chip u = subst (λ n. pin < n) some_taken within in
      subst (λ net. IsOfTrit (choice_at choices net)) (sym (get_or-take (inputs_at chip u) (instance_at chip u).pins pin 0 fits)) (each pin fits)))
