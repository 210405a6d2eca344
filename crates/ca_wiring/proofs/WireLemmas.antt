-- The wires of the input pins from one on.
use Rattle.std.proofs.Common.{◌≡◌, ℕ, ◌+◌, List, [], ◌∷◌, ◌++◌, Bool, true, false, refl, sym, ◌∙◌, ap}
use Rattle.std.specs.Prelude.{Some, slice_get, drop, if◌then◌else◌}
use Rattle.std.proofs.lemmas.List.{append_assoc}
use Rattle.ca_cell.specs.declared.raw.RawPin.{RawPin}
use Rattle.ca_cell.specs.Raw.{is_input}
use Rattle.ca_verilog.specs.declared.raw.RawUse.{RawUse}
use Rattle.ca_wiring.specs.Wiring.{bit_on, input_wire, input_wires, names_with}
use Rattle.ca_linked.proofs.EndLemmas.{drop_at}

module _ (bits : ℕ) (uses : List RawUse) (pins : List RawPin) where
  -- those of the input pins from a place on
  abbrev pub from : ℕ → List ℕ
  from k = input_wires bits uses (names_with is_input (drop k pins))

  -- the wire of a pin, if it is an input pin
  abbrev pub own : RawPin → List ℕ
  own pin = if is_input pin.role then input_wire bits (bit_on uses pin.name) ∷ [] else []

  with_pin : (is : Bool) (pin : RawPin) (names : List (List ℕ))
      → input_wires bits uses (if is then pin.name ∷ names else names)
      ≡ (if is then input_wire bits (bit_on uses pin.name) ∷ [] else []) ++ input_wires bits uses names
  with_pin true pin names = refl
  with_pin false pin names = refl

  pub inputs_more : (k : ℕ) (pin : RawPin) (old new all : List ℕ) → slice_get pins k ≡ Some pin → all ≡ old ++ from k → new ≡ old ++ own pin
      → all ≡ new ++ from (k + 1)
  inputs_more k pin old new all at before more =
      before
      ∙ ap (λ (rest : List RawPin). old ++ input_wires bits uses (names_with is_input rest)) (drop_at pins k pin at)
      ∙ ap (λ l. old ++ l) (with_pin (is_input pin.role) pin (names_with is_input (drop (k + 1) pins)))
      ∙ sym (append_assoc old (own pin) (from (k + 1)))
      ∙ ap (λ l. l ++ from (k + 1)) (sym more)
