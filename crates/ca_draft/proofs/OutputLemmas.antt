-- The wires of output pins, one after another.
use Rattle.std.proofs.Common.{◌≡◌, ℕ, ◌+◌, List, [], ◌∷◌, ◌++◌, Bool, true, false, refl, sym, ◌∙◌, ap, ap₂}
use Rattle.std.proofs.Common.{arith}
use Rattle.std.specs.Prelude.{Option, Some, None, slice_get, drop, is_none, cond, if◌then◌else◌}
use Rattle.std.proofs.lemmas.List.{append_assoc}
use Rattle.std.proofs.lemmas.List.Sums.{sum_by-cons}
use Rattle.ca_cell.specs.declared.raw.RawPin.{RawPin}
use Rattle.ca_cell.specs.Raw.{is_output}
use Rattle.ca_verilog.specs.declared.raw.RawBit.{RawBit}
use Rattle.ca_verilog.specs.declared.raw.RawUse.{RawUse}
use Rattle.ca_wiring.specs.Wiring.{bit_on, names_with, open_count, output_wires}
use Rattle.ca_draft.specs.code.OnWires.{output_wire, next_own}
use Rattle.ca_linked.proofs.EndLemmas.{drop_at}

module _ (bits : ℕ) (uses : List RawUse) where
  -- the wires of a pin and of those after it
  pub outputs_cons : (own : ℕ) (name : List ℕ) (names : List (List ℕ))
      → output_wires bits uses own (name ∷ names)
      ≡ output_wire bits own (bit_on uses name) ∷ output_wires bits uses (next_own own (bit_on uses name)) names
  outputs_cons own name names = by (bit_on uses name)
    where
      by : (bit : Option RawBit) → elim bit [ None ↦ own ∷ output_wires bits uses (own + 1) names | Some bit ↦ output_wire bits own (Some bit) ∷ output_wires bits uses own names ]
          ≡ output_wire bits own bit ∷ output_wires bits uses (next_own own bit) names
      by None = refl
      by (Some bit) = refl

  pub open_cons : (own : ℕ) (name : List ℕ) (names : List (List ℕ))
      → next_own own (bit_on uses name) + open_count uses names ≡ own + open_count uses (name ∷ names)
  open_cons own name names =
      by (bit_on uses name) (open_count uses names)
      ∙ ap (λ n. own + n) (sym (sum_by-cons (λ (pin : List ℕ). cond (is_none (bit_on uses pin)) 1 0) name names))
    where
      by : (bit : Option RawBit) (rest : ℕ) → next_own own bit + rest ≡ own + (cond (is_none bit) 1 0 + rest)
      by None rest = omega arith
      by (Some bit) rest = omega arith

  -- those of some pins, and of others after them
  pub outputs_append : (own : ℕ) (names more : List (List ℕ))
      → output_wires bits uses own (names ++ more)
      ≡ output_wires bits uses own names ++ output_wires bits uses (own + open_count uses names) more
  outputs_append own [] more = ap (λ n. output_wires bits uses n more) (let e : own ≡ own + 0 = omega arith in e)
  outputs_append own (name ∷ names) more =
      outputs_cons own name (names ++ more)
      ∙ ap (λ l. output_wire bits own (bit_on uses name) ∷ l) (outputs_append (next_own own (bit_on uses name)) names more)
      ∙ ap (λ n. (output_wire bits own (bit_on uses name) ∷ output_wires bits uses (next_own own (bit_on uses name)) names) ++ output_wires bits uses n more)
      (open_cons own name names)
      ∙ ap (λ l. l ++ output_wires bits uses (own + open_count uses (name ∷ names)) more) (sym (outputs_cons own name names))

  module _ (pins : List RawPin) where
    -- the output pins from a place on, which begin with the wire `own`
    abbrev pub from : ℕ → ℕ → List ℕ
    from own k = output_wires bits uses own (names_with is_output (drop k pins))

    -- how many of them are connected to nothing
    abbrev pub open_from : ℕ → ℕ
    open_from k = open_count uses (names_with is_output (drop k pins))

    abbrev own_wire : RawPin → ℕ → List ℕ
    own_wire pin own = if is_output pin.role then output_wire bits own (bit_on uses pin.name) ∷ [] else []

    abbrev own_next : RawPin → ℕ → ℕ
    own_next pin own = if is_output pin.role then next_own own (bit_on uses pin.name) else own

    with_pin : (is : Bool) (pin : RawPin) (own : ℕ) (names : List (List ℕ))
        → output_wires bits uses own (if is then pin.name ∷ names else names)
        ≡ (if is then output_wire bits own (bit_on uses pin.name) ∷ [] else [])
        ++ output_wires bits uses (if is then next_own own (bit_on uses pin.name) else own) names
    with_pin true pin own names = outputs_cons own pin.name names
    with_pin false pin own names = refl

    with_open : (is : Bool) (pin : RawPin) (own : ℕ) (names : List (List ℕ))
        → own + open_count uses (if is then pin.name ∷ names else names)
        ≡ (if is then next_own own (bit_on uses pin.name) else own) + open_count uses names
    with_open true pin own names = sym (open_cons own pin.name names)
    with_open false pin own names = refl

    pub outputs_more : (k own next : ℕ) (pin : RawPin) (old new all : List ℕ) → slice_get pins k ≡ Some pin
        → all ≡ old ++ from own k → new ≡ old ++ own_wire pin own → next ≡ own_next pin own
        → all ≡ new ++ from next (k + 1)
    outputs_more k own next pin old new all at before more is =
        before
        ∙ ap (λ (rest : List RawPin). old ++ output_wires bits uses own (names_with is_output rest)) (drop_at pins k pin at)
        ∙ ap (λ l. old ++ l) (with_pin (is_output pin.role) pin own (names_with is_output (drop (k + 1) pins)))
        ∙ sym (append_assoc old (own_wire pin own) (from (own_next pin own) (k + 1)))
        ∙ ap₂ (λ l n. l ++ from n (k + 1)) (sym more) (sym is)

    pub open_more : (k own next all : ℕ) (pin : RawPin) → slice_get pins k ≡ Some pin
        → all ≡ own + open_from k → next ≡ own_next pin own → all ≡ next + open_from (k + 1)
    open_more k own next all pin at before is =
        before
        ∙ ap (λ (rest : List RawPin). own + open_count uses (names_with is_output rest)) (drop_at pins k pin at)
        ∙ with_open (is_output pin.role) pin own (names_with is_output (drop (k + 1) pins))
        ∙ ap (λ n. n + open_from (k + 1)) (sym is)
