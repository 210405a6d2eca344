-- The pins of a cluster: the place of each of its nets is the number of its node.
use Rattle.std.proofs.Common.{◌≡◌, ℕ, zero, suc, ◌+◌, ◌-◌, ◌<◌, List, [], ◌∷◌, ◌++◌, length, Bool, true, false}
use Rattle.std.proofs.Common.{cond, inl, inr, refl, ◌∙◌, ap, arith, get_or, take, replicate, Some}
use Rattle.std.proofs.Common.{None}
use Rattle.std.specs.Prelude.{slice_get}
use Rattle.std.proofs.lemmas.Bool.{cases_lt, cond-true, cond-false}
use Rattle.std.proofs.lemmas.List.{length-append, length-replicate, get_or-replicate, get_or_append_left}
use Rattle.std.proofs.lemmas.List.{get_or-append-add, take-append-le, take-replicate}
use Rattle.std.proofs.lemmas.List.Sums.{sum_by-cons, sum_by-append}
use Rattle.std.proofs.lemmas.Option.{slice_get-get_or, slice_get_past}
use Rattle.ca_cell.specs.declared.raw.Role.{Role}
use Rattle.ca_cell.specs.declared.raw.Role.TheVariants.{Input, Output, Power, Ground}
use Rattle.ca_cell.specs.declared.raw.RawPin.{RawPin}
use Rattle.ca_cell.specs.Raw.{is_input, is_output, role_count, node_at, node_of}
use Rattle.ca_merged.specs.Cluster.{bare_pin, pins_of}

module _ (is_role : Role → Bool) where
  pub role_cons : (pin : RawPin) (pins : List RawPin) → role_count is_role (pin ∷ pins) ≡ cond (is_role pin.role) 1 0 + role_count is_role pins
  role_cons pin pins = sum_by-cons (λ x. cond (is_role x.role) 1 0) pin pins

  role_append : (pins more : List RawPin) → role_count is_role (pins ++ more) ≡ role_count is_role pins + role_count is_role more
  role_append pins more = sum_by-append (λ x. cond (is_role x.role) 1 0) pins more

  role_all : (pin : RawPin) (n : ℕ) → is_role pin.role ≡ true → role_count is_role (replicate n pin) ≡ n
  role_all pin zero h = refl
  role_all pin (suc n) h =
      let r = role_all pin n h in
      let c = role_cons pin (replicate n pin) in
      let one = cond-true {A = ℕ} (is_role pin.role) 1 0 h in
      omega arith

  role_none : (pin : RawPin) (n : ℕ) → is_role pin.role ≡ false → role_count is_role (replicate n pin) ≡ 0
  role_none pin zero h = refl
  role_none pin (suc n) h =
      let r = role_none pin n h in
      let c = role_cons pin (replicate n pin) in
      let one = cond-false {A = ℕ} (is_role pin.role) 1 0 h in
      omega arith

  -- after power and ground
  role_after : (pins : List RawPin) → is_role Power ≡ false → is_role Ground ≡ false
      → role_count is_role (bare_pin Power ∷ bare_pin Ground ∷ pins) ≡ role_count is_role pins
  role_after pins p g =
      let a = role_cons (bare_pin Power) (bare_pin Ground ∷ pins) in
      let b = role_cons (bare_pin Ground) pins in
      let x = cond-false {A = ℕ} (is_role Power) 1 0 p in
      let y = cond-false {A = ℕ} (is_role Ground) 1 0 g in
      omega arith

take-append-add : {A : Type 0} → (xs ys : List A) (n : ℕ) → take (length xs + n) (xs ++ ys) ≡ xs ++ take n ys
take-append-add [] ys n = ap (λ k. take k ys) (let e : 0 + n ≡ n = omega arith in e)
take-append-add (x ∷ xs) ys n =
    ap (λ k. take k (x ∷ (xs ++ ys))) (let e : suc (length xs) + n ≡ suc (length xs + n) = omega arith in e)
    ∙ ap (λ zs. x ∷ zs) (take-append-add xs ys n)

module _ (inputs outputs : ℕ) where
  abbrev ins : List RawPin
  ins = replicate inputs (bare_pin Input)

  abbrev outs : List RawPin
  outs = replicate outputs (bare_pin Output)

  pub count_inputs : role_count is_input (pins_of inputs outputs) ≡ inputs
  count_inputs =
      let a = role_after is_input (ins ++ outs) refl refl in
      let b = role_append is_input ins outs in
      let c = role_all is_input (bare_pin Input) inputs refl in
      let d = role_none is_input (bare_pin Output) outputs refl in
      omega arith

  pub count_outputs : role_count is_output (pins_of inputs outputs) ≡ outputs
  count_outputs =
      let a = role_after is_output (ins ++ outs) refl refl in
      let b = role_append is_output ins outs in
      let c = role_none is_output (bare_pin Input) inputs refl in
      let d = role_all is_output (bare_pin Output) outputs refl in
      omega arith

  pub count_pins : length (pins_of inputs outputs) ≡ 2 + inputs + outputs
  count_pins =
      let a = length-append ins outs in
      let b = length-replicate inputs (bare_pin Input) in
      let c = length-replicate outputs (bare_pin Output) in
      omega arith

  input_pin : (i : ℕ) → i < inputs → slice_get (pins_of inputs outputs) (2 + i) ≡ Some (bare_pin Input)
  input_pin i lt =
      let l = length-replicate inputs (bare_pin Input) in
      let a = length-append ins outs in
      let within : i < length (ins ++ outs) = omega arith in
      ap (slice_get (pins_of inputs outputs)) (let e : 2 + i ≡ suc (suc i) = omega arith in e)
      ∙ slice_get-get_or (ins ++ outs) i (bare_pin Input) within
      ∙ ap Some (get_or_append_left ins outs (bare_pin Input) i (omega arith) ∙ get_or-replicate inputs i (bare_pin Input) (bare_pin Input) lt)

  output_pin : (i : ℕ) → i < outputs → slice_get (pins_of inputs outputs) (2 + (inputs + i)) ≡ Some (bare_pin Output)
  output_pin i lt =
      let l = length-replicate inputs (bare_pin Input) in
      let m = length-replicate outputs (bare_pin Output) in
      let a = length-append ins outs in
      let within : inputs + i < length (ins ++ outs) = omega arith in
      ap (slice_get (pins_of inputs outputs)) (let e : 2 + (inputs + i) ≡ suc (suc (inputs + i)) = omega arith in e)
      ∙ slice_get-get_or (ins ++ outs) (inputs + i) (bare_pin Output) within
      ∙ ap Some (ap (λ k. get_or (ins ++ outs) k (bare_pin Output)) (let e : inputs + i ≡ length ins + i = omega arith in e)
      ∙ get_or-append-add ins outs i (bare_pin Output) ∙ get_or-replicate outputs i (bare_pin Output) (bare_pin Output) lt)

  past_pins : (i : ℕ) → slice_get (pins_of inputs outputs) (2 + (inputs + outputs + i)) ≡ None
  past_pins i = let c = count_pins in slice_get_past (pins_of inputs outputs) (2 + (inputs + outputs + i)) (omega arith)

  before_input : (i : ℕ) → i < inputs → role_count is_input (take (2 + i) (pins_of inputs outputs)) ≡ i
  before_input i lt =
      let l = length-replicate inputs (bare_pin Input) in
      ap (λ k. role_count is_input (take k (pins_of inputs outputs))) (let e : 2 + i ≡ suc (suc i) = omega arith in e)
      ∙ role_after is_input (take i (ins ++ outs)) refl refl
      ∙ ap (role_count is_input) (take-append-le i ins outs (omega arith) ∙ take-replicate i inputs (bare_pin Input) (omega arith))
      ∙ role_all is_input (bare_pin Input) i refl

  before_output : (i : ℕ) → i < outputs → role_count is_output (take (2 + (inputs + i)) (pins_of inputs outputs)) ≡ i
  before_output i lt =
      let l = length-replicate inputs (bare_pin Input) in
      let a = role_append is_output ins (replicate i (bare_pin Output)) in
      let c = role_none is_output (bare_pin Input) inputs refl in
      let d = role_all is_output (bare_pin Output) i refl in
      ap (λ k. role_count is_output (take k (pins_of inputs outputs))) (let e : 2 + (inputs + i) ≡ suc (suc (length ins + i)) = omega arith in e)
      ∙ role_after is_output (take (length ins + i) (ins ++ outs)) refl refl
      ∙ ap (role_count is_output) (take-append-add ins outs i ∙ ap (λ zs. ins ++ zs) (take-replicate i outputs (bare_pin Output) (omega arith)))
      ∙ (omega arith)

  abbrev all_pins : List RawPin
  all_pins = pins_of inputs outputs

  -- the node of each place is its number
  pub node_is_place : (n : ℕ) → node_of (pins_of inputs outputs) n ≡ n
  node_is_place zero = refl
  node_is_place (suc zero) = refl
  node_is_place (suc (suc i)) = elim (cases_lt i inputs) [
    | inl input ↦
        let e : suc (suc i) ≡ 2 + i = omega arith in
        let b = before_input i input in
        ap (node_of all_pins) e ∙ ap (node_at all_pins (2 + i)) (input_pin i input) ∙ (omega arith)
    | inr past ↦ elim (cases_lt i (inputs + outputs)) [
      | inl output ↦
          let e : suc (suc i) ≡ 2 + (inputs + (i - inputs)) = omega arith in
          let less : i - inputs < outputs = omega arith in
          let b = before_output (i - inputs) less in
          let c = count_inputs in
          ap (node_of all_pins) e ∙ ap (node_at all_pins (2 + (inputs + (i - inputs)))) (output_pin (i - inputs) less) ∙ (omega arith)
      | inr inner ↦
          let e : suc (suc i) ≡ 2 + (inputs + outputs + (i - (inputs + outputs))) = omega arith in
          let c = count_inputs in let d = count_outputs in let p = count_pins in
          ap (node_of all_pins) e ∙ ap (node_at all_pins (2 + (inputs + outputs + (i - (inputs + outputs))))) (past_pins (i - (inputs + outputs))) ∙ (omega arith)
    ]
  ]
