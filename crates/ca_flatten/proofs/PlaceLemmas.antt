-- The flat nodes of an instance's nodes, by their kinds.
use Rattle.std.proofs.Common.{◌≡◌, ℕ, ◌+◌, ◌-◌, ◌<◌, ◌≤◌, length, sym, ◌∙◌, ap, arith}
use Rattle.ca_flat.specs.Chip.{Chip, circuit_at, inputs_at, outputs_at, net_of, count_of}
use Rattle.ca_flat.specs.Flat.{inner_before, outer_count, place}
use Rattle.ca_flat.proofs.Places.{place_pin, place_inner, place_new}

module _ (core : Chip) (u n inputs outputs : ℕ) (is_inputs : inputs ≡ inputs_at core u) (is_outputs : outputs ≡ outputs_at core u) where
  outer : 2 + inputs + outputs ≡ outer_count core u
  outer = ap (λ x. 2 + x + outputs) is_inputs ∙ ap (λ x. 2 + inputs_at core u + x) is_outputs

  pub on_pin : (net : ℕ) → 2 ≤ n → n < 2 + inputs + outputs → net ≡ net_of core u (n - 2) → 2 + net ≡ place core u n
  on_pin net ge lt is =
      let e = outer in
      ap (λ x. 2 + x) is ∙ sym (place_pin core u n (n - 2) (omega arith) (omega arith))

  pub on_inner : (inner : ℕ) → 2 + inputs + outputs ≤ n → n < length (circuit_at core u).nodes
      → inner ≡ 2 + length core.nets + inner_before core u → inner + (n - (2 + inputs + outputs)) ≡ place core u n
  on_inner inner ge lt is =
      let e = outer in
      let at = place_inner core u n (n - (2 + inputs + outputs)) (omega arith) lt in
      omega arith

  pub on_new : (new : ℕ) → outer_count core u ≤ length (circuit_at core u).nodes → length (circuit_at core u).nodes ≤ n
      → new ≡ 2 + length core.nets + inner_before core (count_of core) → new ≡ place core u n
  on_new new counted past is = is ∙ sym (place_new core u n counted past)
