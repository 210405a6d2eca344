-- How many defects are in the list.
use Rattle.std.proofs.Common.{◌≡◌, ℕ, zero, suc, ◌+◌, ◌-◌, ◌*◌, ◌/◌, ◌<◌, ◌≤◌, List, Bool, true, false, []}
use Rattle.std.proofs.Common.{◌∷◌, ◌++◌, length, refl, sym, ◌∙◌, ap, subst, arith, length-append, mul-suc}
use Rattle.std.proofs.Common.{mul_comm, mul-add}
use Rattle.std.specs.Prelude.{cond}
use Rattle.std.proofs.Math.Decide.{dec_le}
use Rattle.std.proofs.Math.Nat.{add-mul-div_right}
use Rattle.std.proofs.lemmas.Bool.Decides.{nat_tests}
use Rattle.std.proofs.lemmas.List.{length-map}
use Rattle.std.proofs.Common.{map, add-zero, zero-add}
use Rattle.std.proofs.lemmas.List.Sums.{sum_by-cons}
use Rattle.ca_net.specs.declared.device.Device.{Device}
use Rattle.ca_cell.specs.declared.raw.RawPin.{RawPin}
use Rattle.ca_cell.specs.declared.raw.RawDevice.{RawDevice}
use Rattle.ca_cell.specs.Devices.{has_gate, open_count}
use Rattle.ca_cell.specs.declared.raw.RawCell.{RawCell}
use Rattle.ca_cell.specs.Raw.{is_input, is_output, role_count, inner_count, device_of, nodes_of, circuit_of}
use Rattle.ca_cell.specs.Nodes.{free_count, pair_count, defect_count}
use Rattle.ca_cell.proofs.CircuitLemmas.{length-nodes_of}
use Rattle.ca_cell.specs.declared.defect.Defect.{Defect}
use Rattle.ca_cell.specs.declared.defect.Defect.TheVariants.{Short}
use Rattle.ca_cell.specs.Defect.{gated_at, is_short}
use Rattle.ca_cell.specs.List.{each_from, opens_of, device_opens, pin_open, short_of, shorts_of, defects_of}

-- each place gives as many
length-each_from : (give : ℕ → List Defect) (size place count : ℕ) → ((k : ℕ) → length (give k) ≡ size) → length (each_from give place count) ≡ size * count
length-each_from give size place zero each = let none : 0 ≡ size * 0 = omega arith in none
length-each_from give size place (suc count) each =
    let rest = length-each_from give size (place + 1) count each in
    let first = each place in
    let both = length-append (give place) (each_from give (place + 1) count) in
    let more : size * suc count ≡ size * count + size = mul-suc size count in
    omega arith

-- the places below a limit give none, and those from it on one each
length-following : (give : ℕ → List Defect) (limit place count : ℕ) → ((k : ℕ) → k < limit → length (give k) ≡ 0)
    → ((k : ℕ) → limit ≤ k → length (give k) ≡ 1) → (limit ≤ place → length (each_from give place count) ≡ count)
    × (place ≤ limit → length (each_from give place count) ≡ place + count - limit)
length-following give limit place zero none one = (λ following. refl, λ before. omega arith)
length-following give limit place (suc count) none one =
    let rest = length-following give limit (place + 1) count none one in
    let both = length-append (give place) (each_from give (place + 1) count) in (
      λ following.
          let first = one place following in
          let more = rest.0 (omega arith) in
          omega arith,
      λ before.
          elim (dec_le limit place) [
            | yes at ↦
                let first = one place at in
                let more = rest.0 (omega arith) in
                omega arith
            | no below ↦
                let first = none place (omega arith) in
                let more = rest.1 (omega arith) in
                omega arith
          ],
    )

-- a rail has shorts with the nodes after the input pins
short_of_rail : (inputs low high : ℕ) → low < 2 → 2 + inputs ≤ high → is_short inputs low high ≡ true
short_of_rail inputs low high rail following = grind (arith, nat_tests)

no_short_of_rail : (inputs low high : ℕ) → low < 2 → high < 2 + inputs → is_short inputs low high ≡ false
no_short_of_rail inputs low high rail before = grind (arith, nat_tests)

-- an input pin has none
no_short_of_pin : (inputs low high : ℕ) → 2 ≤ low → low < 2 + inputs → is_short inputs low high ≡ false
no_short_of_pin inputs low high from to = grind (arith, nat_tests)

-- another node has shorts with all higher ones
short_of_free : (inputs low high : ℕ) → 2 + inputs ≤ low → low < high → is_short inputs low high ≡ true
short_of_free inputs low high free higher = grind (arith, nat_tests)

no_short_of_free : (inputs low high : ℕ) → 2 + inputs ≤ low → high ≤ low → is_short inputs low high ≡ false
no_short_of_free inputs low high free lower = grind (arith, nat_tests)

-- one where there is a short, else none
one_short : (inputs low high : ℕ) → is_short inputs low high ≡ true → length (short_of inputs low high) ≡ 1
one_short inputs low high is =
    let bridged : List Defect = Short (record { 0 = low }) (record { 0 = high }) ∷ [] in
    let nothing : List Defect = [] in
    ap (λ (b : Bool). length (cond b bridged nothing)) is

no_short : (inputs low high : ℕ) → is_short inputs low high ≡ false → length (short_of inputs low high) ≡ 0
no_short inputs low high is =
    let bridged : List Defect = Short (record { 0 = low }) (record { 0 = high }) ∷ [] in
    let nothing : List Defect = [] in
    ap (λ (b : Bool). length (cond b bridged nothing)) is

-- how many shorts a node has with higher ones
length-shorts_of_rail : (inputs nodes low : ℕ) → low < 2 → length (shorts_of nodes inputs low) ≡ nodes - (2 + inputs)
length-shorts_of_rail inputs nodes low rail =
    let counts = length-following (short_of inputs low) (2 + inputs) 0 nodes (λ k before. no_short inputs low k (no_short_of_rail inputs low k rail before))
    (λ k following. one_short inputs low k (short_of_rail inputs low k rail following)) in
    let count = counts.1 (omega arith) in
    omega arith

length-shorts_of_pin : (inputs nodes low : ℕ) → 2 ≤ low → low < 2 + inputs → length (shorts_of nodes inputs low) ≡ 0
length-shorts_of_pin inputs nodes low from to =
    let count = length-each_from (short_of inputs low) 0 0 nodes (λ k. no_short inputs low k (no_short_of_pin inputs low k from to)) in
    omega arith

length-shorts_of_free : (inputs nodes low : ℕ) → 2 + inputs ≤ low → length (shorts_of nodes inputs low) ≡ nodes - (low + 1)
length-shorts_of_free inputs nodes low free =
    let counts = length-following (short_of inputs low) (low + 1) 0 nodes (λ k before. no_short inputs low k (no_short_of_free inputs low k free (omega arith)))
    (λ k following. one_short inputs low k (short_of_free inputs low k free (omega arith))) in
    let count = counts.1 (omega arith) in
    omega arith

-- one more node makes a pair with each of the others
pair_count-suc : (n : ℕ) → pair_count (suc n) ≡ pair_count n + n
pair_count-suc zero = refl
pair_count-suc (suc m) =
    let before : suc (suc m) - 1 ≡ suc m = omega arith in
    let before_that : suc m - 1 ≡ m = omega arith in
    let two_more : suc (suc m) ≡ m + 2 = omega arith in
    ap (λ n. suc (suc m) * n / 2) before
    ∙ ap (λ n. n / 2) (mul_comm (suc (suc m)) (suc m) ∙ ap (λ n. suc m * n) two_more ∙ mul-add (suc m) m 2)
    ∙ add-mul-div_right (suc m * m) (suc m) (omega arith)
    ∙ ap (λ n. suc m * n / 2 + suc m) (sym before_that)

-- the shorts of the nodes from one after the input pins on
length-free_shorts : (inputs nodes place count : ℕ) → 2 + inputs ≤ place → place + count ≡ nodes
    → length (each_from (shorts_of nodes inputs) place count) ≡ pair_count count
length-free_shorts inputs nodes place zero free all = refl
length-free_shorts inputs nodes place (suc count) free all =
    let rest = length-free_shorts inputs nodes (place + 1) count (omega arith) (omega arith) in
    let first = length-shorts_of_free inputs nodes place free in
    let both = length-append (shorts_of nodes inputs place) (each_from (shorts_of nodes inputs) (place + 1) count) in
    let pairs = pair_count-suc count in
    both ∙ omega (arith, rest, first, pairs)

-- the shorts of the nodes from an input pin on
length-pin_shorts : (inputs nodes place count : ℕ) → 2 ≤ place → place ≤ 2 + inputs → 2 + inputs ≤ nodes → place + count ≡ nodes
    → length (each_from (shorts_of nodes inputs) place count) ≡ pair_count (nodes - (2 + inputs))
length-pin_shorts inputs nodes place zero from to enough all = let none : 0 ≡ nodes - (2 + inputs) = omega arith in ap pair_count none
length-pin_shorts inputs nodes place (suc count) from to enough all = elim (dec_le (2 + inputs) place) [
  | yes free ↦
      let same : suc count ≡ nodes - (2 + inputs) = omega arith in
      length-free_shorts inputs nodes place (suc count) free all ∙ ap pair_count same
  | no pin ↦
      let rest = length-pin_shorts inputs nodes (place + 1) count (omega arith) (omega arith) enough (omega arith) in
      let first = length-shorts_of_pin inputs nodes place from (omega arith) in
      let both = length-append (shorts_of nodes inputs place) (each_from (shorts_of nodes inputs) (place + 1) count) in
      both ∙ ap (λ n. n + length (each_from (shorts_of nodes inputs) (place + 1) count)) first ∙ omega (arith, rest)
]

-- all shorts
length-shorts : (inputs others : ℕ) → inputs ≤ others → length (each_from (shorts_of (suc (suc others)) inputs) 0 (suc (suc others)))
    ≡ (others - inputs) + (others - inputs) + pair_count (others - inputs)
length-shorts inputs others enough =
    let nodes : ℕ = suc (suc others) in
    let shorts : ℕ → List Defect = shorts_of nodes inputs in
    let free : nodes - (2 + inputs) ≡ others - inputs = omega arith in
    let power = length-shorts_of_rail inputs nodes 0 (omega arith) in
    let ground = length-shorts_of_rail inputs nodes 1 (omega arith) in
    let rest = length-pin_shorts inputs nodes 2 others (omega arith) (omega arith) (omega arith) (omega arith) ∙ ap pair_count free in
    length-append (shorts 0) (each_from shorts 1 (suc others))
    ∙ ap (λ n. length (shorts 0) + n) (length-append (shorts 1) (each_from shorts 2 others))
    ∙ omega (arith, power, ground, rest, free)

-- the opens of the devices from a place on are as many as those of their cards
opens_count : (all : List Device) (pins : List RawPin) (cards : List RawDevice) (place : ℕ)
    → ((k : ℕ) → gated_at all (place + k) ≡ gated_at (map (device_of pins) cards) k)
    → length (each_from (device_opens all) place (length cards)) ≡ open_count cards
opens_count all pins [] place same = refl
opens_count all pins (card ∷ cards) place same =
    let rest = opens_count all pins cards (place + 1) (λ k.
    let next : place + 1 + k ≡ place + suc k = omega arith in ap (gated_at all) next ∙ same (suc k)) in
    let first : gated_at all place ≡ has_gate card.kind = ap (gated_at all) (sym (add-zero place)) ∙ same 0 in
    let both = length-append (device_opens all place) (each_from (device_opens all) (place + 1) (length cards)) in
    let size : length (device_opens all place) ≡ 2 + cond (has_gate card.kind) 1 0 =
    ap (λ (b : Bool). length (opens_of b place)) first ∙ opens_size place (has_gate card.kind) in
    let counted : open_count (card ∷ cards) ≡ 2 + cond (has_gate card.kind) 1 0 + open_count cards =
    let gated = sum_by-cons (λ (d : RawDevice). cond (has_gate d.kind) 1 0) card cards in omega (arith, gated) in
    both ∙ omega (arith, rest, size, counted)
  where
    opens_size : (k : ℕ) (b : Bool) → length (opens_of b k) ≡ 2 + cond b 1 0
    opens_size k true = refl
    opens_size k false = refl

-- the list has as many defects as the cell counts
pub length-defects_of : (raw : RawCell) → length (defects_of raw) ≡ defect_count raw
length-defects_of raw =
    let inputs : ℕ = role_count is_input raw.pins in
    let free : ℕ = role_count is_output raw.pins + inner_count raw in
    let nodes : ℕ = length (nodes_of raw) in
    let devices : length (each_from (device_opens (circuit_of raw).devices) 0 (length (circuit_of raw).devices)) ≡ open_count raw.devices =
    ap (λ (n : ℕ). length (each_from (device_opens (circuit_of raw).devices) 0 n)) (length-map raw.devices (device_of raw.pins))
    ∙ opens_count (circuit_of raw).devices raw.pins raw.devices 0 (λ k. ap (gated_at (circuit_of raw).devices) (zero-add k)) in
    let pins = length-each_from pin_open 1 0 inputs (λ k. refl) in
    let count : nodes ≡ suc (suc (inputs + free)) = length-nodes_of raw ∙ omega arith in
    let without : inputs + free - inputs ≡ free = omega arith in
    let shorts = subst (λ n. length (each_from (shorts_of n inputs) 0 n) ≡ (inputs + free - inputs) + (inputs + free - inputs) + pair_count (inputs + free - inputs))
    (sym count) (length-shorts inputs (inputs + free) (omega arith)) in
    let pairs = ap (λ n. pair_count n) (let same : free_count raw ≡ suc (suc free) = omega arith in same) in
    let one_more = pair_count-suc (suc free) in
    let last_more = pair_count-suc free in
    let last = ap pair_count without in
    let opens = length-append (each_from (device_opens (circuit_of raw).devices) 0 (length (circuit_of raw).devices)) (each_from pin_open 0 inputs ++ each_from (shorts_of nodes inputs) 0 nodes) in
    let others = length-append (each_from pin_open 0 inputs) (each_from (shorts_of nodes inputs) 0 nodes) in
    opens ∙ omega (arith, devices, pins, shorts, pairs, one_more, last_more, last, others)
