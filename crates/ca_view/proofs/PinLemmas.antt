-- The nets of the pins of the core's instances.
use Rattle.std.proofs.Common.{◌≡◌, ℕ, ◌+◌, ◌<◌, List, [], ◌∷◌, ◌++◌, true, false, length, length-append, map}
use Rattle.std.proofs.Common.{inl, inr, refl, sym, ◌∙◌, ap, subst, arith, get_or}
use Rattle.std.specs.Prelude.{◌⊎◌, slice_get, IsSomeAnd, Option, Some, None, option_to_list, Vec}
use Rattle.std.specs.Global.{Global}
use Rattle.std.specs.List.{All, Contains}
use Rattle.std.proofs.lemmas.List.{get_or_default, get_or-map, length-map, map-append, get_or_append_left}
use Rattle.std.proofs.lemmas.List.{get_or-append-add}
use Rattle.std.proofs.lemmas.List.Elements.{Contains-append_cases}
use Rattle.std.proofs.lemmas.List.Folds.{list_any-from_Any}
use Rattle.std.proofs.lemmas.Option.{slice_get_within, get_or_from_slice_get, same_Some}
use Rattle.std.proofs.lemmas.Bool.{cases_lt}
use Rattle.ca_cell.specs.Raw.{is_input, is_output, role_count}
use Rattle.ca_linked.specs.declared.parts.Body.{Body}
use Rattle.ca_linked.specs.declared.parts.Part.{Part}
use Rattle.ca_linked.specs.declared.parts.ScanNets.{ScanNets}
use Rattle.ca_linked.specs.declared.parts.Body.TheVariants.{Scan}
use Rattle.ca_linked.specs.Linked.{LinkedChip, net_count, has, is_scan_path, path_nets, input_nets, output_nets}
use Rattle.ca_linked.specs.Linked.{gate_inputs, data_nets, IsWired}
use Rattle.ca_linked.specs.Instances.{pin_nets, IsScan}
use Rattle.ca_linked.proofs.OrderLemmas.{contained_at}
use Rattle.ca_linked.proofs.PartLemmas.{contains_has, of_all, of_list}
use Rattle.ca_flat.specs.Chip.{Instance, instance_at, inputs_at, outputs_at, net_of, count_of}
use Rattle.ca_flat.specs.Chip as flat
use Rattle.ca_view.specs.Core.{core_net, stored_nets, core_instance, core_of}
use Rattle.ca_view.proofs.CorePartLemmas.{core_at, stored_count, stored_pin, read_count}
use Rattle.ca_view.proofs.CoreIsChip.{body_of, data_within, data_outside, core_is}
use Rattle.ca_view.specs.NetLists.{ArePinNets}
use Rattle.ca_view.specs.code.Pins.{items_of, AreBelow, HaveNets, AreInputNets, AreOutputNets, AreCorePins}
use Rattle.ca_view.specs.code.Pins.{IsInverted}
use Rattle.ca_view.proofs.PartFacts.{ScanAt, scan_at, some_at, at_some}

-- one pin more
pub no_pins : (chip : flat.Chip) (u before : ℕ) → ArePinNets chip u before 0 []
no_pins chip u before = record { counted = refl; each = λ pin lt. absurd (omega (arith, lt)) }

pub pins_more : (chip : flat.Chip) (u before count : ℕ) (nets : List ℕ) (net : ℕ) → ArePinNets chip u before count nets → net ≡ net_of chip u (before + count)
    → ArePinNets chip u before (count + 1) (nets ++ net ∷ [])
pins_more chip u before count nets net are is = record {
  counted = (let l = length-append nets (net ∷ []) in let r = are.counted in omega arith);
  each = λ pin lt. elim (cases_lt pin count) [
    | inl early ↦ get_or_append_left nets (net ∷ []) 0 pin (let r = are.counted in omega arith) ∙ are.each pin early
    | inr late ↦
        let here : pin ≡ length nets + 0 = let r = are.counted in omega arith in
        let same : count ≡ pin = omega arith in
        ap (λ k. get_or (nets ++ net ∷ []) k 0) here ∙ get_or-append-add nets (net ∷ []) 0 0
        ∙ is ∙ ap (λ k. net_of chip u (before + k)) same
  ];
}

-- one instance more
pub no_rows : (chip : flat.Chip) (before pins : ℕ → ℕ) → HaveNets chip before pins 0 []
no_rows chip before pins = record { room = refl; each = λ u lt. absurd (omega (arith, lt)) }

pub rows_more : (chip : flat.Chip) (before pins : ℕ → ℕ) (u : ℕ) (rows new : List (Vec ℕ Global)) (row : Vec ℕ Global) → HaveNets chip before pins u (items_of rows)
    → ArePinNets chip u (before u) (pins u) row.items → new ≡ rows ++ row ∷ [] → HaveNets chip before pins (u + 1) (items_of new)
rows_more chip before pins u rows new row have are e =
    subst (HaveNets chip before pins (u + 1)) (sym (ap items_of e ∙ map-append (λ (v : Vec ℕ Global). v.items) rows (row ∷ []))) (record {
      room = (let l = length-append (items_of rows) (row.items ∷ []) in let r = have.room in omega arith);
      each = λ w lt. elim (cases_lt w u) [
        | inl early ↦
            subst (ArePinNets chip w (before w) (pins w)) (sym (get_or_append_left (items_of rows) (row.items ∷ []) [] w (let r = have.room in omega arith)))
            (have.each w early)
        | inr late ↦
            let here : w ≡ length (items_of rows) + 0 = let r = have.room in omega arith in
            let same : u ≡ w = omega arith in
            subst (ArePinNets chip w (before w) (pins w))
            (sym (ap (λ k. get_or (items_of rows ++ row.items ∷ []) k []) here ∙ get_or-append-add (items_of rows) (row.items ∷ []) 0 []))
            (subst (λ k. ArePinNets chip k (before k) (pins k) row.items) same are)
      ];
    })

-- the seventh pin of a scan cell is the inverted output, or else the scan output
seventh : (nets : ScanNets) → 6 < length (pin_nets (Scan nets))
seventh nets = by nets.qn
  where
    by : (qn : Option ℕ) → 6 < length ((nets.d ∷ nets.si ∷ nets.se ∷ nets.ck ∷ nets.hold ∷ []) ++ (nets.q ∷ (option_to_list qn ++ nets.so ∷ [])))
    by None = omega arith
    by (Some net) = omega arith

seventh_is : (nets : ScanNets) (net : ℕ) → slice_get (pin_nets (Scan nets)) 6 ≡ Some net
    → ((nets.qn ≡ None) × (net ≡ nets.so)) ⊎ (nets.qn ≡ Some net)
seventh_is nets net at = by nets.qn refl at
  where
    by : (qn : Option ℕ) → nets.qn ≡ qn
        → slice_get ((nets.d ∷ nets.si ∷ nets.se ∷ nets.ck ∷ nets.hold ∷ []) ++ (nets.q ∷ (option_to_list qn ++ nets.so ∷ []))) 6 ≡ Some net
        → ((nets.qn ≡ None) × (net ≡ nets.so)) ⊎ (nets.qn ≡ Some net)
    by None e there = inl (e, sym (same_Some nets.so net there))
    by (Some other) e there = inr (e ∙ ap Some (same_Some other net there))

pub scan_pin : (chip : LinkedChip) (u : ℕ) → IsSomeAnd (slice_get chip.parts u) (λ part. IsScan part.body)
    → IsSomeAnd (slice_get chip.parts u) (λ part. 6 < length (pin_nets part.body))
scan_pin chip u scan =
    let s = scan_at chip u scan in
    some_at (λ part. 6 < length (pin_nets part.body)) chip.parts u s.part s.at (subst (λ (b : Body). 6 < length (pin_nets b)) (sym s.body) (seventh s.nets))

module _ (chip : LinkedChip) (is : IsWired chip) where
  -- the nets of the output pins of an instance
  pub stored_are : (u : ℕ) (part : Part) → slice_get chip.parts u ≡ Some part
      → ArePinNets (core_of chip) u (inputs_at (core_of chip) u) (outputs_at (core_of chip) u) (map (core_net chip) (stored_nets part.body))
  stored_are u part at =
      let body = body_of chip is u part at in
      let count : outputs_at (core_of chip) u ≡ length (stored_nets part.body) =
      ap (λ (i : Instance). role_count is_output i.cell.pins) (core_at chip u part at) ∙ sym (stored_count chip part.body body) in
      record {
        counted = length-map (stored_nets part.body) (core_net chip) ∙ sym count;
        each = λ output lt.
            let within : output < length (stored_nets part.body) = omega arith in
            get_or-map (core_net chip) (stored_nets part.body) output 0 0 within ∙ sym (stored_pin chip part.body output body within)
            ∙ sym (ap (λ (i : Instance). get_or i.pins (role_count is_input i.cell.pins + output) 0) (core_at chip u part at));
      }

  -- a scan instance has no input pin in the core
  pub no_input_pins : (u : ℕ) → IsSomeAnd (slice_get chip.parts u) (λ part. IsScan part.body)
      → ArePinNets (core_of chip) u 0 (inputs_at (core_of chip) u) []
  no_input_pins u scan =
      let s = scan_at chip u scan in
      let count : inputs_at (core_of chip) u ≡ 0 =
      ap (λ (i : Instance). role_count is_input i.cell.pins) (core_at chip u s.part s.at)
      ∙ sym (read_count chip s.part.body (body_of chip is u s.part s.at)) ∙ ap (λ (b : Body). length (gate_inputs b)) s.body in
      subst (λ n. ArePinNets (core_of chip) u 0 n []) (sym count) (no_pins (core_of chip) u 0)

  -- the net of the seventh pin
  pub scan_net_within : (u net : ℕ) → IsSomeAnd (slice_get chip.parts u) (λ part. IsScan part.body)
      → IsSomeAnd (slice_get chip.parts u) (λ part. slice_get (pin_nets part.body) 6 ≡ Some net) → net < net_count chip
  scan_net_within u net scan found =
      let s = scan_at chip u scan in
      let at = at_some (λ part. slice_get (pin_nets part.body) 6 ≡ Some net) chip.parts u s.part s.at found in
      elim (Contains-append_cases (input_nets s.part.body) (output_nets s.part.body) net (contained_at (pin_nets s.part.body) 6 net at)) [
        | inl of_input ↦
            of_list (λ n. n < net_count chip) (input_nets s.part.body) net
            (of_all (λ (p : Part). All (λ n. n < net_count chip) (input_nets p.body)) chip.parts u s.part is.inputs_on_nets s.at) of_input
        | inr of_output ↦
            of_list (λ n. n < net_count chip) (output_nets s.part.body) net
            (of_all (λ (p : Part). All (λ n. n < net_count chip) (output_nets p.body)) chip.parts u s.part is.outputs_on_nets s.at) of_output
      ]

  path_so : (u : ℕ) (s : ScanAt chip u) → is_scan_path chip s.nets.so ≡ true
  path_so u s =
      list_any-from_Any (λ (p : Part). has (path_nets p.body) s.nets.so) chip.parts (
        u,
        s.part,
        slice_get_within chip.parts u s.part s.at,
        get_or_from_slice_get chip.parts u s.part s.part s.at,
        subst (λ (b : Body). has (path_nets b) s.nets.so ≡ true) (sym s.body) (contains_has (path_nets (Scan s.nets)) s.nets.so (4, omega arith, refl)),
      )

  inverted_data : (u net : ℕ) (s : ScanAt chip u) → s.nets.qn ≡ Some net → Contains (data_nets s.part.body) net
  inverted_data u net s e =
      subst (λ (b : Body). Contains (data_nets b) net) (sym s.body)
      (subst (λ (o : Option ℕ). Contains (s.nets.d ∷ s.nets.q ∷ option_to_list o) net) (sym e) (2, omega arith, refl))

  pub inverted_none : (u net : ℕ) → IsSomeAnd (slice_get chip.parts u) (λ part. IsScan part.body)
      → IsSomeAnd (slice_get chip.parts u) (λ part. slice_get (pin_nets part.body) 6 ≡ Some net) → is_scan_path chip net ≡ true → IsInverted chip u None
  inverted_none u net scan found path =
      let s = scan_at chip u scan in
      let at = subst (λ (b : Body). slice_get (pin_nets b) 6 ≡ Some net) s.body
      (at_some (λ part. slice_get (pin_nets part.body) 6 ≡ Some net) chip.parts u s.part s.at found) in
      elim (seventh_is s.nets net at) [
        | inl none ↦ some_at (λ part. stored_nets part.body ≡ []) chip.parts u s.part s.at (ap stored_nets s.body ∙ ap (λ (o : Option ℕ). option_to_list o) none.0)
        | inr some ↦ absurd (let off = data_outside chip is u s.part net s.at (inverted_data u net s some) in cc)
      ]

  pub inverted_some : (u net : ℕ) → IsSomeAnd (slice_get chip.parts u) (λ part. IsScan part.body)
      → IsSomeAnd (slice_get chip.parts u) (λ part. slice_get (pin_nets part.body) 6 ≡ Some net) → is_scan_path chip net ≡ false → IsInverted chip u (Some net)
  inverted_some u net scan found off =
      let s = scan_at chip u scan in
      let at = subst (λ (b : Body). slice_get (pin_nets b) 6 ≡ Some net) s.body
      (at_some (λ part. slice_get (pin_nets part.body) 6 ≡ Some net) chip.parts u s.part s.at found) in
      elim (seventh_is s.nets net at) [
        | inl none ↦ absurd (let path = path_so u s in let same = ap (is_scan_path chip) none.1 in cc)
        | inr some ↦ some_at (λ part. stored_nets part.body ≡ net ∷ []) chip.parts u s.part s.at (ap stored_nets s.body ∙ ap (λ (o : Option ℕ). option_to_list o) some)
      ]

  -- what the core has of it
  pub inverted_are : (u : ℕ) (net : Option ℕ) (nets : List ℕ) → IsSomeAnd (slice_get chip.parts u) (λ part. IsScan part.body) → IsInverted chip u net
      → nets ≡ map (core_net chip) (option_to_list net)
      → ArePinNets (core_of chip) u (inputs_at (core_of chip) u) (outputs_at (core_of chip) u) nets
  inverted_are u net nets scan inverted e =
      let s = scan_at chip u scan in
      let stored = at_some (λ part. stored_nets part.body ≡ option_to_list net) chip.parts u s.part s.at inverted in
      subst (ArePinNets (core_of chip) u (inputs_at (core_of chip) u) (outputs_at (core_of chip) u)) (sym (e ∙ ap (map (core_net chip)) (sym stored)))
      (stored_are u s.part s.at)

  pub inverted_within : (u net : ℕ) → IsSomeAnd (slice_get chip.parts u) (λ part. IsScan part.body) → IsInverted chip u (Some net) → net < net_count chip
  inverted_within u net scan inverted =
      let s = scan_at chip u scan in
      let stored : option_to_list s.nets.qn ≡ net ∷ [] =
      sym (ap stored_nets s.body) ∙ at_some (λ part. stored_nets part.body ≡ net ∷ []) chip.parts u s.part s.at inverted in
      data_within chip is u s.part net s.at (inverted_data u net s (by s.nets.qn s.nets.qn refl stored))
    where
      by : (qn given : Option ℕ) → given ≡ qn → option_to_list qn ≡ net ∷ [] → given ≡ Some net
      by None given e there = absurd cc
      by (Some other) given e there = let same : other ≡ net = cc in e ∙ ap Some same

-- a row of lists that are below a number is below it
pub row_below : (bound : ℕ) (rows : List (List ℕ)) (u : ℕ) → AreBelow bound rows → u < length rows → All (λ net. net < bound) (get_or rows u [])
row_below bound rows u are lt = are u [] lt

rows_below : (chip : flat.Chip) (before pins : ℕ → ℕ) (count : ℕ) (rows : List (List ℕ)) → HaveNets chip before pins count rows
    → ((u pin : ℕ) → u < count → pin < pins u → net_of chip u (before u + pin) < length chip.nets) → AreBelow (length chip.nets) rows
rows_below chip before pins count rows have within u d lt pin e pin_lt =
    let known : u < count = let r = have.room in omega arith in
    let are = have.each u known in
    let same : get_or rows u d ≡ get_or rows u [] = get_or_default rows u d [] lt in
    let there : pin < length (get_or rows u []) = subst (λ (row : List ℕ). pin < length row) same pin_lt in
    let pin_known : pin < pins u = let r = are.counted in omega arith in
    subst (λ n. n < length chip.nets)
    (sym (ap (λ (row : List ℕ). get_or row pin e) same ∙ get_or_default (get_or rows u []) pin e 0 there ∙ are.each pin pin_known))
    (within u pin known pin_known)

module _ (chip : LinkedChip) (is : IsWired chip) where
  core_count : count_of (core_of chip) ≡ length chip.parts
  core_count = length-map chip.parts (λ (p : Part). core_instance chip p.body)

  pub inputs_below : (rows : List (List ℕ)) → AreInputNets (core_of chip) (length chip.parts) rows → AreBelow (length (core_of chip).nets) rows
  inputs_below rows have =
      rows_below (core_of chip) (λ u. 0) (inputs_at (core_of chip)) (length chip.parts) rows have (λ u pin lt pin_lt.
      (core_is chip is).on_nets u (0 + pin) (let e = core_count in omega arith) (omega arith))

  pub outputs_below : (rows : List (List ℕ)) → AreOutputNets (core_of chip) (length chip.parts) rows → AreBelow (length (core_of chip).nets) rows
  outputs_below rows have =
      rows_below (core_of chip) (inputs_at (core_of chip)) (outputs_at (core_of chip)) (length chip.parts) rows have (λ u pin lt pin_lt.
      (core_is chip is).on_nets u (inputs_at (core_of chip) u + pin) (let e = core_count in omega arith) (omega arith))

  -- all pins
  pub pins_are : (nets count : ℕ) (ins outs : List (List ℕ)) → nets ≡ length (core_of chip).nets → count ≡ length ins
      → AreInputNets (core_of chip) (length chip.parts) ins → AreOutputNets (core_of chip) (length chip.parts) outs
      → AreCorePins (core_of chip) (record { nets = nets; count = count; inputs = ins; outputs = outs })
  pins_are nets count ins outs total counted have_ins have_outs = record {
    are = record {
      nets = total;
      count = counted ∙ have_ins.room ∙ sym core_count;
      inputs = λ u lt. have_ins.each u (let e = core_count in omega arith);
      outputs = λ u lt. have_outs.each u (let e = core_count in omega arith);
    };
    input_rows = sym counted;
    output_rows = have_outs.room ∙ sym (counted ∙ have_ins.room);
  }

-- a row of the vectors is that of the lists
pub row_is : (rows : List (Vec ℕ Global)) (u : ℕ) (row : Vec ℕ Global) → u < length rows → row ≡ get_or rows u row → row.items ≡ get_or (items_of rows) u []
row_is rows u row lt e = sym (get_or-map (λ (v : Vec ℕ Global). v.items) rows u row [] lt ∙ ap (λ (v : Vec ℕ Global). v.items) (sym e))

pub within_row : (bound : ℕ) (rows : List (Vec ℕ Global)) (u : ℕ) (row : Vec ℕ Global) (nets : List ℕ) → AreBelow bound (items_of rows) → u < length rows
    → row ≡ get_or rows u row → nets ≡ row.items → All (λ net. net < bound) nets
within_row bound rows u row nets are lt e same =
    subst (All (λ net. net < bound)) (sym (same ∙ row_is rows u row lt e))
    (row_below bound (items_of rows) u are (let l = length-map rows (λ (v : Vec ℕ Global). v.items) in omega arith))
