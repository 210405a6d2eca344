-- The core of a linked chip is one that a flat network can be built on.
use Rattle.std.proofs.Common.{◌≡◌, ℕ, suc, ◌+◌, ◌-◌, ◌<◌, List, [], ◌∷◌, Bool, true, false, length, inl, inr}
use Rattle.std.proofs.Common.{refl, sym, ◌∙◌, ap, subst, arith, get_or}
use Rattle.std.specs.Prelude.{eqb, slice_get, Option, Some, IsSomeAnd, not, ◌&&◌, if◌then◌else◌}
use Rattle.std.specs.List.{All, Contains, list_any, flat_map, position_or_len}
use Rattle.std.proofs.lemmas.List.{get_or-map, length-map}
use Rattle.std.proofs.lemmas.List.Sums.{position_or_len_is}
use Rattle.std.proofs.lemmas.List.Folds.{Any-from_list_any, list_any-from_Any}
use Rattle.std.proofs.lemmas.List.Elements.{Contains-append_cases}
use Rattle.std.proofs.lemmas.Option.{slice_get_within, slice_get-get_or, get_or_from_slice_get}
use Rattle.std.proofs.lemmas.Bool.{cases_lt, ne_eqb, eq-eqb}
use Rattle.ca_net.specs.declared.scale.TheConstants.{OUTPUT_NET}
use Rattle.ca_net.specs.declared.node.NodeKind.TheVariants as node
use Rattle.ca_cell.specs.Raw.{is_input, is_output, role_count}
use Rattle.ca_linked.specs.declared.parts.Body.{Body}
use Rattle.ca_linked.specs.declared.parts.Part.{Part}
use Rattle.ca_linked.specs.declared.parts.PortBit.{PortBit}
use Rattle.ca_linked.specs.declared.parts.Source.TheVariants.{FromPin}
use Rattle.ca_linked.specs.declared.parts.Body.TheVariants.{Gate, Scan}
use Rattle.ca_linked.specs.Linked.{LinkedChip, net_count, has, is_scan_path, gate_inputs, gate_outputs, data_nets}
use Rattle.ca_linked.specs.Linked.{output_nets, outputs_of, Drives, IsBody, Feeds, IsGate, IsLibrary, IsWired}
use Rattle.ca_linked.specs.Linked.{port_nets, d_nets}
use Rattle.ca_flat.specs.Chip.{Instance, cell_at, inputs_at, outputs_at, net_of, output_net, count_of}
use Rattle.ca_flat.specs.Chip.{net_kind, IsCell, IsChip}
use Rattle.ca_flat.specs.Chip as flat
use Rattle.ca_view.specs.Core.{core_net, core_kinds, stored_nets, kind_of, core_instance, core_of, body_rank}
use Rattle.ca_view.specs.Core.{rank_in, rank_of}
use Rattle.ca_linked.proofs.OrderLemmas.{place_of, contained_at}
use Rattle.ca_view.proofs.CoreLemmas.{IsOutside, core_less, core_same, length-core_kinds, kind_at}
use Rattle.ca_view.proofs.CoreLemmas.{net_of_number}
use Rattle.ca_view.proofs.CorePartLemmas.{pins_in, body_is_cell, stored_count, stored_pin, read_count}
use Rattle.ca_view.proofs.CorePartLemmas.{read_pin, stored_is_data, read_is_data, first_stored}
use Rattle.ca_view.proofs.CorePartLemmas.{stored_is_driven, core_at, part_at}
use Rattle.ca_linked.proofs.PartLemmas.{has_contains, contains_has, of_all, of_list}

-- what the pieces of a list contain
contains_piece : {X : Type 0} (f : X → List ℕ) (xs : List X) (n : ℕ) → Contains (flat_map f xs) n → (x : X) × Contains xs x × Contains (f x) n
contains_piece f [] n has = absurd (let lt = has.1 in omega arith)
contains_piece f (x ∷ xs) n has = elim (Contains-append_cases (f x) (flat_map f xs) n has) [
  | inl here ↦ (x, (0, omega arith, refl), here)
  | inr later ↦
      let found = contains_piece f xs n later in
      (found.0, (suc found.1.0, (let lt = found.1.1 in omega arith), found.1.2), found.2)
]

d_is_data : (body : Body) (net : ℕ) → Contains (d_nets body) net → Contains (data_nets body) net
d_is_data (Gate cell inputs outputs) net has = absurd (let lt = has.1 in omega arith)
d_is_data (Scan nets) net has =
    let first : has.0 ≡ 0 = let lt = has.1 in omega arith in
    (0, omega arith, ap (λ k. get_or (nets.d ∷ []) k net) (sym first) ∙ has.2)

module _ (chip : LinkedChip) (is : IsWired chip) where
  pub body_of : (u : ℕ) (part : Part) → slice_get chip.parts u ≡ Some part → IsBody chip.cells part.body
  body_of u part at = of_all (λ (p : Part). IsBody chip.cells p.body) chip.parts u part is.bodies at

  -- a data net of an instance is one of the core's
  pub data_within : (u : ℕ) (part : Part) (net : ℕ) → slice_get chip.parts u ≡ Some part → Contains (data_nets part.body) net → net < net_count chip
  data_within u part net at has =
      of_list (λ n. n < net_count chip) (data_nets part.body) net
      (of_all (λ (p : Part). All (λ n. n < net_count chip) (data_nets p.body)) chip.parts u part is.on_nets at) has

  pub data_outside : (u : ℕ) (part : Part) (net : ℕ) → slice_get chip.parts u ≡ Some part → Contains (data_nets part.body) net → IsOutside chip net
  data_outside u part net at has =
      of_list (IsOutside chip) (data_nets part.body) net
      (of_all (λ (p : Part). All (IsOutside chip) (data_nets p.body)) chip.parts u part is.off_path at) has

  pub number_within : (net : ℕ) → net < net_count chip → IsOutside chip net → core_net chip net < length (core_of chip).nets
  number_within net lt outside =
      let less = core_less chip net (net_count chip) outside lt in
      let l = length-core_kinds chip (net_count chip) in
      omega arith

  cells : (u : ℕ) → u < count_of (core_of chip) → IsCell (cell_at (core_of chip) u)
  cells u lt =
      let found = part_at chip u lt in
      subst (λ (i : Instance). IsCell i.cell) (sym (core_at chip u found.part found.at))
      (body_is_cell chip found.part.body (body_of u found.part found.at))

  -- the numbers of pins and the nets of the core's instance are those of its body
  inputs_are : (u : ℕ) (part : Part) → slice_get chip.parts u ≡ Some part → inputs_at (core_of chip) u ≡ pins_in chip part.body
  inputs_are u part at = ap (λ (i : Instance). role_count is_input i.cell.pins) (core_at chip u part at)

  outputs_are : (u : ℕ) (part : Part) → slice_get chip.parts u ≡ Some part → outputs_at (core_of chip) u ≡ length (stored_nets part.body)
  outputs_are u part at =
      ap (λ (i : Instance). role_count is_output i.cell.pins) (core_at chip u part at) ∙ sym (stored_count chip part.body (body_of u part at))

  output_net_is : (u : ℕ) (part : Part) (output : ℕ) → slice_get chip.parts u ≡ Some part → output < length (stored_nets part.body)
      → output_net (core_of chip) u output ≡ core_net chip (get_or (stored_nets part.body) output 0)
  output_net_is u part output at lt =
      ap (λ (i : Instance). get_or i.pins (role_count is_input i.cell.pins + output) 0) (core_at chip u part at)
      ∙ stored_pin chip part.body output (body_of u part at) lt

  input_net_is : (u : ℕ) (part : Part) (pin : ℕ) → slice_get chip.parts u ≡ Some part → pin < pins_in chip part.body
      → net_of (core_of chip) u pin ≡ core_net chip (get_or (gate_inputs part.body) pin 0)
  input_net_is u part pin at lt =
      ap (λ (i : Instance). get_or i.pins pin 0) (core_at chip u part at) ∙ read_pin chip part.body pin (body_of u part at) lt

  on_nets : (u pin : ℕ) → u < count_of (core_of chip) → pin < inputs_at (core_of chip) u + outputs_at (core_of chip) u
      → net_of (core_of chip) u pin < length (core_of chip).nets
  on_nets u pin lt pin_lt =
      let found = part_at chip u lt in
      let ins = inputs_are u found.part found.at in
      let outs = outputs_are u found.part found.at in
      elim (cases_lt pin (pins_in chip found.part.body)) [
        | inl input ↦
            let has = read_is_data found.part.body pin (let e = read_count chip found.part.body (body_of u found.part found.at) in omega arith) in
            subst (λ n. n < length (core_of chip).nets) (sym (input_net_is u found.part pin found.at input))
            (number_within (get_or (gate_inputs found.part.body) pin 0) (data_within u found.part _ found.at has) (data_outside u found.part _ found.at has))
        | inr following ↦
            let output = pin - pins_in chip found.part.body in
            let out_lt : output < length (stored_nets found.part.body) = omega arith in
            let has = stored_is_data found.part.body output out_lt in
            let same : inputs_at (core_of chip) u + output ≡ pin = omega arith in
            subst (λ n. n < length (core_of chip).nets)
            (sym (ap (net_of (core_of chip) u) (sym same) ∙ output_net_is u found.part output found.at out_lt))
            (number_within (get_or (stored_nets found.part.body) output 0) (data_within u found.part _ found.at has) (data_outside u found.part _ found.at has))
      ]

  -- the net of the linked chip that a pin of the core drives
  record IsDriven (k : ℕ) (p : flat.Drives (core_of chip) k) : Type 0 where
    part : Part
    at : slice_get chip.parts p.instance ≡ Some part
    within : p.output < length (stored_nets part.body)
    numbered : core_net chip (get_or (stored_nets part.body) p.output 0) ≡ k

  driven_net : (k : ℕ) (p : flat.Drives (core_of chip) k) → IsDriven k p
  driven_net k p =
      let found = part_at chip p.instance p.known in
      let lt : p.output < length (stored_nets found.part.body) = let e = outputs_are p.instance found.part found.at in let w = p.within in omega arith in
      record {
        part = found.part;
        at = found.at;
        within = lt;
        numbered = sym (output_net_is p.instance found.part p.output found.at lt) ∙ p.on;
      }

  stored_kind : (u : ℕ) (part : Part) (net : ℕ) → slice_get chip.parts u ≡ Some part → Contains (stored_nets part.body) net
      → kind_of chip net ≡ node.Storage OUTPUT_NET
  stored_kind u part net at contains =
      ap (λ b. if b then node.Storage OUTPUT_NET else node.Input)
      (list_any-from_Any (λ (p : Part). has (stored_nets p.body) net) chip.parts
      (u, part, slice_get_within chip.parts u part at, get_or_from_slice_get chip.parts u part part at, contains_has (stored_nets part.body) net contains))

  stored_at : (part : Part) (output : ℕ) → output < length (stored_nets part.body) → Contains (stored_nets part.body) (get_or (stored_nets part.body) output 0)
  stored_at part output lt = contained_at (stored_nets part.body) output _ (slice_get-get_or (stored_nets part.body) output 0 lt)

  drives : (k : ℕ) → flat.Drives (core_of chip) k → net_kind (core_of chip) k ≡ node.Storage OUTPUT_NET
  drives k p =
      let d = driven_net k p in
      let net = get_or (stored_nets d.part.body) p.output 0 in
      let contains = stored_is_data d.part.body p.output d.within in
      ap (λ n. get_or (core_kinds chip (net_count chip)) n node.Input) (sym d.numbered)
      ∙ kind_at chip net (net_count chip) (data_outside p.instance d.part net d.at contains) (data_within p.instance d.part net d.at contains)
      ∙ stored_kind p.instance d.part net d.at (stored_at d.part p.output d.within)

  -- a net that isn't an input is driven by an instance
  stored_by : (net : ℕ) → (kind_of chip net ≡ node.Input → ⊥) → list_any (λ (p : Part). has (stored_nets p.body) net) chip.parts ≡ true
  stored_by net not_input = by (list_any (λ (p : Part). has (stored_nets p.body) net) chip.parts) refl
    where
      by : (b : Bool) → list_any (λ (p : Part). has (stored_nets p.body) net) chip.parts ≡ b → list_any (λ (p : Part). has (stored_nets p.body) net) chip.parts ≡ true
      by true e = e
      by false e = absurd (not_input (ap (λ b. if b then node.Storage OUTPUT_NET else node.Input) e))

  driven : (k : ℕ) → k < length (core_of chip).nets → (net_kind (core_of chip) k ≡ node.Input → ⊥) → flat.Drives (core_of chip) k
  driven k lt not_input =
      let found = net_of_number chip (net_count chip) k (let l = length-core_kinds chip (net_count chip) in omega arith) in
      let kind : net_kind (core_of chip) k ≡ kind_of chip found.net =
      ap (λ n. get_or (core_kinds chip (net_count chip)) n node.Input) (sym found.numbered) ∙ kind_at chip found.net (net_count chip) found.outside found.within in
      let any = Any-from_list_any (λ (p : Part). has (stored_nets p.body) found.net) chip.parts (stored_by found.net (λ e. not_input (kind ∙ e))) in
      let at : slice_get chip.parts any.0 ≡ Some any.1 = slice_get-get_or chip.parts any.0 any.1 any.2 ∙ ap Some any.3 in
      let contains = has_contains (stored_nets any.1.body) found.net any.4 in
      let out = outputs_are any.0 any.1 at in
      record {
        instance = any.0;
        output = contains.0;
        known = (let l = length-map chip.parts (λ (p : Part). core_instance chip p.body) in let w = any.2 in omega arith);
        within = (let w = contains.1 in omega arith);
        on = output_net_is any.0 any.1 contains.0 at contains.1
            ∙ ap (core_net chip) (get_or_from_slice_get (stored_nets any.1.body) contains.0 found.net 0 (place_of (stored_nets any.1.body) found.net contains))
            ∙ found.numbered;
      }

  -- the pin as a source of the linked chip
  source_of : (k : ℕ) (p : flat.Drives (core_of chip) k) (d : IsDriven k p)
      → Drives chip (get_or (stored_nets d.part.body) p.output 0) (FromPin p.instance (first_stored d.part.body + p.output))
  source_of k p d =
      subst (λ (o : Option Part). IsSomeAnd o (λ part. slice_get (output_nets part.body) (first_stored d.part.body + p.output) ≡ Some (get_or (stored_nets d.part.body) p.output 0)))
      (sym d.at) (stored_is_driven d.part.body p.output d.within)

  same_net : (k : ℕ) (p q : flat.Drives (core_of chip) k) (d : IsDriven k p) (e : IsDriven k q)
      → get_or (stored_nets d.part.body) p.output 0 ≡ get_or (stored_nets e.part.body) q.output 0
  same_net k p q d e =
      core_same chip _ _ (data_outside p.instance d.part _ d.at (stored_is_data d.part.body p.output d.within))
      (data_outside q.instance e.part _ e.at (stored_is_data e.part.body q.output e.within)) (d.numbered ∙ sym e.numbered)

  from_pins : (u w a b : ℕ) → FromPin u a ≡ FromPin w b → (u ≡ w) × (a ≡ b)
  from_pins u w a b e = (let first : u ≡ w = cc in first, let second : a ≡ b = cc in second)

  one_driver : (k : ℕ) (p q : flat.Drives (core_of chip) k) → (p.instance ≡ q.instance) × (p.output ≡ q.output)
  one_driver k p q =
      let d = driven_net k p in
      let e = driven_net k q in
      let net = get_or (stored_nets d.part.body) p.output 0 in
      let second : Drives chip net (FromPin q.instance (first_stored e.part.body + q.output)) =
      subst (λ n. Drives chip n (FromPin q.instance (first_stored e.part.body + q.output))) (sym (same_net k p q d e)) (source_of k q e) in
      let pins = from_pins p.instance q.instance _ _
      (is.one_driver net (FromPin p.instance (first_stored d.part.body + p.output)) (FromPin q.instance (first_stored e.part.body + q.output)) (source_of k p d) second) in
      let both : Some d.part ≡ Some e.part = sym d.at ∙ ap (slice_get chip.parts) pins.0 ∙ e.at in
      let same : d.part ≡ e.part = cc in
      let shift : first_stored d.part.body ≡ first_stored e.part.body = ap (λ (x : Part). first_stored x.body) same in
      (pins.0, (let sums = pins.1 in omega arith))

  -- a library instance's place in the order
  place_is : (u k : ℕ) → slice_get chip.order k ≡ Some u → position_or_len (eqb u) chip.order ≡ k
  place_is u k at =
      let lt = slice_get_within chip.order k u at in
      position_or_len_is (eqb u) chip.order k 0 (omega arith)
      (λ j less. ne_eqb u (get_or chip.order j 0) (λ e.
      let there : slice_get chip.order j ≡ Some u = slice_get-get_or chip.order j 0 (omega arith) ∙ ap Some (sym e) in
      let same : j ≡ k = is.ordered.once j k u there at in
      omega arith))
      (λ _. eq-eqb u (get_or chip.order k 0) (sym (get_or_from_slice_get chip.order k u 0 at)))

  rank_is : (u : ℕ) (part : Part) → slice_get chip.parts u ≡ Some part → rank_of chip u ≡ body_rank (position_or_len (eqb u) chip.order) part.body
  rank_is u part at = ap (rank_in chip u) at

  -- what feeds an instance is before it
  feeds_before : (w u : ℕ) (wp up : Part) → slice_get chip.parts w ≡ Some wp → slice_get chip.parts u ≡ Some up → Feeds chip w u → IsLibrary chip u
      → position_or_len (eqb w) chip.order < position_or_len (eqb u) chip.order
  feeds_before w u wp up at_w at_u feeds library =
      let here = (is.ordered.has u).1 library in
      let at = place_of chip.order u here in
      let before = is.ordered.after here.0 u w at feeds in
      let place_w = place_is w before.0 before.2 in
      let place_u = place_is u here.0 at in
      let lt = before.1 in
      omega arith

  ranked : (u pin : ℕ) → u < count_of (core_of chip) → pin < inputs_at (core_of chip) u → (p : flat.Drives (core_of chip) (net_of (core_of chip) u pin))
      → rank_of chip p.instance < rank_of chip u
  ranked u pin lt pin_lt p =
      let found = part_at chip u lt in
      let d = driven_net (net_of (core_of chip) u pin) p in
      let input : pin < pins_in chip found.part.body = let e = inputs_are u found.part found.at in omega arith in
      let read_lt : pin < length (gate_inputs found.part.body) = let e = read_count chip found.part.body (body_of u found.part found.at) in omega arith in
      let contains = read_is_data found.part.body pin read_lt in
      let same : get_or (stored_nets d.part.body) p.output 0 ≡ get_or (gate_inputs found.part.body) pin 0 =
      core_same chip _ _ (data_outside p.instance d.part _ d.at (stored_is_data d.part.body p.output d.within))
      (data_outside u found.part _ found.at contains) (d.numbered ∙ input_net_is u found.part pin found.at input) in
      let rank_w = rank_is p.instance d.part d.at in
      let rank_u = rank_is u found.part found.at in
      let less = by d.part found.part d.at found.at p.output pin d.within read_lt same d.part.body found.part.body refl refl in
      omega arith
    where
      by : (wp up : Part) → slice_get chip.parts p.instance ≡ Some wp → slice_get chip.parts u ≡ Some up → (output read : ℕ)
          → output < length (stored_nets wp.body) → read < length (gate_inputs up.body) → get_or (stored_nets wp.body) output 0 ≡ get_or (gate_inputs up.body) read 0
          → (wb ub : Body) → wp.body ≡ wb → up.body ≡ ub
          → body_rank (position_or_len (eqb p.instance) chip.order) wp.body < body_rank (position_or_len (eqb u) chip.order) up.body
      by wp up at_w at_u output read out_lt in_lt same wb (Scan nets) ew eu =
          absurd (let none : length (gate_inputs up.body) ≡ 0 = ap (λ (b : Body). length (gate_inputs b)) eu in omega arith)
      by wp up at_w at_u output read out_lt in_lt same (Scan nets) (Gate raw read_nets driven_nets) ew eu =
          let none : body_rank (position_or_len (eqb p.instance) chip.order) wp.body ≡ 0 = ap (body_rank (position_or_len (eqb p.instance) chip.order)) ew in
          let some : body_rank (position_or_len (eqb u) chip.order) up.body ≡ suc (position_or_len (eqb u) chip.order) =
          ap (body_rank (position_or_len (eqb u) chip.order)) eu in
          omega arith
      by wp up at_w at_u output read out_lt in_lt same (Gate cell inputs outputs) (Gate raw read_nets driven_nets) ew eu =
          let some_w : body_rank (position_or_len (eqb p.instance) chip.order) wp.body ≡ suc (position_or_len (eqb p.instance) chip.order) =
          ap (body_rank (position_or_len (eqb p.instance) chip.order)) ew in
          let some_u : body_rank (position_or_len (eqb u) chip.order) up.body ≡ suc (position_or_len (eqb u) chip.order) =
          ap (body_rank (position_or_len (eqb u) chip.order)) eu in
          let drives_it : Contains (gate_outputs wp.body) (get_or (gate_inputs up.body) read 0) =
          subst (λ (b : Body). Contains (gate_outputs b) (get_or (gate_inputs up.body) read 0)) (sym ew)
          (subst (Contains (gate_outputs (Gate cell inputs outputs))) (ap (λ (b : Body). get_or (stored_nets b) output 0) (sym ew) ∙ same)
          (contained_at (stored_nets (Gate cell inputs outputs)) output _ (slice_get-get_or (stored_nets (Gate cell inputs outputs)) output 0 (subst (λ (b : Body). output < length (stored_nets b)) ew out_lt)))) in
          let feeds : Feeds chip p.instance u = record {
            driver = wp;
            reader = up;
            is_driver = at_w;
            is_reader = at_u;
            net = get_or (gate_inputs up.body) read 0;
            driven = drives_it;
            read = contained_at (gate_inputs up.body) read _ (slice_get-get_or (gate_inputs up.body) read 0 in_lt);
          } in
          let library : IsLibrary chip u = subst (λ (o : Option Part). IsSomeAnd o (λ part. IsGate part.body)) (sym at_u) (subst IsGate (sym eu) tt) in
          let before = feeds_before p.instance u wp up at_w at_u feeds library in
          omega arith

  -- the observed nets are off the scan path
  pub outputs_outside : (net : ℕ) → Contains (outputs_of chip) net → (net < net_count chip) × IsOutside chip net
  outputs_outside net has = elim (Contains-append_cases (port_nets chip false) (flat_map (λ (p : Part). d_nets p.body) chip.parts) net has) [
    | inl of_port ↦
        let found = contains_piece (λ port. if (if port.is_input then false else not false) && not (is_scan_path chip port.net) then port.net ∷ [] else []) chip.ports net of_port in
        by_port found.0 found.1 found.2
    | inr of_part ↦
        let found = contains_piece (λ (p : Part). d_nets p.body) chip.parts net of_part in
        let at : slice_get chip.parts found.1.0 ≡ Some found.0 = slice_get-get_or chip.parts found.1.0 found.0 found.1.1 ∙ ap Some found.1.2 in
        let in_data = d_is_data found.0.body net found.2 in
        (data_within found.1.0 found.0 net at in_data, data_outside found.1.0 found.0 net at in_data)
  ]
    where
      by_port : (port : PortBit) → Contains chip.ports port → Contains (if (if port.is_input then false else not false) && not (is_scan_path chip port.net) then port.net ∷ [] else []) net
          → (net < net_count chip) × IsOutside chip net
      by_port port at piece = by port.is_input (is_scan_path chip port.net) refl piece
        where
          by : (input path : Bool) → is_scan_path chip port.net ≡ path → Contains (if (if input then false else not false) && not path then port.net ∷ [] else []) net
              → (net < net_count chip) × IsOutside chip net
          by true path e there = absurd (let lt = there.1 in omega arith)
          by false true e there = absurd (let lt = there.1 in omega arith)
          by false false e there =
              let first : there.0 ≡ 0 = let lt = there.1 in omega arith in
              let same : port.net ≡ net = ap (λ k. get_or (port.net ∷ []) k net) (sym first) ∙ there.2 in
              (subst (λ n. n < net_count chip) same (subst (λ (q : PortBit). q.net < net_count chip) at.2 (is.ports_on_nets at.0 port at.1)), subst (IsOutside chip) same e)

  observed : (k : ℕ) → Contains (core_of chip).outputs k → k < length (core_of chip).nets
  observed k has =
      let lt : has.0 < length (outputs_of chip) = let l = length-map (outputs_of chip) (core_net chip) in let w = has.1 in omega arith in
      let net = get_or (outputs_of chip) has.0 0 in
      let same : core_net chip net ≡ k = sym (get_or-map (core_net chip) (outputs_of chip) has.0 0 k lt) ∙ has.2 in
      let good = outputs_outside net (contained_at (outputs_of chip) has.0 net (slice_get-get_or (outputs_of chip) has.0 0 lt)) in
      subst (λ n. n < length (core_of chip).nets) same (number_within net good.0 good.1)

  pub core_is : IsChip (core_of chip) (rank_of chip)
  core_is = record {
    cells = cells;
    on_nets = on_nets;
    driven = driven;
    drives = drives;
    one_driver = one_driver;
    ranked = ranked;
    observed = observed;
  }
