-- Instances on their wires, one after another.
use Rattle.std.proofs.Common.{◌≡◌, ℕ, ◌+◌, ◌<◌, ◌≤◌, ◌^◌, List, [], ◌∷◌, ◌++◌, Bool, true, false, length, map}
use Rattle.std.proofs.Common.{refl, sym, ◌∙◌, ap, ap₂, subst, arith}
use Rattle.std.specs.Prelude.{Option, Some, None, IsNone, slice_get, drop, option_to_list, cond}
use Rattle.std.specs.Prelude.{if◌then◌else◌, ◌↔◌}
use Rattle.std.proofs.lemmas.List.{append_assoc, map-append, length-map, length_push}
use Rattle.std.proofs.lemmas.List.Sums.{sum_by-cons}
use Rattle.std.proofs.lemmas.List.Elements.{All-push, All-nil}
use Rattle.std.proofs.lemmas.Option.{get_or_from_slice_get}
use Rattle.ca_cell.specs.declared.raw.Role.{Role}
use Rattle.ca_cell.specs.declared.raw.RawPin.{RawPin}
use Rattle.ca_cell.specs.declared.raw.RawCell.{RawCell}
use Rattle.ca_cell.specs.Library.{Named}
use Rattle.ca_cell.specs.Raw.{is_input, is_output, role_count}
use Rattle.ca_cell.specs.Rules.{IsRaw, KeepsRules}
use Rattle.ca_verilog.specs.declared.raw.RawUse.{RawUse}
use Rattle.ca_verilog.specs.declared.raw.RawInstance.{RawInstance}
use Rattle.ca_linked.specs.declared.parts.Body.TheVariants.{Gate, Scan}
use Rattle.ca_linked.specs.declared.parts.Part.{Part}
use Rattle.ca_linked.specs.declared.parts.ScanNets.{ScanNets}
use Rattle.ca_linked.specs.Linked.{IsGateOf, no_cell, input_nets, output_nets}
use Rattle.ca_wiring.specs.declared.scan_row.ScanRow.{ScanRow}
use Rattle.ca_wiring.specs.Linking.{HasMeaning, data_name}
use Rattle.ca_wiring.specs.Wiring as wiring
use Rattle.ca_wiring.specs.Wiring.{Meaning, ScanCell, bit_on, names_with, input_wire, input_wires, output_wires}
use Rattle.ca_wiring.specs.Wiring.{input_names, output_names, open_count, meaning_of, entry_meaning, WiredPart}
use Rattle.ca_wiring.specs.Wiring.{wired_part, wired_parts}
use Rattle.ca_draft.specs.code.OnWires.{cells_of, IsCellAt, IsOnWires, IsPartOnWires, wired_of, open_counts}
use Rattle.ca_draft.specs.code.OnWires.{IsKept, AreOnWires, next_own}
use Rattle.ca_linked.proofs.EndLemmas.{drop_at}
use Rattle.ca_draft.proofs.OutputLemmas.{outputs_cons}

-- there is a wire for each pin
pub length-input_wires : (bits : ℕ) (uses : List RawUse) (names : List (List ℕ)) → length (input_wires bits uses names) ≡ length names
length-input_wires bits uses names = length-map names (λ name. input_wire bits (bit_on uses name))

pub length-output_wires : (bits : ℕ) (uses : List RawUse) (own : ℕ) (names : List (List ℕ)) → length (output_wires bits uses own names) ≡ length names
length-output_wires bits uses own [] = refl
length-output_wires bits uses own (name ∷ names) =
    ap length (outputs_cons bits uses own name names)
    ∙ (let e = length-output_wires bits uses (next_own own (bit_on uses name)) names in omega (arith, e))

pub length-names_with : (is_role : Role → Bool) (pins : List RawPin) → length (names_with is_role pins) ≡ role_count is_role pins
length-names_with is_role [] = refl
length-names_with is_role (pin ∷ pins) =
    by (length-names_with is_role pins) (is_role pin.role) ∙ sym (sum_by-cons (λ (p : RawPin). cond (is_role p.role) 1 0) pin pins)
  where
    by : length (names_with is_role pins) ≡ role_count is_role pins → (is : Bool)
        → length (if is then pin.name ∷ names_with is_role pins else names_with is_role pins) ≡ cond is 1 0 + role_count is_role pins
    by e true = omega (arith, e)
    by e false = omega (arith, e)

pub role_count_le : (is_role : Role → Bool) (pins : List RawPin) → role_count is_role pins ≤ length pins
role_count_le is_role [] = omega arith
role_count_le is_role (pin ∷ pins) =
    let e = sum_by-cons (λ (p : RawPin). cond (is_role p.role) 1 0) pin pins in
    let le = role_count_le is_role pins in
    let one = by (is_role pin.role) in
    omega (arith, e, le, one)
  where
    by : (is : Bool) → cond is 1 0 ≤ 1
    by true = omega arith
    by false = omega arith

module _ (library : List Named) (bits : ℕ) (uses : List RawUse) where
  -- the body of an instance of a library cell
  pub gate_is : (place : ℕ) (raw : RawCell) (own following : ℕ) (inputs outputs : List ℕ) → IsCellAt library place raw → IsRaw raw → KeepsRules raw
      → inputs ≡ input_wires bits uses (names_with is_input raw.pins)
      → outputs ≡ output_wires bits uses own (names_with is_output raw.pins)
      → following ≡ own + open_count uses (names_with is_output raw.pins)
      → IsOnWires library bits (wiring.Library raw) uses own following (Gate place inputs outputs)
  gate_is place raw own following inputs outputs at is_raw keeps are_inputs are_outputs counted =
      let count : length outputs ≡ role_count is_output raw.pins =
      ap length are_outputs ∙ length-output_wires bits uses own (names_with is_output raw.pins) ∙ length-names_with is_output raw.pins in
      record {
        inputs = are_inputs;
        outputs = are_outputs;
        counted = counted;
        meant = at;
        is_body = subst (λ (cell : RawCell). IsGateOf cell inputs outputs) (sym (get_or_from_slice_get (cells_of library) place raw no_cell at)) (record {
          is_raw = is_raw;
          keeps = keeps;
          net_per_input = ap length are_inputs ∙ length-input_wires bits uses (names_with is_input raw.pins) ∙ length-names_with is_input raw.pins;
          net_per_output = count;
        });
        few =
            let le = role_count_le is_output raw.pins in
            let pins = is_raw.pins in
            let nets = is_raw.few_nets in
            omega (arith, le, pins, nets, count);
      }

  -- that of an instance of a scan cell
  pub scan_is : (row : ScanRow) (own following : ℕ) (pins : ScanNets)
      → input_nets (Scan pins) ≡ input_wires bits uses (input_names (ScanCell row))
      → output_nets (Scan pins) ≡ output_wires bits uses own (output_names (ScanCell row))
      → following ≡ own + open_count uses (output_names (ScanCell row))
      → (IsNone pins.qn ↔ (row.qn ≡ []))
      → IsOnWires library bits (ScanCell row) uses own following (Scan pins)
  scan_is row own following pins are_inputs are_outputs counted named = record {
    inputs = are_inputs;
    outputs = are_outputs;
    counted = counted;
    meant = named;
    is_body = tt;
    few = by pins.qn;
  }
    where
      by : (qn : Option ℕ) → length (pins.q ∷ (option_to_list qn ++ pins.so ∷ [])) < 2 ^ 32
      by None = omega arith
      by (Some wire) = omega arith

module _ (library : List Named) (scan : List ScanRow) (bits : ℕ) (instances : List RawInstance) where
  -- no instance yet
  pub on_wires_none : AreOnWires library scan bits instances 0 (bits + 2) []
  on_wires_none = record { wired = refl; counted = refl; count = refl; kept = All-nil (IsKept library scan) }

  -- the next instance
  pub on_wires_more : (u own following : ℕ) (instance : RawInstance) (part : Part) (old new : List Part) → slice_get instances u ≡ Some instance
      → AreOnWires library scan bits instances u own old → IsPartOnWires library bits (meaning_of library scan instance.cell) instance own following part
      → new ≡ old ++ part ∷ [] → AreOnWires library scan bits instances (u + 1) following new
  on_wires_more u own following instance part old new at before is push =
      subst (AreOnWires library scan bits instances (u + 1) following) (sym push) (record {
        wired =
            before.wired
            ∙ ap (λ (rest : List RawInstance). map (wired_of library scan) old ++ wired_parts library scan bits own rest) (drop_at instances u instance at)
            ∙ ap₂ (λ (w : WiredPart) (n : ℕ). map (wired_of library scan) old ++ (w ∷ wired_parts library scan bits n (drop (u + 1) instances)))
            (sym same) (sym is.body.counted)
            ∙ sym (append_assoc (map (wired_of library scan) old) (wired_of library scan part ∷ []) (wired_parts library scan bits following (drop (u + 1) instances)))
            ∙ ap (λ l. l ++ wired_parts library scan bits following (drop (u + 1) instances)) (sym (map-append (wired_of library scan) old (part ∷ [])));
        counted =
            let all = before.counted in
            let rest = ap (open_counts library scan) (drop_at instances u instance at) in
            let here = is.body.counted in
            omega (arith, all, rest, here);
        count = let c = before.count in let l = length_push old part in omega (arith, c, l);
        kept = All-push (IsKept library scan) old part before.kept (record {
          data_pin = is.data_pin ∙ ap (λ cell. data_name (meaning_of library scan cell)) (sym is.cell);
          meant = subst (λ cell. HasMeaning (cells_of library) (meaning_of library scan cell) part.body) (sym is.cell) is.body.meant;
          is_body = is.body.is_body;
          few = is.body.few;
        });
      })
    where
      meaning : Meaning
      meaning = meaning_of library scan instance.cell

      same : wired_of library scan part ≡ wired_part bits own meaning instance
      same =
          ap (λ (n : List ℕ). let made : WiredPart = record { name = n; cell = part.cell; meaning = meaning_of library scan part.cell; inputs = input_nets part.body; outputs = output_nets part.body } in made) is.name
          ∙ ap (λ (c : List ℕ). let made : WiredPart = record { name = instance.name; cell = c; meaning = meaning_of library scan c; inputs = input_nets part.body; outputs = output_nets part.body } in made) is.cell
          ∙ ap (λ (i : List ℕ). let made : WiredPart = record { name = instance.name; cell = instance.cell; meaning = meaning; inputs = i; outputs = output_nets part.body } in made) is.body.inputs
          ∙ ap (λ (o : List ℕ). let made : WiredPart = record { name = instance.name; cell = instance.cell; meaning = meaning; inputs = input_wires bits instance.pins (input_names meaning); outputs = o } in made) is.body.outputs
