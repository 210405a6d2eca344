-- The instances of a netlist that was read have names that differ, so that a name means one instance of a
-- chip; and chips that are alike have the same names.
use Rattle.std.proofs.Common.{◌≡◌, ℕ, zero, suc, ◌+◌, ◌∙◌, Bool, true, false, List, [], ◌∷◌, map, refl}
use Rattle.std.proofs.Common.{sym, ap, subst, cond, arith, Result, Ok, Err, Some}
use Rattle.std.specs.Prelude.{slice_get, nat_lt}
use Rattle.std.specs.List.{IsDistinct}
use Rattle.std.specs.Str.{bytes_eq}
use Rattle.std.proofs.lemmas.Option.{slice_get_within}
use Rattle.ca_cell.specs.Library.{Named}
use Rattle.ca_verilog.specs.declared.bus.Bus.{Bus}
use Rattle.ca_verilog.specs.declared.fault.VerilogFault.{VerilogFault}
use Rattle.ca_verilog.specs.declared.fault.VerilogFault.TheVariants.{TooManyNets}
use Rattle.ca_verilog.specs.declared.instance.Instance.{Instance}
use Rattle.ca_verilog.specs.declared.netlist.TheConstants.{MOST_BITS}
use Rattle.ca_verilog.specs.declared.raw.RawInstance.{RawInstance}
use Rattle.ca_verilog.specs.declared.raw.RawNetlist.{RawNetlist}
use Rattle.ca_verilog.specs.Netlist.{bits_with, first_bits, raw_instance, netlist_with, limited}
use Rattle.ca_verilog.specs.Reading.{Reading}
use Rattle.ca_verilog.specs.Text.{reading_of, limited_of, netlist_of}
use Rattle.ca_verilog.proofs.PlaceLemmas.{distinct_once}
use Rattle.ca_verilog.proofs.SoundLemmas.{whole_reading}
use Rattle.ca_linked.specs.declared.parts.Body.{Body}
use Rattle.ca_linked.specs.declared.parts.Body.TheVariants.{Gate, Scan}
use Rattle.ca_linked.specs.Linked.{LinkedChip, IsGate}
use Rattle.ca_linked.specs.Instances.{IsNamedGate}
use Rattle.ca_linked.proofs.DriverLemmas.{some_inj}
use Rattle.ca_wiring.specs.declared.scan_row.ScanRow.{ScanRow}
use Rattle.ca_wiring.specs.Wiring.{WiredPart, meaning_of, output_names, open_count, wired_part, wired_parts, wiring_of}
use Rattle.ca_wiring.specs.Linking.{IsLinkOf}
use Rattle.ca_link_laws.specs.Alike.{AreBodiesAlike, AreAlike}
use Rattle.ca_link_laws.proofs.AlikeLemmas.{item_at}

instance_names : (firsts : List ℕ) (buses : List Bus) (instances : List Instance)
    → map (λ instance. instance.name) (map (raw_instance firsts buses) instances) ≡ map (λ instance. instance.name) instances
instance_names firsts buses [] = refl
instance_names firsts buses (instance ∷ more) = ap (λ (names : List (List ℕ)). instance.name ∷ names) (instance_names firsts buses more)

-- the instances of the netlist have names that differ
abbrev pub HaveNames : RawNetlist → Type 0
HaveNames raw = IsDistinct bytes_eq (map (λ instance. instance.name) raw.instances)

-- those of one that was read do
pub distinct_names : (text : List ℕ) (raw : RawNetlist) → netlist_of text ≡ Ok raw → HaveNames raw
unfolding limited
distinct_names text raw reported = by (reading_of text) refl reported
  where
    of_netlist : (it : Reading) → IsDistinct bytes_eq (map (λ instance. instance.name) it.instances)
        → (many : Bool) → cond many (Err (TooManyNets (bits_with 0 it.buses))) (Ok (netlist_with (first_bits 0 it.buses) it)) ≡ Ok raw
        → HaveNames raw
    of_netlist it distinct true is = absurd cc
    of_netlist it distinct false is =
        let same : netlist_with (first_bits 0 it.buses) it ≡ raw = cc in
        subst HaveNames same (subst (IsDistinct bytes_eq) (sym (instance_names (first_bits 0 it.buses) it.buses it.instances)) distinct)

    by : (read : Result Reading VerilogFault) → reading_of text ≡ read → limited_of read ≡ Ok raw → HaveNames raw
    by (Err fault) is read = absurd cc
    by (Ok it) is read =
        of_netlist it (whole_reading text it is).kept.instances.distinct (nat_lt MOST_BITS (bits_with 0 it.buses)) read

module _ (raw : RawNetlist) (library : List Named) (scan : List ScanRow) where
  -- what is wired has the name of its instance
  wired_name : (bits own : ℕ) (instances : List RawInstance) (u : ℕ) (wired : WiredPart)
      → slice_get (wired_parts library scan bits own instances) u ≡ Some wired
      → slice_get (map (λ instance. instance.name) instances) u ≡ Some wired.name
  wired_name bits own [] u wired at = absurd (let lt = slice_get_within [] u wired at in omega (arith, lt))
  wired_name bits own (instance ∷ more) zero wired at =
      let same = some_inj (wired_part bits own (meaning_of library scan instance.cell) instance) wired at in
      ap (λ (w : WiredPart). Some w.name) same
  wired_name bits own (instance ∷ more) (suc u) wired at =
      wired_name bits (own + open_count instance.pins (output_names (meaning_of library scan instance.cell))) more u wired at

  module _ (chip : LinkedChip) (link : IsLinkOf (wiring_of raw library scan) chip) where
    gate_name : (name : List ℕ) (u : ℕ) → IsNamedGate chip name u
        → slice_get (map (λ instance. instance.name) raw.instances) u ≡ Some name
    gate_name name u is =
        let wired = item_at chip.parts (wiring_of raw library scan).parts u is.part link.same_parts is.at in
        let same : wired.0.name ≡ name = sym (link.parts u wired.0 is.part wired.1 is.at).name ∙ is.named in
        wired_name _ _ raw.instances u wired.0 wired.1 ∙ ap (λ (it : List ℕ). Some it) same

    -- a name means one instance
    pub one_named : HaveNames raw → (name : List ℕ) (u v : ℕ) → IsNamedGate chip name u → IsNamedGate chip name v → u ≡ v
    one_named distinct name u v one other =
        distinct_once (map (λ instance. instance.name) raw.instances) distinct u v name (gate_name name u one) (gate_name name v other)

gate_body : (body also : Body) → AreBodiesAlike body also → IsGate body → IsGate also
gate_body (Gate cell inputs outputs) (Gate other ins outs) alike is = tt
gate_body (Gate cell inputs outputs) (Scan nets) alike is = absurd alike
gate_body (Scan nets) also alike is = absurd is

-- chips that are alike have the same names
pub named_alike : (chip also : LinkedChip) → AreAlike chip also → (name : List ℕ) (u : ℕ) → IsNamedGate chip name u → IsNamedGate also name u
named_alike chip also alike name u is =
    let other = item_at chip.parts also.parts u is.part alike.same_parts is.at in
    let same = alike.parts u is.part other.0 is.at other.1 in
    record {
      part = other.0;
      at = other.1;
      is_gate = gate_body is.part.body other.0.body same.body is.is_gate;
      named = sym same.name ∙ is.named;
    }
