-- What drives and feeds what in a linked chip, and in its core.
use Rattle.std.proofs.Common.{◌≡◌, ℕ, ◌+◌, ◌<◌, length, true, false, refl, sym, ◌∙◌, ap}
use Rattle.std.proofs.Common.{subst, arith, get_or}
use Rattle.std.specs.Prelude.{slice_get, IsSomeAnd, Option, Some, None}
use Rattle.std.specs.List.{All, Contains}
use Rattle.std.proofs.lemmas.Bool.{both_ways}
use Rattle.std.proofs.lemmas.List.{get_or_default}
use Rattle.std.proofs.lemmas.List.Folds.{list_any_at}
use Rattle.std.proofs.lemmas.Option.{slice_get_within, get_or_from_slice_get}
use Rattle.ca_cell.specs.Raw.{is_input, is_output, role_count}
use Rattle.ca_linked.specs.declared.parts.Body.{Body}
use Rattle.ca_linked.specs.declared.parts.Part.{Part}
use Rattle.ca_linked.specs.declared.parts.Body.TheVariants.{Gate, Scan}
use Rattle.ca_linked.specs.Linked.{LinkedChip, IsWired, IsGate, IsLibrary, Feeds, has, is_read, input_nets}
use Rattle.ca_linked.specs.Linked.{gate_inputs, gate_outputs, inverted_nets}
use Rattle.ca_linked.proofs.PartLemmas.{contains_has, of_all, of_list}
use Rattle.ca_flat.specs.Chip.{Instance, inputs_at, outputs_at, net_of, output_net, count_of}
use Rattle.ca_flat.specs.Chip as flat
use Rattle.ca_view.specs.Core.{core_net, core_of, stored_nets}
use Rattle.ca_view.proofs.CoreLemmas.{IsOutside, core_same}
use Rattle.ca_view.proofs.CorePartLemmas.{core_at, part_at, stored_count, stored_pin, stored_is_data, read_is_data}
use Rattle.ca_view.proofs.CoreIsChip.{body_of, data_outside}
use Rattle.ca_view.proofs.CoreFacts.{core_count, inputs_are, input_net_is}
use Rattle.ca_view.proofs.PartFacts.{some_at}
use Rattle.ca_merged.specs.Merged.{FeedsInstance}
use Rattle.ca_merged.proofs.Lists.{get_or_contains}
use Rattle.ca_cluster.specs.code.Ends.{IsOnOutput}

-- the instance x drives the net, or its inverted output does
pub record StoresNet (chip : LinkedChip) (net x : ℕ) : Type 0 where
  pub part : Part
  pub at : slice_get chip.parts x ≡ Some part
  pub stored : Contains (stored_nets part.body) net

-- a library instance with an output pin on the net
pub record GateOn (chip : LinkedChip) (net x : ℕ) : Type 0 where
  pub part : Part
  pub at : slice_get chip.parts x ≡ Some part
  pub on : Contains (gate_outputs part.body) net

pub gate_on : (chip : LinkedChip) (net x : ℕ) → IsOnOutput chip net x → GateOn chip net x
gate_on chip net x h = by (slice_get chip.parts x) refl h
  where
    by : (o : Option Part) → slice_get chip.parts x ≡ o → IsSomeAnd o (λ part. Contains (gate_outputs part.body) net) → GateOn chip net x
    by None e h = absurd h
    by (Some part) e h = record { part = part; at = e; on = h }

pub on_gate : (chip : LinkedChip) (net x : ℕ) → GateOn chip net x → IsOnOutput chip net x
on_gate chip net x g = some_at (λ part. Contains (gate_outputs part.body) net) chip.parts x g.part g.at g.on

output_is_stored : (body : Body) (net : ℕ) → Contains (gate_outputs body) net → Contains (stored_nets body) net
output_is_stored (Gate cell inputs outputs) net h = h
output_is_stored (Scan nets) net h = absurd (let lt = h.1 in omega arith)

pub output_is_gate : (body : Body) (net : ℕ) → Contains (gate_outputs body) net → IsGate body
output_is_gate (Gate cell inputs outputs) net h = tt
output_is_gate (Scan nets) net h = absurd (let lt = h.1 in omega arith)

-- an instance with an output pin on a net is of the library
pub output_library : (chip : LinkedChip) (net x : ℕ) → IsOnOutput chip net x → IsLibrary chip x
output_library chip net x h =
    let g = gate_on chip net x h in
    some_at (λ part. IsGate part.body) chip.parts x g.part g.at (output_is_gate g.part.body net g.on)

pub gate_stores : (chip : LinkedChip) (net x : ℕ) → IsOnOutput chip net x → StoresNet chip net x
gate_stores chip net x h =
    let g = gate_on chip net x h in
    record { part = g.part; at = g.at; stored = output_is_stored g.part.body net g.on }

module _ (chip : LinkedChip) (is : IsWired chip) where
  abbrev core : flat.Chip
  core = core_of chip

  out_count : (u : ℕ) (part : Part) → slice_get chip.parts u ≡ Some part → outputs_at core u ≡ length (stored_nets part.body)
  out_count u part at =
      ap (λ (i : Instance). role_count is_output i.cell.pins) (core_at chip u part at) ∙ sym (stored_count chip part.body (body_of chip is u part at))

  out_net : (u : ℕ) (part : Part) (output : ℕ) → slice_get chip.parts u ≡ Some part → output < length (stored_nets part.body)
      → output_net core u output ≡ core_net chip (get_or (stored_nets part.body) output 0)
  out_net u part output at lt =
      ap (λ (i : Instance). get_or i.pins (role_count is_input i.cell.pins + output) 0) (core_at chip u part at)
      ∙ stored_pin chip part.body output (body_of chip is u part at) lt

  pub known_part : (u : ℕ) (part : Part) → slice_get chip.parts u ≡ Some part → u < count_of core
  known_part u part at = let c = core_count chip in let w = slice_get_within chip.parts u part at in omega arith

  -- what an instance stores, a pin of the core's drives
  pub stored_drives : (net x : ℕ) → StoresNet chip net x → (d : flat.Drives core (core_net chip net)) × (d.instance ≡ x)
  stored_drives net x s =
      let c = s.stored in
      let outs = out_count x s.part s.at in (
        record {
          instance = x;
          output = c.0;
          known = known_part x s.part s.at;
          within = (let lt = c.1 in omega arith);
          on = out_net x s.part c.0 s.at c.1 ∙ ap (core_net chip) (get_or_default (stored_nets s.part.body) c.0 0 net c.1 ∙ c.2);
        },
        refl,
      )

  pub drives_stored : (net : ℕ) → IsOutside chip net → (d : flat.Drives core (core_net chip net)) → StoresNet chip net d.instance
  drives_stored net outside d =
      let found = part_at chip d.instance d.known in
      let lt : d.output < length (stored_nets found.part.body) = let e = out_count d.instance found.part found.at in let w = d.within in omega arith in
      let same : get_or (stored_nets found.part.body) d.output 0 ≡ net =
      core_same chip (get_or (stored_nets found.part.body) d.output 0) net
      (data_outside chip is d.instance found.part (get_or (stored_nets found.part.body) d.output 0) found.at (stored_is_data found.part.body d.output lt))
      outside (sym (out_net d.instance found.part d.output found.at lt) ∙ d.on) in
      record {
        part = found.part;
        at = found.at;
        stored = subst (Contains (stored_nets found.part.body)) same (get_or_contains (stored_nets found.part.body) d.output lt);
      }

  -- a net on an input pin of a library instance is read
  pub read_here : (u : ℕ) (part : Part) (net : ℕ) → slice_get chip.parts u ≡ Some part → Contains (gate_inputs part.body) net → is_read chip net ≡ true
  read_here u part net at c =
      list_any_at (λ (p : Part). has (input_nets p.body) net) chip.parts u part (slice_get_within chip.parts u part at)
      (ap (λ (p : Part). has (input_nets p.body) net) (get_or_from_slice_get chip.parts u part part at) ∙ by part.body c)
    where
      by : (body : Body) → Contains (gate_inputs body) net → has (input_nets body) net ≡ true
      by (Gate cell inputs outputs) h = contains_has inputs net h
      by (Scan nets) h = absurd (let lt = h.1 in omega arith)

  -- no inverted output drives a net that is read
  pub not_inverted : (net x : ℕ) (part : Part) → is_read chip net ≡ true → slice_get chip.parts x ≡ Some part → Contains (inverted_nets part.body) net → ⊥
  not_inverted net x part read at c =
      both_ways (is_read chip net)
      (of_list (λ n. is_read chip n ≡ false) (inverted_nets part.body) net
      (of_all (λ (p : Part). All (λ n. is_read chip n ≡ false) (inverted_nets p.body)) chip.parts x part is.unread at) c) read

  -- so what stores a net that is read has an output pin on it
  pub stored_on : (net x : ℕ) → is_read chip net ≡ true → StoresNet chip net x → IsOnOutput chip net x
  stored_on net x read s = on_gate chip net x (record { part = s.part; at = s.at; on = by s.part.body refl s.stored })
    where
      by : (body : Body) → s.part.body ≡ body → Contains (stored_nets body) net → Contains (gate_outputs s.part.body) net
      by (Gate cell inputs outputs) e c = subst (λ (b : Body). Contains (gate_outputs b) net) (sym e) c
      by (Scan nets) e c = absurd (not_inverted net x s.part read s.at (subst (λ (b : Body). Contains (inverted_nets b) net) (sym e) c))

  -- an instance feeds another in the core exactly where it does in the chip
  pub feeds_from : (w x : ℕ) → FeedsInstance core w x → Feeds chip w x
  feeds_from w x f =
      let r = part_at chip x f.fed_known in
      let rl : f.pin < length (gate_inputs r.part.body) = let e = inputs_are chip is x r.part r.at in let l = f.pin_within in omega arith in
      let c = get_or_contains (gate_inputs r.part.body) f.pin rl in
      let d : flat.Drives core (core_net chip (get_or (gate_inputs r.part.body) f.pin 0)) =
      record { instance = w; output = f.output; known = f.known; within = f.output_within; on = f.on ∙ input_net_is chip is x r.part f.pin r.at rl } in
      let s = drives_stored (get_or (gate_inputs r.part.body) f.pin 0)
      (data_outside chip is x r.part (get_or (gate_inputs r.part.body) f.pin 0) r.at (read_is_data r.part.body f.pin rl)) d in
      let g = gate_on chip (get_or (gate_inputs r.part.body) f.pin 0) w
      (stored_on (get_or (gate_inputs r.part.body) f.pin 0) w (read_here x r.part (get_or (gate_inputs r.part.body) f.pin 0) r.at c) s) in
      record { driver = g.part; reader = r.part; is_driver = g.at; is_reader = r.at; net = get_or (gate_inputs r.part.body) f.pin 0; driven = g.on; read = c }

  pub feeds_to : (w x : ℕ) → Feeds chip w x → FeedsInstance core w x
  feeds_to w x f =
      let d = stored_drives f.net w (record { part = f.driver; at = f.is_driver; stored = output_is_stored f.driver.body f.net f.driven }) in
      let r = f.read in
      let rl = r.1 in
      let ins = inputs_are chip is x f.reader f.is_reader in
      let reads : net_of core x r.0 ≡ core_net chip f.net =
      input_net_is chip is x f.reader r.0 f.is_reader r.1 ∙ ap (core_net chip) (get_or_default (gate_inputs f.reader.body) r.0 0 f.net r.1 ∙ r.2) in
      subst (λ y. FeedsInstance core y x) d.1 (record {
        known = d.0.known;
        fed_known = known_part x f.reader f.is_reader;
        output = d.0.output;
        output_within = d.0.within;
        pin = r.0;
        pin_within = omega arith;
        on = d.0.on ∙ sym reads;
      })
