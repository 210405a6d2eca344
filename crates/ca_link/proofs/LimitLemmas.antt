-- What is counted of a link is counted of its wiring, so that the limits are the same for all links of one.
use Rattle.std.proofs.Common.{◌≡◌, ℕ, suc, ◌+◌, ◌<◌, ◌⊎◌, Bool, true, false, List, [], ◌∷◌, ◌++◌, length, map}
use Rattle.std.proofs.Common.{inl, inr, refl, sym, ◌∙◌, ap, ap₂, subst, arith, length-append}
use Rattle.std.specs.Prelude.{Option, Some, None, slice_get, option_to_list, ◌&&◌, ◌||◌, not, if◌then◌else◌}
use Rattle.std.specs.Prelude.{nat_lt}
use Rattle.std.specs.List.{list_any, flat_map, sum_by}
use Rattle.std.proofs.lemmas.Bool.{ltb-true, ltb-false}
use Rattle.std.proofs.lemmas.List.Sums.{sum_by-cons}
use Rattle.std.proofs.lemmas.Option.{get_or_from_slice_get}
use Rattle.ca_cell.specs.declared.raw.RawCell.{RawCell}
use Rattle.ca_wiring.specs.declared.fault.ChipFault.{ChipFault}
use Rattle.ca_wiring.specs.declared.fault.ChipFault.TheVariants as fault
use Rattle.ca_wiring.specs.declared.fault.TheConstants.{MOST_INSTANCES, MOST_CHIP_INPUTS, MOST_CHIP_OUTPUTS}
use Rattle.ca_wiring.specs.declared.fault.TheConstants.{MOST_CHIP_DEFECTS}
use Rattle.ca_wiring.specs.Wiring.{Meaning, Unknown, Broken, Library, ScanCell, WiredPart, Wiring}
use Rattle.ca_wiring.specs.Nets.{IsNetOf, AreNetsOf}
use Rattle.ca_wiring.specs.Linking.{HasMeaning, IsLinkOf}
use Rattle.ca_wiring.specs.Rules.{count_library, library_count, defects_of}
use Rattle.ca_linked.specs.declared.parts.Body.{Body}
use Rattle.ca_linked.specs.declared.parts.Body.TheVariants.{Gate, Scan}
use Rattle.ca_linked.specs.declared.parts.Part.{Part}
use Rattle.ca_linked.specs.declared.parts.PortBit.{PortBit}
use Rattle.ca_linked.specs.declared.parts.ScanNets.{ScanNets}
use Rattle.ca_linked.specs.Linked.{LinkedChip, has, input_nets, output_nets, path_nets, q_nets, d_nets, is_scan_path}
use Rattle.ca_linked.specs.Linked.{port_nets, inputs_of, outputs_of, no_cell}
use Rattle.ca_linked.specs.Instances.{if_gate, gates_from, gates_of}
use Rattle.ca_link.specs.code.Stages.{PassesLimit}
use Rattle.ca_link.specs.code.Limits.{body_defects, chip_defects, first_limit}
use Rattle.ca_link.proofs.NetsLemmas.{same_nets, nets_once, net_once, also_there}

module _ (cells : List RawCell) where
  -- each instance is of the cell that its name means
  abbrev pub Mean : List WiredPart → List Part → Type 0
  Mean wireds parts = (u : ℕ) (wired : WiredPart) (part : Part) → slice_get wireds u ≡ Some wired → slice_get parts u ≡ Some part
      → HasMeaning cells wired.meaning part.body

  counts_one : (meaning : Meaning) (body : Body) (u : ℕ) → HasMeaning cells meaning body → count_library meaning ≡ length (if_gate u body)
  counts_one Unknown body u means = absurd means
  counts_one (Broken rule) body u means = absurd means
  counts_one (Library raw) (Gate cell inputs outputs) u means = refl
  counts_one (Library raw) (Scan nets) u means = absurd means
  counts_one (ScanCell row) (Gate cell inputs outputs) u means = absurd means
  counts_one (ScanCell row) (Scan nets) u means = refl

  counts_all : (wireds : List WiredPart) (parts : List Part) (u : ℕ) → length parts ≡ length wireds → Mean wireds parts
      → library_count wireds ≡ length (gates_from u parts)
  counts_all [] [] u same means = refl
  counts_all [] (part ∷ parts) u same means = absurd (omega (arith, same))
  counts_all (wired ∷ wireds) [] u same means = absurd (omega (arith, same))
  counts_all (wired ∷ wireds) (part ∷ parts) u same means =
      ap₂ (λ m n. m + n) (counts_one wired.meaning part.body u (means 0 wired part refl refl))
      (counts_all wireds parts (u + 1) (omega (arith, same)) (λ k w p at_w at_p. means (suc k) w p at_w at_p))
      ∙ sym (length-append (if_gate u part.body) (gates_from (u + 1) parts))

  defects_one : (meaning : Meaning) (body : Body) → HasMeaning cells meaning body → defects_of meaning ≡ body_defects cells body
  defects_one Unknown body means = absurd means
  defects_one (Broken rule) body means = absurd means
  defects_one (Library raw) (Gate cell inputs outputs) means = ap (λ r. defects_of (Library r)) (sym (get_or_from_slice_get cells cell raw no_cell means))
  defects_one (Library raw) (Scan nets) means = absurd means
  defects_one (ScanCell row) (Gate cell inputs outputs) means = absurd means
  defects_one (ScanCell row) (Scan nets) means = refl

  defects_all : (wireds : List WiredPart) (parts : List Part) → length parts ≡ length wireds → Mean wireds parts
      → sum_by (λ (wired : WiredPart). defects_of wired.meaning) wireds ≡ sum_by (λ (part : Part). body_defects cells part.body) parts
  defects_all [] [] same means = refl
  defects_all [] (part ∷ parts) same means = absurd (omega (arith, same))
  defects_all (wired ∷ wireds) [] same means = absurd (omega (arith, same))
  defects_all (wired ∷ wireds) (part ∷ parts) same means =
      sum_by-cons (λ (w : WiredPart). defects_of w.meaning) wired wireds
      ∙ ap₂ (λ m n. m + n) (defects_one wired.meaning part.body (means 0 wired part refl refl))
      (defects_all wireds parts (omega (arith, same)) (λ k w p at_w at_p. means (suc k) w p at_w at_p))
      ∙ sym (sum_by-cons (λ (p : Part). body_defects cells p.body) part parts)

module _ (wiring : Wiring) (chip : LinkedChip) (link : IsLinkOf wiring chip) where
  -- the library instances and the defects of a link are those of the wiring
  pub instances_are : library_count wiring.parts ≡ length (gates_of chip)
  instances_are = counts_all chip.cells wiring.parts chip.parts 0 link.same_parts (λ u wired part at_w at_p. (link.parts u wired part at_w at_p).meaning)

  pub defects_are : sum_by (λ (part : WiredPart). defects_of part.meaning) wiring.parts ≡ chip_defects chip
  defects_are = defects_all chip.cells wiring.parts chip.parts link.same_parts (λ u wired part at_w at_p. (link.parts u wired part at_w at_p).meaning)

any_by : {X : Type 0} (f : X → Bool) (xs : List X) → list_any f xs ≡ list_any (λ b. b) (map f xs)
any_by f [] = refl
any_by f (x ∷ xs) = ap (λ b. f x || b) (any_by f xs)

flat_by : {X : Type 0} (f : X → List ℕ) (xs : List X) → flat_map f xs ≡ flat_map (λ l. l) (map f xs)
flat_by f [] = refl
flat_by f (x ∷ xs) = ap (λ l. f x ++ l) (flat_by f xs)

-- lists whose entries are alike have like images
maps_alike : {X Y : Type 0} (f g : X → Y) (xs ys : List X) → length ys ≡ length xs
    → ((k : ℕ) (x y : X) → slice_get xs k ≡ Some x → slice_get ys k ≡ Some y → f x ≡ g y) → map f xs ≡ map g ys
maps_alike f g [] [] same alike = refl
maps_alike f g [] (y ∷ ys) same alike = absurd (omega (arith, same))
maps_alike f g (x ∷ xs) [] same alike = absurd (omega (arith, same))
maps_alike f g (x ∷ xs) (y ∷ ys) same alike =
    ap₂ (λ z zs. z ∷ zs) (alike 0 x y refl refl) (maps_alike f g xs ys (omega (arith, same)) (λ k a b at_a at_b. alike (suc k) a b at_a at_b))

-- bodies that put the same nets on the scan path, and on q and d
pub record AreAlike (x y : Body) : Type 0 where
  pub path : path_nets x ≡ path_nets y
  pub q : q_nets x ≡ q_nets y
  pub d : d_nets x ≡ d_nets y

outputs_alike : (q so r to : ℕ) (m n : Option ℕ) → q ∷ (option_to_list m ++ so ∷ []) ≡ r ∷ (option_to_list n ++ to ∷ []) → (q ≡ r) × (so ≡ to)
outputs_alike q so r to None None e = let a : q ≡ r = cc in let b : so ≡ to = cc in (a, b)
outputs_alike q so r to None (Some n) e = absurd (let l = ap (λ (xs : List ℕ). length xs) e in omega (arith, l))
outputs_alike q so r to (Some m) None e = absurd (let l = ap (λ (xs : List ℕ). length xs) e in omega (arith, l))
outputs_alike q so r to (Some m) (Some n) e = let a : q ≡ r = cc in let b : so ≡ to = cc in (a, b)

scans_alike : (x y : ScanNets) → input_nets (Scan x) ≡ input_nets (Scan y) → output_nets (Scan x) ≡ output_nets (Scan y) → AreAlike (Scan x) (Scan y)
scans_alike x y ins outs =
    let d : x.d ≡ y.d = cc in
    let si : x.si ≡ y.si = cc in
    let se : x.se ≡ y.se = cc in
    let ck : x.ck ≡ y.ck = cc in
    let hold : x.hold ≡ y.hold = cc in
    let last = outputs_alike x.q x.so y.q y.so x.qn y.qn outs in
    record {
      path = ap₂ (λ a l. a ∷ l) se (ap₂ (λ a l. a ∷ l) ck (ap₂ (λ a l. a ∷ l) hold (ap₂ (λ a l. a ∷ l) si (ap (λ a. a ∷ []) last.1))));
      q = ap (λ a. a ∷ []) last.0;
      d = ap (λ a. a ∷ []) d;
    }

bodies_alike : (cells others : List RawCell) (meaning : Meaning) (x y : Body) → HasMeaning cells meaning x → HasMeaning others meaning y
    → input_nets x ≡ input_nets y → output_nets x ≡ output_nets y → AreAlike x y
bodies_alike cells others Unknown x y means_x means_y ins outs = absurd means_x
bodies_alike cells others (Broken rule) x y means_x means_y ins outs = absurd means_x
bodies_alike cells others (Library raw) (Gate cell inputs outputs) (Gate other froms tos) means_x means_y ins outs =
    record { path = refl; q = refl; d = refl }
bodies_alike cells others (Library raw) (Gate cell inputs outputs) (Scan nets) means_x means_y ins outs = absurd means_y
bodies_alike cells others (Library raw) (Scan nets) y means_x means_y ins outs = absurd means_x
bodies_alike cells others (ScanCell row) (Gate cell inputs outputs) y means_x means_y ins outs = absurd means_x
bodies_alike cells others (ScanCell row) (Scan nets) (Gate cell inputs outputs) means_x means_y ins outs = absurd means_y
bodies_alike cells others (ScanCell row) (Scan x) (Scan y) means_x means_y ins outs = scans_alike x y ins outs

-- two links of one wiring
module _ (wiring : Wiring) (one two : LinkedChip) (link : IsLinkOf wiring one) (other : IsLinkOf wiring two) where
  nets_same : link.nets ≡ other.nets
  nets_same = same_nets wiring link.nets other.nets link.are other.are

  parts_alike : (u : ℕ) (x y : Part) → slice_get one.parts u ≡ Some x → slice_get two.parts u ≡ Some y → AreAlike x.body y.body
  parts_alike u x y at_x at_y =
      let wired = also_there wiring.parts one.parts u x link.same_parts at_x in
      let is = link.parts u wired.0 x wired.1 at_x in
      let too = other.parts u wired.0 y wired.1 at_y in
      bodies_alike one.cells two.cells wired.0.meaning x.body y.body is.meaning too.meaning
      (nets_once wiring other.nets other.are.ascending wired.0.inputs (input_nets x.body) (input_nets y.body)
      (subst (λ nets. AreNetsOf wiring nets wired.0.inputs (input_nets x.body)) nets_same is.inputs) too.inputs)
      (nets_once wiring other.nets other.are.ascending wired.0.outputs (output_nets x.body) (output_nets y.body)
      (subst (λ nets. AreNetsOf wiring nets wired.0.outputs (output_nets x.body)) nets_same is.outputs) too.outputs)

  same_count : length two.parts ≡ length one.parts
  same_count = other.same_parts ∙ sym link.same_parts

  path_same : (net : ℕ) → is_scan_path one net ≡ is_scan_path two net
  path_same net =
      any_by (λ (part : Part). has (path_nets part.body) net) one.parts
      ∙ ap (list_any (λ b. b)) (maps_alike (λ (part : Part). has (path_nets part.body) net) (λ (part : Part). has (path_nets part.body) net) one.parts two.parts
      same_count (λ u x y at_x at_y. ap (λ nets. has nets net) (parts_alike u x y at_x at_y).path))
      ∙ sym (any_by (λ (part : Part). has (path_nets part.body) net) two.parts)

  -- the net of a port bit, if it is of this direction and off the scan path
  abbrev end_of : LinkedChip → Bool → PortBit → List ℕ
  end_of chip input port =
      if (if port.is_input then input else not input) && not (is_scan_path chip port.net) then port.net ∷ [] else []

  ports_alike : (input : Bool) (p : ℕ) (x y : PortBit) → slice_get one.ports p ≡ Some x → slice_get two.ports p ≡ Some y → end_of one input x ≡ end_of two input y
  ports_alike input p x y at_x at_y =
      let bit = also_there wiring.header one.ports p x link.same_ports at_x in
      let is = link.ports p bit.0 x bit.1 at_x in
      let too = other.ports p bit.0 y bit.1 at_y in
      let net : x.net ≡ y.net = net_once wiring other.nets other.are.ascending bit.0.wire x.net y.net
      (subst (λ nets. IsNetOf wiring nets bit.0.wire x.net) nets_same is.net) too.net in
      let way : x.is_input ≡ y.is_input = is.is_input ∙ sym too.is_input in
      ap₂ (λ i b. if (if i then input else not input) && not b then x.net ∷ [] else []) way (path_same x.net)
      ∙ ap (λ n. if (if y.is_input then input else not input) && not (is_scan_path two n) then n ∷ [] else []) net

  ports_same : (input : Bool) → port_nets one input ≡ port_nets two input
  ports_same input =
      flat_by (end_of one input) one.ports
      ∙ ap (flat_map (λ l. l)) (maps_alike (end_of one input) (end_of two input) one.ports two.ports (other.same_ports ∙ sym link.same_ports) (ports_alike input))
      ∙ sym (flat_by (end_of two input) two.ports)

  nets_alike : (f : Body → List ℕ) → ((x y : Body) → AreAlike x y → f x ≡ f y)
      → flat_map (λ (part : Part). f part.body) one.parts ≡ flat_map (λ (part : Part). f part.body) two.parts
  nets_alike f same =
      flat_by (λ (part : Part). f part.body) one.parts
      ∙ ap (flat_map (λ l. l)) (maps_alike (λ (part : Part). f part.body) (λ (part : Part). f part.body) one.parts two.parts same_count
      (λ u x y at_x at_y. same x.body y.body (parts_alike u x y at_x at_y)))
      ∙ sym (flat_by (λ (part : Part). f part.body) two.parts)

  -- have the same chip inputs and observed outputs
  pub same_inputs : inputs_of one ≡ inputs_of two
  same_inputs = ap₂ (λ a b. a ++ b) (ports_same true) (nets_alike q_nets (λ x y alike. alike.q))

  pub same_outputs : outputs_of one ≡ outputs_of two
  same_outputs = ap₂ (λ a b. a ++ b) (ports_same false) (nets_alike d_nets (λ x y alike. alike.d))

-- no limit of the wiring before this place is passed
module _ (wiring : Wiring) (chip : LinkedChip) (link : IsLinkOf wiring chip) where
  -- which limits the chip keeps, of those that the wiring may pass
  pub keeps_limits : (most : ℕ)
      → (0 < most → MOST_INSTANCES < length (gates_of chip) → ⊥)
      → (1 < most → MOST_CHIP_INPUTS < length (inputs_of chip) → ⊥)
      → (2 < most → MOST_CHIP_OUTPUTS < length (outputs_of chip) → ⊥)
      → (3 < most → MOST_CHIP_DEFECTS < chip_defects chip → ⊥)
      → (k : ℕ) → PassesLimit wiring k → k < most → ⊥
  keeps_limits most instances inputs outputs defects k (inl (at, past)) lt =
      instances (omega (arith, at, lt)) (subst (λ n. MOST_INSTANCES < n) (instances_are wiring chip link) past)
  keeps_limits most instances inputs outputs defects k (inr (inl (at, (other, is, past)))) lt =
      inputs (omega (arith, at, lt)) (subst (λ (list : List ℕ). MOST_CHIP_INPUTS < length list) (same_inputs wiring other chip is link) past)
  keeps_limits most instances inputs outputs defects k (inr (inr (inl (at, (other, is, past))))) lt =
      outputs (omega (arith, at, lt)) (subst (λ (list : List ℕ). MOST_CHIP_OUTPUTS < length list) (same_outputs wiring other chip is link) past)
  keeps_limits most instances inputs outputs defects k (inr (inr (inr (at, past)))) lt =
      defects (omega (arith, at, lt)) (subst (λ n. MOST_CHIP_DEFECTS < n) (defects_are wiring chip link) past)

-- the first limit that is passed, by its place; or none is
abbrev pub ReportsLimit : LinkedChip → ℕ → Option ChipFault → Type 0
ReportsLimit chip defects reported =
    ((reported ≡ Some (fault.TooManyInstances (length (gates_of chip)))) × (MOST_INSTANCES < length (gates_of chip)))
    ⊎ (((reported ≡ Some (fault.TooManyInputs (length (inputs_of chip)))) × (MOST_CHIP_INPUTS < length (inputs_of chip))
    × (MOST_INSTANCES < length (gates_of chip) → ⊥))
    ⊎ (((reported ≡ Some (fault.TooManyOutputs (length (outputs_of chip)))) × (MOST_CHIP_OUTPUTS < length (outputs_of chip))
    × (MOST_INSTANCES < length (gates_of chip) → ⊥) × (MOST_CHIP_INPUTS < length (inputs_of chip) → ⊥))
    ⊎ (((reported ≡ Some (fault.TooManyDefects defects)) × (MOST_CHIP_DEFECTS < defects)
    × (MOST_INSTANCES < length (gates_of chip) → ⊥) × (MOST_CHIP_INPUTS < length (inputs_of chip) → ⊥)
    × (MOST_CHIP_OUTPUTS < length (outputs_of chip) → ⊥))
    ⊎ ((reported ≡ None) × (MOST_INSTANCES < length (gates_of chip) → ⊥) × (MOST_CHIP_INPUTS < length (inputs_of chip) → ⊥)
    × (MOST_CHIP_OUTPUTS < length (outputs_of chip) → ⊥) × (MOST_CHIP_DEFECTS < defects → ⊥)))))

not_less : (a b : ℕ) → nat_lt a b ≡ false → a < b → ⊥
not_less a b off lt = let ge = ltb-false a b off in omega (arith, ge, lt)

-- what is reported, by which limits are passed
abbrev limit_by : LinkedChip → ℕ → Bool → Bool → Bool → Bool → Option ChipFault
limit_by chip defects a b c d =
    if a then Some (fault.TooManyInstances (length (gates_of chip)))
    else (if b then Some (fault.TooManyInputs (length (inputs_of chip)))
    else (if c then Some (fault.TooManyOutputs (length (outputs_of chip)))
    else (if d then Some (fault.TooManyDefects defects) else None)))

pub reports_limit : (chip : LinkedChip) (defects : ℕ) → ReportsLimit chip defects (first_limit chip defects)
reports_limit chip defects =
    by (nat_lt MOST_INSTANCES (length (gates_of chip))) refl (nat_lt MOST_CHIP_INPUTS (length (inputs_of chip))) refl
    (nat_lt MOST_CHIP_OUTPUTS (length (outputs_of chip))) refl (nat_lt MOST_CHIP_DEFECTS defects) refl
  where
    by : (a : Bool) → nat_lt MOST_INSTANCES (length (gates_of chip)) ≡ a → (b : Bool) → nat_lt MOST_CHIP_INPUTS (length (inputs_of chip)) ≡ b
        → (c : Bool) → nat_lt MOST_CHIP_OUTPUTS (length (outputs_of chip)) ≡ c → (d : Bool) → nat_lt MOST_CHIP_DEFECTS defects ≡ d
        → ReportsLimit chip defects (limit_by chip defects a b c d)
    by true e_a b e_b c e_c d e_d = inl (refl, ltb-true MOST_INSTANCES (length (gates_of chip)) e_a)
    by false e_a true e_b c e_c d e_d =
        inr (inl (refl, ltb-true MOST_CHIP_INPUTS (length (inputs_of chip)) e_b, not_less MOST_INSTANCES (length (gates_of chip)) e_a))
    by false e_a false e_b true e_c d e_d = inr (inr (inl (
      refl,
      ltb-true MOST_CHIP_OUTPUTS (length (outputs_of chip)) e_c,
      not_less MOST_INSTANCES (length (gates_of chip)) e_a,
      not_less MOST_CHIP_INPUTS (length (inputs_of chip)) e_b,
    )))
    by false e_a false e_b false e_c true e_d = inr (inr (inr (inl (
      refl,
      ltb-true MOST_CHIP_DEFECTS defects e_d,
      not_less MOST_INSTANCES (length (gates_of chip)) e_a,
      not_less MOST_CHIP_INPUTS (length (inputs_of chip)) e_b,
      not_less MOST_CHIP_OUTPUTS (length (outputs_of chip)) e_c,
    ))))
    by false e_a false e_b false e_c false e_d = inr (inr (inr (inr (
      refl,
      not_less MOST_INSTANCES (length (gates_of chip)) e_a,
      not_less MOST_CHIP_INPUTS (length (inputs_of chip)) e_b,
      not_less MOST_CHIP_OUTPUTS (length (outputs_of chip)) e_c,
      not_less MOST_CHIP_DEFECTS defects e_d,
    ))))
