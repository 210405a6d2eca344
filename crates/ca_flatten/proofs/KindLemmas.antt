-- The kinds of nets, by what drives them.
use Rattle.std.proofs.Common.{◌≡◌, ℕ, zero, suc, ◌+◌, ◌<◌, List, [], ◌∷◌, ◌++◌, length, Bool, true, false}
use Rattle.std.proofs.Common.{refl, sym, ◌∙◌, ap, subst, arith, get_or}
use Rattle.std.specs.Prelude.{slice_get, if◌then◌else◌, IsSomeAnd, Option, Some, None, option_to_list}
use Rattle.std.specs.List.{Contains, list_any}
use Rattle.std.proofs.lemmas.List.Folds.{Any-from_list_any, list_any-from_Any}
use Rattle.std.proofs.lemmas.Option.{slice_get_within, slice_get-get_or, get_or_from_slice_get, same_Some}
use Rattle.ca_net.specs.declared.scale.TheConstants.{OUTPUT_NET}
use Rattle.ca_net.specs.declared.node.NodeKind.TheVariants as node
use Rattle.ca_linked.specs.declared.parts.Body.{Body}
use Rattle.ca_linked.specs.declared.parts.Part.{Part}
use Rattle.ca_linked.specs.declared.parts.Source.TheVariants.{FromPort, FromConstant, FromPin}
use Rattle.ca_linked.specs.declared.parts.Body.TheVariants.{Gate, Scan}
use Rattle.ca_linked.specs.Linked.{LinkedChip, has, path_nets, output_nets, is_scan_path, Drives, IsGate, IsLibrary}
use Rattle.ca_linked.specs.Linked.{IsWired}
use Rattle.ca_linked.proofs.OrderLemmas.{contained_at}
use Rattle.ca_linked.proofs.PartLemmas.{contains_has, has_contains}
use Rattle.ca_view.specs.Core.{stored_nets, kind_of}
use Rattle.ca_view.proofs.CorePartLemmas.{first_stored, stored_is_driven}
use Rattle.ca_flatten.proofs.GateLemmas.{some_at, at_some}

module _ (chip : LinkedChip) (is : IsWired chip) (net : ℕ) where
  -- a net that an instance stores is a storage node
  stored_kind : (u : ℕ) (part : Part) → slice_get chip.parts u ≡ Some part → Contains (stored_nets part.body) net
      → kind_of chip net ≡ node.Storage OUTPUT_NET
  stored_kind u part at contains =
      ap (λ b. if b then node.Storage OUTPUT_NET else node.Input)
      (list_any-from_Any (λ (p : Part). has (stored_nets p.body) net) chip.parts
      (u, part, slice_get_within chip.parts u part at, get_or_from_slice_get chip.parts u part part at, contains_has (stored_nets part.body) net contains))

  -- an instance that stores the net drives it
  record Stores : Type 0 where
    u : ℕ
    part : Part
    output : ℕ
    at : slice_get chip.parts u ≡ Some part
    drives : Drives chip net (FromPin u (first_stored part.body + output))

  stores : (u : ℕ) (part : Part) → slice_get chip.parts u ≡ Some part → Contains (stored_nets part.body) net → Stores
  stores u part at contains = record {
    u = u;
    part = part;
    output = contains.0;
    at = at;
    drives = some_at (λ (p : Part). slice_get (output_nets p.body) (first_stored part.body + contains.0) ≡ Some net) chip.parts u part at
        (stored_is_driven part.body contains.0 contains.1
        ∙ ap Some (get_or_default_same (stored_nets part.body) contains.0 contains.1 ∙ contains.2));
  }
    where
      get_or_default_same : (xs : List ℕ) (k : ℕ) → k < length xs → get_or xs k 0 ≡ get_or xs k net
      get_or_default_same xs k lt = sym (get_or_from_slice_get xs k (get_or xs k 0) net (slice_get-get_or xs k 0 lt))

  -- a net that none stores is an input
  unstored_kind : (Stores → ⊥) → kind_of chip net ≡ node.Input
  unstored_kind none = by (list_any (λ (p : Part). has (stored_nets p.body) net) chip.parts) refl
    where
      by : (b : Bool) → list_any (λ (p : Part). has (stored_nets p.body) net) chip.parts ≡ b → kind_of chip net ≡ node.Input
      by false e = ap (λ b. if b then node.Storage OUTPUT_NET else node.Input) e
      by true e =
          let any = Any-from_list_any (λ (p : Part). has (stored_nets p.body) net) chip.parts e in
          let at : slice_get chip.parts any.0 ≡ Some any.1 = slice_get-get_or chip.parts any.0 any.1 any.2 ∙ ap Some any.3 in
          absurd (none (stores any.0 any.1 at (has_contains (stored_nets any.1.body) net any.4)))

  pub port_kind : (p : ℕ) → Drives chip net (FromPort p) → kind_of chip net ≡ node.Input
  port_kind p drives = unstored_kind (λ s. let same = is.one_driver net (FromPort p) (FromPin s.u (first_stored s.part.body + s.output)) drives s.drives in absurd cc)

  pub constant_kind : (value : Bool) → Drives chip net (FromConstant value) → kind_of chip net ≡ node.Input
  constant_kind value drives = unstored_kind (λ s. let same = is.one_driver net (FromConstant value) (FromPin s.u (first_stored s.part.body + s.output)) drives s.drives in absurd cc)

  scan_first : (body : Body) (output : ℕ) → (IsGate body → ⊥) → first_stored body + output ≡ 0 → ⊥
  scan_first (Gate cell inputs outputs) output scan e = scan tt
  scan_first (Scan nets) output scan e = omega (arith, e)

  -- the first output of a scan instance is an input of the core
  pub q_kind : (u : ℕ) → Drives chip net (FromPin u 0) → (IsLibrary chip u → ⊥) → kind_of chip net ≡ node.Input
  q_kind u drives scan = unstored_kind unstored
    where
      unstored : Stores → ⊥
      unstored s =
          let same = is.one_driver net (FromPin u 0) (FromPin s.u (first_stored s.part.body + s.output)) drives s.drives in
          let here : s.u ≡ u = cc in
          let first : first_stored s.part.body + s.output ≡ 0 = cc in
          scan_first s.part.body s.output
          (λ gate. scan (subst (IsLibrary chip) here (some_at (λ p. IsGate p.body) chip.parts s.u s.part s.at gate))) first

  on_path : (u : ℕ) (part : Part) → slice_get chip.parts u ≡ Some part → Contains (path_nets part.body) net → is_scan_path chip net ≡ true
  on_path u part at contains =
      list_any-from_Any (λ (p : Part). has (path_nets p.body) net) chip.parts
      (u, part, slice_get_within chip.parts u part at, get_or_from_slice_get chip.parts u part part at, contains_has (path_nets part.body) net contains)

  -- of the other outputs, off the scan path, each is stored
  record IsOther (body : Body) (pin : ℕ) : Type 0 where
    off : Contains (path_nets body) net → ⊥
    other : (pin ≡ 0) × (IsGate body → ⊥) → ⊥

  other_stored : (body : Body) (pin : ℕ) → IsOther body pin → slice_get (output_nets body) pin ≡ Some net → Contains (stored_nets body) net
  other_stored (Gate cell inputs outputs) pin is_other at = contained_at outputs pin net at
  other_stored (Scan nets) zero is_other at = absurd (is_other.other (refl, λ gate. gate))
  other_stored (Scan nets) (suc pin) is_other at = by nets.qn pin at
    where
      by_so : (k : ℕ) → slice_get (nets.so ∷ []) k ≡ Some net → Contains (path_nets (Scan nets)) net
      by_so k there =
          let lt = slice_get_within (nets.so ∷ []) k net there in
          let first : k ≡ 0 = omega arith in
          let so : nets.so ≡ net = same_Some nets.so net (subst (λ n. slice_get (nets.so ∷ []) n ≡ Some net) first there) in
          (4, omega arith, so)

      by : (qn : Option ℕ) (k : ℕ) → slice_get (option_to_list qn ++ nets.so ∷ []) k ≡ Some net → Contains (option_to_list qn) net
      by None k there = absurd (is_other.off (by_so k there))
      by (Some inverted) zero there = (0, omega arith, same_Some inverted net there)
      by (Some inverted) (suc k) there = absurd (is_other.off (by_so k there))

  pub stored_output : (u pin : ℕ) → Drives chip net (FromPin u pin) → is_scan_path chip net ≡ false → ((pin ≡ 0) × (IsLibrary chip u → ⊥) → ⊥)
      → kind_of chip net ≡ node.Storage OUTPUT_NET
  stored_output u pin drives off other = by (slice_get chip.parts u) refl drives
    where
      by : (o : Option Part) → slice_get chip.parts u ≡ o → IsSomeAnd o (λ p. slice_get (output_nets p.body) pin ≡ Some net) → kind_of chip net ≡ node.Storage OUTPUT_NET
      by None at none = elim none [ ]
      by (Some part) at there = stored_kind u part at (other_stored part.body pin (record {
        off = λ contains. absurd (let on = on_path u part at contains in cc);
        other = λ both. other (both.0, λ library. both.1 (at_some (λ p. IsGate p.body) chip.parts u part at library));
      }) there)
