-- Chips that are alike have one STIL chip, so that a text is the same to both; and what is reported of a file of
-- patterns is one fault.
use Rattle.std.proofs.Common.{◌≡◌, ℕ, suc, ◌+◌, ◌∙◌, Bool, true, false, List, [], ◌∷◌, ◌++◌, length, map, refl}
use Rattle.std.proofs.Common.{sym, ap, ap₂, subst, arith, inl, inr}
use Rattle.std.specs.Prelude.{Option, Some, None, slice_get, slice_index, eqb, ◌-◌, ◌&&◌, not, if◌then◌else◌}
use Rattle.std.specs.List.{flat_map, position_or_len}
use Rattle.ca_linked.specs.declared.pins.ScanPin.{ScanPin}
use Rattle.ca_linked.specs.declared.pins.ScanPin.TheVariants.{Si, So, Se, Ck, Hold}
use Rattle.ca_linked.specs.declared.parts.Body.{Body}
use Rattle.ca_linked.specs.declared.parts.Body.TheVariants.{Gate, Scan}
use Rattle.ca_linked.specs.declared.parts.Part.{Part}
use Rattle.ca_linked.specs.declared.parts.PortBit.{PortBit}
use Rattle.ca_linked.specs.Linked.{LinkedChip}
use Rattle.ca_linked.specs.Instances.{net_of_pin, if_scan, scans_from, scans_of}
use Rattle.ca_chip_stil.specs.Sites.{is_directed, data_ports}
use Rattle.ca_chip_stil.specs.ChipStil.{signal_of, names_of, port_on, name_of, name_at_body, name_at_part, name_at, controls_of, place_of, chain_of, stil_chip}
use Rattle.ca_link_laws.specs.Alike.{AreBodiesAlike, AreAlike}
use Rattle.ca_link_laws.proofs.AlikeLemmas.{item_at}
use Rattle.ca_link_laws.proofs.TraceLemmas.{on_path, one_trace}
use Rattle.ca_store.specs.Store.{Files}
use Rattle.ca_flat.specs.Chip as flat
use Rattle.ca_scan.specs.ChainFault.{AreAllChains}
use Rattle.ca_scan.proofs.AnswerLemmas.{one_answer}
use Rattle.ca_expected.specs.Wrong.{IsFirstWrong}
use Rattle.ca_stil.specs.declared.chip.StilChip.{StilChip}
use Rattle.ca_stil_pairs.specs.File.{IsFileOf, IsOfOther}
use Rattle.ca_fault.specs.declared.fault.LimitKind.TheVariants as limit
use Rattle.ca_fault.specs.declared.fault.Fault.{Fault}
use Rattle.ca_fault.specs.declared.fault.Fault.TheVariants as fault_
use Rattle.ca_patterns.specs.declared.patterns.TheConstants.{MAX_STIL}
use Rattle.ca_patterns.specs.Patterns.{IsStilCause}
use Rattle.ca_patterns.proofs.OneLemmas.{one_stil}
use Rattle.ca_flow_laws.proofs.FileLemmas.{AtFile, one_at_file}
use Rattle.ca_flow_laws.proofs.OneLemmas.{AreOne}

-- bodies that are alike are both scan instances, or neither is
same_if_scan : (u : ℕ) (body also : Body) → AreBodiesAlike body also → if_scan u body ≡ if_scan u also
same_if_scan u (Gate cell inputs outputs) (Gate other ins outs) alike = refl
same_if_scan u (Gate cell inputs outputs) (Scan nets) alike = absurd alike
same_if_scan u (Scan nets) (Gate cell inputs outputs) alike = absurd alike
same_if_scan u (Scan nets) (Scan others) alike = refl

-- the scan instances of lists that are alike are the same
scans_same : (n : ℕ) (xs ys : List Part) → length xs ≡ length ys
    → ((u : ℕ) (x y : Part) → slice_get xs u ≡ Some x → slice_get ys u ≡ Some y → AreBodiesAlike x.body y.body)
    → scans_from n xs ≡ scans_from n ys
scans_same n [] [] same each = refl
scans_same n [] (y ∷ ys) same each = absurd (omega (arith, same))
scans_same n (x ∷ xs) [] same each = absurd (omega (arith, same))
scans_same n (x ∷ xs) (y ∷ ys) same each = ap₂ (λ (a b : List ℕ). a ++ b) (same_if_scan n x.body y.body (each 0 x y refl refl))
    (scans_same (n + 1) xs ys (omega (arith, same)) (λ u. each (suc u)))

-- the port bit, if it is of this direction and off the path
abbrev with_path : (ℕ → Bool) → Bool → PortBit → List PortBit
with_path path input port = if is_directed input port && not (path port.net) then port ∷ [] else []

module _ (chip also : LinkedChip) (alike : AreAlike chip also) where
  same_scans : scans_of chip ≡ scans_of also
  same_scans = scans_same 0 chip.parts also.parts alike.same_parts
      (λ u part other at at_other. (alike.parts u part other at at_other).body)

  same_data : (input : Bool) → data_ports chip input ≡ data_ports also input
  same_data input = λ j. flat_map (with_path (λ net. on_path chip also alike net j) input) (alike.ports j)

  body_name : (input : Bool) (pin : ScanPin) (body other : Body) → AreBodiesAlike body other
      → name_at_body chip input pin body ≡ name_at_body also input pin other
  body_name input pin (Gate cell inputs outputs) (Gate other ins outs) same = refl
  body_name input pin (Gate cell inputs outputs) (Scan nets) same = absurd same
  body_name input pin (Scan nets) (Gate cell inputs outputs) same = absurd same
  body_name input pin (Scan nets) (Scan others) same = λ j. name_of (port_on input (net_of_pin (same j) pin) (alike.ports j))

  same_name : (input : Bool) (pin : ScanPin) (u : ℕ) → name_at chip input pin u ≡ name_at also input pin u
  same_name input pin u = by (slice_get chip.parts u) (slice_get also.parts u) refl refl
    where
      by : (here there : Option Part) → slice_get chip.parts u ≡ here → slice_get also.parts u ≡ there
          → name_at_part chip input pin here ≡ name_at_part also input pin there
      by None None is too = refl
      by None (Some other) is too =
          let found = item_at also.parts chip.parts u other (sym alike.same_parts) too in
          absurd (let clash : None ≡ Some found.0 = sym is ∙ found.1 in cc)
      by (Some part) None is too =
          let found = item_at chip.parts also.parts u part alike.same_parts is in
          absurd (let clash : None ≡ Some found.0 = sym too ∙ found.1 in cc)
      by (Some part) (Some other) is too = body_name input pin part.body other.body (alike.parts u part other is too).body

  same_controls : (scans : List ℕ) → controls_of chip scans ≡ controls_of also scans
  same_controls [] = refl
  same_controls (u ∷ scans) = λ j. same_name true Se u j ∷ same_name true Ck u j ∷ same_name true Hold u j ∷ []

  same_place : (u : ℕ) → place_of chip u ≡ place_of also u
  same_place u = ap (position_or_len (eqb u)) same_scans

  same_chain : (chain : List ℕ) → chain_of chip chain ≡ chain_of also chain
  same_chain chain = λ j. record {
    scan_in = same_name true Si (slice_index chain 0) j;
    scan_out = same_name false So (slice_index chain (length chain - 1)) j;
    places = map (λ u. same_place u j) chain;
  }

  -- what a text needs of them is the same
  pub same_stil : (chains : List (List ℕ)) → stil_chip chip chains ≡ stil_chip also chains
  same_stil chains = λ j. record {
    signals = map signal_of (alike.ports j);
    inputs = names_of (same_data true j);
    outputs = names_of (same_data false j);
    controls = (ap (controls_of chip) same_scans ∙ same_controls (scans_of also)) j;
    chains = map (λ chain. same_chain chain j) chains;
    scan_count = length (same_scans j);
  }

-- what is reported of the text of patterns of a chip
abbrev pub ReportsStil : LinkedChip → Fault → List ℕ → Type 0
ReportsStil chip fault bytes = (chains : List (List ℕ)) × (AreAllChains chip chains × IsStilCause chip chains fault bytes)

-- what is reported of the file
abbrev pub AtPatterns : List ℕ → Files → LinkedChip → Fault → Type 0
AtPatterns stil given chip fault = AtFile MAX_STIL stil (ReportsStil chip) (given stil) fault

module _ (chip also : LinkedChip) (are : AreOne chip also) where
  -- a cause of one is a cause of the other
  stil_also : (chains : List (List ℕ)) (bytes : List ℕ) (fault : Fault) → IsStilCause chip chains fault bytes
      → IsStilCause also chains fault bytes
  stil_also chains bytes (fault_.Stil line) cause = cause
  stil_also chains bytes fault_.StilChip cause =
      subst (λ (stil : StilChip). IsOfOther stil bytes) (same_stil chip also are.alike chains) cause
  stil_also chains bytes (fault_.Limit limit.Pairs count) cause = record {
    file = cause.file;
    is = subst (λ (stil : StilChip). IsFileOf stil bytes cause.file) (same_stil chip also are.alike chains) cause.is;
    counted = cause.counted;
    many = cause.many;
  }
  stil_also chains bytes (fault_.Expected pair output) cause = record {
    file = cause.file;
    is = subst (λ (stil : StilChip). IsFileOf stil bytes cause.file) (same_stil chip also are.alike chains) cause.is;
    few = cause.few;
    wrong = subst (λ (core : flat.Chip). IsFirstWrong core cause.file.pairs cause.file.expected (record { pair = pair; output = output })) are.core cause.wrong;
  }
  stil_also chains bytes fault cause = absurd cause

  pub patterns_also : (stil : List ℕ) (given : Files) (fault : Fault) → AtPatterns stil given chip fault → AtPatterns stil given also fault
  patterns_also stil given fault at = by (given stil) at
    where
      by : (file : Option (List ℕ)) → AtFile MAX_STIL stil (ReportsStil chip) file fault → AtFile MAX_STIL stil (ReportsStil also) file fault
      by None at = absurd at
      by (Some bytes) (inl long) = inl long
      by (Some bytes) (inr (within, (chains, (all, cause)))) =
          inr (within, (chains, ((one_trace chip also are.alike).chains chains all, stil_also chains bytes fault cause)))

-- of one chip it is one fault
pub one_patterns : (chip : LinkedChip) (stil : List ℕ) (given : Files) (fault other : Fault) → AtPatterns stil given chip fault
    → AtPatterns stil given chip other → fault ≡ other
one_patterns chip stil given = one_at_file MAX_STIL stil (ReportsStil chip) one (given stil)
  where
    one : (bytes : List ℕ) (fault other : Fault) → ReportsStil chip fault bytes → ReportsStil chip other bytes → fault ≡ other
    one bytes fault other (chains, (all, here)) (others, (also, there)) =
        let same : others ≡ chains = (one_answer chip).one_list others chains also all in
        one_stil chip chains all bytes fault other here (subst (λ (list : List (List ℕ)). IsStilCause chip list other bytes) same there)
