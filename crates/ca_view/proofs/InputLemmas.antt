-- What drives the chip inputs and the constants, and that they have input nets of their own.
use Rattle.std.proofs.Common.{◌≡◌, ℕ, zero, suc, ◌+◌, ◌-◌, ◌*◌, ◌^◌, ◌<◌, ◌≤◌, List, [], ◌∷◌, ◌++◌, Bool}
use Rattle.std.proofs.Common.{true, false, length, length-append, inl, inr, refl, sym, ◌∙◌, ap, subst, arith}
use Rattle.std.proofs.Common.{get_or}
use Rattle.std.specs.Prelude.{slice_get, slice_index, IsSomeAnd, IsTrue, Option, Some, None, take, not, ◌&&◌}
use Rattle.std.specs.Prelude.{if◌then◌else◌, nat_lt}
use Rattle.std.specs.List.{Contains, list_any, flat_map}
use Rattle.std.proofs.lemmas.List.{get_or-map, length-map, get_or_default, get_or_append_left}
use Rattle.std.proofs.lemmas.List.{get_or-append-add}
use Rattle.std.proofs.lemmas.List.Folds.{Any-from_list_any}
use Rattle.std.proofs.lemmas.List.Elements.{Contains-append_cases}
use Rattle.std.proofs.lemmas.Option.{slice_get_within, slice_get-get_or, get_or_from_slice_get, same_Some}
use Rattle.std.proofs.lemmas.Bool.{cases_lt, ne_eqb}
use Rattle.ca_net.specs.declared.scale.TheConstants.{OUTPUT_NET}
use Rattle.ca_net.specs.declared.trit.Trit.{Trit}
use Rattle.ca_net.specs.declared.node.NodeKind.TheVariants as node
use Rattle.ca_linked.specs.declared.parts.Body.{Body}
use Rattle.ca_linked.specs.declared.parts.Part.{Part}
use Rattle.ca_linked.specs.declared.parts.PortBit.{PortBit}
use Rattle.ca_linked.specs.declared.parts.Source.{Source}
use Rattle.ca_linked.specs.declared.parts.Source.TheVariants.{FromPort, FromConstant, FromPin}
use Rattle.ca_linked.specs.declared.parts.Body.TheVariants.{Gate, Scan}
use Rattle.ca_linked.specs.Linked.{LinkedChip, net_count, constant_net, has, is_scan_path, data_nets, output_nets}
use Rattle.ca_linked.specs.Linked.{port_nets, q_nets, inputs_of, Drives, IsWired}
use Rattle.ca_linked.specs.Instances.{IsScan}
use Rattle.ca_linked.proofs.PartLemmas.{has_contains}
use Rattle.ca_flat.specs.Chip.{Constant, net_kind}
use Rattle.ca_flat.specs.Pair.{constant_value}
use Rattle.ca_view.specs.Core.{core_net, stored_nets, trit_of, constant_on, in_net_order, core_constants}
use Rattle.ca_view.specs.Core.{core_of}
use Rattle.ca_view.proofs.CoreLemmas.{IsOutside, core_same, length-core_kinds, kind_at}
use Rattle.ca_view.proofs.CorePartLemmas.{first_stored, stored_is_driven}
use Rattle.ca_view.specs.Linked.{IsPinned}
use Rattle.ca_view.proofs.CoreIsChip.{data_within, data_outside, number_within}
use Rattle.ca_view.proofs.PartFacts.{some_at}

-- a place of a list that is made of pieces of at most one number: the one whose piece the number is, behind
-- the pieces before it
record IsFrom {X : Type 0} (f : X → List ℕ) (xs : List X) (i n : ℕ) : Type 0 where
  x : X
  place : ℕ
  at : slice_get xs place ≡ Some x
  gives : f x ≡ n ∷ []
  before : i ≡ length (flat_map f (take place xs))

from_piece : {X : Type 0} (f : X → List ℕ) → ((x : X) → length (f x) ≤ 1) → (xs : List X) (i n : ℕ) → slice_get (flat_map f xs) i ≡ Some n → IsFrom f xs i n
from_piece f small [] i n at = absurd (let within = slice_get_within [] i n at in omega arith)
from_piece {X} f small (x ∷ xs) i n at = by (λ j there. from_piece f small xs j n there) (f x) refl (small x) i at
  where
    by : ((j : ℕ) → slice_get (flat_map f xs) j ≡ Some n → IsFrom f xs j n) → (piece : List ℕ) → f x ≡ piece → length piece ≤ 1 → (j : ℕ)
        → slice_get (f x ++ flat_map f xs) j ≡ Some n → IsFrom f (x ∷ xs) j n
    by later [] e few j there =
        let found = later j (ap (λ (p : List ℕ). slice_get (p ++ flat_map f xs) j) (sym e) ∙ there) in
        record {
          x = found.x;
          place = suc found.place;
          at = found.at;
          gives = found.gives;
          before = found.before ∙ ap (λ (p : List ℕ). length (p ++ flat_map f (take found.place xs))) (sym e);
        }
    by later (m ∷ []) e few zero there =
        let moved : Some m ≡ Some n = ap (λ (p : List ℕ). slice_get (p ++ flat_map f xs) 0) (sym e) ∙ there in
        record {
          x = x;
          place = 0;
          at = refl;
          gives = e ∙ ap (λ k. k ∷ []) (same_Some m n moved);
          before = refl;
        }
    by later (m ∷ []) e few (suc j) there =
        let found = later j (ap (λ (p : List ℕ). slice_get (p ++ flat_map f xs) (suc j)) (sym e) ∙ there) in
        record {
          x = found.x;
          place = suc found.place;
          at = found.at;
          gives = found.gives;
          before = ap suc found.before ∙ ap (λ (p : List ℕ). length (p ++ flat_map f (take found.place xs))) (sym e);
        }
    by later (m ∷ k ∷ rest) e few j there = absurd (omega arith)

abbrev port_piece : LinkedChip → PortBit → List ℕ
port_piece chip port = if (if port.is_input then true else not true) && not (is_scan_path chip port.net) then port.net ∷ [] else []

abbrev q_piece : Part → List ℕ
q_piece part = q_nets part.body

few_port : (chip : LinkedChip) (port : PortBit) → length (port_piece chip port) ≤ 1
few_port chip port = by port.is_input (is_scan_path chip port.net)
  where
    by : (input path : Bool) → length (if (if input then true else not true) && not path then port.net ∷ [] else []) ≤ 1
    by true true = omega arith
    by true false = omega arith
    by false true = omega arith
    by false false = omega arith

few_q : (part : Part) → length (q_piece part) ≤ 1
few_q part = by part.body
  where
    by : (body : Body) → length (q_nets body) ≤ 1
    by (Gate cell inputs outputs) = omega arith
    by (Scan nets) = omega arith

-- an input port bit off the scan path
record IsPortInput (chip : LinkedChip) (port : PortBit) (net : ℕ) : Type 0 where
  is_input : IsTrue port.is_input
  on : port.net ≡ net
  outside : IsOutside chip net

port_gives : (chip : LinkedChip) (port : PortBit) (net : ℕ) → port_piece chip port ≡ net ∷ [] → IsPortInput chip port net
port_gives chip port net gives = by port.is_input (is_scan_path chip port.net) refl refl gives
  where
    by : (input path : Bool) → port.is_input ≡ input → is_scan_path chip port.net ≡ path
        → (if (if input then true else not true) && not path then port.net ∷ [] else []) ≡ net ∷ [] → IsPortInput chip port net
    by true false e f there =
        let same : port.net ≡ net = cc in
        record { is_input = e; on = same; outside = subst (IsOutside chip) same f }
    by true true e f there = absurd cc
    by false true e f there = absurd cc
    by false false e f there = absurd cc

-- the number of chip inputs before that of a port or of a scan instance
abbrev inputs_before : LinkedChip → Source → ℕ
inputs_before chip (FromPort p) = length (flat_map (port_piece chip) (take p chip.ports))
inputs_before chip (FromConstant value) = 0
inputs_before chip (FromPin u pin) = length (port_nets chip true) + length (flat_map q_piece (take u chip.parts))

-- what drives a net of a chip input or a constant isn't an output pin that the core has
abbrev IsNoStored : LinkedChip → Source → Type 0
IsNoStored chip source =
    (u : ℕ) (part : Part) (output : ℕ) → slice_get chip.parts u ≡ Some part → output < length (stored_nets part.body)
    → source ≡ FromPin u (first_stored part.body + output) → ⊥

-- the net of a chip input, and what drives it
pub record IsInputAt (chip : LinkedChip) (i net : ℕ) : Type 0 where
  pub source : Source
  pub drives : Drives chip net source
  pub before : i ≡ inputs_before chip source
  pub no_stored : IsNoStored chip source
  pub no_constant : (value : Bool) → source ≡ FromConstant value → ⊥
  pub within : net < net_count chip
  pub outside : IsOutside chip net

q_gives : (body : Body) (net : ℕ) → q_nets body ≡ net ∷ [] → IsScan body × Contains (data_nets body) net × (slice_get (output_nets body) 0 ≡ Some net)
q_gives (Gate cell inputs outputs) net gives = absurd cc
q_gives (Scan nets) net gives =
    let same : nets.q ≡ net = cc in
    (tt, (1, omega arith, same), ap Some same)

-- no more nets are off the scan path than there are
few_core : (chip : LinkedChip) (count : ℕ) → core_net chip count ≤ count
unfolding core_net
few_core chip zero = omega arith
few_core chip (suc n) = by (is_scan_path chip n) (few_core chip n)
  where
    by : (b : Bool) → core_net chip n ≤ n → core_net chip n + (if b then 0 else 1) ≤ suc n
    by true le = omega arith
    by false le = omega arith

module _ (chip : LinkedChip) (is : IsWired chip) where
  of_port : (i net : ℕ) → slice_get (port_nets chip true) i ≡ Some net → IsInputAt chip i net
  of_port i net at =
      let found = from_piece (port_piece chip) (few_port chip) chip.ports i net at in
      let port = port_gives chip found.x net found.gives in
      record {
        source = FromPort found.place;
        drives = subst (λ (o : Option PortBit). IsSomeAnd o (λ p. IsTrue p.is_input × (p.net ≡ net))) (sym found.at) (port.is_input, port.on);
        before = found.before;
        no_stored = λ u part output at lt e. absurd cc;
        no_constant = λ value e. absurd cc;
        within = subst (λ n. n < net_count chip) port.on
            (subst (λ (q : PortBit). q.net < net_count chip) (get_or_from_slice_get chip.ports found.place found.x found.x found.at)
            (is.ports_on_nets found.place found.x (slice_get_within chip.ports found.place found.x found.at)));
        outside = port.outside;
      }

  of_scan : (i j net : ℕ) → slice_get (flat_map q_piece chip.parts) j ≡ Some net → i ≡ length (port_nets chip true) + j → IsInputAt chip i net
  of_scan i j net at sum =
      let found = from_piece q_piece few_q chip.parts j net at in
      let q = q_gives found.x.body net found.gives in
      record {
        source = FromPin found.place 0;
        drives = some_at (λ part. slice_get (output_nets part.body) 0 ≡ Some net) chip.parts found.place found.x found.at q.2;
        before = (let b = found.before in omega arith);
        no_stored = λ u part output there lt e.
            let same : found.place ≡ u = cc in
            let first : 0 ≡ first_stored part.body + output = cc in
            let both : Some found.x ≡ Some part = sym found.at ∙ ap (slice_get chip.parts) same ∙ there in
            let parts = same_Some found.x part both in
            scan_first part.body output (subst (λ (p : Part). IsScan p.body) parts q.0) first;
        no_constant = λ value e. absurd cc;
        within = data_within chip is found.place found.x net found.at q.1;
        outside = data_outside chip is found.place found.x net found.at q.1;
      }
    where
      scan_first : (body : Body) (output : ℕ) → IsScan body → 0 ≡ first_stored body + output → ⊥
      scan_first (Gate cell inputs outputs) output scan e = elim scan [ ]
      scan_first (Scan nets) output scan e = omega arith

  pub input_at : (i net : ℕ) → slice_get (inputs_of chip) i ≡ Some net → IsInputAt chip i net
  input_at i net at = elim (cases_lt i (length (port_nets chip true))) [
    | inl low ↦ of_port i net
        (slice_get-get_or (port_nets chip true) i 0 low
        ∙ ap Some (sym (get_or_append_left (port_nets chip true) (flat_map q_piece chip.parts) 0 i low) ∙ get_or_from_slice_get (inputs_of chip) i net 0 at))
    | inr high ↦
        let sum : length (port_nets chip true) + (i - length (port_nets chip true)) ≡ i = omega arith in
        let total = slice_get_within (inputs_of chip) i net at in
        let lt : i - length (port_nets chip true) < length (flat_map q_piece chip.parts) =
        let l = length-append (port_nets chip true) (flat_map q_piece chip.parts) in omega arith in
        of_scan i (i - length (port_nets chip true)) net
        (slice_get-get_or (flat_map q_piece chip.parts) (i - length (port_nets chip true)) 0 lt
        ∙ ap Some (sym (get_or-append-add (port_nets chip true) (flat_map q_piece chip.parts) (i - length (port_nets chip true)) 0)
        ∙ ap (λ k. get_or (inputs_of chip) k 0) sum ∙ get_or_from_slice_get (inputs_of chip) i net 0 at))
        (sym sum)
  ]

  -- a net with such a source is an input net
  input_kind : (net : ℕ) (source : Source) → net < net_count chip → IsOutside chip net → Drives chip net source → IsNoStored chip source
      → net_kind (core_of chip) (core_net chip net) ≡ node.Input
  input_kind net source within outside drives no_stored =
      kind_at chip net (net_count chip) outside within
      ∙ by (list_any (λ (p : Part). has (stored_nets p.body) net) chip.parts) refl
    where
      by : (b : Bool) → list_any (λ (p : Part). has (stored_nets p.body) net) chip.parts ≡ b → (if b then node.Storage OUTPUT_NET else node.Input) ≡ node.Input
      by false e = refl
      by true e =
          let any = Any-from_list_any (λ (p : Part). has (stored_nets p.body) net) chip.parts e in
          let at : slice_get chip.parts any.0 ≡ Some any.1 = slice_get-get_or chip.parts any.0 any.1 any.2 ∙ ap Some any.3 in
          let contains = has_contains (stored_nets any.1.body) net any.4 in
          let is_net : get_or (stored_nets any.1.body) contains.0 0 ≡ net = get_or_default (stored_nets any.1.body) contains.0 0 net contains.1 ∙ contains.2 in
          let second : Drives chip net (FromPin any.0 (first_stored any.1.body + contains.0)) =
          some_at (λ part. slice_get (output_nets part.body) (first_stored any.1.body + contains.0) ≡ Some net) chip.parts any.0 any.1 at
          (stored_is_driven any.1.body contains.0 contains.1 ∙ ap Some is_net) in
          absurd (no_stored any.0 any.1 contains.0 at contains.1
          (is.one_driver net source (FromPin any.0 (first_stored any.1.body + contains.0)) drives second))

  -- a constant of the core is one of the chip's, on a net off the scan path
  record IsConstantOf (constant : Constant) : Type 0 where
    value : Bool
    net : ℕ
    drives : constant_net chip value ≡ Some net
    outside : IsOutside chip net
    numbered : constant.net ≡ core_net chip net

  constant_from : (value : Bool) (constant : Constant) → Contains (constant_on chip value (constant_net chip value)) constant → IsConstantOf constant
  constant_from value constant contains = by (constant_net chip value) refl contains
    where
      by : (o : Option ℕ) → constant_net chip value ≡ o → Contains (constant_on chip value o) constant → IsConstantOf constant
      by None e there = absurd (let lt = there.1 in omega arith)
      by (Some net) e there = by_path (is_scan_path chip net) refl there
        where
          by_path : (b : Bool) → is_scan_path chip net ≡ b
              → Contains (if b then [] else record { net = core_net chip net; value = trit_of value } ∷ []) constant → IsConstantOf constant
          by_path true off has = absurd (let lt = has.1 in omega arith)
          by_path false off has =
              let first : has.0 ≡ 0 = let lt = has.1 in omega arith in
              let same : record { net = core_net chip net; value = trit_of value } ≡ constant =
              ap (λ k. get_or (record { net = core_net chip net; value = trit_of value } ∷ []) k constant) (sym first) ∙ has.2 in
              record { value = value; net = net; drives = e; outside = off; numbered = sym (ap (λ (c : Constant). c.net) same) }

  ordered_from : (P : Constant → Type 0) (lows highs : List Constant) → ((c : Constant) → Contains lows c → P c) → ((c : Constant) → Contains highs c → P c)
      → (c : Constant) → Contains (in_net_order lows highs) c → P c
  ordered_from P [] highs low high c contains = high c contains
  ordered_from P (l ∷ []) [] low high c contains = low c contains
  ordered_from P (l ∷ []) (h ∷ []) low high c contains = by (nat_lt l.net h.net) contains
    where
      by : (b : Bool) → Contains (if b then l ∷ h ∷ [] else h ∷ l ∷ []) c → P c
      by true has = elim (Contains-append_cases (l ∷ []) (h ∷ []) c has) [ inl here ↦ low c here | inr there ↦ high c there ]
      by false has = elim (Contains-append_cases (h ∷ []) (l ∷ []) c has) [ inl here ↦ high c here | inr there ↦ low c there ]
  ordered_from P (l ∷ []) (h ∷ g ∷ more) low high c contains =
      elim (Contains-append_cases (l ∷ []) (h ∷ g ∷ more) c contains) [ inl here ↦ low c here | inr there ↦ high c there ]
  ordered_from P (l ∷ k ∷ more) highs low high c contains =
      elim (Contains-append_cases (l ∷ k ∷ more) highs c contains) [ inl here ↦ low c here | inr there ↦ high c there ]

  constant_is : (constant : Constant) → Contains (core_constants chip) constant → IsConstantOf constant
  constant_is constant contains =
      ordered_from IsConstantOf (constant_on chip false chip.zero) (constant_on chip true chip.one)
      (constant_from false) (constant_from true) constant contains

  -- a net that none of these is on has no value
  no_value : (constants : List Constant) (value : Trit) (net : ℕ) → ((c : Constant) → Contains constants c → c.net ≡ net → ⊥)
      → constant_value constants value net ≡ value
  no_value [] value net none = refl
  no_value (c ∷ more) value net none =
      ap (λ b. if b then c.value else constant_value more value net) (ne_eqb net c.net (λ e. none c (0, omega arith, refl) (sym e)))
      ∙ no_value more value net (λ d there. none d (suc there.0, (let lt = there.1 in omega arith), there.2))

  core_input : (i : ℕ) → i < length (core_of chip).inputs → slice_index (core_of chip).inputs i ≡ core_net chip (get_or (inputs_of chip) i 0)
  core_input i lt = get_or-map (core_net chip) (inputs_of chip) i 0 0 (let l = length-map (inputs_of chip) (core_net chip) in omega arith)

  chip_input : (i : ℕ) → i < length (core_of chip).inputs → IsInputAt chip i (get_or (inputs_of chip) i 0)
  chip_input i lt = input_at i (get_or (inputs_of chip) i 0)
      (slice_get-get_or (inputs_of chip) i 0 (let l = length-map (inputs_of chip) (core_net chip) in omega arith))

  constant_stored : (value : Bool) → IsNoStored chip (FromConstant value)
  constant_stored value u part output at lt e = absurd cc

  pub core_pinned : 2 * length (inputs_of chip) < 2 ^ 32 → net_count chip < 2 ^ 32 → IsPinned (core_of chip)
  core_pinned few few_nets = record {
    few = (let l = length-map (inputs_of chip) (core_net chip) in omega arith);
    few_nets = (let l = length-core_kinds chip (net_count chip) in let less = few_core chip (net_count chip) in omega arith);
    within = λ i lt.
        let at = chip_input i lt in
        subst (λ n. n < length (core_of chip).nets) (sym (core_input i lt)) (number_within chip is _ at.within at.outside);
    kind = λ i lt.
        let at = chip_input i lt in
        ap (net_kind (core_of chip)) (core_input i lt) ∙ input_kind _ at.source at.within at.outside at.drives at.no_stored;
    distinct = λ i j lt_i lt_j same.
        let one = chip_input i lt_i in
        let two = chip_input j lt_j in
        let net : get_or (inputs_of chip) i 0 ≡ get_or (inputs_of chip) j 0 =
        core_same chip _ _ one.outside two.outside (sym (core_input i lt_i) ∙ same ∙ core_input j lt_j) in
        let source = is.one_driver (get_or (inputs_of chip) j 0) one.source two.source (subst (λ n. Drives chip n one.source) net one.drives) two.drives in
        one.before ∙ ap (inputs_before chip) source ∙ sym two.before;
    free = λ i value lt.
        let at = chip_input i lt in
        no_value (core_constants chip) value (slice_index (core_of chip).inputs i) (λ c contains e.
        let constant = constant_is c contains in
        let net : get_or (inputs_of chip) i 0 ≡ constant.net =
        core_same chip _ _ at.outside constant.outside (sym (core_input i lt) ∙ sym e ∙ constant.numbered) in
        at.no_constant constant.value
        (is.one_driver constant.net at.source (FromConstant constant.value) (subst (λ n. Drives chip n at.source) net at.drives) constant.drives));
    constant_within = λ k c at.
        let constant = constant_is c (contained k c at) in
        subst (λ n. n < length (core_of chip).nets) (sym constant.numbered)
        (number_within chip is constant.net (is.constants_on_nets constant.value constant.net constant.drives) constant.outside);
    constant_kind = λ k c at.
        let constant = constant_is c (contained k c at) in
        ap (net_kind (core_of chip)) constant.numbered
        ∙ input_kind constant.net (FromConstant constant.value) (is.constants_on_nets constant.value constant.net constant.drives) constant.outside constant.drives
        (constant_stored constant.value);
  }
    where
      contained : (k : ℕ) (c : Constant) → slice_get (core_constants chip) k ≡ Some c → Contains (core_constants chip) c
      contained k c at = (k, slice_get_within (core_constants chip) k c at, get_or_from_slice_get (core_constants chip) k c c at)
