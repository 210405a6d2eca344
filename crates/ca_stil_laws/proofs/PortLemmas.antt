-- The ports of a chip among its signals: those that are looked for are found, and groups are in order.
use Rattle.std.proofs.Common.{◌≡◌, ℕ, zero, suc, ◌+◌, Bool, true, false, not, ◌&&◌, ◌||◌, List}
use Rattle.std.proofs.Common.{[], ◌∷◌, ◌++◌, ◌∙◌, length, map, flat_map, ap, arith, refl, sym, subst}
use Rattle.std.specs.Prelude.{eqb, slice_get, Option, Some, None, option_to_list, if◌then◌else◌}
use Rattle.std.specs.List.{list_any}
use Rattle.std.specs.Str.{bytes_eq}
use Rattle.std.proofs.lemmas.Bool.{or_right, eqb-true, eq-eqb}
use Rattle.std.proofs.lemmas.Slice.Eq.{bytes_eq-Decides}
use Rattle.ca_stil.specs.declared.chip.Signal as code
use Rattle.ca_linked.specs.declared.parts.PortBit.{PortBit}
use Rattle.ca_linked.specs.Linked.{LinkedChip, is_scan_path}
use Rattle.ca_linked.specs.Paths.{is_port_on}
use Rattle.ca_stil_form.specs.Frame.{Names, goes, names_of, is_among}
use Rattle.ca_stil_form.specs.Allowed.{signal_names}
use Rattle.ca_chip_stil.specs.Sites.{if_data_port}
use Rattle.ca_chip_stil.specs.ChipStil as chips
use Rattle.ca_chip_stil.specs.ChipStil.{signal_of, port_on}

-- the names of the port bits of one direction
abbrev pub pool : Bool → List PortBit → Names
pool input ports = signal_names input (map signal_of ports)

-- the first port bit of a direction on a net
pub record FoundPort (input : Bool) (net : ℕ) (ports : List PortBit) : Type 0 where
  pub place : ℕ
  pub port : PortBit
  pub at : slice_get ports place ≡ Some port
  pub on : is_port_on input net port ≡ true
  pub is : port_on input net ports ≡ Some port

pub found_port : (input : Bool) (net : ℕ) (ports : List PortBit) (p : ℕ) (port : PortBit) → slice_get ports p ≡ Some port
    → is_port_on input net port ≡ true → FoundPort input net ports
unfolding port_on
found_port input net [] p port at on = absurd (let clash : None ≡ Some port = at in cc)
found_port input net (first ∷ ports) zero port at on =
    let same : first ≡ port = cc in
    let here = subst (λ (q : PortBit). is_port_on input net q ≡ true) (sym same) on in
    record {
      place = 0;
      port = first;
      at = refl;
      on = here;
      is = ap (λ test. if test then Some first else port_on input net ports) here;
    }
found_port input net (first ∷ ports) (suc p) port at on = by (is_port_on input net first) refl (found_port input net ports p port at on)
  where
    by : (test : Bool) → is_port_on input net first ≡ test → FoundPort input net ports → FoundPort input net (first ∷ ports)
    by true is later = record {
      place = 0;
      port = first;
      at = refl;
      on = is;
      is = ap (λ given. if given then Some first else port_on input net ports) is;
    }
    by false is later = record {
      place = suc later.place;
      port = later.port;
      at = later.at;
      on = later.on;
      is = ap (λ given. if given then Some first else port_on input net ports) is ∙ later.is;
    }

-- a port bit of this direction is on its net
directed : (b input : Bool) → b ≡ input → (if b then input else not input) ≡ true
directed true true is = refl
directed false false is = refl
directed true false is = absurd cc
directed false true is = absurd cc

undirected : (b input : Bool) → (if b then input else not input) ≡ true → b ≡ input
undirected true true is = refl
undirected false false is = refl
undirected true false is = absurd cc
undirected false true is = absurd cc

pub on_from : (input : Bool) (net : ℕ) (port : PortBit) → port.is_input ≡ input → port.net ≡ net → is_port_on input net port ≡ true
on_from input net port is at =
    let way = directed port.is_input input is in
    let same = eq-eqb net port.net (sym at) in
    λ j. way j && same j

left_true : (left right : Bool) → (left && right) ≡ true → left ≡ true
left_true true right is = refl
left_true false right is = is

right_true : (left right : Bool) → (left && right) ≡ true → right ≡ true
right_true true right is = is
right_true false right is = absurd cc

pub on_way : (input : Bool) (net : ℕ) (port : PortBit) → is_port_on input net port ≡ true → port.is_input ≡ input
on_way input net port on =
    undirected port.is_input input (left_true (if port.is_input then input else not input) (eqb net port.net) on)

pub on_net : (input : Bool) (net : ℕ) (port : PortBit) → is_port_on input net port ≡ true → port.net ≡ net
on_net input net port on = sym (eqb-true net port.net (right_true (if port.is_input then input else not input) (eqb net port.net) on))

-- the port that is found is one
pub found_of : (input : Bool) (net : ℕ) (ports : List PortBit) (port : PortBit) → port_on input net ports ≡ Some port
    → (p : ℕ) × (slice_get ports p ≡ Some port) × (is_port_on input net port ≡ true)
unfolding port_on
found_of input net [] port is = absurd (let clash : None ≡ Some port = is in cc)
found_of input net (first ∷ ports) port is = by (is_port_on input net first) refl is (found_of input net ports port)
  where
    by : (test : Bool) → is_port_on input net first ≡ test → (if test then Some first else port_on input net ports) ≡ Some port
        → (port_on input net ports ≡ Some port → (p : ℕ) × (slice_get ports p ≡ Some port) × (is_port_on input net port ≡ true))
        → (p : ℕ) × (slice_get (first ∷ ports) p ≡ Some port) × (is_port_on input net port ≡ true)
    by true on given later =
        let same : first ≡ port = cc in
        (0, given, subst (λ (q : PortBit). is_port_on input net q ≡ true) same on)
    by false on given later = let there = later given in (suc there.0, there.1, there.2)

-- a signal goes in the direction of its port bit
goes_is : (input b : Bool) (name : List ℕ) → b ≡ input → goes input (name, b) ≡ true
goes_is true true name is = refl
goes_is false false name is = refl
goes_is true false name is = absurd cc
goes_is false true name is = absurd cc

goes_as : (input b : Bool) (name : List ℕ) → (if b then input else not input) ≡ goes input (name, b)
goes_as true true name = refl
goes_as false false name = refl
goes_as true false name = refl
goes_as false true name = refl

-- the names of one port bit more
pool_more : (input : Bool) (first : PortBit) (ports : List PortBit) (test : Bool) → goes input (first.name, first.is_input) ≡ test
    → pool input (first ∷ ports) ≡ (if test then first.name ∷ pool input ports else pool input ports)
unfolding names_of
pool_more input first ports test is = ap (λ (given : Bool). if given then first.name ∷ pool input ports else pool input ports) is

same_bytes : (name : List ℕ) → bytes_eq name name ≡ true
same_bytes name = (bytes_eq-Decides name name).1 refl

-- the name of a port bit of the direction is one of them
pub in_pool : (input : Bool) (ports : List PortBit) (p : ℕ) (port : PortBit) → slice_get ports p ≡ Some port → port.is_input ≡ input
    → list_any (bytes_eq port.name) (pool input ports) ≡ true
in_pool input [] p port at is = absurd (let clash : None ≡ Some port = at in cc)
in_pool input (first ∷ ports) zero port at is =
    let same : first ≡ port = cc in
    let way = goes_is input first.is_input first.name (ap (λ (q : PortBit). q.is_input) same ∙ is) in
    let equal : bytes_eq port.name first.name ≡ true =
    ap (λ (q : PortBit). bytes_eq port.name q.name) same ∙ same_bytes port.name in
    ap (list_any (bytes_eq port.name)) (pool_more input first ports true way) ∙ (λ j. equal j || list_any (bytes_eq port.name) (pool input ports))
in_pool input (first ∷ ports) (suc p) port at is = by (goes input (first.name, first.is_input)) refl (in_pool input ports p port at is)
  where
    by : (test : Bool) → goes input (first.name, first.is_input) ≡ test → list_any (bytes_eq port.name) (pool input ports) ≡ true
        → list_any (bytes_eq port.name) (pool input (first ∷ ports)) ≡ true
    by true way later =
        ap (list_any (bytes_eq port.name)) (pool_more input first ports true way)
        ∙ or_right (bytes_eq port.name first.name) (list_any (bytes_eq port.name) (pool input ports)) later
    by false way later = ap (list_any (bytes_eq port.name)) (pool_more input first ports false way) ∙ later

-- names are in order where one more name comes before the others, or one less is asked for
record GoesOnAmong (others : Names) : Type 0 where
  pub skip : (names : Names) (other : List ℕ) → is_among names others ≡ true → is_among names (other ∷ others) ≡ true
  pub tail : (name : List ℕ) (names : Names) → is_among (name ∷ names) others ≡ true → is_among names others ≡ true

tail_more : (others : Names) (first : List ℕ) → GoesOnAmong others → (name : List ℕ) (names : Names)
    → is_among (name ∷ names) (first ∷ others) ≡ true → is_among names (first ∷ others) ≡ true
unfolding is_among
tail_more others first later name names given = by (bytes_eq name first) given
  where
    by : (test : Bool) → elim test [ true ↦ is_among names others | false ↦ is_among (name ∷ names) others ] ≡ true
        → is_among names (first ∷ others) ≡ true
    by true is = later.skip names first is
    by false is = later.skip names first (later.tail name names is)

skip_more : (others : Names) (first : List ℕ) → GoesOnAmong others → (names : Names) (other : List ℕ)
    → is_among names (first ∷ others) ≡ true → is_among names (other ∷ first ∷ others) ≡ true
unfolding is_among
skip_more others first later [] other given = refl
skip_more others first later (name ∷ names) other given = by (bytes_eq name other)
  where
    by : (test : Bool) → elim test [ true ↦ is_among names (first ∷ others) | false ↦ is_among (name ∷ names) (first ∷ others) ] ≡ true
    by true = tail_more others first later name names given
    by false = given

goes_on_among : (others : Names) → GoesOnAmong others
unfolding is_among
goes_on_among [] = record { skip = skip; tail = λ name names given. absurd cc }
  where
    skip : (names : Names) (other : List ℕ) → is_among names [] ≡ true → is_among names (other ∷ []) ≡ true
    skip [] other given = refl
    skip (name ∷ names) other given = absurd cc
goes_on_among (first ∷ others) = record {
  skip = λ names other given. skip_more others first (goes_on_among others) names other given;
  tail = λ name names given. tail_more others first (goes_on_among others) name names given;
}

among_skip : (names others : Names) (other : List ℕ) → is_among names others ≡ true → is_among names (other ∷ others) ≡ true
among_skip names others other given = (goes_on_among others).skip names other given

among_first : (name other : List ℕ) (names others : Names) → bytes_eq name other ≡ true → is_among names others ≡ true
    → is_among (name ∷ names) (other ∷ others) ≡ true
unfolding is_among
among_first name other names others same given =
    ap (λ (test : Bool). elim test [ true ↦ is_among names others | false ↦ is_among (name ∷ names) others ]) same ∙ given

among_none : (others : Names) → is_among [] others ≡ true
unfolding is_among
among_none others = refl

-- the bits of data ports are in order
pub data_among : (chip : LinkedChip) (input : Bool) (ports : List PortBit)
    → is_among (chips.names_of (flat_map (if_data_port chip input) ports)) (pool input ports) ≡ true
data_among chip input [] = among_none (pool input [])
data_among chip input (first ∷ ports) =
    by (goes input (first.name, first.is_input)) refl (not (is_scan_path chip first.net)) (goes_as input first.is_input first.name)
    (data_among chip input ports)
  where
    data_names : Names
    data_names = chips.names_of (flat_map (if_data_port chip input) ports)

    by : (way : Bool) → goes input (first.name, first.is_input) ≡ way → (off : Bool)
        → (if first.is_input then input else not input) ≡ goes input (first.name, first.is_input)
        → is_among (chips.names_of (flat_map (if_data_port chip input) ports)) (pool input ports) ≡ true
        → is_among (chips.names_of ((if (if first.is_input then input else not input) && off then first ∷ [] else [])
        ++ flat_map (if_data_port chip input) ports)) (pool input (first ∷ ports)) ≡ true
    by true is true same later =
        (λ j. is_among (chips.names_of ((if (same ∙ is) j && true then first ∷ [] else []) ++ flat_map (if_data_port chip input) ports))
        (pool_more input first ports true is j))
        ∙ among_first first.name first.name data_names (pool input ports) (same_bytes first.name) later
    by true is false same later =
        (λ j. is_among (chips.names_of ((if (same ∙ is) j && false then first ∷ [] else []) ++ flat_map (if_data_port chip input) ports))
        (pool_more input first ports true is j))
        ∙ among_skip data_names (pool input ports) first.name later
    by false is off same later =
        (λ j. is_among (chips.names_of ((if (same ∙ is) j && off then first ∷ [] else []) ++ flat_map (if_data_port chip input) ports))
        (pool_more input first ports false is j))
        ∙ later

-- of the names of port bits those of which something is found are in order, where it has the bit's name
pub found_among : (call : List ℕ → List ℕ) (ports : List PortBit) (found : List (Option (List ℕ))) → length found ≡ length ports
    → ((p : ℕ) (port : PortBit) (chain : List ℕ) → slice_get ports p ≡ Some port → slice_get found p ≡ Some (Some chain)
    → (port.is_input ≡ true) × (call chain ≡ port.name))
    → is_among (map call (flat_map option_to_list found)) (pool true ports) ≡ true
found_among call [] [] same each = among_none (pool true [])
found_among call [] (one ∷ found) same each = absurd (omega (arith, same))
found_among call (port ∷ ports) [] same each = absurd (omega (arith, same))
found_among call (port ∷ ports) (None ∷ found) same each =
    by (goes true (port.name, port.is_input)) refl (found_among call ports found (omega (arith, same)) (λ p. each (suc p)))
  where
    by : (way : Bool) → goes true (port.name, port.is_input) ≡ way → is_among (map call (flat_map option_to_list found)) (pool true ports) ≡ true
        → is_among (map call (flat_map option_to_list found)) (pool true (port ∷ ports)) ≡ true
    by true is later =
        ap (is_among (map call (flat_map option_to_list found))) (pool_more true port ports true is)
        ∙ among_skip (map call (flat_map option_to_list found)) (pool true ports) port.name later
    by false is later = ap (is_among (map call (flat_map option_to_list found))) (pool_more true port ports false is) ∙ later
found_among call (port ∷ ports) (Some chain ∷ found) same each =
    let here = each 0 port chain refl refl in
    let way = goes_is true port.is_input port.name here.0 in
    let equal : bytes_eq (call chain) port.name ≡ true = (bytes_eq-Decides (call chain) port.name).1 here.1 in
    let later = found_among call ports found (omega (arith, same)) (λ p. each (suc p)) in
    ap (is_among (call chain ∷ map call (flat_map option_to_list found))) (pool_more true port ports true way)
    ∙ among_first (call chain) port.name (map call (flat_map option_to_list found)) (pool true ports) equal later
