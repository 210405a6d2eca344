-- Wired links of one wiring over the same cells have one core.
use Rattle.std.proofs.Common.{◌≡◌, ℕ, zero, suc, ◌+◌, ◌∙◌, Bool, true, false, List, [], ◌∷◌, ◌++◌, length, map, refl}
use Rattle.std.proofs.Common.{sym, ap, ap₂, subst, arith}
use Rattle.std.specs.Prelude.{Option, Some, None, slice_get, ◌||◌, if◌then◌else◌, option_to_list}
use Rattle.std.specs.List.{list_any}
use Rattle.ca_net.specs.declared.scale.TheConstants.{OUTPUT_NET}
use Rattle.ca_net.specs.declared.node.NodeKind.{NodeKind}
use Rattle.ca_net.specs.declared.node.NodeKind.TheVariants as node
use Rattle.ca_linked.specs.declared.parts.Body.{Body}
use Rattle.ca_linked.specs.declared.parts.Body.TheVariants.{Gate, Scan}
use Rattle.ca_linked.specs.declared.parts.Part.{Part}
use Rattle.ca_linked.specs.Linked.{LinkedChip, IsWired, net_count, constant_net, cell_of, has, path_nets, is_scan_path}
use Rattle.ca_linked.specs.Linked.{inputs_of, outputs_of}
use Rattle.ca_wiring.specs.Wiring.{Wiring}
use Rattle.ca_wiring.specs.Linking.{IsLinkOf}
use Rattle.ca_link.proofs.NetsLemmas.{same_nets, wire_of_net}
use Rattle.ca_view.specs.Core.{core_net, stored_nets, kind_of, core_kinds, empty_cell, core_instance, trit_of}
use Rattle.ca_view.specs.Core.{constant_on, in_net_order, core_of}
use Rattle.ca_link_laws.specs.Alike.{AreBodiesAlike, AreAlike, HaveOneCell}
use Rattle.ca_link_laws.proofs.AlikeLemmas.{links_alike, one_cell}
use Rattle.ca_link_laws.proofs.TraceLemmas.{one_ports}

-- lists of items that give the same give the same
map_same : {X Y : Type 0} (f g : X → Y) (xs ys : List X) → length xs ≡ length ys
    → ((u : ℕ) (x y : X) → slice_get xs u ≡ Some x → slice_get ys u ≡ Some y → f x ≡ g y) → map f xs ≡ map g ys
map_same f g [] [] same each = refl
map_same f g [] (y ∷ ys) same each = absurd (omega (arith, same))
map_same f g (x ∷ xs) [] same each = absurd (omega (arith, same))
map_same f g (x ∷ xs) (y ∷ ys) same each =
    let rest : map f xs ≡ map g ys = map_same f g xs ys (omega (arith, same)) (λ u. each (suc u)) in
    let first : f x ≡ g y = each 0 x y refl refl in
    λ j. first j ∷ rest j

-- and pass the same tests
any_same : {X : Type 0} (p q : X → Bool) (xs ys : List X) → length xs ≡ length ys
    → ((u : ℕ) (x y : X) → slice_get xs u ≡ Some x → slice_get ys u ≡ Some y → p x ≡ q y) → list_any p xs ≡ list_any q ys
any_same p q [] [] same each = refl
any_same p q [] (y ∷ ys) same each = absurd (omega (arith, same))
any_same p q (x ∷ xs) [] same each = absurd (omega (arith, same))
any_same p q (x ∷ xs) (y ∷ ys) same each =
    let rest : list_any p xs ≡ list_any q ys = any_same p q xs ys (omega (arith, same)) (λ u. each (suc u)) in
    ap₂ (λ (a b : Bool). a || b) (each 0 x y refl refl) rest

-- bodies that are alike have the same nets on the scan path
same_path : (body also : Body) → AreBodiesAlike body also → path_nets body ≡ path_nets also
same_path (Gate cell inputs outputs) (Gate other ins outs) alike = refl
same_path (Gate cell inputs outputs) (Scan nets) alike = absurd alike
same_path (Scan nets) (Gate cell inputs outputs) alike = absurd alike
same_path (Scan nets) (Scan others) alike = ap (λ pins. path_nets (Scan pins)) alike

-- and storage nodes for the same nets
same_stored : (body also : Body) → AreBodiesAlike body also → stored_nets body ≡ stored_nets also
same_stored (Gate cell inputs outputs) (Gate other ins outs) alike = alike.1
same_stored (Gate cell inputs outputs) (Scan nets) alike = absurd alike
same_stored (Scan nets) (Gate cell inputs outputs) alike = absurd alike
same_stored (Scan nets) (Scan others) alike = ap (λ pins. stored_nets (Scan pins)) alike

module _ (chip also : LinkedChip) (alike : AreAlike chip also) where
  on_path : (net : ℕ) → is_scan_path chip net ≡ is_scan_path also net
  on_path net = any_same (λ part. has (path_nets part.body) net) (λ part. has (path_nets part.body) net) chip.parts also.parts alike.same_parts
      (λ u part other at at_other. ap (λ (nets : List ℕ). has nets net) (same_path part.body other.body (alike.parts u part other at at_other).body))

  same_kind : (net : ℕ) → kind_of chip net ≡ kind_of also net
  same_kind net = ap (λ (stored : Bool). if stored then node.Storage OUTPUT_NET else node.Input)
      (any_same (λ part. has (stored_nets part.body) net) (λ part. has (stored_nets part.body) net) chip.parts also.parts alike.same_parts
      (λ u part other at at_other. ap (λ (nets : List ℕ). has nets net) (same_stored part.body other.body (alike.parts u part other at at_other).body)))

  same_net : (net : ℕ) → core_net chip net ≡ core_net also net
  unfolding core_net
  same_net zero = refl
  same_net (suc net) = ap₂ (λ (a b : ℕ). a + b) (same_net net) (ap (λ (path : Bool). if path then 0 else 1) (on_path net))

  same_kinds : (count : ℕ) → core_kinds chip count ≡ core_kinds also count
  unfolding core_kinds
  same_kinds zero = refl
  same_kinds (suc net) =
      let path : is_scan_path chip net ≡ is_scan_path also net = on_path net in
      let kind : kind_of chip net ≡ kind_of also net = same_kind net in
      let rest : core_kinds chip net ≡ core_kinds also net = same_kinds net in
      ap₂ (λ (a b : List NodeKind). a ++ b) rest
      (ap₂ (λ (on : Bool) (it : NodeKind). if on then [] else it ∷ []) path kind)

  same_nets_of : (nets others : List ℕ) → nets ≡ others → map (core_net chip) nets ≡ map (core_net also) others
  same_nets_of nets others same =
      map_each nets ∙ ap (map (core_net also)) same
    where
      map_each : (nets : List ℕ) → map (core_net chip) nets ≡ map (core_net also) nets
      map_each [] = refl
      map_each (net ∷ nets) =
          ap₂ (λ (a : ℕ) (b : List ℕ). a ∷ b) (same_net net) (map_each nets)

  same_constant : (value : Bool) (net : Option ℕ) → constant_on chip value net ≡ constant_on also value net
  same_constant value None = refl
  same_constant value (Some net) =
      ap₂ (λ (on : Bool) (it : ℕ). if on then [] else record { net = it; value = trit_of value } ∷ []) (on_path net) (same_net net)

  -- instances of the same subcircuit are the same in the core
  same_instance : (body other : Body) → AreBodiesAlike body other
      → ((cell place : ℕ) (inputs outputs ins outs : List ℕ) → body ≡ Gate cell inputs outputs → other ≡ Gate place ins outs
      → cell_of chip.cells cell ≡ cell_of also.cells place)
      → core_instance chip body ≡ core_instance also other
  same_instance (Gate cell inputs outputs) (Gate place ins outs) alike cells =
      let raw = cells cell place inputs outputs ins outs refl refl in
      let pins = same_nets_of (inputs ++ outputs) (ins ++ outs) (ap₂ (λ (a b : List ℕ). a ++ b) alike.0 alike.1) in
      λ j. record { cell = raw j; pins = pins j }
  same_instance (Gate cell inputs outputs) (Scan nets) alike cells = absurd alike
  same_instance (Scan nets) (Gate cell inputs outputs) alike cells = absurd alike
  same_instance (Scan nets) (Scan others) alike cells =
      let pins = same_nets_of (option_to_list nets.qn) (option_to_list others.qn) (ap (λ (pins : _). option_to_list pins.qn) alike) in
      λ j. record { cell = empty_cell (alike j).qn; pins = pins j }

  -- chips that are alike, of the same subcircuits and with the same constants, have one core
  pub same_core : HaveOneCell chip also → ((value : Bool) → constant_net chip value ≡ constant_net also value)
      → core_of chip ≡ core_of also
  same_core cells constants =
      let ports = one_ports chip also alike in
      let nets : core_kinds chip (net_count chip) ≡ core_kinds also (net_count also) =
      same_kinds (net_count chip) ∙ ap (core_kinds also) alike.nets in
      let instances : map (λ part. core_instance chip part.body) chip.parts ≡ map (λ part. core_instance also part.body) also.parts =
      map_same (λ part. core_instance chip part.body) (λ part. core_instance also part.body) chip.parts also.parts alike.same_parts
      (λ u part other at at_other. same_instance part.body other.body (alike.parts u part other at at_other).body
      (λ cell place inputs outputs ins outs is also_is. of_cell u part other at at_other cell place inputs outputs ins outs is also_is)) in
      let ins = same_nets_of (inputs_of chip) (inputs_of also) ports.inputs in
      let outs = same_nets_of (outputs_of chip) (outputs_of also) ports.outputs in
      let lows = same_constant false chip.zero ∙ ap (constant_on also false) (constants false) in
      let highs = same_constant true chip.one ∙ ap (constant_on also true) (constants true) in
      λ j. record { nets = nets j; instances = instances j; inputs = ins j; constants = in_net_order (lows j) (highs j); outputs = outs j }
    where
      of_cell : (u : ℕ) (part other : Part) → slice_get chip.parts u ≡ Some part → slice_get also.parts u ≡ Some other
          → (cell place : ℕ) (inputs outputs ins outs : List ℕ) → part.body ≡ Gate cell inputs outputs → other.body ≡ Gate place ins outs
          → cell_of chip.cells cell ≡ cell_of also.cells place
      of_cell u part other at at_other cell place inputs outputs ins outs is also_is =
          let found = cells u part other (cell_of chip.cells cell) at at_other (rw is refl) in
          rw also_is at found

-- the nets that constants drive are one
one_constant : (wiring : Wiring) (chip also : LinkedChip) → IsLinkOf wiring chip → IsLinkOf wiring also → IsWired chip → IsWired also
    → (value : Bool) → constant_net chip value ≡ constant_net also value
one_constant wiring chip also link too wired also_wired value =
    by (constant_net chip value) (constant_net also value) refl refl
  where
    over : (one other : LinkedChip) (link : IsLinkOf wiring one) (too : IsLinkOf wiring other) → IsWired one → (net : ℕ)
        → constant_net one value ≡ Some net → constant_net other value ≡ Some net
    over one other link too wired net is =
        let found = wire_of_net wiring one link net (wired.constants_on_nets value net is) in
        let lists : link.nets ≡ too.nets = same_nets wiring link.nets too.nets link.are too.are in
        (too.constants net found.0 value (subst (λ list. slice_get list net ≡ Some found.0) lists found.1)).1
        ((link.constants net found.0 value found.1).0 is)

    by : (one other : Option ℕ) → constant_net chip value ≡ one → constant_net also value ≡ other
        → constant_net chip value ≡ constant_net also value
    by None None is also_is = is ∙ sym also_is
    by None (Some net) is also_is = absurd (
        let both = sym is ∙ over also chip too link also_wired net also_is in cc)
    by (Some net) other is also_is = is ∙ sym (over chip also link too wired net is)

pub one_core : (wiring : Wiring) (chip also : LinkedChip) → IsLinkOf wiring chip → IsLinkOf wiring also → IsWired chip → IsWired also
    → chip.cells ≡ also.cells → core_of chip ≡ core_of also
one_core wiring chip also link too wired also_wired cells =
    same_core chip also (links_alike wiring chip also link too) (one_cell wiring chip also link too cells)
    (one_constant wiring chip also link too wired also_wired)
