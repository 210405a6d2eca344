-- One hop of the search.
use Rattle.std.proofs.Common.{◌≡◌, ℕ, ◌<◌, ◌≤◌, List, Bool, true, false, length, min, inl, inr, sym, ◌∙◌, ap}
use Rattle.std.proofs.Common.{subst, arith, get_or, slice_get, set, ◌+◌}
use Rattle.std.specs.Prelude.{Option, Some, not, cond}
use Rattle.std.specs.List.{count_by}
use Rattle.std.proofs.lemmas.List.Sums.{sum_by-set}
use Rattle.std.proofs.lemmas.List.{set-set, set-get_or}
use Rattle.std.proofs.lemmas.Option.{slice_get_within, get_or_from_slice_get, slice_get-get_or}
use Rattle.ca_net.specs.declared.path_kind.PathKind.{PathKind}
use Rattle.ca_net.specs.declared.trit.Trit.{Trit}
use Rattle.ca_net.specs.declared.node.NodeId.{NodeId}
use Rattle.ca_net.specs.declared.device.Device.{Device}
use Rattle.ca_net.specs.Circuit.{Circuit, IsWellFormed, IsStorage, NamesWithin}
use Rattle.ca_net.specs.State.{value_at}
use Rattle.ca_net.specs.Conduction.{Links}
use Rattle.ca_net.specs.code.Walk.{IsHop}
use Rattle.ca_net.specs.Passing.{PassesAt}

pub named_at : (net : Circuit) (i : ℕ) (d : Device) → IsWellFormed net → slice_get net.devices i ≡ Some d → NamesWithin (length net.nodes) d
named_at net i d well_formed e =
    subst (NamesWithin (length net.nodes)) (get_or_from_slice_get net.devices i d d e) (well_formed.named i d (slice_get_within net.devices i d e))

pub links_within : (n : ℕ) (d : Device) (at m : ℕ) → NamesWithin n d → Links d at m → m < n
links_within n d at m h (inl l) = subst (λ x. x < n) l.1 h.2
links_within n d at m h (inr l) = subst (λ x. x < n) l.1 h.1

pub same_device : (net : Circuit) (i : ℕ) (d e : Device) → slice_get net.devices i ≡ Some d → slice_get net.devices i ≡ Some e → e ≡ d
same_device net i d e p q = cc

-- what a hop through the device i says of the device that is there
pub record HopBy (net : Circuit) (s : List Trit) (kind : PathKind) (floor : List ℕ) (on : List Bool) (at k m l : ℕ) (device : Device) : Type 0 where
  pub links : Links device at m
  pub storage : IsStorage net m
  pub unmarked : slice_get on m ≡ Some false
  pub passes : PassesAt kind device.kind (value_at s device.gate.0)
  pub strength : l ≡ min k device.strength
  pub allowed : get_or floor m 0 ≤ l

pub hop_by : (net : Circuit) (s : List Trit) (kind : PathKind) (floor : List ℕ) (on : List Bool) (at k i m l : ℕ) (d : Device)
    → slice_get net.devices i ≡ Some d → IsHop net s kind floor on at k i m l → HopBy net s kind floor on at k m l d
hop_by net s kind floor on at k i m l d e h =
    subst (HopBy net s kind floor on at k m l) (same_device net i d h.device e h.is_device)
    (record { links = h.links; storage = h.storage; unmarked = h.unmarked; passes = h.passes; strength = h.strength; allowed = h.allowed })

-- the node to which a device leads is one
pub same_node : (found : Option NodeId) (m : ℕ) (next : NodeId) → found ≡ Some (record { 0 = m }) → found ≡ Some next → m ≡ next.0
same_node found m next is_m is_next =
    let some : ◌≡◌ {A = Option NodeId} (Some (record { 0 = m })) (Some next) = sym is_m ∙ is_next in
    let node : ◌≡◌ {A = NodeId} (record { 0 = m }) next = cc in ap (λ n. n.0) node

pub unmarked_at : (on : List Bool) (m : ℕ) → m < length on → get_or on m false ≡ false → slice_get on m ≡ Some false
unmarked_at on m lt e = slice_get-get_or on m false lt ∙ ap Some e

-- marking a node that is not marked leaves fewer that are not
pub marks_fall : (on : List Bool) (m : ℕ) → slice_get on m ≡ Some false → count_by not (set on m true) < count_by not on
marks_fall on m e =
    let s : count_by not (set on m true) + cond (not (get_or on m false)) 1 0 ≡ count_by not on + 0 =
    sum_by-set (λ x. cond (not x) 1 0) on m true false (slice_get_within on m false e) in
    let s' : count_by not (set on m true) + 1 ≡ count_by not on + 0 =
    subst (λ (x : Bool). count_by not (set on m true) + cond (not x) 1 0 ≡ count_by not on + 0) (get_or_from_slice_get on m false false e) s in
    omega arith

-- and taking the mark away brings the list back
pub unmark : (on : List Bool) (m : ℕ) → slice_get on m ≡ Some false → set (set on m true) m false ≡ on
unmark on m e =
    set-set on m true false ∙ ap (set on m) (sym (get_or_from_slice_get on m false false e)) ∙ set-get_or on m false
