-- Channel groups: which devices there are around one, and responses that are found again in marked ones alone.
use Rattle.std.proofs.Common.{◌≡◌, ℕ, ◌<◌, ◌⊎◌, List, Bool, true, false, length, inl, inr, refl, sym, ◌∙◌, subst, arith, get_or}
use Rattle.std.specs.Prelude.{Some, slice_get}
use Rattle.std.specs.List.{Contains}
use Rattle.std.proofs.lemmas.Bool.{cases_Bool}
use Rattle.std.proofs.lemmas.Option.{slice_get-get_or, slice_get_within, get_or_from_slice_get}
use Rattle.ca_net.specs.declared.trit.Trit.{Trit}
use Rattle.ca_net.specs.declared.node.NodeKind.TheVariants.{Input}
use Rattle.ca_net.specs.declared.device.Device.{Device}
use Rattle.ca_net.specs.Circuit.{Circuit, IsWellFormed, NamesWithin, IsStorage, kind_at}
use Rattle.ca_net.specs.Conduction.{Links}
use Rattle.ca_net.specs.State.{value_at}
use Rattle.ca_net.specs.Response.{IsResponse, AreResponses}
use Rattle.ca_net.specs.Limits.{IsFixed}
use Rattle.ca_net.proofs.StateLemmas.{storage_or_input, storage_within, response_of_input, input_responds}
use Rattle.ca_relax.proofs.JoinedLemmas.{placed}
use Rattle.ca_planes.specs.declared.block.Block.{Block}
use Rattle.ca_planes.specs.Trits.{state_in}
use Rattle.ca_levels.specs.Levels.{with_devices, AreSomeOf}
use Rattle.ca_levels.proofs.ResponseLemmas.{some_well_formed}
use Rattle.ca_block.specs.Groups.{IsEnd, HasHome}
use Rattle.ca_block.specs.code.Touched.{IsUnmarked, IsSameAround, AreChanged, AreNodesMarked, AreDevicesMarked}
use Rattle.ca_block.specs.code.Touched.{AreMarked, AreChosen, KeepsUnmarked}
use Rattle.ca_block.proofs.Locality.{responds_there}

-- what is known of the labels
abbrev pub HaveHomes : Circuit → List ℕ → List ℕ → Type 0
HaveHomes net labels homes = (i : ℕ) (d : Device) → slice_get net.devices i ≡ Some d → HasHome net labels d (get_or homes i 0)

is_first : (d : Device) (m n : ℕ) → Links d m n → IsEnd d m
is_first d m n (inl l) = inl l.0
is_first d m n (inr l) = inr l.0

is_second : (d : Device) (m n : ℕ) → Links d m n → IsEnd d n
is_second d m n (inl l) = inr l.1
is_second d m n (inr l) = inl l.1

-- a place is marked, or not
marked_or_not : (marks : List Bool) (place : ℕ) → (IsUnmarked marks place → ⊥) ⊎ IsUnmarked marks place
marked_or_not marks place = elim (cases_Bool (get_or marks place false)) [
  | inl e ↦ inl (λ un. let f : true ≡ false = sym e ∙ un in cc)
  | inr e ↦ inr e
]

-- all devices of a network are some of it
pub all_some : (net : Circuit) (devices : List Device) → devices ≡ net.devices → AreSomeOf net devices
all_some net devices is = subst (AreSomeOf net) (sym is) (record {
  few = omega arith;
  among = λ k d lt. (k, lt, get_or_from_slice_get net.devices k (get_or net.devices k d) (get_or net.devices k d) (slice_get-get_or net.devices k d lt));
})

-- a state that responds as it is
pub fixed_responds : (net : Circuit) (v s : List Trit) → IsFixed net v s → AreResponses net s s
fixed_responds net v s fix = record {
  is_state = fix.is_state;
  responds = λ n lt. elim (storage_or_input net n) [
    | inl storage ↦ fix.fixed n storage
    | inr e ↦ input_responds net s n e
  ];
}

-- what was marked by changed nodes
pub are_marked : (net : Circuit) → IsWellFormed net → (labels homes : List ℕ) (devices : List Device) (s t : Block) (changed marks : List Bool) → devices ≡ net.devices
    → AreChanged (length net.nodes) s t changed → AreNodesMarked (length net.nodes) labels changed marks
    → AreDevicesMarked (length devices) devices homes changed marks → AreMarked net labels homes s t marks
are_marked net well_formed labels homes devices s t changed marks same are nodes by_devices = record {
  nodes = λ n lt un. are n lt (nodes n lt un);
  devices = λ i d is un.
      let lt = slice_get_within net.devices i d is in
      let names : NamesWithin (length net.nodes) d =
      subst (NamesWithin (length net.nodes)) (get_or_from_slice_get net.devices i d d is) (well_formed.named i d lt) in
      let still = by_devices i d (subst (λ (xs : List Device). i < length xs) (sym same) lt) (subst (λ (xs : List Device). slice_get xs i ≡ Some d) (sym same) is) un in
      record { gate = are d.gate.0 names.0 still.gate; a = are d.a.0 names.1 still.a; b = are d.b.0 names.2 still.b };
}

module _ (net : Circuit) (labels homes : List ℕ) (have : HaveHomes net labels homes) where
  -- the storage nodes of one label
  abbrev pub IsOf : ℕ → ℕ → Type 0
  IsOf label n = IsStorage net n × (get_or labels n 0 ≡ label)

  -- the home of a device with an end there is that label
  home_is : (d : Device) (m n label : ℕ) (has : Contains net.devices d) → Links d m n → IsOf label n → get_or homes has.0 0 ≡ label
  home_is d m n label has links is = sym (have has.0 d (placed net d has) n (is_second d m n links) is.0) ∙ is.1

  -- and its other end is there too, or an input node
  closed_over : (d : Device) (m n label : ℕ) → Contains net.devices d → Links d m n → IsOf label n → IsStorage net m → IsOf label m
  closed_over d m n label has links is storage =
      (storage, have has.0 d (placed net d has) m (is_first d m n links) storage ∙ home_is d m n label has links is)

  module _ (marks : List Bool) (chosen : List Device) (are : AreChosen net.devices homes marks chosen) where
    from_chosen : (d : Device) → Contains chosen d → Contains net.devices d
    from_chosen d has = subst (Contains net.devices) has.2 (are.only has.0 d has.1)

    pub some_chosen : AreSomeOf net chosen
    some_chosen = record { few = are.few; among = are.only }

    -- in the network of the chosen devices a node of a marked group responds as in the whole
    pub responds_chosen : IsWellFormed net → (s : List Trit) (n : ℕ) (v : Trit) → IsStorage net n → (IsUnmarked marks (get_or labels n 0) → ⊥)
        → IsResponse (with_devices net chosen) s n v → IsResponse net s n v
    responds_chosen well_formed s n v storage marked h =
        let label = get_or labels n 0 in
        responds_there net.nodes (IsOf label) chosen net.devices s s (some_well_formed net chosen well_formed some_chosen) well_formed
        (record {
          storage = λ m is. is.0;
          closed = λ d k m has links is st. closed_over d k m label (from_chosen d has) links is st;
          has = λ d k m has links is. from_chosen d has;
          gates = λ d k m has links is. refl;
          ends = λ d k m has links is. refl;
        })
        (record {
          storage = λ m is. is.0;
          closed = λ d k m has links is st. closed_over d k m label has links is st;
          has = λ d k m has links is. are.all has.0 d (placed net d has) (λ un. marked (subst (IsUnmarked marks) (home_is d k m label has links is) un));
          gates = λ d k m has links is. refl;
          ends = λ d k m has links is. refl;
        })
        (λ m is. refl) n v (storage, refl) h

  -- a node of a group that isn't marked responds as it did
  module _ (well_formed : IsWellFormed net) (marks : List Bool) (from to : Block) (are : AreMarked net labels homes from to marks) (lane : ℕ) (low : lane < 64) where
    same_around : (d : Device) (m n label : ℕ) → IsUnmarked marks label → Contains net.devices d → Links d m n → IsOf label n → IsSameAround from to d
    same_around d m n label un has links is = are.devices has.0 d (placed net d has) (subst (IsUnmarked marks) (sym (home_is d m n label has links is)) un)

    same_end : (d : Device) (m n : ℕ) → Links d m n → IsSameAround from to d → value_at (state_in from lane) m ≡ value_at (state_in to lane) m
    same_end d m n (inl l) same = subst (λ x. value_at (state_in from lane) x ≡ value_at (state_in to lane) x) l.0 (same.a lane low)
    same_end d m n (inr l) same = subst (λ x. value_at (state_in from lane) x ≡ value_at (state_in to lane) x) l.0 (same.b lane low)

    pub responds_still : (n : ℕ) (v : Trit) → IsStorage net n → IsUnmarked marks (get_or labels n 0)
        → IsResponse net (state_in from lane) n v → IsResponse net (state_in to lane) n v
    responds_still n v storage un h =
        let label = get_or labels n 0 in
        responds_there net.nodes (IsOf label) net.devices net.devices (state_in from lane) (state_in to lane) well_formed well_formed
        (record {
          storage = λ m is. is.0;
          closed = λ d k m has links is st. closed_over d k m label has links is st;
          has = λ d k m has links is. has;
          gates = λ d k m has links is. (same_around d k m label un has links is).gate lane low;
          ends = λ d k m has links is. same_end d k m links (same_around d k m label un has links is);
        })
        (record {
          storage = λ m is. is.0;
          closed = λ d k m has links is st. closed_over d k m label has links is st;
          has = λ d k m has links is. has;
          gates = λ d k m has links is. sym ((same_around d k m label un has links is).gate lane low);
          ends = λ d k m has links is. sym (same_end d k m links (same_around d k m label un has links is));
        })
        (λ m is. are.nodes m (storage_within net m is.0) (subst (IsUnmarked marks) (sym is.1) un) lane low) n v (storage, refl) h

  -- responses that are found again in marked groups alone, and stay those of another state elsewhere
  pub responses_again : IsWellFormed net → (marks : List Bool) (chosen : List Device) (before known from mid new : Block)
      → AreMarked net labels homes before from marks → AreChosen net.devices homes marks chosen
      → ((lane : ℕ) → lane < 64 → AreResponses net (state_in before lane) (state_in known lane))
      → ((lane : ℕ) → lane < 64 → AreResponses (with_devices net chosen) (state_in from lane) (state_in mid lane))
      → KeepsUnmarked (length net.nodes) labels marks known mid new
      → (lane : ℕ) → lane < 64 → length (state_in new lane) ≡ length net.nodes → AreResponses net (state_in from lane) (state_in new lane)
  responses_again well_formed marks chosen before known from mid new are chose knows found keeps lane low room = record {
    is_state = room;
    responds = λ n lt. elim (marked_or_not marks (get_or labels n 0)) [
      | inl marked ↦ subst (IsResponse net (state_in from lane) n) (sym (keeps.marked lane n lt marked)) (again n lt marked (storage_or_input net n))
      | inr un ↦ subst (IsResponse net (state_in from lane) n) (sym (keeps.unmarked lane n lt un)) (still n lt un (storage_or_input net n))
    ];
  } where
    again : (n : ℕ) → n < length net.nodes → (IsUnmarked marks (get_or labels n 0) → ⊥) → IsStorage net n ⊎ (kind_at net n ≡ Input)
        → IsResponse net (state_in from lane) n (value_at (state_in mid lane) n)
    again n lt marked (inl storage) =
        responds_chosen marks chosen chose well_formed (state_in from lane) n (value_at (state_in mid lane) n) storage marked ((found lane low).responds n lt)
    again n lt marked (inr e) =
        subst (IsResponse net (state_in from lane) n)
        (sym (response_of_input (with_devices net chosen) (state_in from lane) n (value_at (state_in mid lane) n) e ((found lane low).responds n lt)))
        (input_responds net (state_in from lane) n e)

    still : (n : ℕ) → n < length net.nodes → IsUnmarked marks (get_or labels n 0) → IsStorage net n ⊎ (kind_at net n ≡ Input)
        → IsResponse net (state_in from lane) n (value_at (state_in known lane) n)
    still n lt un (inl storage) =
        responds_still well_formed marks before from are lane low n (value_at (state_in known lane) n) storage un ((knows lane low).responds n lt)
    still n lt un (inr e) =
        subst (IsResponse net (state_in from lane) n)
        (sym (response_of_input net (state_in before lane) n (value_at (state_in known lane) n) e ((knows lane low).responds n lt) ∙ are.nodes n lt un lane low))
        (input_responds net (state_in from lane) n e)
