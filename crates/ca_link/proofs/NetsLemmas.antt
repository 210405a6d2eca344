-- The nets of a wiring are its own, and what is on them is in a link where it is in the wiring.
use Rattle.std.proofs.Common.{◌≡◌, ℕ, zero, suc, ◌<◌, ◌⊎◌, List, [], ◌∷◌, length, inl, inr, refl, sym, ◌∙◌}
use Rattle.std.proofs.Common.{ap, subst, arith}
use Rattle.std.specs.Prelude.{Some, slice_get}
use Rattle.std.specs.List.{AllPairs}
use Rattle.std.proofs.lemmas.Bool.{cases_lt}
use Rattle.std.proofs.lemmas.Option.{slice_get_within, get_or_from_slice_get, slice_get_cases}
use Rattle.ca_wiring.specs.Joined.{AreJoined, Same}
use Rattle.ca_wiring.specs.Wiring.{Wiring}
use Rattle.ca_wiring.specs.Nets.{IsNet, AreNets, IsNetOf, AreNetsOf}
use Rattle.ca_wiring.specs.Linking.{IsLinkOf}
use Rattle.ca_wiring.specs.Rules.{IsNetAt}
use Rattle.ca_wiring.proofs.ForestLemmas.{joined_trans, joined_sym}
use Rattle.ca_linked.specs.Linked.{LinkedChip, net_count}
use Rattle.ca_linked.proofs.OrderLemmas.{contained_at, place_of}
use Rattle.ca_linked.proofs.DriverLemmas.{some_inj}

-- each is less than the next
abbrev pub Ascends : List ℕ → Type 0
Ascends = AllPairs (λ a b. a < b)

-- what is later in an ascending list is greater
less_at : (xs : List ℕ) (j k x y : ℕ) → Ascends xs → j < k → slice_get xs j ≡ Some x → slice_get xs k ≡ Some y → x < y
less_at xs j k x y ascending less at_j at_k =
    let lt = ascending j k x less (slice_get_within xs k y at_k) in
    let a = get_or_from_slice_get xs j x x at_j in
    let b = get_or_from_slice_get xs k y x at_k in
    omega (arith, lt, a, b)

-- an ascending list has no number twice
pub ascending_once : (xs : List ℕ) (j k x : ℕ) → Ascends xs → slice_get xs j ≡ Some x → slice_get xs k ≡ Some x → j ≡ k
ascending_once xs j k x ascending at_j at_k = elim (cases_lt j k) [
  | inl less ↦ absurd (let lt = less_at xs j k x x ascending less at_j at_k in omega (arith, lt))
  | inr ge ↦ elim (cases_lt k j) [
    | inl less ↦ absurd (let lt = less_at xs k j x x ascending less at_k at_j in omega (arith, lt))
    | inr le ↦ omega (arith, ge, le)
  ]
]

ascends_after : (x : ℕ) (xs : List ℕ) → Ascends (x ∷ xs) → Ascends xs
ascends_after x xs ascending j k d less within = ascending (suc j) (suc k) d (omega (arith, less)) (omega (arith, within))

-- the number is in the list
abbrev IsAt : List ℕ → ℕ → Type 0
IsAt xs z = (k : ℕ) × (slice_get xs k ≡ Some z)

-- what is in an ascending list isn't less than its first
no_less : (x : ℕ) (xs : List ℕ) (z : ℕ) → Ascends (x ∷ xs) → IsAt (x ∷ xs) z → (z ≡ x) ⊎ ((x < z) × IsAt xs z)
no_less x xs z ascending (zero, at) = inl (sym (some_inj x z at))
no_less x xs z ascending (suc k, at) = inr (less_at (x ∷ xs) 0 (suc k) x z ascending (omega arith) refl at, (k, at))

-- ascending lists of the same numbers are the same
same_members : (xs ys : List ℕ) → Ascends xs → Ascends ys → ((z : ℕ) → IsAt xs z → IsAt ys z) → ((z : ℕ) → IsAt ys z → IsAt xs z) → xs ≡ ys
same_members [] [] up_xs up_ys to back = refl
same_members [] (y ∷ ys) up_xs up_ys to back =
    absurd (let none = back y (0, refl) in let lt = slice_get_within [] none.0 y none.1 in omega (arith, lt))
same_members (x ∷ xs) [] up_xs up_ys to back =
    absurd (let none = to x (0, refl) in let lt = slice_get_within [] none.0 x none.1 in omega (arith, lt))
same_members (x ∷ xs) (y ∷ ys) up_xs up_ys to back =
    ap (λ n. n ∷ xs) first ∙ ap (λ list. y ∷ list)
    (same_members xs ys (ascends_after x xs up_xs) (ascends_after y ys up_ys) to_rest back_rest)
  where
    first : x ≡ y
    first = elim (no_less y ys x up_ys (to x (0, refl))) [
      | inl same ↦ same
      | inr more ↦ elim (no_less x xs y up_xs (back y (0, refl))) [
        | inl same ↦ sym same
        | inr less ↦ absurd (let a = more.0 in let b = less.0 in omega (arith, a, b))
      ]
    ]

    to_rest : (z : ℕ) → IsAt xs z → IsAt ys z
    to_rest z at = elim (no_less y ys z up_ys (to z (suc at.0, at.1))) [
      | inl same ↦ absurd (
          let lt = less_at (x ∷ xs) 0 (suc at.0) x z up_xs (omega arith) refl at.1 in
          let e = first in
          omega (arith, lt, e, same))
      | inr more ↦ more.1
    ]

    back_rest : (z : ℕ) → IsAt ys z → IsAt xs z
    back_rest z at = elim (no_less x xs z up_xs (back z (suc at.0, at.1))) [
      | inl same ↦ absurd (
          let lt = less_at (y ∷ ys) 0 (suc at.0) y z up_ys (omega arith) refl at.1 in
          let e = first in
          omega (arith, lt, e, same))
      | inr more ↦ more.1
    ]

-- a wiring has one list of nets
pub same_nets : (wiring : Wiring) (xs ys : List ℕ) → AreNets wiring xs → AreNets wiring ys → xs ≡ ys
same_nets wiring xs ys are_xs are_ys = same_members xs ys are_xs.ascending are_ys.ascending
    (λ z at. let has = (are_ys.has z).1 ((are_xs.has z).0 (contained_at xs at.0 z at.1)) in (has.0, place_of ys z has))
    (λ z at. let has = (are_xs.has z).1 ((are_ys.has z).0 (contained_at ys at.0 z at.1)) in (has.0, place_of xs z has))

-- what a rule says of a net it says of the link's
pub net_of_chip : (wiring : Wiring) (chip : LinkedChip) (link : IsLinkOf wiring chip) (net wire : ℕ) → IsNetAt wiring net wire → slice_get link.nets net ≡ Some wire
net_of_chip wiring chip link net wire is = subst (λ (list : List ℕ). slice_get list net ≡ Some wire) (same_nets wiring is.nets link.nets is.are link.are) is.at

-- and the other way round
pub net_of_wiring : (wiring : Wiring) (chip : LinkedChip) (link : IsLinkOf wiring chip) (net wire : ℕ) → slice_get link.nets net ≡ Some wire → IsNetAt wiring net wire
net_of_wiring wiring chip link net wire at = record { nets = link.nets; are = link.are; at = at }

-- it is one of the chip's nets
pub net_within : (wiring : Wiring) (chip : LinkedChip) (link : IsLinkOf wiring chip) (net wire : ℕ) → slice_get link.nets net ≡ Some wire → net < net_count chip
net_within wiring chip link net wire at = subst (λ n. net < n) (sym link.count) (slice_get_within link.nets net wire at)

-- each of the chip's nets is one of the wiring
pub wire_of_net : (wiring : Wiring) (chip : LinkedChip) (link : IsLinkOf wiring chip) (net : ℕ) → net < net_count chip → (wire : ℕ) × (slice_get link.nets net ≡ Some wire)
wire_of_net wiring chip link net lt = elim (slice_get_cases link.nets net).1 [
  | inl there ↦ (there.0, there.2)
  | inr past ↦ absurd (let le = past.0 in let count = link.count in omega (arith, lt, le, count))
]

module _ (wiring : Wiring) (nets : List ℕ) where
  -- the wire of a net in a list of such
  pub record HasWire (wires : List ℕ) (k net : ℕ) : Type 0 where
    pub wire : ℕ
    pub at : slice_get wires k ≡ Some wire
    pub is_net : IsNetOf wiring nets wire net

  pub wire_at : (wires list : List ℕ) (k net : ℕ) → AreNetsOf wiring nets wires list → slice_get list k ≡ Some net → HasWire wires k net
  wire_at [] [] k net are at = absurd (let lt = slice_get_within [] k net at in omega (arith, lt))
  wire_at [] (first ∷ list) k net are at = absurd are
  wire_at (wire ∷ wires) [] k net are at = absurd are
  wire_at (wire ∷ wires) (first ∷ list) zero net are at =
      record { wire = wire; at = refl; is_net = subst (IsNetOf wiring nets wire) (some_inj first net at) are.0 }
  wire_at (wire ∷ wires) (first ∷ list) (suc k) net are at =
      let found = wire_at wires list k net are.1 at in
      record { wire = found.wire; at = found.at; is_net = found.is_net }

  -- the net of a wire in a list of such
  pub record HasNet (list : List ℕ) (k wire : ℕ) : Type 0 where
    pub net : ℕ
    pub at : slice_get list k ≡ Some net
    pub is_net : IsNetOf wiring nets wire net

  pub net_at : (wires list : List ℕ) (k wire : ℕ) → AreNetsOf wiring nets wires list → slice_get wires k ≡ Some wire → HasNet list k wire
  net_at [] [] k wire are at = absurd (let lt = slice_get_within [] k wire at in omega (arith, lt))
  net_at [] (first ∷ list) k wire are at = absurd are
  net_at (other ∷ wires) [] k wire are at = absurd are
  net_at (other ∷ wires) (first ∷ list) zero wire are at =
      record { net = first; at = refl; is_net = subst (λ w. IsNetOf wiring nets w first) (some_inj other wire at) are.0 }
  net_at (other ∷ wires) (first ∷ list) (suc k) wire are at =
      let found = net_at wires list k wire are.1 at in
      record { net = found.net; at = found.at; is_net = found.is_net }

  -- the lists are of one length
  pub nets_length : (wires list : List ℕ) → AreNetsOf wiring nets wires list → length list ≡ length wires
  nets_length [] [] are = refl
  nets_length [] (first ∷ list) are = absurd are
  nets_length (wire ∷ wires) [] are = absurd are
  nets_length (wire ∷ wires) (first ∷ list) are = ap suc (nets_length wires list are.1)

  -- two wires on one net are joined
  pub one_net_joined : (a b net : ℕ) → IsNetOf wiring nets a net → IsNetOf wiring nets b net → AreJoined wiring.joins a b
  one_net_joined a b net is_a is_b =
      let same : is_a.earliest ≡ is_b.earliest = some_inj is_a.earliest is_b.earliest (sym is_a.at ∙ is_b.at) in
      joined_trans wiring.joins a is_b.earliest b (subst (AreJoined wiring.joins a) same is_a.is_earliest.joined)
      (joined_sym wiring.joins b is_b.earliest is_b.is_earliest.joined)

  module _ (ascending : Ascends nets) where
    -- and joined wires are on one
    pub joined_one_net : (a b m n : ℕ) → IsNetOf wiring nets a m → IsNetOf wiring nets b n → AreJoined wiring.joins a b → m ≡ n
    joined_one_net a b m n is_a is_b joined =
        let below = is_b.is_earliest.none_before is_a.earliest
        (joined_trans wiring.joins b a is_a.earliest (joined_sym wiring.joins a b joined) is_a.is_earliest.joined) in
        let above = is_a.is_earliest.none_before is_b.earliest
        (joined_trans wiring.joins a b is_b.earliest joined is_b.is_earliest.joined) in
        let same : is_a.earliest ≡ is_b.earliest = omega (arith, below, above) in
        ascending_once nets m n is_b.earliest ascending (is_a.at ∙ ap Some same) is_b.at

    -- a wire is on one net
    pub net_once : (wire m n : ℕ) → IsNetOf wiring nets wire m → IsNetOf wiring nets wire n → m ≡ n
    net_once wire m n is_m is_n = joined_one_net wire wire m n is_m is_n (Same refl)

    -- and a list of wires on one list of nets
    pub nets_once : (wires xs ys : List ℕ) → AreNetsOf wiring nets wires xs → AreNetsOf wiring nets wires ys → xs ≡ ys
    nets_once [] [] [] are_xs are_ys = refl
    nets_once [] [] (y ∷ ys) are_xs are_ys = absurd are_ys
    nets_once [] (x ∷ xs) ys are_xs are_ys = absurd are_xs
    nets_once (wire ∷ wires) [] ys are_xs are_ys = absurd are_xs
    nets_once (wire ∷ wires) (x ∷ xs) [] are_xs are_ys = absurd are_ys
    nets_once (wire ∷ wires) (x ∷ xs) (y ∷ ys) are_xs are_ys =
        ap (λ n. n ∷ xs) (net_once wire x y are_xs.0 are_ys.0) ∙ ap (λ list. y ∷ list) (nets_once wires xs ys are_xs.1 are_ys.1)

  -- a wire on the net is joined with the wire that the net is known by
  pub net_joined : (from net wire : ℕ) → IsNetOf wiring nets from net → slice_get nets net ≡ Some wire → AreJoined wiring.joins from wire
  net_joined from net wire is at = subst (AreJoined wiring.joins from) (some_inj is.earliest wire (sym is.at ∙ at)) is.is_earliest.joined

  -- and a wire that is joined with it is on the net
  pub joined_net : (are : AreNets wiring nets) (from reported net wire : ℕ) → IsNetOf wiring nets from reported → AreJoined wiring.joins from wire → slice_get nets net ≡ Some wire
      → reported ≡ net
  joined_net are from reported net wire is joined at =
      let known : IsNet wiring wire = (are.has wire).0 (contained_at nets net wire at) in
      joined_one_net are.ascending from wire reported net is (record { earliest = wire; is_earliest = known.earliest; at = at }) joined

-- a list as long as another has something where that has
pub also_there : {X Y : Type 0} (xs : List X) (ys : List Y) (k : ℕ) (y : Y) → length ys ≡ length xs → slice_get ys k ≡ Some y → (x : X) × (slice_get xs k ≡ Some x)
also_there xs ys k y same at = elim (slice_get_cases xs k).1 [
  | inl there ↦ (there.0, there.2)
  | inr past ↦ absurd (let lt = slice_get_within ys k y at in let following = past.0 in omega (arith, lt, following, same))
]
