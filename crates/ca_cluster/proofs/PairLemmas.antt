-- The bridges of an instance, row by row.
use Rattle.std.proofs.Common.{◌≡◌, ℕ, ◌+◌, ◌<◌, ◌≤◌, ◌⊎◌, List, [], ◌∷◌, ◌++◌, length, inl, inr}
use Rattle.std.proofs.Common.{sym, ◌∙◌, subst, arith, get_or}
use Rattle.std.specs.List.{Contains}
use Rattle.std.proofs.lemmas.Bool.{cases_lt}
use Rattle.std.proofs.lemmas.List.Elements.{Contains-append_left, Contains-push, Contains-push_cases, Contains-get_or}
use Rattle.std.proofs.lemmas.List.Quantifiers.{all_pairs_push}
use Rattle.ca_cluster.specs.declared.bridge.Bridge.{Bridge}
use Rattle.ca_linked.specs.Linked.{LinkedChip, IsLibrary}
use Rattle.ca_flat.specs.Chip.{circuit_at, inputs_at, count_of}
use Rattle.ca_view.specs.Core.{core_of}
use Rattle.ca_merged.specs.Bridge.{IsBridge}
use Rattle.ca_cluster.specs.Bridges.{IsBefore, IsKnown, AreBridgesOf}
use Rattle.ca_cluster.specs.code.Pairs.{IsPin, IsPairOf, IsUpTo, AreFirst}

-- no bridge is before the first pair
pub first_none : (u inputs nodes : ℕ) (list : List Bridge) → list ≡ [] → AreFirst u inputs nodes 0 0 list
first_none u inputs nodes list none = subst (AreFirst u inputs nodes 0 0) (sym none) (record {
  each = λ bridge is before. elim before [ inl low ↦ absurd (omega arith) | inr here ↦ absurd (let lt = here.1 in omega arith) ];
  only = λ bridge c. absurd (let lt = c.1 in omega arith);
  ascending = λ i j d lt within. absurd (omega arith);
})

same_bridge : (one other : Bridge) → one.instance.0 ≡ other.instance.0 → one.m.0 ≡ other.m.0 → one.n.0 ≡ other.n.0 → one ≡ other
same_bridge one other a b c =
    let x : Bridge = record { instance = record { 0 = one.instance.0 }; m = record { 0 = one.m.0 }; n = record { 0 = one.n.0 } } in
    let y : Bridge = record { instance = record { 0 = other.instance.0 }; m = record { 0 = other.m.0 }; n = record { 0 = other.n.0 } } in
    let e : x ≡ y = cc in
    e

module _ (u inputs nodes m n : ℕ) (list : List Bridge) (first : AreFirst u inputs nodes m n list) where
  -- the pair is a bridge, which is the next
  pub first_pushed : (bridge : Bridge) (new : List Bridge) → IsPairOf u inputs nodes bridge → bridge.m.0 ≡ m → bridge.n.0 ≡ n
      → new ≡ list ++ bridge ∷ [] → AreFirst u inputs nodes m (n + 1) new
  first_pushed bridge new is low high same = subst (AreFirst u inputs nodes m (n + 1)) (sym same) (record {
    each = λ other pair before. elim (cases_lt other.m.0 m) [
      | inl less ↦ Contains-append_left list (bridge ∷ []) other (first.each other pair (inl less))
      | inr ge ↦ elim (cases_lt other.n.0 n) [
        | inl less ↦ Contains-append_left list (bridge ∷ []) other (first.each other pair (inr (here other before ge, less)))
        | inr more ↦
            let e : bridge ≡ other = same_bridge bridge other (is.of ∙ sym pair.of) (low ∙ sym (here other before ge))
            (let h = here other before ge in let l = last other before ge in omega arith) in
            subst (Contains (list ++ bridge ∷ [])) e (Contains-push list bridge)
      ]
    ];
    only = λ other c. elim (Contains-push_cases list bridge other c) [
      | inl old ↦
          let o = first.only other old in
          (o.0, elim o.1 [ inl less ↦ inl less | inr h ↦ inr (h.0, let lt = h.1 in omega arith) ])
      | inr e ↦ (subst (IsPairOf u inputs nodes) e is, subst (IsUpTo m (n + 1)) e (inr (low, omega arith)))
    ];
    ascending = all_pairs_push IsBefore list bridge first.ascending (λ k d lt.
        let o = (first.only (get_or list k d) (Contains-get_or list k d lt)).1 in
        elim o [ inl less ↦ inl (omega arith) | inr h ↦ inr (h.0 ∙ sym low, let lt = h.1 in omega arith) ]);
  })
    where
      here : (other : Bridge) → IsUpTo m (n + 1) other → m ≤ other.m.0 → other.m.0 ≡ m
      here other (inl less) ge = absurd (omega arith)
      here other (inr h) ge = h.0

      last : (other : Bridge) → IsUpTo m (n + 1) other → m ≤ other.m.0 → other.n.0 < n + 1
      last other (inl less) ge = absurd (omega arith)
      last other (inr h) ge = h.1

  -- the pair is no bridge
  pub first_kept : (new : List Bridge) → ((bridge : Bridge) → IsPairOf u inputs nodes bridge → bridge.m.0 ≡ m → bridge.n.0 ≡ n → ⊥)
      → new ≡ list → AreFirst u inputs nodes m (n + 1) new
  first_kept new none same = subst (AreFirst u inputs nodes m (n + 1)) (sym same) (record {
    each = λ other pair before. elim before [
      | inl less ↦ first.each other pair (inl less)
      | inr h ↦ elim (cases_lt other.n.0 n) [
        | inl less ↦ first.each other pair (inr (h.0, less))
        | inr more ↦ absurd (none other pair h.0 (let lt = h.1 in omega arith))
      ]
    ];
    only = λ other c.
        let o = first.only other c in
        (o.0, elim o.1 [ inl less ↦ inl less | inr h ↦ inr (h.0, let lt = h.1 in omega arith) ]);
    ascending = first.ascending;
  })

-- after a row the next begins
pub first_row : (u inputs nodes m n : ℕ) (list : List Bridge) → nodes ≤ n → AreFirst u inputs nodes m n list → AreFirst u inputs nodes (m + 1) 0 list
first_row u inputs nodes m n list past first = record {
  each = λ bridge pair before. elim before [
    | inl less ↦ elim (cases_lt bridge.m.0 m) [
      | inl low ↦ first.each bridge pair (inl low)
      | inr ge ↦ first.each bridge pair (inr (omega arith, let w = pair.within in omega arith))
    ]
    | inr h ↦ absurd (let lt = h.1 in omega arith)
  ];
  only = λ bridge c.
      let o = first.only bridge c in
      (o.0, elim o.1 [ inl less ↦ inl (omega arith) | inr h ↦ inl (let e = h.0 in omega arith) ]);
  ascending = first.ascending;
}

-- a bridge of these nodes has them in their order, and one is an input pin
pub pair_is : (u inputs nodes m n : ℕ) (bridge : Bridge) → IsPairOf u inputs nodes bridge → bridge.m.0 ≡ m → bridge.n.0 ≡ n
    → (m < n) × (IsPin inputs m ⊎ IsPin inputs n)
pair_is u inputs nodes m n bridge pair low high = (
  let o = pair.ordered in omega arith,
  elim pair.pin [
    | inl p ↦ inl (subst (IsPin inputs) low p)
    | inr p ↦ inr (subst (IsPin inputs) high p)
  ],
)

-- all rows give the bridges of the instance
pub all_bridges : (chip : LinkedChip) (u inputs nodes : ℕ) (list : List Bridge) → IsLibrary chip u → u < count_of (core_of chip) → inputs ≡ inputs_at (core_of chip) u
    → nodes ≡ length (circuit_at (core_of chip) u).nodes → AreFirst u inputs nodes nodes 0 list → AreBridgesOf chip u list
all_bridges chip u inputs nodes list library known ins count first = record {
  listed = λ bridge. (
    λ c. let o = (first.only bridge c).0 in (known_pair bridge o, o.of),
    λ k.
        let p = pair_of bridge k.0 k.1 in
        first.each bridge p (inl (let o = p.ordered in let w = p.within in omega arith)),
  );
  ascending = first.ascending;
}
  where
    known_pair : (bridge : Bridge) → IsPairOf u inputs nodes bridge → IsKnown chip bridge
    known_pair bridge pair = record {
      library = subst (IsLibrary chip) (sym pair.of) library;
      is_bridge = subst (λ w. IsBridge (core_of chip) w bridge.m.0 bridge.n.0) (sym pair.of) (record {
        known = known;
        within = (let w = pair.within in omega arith);
        ordered = pair.ordered;
        pin = elim pair.pin [
          | inl p ↦ inl (p.0, let b = p.1 in omega arith)
          | inr p ↦ inr (p.0, let b = p.1 in omega arith)
        ];
      });
    }

    pair_of : (bridge : Bridge) → IsKnown chip bridge → bridge.instance.0 ≡ u → IsPairOf u inputs nodes bridge
    pair_of bridge k e =
        let b = subst (λ w. IsBridge (core_of chip) w bridge.m.0 bridge.n.0) e k.is_bridge in
        record {
          of = e;
          within = (let w = b.within in omega arith);
          ordered = b.ordered;
          pin = elim b.pin [
            | inl p ↦ inl (p.0, let h = p.1 in omega arith)
            | inr p ↦ inr (p.0, let h = p.1 in omega arith)
          ];
        }
