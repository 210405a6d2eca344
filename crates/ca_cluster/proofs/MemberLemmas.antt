-- The marks of a bridge give the members of its cluster.
use Rattle.std.proofs.Common.{◌≡◌, ℕ, zero, suc, ◌+◌, ◌-◌, ◌<◌, ◌≤◌, ◌⊎◌, List, [], ◌∷◌, ◌++◌, length, Bool, true, false}
use Rattle.std.proofs.Common.{inl, inr, sym, ◌∙◌, ap, subst, arith, get_or, Option, Some}
use Rattle.std.specs.Prelude.{slice_get, ◌↔◌, if◌then◌else◌}
use Rattle.std.specs.List.{Contains, filter, range_with_len}
use Rattle.std.proofs.lemmas.Bool.{false≢true}
use Rattle.std.proofs.lemmas.List.{get_or_append_left, length-append}
use Rattle.std.proofs.lemmas.Option.{slice_get-get_or, slice_get_within}
use Rattle.ca_linked.specs.declared.parts.Body.{Body}
use Rattle.ca_linked.specs.declared.parts.Body.TheVariants.{Gate, Scan}
use Rattle.ca_linked.specs.Linked.{LinkedChip, IsWired, IsGate, IsLibrary, Feeds, gate_inputs}
use Rattle.ca_linked.specs.Instances.{pin_nets}
use Rattle.ca_linked.specs.Paths.{mark_at}
use Rattle.ca_linked.proofs.OrderLemmas.{place_of}
use Rattle.ca_flat.specs.Chip.{inputs_at, count_of}
use Rattle.ca_flat.specs.Chip as flat
use Rattle.ca_view.specs.Core.{core_of}
use Rattle.ca_view.proofs.CoreFacts.{core_count, inputs_are}
use Rattle.ca_view.proofs.PartFacts.{gate_at, some_at}
use Rattle.ca_merged.specs.Merged.{FeedsInstance, IsInstanceChain}
use Rattle.ca_merged.specs.Members.{DrivesEnd, IsAtBridge, IsAfterBridge, IsBeforeBridge, AreBridgeMarks}
use Rattle.ca_merged.proofs.Lists.{cons_cases, none_in_nil}
use Rattle.ca_merged.proofs.MarkedCluster.{marks_give_cluster_lem}
use Rattle.ca_merge.specs.Draft.{AreGates}
use Rattle.ca_merge.proofs.PinLemmas.{passing_more}
use Rattle.ca_cluster.specs.declared.bridge.Bridge.{Bridge}
use Rattle.ca_cluster.specs.declared.members.BridgeMarks.{BridgeMarks}
use Rattle.ca_cluster.specs.Bridges.{IsKnown}
use Rattle.ca_cluster.specs.Clusters.{AreMembersOf}
use Rattle.ca_cluster.specs.code.Ends.{MakesMember}
use Rattle.ca_cluster.specs.code.Marks.{Spreads}
use Rattle.ca_cluster.specs.code.Members.{is_marked, HasRoom, AreSeeds, AreMarksOf}
use Rattle.ca_cluster.proofs.FeedLemmas.{output_is_gate, output_library, feeds_from, feeds_to}
use Rattle.ca_cluster.proofs.EndLemmas.{end_driven}

-- what an end makes a member is an instance
pub member_known : (chip : LinkedChip) (u n x : ℕ) → u < length chip.parts → MakesMember (core_of chip) u n x → x < length chip.parts
member_known chip u n x lt (inl d) =
    let c = core_count chip in
    subst (λ y. y < length chip.parts) d.1.1 (let k = d.1.0.known in omega arith)
member_known chip u n x lt (inr e) = subst (λ y. y < length chip.parts) (sym e.1) lt

-- the marks of both ends
pub seeds_are : (chip : LinkedChip) (bridge : Bridge) (o p : Option ℕ) (none first both : List Bool) → ((x : ℕ) → mark_at none x ≡ false)
    → ((x : ℕ) → (o ≡ Some x) ↔ MakesMember (core_of chip) bridge.instance.0 bridge.m.0 x)
    → ((x : ℕ) → (p ≡ Some x) ↔ MakesMember (core_of chip) bridge.instance.0 bridge.n.0 x)
    → Spreads (λ x. o ≡ Some x) none first → Spreads (λ x. p ≡ Some x) first both → AreSeeds chip bridge both
seeds_are chip bridge o p none first both unmarked low high one two x = (
  λ h. elim ((two.each x).0 h) [
    | inl f ↦ elim ((one.each x).0 f) [
      | inl n ↦ absurd (false≢true (sym (unmarked x) ∙ n))
      | inr e ↦ elim ((low x).0 e) [ inl d ↦ inl (inl d) | inr a ↦ inr (inl a) ]
    ]
    | inr e ↦ elim ((high x).0 e) [ inl d ↦ inl (inr d) | inr a ↦ inr (inr a) ]
  ],
  λ at. elim at [
    | inl d ↦ elim d [
      | inl m ↦ (two.each x).1 (inl ((one.each x).1 (inr ((low x).1 (inl m)))))
      | inr n ↦ (two.each x).1 (inr ((high x).1 (inl n)))
    ]
    | inr e ↦ elim e [
      | inl m ↦ (two.each x).1 (inl ((one.each x).1 (inr ((low x).1 (inr m)))))
      | inr n ↦ (two.each x).1 (inr ((high x).1 (inr n)))
    ]
  ],
)

input_is_gate : (body : Body) (net : ℕ) → Contains (gate_inputs body) net → IsGate body
input_is_gate (Gate cell inputs outputs) net h = tt
input_is_gate (Scan nets) net h = absurd (let lt = h.1 in omega arith)

-- what feeds and what is fed is of the library
pub feeder_library : (chip : LinkedChip) (w x : ℕ) → Feeds chip w x → IsLibrary chip w
feeder_library chip w x f = some_at (λ part. IsGate part.body) chip.parts w f.driver f.is_driver (output_is_gate f.driver.body f.net f.driven)

pub fed_library : (chip : LinkedChip) (w x : ℕ) → Feeds chip w x → IsLibrary chip x
fed_library chip w x f = some_at (λ part. IsGate part.body) chip.parts x f.reader f.is_reader (input_is_gate f.reader.body f.net f.read)

chain_push : (chip : flat.Chip) (a : ℕ) (path : List ℕ) (w x : ℕ) → IsInstanceChain chip a path w → FeedsInstance chip w x → IsInstanceChain chip a (path ++ w ∷ []) x
chain_push chip a [] w x h f = (h, f)
chain_push chip a (y ∷ path) w x h f = (h.0, chain_push chip y path w x h.1 f)

-- what is on a chain is fed
fed_on : (chip : flat.Chip) (a : ℕ) (path : List ℕ) (b x : ℕ) → IsInstanceChain chip a path b → Contains path x → (w : ℕ) × FeedsInstance chip w x
fed_on chip a [] b x h c = absurd (none_in_nil x c)
fed_on chip a (y ∷ more) b x h c = elim (cons_cases y more x c) [
  | inl e ↦ (a, subst (FeedsInstance chip a) e h.0)
  | inr later ↦ fed_on chip y more b x h.1 later
]

module _ (chip : LinkedChip) (is : IsWired chip) (bridge : Bridge) (known : IsKnown chip bridge) (marks : BridgeMarks) (of : AreMarksOf chip bridge marks) where
  abbrev core : flat.Chip
  core = core_of chip

  abbrev u : ℕ
  u = bridge.instance.0

  abbrev m : ℕ
  m = bridge.m.0

  abbrev n : ℕ
  n = bridge.n.0

  -- what is marked as after the bridge has a chain to it
  after_to : (k x j : ℕ) → j < k → slice_get chip.order j ≡ Some x → mark_at marks.after x ≡ true → IsAfterBridge core u m n x
  after_to zero x j lt at h = absurd (omega arith)
  after_to (suc k) x j lt at h =
      let l = (of.after.each x).0 h in
      let f = feeds_to chip is l.from x l.leads in
      elim l.marked [
        | inl seed ↦ record { from = l.from; from_is = (of.seeds l.from).0 seed; path = []; chain = f }
        | inr marked ↦
            let b = is.ordered.after j x l.from at l.leads in
            let less = b.1 in
            let a = after_to k l.from b.0 (omega arith) b.2 marked in
            record { from = a.from; from_is = a.from_is; path = a.path ++ l.from ∷ []; chain = chain_push core a.from a.path l.from x a.chain f }
      ]

  after_is : (x : ℕ) → mark_at marks.after x ≡ true → IsAfterBridge core u m n x
  after_is x h =
      let l = (of.after.each x).0 h in
      let has = (is.ordered.has x).1 (fed_library chip l.from x l.leads) in
      after_to (has.0 + 1) x has.0 (omega arith) (place_of chip.order x has) h

  after_along : (a : ℕ) (path : List ℕ) (x : ℕ) → (mark_at marks.at a ≡ true) ⊎ (mark_at marks.after a ≡ true) → IsInstanceChain core a path x → mark_at marks.after x ≡ true
  after_along a [] x hot h =
      let f = feeds_from chip is a x h in
      (of.after.each x).1 (record { from = a; seen = feeder_library chip a x f; leads = f; marked = hot })
  after_along a (y ∷ more) x hot h =
      let f = feeds_from chip is a y h.0 in
      after_along y more x (inr ((of.after.each y).1 (record { from = a; seen = feeder_library chip a y f; leads = f; marked = hot }))) h.1

  -- and what is marked as before it has a chain from it
  before_to : (k x j : ℕ) → length chip.order ≤ j + k → slice_get chip.order j ≡ Some x → mark_at marks.before x ≡ true → IsBeforeBridge core u m n x
  before_to zero x j past at h = absurd (let lt = slice_get_within chip.order j x at in omega arith)
  before_to (suc k) x j past at h =
      let l = (of.before.each x).0 h in
      let f = feeds_to chip is x l.from l.leads in
      elim l.marked [
        | inl seed ↦ record { to = l.from; to_is = (of.seeds l.from).0 seed; path = []; chain = f }
        | inr marked ↦
            let has = (is.ordered.has l.from).1 l.seen in
            let there = place_of chip.order l.from has in
            let b = is.ordered.after has.0 l.from x there l.leads in
            let less = b.1 in
            let e = is.ordered.once b.0 j x b.2 at in
            let a = before_to k l.from has.0 (omega arith) there marked in
            record { to = a.to; to_is = a.to_is; path = l.from ∷ a.path; chain = (f, a.chain) }
      ]

  before_is : (x : ℕ) → mark_at marks.before x ≡ true → IsBeforeBridge core u m n x
  before_is x h =
      let l = (of.before.each x).0 h in
      let has = (is.ordered.has x).1 (feeder_library chip x l.from l.leads) in
      before_to (length chip.order) x has.0 (omega arith) (place_of chip.order x has) h

  before_along : (x : ℕ) (path : List ℕ) (b : ℕ) → mark_at marks.at b ≡ true → IsInstanceChain core x path b → mark_at marks.before x ≡ true
  before_along x [] b seed h =
      let f = feeds_from chip is x b h in
      (of.before.each x).1 (record { from = b; seen = fed_library chip x b f; leads = f; marked = inl seed })
  before_along x (y ∷ more) b seed h =
      let f = feeds_from chip is x y h.0 in
      (of.before.each x).1 (record { from = y; seen = fed_library chip x y f; leads = f; marked = inr (before_along y more b seed h.1) })

  are_marks : AreBridgeMarks core u m n (mark_at marks.at) (mark_at marks.after) (mark_at marks.before)
  are_marks = record {
    at_are = of.seeds;
    after_are = λ x. (after_is x, λ a. after_along a.from a.path x (inl ((of.seeds a.from).1 a.from_is)) a.chain);
    before_are = λ x. (before_is x, λ b. before_along x b.path b.to ((of.seeds b.to).1 b.to_is) b.chain);
  }

  pub members_are : (list : List ℕ) → list ≡ filter (is_marked marks) (range_with_len 0 (length chip.parts)) → AreMembersOf chip bridge list
  members_are list same =
      let c = core_count chip in
      subst (AreMembersOf chip bridge) (ap (λ k. filter (is_marked marks) (range_with_len 0 k)) c ∙ sym same)
      (marks_give_cluster_lem core u m n (mark_at marks.at) (mark_at marks.after) (mark_at marks.before) known.is_bridge.known are_marks)

  pub marks_fit : (x : ℕ) → x < length chip.parts → HasRoom marks x
  marks_fit x lt =
      let a = of.room in let b = of.after.room in let c = of.before.room in
      (omega arith, omega arith, omega arith)

-- the members of the cluster are of the library
module _ (chip : LinkedChip) (is : IsWired chip) (bridge : Bridge) (known : IsKnown chip bridge) where
  driver_library : (n x : ℕ) → DrivesEnd (core_of chip) bridge.instance.0 n x → IsLibrary chip x
  driver_library n x d =
      let u = bridge.instance.0 in
      let g = gate_at chip bridge.instance.0 known.library in
      let count = inputs_are chip is bridge.instance.0 g.part g.at ∙ ap (λ (b : Body). length (gate_inputs b)) g.body in
      let low = d.0.0 in let high = d.0.1 in
      let lt : n - 2 < length g.inputs = omega arith in
      let on : slice_get (g.inputs ++ g.outputs) (n - 2) ≡ Some (get_or g.inputs (n - 2) 0) =
      slice_get-get_or (g.inputs ++ g.outputs) (n - 2) 0 (let l = length-append g.inputs g.outputs in omega arith)
      ∙ ap Some (get_or_append_left g.inputs g.outputs 0 (n - 2) lt) in
      output_library chip (get_or g.inputs (n - 2) 0) x
      (end_driven chip is bridge.instance.0 known.library n (get_or g.inputs (n - 2) 0) d.0
      (some_at (λ part. slice_get (pin_nets part.body) (n - 2) ≡ Some (get_or g.inputs (n - 2) 0)) chip.parts bridge.instance.0 g.part g.at
      (subst (λ (b : Body). slice_get (pin_nets b) (n - 2) ≡ Some (get_or g.inputs (n - 2) 0)) (sym g.body) on)) x d)

  at_library : (x : ℕ) → IsAtBridge (core_of chip) bridge.instance.0 bridge.m.0 bridge.n.0 x → IsLibrary chip x
  at_library x (inl (inl d)) = driver_library bridge.m.0 x d
  at_library x (inl (inr d)) = driver_library bridge.n.0 x d
  at_library x (inr (inl e)) = subst (IsLibrary chip) (sym e.1) known.library
  at_library x (inr (inr e)) = subst (IsLibrary chip) (sym e.1) known.library

  pub members_library : (members : List ℕ) → AreMembersOf chip bridge members → AreGates chip members
  members_library members are x c = elim (are.least x c) [
    | inl at ↦ at_library x at
    | inr b ↦
        let f = fed_on (core_of chip) b.from b.path b.to x b.chain b.on in
        fed_library chip f.0 x (feeds_from chip is f.0 x f.1)
  ]

-- the list with the next instance
pub listed_more : (test : ℕ → Bool) (k : ℕ) (passed : Bool) (list new : List ℕ) → passed ≡ test k → list ≡ filter test (range_with_len 0 k)
    → new ≡ list ++ (if passed then k ∷ [] else []) → new ≡ filter test (range_with_len 0 (k + 1))
listed_more test k passed list new same was grown =
    grown ∙ ap (λ b. list ++ (if b then k ∷ [] else [])) same ∙ ap (λ xs. xs ++ (if test k then k ∷ [] else [])) was ∙ sym (passing_more test k)
