-- Sweeps over the instances of a chip in their order.
use Rattle.std.proofs.Common.{◌≡◌, ℕ, ◌+◌, ◌<◌, ◌≤◌, inl, inr, List, [], ◌∷◌, length, Bool, true}
use Rattle.std.proofs.Common.{false, refl, sym, ◌∙◌, ap, subst, arith, Some, None, Option}
use native.Mathlib.Decide.{ℕ_discrete}
use Rattle.std.specs.Prelude.{slice_get}
use Rattle.std.specs.List.{All}
use Rattle.ca_flat.specs.Chip.{Chip, inputs_at, outputs_at, net_of, count_of}
use Rattle.ca_flat.specs.Chain.{IsChain, IsOutputOf}
use Rattle.ca_flat.specs.RuleOut.{IsOpenChain}
use Rattle.ca_view.specs.Linked.{IsPlaced, IsLinked}
use Rattle.ca_examiner.specs.code.Marks.{IsMarked, IsOnPins, MarksPins, Passes}
use Rattle.ca_examiner.specs.code.Order.{IsOrder}
use Rattle.ca_examiner.specs.code.Sweep.{HasOpenChain, IsSweptTo, AreReached, LeadsToRoot, IsSweptFrom}
use Rattle.ca_examiner.specs.code.Sweep.{AreLeading}
use Rattle.ca_examiner.proofs.MarkLemmas.{unmarked, all_marked}

none_plus : (pin : ℕ) → 0 + pin ≡ pin
none_plus pin = omega arith

module _ (chip : Chip) (place_of number_of : ℕ → ℕ) (linked : IsLinked chip place_of number_of) where
  -- the net of an output pin
  pub output_of : (u net : ℕ) → IsOnPins chip u (inputs_at chip u) (outputs_at chip u) net → IsOutputOf chip u net
  output_of u net on = record { output = on.pin; within = on.within; on = on.on }

  of_output : (u net : ℕ) → IsOutputOf chip u net → IsOnPins chip u (inputs_at chip u) (outputs_at chip u) net
  of_output u net out = record { pin = out.output; within = out.within; on = out.on }

  -- who drives an input pin stands before
  pub earlier : (u w pin : ℕ) → u < count_of chip → w < count_of chip → pin < inputs_at chip w
      → IsOutputOf chip u (net_of chip w pin) → place_of u < place_of w
  earlier u w pin known_u known_w within out = linked.is_chip.ranked w pin known_w within
      (record { instance = u; output = out.output; known = known_u; within = out.within; on = out.on })

  -- an instance with an input pin has a place
  pub feeding_placed : (w pin : ℕ) → w < count_of chip → pin < inputs_at chip w → IsPlaced chip place_of w
  feeding_placed w pin known within = record {
    known = known;
    placed = elim (ℕ_discrete (place_of w) 0) [
      | yes none ↦ let bare = (linked.bare w known none).no_pin in absurd (omega arith)
      | no some ↦ let other : place_of w ≡ 0 → ⊥ = some in omega arith
    ];
  }

  module _ (open_nets : List Bool) (u : ℕ) (placed : IsPlaced chip place_of u) where
    -- the output nets of the instance are marked, and nothing else
    pub swept_begin : (old new : List Bool) → All (λ mark. mark ≡ false) old → length old ≡ length chip.nets
        → MarksPins chip open_nets u (inputs_at chip u) (outputs_at chip u) old new
        → IsSweptTo chip place_of open_nets u new (place_of u)
    swept_begin old new none size marks = record {
      size = marks.size ∙ size;
      begin = λ net out opened. (marks.each net).1 (inr (of_output u net out, opened));
      onward = λ w pin net placed_w before within marked out opened.
          elim ((marks.each (net_of chip w pin)).0 marked) [
            | inl was ↦ absurd (unmarked old none (net_of chip w pin) was)
            | inr here ↦
                let first = earlier u w pin placed.known placed_w.known within (output_of u (net_of chip w pin) here.0) in
                absurd (omega arith)
          ];
      chains = λ net marked. elim ((marks.each net).0 marked) [
        | inl was ↦ absurd (unmarked old none net was)
        | inr here ↦ record { before = []; chain = (here.1, output_of u net here.0) }
      ];
    }

    module _ (old new : List Bool) (w : ℕ) (placed_w : IsPlaced chip place_of w)
        (swept : IsSweptTo chip place_of open_nets u old (place_of w))
        (passes : Passes chip open_nets w 0 (inputs_at chip w) (inputs_at chip w) (outputs_at chip w) old new) where
      -- the instance at the place hands its marks on
      handed : (pin net : ℕ) → pin < inputs_at chip w → IsMarked old (net_of chip w pin) → IsOutputOf chip w net
          → IsMarked open_nets net → IsMarked new net
      handed pin net within was out opened = passes.passed (record {
        pin = pin;
        within = within;
        marked = subst (λ k. IsMarked old (net_of chip w k)) (sym (none_plus pin)) was;
      }) net (of_output w net out) opened

      handed_on : (v pin net : ℕ) → IsPlaced chip place_of v → place_of v < place_of w + 1 → pin < inputs_at chip v
          → IsMarked new (net_of chip v pin) → IsOutputOf chip v net → IsMarked open_nets net → IsMarked new net
      handed_on v pin net placed_v before within marked out opened =
          elim (passes.only (net_of chip v pin) marked) [
            | inl was ↦ elim (ℕ_discrete (place_of v) (place_of w)) [
              | yes at ↦
                  let same = linked.apart v w placed_v placed_w at in
                  handed pin net (subst (λ k. pin < inputs_at chip k) same within)
                  (subst (λ k. IsMarked old (net_of chip k pin)) same was)
                  (subst (λ k. IsOutputOf chip k net) same out) opened
              | no other ↦
                  let apart : place_of v ≡ place_of w → ⊥ = other in
                  passes.kept net (swept.onward v pin net placed_v (omega arith) within was out opened)
            ]
            | inr here ↦
                let first = earlier w v pin placed_w.known placed_v.known within
                (output_of w (net_of chip v pin) here.1) in
                absurd (omega arith)
          ]

      chained : (net : ℕ) → IsMarked new net → HasOpenChain chip open_nets u net
      chained net marked = elim (passes.only net marked) [
        | inl was ↦ swept.chains net was
        | inr here ↦
            let some = here.0 in
            let out = output_of w net here.1 in
            let earlier_chain = swept.chains (net_of chip w (0 + some.pin)) some.marked in
            record {
              before = net_of chip w (0 + some.pin) ∷ earlier_chain.before;
              chain = (
                here.2,
                record {
                  instance = w;
                  known = placed_w.known;
                  pin = some.pin;
                  pin_within = some.within;
                  reads = ap (net_of chip w) (sym (none_plus some.pin));
                  output = out.output;
                  output_within = out.within;
                  drives = out.on;
                },
                earlier_chain.chain,
              );
            }
      ]

      swept_on : IsSweptTo chip place_of open_nets u new (place_of w + 1)
      swept_on = record {
        size = passes.size ∙ swept.size;
        begin = λ net out opened. passes.kept net (swept.begin net out opened);
        onward = handed_on;
        chains = chained;
      }

    -- the next instance
    pub swept_more : (old new : List Bool) (order : List (Option ℕ)) (place w : ℕ) → IsOrder chip place_of order
        → slice_get order place ≡ Some (Some w) → IsSweptTo chip place_of open_nets u old place
        → Passes chip open_nets w 0 (inputs_at chip w) (inputs_at chip w) (outputs_at chip w) old new
        → IsSweptTo chip place_of open_nets u new (place + 1)
    swept_more old new order place w is here swept passes =
        let at = is.only place w here in
        subst (λ p. IsSweptTo chip place_of open_nets u new (p + 1)) at.1
        (swept_on old new w at.0 (subst (IsSweptTo chip place_of open_nets u old) (sym at.1) swept) passes)

    -- no instance has the place
    pub swept_skip : (marks : List Bool) (order : List (Option ℕ)) (place : ℕ) → IsOrder chip place_of order
        → slice_get order place ≡ Some None → IsSweptTo chip place_of open_nets u marks place
        → IsSweptTo chip place_of open_nets u marks (place + 1)
    swept_skip marks order place is none swept = record {
      size = swept.size;
      begin = swept.begin;
      onward = λ w pin net placed_w before within marked out opened. elim (ℕ_discrete (place_of w) place) [
        | yes at ↦
            let there = is.each w placed_w.known placed_w in
            let clash = sym none ∙ (ap (slice_get order) (sym at) ∙ there) in
            absurd (not_some w clash)
        | no other ↦
            let apart : place_of w ≡ place → ⊥ = other in
            swept.onward w pin net placed_w (omega arith) within marked out opened
      ];
      chains = swept.chains;
    }
      where
        not_some : (w : ℕ) → Some None ≡ Some (Some w) → ⊥
        not_some w e = cc

    module _ (marks : List Bool) (place : ℕ) (past : count_of chip < place)
        (swept : IsSweptTo chip place_of open_nets u marks place) where
      chain_marked : (before : List ℕ) (net : ℕ) → IsOpenChain (IsMarked open_nets) chip u (net ∷ before)
          → IsMarked marks net
      chain_marked [] net chain = swept.begin net chain.1 chain.0
      chain_marked (last ∷ before) net chain =
          let feeds = chain.1 in
          let at = chain_marked before last chain.2 in
          let placed_w = feeding_placed feeds.instance feeds.pin feeds.known feeds.pin_within in
          let most = linked.within feeds.instance feeds.known in
          swept.onward feeds.instance feeds.pin net placed_w (omega arith) feeds.pin_within
          (subst (IsMarked marks) (sym feeds.reads) at)
          (record { output = feeds.output; within = feeds.output_within; on = feeds.drives }) chain.0

      pub swept_all : AreReached chip open_nets u marks
      swept_all = record {
        size = swept.size;
        each = λ net before chain. chain_marked before net chain;
        chains = swept.chains;
      }

  module _ (all_nets roots : List Bool) (all : All (λ mark. mark ≡ true) all_nets)
      (all_count : length all_nets ≡ length chip.nets) where
    pub back_begin : (order : List (Option ℕ)) → IsOrder chip place_of order → length roots ≡ length chip.nets
        → IsSweptFrom chip place_of roots roots (length order)
    back_begin order is size = record {
      size = size;
      begin = λ net root. root;
      back = λ w pin net placed_w after within out marked.
          let most = linked.within w placed_w.known in let long = is.size in absurd (omega arith);
      leads = λ net marked. record { root = net; marked = marked; leads = record { path = []; is_chain = refl } };
    }

    module _ (old new : List Bool) (w : ℕ) (placed_w : IsPlaced chip place_of w)
        (swept : IsSweptFrom chip place_of roots old (place_of w + 1))
        (passes : Passes chip all_nets w (inputs_at chip w) (outputs_at chip w) 0 (inputs_at chip w) old new) where
      input_marked : (pin : ℕ) → pin < inputs_at chip w → IsMarked all_nets (net_of chip w pin)
      input_marked pin within = all_marked all_nets all (net_of chip w pin)
          (subst (λ n. net_of chip w pin < n) (sym all_count)
          (linked.is_chip.on_nets w pin placed_w.known (omega arith)))

      handed_back : (pin net : ℕ) → pin < inputs_at chip w → IsOutputOf chip w net → IsMarked old net
          → IsMarked new (net_of chip w pin)
      handed_back pin net within out was = passes.passed (record {
        pin = out.output;
        within = out.within;
        marked = subst (IsMarked old) (sym out.on) was;
      }) (net_of chip w pin) (record { pin = pin; within = within; on = ap (net_of chip w) (none_plus pin) })
          (input_marked pin within)

      back_on : (v pin net : ℕ) → IsPlaced chip place_of v → place_of w ≤ place_of v → pin < inputs_at chip v
          → IsOutputOf chip v net → IsMarked new net → IsMarked new (net_of chip v pin)
      back_on v pin net placed_v after within out marked = elim (passes.only net marked) [
        | inl was ↦ elim (ℕ_discrete (place_of v) (place_of w)) [
          | yes at ↦
              let same = linked.apart v w placed_v placed_w at in
              subst (λ k. IsMarked new (net_of chip k pin)) (sym same)
              (handed_back pin net (subst (λ k. pin < inputs_at chip k) same within)
              (subst (λ k. IsOutputOf chip k net) same out) was)
          | no other ↦
              let apart : place_of v ≡ place_of w → ⊥ = other in
              passes.kept (net_of chip v pin) (swept.back v pin net placed_v (omega arith) within out was)
        ]
        | inr here ↦
            let on = here.1 in
            let first = earlier v w on.pin placed_v.known placed_w.known on.within
            (subst (IsOutputOf chip v) (sym on.on ∙ ap (net_of chip w) (none_plus on.pin)) out) in
            absurd (omega arith)
      ]

      led : (net : ℕ) → IsMarked new net → LeadsToRoot chip roots net
      led net marked = elim (passes.only net marked) [
        | inl was ↦ swept.leads net was
        | inr here ↦
            let some = here.0 in
            let on = here.1 in
            let later = swept.leads (net_of chip w (inputs_at chip w + some.pin)) some.marked in
            record {
              root = later.root;
              marked = later.marked;
              leads = record {
                path = net_of chip w (inputs_at chip w + some.pin) ∷ later.leads.path;
                is_chain = (
                  record {
                    instance = w;
                    known = placed_w.known;
                    pin = on.pin;
                    pin_within = on.within;
                    reads = ap (net_of chip w) (sym (none_plus on.pin)) ∙ on.on;
                    output = some.pin;
                    output_within = some.within;
                    drives = refl;
                  },
                  later.leads.is_chain,
                );
              };
            }
      ]

      swept_back : IsSweptFrom chip place_of roots new (place_of w)
      swept_back = record {
        size = passes.size ∙ swept.size;
        begin = λ net root. passes.kept net (swept.begin net root);
        back = back_on;
        leads = led;
      }

    pub back_more : (old new : List Bool) (order : List (Option ℕ)) (place w : ℕ) → IsOrder chip place_of order
        → slice_get order place ≡ Some (Some w) → IsSweptFrom chip place_of roots old (place + 1)
        → Passes chip all_nets w (inputs_at chip w) (outputs_at chip w) 0 (inputs_at chip w) old new
        → IsSweptFrom chip place_of roots new place
    back_more old new order place w is here swept passes =
        let at = is.only place w here in
        subst (IsSweptFrom chip place_of roots new) at.1
        (swept_back old new w at.0 (subst (λ p. IsSweptFrom chip place_of roots old (p + 1)) (sym at.1) swept) passes)

    pub back_skip : (marks : List Bool) (order : List (Option ℕ)) (place : ℕ) → IsOrder chip place_of order
        → slice_get order place ≡ Some None → IsSweptFrom chip place_of roots marks (place + 1)
        → IsSweptFrom chip place_of roots marks place
    back_skip marks order place is none swept = record {
      size = swept.size;
      begin = swept.begin;
      back = λ w pin net placed_w after within out marked. elim (ℕ_discrete (place_of w) place) [
        | yes at ↦
            let there = is.each w placed_w.known placed_w in
            let clash = sym none ∙ (ap (slice_get order) (sym at) ∙ there) in
            absurd (not_some w clash)
        | no other ↦
            let apart : place_of w ≡ place → ⊥ = other in
            swept.back w pin net placed_w (omega arith) within out marked
      ];
      leads = swept.leads;
    }
      where
        not_some : (w : ℕ) → Some None ≡ Some (Some w) → ⊥
        not_some w e = cc

    module _ (marks : List Bool) (swept : IsSweptFrom chip place_of roots marks 0) where
      leading_marked : (path : List ℕ) (net root : ℕ) → IsMarked roots root → IsChain chip net path root → IsMarked marks net
      leading_marked [] net root marked chain = swept.begin net (subst (IsMarked roots) (sym chain) marked)
      leading_marked (next ∷ path) net root marked chain =
          let feeds = chain.0 in
          let at = leading_marked path next root marked chain.1 in
          let placed_w = feeding_placed feeds.instance feeds.pin feeds.known feeds.pin_within in
          subst (IsMarked marks) feeds.reads (swept.back feeds.instance feeds.pin next placed_w (omega arith) feeds.pin_within
          (record { output = feeds.output; within = feeds.output_within; on = feeds.drives }) at)

      pub back_all : AreLeading chip roots marks
      back_all = record {
        size = swept.size;
        each = λ net leads. leading_marked leads.leads.path net leads.root leads.marked leads.leads.is_chain;
        leads = swept.leads;
      }
