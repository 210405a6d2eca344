-- The support, from marks of nets.
use Rattle.std.proofs.Common.{◌≡◌, ℕ, ◌+◌, ◌*◌, ◌<◌, ◌≤◌, ◌⊎◌, inl, inr, List, [], ◌∷◌, ◌++◌, length, Bool}
use Rattle.std.proofs.Common.{true, false, refl, sym, ◌∙◌, ap, subst, arith, Some}
use Rattle.std.specs.Prelude.{slice_get, slice_index}
use Rattle.std.specs.List.{All, Contains}
use Rattle.std.proofs.lemmas.Option.{slice_get-get_or, slice_get_within}
use Rattle.ca_flat.specs.declared.chip_defect.ChipDefect.{ChipDefect}
use Rattle.ca_flat.specs.Chip.{Chip, IsChip, inputs_at, count_of}
use Rattle.ca_flat.specs.Chain.{Feeds, IsChain, IsOutputOf, IsReachedFrom, IsBitOf, IsSupportBit}
use Rattle.ca_flat.specs.RuleOut.{IsOpenChain}
use Rattle.ca_flat.proofs.Codes.{support_within}
use Rattle.ca_examiner.specs.code.Marks.{IsMarked, MarksListed}
use Rattle.ca_examiner.specs.code.Sweep.{HasOpenChain, AreReached, AreLeading}
use Rattle.ca_examiner.specs.code.Support.{AreLeadingNets}
use Rattle.ca_examiner.proofs.MarkLemmas.{unmarked, all_marked}

chain_longer : (chip : Chip) (path : List ℕ) (from to next : ℕ) → IsChain chip from path to → Feeds chip to next
    → IsChain chip from (path ++ next ∷ []) next
chain_longer chip [] from to next chain feeds = (subst (λ x. Feeds chip x next) (sym chain) feeds, refl)
chain_longer chip (step ∷ path) from to next chain feeds = (chain.0, chain_longer chip path step to next chain.1 feeds)

module _ (chip : Chip) (rank : ℕ → ℕ) (is_chip : IsChip chip rank) (all_nets : List Bool)
    (all : All (λ mark. mark ≡ true) all_nets) (all_count : length all_nets ≡ length chip.nets) (u : ℕ)
    (known : u < count_of chip) where
  fed_marked : (before net : ℕ) → Feeds chip before net → IsMarked all_nets net
  fed_marked before net feeds = all_marked all_nets all net (subst (λ n. net < n) (sym all_count)
      (subst (λ n. n < length chip.nets) feeds.drives (is_chip.on_nets feeds.instance
      (inputs_at chip feeds.instance + feeds.output) feeds.known (let lt = feeds.output_within in omega arith))))

  out_marked : (net : ℕ) → IsOutputOf chip u net → IsMarked all_nets net
  out_marked net out = all_marked all_nets all net (subst (λ n. net < n) (sym all_count)
      (subst (λ n. n < length chip.nets) out.on (is_chip.on_nets u (inputs_at chip u + out.output) known
      (let lt = out.within in omega arith))))

  along : (path : List ℕ) (from to : ℕ) → HasOpenChain chip all_nets u from → IsChain chip from path to
      → HasOpenChain chip all_nets u to
  along [] from to has chain = subst (HasOpenChain chip all_nets u) chain has
  along (next ∷ path) from to has chain = along path next to (record {
    before = from ∷ has.before;
    chain = (fed_marked from next chain.0, chain.0, has.chain);
  }) chain.1

  reached_chain : (net : ℕ) → IsReachedFrom chip u net → HasOpenChain chip all_nets u net
  reached_chain net is = along is.leads.path is.from net
      (record { before = []; chain = (out_marked is.from is.is_output, is.is_output) }) is.leads.is_chain

  chain_reached : (before : List ℕ) (net : ℕ) → IsOpenChain (IsMarked all_nets) chip u (net ∷ before) → IsReachedFrom chip u net
  chain_reached [] net chain = record { from = net; is_output = chain.1; leads = record { path = []; is_chain = refl } }
  chain_reached (last ∷ before) net chain =
      let earlier = chain_reached before last chain.2 in
      record {
        from = earlier.from;
        is_output = earlier.is_output;
        leads = record {
          path = earlier.leads.path ++ net ∷ [];
          is_chain = chain_longer chip earlier.leads.path earlier.from last net earlier.leads.is_chain chain.1;
        };
      }

  -- the outputs that are reached are the roots
  pub leading_are : (outputs : List ℕ) (reached old roots marks : List Bool) → outputs ≡ chip.outputs
      → AreReached chip all_nets u reached → All (λ mark. mark ≡ false) old → MarksListed reached outputs old roots
      → AreLeading chip roots marks → AreLeadingNets chip u marks
  leading_are outputs reached old roots marks outputs_are are none listed leading = record {
    size = leading.size;
    each = λ net out. leading.each net (record {
      root = out.output;
      marked = (listed.each out.output).1 (inr (
        subst (λ o. Contains o out.output) (sym outputs_are) out.observed,
        (let has = reached_chain out.output out.reached in are.each out.output has.before has.chain),
      ));
      leads = out.leads;
    });
    leads = λ net marked. let to_root = leading.leads net marked in
        elim ((listed.each to_root.root).0 to_root.marked) [
          | inl was ↦ absurd (unmarked old none to_root.root was)
          | inr here ↦
              let has = are.chains to_root.root here.1 in
              record {
                output = to_root.root;
                observed = subst (λ o. Contains o to_root.root) outputs_are here.0;
                leads = to_root.leads;
                reached = chain_reached has.before to_root.root has.chain;
              }
        ];
  }

-- two places of one bit
one_place : (count one other bit : ℕ) → one < count → other < count → (bit ≡ one) ⊎ (bit ≡ count + one)
    → (bit ≡ other) ⊎ (bit ≡ count + other) → one ≡ other
one_place count one other bit lt mt (inl e) (inl f) = omega arith
one_place count one other bit lt mt (inl e) (inr f) = absurd (omega arith)
one_place count one other bit lt mt (inr e) (inl f) = absurd (omega arith)
one_place count one other bit lt mt (inr e) (inr f) = omega arith

module _ (chip : Chip) (defect : ChipDefect) (leading : List Bool) (are : AreLeadingNets chip defect.instance leading)
    (place bit net : ℕ) (within : place < length chip.inputs) (is_bit : IsBitOf chip place bit)
    (net_is : net ≡ slice_index chip.inputs place) where
  input_here : slice_get chip.inputs place ≡ Some net
  input_here = slice_get-get_or chip.inputs place 0 within ∙ ap Some (sym net_is)

  pub support_to : IsMarked leading net → IsSupportBit chip defect bit
  support_to marked =
      let out = are.leads net marked in
      record {
        place = place;
        net = net;
        is_input = input_here;
        is_bit = is_bit;
        output = out.output;
        observed = out.observed;
        leads = out.leads;
        reached = out.reached;
      }

  pub support_from : IsSupportBit chip defect bit → IsMarked leading net
  support_from supports =
      let there = slice_get_within chip.inputs supports.place supports.net supports.is_input in
      let same = one_place (length chip.inputs) supports.place place bit there within supports.is_bit is_bit in
      let nets : Some supports.net ≡ Some net = sym supports.is_input ∙ ap (slice_get chip.inputs) same ∙ input_here in
      let one : supports.net ≡ net = cc in
      subst (IsMarked leading) one (are.each supports.net (record {
        output = supports.output;
        observed = supports.observed;
        leads = supports.leads;
        reached = supports.reached;
      }))

pub not_support : (chip : Chip) (defect : ChipDefect) (bit : ℕ) → 2 * length chip.inputs ≤ bit → IsSupportBit chip defect bit → ⊥
not_support chip defect bit past supports = let within = support_within chip defect bit supports in omega arith
