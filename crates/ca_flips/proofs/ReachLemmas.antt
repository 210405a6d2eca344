-- Nets that an instance reaches, and those that it doesn't.
use Rattle.std.proofs.Common.{◌≡◌, ℕ, ◌<◌, ◌≤◌, List, [], ◌∷◌, ◌++◌, length, None, Some, inl, inr, refl, sym, ◌∙◌, subst}
use Rattle.std.proofs.Common.{ap, arith}
use Rattle.ca_net.specs.declared.scale.TheConstants.{OUTPUT_NET}
use Rattle.ca_net.specs.declared.trit.Trit.{Trit}
use Rattle.ca_net.specs.declared.node.NodeKind.TheVariants.{Input, Storage}
use Rattle.ca_flat.specs.declared.chip_defect.ChipDefect.{ChipDefect}
use Rattle.ca_flat.specs.Chip.{Chip, inputs_at, outputs_at, net_of, output_net, count_of, net_kind, Drives, IsChip}
use Rattle.ca_flat.specs.Waves.{FlatWaves, wave_of, IsFlatChip}
use Rattle.ca_flat.specs.Chain.{Feeds, IsChain, Leads, IsReachedFrom}
use Rattle.ca_flat.proofs.NetInduction.{net_induction}
use Rattle.ca_flat.proofs.Detected.{same_instance, input_same, other_same}
use Rattle.ca_flips.specs.Flips.{IsAfter}

chain_then : (chip : Chip) (from : ℕ) (path : List ℕ) (net to : ℕ) → IsChain chip from path net → Feeds chip net to → IsChain chip from (path ++ (to ∷ [])) to
chain_then chip from [] net to chain feeds = (subst (λ x. Feeds chip x to) (sym chain) feeds, refl)
chain_then chip from (next ∷ more) net to chain feeds = (chain.0, chain_then chip next more net to chain.1 feeds)

-- a chain goes on by one instance
pub leads_on : (chip : Chip) (from net to : ℕ) → Leads chip from net → Feeds chip net to → Leads chip from to
leads_on chip from net to leads feeds = record { path = leads.path ++ (to ∷ []); is_chain = chain_then chip from leads.path net to leads.is_chain feeds }

pub reached_on : (chip : Chip) (u net to : ℕ) → IsReachedFrom chip u net → Feeds chip net to → IsReachedFrom chip u to
reached_on chip u net to reached feeds = record { from = reached.from; is_output = reached.is_output; leads = leads_on chip reached.from net to reached.leads feeds }

-- an instance feeds its output nets by its input nets
pub feeds_of : (chip : Chip) (w pin output : ℕ) → w < count_of chip → pin < inputs_at chip w → output < outputs_at chip w → Feeds chip (net_of chip w pin) (output_net chip w output)
feeds_of chip w pin output lt k within = record { instance = w; known = lt; pin = pin; pin_within = k; reads = refl; output = output; output_within = within; drives = refl }

-- a net leads to itself
pub leads_self : (chip : Chip) (net : ℕ) → Leads chip net net
leads_self chip net = record { path = []; is_chain = refl }

-- an instance reaches its output nets
pub reached_own : (chip : Chip) (u output : ℕ) → output < outputs_at chip u → IsReachedFrom chip u (output_net chip u output)
reached_own chip u output within = record {
  from = output_net chip u output;
  is_output = record { output = output; within = within; on = refl };
  leads = leads_self chip (output_net chip u output);
}

module _ (chip : Chip) (rank : ℕ → ℕ) (is : IsChip chip rank) (u : ℕ) (known : u < count_of chip) where
  -- a driver of the net whose rank isn't lower than that of u
  pub record LateDriver (net : ℕ) : Type 0 where
    pub drives : Drives chip net
    pub late : rank u ≤ rank drives.instance

  late_after : (from : ℕ) (path : List ℕ) (to : ℕ) → LateDriver from → IsChain chip from path to → LateDriver to
  late_after from [] to late chain = subst LateDriver chain late
  late_after from (next ∷ more) to late chain =
      let f = chain.0 in
      late_after next more to (record {
        drives = record { instance = f.instance; output = f.output; known = f.known; within = f.output_within; on = f.drives };
        late = (let driver = subst (Drives chip) (sym f.reads) late.drives in
            let same : rank late.drives.instance ≡ rank driver.instance =
            ap rank (is.one_driver (net_of chip f.instance f.pin) (record { instance = late.drives.instance; output = late.drives.output; known = late.drives.known; within = late.drives.within; on = late.drives.on ∙ sym f.reads }) driver).0 in
            let less : rank driver.instance < rank f.instance = is.ranked f.instance f.pin f.known f.pin_within driver in
            let least = late.late in omega arith);
      }) chain.1

  -- a reached net has one
  pub reached_late : (net : ℕ) → IsReachedFrom chip u net → LateDriver net
  reached_late net reached =
      let o = reached.is_output in
      late_after reached.from reached.leads.path net (record {
        drives = record { instance = u; output = o.output; known = known; within = o.within; on = o.on };
        late = omega arith;
      }) reached.leads.is_chain

  -- so it is no input net
  pub reached_no_input : (net : ℕ) → IsReachedFrom chip u net → net_kind chip net ≡ Input → ⊥
  reached_no_input net reached kind =
      let e : Storage OUTPUT_NET ≡ Input = sym (is.drives net (reached_late net reached).drives) ∙ kind in cc

  -- an instance behind u isn't u
  pub after_other : (w : ℕ) → IsAfter chip u w → w ≡ u → ⊥
  after_other w following e =
      let late = reached_late (net_of chip w following.pin) following.reached in
      let less : rank late.drives.instance < rank w = is.ranked w following.pin following.known following.within late.drives in
      let least = late.late in
      let same : rank w ≡ rank u = ap rank e in omega arith

  -- an instance of which an output net is reached, other than u, is behind u
  module _ (w output : ℕ) (lt : w < count_of chip) (within : output < outputs_at chip w) where
    abbrev own : Drives chip (output_net chip w output)
    own = record { instance = w; output = output; known = lt; within = within; on = refl }

    after_by : (from net : ℕ) → IsReachedFrom chip u from → Feeds chip from net → net ≡ output_net chip w output → IsAfter chip u w
    after_by from net reached f e =
        let same : f.instance ≡ w = (is.one_driver (output_net chip w output) (record { instance = f.instance; output = f.output; known = f.known; within = f.output_within; on = f.drives ∙ e }) own).0 in
        subst (IsAfter chip u) same (record { known = f.known; pin = f.pin; within = f.pin_within; reached = subst (IsReachedFrom chip u) (sym f.reads) reached })

    last_step : (from : ℕ) (path : List ℕ) → IsReachedFrom chip u from → IsChain chip from path (output_net chip w output)
        → (from ≡ output_net chip w output → IsAfter chip u w) → IsAfter chip u w
    last_step from [] reached chain here = here chain
    last_step from (next ∷ more) reached chain here =
        last_step next more (reached_on chip u from next reached chain.0) chain.1 (λ e. after_by from next reached chain.0 e)

    pub reached_is_after : (w ≡ u → ⊥) → IsReachedFrom chip u (output_net chip w output) → IsAfter chip u w
    reached_is_after other reached =
        let o = reached.is_output in
        last_step reached.from reached.leads.path
        (record { from = reached.from; is_output = o; leads = leads_self chip reached.from }) reached.leads.is_chain
        (λ e. absurd (other (is.one_driver (output_net chip w output) own (record { instance = u; output = o.output; known = known; within = o.within; on = o.on ∙ e })).0))

-- a net that the defect's instance doesn't reach has one wave in both networks
pub unreached_same : (chip : Chip) (rank : ℕ → ℕ) (defect : ChipDefect) → IsFlatChip chip rank defect → (pair : List Trit) (good : FlatWaves chip None pair)
    (faulty : FlatWaves chip (Some defect) pair) (net : ℕ) → net < length chip.nets → (IsReachedFrom chip defect.instance net → ⊥) → wave_of good net ≡ wave_of faulty net
unreached_same chip rank defect is pair good faulty = net_induction chip rank is.chip_is (λ net. (IsReachedFrom chip defect.instance net → ⊥) → wave_of good net ≡ wave_of faulty net)
    (λ net within kind no. input_same chip rank defect is pair good faulty net within kind)
    (λ w lt pins output within no. elim (same_instance w defect.instance) [
      | inl e ↦ absurd (no (subst (λ x. IsReachedFrom chip x (output_net chip w output)) e (reached_own chip w output within)))
      | inr other ↦ other_same chip rank defect is pair good faulty w lt other
          (λ pin k. pins pin k (λ reached. no (reached_on chip defect.instance _ _ reached (feeds_of chip w pin output lt k within)))) output within
    ])

-- the output nets of an instance behind u are reached
pub after_reached : (chip : Chip) (u w output : ℕ) → IsAfter chip u w → output < outputs_at chip w → IsReachedFrom chip u (output_net chip w output)
after_reached chip u w output following within =
    reached_on chip u (net_of chip w following.pin) (output_net chip w output) following.reached (feeds_of chip w following.pin output following.known following.within within)
