-- What may stand at a pair, from what was tested.
use Rattle.std.proofs.Common.{◌≡◌, ℕ, ◌+◌, ◌*◌, ◌≤◌, ◌<◌, ◌⊎◌, inl, inr, List, length, Bool, true, false, None, Some, refl, sym}
use Rattle.std.proofs.Common.{◌∙◌, ap, subst, arith}
use Rattle.std.specs.Prelude.{◌↔◌, Option, IsTrue, not}
use Rattle.std.specs.List.{All, Any, Contains}
use Rattle.ca_net.specs.declared.trit.Trit.{Trit}
use Rattle.ca_net.specs.declared.trit.Trit.TheVariants.{Zero, One, X}
use native.Mathlib.Decide.{ℕ_discrete}
use Rattle.ca_net.specs.Circuit.{IsWellFormed}
use Rattle.ca_net.specs.State.{value_at}
use Rattle.ca_cell.specs.declared.row.Row.{Row}
use Rattle.ca_flat.specs.declared.chip_defect.ChipDefect.{ChipDefect}
use Rattle.ca_flat.specs.Chip.{Chip, IsChip, IsDefectIn, count_of}
use Rattle.ca_flat.specs.Flat.{flat}
use Rattle.ca_flat.specs.Pair.{IsShown, IsSettledPair, IsOpenPair}
use Rattle.ca_flat.specs.Waves.{IsFlatChip}
use Rattle.ca_flat.specs.Rows.{ListsExposingRows}
use Rattle.ca_flat.specs.Codes.{MayBranch}
use Rattle.ca_flat.specs.Chain.{IsSupportBit}
use Rattle.ca_flat.proofs.Codes.{support_within}
use Rattle.ca_flat.specs.RuleOut.{IsFull}
use Rattle.ca_flat.proofs.Detected.{some_good, some_faulty}
use Rattle.ca_flat.specs.CheckedCode.{IsPlainPair, MayLeave}
use Rattle.ca_sim.specs.Seen.{Seen, value_of, AreNetWaves, IsExact}
use Rattle.ca_examiner.specs.code.Marks.{IsMarked}
use Rattle.ca_examiner.specs.code.Sweep.{AreReached}
use Rattle.ca_examiner.specs.code.OpenNets.{AreOpenNets}
use Rattle.ca_examiner.specs.code.PinRows.{IsSomeAllowed, IsNoneAllowed}
use Rattle.ca_examiner.specs.code.Ends.{is_opposite_at, is_alike_at}
use Rattle.ca_read_code.specs.Examined.{MayLeaveFor, MayBranchFor, MayLeaveHere, MayBranchHere, MayGoOn}
use Rattle.ca_examiner.specs.ChipExaminer.{AreNetworks, examined_of}
use Rattle.ca_examiner.specs.code.ChipExaminer.{IsSeenOf, ReachesOutput, HasUnset, CanBranch}
use Rattle.ca_examiner.proofs.OpenLemmas.{unreached_rules_out, reached_is_chain}
use Rattle.ca_examiner.proofs.RowLemmas.{none_rules_out, some_is_allowed}
use Rattle.ca_examiner.proofs.StandingLemmas.{SeesBoth, shown_so, so_shown, settled_so, so_settled}

-- what is seen, of the chip that it is seen of
pub record IsView (rank : ℕ → ℕ) (seen : Seen) (defect : ChipDefect) : Type 0 where
  pub is_flat : IsFlatChip seen.chip rank defect
  pub sees : SeesBoth rank defect seen

faulty_waves : (seen : Seen) (defect : ChipDefect) → seen.aim ≡ Some defect → IsExact seen
    → IsWellFormed (flat seen.chip (Some defect)) → AreNetWaves seen.chip (Some defect) seen.pair seen.faulty
faulty_waves seen defect aim exact formed =
    subst (λ a. AreNetWaves seen.chip a seen.pair seen.faulty) aim
    (exact.faulty (subst (λ a. IsWellFormed (flat seen.chip a)) (sym aim) formed))

pub view_of : (chip : Chip) (place_of : ℕ → ℕ) (seen : Seen) (defect : ChipDefect) → IsChip chip place_of
    → IsSeenOf chip place_of seen defect → IsExact seen → IsView place_of seen defect
view_of chip place_of seen defect is_chip of exact =
    let here = subst (λ c. IsChip c place_of) (sym of.same) is_chip in
    let defect_is = subst (λ c. IsDefectIn c defect) (sym of.same) of.defect_is.defect_is in
    let networks = subst AreNetworks (sym of.same) of.networks in
    let faulty_is = networks.faulty_are defect defect_is in
    record {
      is_flat = record { chip_is = here; defect_is = defect_is; good_is = networks.good_is; faulty_is = faulty_is };
      sees = record {
        good_flat = record { chip_is = here; defect_is = tt; formed = networks.good_is };
        faulty_flat = record { chip_is = here; defect_is = defect_is; formed = faulty_is };
        good_are = exact.good networks.good_is;
        faulty_are = faulty_waves seen defect of.aim exact faulty_is;
      };
    }

-- the observed outputs are nets of the chip
pub outputs_within : (chip : Chip) (place_of : ℕ → ℕ) (seen_chip : Chip) (outputs : List ℕ) → IsChip chip place_of
    → seen_chip ≡ chip → outputs ≡ chip.outputs → All (λ net. net < length seen_chip.nets) outputs
outputs_within chip place_of seen_chip outputs is_chip same are k d lt =
    subst (λ c. Rattle.std.proofs.Common.get_or outputs k d < length c.nets) (sym same)
    (is_chip.observed (Rattle.std.proofs.Common.get_or outputs k d)
    (subst (λ o. Contains o (Rattle.std.proofs.Common.get_or outputs k d)) are
    (Rattle.std.proofs.lemmas.List.Elements.Contains-get_or outputs k d lt)))

module _ (rank : ℕ → ℕ) (seen : Seen) (defect : ChipDefect) (view : IsView rank seen defect) (outputs : List ℕ)
    (outputs_are : outputs ≡ seen.chip.outputs) where
  are_outputs : (net : ℕ) → Contains outputs net ↔ Contains seen.chip.outputs net
  are_outputs net = (λ has. subst (λ o. Contains o net) outputs_are has, λ has. subst (λ o. Contains o net) (sym outputs_are) has)

  pub shown_is : (b : Bool) → IsTrue b ↔ Any (λ net. is_opposite_at seen net ≡ true) outputs
      → IsTrue b ↔ IsShown seen.chip defect seen.pair
  shown_is b test = (
    λ yes. shown_so rank defect seen view.sees outputs are_outputs view.is_flat.chip_is.observed (test.0 yes),
    λ shown. test.1 (so_shown rank defect seen view.sees outputs are_outputs view.is_flat.chip_is.observed shown),
  )

  pub settled_is : (b : Bool) → IsTrue b ↔ All (λ net. is_alike_at seen net ≡ true) outputs
      → IsTrue b ↔ IsSettledPair seen.chip defect seen.pair
  settled_is b test = (
    λ yes. settled_so rank defect seen view.sees outputs are_outputs view.is_flat.chip_is.observed (test.0 yes),
    λ settled. test.1 (so_settled rank defect seen view.sees outputs are_outputs view.is_flat.chip_is.observed settled),
  )

module _ (rank : ℕ → ℕ) (seen : Seen) (defect : ChipDefect) (view : IsView rank seen defect) where
  known : defect.instance < count_of seen.chip
  known = view.is_flat.defect_is.known

  -- where the rows allow nothing
  pub plain_by_rows : (rows : List Row) → ListsExposingRows seen.chip defect rows
      → IsNoneAllowed seen defect.instance rows → IsPlainPair seen.chip defect seen.pair
  plain_by_rows rows lists none good faulty = inl (none_rules_out seen rank view.is_flat.chip_is defect known
      view.sees.good_are good rows lists none)

  -- where no output is reached over open nets
  pub plain_by_chains : (marks : List Bool) → AreOpenNets seen marks
      → (ReachesOutput seen.chip marks defect.instance → ⊥) → IsPlainPair seen.chip defect seen.pair
  plain_by_chains marks are none good faulty = inr (inl (unreached_rules_out seen rank view.is_flat.chip_is defect known
      view.sees.good_are view.sees.faulty_are marks are good faulty none))

  -- where every bit of the support is set, and the pair isn't shown
  pub plain_by_full : (HasUnset seen defect → ⊥) → (IsShown seen.chip defect seen.pair → ⊥)
      → IsPlainPair seen.chip defect seen.pair
  plain_by_full none not_shown good faulty = inr (inr (record {
    sets = λ bit supports unset. none (record { bit = bit; supports = supports; unset = unset });
    not_shown = not_shown;
  }))

  module _ (rows : List Row) (lists : ListsExposingRows seen.chip defect rows) (some : IsSomeAllowed seen defect.instance rows)
      (marks : List Bool) (are : AreOpenNets seen marks) (reaches : ReachesOutput seen.chip marks defect.instance) where
    -- where none of the three holds
    not_plain : (IsFull seen.chip defect seen.pair → ⊥) → IsPlainPair seen.chip defect seen.pair → ⊥
    not_plain not_full plain = some_good seen.chip rank defect view.is_flat seen.pair (λ good.
        some_faulty seen.chip rank defect view.is_flat seen.pair (λ faulty. elim (plain good faulty) [
          | inl rule ↦ some_is_allowed seen rank view.is_flat.chip_is defect known view.sees.good_are good rows lists some rule
          | inr rest ↦ elim rest [
            | inl none ↦ reached_is_chain seen rank view.is_flat.chip_is defect known view.sees.good_are view.sees.faulty_are
                marks are good faulty reaches none
            | inr full ↦ not_full full
          ]
        ]))

    -- a bit of the support is unset
    pub unset_stays : (IsSettledPair seen.chip defect seen.pair → ⊥) → HasUnset seen defect
        → MayLeave seen.chip defect seen.pair → ⊥
    unset_stays not_settled unset (inl settled) = not_settled settled
    unset_stays not_settled unset (inr plain) = not_plain (λ full. full.sets unset.bit unset.supports unset.unset) plain

    -- the pair is shown
    pub shown_stays : (IsSettledPair seen.chip defect seen.pair → ⊥) → IsShown seen.chip defect seen.pair
        → MayLeave seen.chip defect seen.pair → ⊥
    shown_stays not_settled shown (inl settled) = not_settled settled
    shown_stays not_settled shown (inr plain) = not_plain (λ full. full.not_shown shown) plain

-- a pair that isn't shown is open where it isn't settled
pub open_by_settled : (seen : Seen) (defect : ChipDefect) (shown settled : Bool)
    → IsTrue shown ↔ IsShown seen.chip defect seen.pair → IsTrue settled ↔ IsSettledPair seen.chip defect seen.pair
    → shown ≡ false → IsTrue (not settled) ↔ IsOpenPair seen.chip defect seen.pair
open_by_settled seen defect shown settled shown_is settled_is none = (
  λ yes. record {
    not_shown = λ is. let clash : true ≡ false = sym (shown_is.1 is) ∙ none in cc;
    not_settled = λ is. let clash : false ≡ true = sym (ap not (settled_is.1 is)) ∙ yes in cc;
  },
  λ opened. at settled (λ yes. opened.not_settled (settled_is.0 yes)),
)
  where
    at : (b : Bool) → (b ≡ true → ⊥) → IsTrue (not b)
    at true no_true = absurd (no_true refl)
    at false no_true = refl

-- a pair that is shown is not open
pub open_by_shown : (seen : Seen) (defect : ChipDefect) (shown : Bool)
    → IsTrue shown ↔ IsShown seen.chip defect seen.pair → shown ≡ true
    → IsTrue (not shown) ↔ IsOpenPair seen.chip defect seen.pair
open_by_shown seen defect shown shown_is some = (
  λ yes. absurd (let clash : false ≡ true = sym (ap not some) ∙ yes in cc),
  λ opened. absurd (opened.not_shown (shown_is.0 some)),
)

-- where all but this was tested, a leaf may stand where the pair isn't shown
pub leave_by_shown : (seen : Seen) (defect : ChipDefect) (shown : Bool) (May : Type 0)
    → IsTrue shown ↔ IsShown seen.chip defect seen.pair → ((IsShown seen.chip defect seen.pair → ⊥) → May)
    → (IsShown seen.chip defect seen.pair → May → ⊥) → IsTrue (not shown) ↔ May
leave_by_shown seen defect shown May shown_is may stays = (
  λ yes. may (λ is. let clash : false ≡ true = sym (ap not (shown_is.1 is)) ∙ yes in cc),
  λ here. at shown (λ yes. stays (shown_is.0 yes) here),
)
  where
    at : (b : Bool) → (b ≡ true → ⊥) → IsTrue (not b)
    at true no_true = absurd (no_true refl)
    at false no_true = refl

-- an output is reached exactly where one of the observed nets has a mark
pub reaches_is : (chip : Chip) (open_nets marks : List Bool) (u : ℕ) (outputs : List ℕ) (b : Bool) → outputs ≡ chip.outputs
    → AreReached chip open_nets u marks → IsTrue b ↔ Any (IsMarked marks) outputs → IsTrue b ↔ ReachesOutput chip open_nets u
reaches_is chip open_nets marks u outputs b are reached test = (
  λ yes. let some = test.0 yes in record {
    output = some.1;
    observed = subst (λ o. Contains o some.1) are (some.0, some.2, some.3);
    reaches = reached.chains some.1 some.4;
  },
  λ reaches.
      let there = subst (λ o. Contains o reaches.output) (sym are) reaches.observed in
      test.1 (there.0, reaches.output, there.1, there.2, reached.each reaches.output reaches.reaches.before reaches.reaches.chain),
)

-- all nets of the list have marks to look at
pub marks_within : (chip : Chip) (rank : ℕ → ℕ) (outputs : List ℕ) (marks : List Bool) → IsChip chip rank
    → outputs ≡ chip.outputs → length marks ≡ length chip.nets → All (λ net. net < length marks) outputs
marks_within chip rank outputs marks is_chip are size =
    subst (λ n. All (λ net. net < n) outputs) (sym size) (outputs_within chip rank chip outputs is_chip refl are)

-- one bit isn't an unset one of the support
pub no_unset_more : (seen : Seen) (defect : ChipDefect) (count : ℕ) (b : Bool)
    → (IsSupportBit seen.chip defect count → value_at seen.pair count ≡ X → IsTrue b) → b ≡ false
    → ((bit : ℕ) → bit < count → IsSupportBit seen.chip defect bit → value_at seen.pair bit ≡ X → ⊥)
    → (bit : ℕ) → bit < count + 1 → IsSupportBit seen.chip defect bit → value_at seen.pair bit ≡ X → ⊥
no_unset_more seen defect count b only none before bit below supports unset = elim (ℕ_discrete bit count) [
  | yes same ↦ let clash : true ≡ false = sym (only (subst (IsSupportBit seen.chip defect) same supports) (subst (λ n. value_at seen.pair n ≡ X) same unset)) ∙ none in cc
  | no apart ↦ before bit (let far : bit ≡ count → ⊥ = apart in omega arith) supports unset
]

pub no_unset_all : (seen : Seen) (defect : ChipDefect) (count : ℕ) → 2 * length seen.chip.inputs ≤ count
    → ((bit : ℕ) → bit < count → IsSupportBit seen.chip defect bit → value_at seen.pair bit ≡ X → ⊥) → HasUnset seen defect → ⊥
no_unset_all seen defect count past none has = none has.bit
    (let within = support_within seen.chip defect has.bit has.supports in omega arith) has.supports has.unset

-- the bit is unset
pub unset_of : (t : Trit) (value : Option Bool) → value_of value ≡ t → value ≡ None → t ≡ X
unset_of t value read none = sym read ∙ ap value_of none

pub none_of_unset : (t : Trit) (value : Option Bool) → value_of value ≡ t → t ≡ X → value ≡ None
none_of_unset t None read unset = refl
none_of_unset t (Some true) read unset = absurd (let clash : One ≡ X = read ∙ unset in cc)
none_of_unset t (Some false) read unset = absurd (let clash : Zero ≡ X = read ∙ unset in cc)

-- the tests are those of an examiner that is aimed at the defect
pub leaves_here : (seen : Seen) (defect : ChipDefect) (b : Bool) → seen.aim ≡ Some defect
    → IsTrue b ↔ MayLeave seen.chip defect seen.pair → IsTrue b ↔ MayLeaveHere (examined_of seen)
leaves_here seen defect b aim test =
    subst (λ a. IsTrue b ↔ MayLeaveFor seen.chip a seen.pair) (sym aim) test

pub goes_on_here : (seen : Seen) (defect : ChipDefect) (b : Bool) → seen.aim ≡ Some defect
    → IsTrue b ↔ CanBranch seen defect → IsTrue b ↔ MayGoOn (examined_of seen)
goes_on_here seen defect b aim test = (
  λ yes. let can = test.0 yes in record {
    bit = can.bit;
    may = subst (λ a. MayBranchFor seen.chip a seen.pair can.bit) (sym aim) can.may;
  },
  λ on. test.1 (record { bit = on.bit; may = subst (λ a. MayBranchFor seen.chip a seen.pair on.bit) aim on.may }),
)

pub branches_here : (seen : Seen) (defect : ChipDefect) (bit : ℕ) (b : Bool) → seen.aim ≡ Some defect
    → IsTrue b ↔ MayBranch seen.chip defect seen.pair bit → IsTrue b ↔ MayBranchHere (examined_of seen) bit
branches_here seen defect bit b aim test =
    subst (λ a. IsTrue b ↔ MayBranchFor seen.chip a seen.pair bit) (sym aim) test
