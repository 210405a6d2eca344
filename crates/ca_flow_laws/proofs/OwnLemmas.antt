-- What is reported of the own words of a command on a chip is one fault.
use Rattle.std.proofs.Common.{ℕ, ◌≡◌, ◌≢◌, ◌⊎◌, ◌∙◌, inl, inr, refl, sym, ap, subst, List, length, Option, Some, None}
use Rattle.std.proofs.Common.{true≢false}
use Rattle.std.specs.Prelude.{IsNone}
use Rattle.std.proofs.lemmas.Option.{same_Some}
use Rattle.ca_store.specs.Store.{Files}
use Rattle.ca_flat.specs.declared.chip_defect.ChipDefect.{ChipDefect}
use Rattle.ca_flat.specs.Chip.{cell_at}
use Rattle.ca_flat.specs.Chip as flat
use Rattle.ca_linked.specs.Linked.{LinkedChip}
use Rattle.ca_linked.specs.Instances.{IsNamedGate}
use Rattle.ca_view.specs.Core.{core_of}
use Rattle.ca_link_laws.proofs.TraceLemmas.{one_ports}
use Rattle.ca_request.specs.Vectors.{dash, letters_of}
use Rattle.ca_request.specs.Asked.{FitsInputs, defect_called, IsAskedDefect, LacksDefect, IsDefectCause, IsVectorsCause}
use Rattle.ca_request.specs.Asked.{IsInstanceCause}
use Rattle.ca_chip_replay.specs.ChipRun.{RunOf}
use Rattle.ca_simulate.specs.Simulated.{pair_of}
use Rattle.ca_simulate.specs.OneRun.{IsFaultyLine}
use Rattle.ca_fault.specs.declared.fault.Fault.{Fault}
use Rattle.ca_fault.specs.declared.fault.Fault.TheVariants.{BadVector, NoInstance, NoDefect, Order}
use Rattle.ca_on_chip.specs.declared.replays.TheConstants.{MAX_ORDER}
use Rattle.ca_on_chip.specs.OnChip.{IsSimulationCause}
use Rattle.ca_on_chip.specs.Replay.{run_of, IsAskedRun, HasFaultyLine, HasRun}
use Rattle.ca_flow_laws.proofs.FileLemmas.{one_of, AtFile, one_at_file}
use Rattle.ca_flow_laws.proofs.NamedLemmas.{named_alike}
use Rattle.ca_flow_laws.proofs.OneLemmas.{AreOne, one_back, NamesOne}
use Rattle.ca_flow_laws.proofs.OrderLemmas.{one_line}

-- what is reported of two vectors
abbrev pub AtVectors : List ℕ → List ℕ → LinkedChip → Fault → Type 0
AtVectors first last chip fault =
    ((fault ≡ BadVector first) × ¬ (FitsInputs chip first))
    ⊎ ((fault ≡ BadVector last) × (FitsInputs chip first × ¬ (FitsInputs chip last)))

-- no library instance has the name
abbrev pub LacksGate : LinkedChip → List ℕ → Type 0
LacksGate chip instance = (u : ℕ) → IsNamedGate chip instance u → ⊥

-- what is reported of an instance and a defect
abbrev pub AtDefect : List ℕ → List ℕ → LinkedChip → Fault → Type 0
AtDefect instance defect chip fault = (instance ≢ dash)
    × (((fault ≡ NoInstance instance) × LacksGate chip instance) ⊎ ((fault ≡ NoDefect defect) × LacksDefect chip instance defect))

-- what is reported of vectors, an instance and a defect, the vectors first
abbrev pub AtPair : List ℕ → List ℕ → List ℕ → List ℕ → LinkedChip → Fault → Type 0
AtPair instance defect first last chip fault =
    AtVectors first last chip fault ⊎ ((FitsInputs chip first × FitsInputs chip last) × AtDefect instance defect chip fault)

-- what is reported of a text of events
abbrev pub ReportsLine : List ℕ → List ℕ → List ℕ → List ℕ → LinkedChip → Fault → List ℕ → Type 0
ReportsLine instance defect first last chip fault bytes =
    (line : ℕ) × ((fault ≡ Order line) × HasFaultyLine instance defect first last line chip bytes)

-- what is reported of the file of events, where the words name a run
abbrev pub AtOrder : List ℕ → List ℕ → List ℕ → List ℕ → List ℕ → Files → LinkedChip → Fault → Type 0
AtOrder instance defect first last order given chip fault =
    HasRun instance defect first last chip
    × AtFile MAX_ORDER order (ReportsLine instance defect first last chip) (given order) fault

-- what is reported of the word of an instance alone
abbrev pub AtInstance : List ℕ → LinkedChip → Fault → Type 0
AtInstance instance chip fault = (fault ≡ NoInstance instance) × LacksGate chip instance

-- what is reported of all of these
abbrev pub AtRun : List ℕ → List ℕ → List ℕ → List ℕ → List ℕ → Files → LinkedChip → Fault → Type 0
AtRun instance defect first last order given chip fault =
    AtPair instance defect first last chip fault ⊎ AtOrder instance defect first last order given chip fault

-- the causes
pub of_defect : (instance defect : List ℕ) (chip : LinkedChip) (fault : Fault) → IsDefectCause chip instance defect fault
    → AtDefect instance defect chip fault
of_defect instance defect chip (NoInstance typed) (same, (some, lacks)) = (some, inl (ap NoInstance same, lacks))
of_defect instance defect chip (NoDefect typed) (same, (some, lacks)) = (some, inr (ap NoDefect same, lacks))
of_defect instance defect chip fault cause = absurd cause

pub of_instance : (instance : List ℕ) (chip : LinkedChip) (fault : Fault) → IsInstanceCause chip instance fault → AtInstance instance chip fault
of_instance instance chip (NoInstance typed) (same, lacks) = (ap NoInstance same, lacks)
of_instance instance chip fault cause = absurd cause

of_vectors : (first last : List ℕ) (chip : LinkedChip) (fault : Fault) → IsVectorsCause chip first last fault → AtVectors first last chip fault
of_vectors first last chip (BadVector typed) (inl (same, unfit)) = inl (ap BadVector same, unfit)
of_vectors first last chip (BadVector typed) (inr (same, unfit)) = inr (ap BadVector same, unfit)
of_vectors first last chip fault cause = absurd cause

pub of_simulation : (instance defect first last : List ℕ) (chip : LinkedChip) (fault : Fault) → IsSimulationCause instance defect first last fault chip
    → AtPair instance defect first last chip fault
of_simulation instance defect first last chip fault (inl vectors) = inl (of_vectors first last chip fault vectors)
of_simulation instance defect first last chip fault (inr (fits, (too, cause))) = inr ((fits, too), of_defect instance defect chip fault cause)

-- a chip that is one with another has the same reported of it
module _ (chip also : LinkedChip) (are : AreOne chip also) where
  pub fits_also : (word : List ℕ) → FitsInputs chip word → FitsInputs also word
  fits_also word fits = subst (λ (nets : List ℕ). length (letters_of word) ≡ length nets) (one_ports chip also are.alike).inputs fits

  pub named_also : (name : List ℕ) (u : ℕ) → IsNamedGate chip name u → IsNamedGate also name u
  named_also = named_alike chip also are.alike

  lacks_also : (instance defect : List ℕ) → LacksDefect chip instance defect → LacksDefect also instance defect
  lacks_also instance defect lacks = record {
    u = lacks.u;
    named = named_also instance lacks.u lacks.named;
    lacks = subst (λ (core : flat.Chip). IsNone (defect_called (cell_at core lacks.u) defect)) are.core lacks.lacks;
  }

  pub asked_also : (instance defect : List ℕ) (given : Option ChipDefect) → IsAskedDefect chip instance defect given
      → IsAskedDefect also instance defect given
  asked_also instance defect None asked = asked
  asked_also instance defect (Some given) asked = record {
    some = asked.some;
    named = named_also instance given.instance asked.named;
    called = subst (λ (core : flat.Chip). defect_called (cell_at core given.instance) defect ≡ Some given.defect) are.core asked.called;
  }

  pub run_also : (instance defect first last : List ℕ) (run : RunOf) → IsAskedRun instance defect first last chip run
      → IsAskedRun instance defect first last also run
  run_also instance defect first last run asked = record {
    first_fits = fits_also first asked.first_fits;
    last_fits = fits_also last asked.last_fits;
    given = asked.given;
    asked = asked_also instance defect asked.given asked.asked;
    run_is = asked.run_is ∙ ap (λ (core : flat.Chip). record { chip = core; given = asked.given; pair = pair_of (letters_of first) (letters_of last) }) are.core;
  }

module _ (chip also : LinkedChip) (are : AreOne chip also) where
  back : AreOne also chip
  back = one_back chip also are

  vectors_also : (first last : List ℕ) (fault : Fault) → AtVectors first last chip fault → AtVectors first last also fault
  vectors_also first last fault (inl (is, unfit)) = inl (is, λ fits. unfit (fits_also also chip back first fits))
  vectors_also first last fault (inr (is, (fits, unfit))) =
      inr (is, (fits_also chip also are first fits, λ fits. unfit (fits_also also chip back last fits)))

  pub defect_also : (instance defect : List ℕ) (fault : Fault) → AtDefect instance defect chip fault → AtDefect instance defect also fault
  defect_also instance defect fault (some, inl (is, lacks)) = (some, inl (is, λ u named. lacks u (named_also also chip back instance u named)))
  defect_also instance defect fault (some, inr (is, lacks)) = (some, inr (is, lacks_also chip also are instance defect lacks))

  pub instance_also : (instance : List ℕ) (fault : Fault) → AtInstance instance chip fault → AtInstance instance also fault
  instance_also instance fault (is, lacks) = (is, λ u named. lacks u (named_also also chip back instance u named))

  pub pair_also : (instance defect first last : List ℕ) (fault : Fault) → AtPair instance defect first last chip fault
      → AtPair instance defect first last also fault
  pair_also instance defect first last fault (inl vectors) = inl (vectors_also first last fault vectors)
  pair_also instance defect first last fault (inr ((fits, too), at)) =
      inr ((fits_also chip also are first fits, fits_also chip also are last too), defect_also instance defect fault at)

  order_also : (instance defect first last order : List ℕ) (given : Files) (fault : Fault) → AtOrder instance defect first last order given chip fault
      → AtOrder instance defect first last order given also fault
  order_also instance defect first last order given fault ((run, asked), at) =
      ((run, run_also chip also are instance defect first last run asked), by (given order) at)
    where
      by : (file : Option (List ℕ)) → AtFile MAX_ORDER order (ReportsLine instance defect first last chip) file fault
          → AtFile MAX_ORDER order (ReportsLine instance defect first last also) file fault
      by None at = absurd at
      by (Some bytes) (inl long) = inl long
      by (Some bytes) (inr (within, (line, (is, faulty)))) = inr (
        within,
        (
          line,
          (
            is,
            record {
              run = faulty.run;
              asked = run_also chip also are instance defect first last faulty.run faulty.asked;
              faulty = faulty.faulty;
            },
          ),
        ),
      )

  pub at_run_also : (instance defect first last order : List ℕ) (given : Files) (fault : Fault) → AtRun instance defect first last order given chip fault
      → AtRun instance defect first last order given also fault
  at_run_also instance defect first last order given fault (inl at) = inl (pair_also instance defect first last fault at)
  at_run_also instance defect first last order given fault (inr at) = inr (order_also instance defect first last order given fault at)

-- of one chip, in which a name means one instance, one fault is reported
module _ (chip : LinkedChip) where
  one_vectors : (first last : List ℕ) (fault other : Fault) → AtVectors first last chip fault → AtVectors first last chip other → fault ≡ other
  one_vectors first last fault other (inl here) (inl there) = here.0 ∙ sym there.0
  one_vectors first last fault other (inl here) (inr there) = absurd (here.1 there.1.0)
  one_vectors first last fault other (inr here) (inl there) = absurd (there.1 here.1.0)
  one_vectors first last fault other (inr here) (inr there) = here.0 ∙ sym there.0

  pub one_instance : (instance : List ℕ) (fault other : Fault) → AtInstance instance chip fault → AtInstance instance chip other → fault ≡ other
  one_instance instance fault other here there = here.0 ∙ sym there.0

  pub one_defect : (instance defect : List ℕ) (fault other : Fault) → AtDefect instance defect chip fault → AtDefect instance defect chip other
      → fault ≡ other
  one_defect instance defect fault other (some, inl here) (too, inl there) = here.0 ∙ sym there.0
  one_defect instance defect fault other (some, inl here) (too, inr there) = absurd (here.1 there.1.u there.1.named)
  one_defect instance defect fault other (some, inr here) (too, inl there) = absurd (there.1 here.1.u here.1.named)
  one_defect instance defect fault other (some, inr here) (too, inr there) = here.0 ∙ sym there.0

  no_vectors : (first last : List ℕ) (fault : Fault) → FitsInputs chip first → FitsInputs chip last → AtVectors first last chip fault → ⊥
  no_vectors first last fault fits too (inl (is, unfit)) = unfit fits
  no_vectors first last fault fits too (inr (is, (also, unfit))) = unfit too

  pub one_pair : (instance defect first last : List ℕ) (fault other : Fault) → AtPair instance defect first last chip fault
      → AtPair instance defect first last chip other → fault ≡ other
  one_pair instance defect first last = one_of ◌≡◌ (AtVectors first last chip)
      (λ fault. (FitsInputs chip first × FitsInputs chip last) × AtDefect instance defect chip fault) (one_vectors first last)
      (λ fault other here there. one_defect instance defect fault other here.1 there.1)
      (λ fault other here there. no_vectors first last fault there.0.0 there.0.1 here)

  module _ (one : NamesOne chip) (instance defect : List ℕ) where
    -- words ask for one defect
    one_given : (given other : Option ChipDefect) → IsAskedDefect chip instance defect given → IsAskedDefect chip instance defect other → given ≡ other
    one_given None None asked also = refl
    one_given None (Some given) asked also = absurd (also.some asked.0)
    one_given (Some given) None asked also = absurd (asked.some also.0)
    one_given (Some given) (Some other) asked also =
        let place : given.instance ≡ other.instance = one instance given.instance other.instance asked.named also.named in
        let called : defect_called (cell_at (core_of chip) other.instance) defect ≡ Some given.defect =
        subst (λ (u : ℕ). defect_called (cell_at (core_of chip) u) defect ≡ Some given.defect) place asked.called in
        let same : given.defect ≡ other.defect = same_Some given.defect other.defect (sym called ∙ also.called) in
        λ j. Some (record { instance = place j; defect = same j })

    -- what they name isn't lacking
    pub no_defect : (given : Option ChipDefect) (fault : Fault) → IsAskedDefect chip instance defect given → AtDefect instance defect chip fault → ⊥
    no_defect None fault asked at = at.0 asked.0
    no_defect (Some given) fault asked (some, inl (is, lacks)) = lacks given.instance asked.named
    no_defect (Some given) fault asked (some, inr (is, lacks)) =
        let place : given.instance ≡ lacks.u = one instance given.instance lacks.u asked.named lacks.named in
        let none : IsNone (defect_called (cell_at (core_of chip) given.instance) defect) =
        subst (λ (u : ℕ). IsNone (defect_called (cell_at (core_of chip) u) defect)) (sym place) lacks.lacks in
        let found : IsNone (Some given.defect) = subst IsNone asked.called none in
        true≢false found

    module _ (first last : List ℕ) where
      -- and one run
      pub one_run : (run other : RunOf) → IsAskedRun instance defect first last chip run → IsAskedRun instance defect first last chip other → run ≡ other
      one_run run other asked also =
          asked.run_is ∙ ap (λ given. run_of chip given first last) (one_given asked.given also.given asked.asked also.asked) ∙ sym also.run_is

      pub no_pair : (run : RunOf) (fault : Fault) → IsAskedRun instance defect first last chip run → AtPair instance defect first last chip fault → ⊥
      no_pair run fault asked (inl vectors) = no_vectors first last fault asked.first_fits asked.last_fits vectors
      no_pair run fault asked (inr (fits, at)) = no_defect asked.given fault asked.asked at

      one_reports : (bytes : List ℕ) (fault other : Fault) → ReportsLine instance defect first last chip fault bytes
          → ReportsLine instance defect first last chip other bytes → fault ≡ other
      one_reports bytes fault other (line, (is, faulty)) (also, (is_also, faulty_also)) =
          let run : faulty.run ≡ faulty_also.run = one_run faulty.run faulty_also.run faulty.asked faulty_also.asked in
          let there : IsFaultyLine faulty_also.run line bytes =
          subst (λ it. IsFaultyLine it line bytes) run faulty.faulty in
          is ∙ ap Order (one_line faulty_also.run bytes line also there faulty_also.faulty) ∙ sym is_also

      pub one_at_run : (order : List ℕ) (given : Files) (fault other : Fault) → AtRun instance defect first last order given chip fault
          → AtRun instance defect first last order given chip other → fault ≡ other
      one_at_run order given = one_of ◌≡◌ (AtPair instance defect first last chip) (AtOrder instance defect first last order given chip)
          (one_pair instance defect first last)
          (λ fault other here there.
          one_at_file MAX_ORDER order (ReportsLine instance defect first last chip) one_reports (given order) fault other here.1 there.1)
          (λ fault other here there. no_pair there.0.0 fault there.0.1 here)
