-- The benches of a chip and of those in which a cluster is one instance.
use Rattle.std.specs.Prelude.{ℕ, ◌≡◌, ◌+◌, List, [], ◌∷◌, length, map, slice_get, Some}
use Rattle.ca_flat.specs.declared.chip_defect.ChipDefect.{ChipDefect}
use Rattle.ca_flat.specs.Chip.{Chip}
use Rattle.ca_flat.specs.Codes.{unset_pair}
use Rattle.ca_linked.specs.Linked.{LinkedChip}
use Rattle.ca_view.specs.Core.{core_of}
use Rattle.ca_credit.specs.Defects.{Task, StandsIn}
use Rattle.ca_credit.specs.Good.{IsGood}
use Rattle.ca_generate.specs.declared.generated.Generated.{Generated}
use Rattle.ca_engine.specs.ChipBench.{Benched}
use Rattle.ca_targets.specs.declared.target.Cluster.{Cluster}
use Rattle.ca_benches.specs.declared.station.Station.{Station}
use Rattle.ca_benches.specs.Benches.{defect_of}

-- so many entries, each of which is what it is to be to the one at its place of the other list
pub record AreEach {A B : Type 0} (Is : A → B → Type 0) (xs : List A) (count : ℕ) (ys : List B) : Type 0 where
  pub counted : length ys ≡ count
  pub each : (k : ℕ) (x : A) (y : B) → slice_get xs k ≡ Some x → slice_get ys k ≡ Some y → Is x y

-- so are the entries to those of the other list from a place on
abbrev pub AreEachFrom : {A B : Type 0} → (A → B → Type 0) → List A → ℕ → List B → Type 0
AreEachFrom {A} {B} Is xs from ys =
    (k : ℕ) (x : A) (y : B) → slice_get xs (k + from) ≡ Some x → slice_get ys k ≡ Some y → Is x y

-- the bench is of this chip, for these defects, and no bit is set
pub record IsPartOf (chip : Chip) (shorts : List ChipDefect) (budget : ℕ) (part : Benched) : Type 0 where
  pub chip_is : part.chip ≡ chip
  pub defects_are : part.defects ≡ shorts
  pub budget_is : part.budget ≡ budget
  pub bits : part.bits ≡ unset_pair part.chip

-- the benches are of the chips of the first clusters, for their shorts
abbrev pub ArePartsOf : ℕ → List Cluster → ℕ → List Benched → Type 0
ArePartsOf budget = AreEach (λ cluster part. IsPartOf (core_of cluster.chip) cluster.shorts budget part)

-- the first bench is of this chip, for no defects, and the others are of the chips of the first clusters
pub record AreParts (own : Chip) (budget : ℕ) (clusters : List Cluster) (count : ℕ) (parts : List Benched)
    : Type 0 where
  pub good : Benched
  pub others : List Benched
  pub are : parts ≡ good ∷ others
  pub good_is : IsPartOf own [] budget good
  pub others_are : ArePartsOf budget clusters count others

-- the cluster's chip stands in for the chip
abbrev pub StandsInFor : LinkedChip → Cluster → Type 0
StandsInFor chip cluster = StandsIn (core_of chip) (core_of cluster.chip)

-- what is promised of the shorts in these stations, each a defect of its cluster's chip
pub record IsGoodFor (chip : LinkedChip) (budget : ℕ) (clusters : List Cluster) (stations : List Station)
    (made : Generated) : Type 0 where
  pub task : Task
  pub chip_is : task.chip ≡ core_of chip
  pub budget_is : task.budget ≡ budget
  pub defects_are : task.defects ≡ map defect_of stations
  pub chips_are : (k : ℕ) (station : Station) (cluster : Cluster) → slice_get stations k ≡ Some station
      → slice_get clusters station.part ≡ Some cluster → task.chip_of k ≡ core_of cluster.chip
  pub good : IsGood task made.pairs made.aims made.verdicts
