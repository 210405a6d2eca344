-- Words of the code beside those of `specs/Walk.antt`. Private functions and proofs cite them.
use Rattle.std.specs.Prelude.{ℕ, zero, suc, ◌+◌, ◌-◌, ◌≡◌, ◌<◌, ◌≤◌, ◌↔◌, List, [], ◌∷◌, ◌++◌, length, take}
use Rattle.std.specs.Prelude.{drop, Option, Some, None, slice_get, slice_index, slice_index_or}
use Rattle.std.specs.List.{Contains, sum_by}
use Rattle.ca_linked.specs.declared.order.Mark.{Mark}
use Rattle.ca_linked.specs.declared.order.Mark.TheVariants.{New, Open, Done}
use Rattle.ca_linked.specs.declared.order.Visit.{Visit}
use Rattle.ca_linked.specs.declared.order.SortFault.{SortFault}
use Rattle.ca_linked.specs.declared.order.SortFault.TheVariants.{Loop, NoMemory}
use Rattle.ca_linked.specs.Order.{IsSimpleLoop}
use Rattle.ca_linked.specs.Walk.{WalkState}

-- those that feed u, where the list has them for each
abbrev pub row_of : List (List ℕ) → ℕ → List ℕ
row_of feeders u = slice_index_or feeders u []

-- w is one of those that feed u
abbrev pub IsFeeder : List (List ℕ) → ℕ → ℕ → Type 0
IsFeeder feeders w u = Contains (row_of feeders u) w

-- how far the walk has come with u
abbrev pub mark_of : List Mark → ℕ → Mark
mark_of marks u = slice_index_or marks u New

-- the visit of u is at place i of the trail, and `done` of those that feed u are done
abbrev pub IsVisit : List Visit → ℕ → ℕ → ℕ → Type 0
IsVisit trail i u done = slice_get trail i ≡ Some (record { instance = u; done = done })

-- the number is somewhere in the list
abbrev pub Stands : List ℕ → ℕ → Type 0
Stands xs x = (k : ℕ) × (slice_get xs k ≡ Some x)

-- the trail leads from each to the next, which feeds it; what is done is in order
pub record IsWalk (feeders : List (List ℕ)) (Has : ℕ → Type 0) (walk : WalkState) : Type 0 where
  pub room : length walk.marks ≡ length feeders
  pub listed : (u : ℕ) → Stands walk.order u ↔ (mark_of walk.marks u ≡ Done)
  pub once : (j k u : ℕ) → slice_get walk.order j ≡ Some u → slice_get walk.order k ≡ Some u → j ≡ k
  pub after : (k u w : ℕ) → slice_get walk.order k ≡ Some u → IsFeeder feeders w u → (j : ℕ) × (j < k)
      × (slice_get walk.order j ≡ Some w)
  pub on_trail : (u : ℕ) → mark_of walk.marks u ≡ Open → (i : ℕ) × ((done : ℕ) × IsVisit walk.trail i u done)
  pub opened : (i u done : ℕ) → IsVisit walk.trail i u done → mark_of walk.marks u ≡ Open
  pub alone : (i j u a b : ℕ) → IsVisit walk.trail i u a → IsVisit walk.trail j u b → i ≡ j
  pub linked : (i u w a b : ℕ) → IsVisit walk.trail i u a → IsVisit walk.trail (suc i) w b
      → slice_get (row_of feeders u) a ≡ Some w
  pub past : (i u done k w : ℕ) → IsVisit walk.trail i u done → k < done → slice_get (row_of feeders u) k
      ≡ Some w → mark_of walk.marks w ≡ Done
  pub has : (u : ℕ) → (mark_of walk.marks u ≡ New → ⊥) → Has u

-- the last of the trail, if any, is to go on to w
abbrev pub LeadsOn : List (List ℕ) → List Visit → ℕ → Type 0
LeadsOn feeders trail w =
    (i u a : ℕ) → suc i ≡ length trail → IsVisit trail i u a → slice_get (row_of feeders u) a ≡ Some w

-- all that feed others are among the roots, and have a row of their own
abbrev pub AreClosed : List (List ℕ) → List ℕ → Type 0
AreClosed feeders roots = (w u : ℕ) → IsFeeder feeders w u → Contains roots w

-- each root has a row
abbrev pub HaveRows : List (List ℕ) → List ℕ → Type 0
HaveRows feeders roots = (u : ℕ) → Contains roots u → u < length feeders

-- one that isn't new stays so
abbrev pub KeepsReached : WalkState → WalkState → Type 0
KeepsReached old new = (u : ℕ) → (mark_of old.marks u ≡ New → ⊥) → mark_of new.marks u ≡ New → ⊥

-- what is left to do: for each new instance more than all that feed any, and for each on the trail those that
-- aren't done
abbrev pub mark_work : ℕ → Mark → ℕ
mark_work most New = most
mark_work most Open = 0
mark_work most Done = 0

-- what is left to do for a visit
abbrev pub visit_work : List (List ℕ) → Visit → ℕ
visit_work feeders visit = 1 + (length (row_of feeders visit.instance) - visit.done)

-- what is left to do in all
abbrev pub work_of : List (List ℕ) → WalkState → ℕ
work_of feeders walk =
    sum_by (mark_work (2 + sum_by (λ row. length row) feeders)) walk.marks + sum_by
    (visit_work feeders) walk.trail

-- a walk goes on to a walk, with less left to do
pub record GoesOn (feeders : List (List ℕ)) (roots : List ℕ) (old new : WalkState) : Type 0 where
  pub walk : IsWalk feeders (Contains roots) new
  pub reached : KeepsReached old new
  pub less : work_of feeders new < work_of feeders old

-- the last of the trail is fed by w, which is on the trail
pub record Meets (feeders : List (List ℕ)) (walk : WalkState) (w : ℕ) : Type 0 where
  pub place : ℕ
  pub done : ℕ
  pub on_trail : IsVisit walk.trail place w done
  pub leads : LeadsOn feeders walk.trail w

-- a step went on, or it met one of the trail and left the walk as it was
abbrev pub IsStep : List (List ℕ) → List ℕ → WalkState → WalkState → Option ℕ → Type 0
IsStep feeders roots old new None = GoesOn feeders roots old new
IsStep feeders roots old new (Some w) = (new ≡ old) × Meets feeders old w

-- the trail was left, or one of it was met
abbrev pub IsFinish : List (List ℕ) → WalkState → Option ℕ → Type 0
IsFinish feeders walk None = walk.trail ≡ []
IsFinish feeders walk (Some w) = Meets feeders walk w

-- the root isn't new, and the trail was left; or one of the trail was met
abbrev pub IsVisited : List (List ℕ) → ℕ → WalkState → Option ℕ → Type 0
IsVisited feeders root walk None = (walk.trail ≡ []) × (mark_of walk.marks root ≡ New → ⊥)
IsVisited feeders root walk (Some w) = Meets feeders walk w

-- no root is new, and the trail was left; or one of the trail was met
abbrev pub AreVisited : List (List ℕ) → List ℕ → WalkState → Option ℕ → Type 0
AreVisited feeders roots walk None =
    (walk.trail ≡ []) × ((k : ℕ) → k < length roots → mark_of walk.marks (slice_index roots k) ≡ New → ⊥)
AreVisited feeders roots walk (Some w) = Meets feeders walk w

-- u is visited at this place of the trail
abbrev pub IsVisitOf : List Visit → ℕ → ℕ → Type 0
IsVisitOf trail u place = (done : ℕ) × IsVisit trail place u done

-- u is visited somewhere on the trail
abbrev pub IsOnTrail : List Visit → ℕ → Type 0
IsOnTrail trail u = (place : ℕ) × IsVisitOf trail u place

-- what is past the last visit
abbrev pub no_visit : Visit
no_visit = record { instance = 0; done = 0 }

-- the instance at a place of the trail
abbrev pub instance_at : List Visit → ℕ → ℕ
instance_at trail place = (slice_index_or trail place no_visit).instance

-- this many instances of the trail from this place on, from the last back to the first
unfoldable pub back_from : List Visit → ℕ → ℕ → List ℕ
back_from trail place zero = []
back_from trail place (suc more) = instance_at trail (place + more) ∷ back_from trail place more

-- the number at this place is the lowest
abbrev pub IsLowestAt : List ℕ → ℕ → Type 0
IsLowestAt numbers place =
    (place < length numbers) × ((k : ℕ) → k < length numbers
    → slice_index numbers place ≤ slice_index numbers k)

-- the numbers from the lowest on, and then those before it
pub record IsTurned (numbers turned : List ℕ) : Type 0 where
  pub place : ℕ
  pub lowest : IsLowestAt numbers place
  pub parts : turned ≡ drop place numbers ++ take place numbers

-- why there is no order: there is a loop, with each of its members once; or there was no memory
abbrev pub IsSortCause : List (List ℕ) → SortFault → Type 0
IsSortCause feeders (Loop loop) = IsSimpleLoop (IsFeeder feeders) loop
IsSortCause feeders NoMemory = Unit {0}
