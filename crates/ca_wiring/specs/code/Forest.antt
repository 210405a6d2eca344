-- Wires that are linked by their places: each has an earlier wire that it is joined with, or itself. Only the
-- proofs of the code cite this.
use Rattle.std.specs.Prelude.{ℕ, ◌≡◌, ◌<◌, ◌≤◌, List, length, slice_index, slice_index_or, slice_set, nat_lt}
use Rattle.std.specs.Prelude.{if◌then◌else◌}
use Rattle.std.specs.List.{Contains}
use Rattle.ca_wiring.specs.declared.joined.Join.{Join}
use Rattle.ca_wiring.specs.declared.joined.Span.{Span}
use Rattle.ca_wiring.specs.Joined.{AreJoined}
use Rattle.ca_wiring.specs.code.Spans.{join_at, IsAmongFirst}

-- the wire that a wire is linked to
abbrev pub parent_of : List ℕ → ℕ → ℕ
parent_of parents w = slice_index_or parents w w

-- from the wire the links lead to one that is linked to itself
pub data HasRoot (parents : List ℕ) : ℕ → ℕ → Type 0 where
  Itself : {w r : ℕ} → w ≡ r → parent_of parents w ≡ w → HasRoot parents w r
  Above : {w r : ℕ} → HasRoot parents (parent_of parents w) r → HasRoot parents w r

-- the two lead to one root
abbrev pub HaveOneRoot : List ℕ → ℕ → ℕ → Type 0
HaveOneRoot parents a b = (r : ℕ) × HasRoot parents a r × HasRoot parents b r

-- no wire is linked to a later one
abbrev pub LeadBack : List ℕ → Type 0
LeadBack parents = (w : ℕ) → parent_of parents w ≤ w

-- each wire is linked to one that is no later, and that it is joined with
pub record IsForest (joins : List Join) (parents : List ℕ) : Type 0 where
  pub back : LeadBack parents
  pub joined : (w : ℕ) → AreJoined joins w (parent_of parents w)

-- links were shortened: each wire still leads to its root, over wires that it is joined with
pub record Shortens (old new : List ℕ) : Type 0 where
  pub count : length new ≡ length old
  pub back : LeadBack new
  pub roots : (w r : ℕ) → HasRoot old w r → HasRoot new w r
  pub forest : (joins : List Join) → IsForest joins old → IsForest joins new

-- the later of the two is linked to the earlier
abbrev pub linked_roots : List ℕ → ℕ → ℕ → List ℕ
linked_roots parents a b = if nat_lt a b then slice_set parents b a else slice_set parents a b

-- the sides of the join were brought together: what led to one root still does, and so do they
pub record Unites (join : Join) (old new : List ℕ) : Type 0 where
  pub count : length new ≡ length old
  pub back : LeadBack new
  pub reported : (a b : ℕ) → HaveOneRoot old a b → HaveOneRoot new a b
  pub united : HaveOneRoot new join.left join.right
  pub forest : (joins : List Join) → Contains joins join → IsForest joins old → IsForest joins new

-- the sides of the first joins of a span were brought together
pub record UnitesSpan (span : Span) (steps : ℕ) (old new : List ℕ) : Type 0 where
  pub count : length new ≡ length old
  pub back : LeadBack new
  pub reported : (a b : ℕ) → HaveOneRoot old a b → HaveOneRoot new a b
  pub united : (step : ℕ) → step < steps → HaveOneRoot new (join_at span step).left (join_at span step).right
  pub forest : (joins : List Join) → ((step : ℕ) → step < steps → Contains joins (join_at span step))
      → IsForest joins old → IsForest joins new

-- the sides of all joins of the first spans were brought together
pub record UnitesFirst (spans : List Span) (first : ℕ) (old new : List ℕ) : Type 0 where
  pub count : length new ≡ length old
  pub back : LeadBack new
  pub united : (join : Join) → IsAmongFirst spans first join → HaveOneRoot new join.left join.right
  pub forest : (joins : List Join) → ((join : Join) → IsAmongFirst spans first join → Contains joins join)
      → IsForest joins old → IsForest joins new

-- this many wires are each linked to themselves
abbrev pub AreTheirOwn : ℕ → List ℕ → Type 0
AreTheirOwn wires parents = (w : ℕ) → w < wires → slice_index parents w ≡ w

-- the list has the roots of the first wires
abbrev pub AreRoots : List ℕ → ℕ → List ℕ → Type 0
AreRoots parents count roots = (w : ℕ) → w < count → HasRoot parents w (slice_index roots w)
