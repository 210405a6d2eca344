-- Words of the code beside those of `specs/Flood.antt`. Private functions and proofs cite them.
use Rattle.std.specs.Prelude.{ℕ, ◌≡◌, Bool, true, false, List, [], ◌∷◌}
use Rattle.std.specs.List.{Contains}
use Rattle.ca_view.specs.NetLists.{linked_from}
use Rattle.ca_guide.specs.Flood.{Area}

-- The nets, the last of which comes first, are a path: each may be entered and is linked from the one before
-- it, and the first is a root.
abbrev pub IsPath : List (List ℕ) → (ℕ → Bool) → List ℕ → List ℕ → Type 0
IsPath links enters roots [] = ⊥
IsPath links enters roots (net ∷ []) = (enters net ≡ true) × Contains roots net
IsPath links enters roots (net ∷ before ∷ nets) =
    (enters net ≡ true) × Contains (linked_from links before) net × IsPath links enters roots (before ∷ nets)

-- a path leads to the net
pub record IsFlooded (links : List (List ℕ)) (enters : ℕ → Bool) (roots : List ℕ) (net : ℕ) : Type 0 where
  pub before : List ℕ
  pub path : IsPath links enters roots (net ∷ before)

-- the members are the nets to which a path leads, and the flood ends at none of them
pub record IsFlood (links : List (List ℕ)) (area : Area) (roots members : List ℕ) : Type 0 where
  pub begin : (net : ℕ) → Contains roots net → area.enters net ≡ true → Contains members net
  pub onward : (before net : ℕ) → Contains members before → Contains (linked_from links before) net
      → area.enters net ≡ true → Contains members net
  pub flooded : (net : ℕ) → Contains members net → IsFlooded links area.enters roots net
  pub no_end : (net : ℕ) → Contains members net → area.ends net ≡ true → ⊥

-- a path leads to a net at which the flood ends
pub record EndsFlood (links : List (List ℕ)) (area : Area) (roots : List ℕ) : Type 0 where
  pub net : ℕ
  pub flooded : IsFlooded links area.enters roots net
  pub ends : area.ends net ≡ true

-- true where the flood has come to an end net, else the set is what it has flooded
abbrev pub IsFloodTo : Bool → List (List ℕ) → Area → List ℕ → List ℕ → Type 0
IsFloodTo true links area roots members = EndsFlood links area roots
IsFloodTo false links area roots members = IsFlood links area roots members
