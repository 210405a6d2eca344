-- Last values that are opposite.
use Rattle.std.specs.Prelude.{ℕ, ◌≡◌, ◌<◌, Bool, true, false, List}
use Rattle.ca_net.specs.declared.trit.Trit.{Trit}
use Rattle.ca_net.specs.declared.trit.Trit.TheVariants.{Zero, One, X}
use Rattle.ca_net.specs.declared.wave.Wave.{Wave}
use Rattle.ca_response.specs.Gives.{wave_at}
use Rattle.ca_places.specs.declared.place_set.PlaceSet.{PlaceSet}
use Rattle.ca_places.specs.PlaceSet.{Has}

-- one of the values is 0 and the other 1
abbrev pub are_opposite : Trit → Trit → Bool
are_opposite Zero Zero = false
are_opposite Zero One = true
are_opposite Zero X = false
are_opposite One Zero = true
are_opposite One One = false
are_opposite One X = false
are_opposite X faulty = false

-- the waves end with opposite values at the net
abbrev pub AreOppositeAt : List Wave → List Wave → ℕ → Type 0
AreOppositeAt good faulty net = are_opposite (wave_at good net).last (wave_at faulty net).last ≡ true

-- at some net of the set they do
pub record IsOppositeIn (outputs : PlaceSet) (good faulty : List Wave) : Type 0 where
  pub net : ℕ
  pub has : Has outputs net
  pub opposite : AreOppositeAt good faulty net

-- at no net of the set before this one do they
abbrev pub NoneOpposite : PlaceSet → List Wave → List Wave → ℕ → Type 0
NoneOpposite outputs good faulty end =
    (net : ℕ) → net < end → Has outputs net → AreOppositeAt good faulty net → ⊥
