use Rattle.std.proofs.Common.{inl, inr}
use Rattle.ca_planes.specs.Plane.{has_lane}
use Rattle.ca_every_vector.proofs.LaneLemmas.{true_or_false}
use Rattle.ca_every_vector.proofs.lane_tried.rows_for.Goals as goal

pub returns-clause-lasts : goal.returns-clause-lasts
returns-clause-lasts c = λ lane low. elim (true_or_false (has_lane c.in_ok-stays.stays lane)) [
  | inl stays ↦ inl (c.in_ok-stays.ensures.stay lane low stays)
  | inr leaves ↦ inr (λ number less over. elim (c.rows_except.ensures lane number low less over) [
    | inl stays ↦ let e = leaves in cc
    | inr has ↦ has
  ])
]
