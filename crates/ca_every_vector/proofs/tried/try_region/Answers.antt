use Rattle.std.proofs.Common.{◌≡◌, ◌∙◌, ◌⊎◌, ℕ, List, inl, inr, sym, subst, ap}
use Rattle.std.specs.List.{Contains}
use Rattle.ca_net.specs.declared.trit.Trit.{Trit}
use Rattle.ca_net.specs.State.{value_at}
use Rattle.ca_flat.specs.Chip.{Chip}
use Rattle.ca_every_vector.specs.code.Fixed.{AreFixed}
use Rattle.ca_every_vector.specs.code.Region.{AreKnownWithin, AreNetsIn}
use Rattle.ca_every_vector.proofs.RegionLemmas.{known_listed}
use Rattle.ca_every_vector.proofs.tried.try_region.Goals as goal

pub try_all-requires-clause-within : goal.try_all-requires-clause-within
try_all-requires-clause-within c = λ net. inl (ap (λ list. value_at list net) c.requires.values ∙ c.requires.fixed.each net)

same_as : (chip : Chip) (inputs parts nets : List ℕ) (fixed values : List Trit) (net : ℕ) → AreFixed chip fixed → AreKnownWithin chip inputs parts values
    → AreNetsIn chip inputs parts nets → (value_at values net ≡ value_at fixed net) ⊎ Contains nets net
same_as chip inputs parts nets fixed values net is within listed = elim (known_listed chip inputs parts nets values within listed net) [
  | inl same ↦ inl (same ∙ sym (is.each net))
  | inr has ↦ inr has
]

pub restore-requires-clause-same : goal.restore-requires-clause-same
restore-requires-clause-same c = λ net.
    subst (λ (list : List ℕ). (value_at c.try_all.new.values net ≡ value_at c.args.fixed.now net) ⊎ Contains list net) (sym c.as_slice.ensures.value)
    (same_as c.args.chip.now.core c.args.region.now.inputs.items c.args.region.now.parts.items c.args.region.now.nets.items c.args.fixed.now c.try_all.new.values net
    c.requires.fixed c.in_ok-try_all.ensures.within c.requires.region.nets_are)

pub restore-requires-2-clause-same : goal.restore-requires-2-clause-same
restore-requires-2-clause-same c = λ net.
    subst (λ (list : List ℕ). (value_at c.try_all.new.others net ≡ value_at c.args.fixed.now net) ⊎ Contains list net) (sym c.as_slice-2.ensures.value)
    (same_as c.args.chip.now.core c.args.region.now.inputs.items c.args.region.now.parts.items c.args.region.now.nets.items c.args.fixed.now c.try_all.new.others net
    c.requires.fixed (subst (AreKnownWithin c.args.chip.now.core c.args.region.now.inputs.items c.args.region.now.parts.items) (sym c.in_ok-try_all.ensures.rest)
    c.in_ok-try_all.ensures.within) c.requires.region.nets_are)
