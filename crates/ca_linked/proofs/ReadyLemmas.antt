-- A draft that is known to keep the rules on nets.
use Rattle.std.proofs.Common.{◌≡◌, ℕ, List, [], ◌∷◌, inl, inr, refl, sym, ◌∙◌, subst, arith}
use Rattle.std.specs.Prelude.{Option, Some, None}
use Rattle.ca_linked.specs.declared.drivers.Sources.{Sources}
use Rattle.ca_linked.specs.Linked.{Source, FromPort, FromConstant, FromPin, LinkedChip, Drives, Feeds}
use Rattle.ca_linked.specs.Order.{IsSimpleLoop, IsLoop, HasNoLoop}
use Rattle.ca_linked.specs.Drivers.{AreFirst, ComesBefore, sources_at}
use Rattle.ca_linked.specs.code.Drivers.{AreDrivers}
use Rattle.ca_linked.specs.Feeding.{IsDrivenBy, AreSingle}
use Rattle.ca_linked.specs.Wired.{HasOneDriver, AreDriven}

-- nothing comes before itself
not_before : (s : Source) → ComesBefore s s → ⊥
not_before (FromPort a) h = omega arith
not_before (FromConstant v) h = omega arith
not_before (FromPin u pin) h = elim h [ inl lt ↦ omega arith | inr same ↦ let lt = same.1 in omega arith ]

single_by : (chip : LinkedChip) (net : ℕ) (table : List Sources) (one two : Option Source) → (sources_at table net).first ≡ one
    → AreFirst (Drives chip net) one two → HasOneDriver chip net → IsDrivenBy chip table net
single_by chip net table None None e first is = absurd (first is.source is.only.has)
single_by chip net table None (Some two) e first is = absurd first
single_by chip net table (Some one) None e first is = record { source = one; reported = e; only = first }
single_by chip net table (Some one) (Some two) e first is =
    let same : one ≡ two = is.only.none_other one first.one_has ∙ sym (is.only.none_other two first.two_has) in
    absurd (not_before two (subst (λ (s : Source). ComesBefore s two) same first.in_order))

-- the table of a chip in which each net has one driver
pub are_single : (chip : LinkedChip) (table : List Sources) → AreDrivers chip table → AreDriven chip → AreSingle chip table
are_single chip table drivers driven = record {
  count = drivers.count;
  each = λ net lt. single_by chip net table (sources_at table net).first (sources_at table net).second refl (drivers.first net lt) (driven net lt);
}

-- a loop is a chain that returns to its first
pub no_such_loop : (chip : LinkedChip) (loop : List ℕ) → HasNoLoop (Feeds chip) → IsSimpleLoop (Feeds chip) loop → ⊥
no_such_loop chip loop none is = by loop is.0
  where
    by : (list : List ℕ) → IsLoop (Feeds chip) list → ⊥
    by [] h = h
    by (u ∷ more) h = none u more h.0
