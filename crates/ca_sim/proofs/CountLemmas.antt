-- How far evaluations are counted.
use Rattle.std.proofs.Common.{◌≡◌, ◌≢◌, ◌⊎◌, ℕ, ◌+◌, ◌<◌, ◌≤◌, ◌∙◌, List, length, None, inl, inr, sym, ap, subst, arith}
use Rattle.std.proofs.Common.{slice_set, ◌-◌, ◌^◌, cond, nat_lt}
use Rattle.std.specs.Prelude.{slice_index}
use Rattle.std.proofs.lemmas.Bool.{cases_lt, cond-true, cond-false, lt-ltb, le-ltb}
use native.Mathlib.Decide.{ℕ_discrete}
use Rattle.ca_net.specs.declared.trit.Trit.{Trit}
use Rattle.ca_net.specs.declared.wave.Wave.{Wave}
use Rattle.ca_net.specs.State.{value_at}
use Rattle.ca_net.specs.Wave.{pair_of}
use Rattle.ca_response.specs.Gives.{wave_at}
use Rattle.ca_flat.specs.Chip.{Chip}
use Rattle.ca_flat.specs.Chain.{IsBitOf}
use Rattle.ca_flat.specs.Pair.{bit_count}
use Rattle.ca_view.specs.Linked.{Reads, IsLinked, IsPinned}
use Rattle.ca_places.specs.PlaceSet.{Has}
use Rattle.ca_sim.specs.Simulator.{counted_up}
use Rattle.ca_sim.specs.code.Simulator.{CountsOne}
use Rattle.ca_sim.specs.declared.network.Network.{Network}
use Rattle.ca_sim.specs.Network.{IsDue, IsFedAt}
use Rattle.ca_sim.specs.code.Network.{IsUnderway}
use Rattle.ca_sim.proofs.Feeding.{wave_of_input}
use Rattle.ca_sim.proofs.Loading.{changed_first, changed_last}

-- one more, up to a greatest number, rises with the number
rises_to : (most a b : ℕ) → a ≤ b → cond (nat_lt a most) (a + 1) most ≤ cond (nat_lt b most) (b + 1) most
rises_to most a b le = elim (cases_lt a most) [
  | inl low ↦ elim (cases_lt b most) [
    | inl also ↦ between _ _ _ _ (cond-true (nat_lt a most) _ _ (lt-ltb a most low)) (cond-true (nat_lt b most) _ _ (lt-ltb b most also)) (omega arith)
    | inr past ↦ between _ _ _ _ (cond-true (nat_lt a most) _ _ (lt-ltb a most low)) (cond-false (nat_lt b most) _ _ (le-ltb b most past)) (omega arith)
  ]
  | inr high ↦
      let past : most ≤ b = omega arith in
      between _ _ _ _ (cond-false (nat_lt a most) _ _ (le-ltb a most high)) (cond-false (nat_lt b most) _ _ (le-ltb b most past)) (omega arith)
]
  where
    between : (x y p q : ℕ) → x ≡ p → y ≡ q → p ≤ q → x ≤ y
    between x y p q x_is y_is less = omega arith

-- counting goes up with the count
counted_up_rises : (a b : ℕ) → a ≤ b → counted_up a ≤ counted_up b
counted_up_rises a b le = rises_to (2 ^ 64 - 1) a b le

-- one more was counted since an earlier count
pub counted_more : (before middle after : ℕ) → before ≤ middle → CountsOne middle after → counted_up before ≤ after
counted_more before middle after grows one =
    subst (λ n. counted_up before ≤ n) (sym one.is) (counted_up_rises before middle grows)

-- what was counted stays so
pub counted_still : (before middle after : ℕ) → counted_up before ≤ middle → middle ≤ after → counted_up before ≤ after
counted_still before middle after counted grows = let bound : (n : ℕ) → n ≤ middle → n ≤ after = λ n le. omega arith in bound _ counted

-- a place is in a set or not
has_or_not : (net : Network) (place : ℕ) → Has net.due place ⊎ (Has net.due place → ⊥)
has_or_not net place = elim (ℕ_discrete _ _) [
  | yes has ↦ inl has
  | no not ↦ inr not
]

-- the reader of a chip input of which a bit changed is due
pub reader_due : (chip : Chip) (place_of number_of : ℕ → ℕ) (linked : IsLinked chip place_of number_of)
    (pinned : IsPinned chip) (input : ℕ) (lt : input < length chip.inputs) (bits next : List Trit) (first last : Trit)
    (old new : Network) (u : ℕ) → length bits ≡ bit_count chip
    → next ≡ slice_set (slice_set bits input first) (length chip.inputs + input) last
    → IsUnderway chip place_of None bits old → IsFedAt chip place_of input next old new
    → Reads chip u (slice_index chip.inputs input)
    → (first ≢ value_at bits input) ⊎ (last ≢ value_at bits (length chip.inputs + input)) → IsDue place_of new.due u
reader_due chip place_of number_of linked pinned input lt bits next first last old new u count next_is under fed reads differ =
    elim (has_or_not new (place_of u)) [
      | inl has ↦ has
      | inr not ↦
          let net = slice_index chip.inputs input in
          let kept : wave_at new.waves net ≡ wave_at old.waves net =
          subst (λ n. wave_at new.waves n ≡ wave_at old.waves n) reads.on (fed.readers u reads.pin reads.known not reads.within) in
          let was : wave_at old.waves net ≡ pair_of (value_at bits input) (value_at bits (length chip.inputs + input)) =
          under.simulated.inputs net (pinned.within input lt) (pinned.kind input lt)
          ∙ wave_of_input chip place_of number_of linked pinned input lt bits in
          let same : pair_of (value_at next input) (value_at next (length chip.inputs + input))
          ≡ pair_of (value_at bits input) (value_at bits (length chip.inputs + input)) = sym fed.here ∙ kept ∙ was in
          let first_is = changed_first chip bits next input first last lt next_is count in
          let last_is = changed_last chip bits next input first last lt next_is count in
          absurd (elim differ [
            | inl other ↦ other (sym first_is ∙ ap (λ (w : Wave). w.first) same)
            | inr other ↦ other (sym last_is ∙ ap (λ (w : Wave). w.last) same)
          ])
    ]

-- the chip input of a bit is one
pub same_input : (chip : Chip) (bit input other : ℕ) → input < length chip.inputs → other < length chip.inputs
    → IsBitOf chip input bit → IsBitOf chip other bit → input ≡ other
same_input chip bit input other lt also (inl a) (inl b) = sym a ∙ b
same_input chip bit input other lt also (inl a) (inr b) = absurd (omega arith)
same_input chip bit input other lt also (inr a) (inl b) = absurd (omega arith)
same_input chip bit input other lt also (inr a) (inr b) = omega arith

-- a bit that is given another value changes one of the two values of its input
pub bit_differs : (chip : Chip) (bits : List Trit) (bit input : ℕ) (value first last : Trit) → IsBitOf chip input bit
    → (input ≡ bit → first ≡ value) → (length chip.inputs + input ≡ bit → last ≡ value) → value ≢ value_at bits bit
    → (first ≢ value_at bits input) ⊎ (last ≢ value_at bits (length chip.inputs + input))
bit_differs chip bits bit input value first last (inl b) first_is last_is differ =
    inl (λ e. differ (sym (first_is (sym b)) ∙ e ∙ ap (value_at bits) (sym b)))
bit_differs chip bits bit input value first last (inr b) first_is last_is differ =
    inr (λ e. differ (sym (last_is (sym b)) ∙ e ∙ ap (value_at bits) (sym b)))
