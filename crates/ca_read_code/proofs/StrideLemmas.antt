-- One token.
use Rattle.std.proofs.Common.{◌≡◌, ℕ, ◌<◌, List, [], ◌∷◌, ◌++◌, Bool, false, sym, ◌∙◌}
use Rattle.std.proofs.Common.{ap, subst, arith}
use Rattle.std.specs.Prelude.{not, Option, None, Some}
use Rattle.ca_net.specs.declared.trit.Trit.{Trit}
use Rattle.ca_net.specs.declared.trit.Trit.TheVariants.{X}
use Rattle.ca_net.specs.State.{value_at}
use Rattle.ca_flat.specs.declared.chip_defect.ChipDefect.{ChipDefect}
use Rattle.ca_flat.specs.declared.token.Token.TheVariants.{Branch, Leaf}
use Rattle.ca_flat.specs.Chip.{Chip}
use Rattle.ca_flat.specs.Codes.{At, unset_pair, with_bit, after_tree, Reads}
use Rattle.ca_flat.proofs.Codes.{support_within}
use Rattle.ca_flat.specs.Pair.{bit_count}
use Rattle.ca_read_code.specs.declared.walk.Decision.{Decision}
use Rattle.ca_read_code.specs.declared.walk.Stride.TheVariants.{Falls, Ends, Goes}
use Rattle.ca_read_code.specs.Examined.{Examined, with_pair, MayLeaveHere, MayBranchFor, MayBranchHere}
use Rattle.ca_read_code.specs.CodeEnd.{rules_of}
use Rattle.ca_read_code.specs.code.Walk.{Follows, still_later, reading_of, TurnsTo, IsStride}
use Rattle.ca_read_code.proofs.WalkLemmas.{pair_after_push, later_after_push, fresh_push, length-pair_after}
use Rattle.ca_read_code.proofs.WalkLemmas.{length-unset}

-- a bit on which a branch may stand is one of the pattern bits
within_for : (chip : Chip) (aim : Option ChipDefect) (pair : List Trit) (bit : ℕ) → MayBranchFor chip aim pair bit
    → bit < bit_count chip
within_for chip None pair bit may = absurd may
within_for chip (Some defect) pair bit may = support_within chip defect bit may.supports

unset_for : (chip : Chip) (aim : Option ChipDefect) (pair : List Trit) (bit : ℕ) → MayBranchFor chip aim pair bit
    → value_at pair bit ≡ X
unset_for chip None pair bit may = absurd may
unset_for chip (Some defect) pair bit may = may.unset

pub branch_within : (examined : Examined) (bit : ℕ) → MayBranchHere examined bit → bit < bit_count examined.chip
branch_within examined bit may = within_for examined.chip examined.aim examined.pair bit may

-- a first decision
abbrev pub first_to : ℕ → Bool → Decision
first_to bit first = record { bit = bit; value = first; is_second = false }

-- a branch that may not stand
pub branch_falls : (old new : Examined) (ds after : List Decision) (bit : ℕ) (first : Bool)
    → (MayBranchHere old bit → ⊥) → IsStride (Branch bit first) old new ds after Falls
branch_falls old new ds after bit first not rest to reads = not reads.0

-- a leaf that may not stand
pub leaf_falls : (old new : Examined) (ds after : List Decision)
    → (MayLeaveHere old → ⊥) → IsStride Leaf old new ds after Falls
leaf_falls old new ds after not rest to reads = not reads.0

module _ (old : Examined) (ds : List Decision) (bit : ℕ) (first : Bool) (follows : Follows old ds)
    (may : MayBranchHere old bit) where
  unset : List Trit
  unset = unset_pair old.chip

  branched : Examined
  branched = with_pair old (with_bit old.pair bit first)

  branched_follows : Follows (with_pair old (with_bit old.pair bit first)) (ds ++ first_to bit first ∷ [])
  branched_follows = record {
    at = ap (λ pair. with_bit pair bit first) follows.at
        ∙ sym (pair_after_push ds (first_to bit first) (unset_pair old.chip));
    fresh = fresh_push ds (first_to bit first) (unset_pair old.chip) follows.fresh
        (let l = length-pair_after ds (unset_pair old.chip) in let k = length-unset old.chip in
        let s = branch_within old bit may in omega arith)
        (ap (λ pair. value_at pair bit) (sym follows.at) ∙ unset_for old.chip old.aim old.pair bit may);
  }

  branched_reading : At (with_bit old.pair bit first) (with_bit old.pair bit (not first) ∷ still_later old ds)
      ≡ reading_of (with_pair old (with_bit old.pair bit first)) (ds ++ first_to bit first ∷ [])
  branched_reading = ap (λ later. At (with_bit old.pair bit first) later)
      (ap (λ pair. with_bit pair bit (not first) ∷ still_later old ds) follows.at
      ∙ sym (later_after_push ds (first_to bit first) (unset_pair old.chip) []))

  branch_at : IsStride (Branch bit first) old (with_pair old (with_bit old.pair bit first)) ds
      (ds ++ first_to bit first ∷ []) Goes
  branch_at = (
    branched_follows,
    λ rest to. (
      λ reads. subst (λ here. Reads (rules_of old) rest here to) branched_reading reads.1,
      λ reads. (may, subst (λ here. Reads (rules_of old) rest here to) (sym branched_reading) reads),
    ),
  )

-- a branch that may stand
pub branch_goes : (old new : Examined) (ds after : List Decision) (bit : ℕ) (first : Bool) → Follows old ds
    → MayBranchHere old bit → new ≡ with_pair old (with_bit old.pair bit first) → after ≡ ds ++ first_to bit first ∷ []
    → IsStride (Branch bit first) old new ds after Goes
branch_goes old new ds after bit first follows may is_new is_after =
    subst (λ d. IsStride (Branch bit first) old new ds d Goes) (sym is_after)
    (subst (λ e. IsStride (Branch bit first) old e ds (ds ++ first_to bit first ∷ []) Goes) (sym is_new)
    (branch_at old ds bit first follows may))

-- a leaf that may stand, with a pair after it
pub leaf_goes : (old new : Examined) (ds after : List Decision) → MayLeaveHere old → TurnsTo old new ds after
    → IsStride Leaf old new ds after Goes
leaf_goes old new ds after may turn = (
  turn.follows,
  λ rest to. (
    λ reads. subst (λ here. Reads (rules_of old) rest here to) (ap after_tree turn.next) reads.1,
    λ reads. (may, subst (λ here. Reads (rules_of old) rest here to) (sym (ap after_tree turn.next)) reads),
  ),
)

-- a leaf that may stand, and ends the tree
pub leaf_ends : (old new : Examined) (ds after : List Decision) → MayLeaveHere old → still_later old ds ≡ []
    → IsStride Leaf old new ds after Ends
leaf_ends old new ds after may none rest to = (
  λ reads. subst (λ here. Reads (rules_of old) rest here to) (ap after_tree none) reads.1,
  λ reads. (may, subst (λ here. Reads (rules_of old) rest here to) (sym (ap after_tree none)) reads),
)
