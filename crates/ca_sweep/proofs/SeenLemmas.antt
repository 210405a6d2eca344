-- What an answer says.
use Rattle.std.proofs.Common.{◌≡◌, ℕ, List, Option, subst}
use Rattle.ca_net.specs.declared.trit.Trit.{Trit}
use Rattle.ca_flat.specs.Chip.{Chip}
use Rattle.ca_flips.specs.Flips.{AreSwept}
use Rattle.ca_sweep.specs.declared.seen.Flips.{Flips}
use Rattle.ca_sweep.specs.Seen.{flipped_outputs, IsClear, IsFirstIn, IsSeenFrom}

pub seen_from : (chip : Chip) (goods values : ℕ → Trit) (u : ℕ) (flips : Flips) (nets : List ℕ) (answer : Option ℕ) → nets ≡ chip.outputs → IsClear chip goods u
    → AreSwept chip u goods (flipped_outputs chip u goods flips) values → IsFirstIn goods values nets answer → IsSeenFrom chip goods u flips answer
seen_from chip goods values u flips nets answer are clear swept first = record {
  clear = clear;
  values = values;
  swept = swept;
  first = subst (λ list. IsFirstIn goods values list answer) are first;
}
