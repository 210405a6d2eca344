-- Where nothing is observed, nothing is detected.
use Rattle.std.proofs.Common.{◌≡◌, ℕ, ◌<◌, List, [], refl, inl, arith}
use Rattle.std.specs.List.{Contains}
use Rattle.ca_net.specs.declared.trit.Trit.{Trit}
use Rattle.ca_flat.specs.Pair.{IsSettledPair, IsRuledOut}
use Rattle.ca_flat.specs.Codes.{At, Ended}
use Rattle.ca_flat_tests.specs.Inverter.{open_gate}
use Rattle.ca_flat_tests.specs.Blind.{blind_chip, BlindIsRuledOut}

-- the empty list has no entry
abbrev no_nets : List ℕ
no_nets = []

nothing_in : (net : ℕ) → Contains no_nets net → ⊥
nothing_in net h = let below : h.0 < 0 = h.1 in omega arith

ruled_out : (pair : List Trit) → IsRuledOut blind_chip open_gate pair
ruled_out pair whole completes shown = nothing_in shown.output shown.observed

settled : (pair : List Trit) → IsSettledPair blind_chip open_gate pair
settled pair output observed = absurd (nothing_in output observed)

-- after the only tree there is no pair
ended : (pair : List Trit) (later : List (List Trit)) → Ended ≡ At pair later → ⊥
ended pair later is = cc

pub blind_is_ruled_out_lem : BlindIsRuledOut
blind_is_ruled_out_lem = record {
  settled = settled;
  ruled_out = ruled_out;
  no_support = λ bit support. nothing_in support.output support.observed;
  whole = (ruled_out _, refl);
  checked_whole = (inl (settled _), refl);
  front = record { later = []; reads = refl };
  checked_front = record { later = []; reads = refl };
  nothing_after = λ pair front. ended pair front.later front.reads.1;
  two_leaves = λ whole. whole.1;
  no_branch = λ pair front. nothing_in front.reads.0.supports.output front.reads.0.supports.observed;
  never_spent = λ budget code spent. nothing_in spent.goes_on.supports.output spent.goes_on.supports.observed;
  never_spent_checked = λ budget code spent.
      nothing_in spent.goes_on.may.supports.output spent.goes_on.may.supports.observed;
}
