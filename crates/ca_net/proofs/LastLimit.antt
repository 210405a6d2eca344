-- The last limit is what every pair run ends with.
use Rattle.std.proofs.Common.{sym, ◌∙◌, inl, inr}
use Rattle.ca_net.specs.Laws.{LastLimitIsEnd}
use Rattle.ca_net.proofs.EndsAbove.{ends_above}
use Rattle.ca_net.proofs.ReachingRun.{ends_at_last}

pub last_limit_is_end_lem : LastLimitIsEnd
last_limit_is_end_lem net v1 vm v2 first middle last n v well_formed lt meets lim = (
  λ h. record {
    definite = h.0;
    every_run = λ end run. elim (ends_above net well_formed v1 vm v2 first middle last meets lim end run n) [
      | inl e ↦ absurd (h.0 (sym h.1 ∙ e))
      | inr e ↦ sym e ∙ h.1
    ];
  },
  λ ends. (ends.definite, ends_at_last net well_formed v1 vm v2 first middle last n v meets lim ends),
)
