-- Where there is an order of those that feed, there is no loop.
use Rattle.std.proofs.Common.{sym, subst, arith}
use Rattle.std.specs.Prelude.{ℕ, Option, IsSomeAnd}
use Rattle.std.specs.List.{Contains}
use Rattle.ca_linked.specs.Order.{HasNoLoop}
use Rattle.ca_linked.specs.Linked.{Body, Gate, Scan, Part, LinkedChip, gate_outputs, Feeds, IsGate, IsLibrary}
use Rattle.ca_linked.specs.Linked.{IsWired}
use Rattle.ca_linked.proofs.OrderLemmas.{no_loop}

module _ (chip : LinkedChip) (is : IsWired chip) where
  -- one that feeds is of a library cell
  feeds_library : (w u : ℕ) → Feeds chip w u → IsLibrary chip w
  feeds_library w u feeds = subst (λ (o : Option Part). IsSomeAnd o (λ part. IsGate part.body)) (sym feeds.is_driver) (by feeds.driver.body feeds.driven)
    where
      by : (body : Body) → Contains (gate_outputs body) feeds.net → IsGate body
      by (Gate cell inputs outputs) has = tt
      by (Scan nets) has = let lt = has.1 in omega arith

  pub no_feeding_loop : HasNoLoop (Feeds chip)
  no_feeding_loop = no_loop (Feeds chip) (IsLibrary chip) chip.order is.ordered feeds_library
