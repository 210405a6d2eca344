-- What an instance reaches is in its scope.
use Rattle.std.proofs.Common.{◌≡◌, ◌<◌, ℕ, List, [], ◌∷◌, sym, subst}
use Rattle.std.specs.List.{Contains}
use Rattle.ca_flat.specs.Chip.{Chip, outputs_at, output_net}
use Rattle.ca_flat.specs.Chain.{Feeds, IsChain, IsReachedFrom}
use Rattle.ca_view.specs.Linked.{IsLinked, IsPlaced, Reads}
use Rattle.ca_places.specs.PlaceSet.{Has}
use Rattle.ca_sim.proofs.Putting.{reader_placed}
use Rattle.ca_confined.specs.declared.scope.Scope.{Scope}
use Rattle.ca_confined.specs.code.Scope.{IsSeen}

module _ (chip : Chip) (place_of number_of : ℕ → ℕ) (linked : IsLinked chip place_of number_of) (u : ℕ) (scope : Scope) (own : IsSeen chip place_of u scope)
    (all : (w : ℕ) → IsPlaced chip place_of w → Has scope.reach (place_of w) → IsSeen chip place_of w scope) where
  -- the readers of the net are behind, and if it is observed, it is reached
  record Passed (net : ℕ) : Type 0 where
    readers : (w : ℕ) → Reads chip w net → Has scope.reach (place_of w)
    observed : Contains chip.outputs net → Has scope.outputs net

  -- an output net of an instance that was visited
  output_passed : (w output net : ℕ) → IsSeen chip place_of w scope → output < outputs_at chip w → output_net chip w output ≡ net → Passed net
  output_passed w output net seen within on = record {
    readers = λ v reads. seen.readers output v within (subst (Reads chip v) (sym on) reads);
    observed = λ is. subst (Has scope.outputs) on (seen.observed output within (subst (Contains chip.outputs) (sym on) is));
  }

  fed_passed : (from to : ℕ) → Passed from → Feeds chip from to → Passed to
  fed_passed from to passed feeds =
      let reads : Reads chip feeds.instance from = record { known = feeds.known; pin = feeds.pin; within = feeds.pin_within; on = feeds.reads } in
      output_passed feeds.instance feeds.output to
      (all feeds.instance (reader_placed chip place_of number_of linked feeds.instance from reads) (passed.readers feeds.instance reads)) feeds.output_within feeds.drives

  chain_passed : (from : ℕ) (path : List ℕ) (to : ℕ) → Passed from → IsChain chip from path to → Passed to
  chain_passed from [] to passed chain = subst Passed chain passed
  chain_passed from (next ∷ more) to passed chain = chain_passed next more to (fed_passed from next passed chain.0) chain.1

  pub reached_observed : (net : ℕ) → Contains chip.outputs net → IsReachedFrom chip u net → Has scope.outputs net
  reached_observed net is reached =
      let out = reached.is_output in
      (chain_passed reached.from reached.leads.path net (output_passed u out.output reached.from own out.within out.on) reached.leads.is_chain).observed is
