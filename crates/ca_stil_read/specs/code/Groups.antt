-- Words of the code beside those of `specs/Groups.antt`. Private functions and proofs cite them.
use Rattle.std.specs.Prelude.{ℕ, ◌≡◌, Bool, true, false, List, Option}
use Rattle.ca_names.specs.Names.{has_name}
use Rattle.ca_stil_form.specs.Frame.{Signal, Names, Scan, names_of, fits_in_order, fits_in_number}
use Rattle.ca_stil_read.specs.declared.pool.Pools.{Pools}
use Rattle.ca_stil_read.specs.declared.pool.Fit.{Fit}
use Rattle.ca_stil_read.specs.declared.pool.Fit.TheVariants as fit
use Rattle.ca_stil_read.specs.declared.groups.Groups.{Groups}
use Rattle.ca_stil_read.specs.Groups.{scan_in}

-- what the names have to be
abbrev pub fits_of : Fit → Names → Bool
fits_of (fit.InOrder pool) = fits_in_order pool.now
fits_of (fit.InNumber count set) = fits_in_number count set.now

-- the names are those of the signals, and the sets have the same names
pub record ArePools (signals : List Signal) (pools : Pools) : Type 0 where
  pub ins_are : pools.ins ≡ names_of true signals
  pub outs_are : pools.outs ≡ names_of false signals
  pub in_set_is : (name : List ℕ) → has_name name pools.in_set ≡ has_name name pools.ins
  pub out_set_is : (name : List ℕ) → has_name name pools.out_set ≡ has_name name pools.outs

-- the groups that are there
abbrev pub groups_seen : Groups → Option Names × (Option Names × Option Scan)
groups_seen groups = (groups.inputs, (groups.outputs, scan_in groups.scan))
