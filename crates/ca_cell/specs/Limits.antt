-- The limits of used cells and of libraries.
use Rattle.std.specs.Prelude.{◌≡◌}
use Rattle.ca_cell.specs.declared.rule.TheConstants.{MOST_DEVICES, MOST_NODES, MOST_INPUTS, MOST_OUTPUTS}
use Rattle.ca_cell.specs.declared.library.TheConstants.{MOST_CELLS}

-- a used cell has at most 192 devices, 192 nodes, 6 input pins and 2 output pins, a library at most 1,024
-- cells
pub record Limits : Type 0 where
  pub devices : MOST_DEVICES ≡ 192
  pub nodes : MOST_NODES ≡ 192
  pub inputs : MOST_INPUTS ≡ 6
  pub outputs : MOST_OUTPUTS ≡ 2
  pub cells : MOST_CELLS ≡ 1024
