-- How much there may be of what a command is given, and what is printed where there is more.
use Rattle.std.specs.Prelude.{◌≡◌, ◌++◌, codes, decimal}
use Rattle.ca_cell.specs.declared.library.TheConstants.{MOST_CELLS}
use Rattle.ca_make.specs.declared.gate.TheConstants.{MOST_GATES}
use Rattle.ca_verilog.specs.declared.netlist.TheConstants.{MOST_BITS}
use Rattle.ca_wiring.specs.declared.fault.TheConstants.{MOST_INSTANCES, MOST_CHIP_INPUTS, MOST_CHIP_OUTPUTS}
use Rattle.ca_wiring.specs.declared.fault.TheConstants.{MOST_CHIP_DEFECTS}
use Rattle.ca_scan.specs.declared.whole.TheConstants.{MOST_CHAINS}
use Rattle.ca_credit.specs.declared.limit.TheConstants.{MOST_PAIRS}
use Rattle.ca_fault.specs.declared.fault.LimitKind.TheVariants as limit
use Rattle.ca_fault.specs.KindText.{most_text}
use Rattle.ca_load.specs.declared.cells.TheConstants.{MAX_CELLS}
use Rattle.ca_load.specs.declared.netlists.TheConstants.{MAX_NETLIST}
use Rattle.ca_load.specs.declared.strengths.TheConstants.{MAX_STRENGTHS}
use Rattle.ca_load.specs.declared.tables.TheConstants.{MAX_SCAN}
use Rattle.ca_words.specs.declared.budget.TheConstants.{MOST_BUDGET}
use Rattle.ca_generating.specs.declared.making.TheConstants.{MAKE_BUDGET}
use Rattle.ca_on_chip.specs.declared.replays.TheConstants.{MAX_ORDER}

-- a cell netlist has at most 16 MiB, a gate netlist 64 MiB, a strength table, a table of scan cells and a
-- file of events 1 MiB
pub record FileLimits : Type 0 where
  pub strengths : MAX_STRENGTHS ≡ 1048576
  pub cells : MAX_CELLS ≡ 16777216
  pub netlist : MAX_NETLIST ≡ 67108864
  pub scan : MAX_SCAN ≡ 1048576
  pub order : MAX_ORDER ≡ 1048576

-- a chip has at most 131,072 declared bits of nets, 32,768 library instances, 4,096 chip inputs, 8,192
-- observed outputs, 1,048,576 defects and 64 scan chains
pub record ChipLimits : Type 0 where
  pub nets : MOST_BITS ≡ 131072
  pub instances : MOST_INSTANCES ≡ 32768
  pub inputs : MOST_CHIP_INPUTS ≡ 4096
  pub outputs : MOST_CHIP_OUTPUTS ≡ 8192
  pub defects : MOST_CHIP_DEFECTS ≡ 1048576
  pub chains : MOST_CHAINS ≡ 64

-- at most 65,536 pairs are listed, a budget is at most 65,536, a generated chip has at most 4,096 gates, and
-- its searches have a budget of 64
pub record TestLimits : Type 0 where
  pub pairs : MOST_PAIRS ≡ 65536
  pub budget : MOST_BUDGET ≡ 65536
  pub gates : MOST_GATES ≡ 4096
  pub make_budget : MAKE_BUDGET ≡ 64

-- the number that is printed beside what there is too much of is that of its limit
pub record LimitTexts : Type 0 where
  pub cells : most_text limit.Cells ≡ codes " cells, at most " ++ decimal MOST_CELLS
  pub nets : most_text limit.Nets ≡ codes " nets, at most " ++ decimal MOST_BITS
  pub instances : most_text limit.Instances ≡ codes " instances, at most " ++ decimal MOST_INSTANCES
  pub inputs : most_text limit.Inputs ≡ codes " inputs, at most " ++ decimal MOST_CHIP_INPUTS
  pub outputs : most_text limit.Outputs ≡ codes " outputs, at most " ++ decimal MOST_CHIP_OUTPUTS
  pub defects : most_text limit.Defects ≡ codes " defects, at most " ++ decimal MOST_CHIP_DEFECTS
  pub chains : most_text limit.Chains ≡ codes " chains, at most " ++ decimal MOST_CHAINS
  pub pairs : most_text limit.Pairs ≡ codes " pairs, at most " ++ decimal MOST_PAIRS
