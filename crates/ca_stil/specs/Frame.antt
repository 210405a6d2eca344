-- What is between the groups and the patterns: the timing, the chains, the burst and the macro that shifts.
use Rattle.std.specs.Prelude.{ℕ, ◌+◌, List, [], ◌∷◌, ◌++◌, length, codes, decimal}
use Rattle.ca_stil.specs.declared.chip.StilChain.{StilChain}
use Rattle.ca_stil.specs.declared.chip.StilChip.{StilChip}
use Rattle.ca_stil.specs.declared.chip.End.{End}
use Rattle.ca_stil.specs.declared.chip.End.TheVariants as at
use Rattle.ca_stil.specs.Chip.{end_of}
use Rattle.ca_stil.specs.Words.{quoted}

-- the waveforms of the chip inputs, of the observed outputs, and of the scan groups; each where there are
-- members
unfoldable pub input_waves : List (List ℕ) → List ℕ
input_waves [] = []
input_waves (name ∷ names) = codes "      \"_pi_\" { 01 { '0ns' D/U; } }\n"

unfoldable pub output_waves : List (List ℕ) → List ℕ
output_waves [] = []
output_waves (name ∷ names) = codes "      \"_po_\" { LHX { '0ns' X; '90ns' L/H/X; } }\n"

unfoldable pub scan_waves : List StilChain → List ℕ
scan_waves [] = []
scan_waves (chain ∷ chains) =
    codes "      \"_ctl_\" { 01 { '0ns' D/U; } P { '0ns' D; '45ns' U; '55ns' D; } }\n"
    ++ (codes "      \"_si_\" { 01 { '0ns' D/U; } }\n"
    ++ codes "      \"_so_\" { LHX { '0ns' X; '40ns' L/H/X; } }\n")

-- the block of the timing
unfoldable pub timing_text : StilChip → List ℕ
timing_text chip =
    codes "Timing {\n  WaveformTable \"_wft_\" {\n    Period '100ns';\n    Waveforms {\n"
    ++ (input_waves chip.inputs ++ (output_waves chip.outputs ++ (scan_waves chip.chains
    ++ codes "    }\n  }\n}\n")))

-- a chain's block begins, with the chain's number
unfoldable pub chain_begins : ℕ → List ℕ
chain_begins number = codes "  ScanChain " ++ (quoted (codes "chain" ++ decimal number) ++ codes " {\n")

-- how many cells it has
unfoldable pub length_line : StilChain → List ℕ
length_line chain = codes "    ScanLength " ++ (decimal (length chain.places) ++ codes ";\n")

-- the port at an end of it
unfoldable pub port_line : List ℕ → End → StilChain → List ℕ
port_line word end chain = word ++ (quoted (end_of end chain) ++ codes ";\n")

-- the block of a chain
unfoldable pub chain_text : ℕ → StilChain → List ℕ
chain_text number chain =
    chain_begins number ++ (length_line chain
    ++ (port_line (codes "    ScanIn ") at.In chain
    ++ (port_line (codes "    ScanOut ") at.Out chain ++ codes "  }\n")))

-- the blocks of the chains, the first of which has this number
unfoldable pub chains_text : ℕ → List StilChain → List ℕ
chains_text number [] = []
chains_text number (chain ∷ chains) = chain_text number chain ++ chains_text (number + 1) chains

-- the block of all chains, where there are some
unfoldable pub structures_of_text : List StilChain → List ℕ
structures_of_text chains = codes "ScanStructures {\n" ++ (chains_text 0 chains ++ codes "}\n")

abbrev pub structures_text : List StilChain → List ℕ
structures_text [] = []
structures_text (chain ∷ chains) = structures_of_text (chain ∷ chains)

-- the blocks of the burst
unfoldable pub burst_text : List ℕ
burst_text =
    codes "PatternBurst \"_burst_\" {\n  PatList { \"_pattern_\"; }\n}\n"
    ++ codes "PatternExec {\n  PatternBurst \"_burst_\";\n}\n"

-- the ports of the chains at one end, as they are shifted
unfoldable pub shifted_text : End → List StilChain → List ℕ
shifted_text end [] = []
shifted_text end (chain ∷ chains) =
    codes " " ++ (quoted (end_of end chain) ++ (codes "=#;" ++ shifted_text end chains))

-- the block of the macro that shifts the chains, where there are some
unfoldable pub macro_of_text : List StilChain → List ℕ
macro_of_text chains =
    codes "MacroDefs {\n  \"_shift_\" {\n    W \"_wft_\";\n    Shift {\n      V { \"_ctl_\"=1P1;"
    ++ (shifted_text at.In chains ++ (shifted_text at.Out chains ++ codes " }\n    }\n  }\n}\n"))

abbrev pub macro_text : List StilChain → List ℕ
macro_text [] = []
macro_text (chain ∷ chains) = macro_of_text (chain ∷ chains)
