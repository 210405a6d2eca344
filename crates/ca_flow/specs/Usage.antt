-- The texts that the program has of itself.
use Rattle.std.specs.Prelude.{ℕ, List, ◌++◌, codes}

-- what each command does, by its words
abbrev pub command_lines : List ℕ
command_lines =
    codes "  cellaware respond CELLS CELL VECTOR          the value of each output pin of CELL under VECTOR\n"
    ++ (codes "  cellaware pair CELLS CELL FIRST LAST DEFECT  the same after FIRST and LAST, with DEFECT or -\n"
    ++ (codes "  cellaware defects CELLS CELL                 the names of the defects of CELL\n"
    ++ (codes "  cellaware matrix CELLS CELL OUT              the defect matrix of CELL to OUT, as CSV\n"
    ++ (codes "  cellaware check CELLS NETLIST SCAN           what the chip of NETLIST has, with SCAN or -\n"
    ++ (codes "  cellaware flatten CELLS NETLIST SCAN INSTANCE DEFECT OUT\n"
    ++ (codes "                                               the flat network, good or with DEFECT, to OUT\n"
    ++ (codes "  cellaware simulate CELLS NETLIST SCAN INSTANCE DEFECT FIRST LAST\n"
    ++ (codes "                                               each output after both, without and with DEFECT\n"
    ++ (codes "  cellaware atpg CELLS NETLIST SCAN STIL REPORT BUDGET\n"
    ++ (codes "                                               patterns to STIL and a verdict for each defect to REPORT\n"
    ++ (codes "  cellaware replay CELLS NETLIST SCAN INSTANCE DEFECT FIRST LAST ORDER\n"
    ++ (codes "                                               each output after the events of ORDER between both\n"
    ++ (codes "  cellaware grade CELLS NETLIST SCAN STIL REPORT\n"
    ++ (codes "                                               which defects the patterns in STIL show, to REPORT\n"
    ++ (codes "  cellaware diagnose CELLS NETLIST SCAN STIL LOG OUT\n"
    ++ (codes "                                               which defects the failing outputs in LOG leave, to OUT\n"
    ++ (codes "  cellaware certify CELLS NETLIST SCAN STIL CERT BUDGET\n"
    ++ (codes "                                               patterns to STIL, and to CERT what proves each verdict\n"
    ++ (codes "  cellaware verify CELLS NETLIST SCAN STIL CERT\n"
    ++ (codes "                                               whether each claim in CERT stands for the patterns in STIL\n"
    ++ (codes "  cellaware bridges CELLS NETLIST SCAN INSTANCE STIL REPORT BUDGET\n"
    ++ (codes "                                               patterns for shorts at the pins of INSTANCE, and verdicts\n"
    ++ (codes "  cellaware make N                             test generation on a generated chip of N gates, up to 4096\n"
    ++ (codes "  cellaware --help                             this text\n"
    ++ codes "  cellaware --version                          the version\n"))))))))))))))))))))))))

-- what the exit statuses mean
abbrev pub status_lines : List ℕ
status_lines =
    codes "Exit status: 0 done, 1 bad command line, 2 wrong contents, 3 a limit, 4 a file or the output\n"
    ++ codes "failed, 5 out of memory. One line on the standard error says why.\n"

-- how the program is used
abbrev pub usage_text : List ℕ
usage_text =
    codes "usage: cellaware COMMAND WORDS\n\n"
    ++ (command_lines
    ++ (codes "\nCELLS is a netlist of transistors, in SPICE or CDL; a vector has 0, 1 or X per input pin.\n"
    ++ (codes "NETLIST is a netlist of gates, in Verilog; SCAN is a table of scan cells, as CSV, or -.\n"
    ++ (codes "INSTANCE is one of a cell, and DEFECT one of its defects, or both are -.\n"
    ++ (codes "BUDGET is how many branches each search may have, at most 65536.\n"
    ++ (codes "The words strengths TABLE before a command but make read CELLS under a table of five ratios.\n"
    ++ (codes "The word --progress before a command tells on the standard error how far atpg, grade,\n"
    ++ (codes "diagnose, certify, bridges or make is.\n"
    ++ (codes "ORDER has the events of one run: settle and blur with nodes, set with a node and a value.\n"
    ++ (status_lines
    ++ codes "Documents in the sources: README.md, docs/TUTORIAL.md, docs/FAULTS.md, docs/cellaware.1.\n"))))))))))

-- which version the program is
abbrev pub version_text : List ℕ
version_text = codes "cellaware 0.2.0\n"
