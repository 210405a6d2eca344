-- The text of the cells of generated chips.
use Rattle.std.specs.Prelude.{ℕ, List, ◌++◌, codes}

-- an inverter
abbrev pub inv_text : List ℕ
inv_text =
    codes ".SUBCKT INV A ZN VDD VSS\n"
    ++ (codes "*.PININFO A:I ZN:O VDD:P VSS:G\n"
    ++ (codes "MP1 ZN A VDD VDD pch W=0.63u L=0.05u\n"
    ++ (codes "MN1 ZN A VSS VSS nch W=0.415000U L=0.05u\n"
    ++ codes ".ENDS\n")))

-- a NAND of two inputs
abbrev pub nand2_text : List ℕ
nand2_text =
    codes ".SUBCKT NAND2 A1 A2 ZN VDD VSS\n"
    ++ (codes "*.PININFO A1:I A2:I ZN:O VDD:P VSS:G\n"
    ++ (codes "MP1 ZN A1 VDD VDD pch W=0.63u L=0.05u\n"
    ++ (codes "MP2 ZN A2 VDD VDD pch W=0.63u L=0.05u\n"
    ++ (codes "MN1 ZN A1 n1 VSS nch W=4.15e-07 L=0.05u\n"
    ++ (codes "MN2 n1 A2 VSS VSS nch W=4.15e-07\n"
    ++ (codes "+ L=0.05u\n"
    ++ codes ".ENDS NAND2\n"))))))

-- a NOR of two inputs
abbrev pub nor2_text : List ℕ
nor2_text =
    codes ".SUBCKT NOR2 A1 A2 ZN VDD VSS\n"
    ++ (codes "*.PININFO A1:I A2:I ZN:O VDD:P VSS:G\n"
    ++ (codes "MP1 p1 A1 VDD VDD pch W=0.63u L=0.05u\n"
    ++ (codes "MP2 ZN A2 p1 VDD pch W=0.63u L=0.05u\n"
    ++ (codes "MN1 ZN A1 VSS VSS nch W=0.415u L=0.05u\n"
    ++ (codes "MN2 ZN A2 VSS VSS nch W=0.415u L=0.05u\n"
    ++ codes ".ENDS\n")))))

-- the three, one after another
unfoldable pub library_text : List ℕ
library_text = inv_text ++ (nand2_text ++ nor2_text)
