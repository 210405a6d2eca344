-- The lines of a generated chip are spelled as the items of its tree.
use Rattle.std.proofs.Common.{◌≡◌, ℕ, List, [], ◌∷◌, ◌++◌}
use Rattle.std.proofs.Common.{Bool, true, false, ◌-◌, nat_lt, if◌then◌else◌, refl, sym, ap, ◌∙◌, subst, arith}
use Rattle.std.proofs.Common.{append_assoc, codes}
use Rattle.ca_token.specs.Piece.{piece_of, open_piece}
use Rattle.ca_token.specs.Bytes.{is_name_byte}
use Rattle.ca_token.specs.Scan.{scan_from}
use Rattle.ca_verilog.specs.declared.lexeme.Lexeme.{Lexeme}
use Rattle.ca_verilog.specs.declared.lexeme.Lexeme.TheVariants as lexeme
use Rattle.ca_verilog.specs.declared.table.Direction.TheVariants.{Input, Output, Inner}
use Rattle.ca_verilog.specs.Lexeme.{word_of, sign_of}
use Rattle.ca_syntax.specs.Symbols.{Symbol, symbol_of, item_symbols}
use Rattle.ca_make.specs.declared.gate.Gate.{Gate}
use Rattle.ca_make.specs.declared.gate.Gate.TheVariants as gate
use Rattle.ca_make.specs.declared.gate.TheConstants.{INPUTS}
use Rattle.ca_make.specs.code.Chip.{IsWithin}
use Rattle.ca_make.specs.NetlistText.{numbered, candidate, declaration_line}
use Rattle.ca_make.specs.NetlistText.{instance_line, assign_line}
use Rattle.ca_make_laws.specs.ChipTree.{declared, instance_item, assign_item}
use Rattle.ca_make_laws.proofs.SpellLemmas.{Gives, IsWord, gives_both, gives_blank, gives_sign}
use Rattle.ca_make_laws.proofs.SpellLemmas.{gives_word, gives_open, gives_opened}
use Rattle.ca_make_laws.proofs.WordLemmas.{IsSmall, i_word, o_word, u_word, w_word, i_name, o_name, u_name}
use Rattle.ca_make_laws.proofs.WordLemmas.{w_name}

pub same_text : (one other : List ℕ) (symbols : List Symbol) → one ≡ other → Gives one symbols → Gives other symbols
same_text one other symbols is = subst (λ (t : List ℕ). Gives t symbols) is

-- white space and signs
pub space : Gives (32 ∷ []) []
unfolding scan_from piece_of
space = gives_blank 32 (λ b place rest. refl)

pub newline : Gives (10 ∷ []) []
unfolding scan_from piece_of
newline = gives_blank 10 (λ b place rest. refl)

pub semicolon : Gives (59 ∷ []) (Symbol.other lexeme.Semicolon ∷ [])
unfolding scan_from piece_of sign_of
semicolon = gives_sign 59 (Symbol.other lexeme.Semicolon) (λ rest b place. refl) refl

pub comma : Gives (44 ∷ []) (Symbol.other lexeme.Comma ∷ [])
unfolding scan_from piece_of sign_of
comma = gives_sign 44 (Symbol.other lexeme.Comma) (λ rest b place. refl) refl

pub close : Gives (41 ∷ []) (Symbol.other lexeme.Close ∷ [])
unfolding scan_from piece_of sign_of
close = gives_sign 41 (Symbol.other lexeme.Close) (λ rest b place. refl) refl

dot : Gives (46 ∷ []) (Symbol.other lexeme.Dot ∷ [])
unfolding scan_from piece_of sign_of
dot = gives_sign 46 (Symbol.other lexeme.Dot) (λ rest b place. refl) refl

equals : Gives (61 ∷ []) (Symbol.other lexeme.Equals ∷ [])
unfolding scan_from piece_of sign_of
equals = gives_sign 61 (Symbol.other lexeme.Equals) (λ rest b place. refl) refl

-- words and keywords
pub record IsNamed (word : List ℕ) : Type 0 where
  pub spelled : IsWord word
  pub name : word_of word ≡ lexeme.Name

pub module_word : IsWord (codes "module")
unfolding scan_from piece_of open_piece
module_word = record {
  first = 109;
  more = codes "odule";
  is = refl;
  begins = λ rest b place. refl;
  bytes = refl;
  opened = λ rest b place. refl;
}

pub input_word : IsWord (codes "input")
unfolding scan_from piece_of open_piece
input_word = record {
  first = 105;
  more = codes "nput";
  is = refl;
  begins = λ rest b place. refl;
  bytes = refl;
  opened = λ rest b place. refl;
}

pub output_word : IsWord (codes "output")
unfolding scan_from piece_of open_piece
output_word = record {
  first = 111;
  more = codes "utput";
  is = refl;
  begins = λ rest b place. refl;
  bytes = refl;
  opened = λ rest b place. refl;
}

pub wire_word : IsWord (codes "wire")
unfolding scan_from piece_of open_piece
wire_word = record {
  first = 119;
  more = codes "ire";
  is = refl;
  begins = λ rest b place. refl;
  bytes = refl;
  opened = λ rest b place. refl;
}

pub assign_word : IsWord (codes "assign")
unfolding scan_from piece_of open_piece
assign_word = record {
  first = 97;
  more = codes "ssign";
  is = refl;
  begins = λ rest b place. refl;
  bytes = refl;
  opened = λ rest b place. refl;
}

pub endmodule_word : IsWord (codes "endmodule")
unfolding scan_from piece_of open_piece
endmodule_word = record {
  first = 101;
  more = codes "ndmodule";
  is = refl;
  begins = λ rest b place. refl;
  bytes = refl;
  opened = λ rest b place. refl;
}

pub gen_word : IsWord (codes "gen")
unfolding scan_from piece_of open_piece
gen_word = record {
  first = 103;
  more = codes "en";
  is = refl;
  begins = λ rest b place. refl;
  bytes = refl;
  opened = λ rest b place. refl;
}

pub inv_word : IsWord (codes "INV")
unfolding scan_from piece_of open_piece
inv_word = record {
  first = 73;
  more = codes "NV";
  is = refl;
  begins = λ rest b place. refl;
  bytes = refl;
  opened = λ rest b place. refl;
}

pub nand2_word : IsWord (codes "NAND2")
unfolding scan_from piece_of open_piece
nand2_word = record {
  first = 78;
  more = codes "AND2";
  is = refl;
  begins = λ rest b place. refl;
  bytes = refl;
  opened = λ rest b place. refl;
}

pub nor2_word : IsWord (codes "NOR2")
unfolding scan_from piece_of open_piece
nor2_word = record {
  first = 78;
  more = codes "OR2";
  is = refl;
  begins = λ rest b place. refl;
  bytes = refl;
  opened = λ rest b place. refl;
}

pub a_word : IsWord (codes "A")
unfolding scan_from piece_of open_piece
a_word = record {
  first = 65;
  more = codes "";
  is = refl;
  begins = λ rest b place. refl;
  bytes = refl;
  opened = λ rest b place. refl;
}

pub a1_word : IsWord (codes "A1")
unfolding scan_from piece_of open_piece
a1_word = record {
  first = 65;
  more = codes "1";
  is = refl;
  begins = λ rest b place. refl;
  bytes = refl;
  opened = λ rest b place. refl;
}

pub a2_word : IsWord (codes "A2")
unfolding scan_from piece_of open_piece
a2_word = record {
  first = 65;
  more = codes "2";
  is = refl;
  begins = λ rest b place. refl;
  bytes = refl;
  opened = λ rest b place. refl;
}

pub zn_word : IsWord (codes "ZN")
unfolding scan_from piece_of open_piece
zn_word = record {
  first = 90;
  more = codes "N";
  is = refl;
  begins = λ rest b place. refl;
  bytes = refl;
  opened = λ rest b place. refl;
}

pub gen_named : IsNamed (codes "gen")
unfolding word_of
gen_named = record { spelled = gen_word; name = refl }

pub inv_named : IsNamed (codes "INV")
unfolding word_of
inv_named = record { spelled = inv_word; name = refl }

pub nand2_named : IsNamed (codes "NAND2")
unfolding word_of
nand2_named = record { spelled = nand2_word; name = refl }

pub nor2_named : IsNamed (codes "NOR2")
unfolding word_of
nor2_named = record { spelled = nor2_word; name = refl }

pub a_named : IsNamed (codes "A")
unfolding word_of
a_named = record { spelled = a_word; name = refl }

pub a1_named : IsNamed (codes "A1")
unfolding word_of
a1_named = record { spelled = a1_word; name = refl }

pub a2_named : IsNamed (codes "A2")
unfolding word_of
a2_named = record { spelled = a2_word; name = refl }

pub zn_named : IsNamed (codes "ZN")
unfolding word_of
zn_named = record { spelled = zn_word; name = refl }

pub i_named : (k : ℕ) → IsSmall k → IsNamed (numbered (codes "i") k)
i_named k below = record { spelled = i_word k below; name = i_name k below }

pub o_named : (k : ℕ) → IsSmall k → IsNamed (numbered (codes "o") k)
o_named k below = record { spelled = o_word k below; name = o_name k below }

pub u_named : (k : ℕ) → IsSmall k → IsNamed (numbered (codes "u") k)
u_named k below = record { spelled = u_word k below; name = u_name k below }

pub w_named : (k : ℕ) → IsSmall k → IsNamed (numbered (codes "w") k)
w_named k below = record { spelled = w_word k below; name = w_name k below }

-- a name and what follows it
pub gives_name : (word : List ℕ) (next : ℕ) (tail : List ℕ) (symbols : List Symbol) → IsNamed word
    → is_name_byte next ≡ false → Gives (next ∷ tail) symbols
    → Gives (word ++ next ∷ tail) (Symbol.identifier word ∷ symbols)
gives_name word next tail symbols it ends gives =
    gives_word word next tail (Symbol.identifier word) symbols it.spelled (ap (λ (l : Lexeme). symbol_of l word) it.name) ends gives

-- a keyword and a space before what follows it
pub gives_keyword : (word : List ℕ) (it : Symbol) (tail : List ℕ) (symbols : List Symbol) → IsWord word
    → symbol_of (word_of word) word ≡ it → Gives tail symbols → Gives (word ++ 32 ∷ tail) (it ∷ symbols)
gives_keyword word it tail symbols is same gives =
    gives_word word 32 tail it symbols is same refl (gives_both (32 ∷ []) tail [] symbols space gives)

pub line_end : Gives (codes ";\n") (Symbol.other lexeme.Semicolon ∷ [])
line_end = gives_both (59 ∷ []) (10 ∷ []) (Symbol.other lexeme.Semicolon ∷ []) [] semicolon newline

-- two spaces before a line
indented : (tail : List ℕ) (symbols : List Symbol) → Gives tail symbols → Gives (32 ∷ 32 ∷ tail) symbols
indented tail symbols gives = gives_both (32 ∷ []) (32 ∷ tail) [] symbols space (gives_both (32 ∷ []) tail [] symbols space gives)

-- the line of a declaration
declared_line : (keyword name : List ℕ) (it : Symbol) → IsWord keyword → symbol_of (word_of keyword) keyword ≡ it → IsNamed name
    → Gives (32 ∷ 32 ∷ (keyword ++ 32 ∷ (name ++ codes ";\n")))
    (it ∷ Symbol.identifier name ∷ Symbol.other lexeme.Semicolon ∷ [])
declared_line keyword name it is same named =
    indented (keyword ++ 32 ∷ (name ++ codes ";\n")) (it ∷ Symbol.identifier name ∷ Symbol.other lexeme.Semicolon ∷ [])
    (gives_keyword keyword it (name ++ codes ";\n") (Symbol.identifier name ∷ Symbol.other lexeme.Semicolon ∷ []) is same
    (gives_name name 59 (10 ∷ []) (Symbol.other lexeme.Semicolon ∷ []) named refl line_end))

pub input_line : (k : ℕ) → IsSmall k
    → Gives (declaration_line (codes "  input i") k) (item_symbols (declared Input (numbered (codes "i") k)))
unfolding word_of
input_line k below =
    declared_line (codes "input") (numbered (codes "i") k) (Symbol.other lexeme.Input) input_word refl (i_named k below)

pub output_line : (k : ℕ) → IsSmall k
    → Gives (declaration_line (codes "  output o") k) (item_symbols (declared Output (numbered (codes "o") k)))
unfolding word_of
output_line k below =
    declared_line (codes "output") (numbered (codes "o") k) (Symbol.other lexeme.Output) output_word refl (o_named k below)

pub wire_line : (k : ℕ) → IsSmall k
    → Gives (declaration_line (codes "  wire w") k) (item_symbols (declared Inner (numbered (codes "w") k)))
unfolding word_of
wire_line k below =
    declared_line (codes "wire") (numbered (codes "w") k) (Symbol.other lexeme.Wire) wire_word refl (w_named k below)

-- a pin with the name that is on it, before what follows it
pin_gives : (pin name tail : List ℕ) (symbols : List Symbol) → IsNamed pin → IsNamed name → Gives tail symbols
    → Gives (46 ∷ (pin ++ 40 ∷ (name ++ 41 ∷ tail)))
    (Symbol.other lexeme.Dot ∷ Symbol.identifier pin ∷ Symbol.other lexeme.Open ∷ Symbol.identifier name
    ∷ Symbol.other lexeme.Close ∷ symbols)
pin_gives pin name tail symbols is_pin is_name gives =
    gives_both (46 ∷ []) (pin ++ 40 ∷ (name ++ 41 ∷ tail)) (Symbol.other lexeme.Dot ∷ []) _ dot
    (gives_name pin 40 (name ++ 41 ∷ tail) _ is_pin refl
    (gives_opened name (41 ∷ tail) _ is_name.spelled
    (gives_name name 41 tail _ is_name refl
    (gives_both (41 ∷ []) tail (Symbol.other lexeme.Close ∷ []) symbols close gives))))

-- a candidate is a name
candidate_named : (place : ℕ) → IsSmall place → IsNamed (candidate place)
candidate_named place below = by (nat_lt place INPUTS)
  where
    by : (b : Bool) → IsNamed (if b then numbered (codes "i") place else numbered (codes "w") (place - INPUTS))
    by true = i_named place below
    by false = w_named (place - INPUTS) (omega (arith, below))

-- the output of a gate, which ends its line
abbrev last_pin : ℕ → List ℕ
last_pin k = numbered (codes ", .ZN(w") k ++ codes "));\n"

abbrev last_symbols : ℕ → List Symbol
last_symbols k = Symbol.other lexeme.Comma ∷ Symbol.other lexeme.Dot ∷ Symbol.identifier (codes "ZN") ∷ Symbol.other lexeme.Open
    ∷ Symbol.identifier (numbered (codes "w") k) ∷ Symbol.other lexeme.Close ∷ Symbol.other lexeme.Close
    ∷ Symbol.other lexeme.Semicolon ∷ []

last_gives : (k : ℕ) → IsSmall k → Gives (last_pin k) (last_symbols k)
last_gives k below =
    gives_both (44 ∷ []) _ (Symbol.other lexeme.Comma ∷ []) _ comma
    (gives_both (32 ∷ []) _ [] _ space
    (pin_gives (codes "ZN") (numbered (codes "w") k) (codes ");\n") _ zn_named (w_named k below)
    (gives_both (41 ∷ []) (codes ";\n") (Symbol.other lexeme.Close ∷ []) _ close line_end)))

-- the cell and the name of an instance, before its pins
abbrev lead : List ℕ → ℕ → List ℕ → List ℕ
lead cell k pins = codes "  " ++ (cell ++ (numbered (codes " u") k ++ (codes " (" ++ pins)))

lead_gives : (cell : List ℕ) (k : ℕ) (tail : List ℕ) (symbols : List Symbol) → IsNamed cell → IsSmall k → Gives (46 ∷ tail) symbols
    → Gives (lead cell k (46 ∷ tail))
    (Symbol.identifier cell ∷ Symbol.identifier (numbered (codes "u") k) ∷ Symbol.other lexeme.Open ∷ symbols)
unfolding scan_from piece_of open_piece
lead_gives cell k tail symbols is_cell below gives =
    indented _ _ (gives_name cell 32 (numbered (codes "u") k ++ (32 ∷ 40 ∷ 46 ∷ tail)) _ is_cell refl
    (gives_both (32 ∷ []) _ [] _ space
    (gives_name (numbered (codes "u") k) 32 (40 ∷ 46 ∷ tail) _ (u_named k below) refl
    (gives_both (32 ∷ []) _ [] _ space (gives_open 46 tail symbols (λ rest b place. refl) gives)))))

one_pin_text : (a last : List ℕ) → (codes ".A(" ++ (a ++ codes ")")) ++ last ≡ codes ".A(" ++ (a ++ 41 ∷ last)
one_pin_text a last = ap (λ (t : List ℕ). codes ".A(" ++ t) (append_assoc a (codes ")") last)

two_pin_text : (a b last : List ℕ) → (codes ".A1(" ++ (a ++ (codes "), .A2(" ++ (b ++ codes ")")))) ++ last
    ≡ codes ".A1(" ++ (a ++ (codes "), .A2(" ++ (b ++ 41 ∷ last)))
two_pin_text a b last =
    ap (λ (t : List ℕ). codes ".A1(" ++ t)
    (append_assoc a (codes "), .A2(" ++ (b ++ codes ")")) last
    ∙ ap (λ (t : List ℕ). a ++ (codes "), .A2(" ++ t)) (append_assoc b (codes ")") last))

two_pins_give : (cell : List ℕ) (k : ℕ) (a b : List ℕ) → IsNamed cell → IsSmall k → IsNamed a → IsNamed b
    → Gives (lead cell k ((codes ".A1(" ++ (a ++ (codes "), .A2(" ++ (b ++ codes ")")))) ++ last_pin k))
    (Symbol.identifier cell ∷ Symbol.identifier (numbered (codes "u") k) ∷ Symbol.other lexeme.Open
    ∷ Symbol.other lexeme.Dot ∷ Symbol.identifier (codes "A1") ∷ Symbol.other lexeme.Open ∷ Symbol.identifier a ∷ Symbol.other lexeme.Close
    ∷ Symbol.other lexeme.Comma
    ∷ Symbol.other lexeme.Dot ∷ Symbol.identifier (codes "A2") ∷ Symbol.other lexeme.Open ∷ Symbol.identifier b ∷ Symbol.other lexeme.Close
    ∷ last_symbols k)
two_pins_give cell k a b is_cell below is_a is_b =
    same_text _ _ _ (ap (lead cell k) (sym (two_pin_text a b (last_pin k))))
    (lead_gives cell k _ _ is_cell below
    (pin_gives (codes "A1") a _ _ a1_named is_a
    (gives_both (44 ∷ []) _ (Symbol.other lexeme.Comma ∷ []) _ comma
    (gives_both (32 ∷ []) _ [] _ space
    (pin_gives (codes "A2") b (last_pin k) (last_symbols k) a2_named is_b (last_gives k below))))))

-- the line of a gate
pub gate_line : (k : ℕ) (it : Gate) (candidates : ℕ) → IsSmall candidates → IsSmall k → IsWithin candidates it
    → Gives (instance_line k it) (item_symbols (instance_item k it))
gate_line k (gate.Inv a) candidates few below within =
    same_text _ _ _ (ap (lead (codes "INV") k) (sym (one_pin_text (candidate a) (last_pin k))))
    (lead_gives (codes "INV") k _ _ inv_named below
    (pin_gives (codes "A") (candidate a) (last_pin k) (last_symbols k) a_named
    (candidate_named a (omega (arith, few, within))) (last_gives k below)))
gate_line k (gate.Nand2 a b) candidates few below within =
    two_pins_give (codes "NAND2") k (candidate a) (candidate b) nand2_named below
    (candidate_named a (let w = within.0 in omega (arith, few, w))) (candidate_named b (let w = within.1 in omega (arith, few, w)))
gate_line k (gate.Nor2 a b) candidates few below within =
    two_pins_give (codes "NOR2") k (candidate a) (candidate b) nor2_named below
    (candidate_named a (let w = within.0 in omega (arith, few, w))) (candidate_named b (let w = within.1 in omega (arith, few, w)))

-- the line of a chip output
pub join_line : (j k : ℕ) → IsSmall j → IsSmall k → Gives (assign_line j k) (item_symbols (assign_item j k))
unfolding word_of
join_line j k below_j below_k =
    indented _ _ (gives_keyword (codes "assign") (Symbol.other lexeme.Assign) _ _ assign_word refl
    (gives_name (numbered (codes "o") j) 32 _ _ (o_named j below_j) refl
    (gives_both (32 ∷ []) _ [] _ space
    (gives_both (61 ∷ []) _ (Symbol.other lexeme.Equals ∷ []) _ equals
    (gives_both (32 ∷ []) _ [] _ space
    (gives_name (numbered (codes "w") k) 59 (10 ∷ []) _ (w_named k below_k) refl line_end))))))
