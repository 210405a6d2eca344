-- The text of a generated chip is that of its tree.
use Rattle.std.proofs.Common.{◌≡◌, ℕ, zero, suc, ◌+◌, ◌<◌, ◌≤◌, List, [], ◌∷◌, ◌++◌, length, map, flat_map}
use Rattle.std.proofs.Common.{true, refl, sym, ap, ◌∙◌, subst, arith, append_assoc, codes}
use Rattle.std.specs.Fmt.{digits}
use Rattle.std.specs.List.{All, range_with_len}
use Rattle.std.proofs.lemmas.List.{append-nil}
use Rattle.std.proofs.lemmas.Grind.{flat_map-append}
use Rattle.ca_token.specs.Scan.{scan_from}
use Rattle.ca_verilog.specs.declared.lexeme.Lexeme.TheVariants as lexeme
use Rattle.ca_verilog.specs.declared.table.Direction.TheVariants.{Input, Output, Inner}
use Rattle.ca_verilog.specs.Lexeme.{word_of}
use Rattle.ca_syntax.specs.Tree.{Item}
use Rattle.ca_syntax.specs.Symbols.{Symbol, name_symbols, item_symbols, module_symbols, IsTextOf}
use Rattle.ca_make.specs.declared.gate.Gate.{Gate}
use Rattle.ca_make.specs.declared.gate.TheConstants.{INPUTS}
use Rattle.ca_make.specs.code.Chip.{IsWithin}
use Rattle.ca_make.specs.NetlistText.{numbered, counted, listed_from, declaration_line, instance_line}
use Rattle.ca_make.specs.NetlistText.{assign_line}
use Rattle.ca_make.specs.NetlistText.{output_port, header_text, names_text, chip_text}
use Rattle.ca_make_laws.specs.ChipTree.{names_of, declared, instance_item, assign_item, items_from}
use Rattle.ca_make_laws.specs.ChipTree.{tree_of}
use Rattle.ca_make_laws.proofs.SpellLemmas.{IsSpelled, Gives, Spells, end_spelled, gives_nothing, gives_both}
use Rattle.ca_make_laws.proofs.WordLemmas.{IsSmall}
use Rattle.ca_make_laws.proofs.LineLemmas.{IsNamed, same_text, gives_name, gives_keyword, line_end, space}
use Rattle.ca_make_laws.proofs.LineLemmas.{comma, close}
use Rattle.ca_make_laws.proofs.LineLemmas.{newline, input_line, output_line, wire_line, gate_line, join_line}
use Rattle.ca_make_laws.proofs.LineLemmas.{gen_named, i_named, o_named, module_word, endmodule_word}
use Rattle.ca_make_laws.proofs.SpellLemmas.{gives_word, gives_opened}

same_symbols : (part : List ℕ) (one other : List Symbol) → one ≡ other → Gives part one → Gives part other
same_symbols part one other is = subst (Gives part) is

-- the lines of numbers, each of which declares a name
counted_give : (line : ℕ → List ℕ) (wrap : List ℕ → Item) (name : ℕ → List ℕ) (from count most : ℕ) → from + count ≤ most
    → ((k : ℕ) → k < most → Gives (line k) (item_symbols (wrap (name k))))
    → Gives (flat_map line (range_with_len from count))
    (flat_map item_symbols (map wrap (map name (range_with_len from count))))
counted_give line wrap name from zero most le each = gives_nothing
counted_give line wrap name from (suc count) most le each =
    gives_both (line from) _ (item_symbols (wrap (name from))) _ (each from (omega (arith, le)))
    (counted_give line wrap name (from + 1) count most (omega (arith, le)) each)

-- the lines of a list
listed_give : {X : Type 0} (line : ℕ → X → List ℕ) (item : ℕ → X → Item) (P : X → Type 0) (from most : ℕ) (xs : List X)
    → from + length xs ≤ most → All P xs → ((k : ℕ) (x : X) → k < most → P x → Gives (line k x) (item_symbols (item k x)))
    → Gives (listed_from line from xs) (flat_map item_symbols (items_from item from xs))
listed_give line item P from most [] le all each = gives_nothing
listed_give line item P from most (x ∷ xs) le all each =
    gives_both (line from x) _ (item_symbols (item from x)) _ (each from x (omega (arith, le)) (all 0 x (omega arith)))
    (listed_give line item P (from + 1) most xs (omega (arith, le)) (λ k d lt. all (suc k) d (omega (arith, lt))) each)

-- the symbols of a chip output in the header
abbrev port_symbols : ℕ → List Symbol
port_symbols j = Symbol.other lexeme.Comma ∷ Symbol.identifier (numbered (codes "o") j) ∷ []

-- a name of the header, and the chip outputs after it
ports_give : (word : List ℕ) (from count most : ℕ) (tail : List ℕ) (symbols : List Symbol) → IsNamed word → from + count ≤ most
    → IsSmall most → Gives (41 ∷ tail) symbols
    → Gives (word ++ (flat_map output_port (range_with_len from count) ++ 41 ∷ tail))
    (Symbol.identifier word ∷ (flat_map port_symbols (range_with_len from count) ++ symbols))
ports_give word from zero most tail symbols named le small gives = gives_name word 41 tail symbols named refl gives
ports_give word from (suc count) most tail symbols named le small gives =
    same_text _ _ _
    (ap (λ (t : List ℕ). word ++ t)
    (sym (append_assoc (output_port from) (flat_map output_port (range_with_len (from + 1) count)) (41 ∷ tail))))
    (gives_name word 44 _ _ named refl
    (gives_both (44 ∷ []) _ (Symbol.other lexeme.Comma ∷ []) _ comma
    (gives_both (32 ∷ []) _ [] _ space
    (ports_give (numbered (codes "o") from) (from + 1) count most tail symbols (o_named from (omega (arith, le, small)))
    (omega (arith, le)) small gives))))

-- a name of the header with the comma after it
name_comma : (word tail : List ℕ) (symbols : List Symbol) → IsNamed word → Gives tail symbols
    → Gives (word ++ 44 ∷ 32 ∷ tail) (Symbol.identifier word ∷ Symbol.other lexeme.Comma ∷ symbols)
name_comma word tail symbols named gives =
    gives_name word 44 _ _ named refl
    (gives_both (44 ∷ []) _ (Symbol.other lexeme.Comma ∷ []) _ comma (gives_both (32 ∷ []) _ [] _ space gives))

-- the names of the chip outputs, as the grammar lists them
listed_ports : (ks : List ℕ) → flat_map port_symbols ks
    ≡ flat_map (λ part. Symbol.other lexeme.Comma ∷ part) (map name_symbols (map (numbered (codes "o")) ks))
listed_ports [] = refl
listed_ports (k ∷ ks) = ap (λ (list : List Symbol). port_symbols k ++ list) (listed_ports ks)

abbrev i_of : ℕ → List ℕ
i_of k = numbered (codes "i") k

-- the header with its names one by one
abbrev header_names : List ℕ → List ℕ
header_names tail =
    codes "module gen(" ++ (i_of 0 ++ 44 ∷ 32 ∷ (i_of 1 ++ 44 ∷ 32 ∷ (i_of 2 ++ 44 ∷ 32 ∷ (i_of 3 ++ 44 ∷ 32
    ∷ (i_of 4 ++ 44 ∷ 32 ∷ (i_of 5 ++ 44 ∷ 32 ∷ (i_of 6 ++ 44 ∷ 32 ∷ (i_of 7 ++ tail))))))))

header_is : (tail : List ℕ) → header_names tail ≡ codes "module gen(i0, i1, i2, i3, i4, i5, i6, i7" ++ tail
unfolding digits
header_is tail = refl

-- the symbols of the header up to its chip outputs
abbrev framed : List Symbol → List Symbol
framed rest =
    Symbol.other lexeme.Module ∷ Symbol.identifier (codes "gen") ∷ Symbol.other lexeme.Open
    ∷ Symbol.identifier (i_of 0) ∷ Symbol.other lexeme.Comma ∷ Symbol.identifier (i_of 1) ∷ Symbol.other lexeme.Comma
    ∷ Symbol.identifier (i_of 2) ∷ Symbol.other lexeme.Comma ∷ Symbol.identifier (i_of 3) ∷ Symbol.other lexeme.Comma
    ∷ Symbol.identifier (i_of 4) ∷ Symbol.other lexeme.Comma ∷ Symbol.identifier (i_of 5) ∷ Symbol.other lexeme.Comma
    ∷ Symbol.identifier (i_of 6) ∷ Symbol.other lexeme.Comma ∷ Symbol.identifier (i_of 7) ∷ rest

abbrev header_end : List Symbol
header_end = Symbol.other lexeme.Close ∷ Symbol.other lexeme.Semicolon ∷ []

header_give : (outputs : ℕ) → IsSmall outputs
    → Gives (header_text outputs) (framed (flat_map port_symbols (range_with_len 0 outputs) ++ header_end))
unfolding header_text word_of
header_give outputs small =
    same_text _ _ _ (header_is (counted output_port outputs ++ codes ");\n"))
    (gives_keyword (codes "module") (Symbol.other lexeme.Module) _ _ module_word refl
    (gives_name (codes "gen") 40 _ _ gen_named refl
    (gives_opened (i_of 0) _ _ (i_named 0 (omega arith)).spelled
    (name_comma (i_of 0) _ _ (i_named 0 (omega arith))
    (name_comma (i_of 1) _ _ (i_named 1 (omega arith))
    (name_comma (i_of 2) _ _ (i_named 2 (omega arith))
    (name_comma (i_of 3) _ _ (i_named 3 (omega arith))
    (name_comma (i_of 4) _ _ (i_named 4 (omega arith))
    (name_comma (i_of 5) _ _ (i_named 5 (omega arith))
    (name_comma (i_of 6) _ _ (i_named 6 (omega arith))
    (ports_give (i_of 7) 0 outputs outputs (codes ";\n") _ (i_named 7 (omega arith)) (omega arith) small
    (gives_both (41 ∷ []) _ (Symbol.other lexeme.Close ∷ []) _ close line_end))))))))))))

-- the declared names, by their items
abbrev input_items : List Item
input_items = map (declared Input) (names_of (codes "i") INPUTS)

abbrev output_items : ℕ → List Item
output_items count = map (declared Output) (names_of (codes "o") count)

abbrev wire_items : ℕ → List Item
wire_items count = map (declared Inner) (names_of (codes "w") count)

names_give : (outputs gates : ℕ) → IsSmall outputs → IsSmall gates
    → Gives (names_text outputs gates)
    (flat_map item_symbols input_items
    ++ (flat_map item_symbols (output_items outputs) ++ flat_map item_symbols (wire_items gates)))
unfolding names_text
names_give outputs gates few_outputs few_gates =
    gives_both (counted (declaration_line (codes "  input i")) INPUTS) _ (flat_map item_symbols input_items) _
    (counted_give _ (declared Input) (numbered (codes "i")) 0 INPUTS INPUTS (omega arith) (λ k lt. input_line k (omega (arith, lt))))
    (gives_both (counted (declaration_line (codes "  output o")) outputs) _ (flat_map item_symbols (output_items outputs)) _
    (counted_give _ (declared Output) (numbered (codes "o")) 0 outputs outputs (omega arith)
    (λ k lt. output_line k (omega (arith, lt, few_outputs))))
    (counted_give _ (declared Inner) (numbered (codes "w")) 0 gates gates (omega arith)
    (λ k lt. wire_line k (omega (arith, lt, few_gates)))))

-- the symbols of the items, part by part
module _ (a b c d e : List Item) (last : List Symbol) where
  parted : flat_map item_symbols ((a ++ (b ++ c)) ++ (d ++ e)) ++ last
      ≡ (flat_map item_symbols a ++ (flat_map item_symbols b ++ flat_map item_symbols c))
      ++ (flat_map item_symbols d ++ (flat_map item_symbols e ++ last))
  parted =
      ap (λ (s : List Symbol). s ++ last)
      (flat_map-append item_symbols (a ++ (b ++ c)) (d ++ e)
      ∙ ap (λ (s : List Symbol). s ++ flat_map item_symbols (d ++ e))
      (flat_map-append item_symbols a (b ++ c)
      ∙ ap (λ (s : List Symbol). flat_map item_symbols a ++ s) (flat_map-append item_symbols b c))
      ∙ ap (λ (s : List Symbol). (flat_map item_symbols a ++ (flat_map item_symbols b ++ flat_map item_symbols c)) ++ s)
      (flat_map-append item_symbols d e))
      ∙ append_assoc (flat_map item_symbols a ++ (flat_map item_symbols b ++ flat_map item_symbols c))
      (flat_map item_symbols d ++ flat_map item_symbols e) last
      ∙ ap (λ (s : List Symbol). (flat_map item_symbols a ++ (flat_map item_symbols b ++ flat_map item_symbols c)) ++ s)
      (append_assoc (flat_map item_symbols d) (flat_map item_symbols e) last)

-- gates and outputs whose text is spelled: the gates are among the candidates, and the outputs among the
-- gates
pub record AreSpelled (gates : List Gate) (outputs : List ℕ) : Type 0 where
  pub few : INPUTS + length gates ≤ 8192
  pub few_outputs : length outputs ≤ length gates
  pub within : All (IsWithin (INPUTS + length gates)) gates
  pub driven : All (λ k. k < length gates) outputs

module _ (gates : List Gate) (outputs : List ℕ) (are : AreSpelled gates outputs) where
  abbrev names_symbols : List Symbol
  names_symbols = flat_map item_symbols input_items
      ++ (flat_map item_symbols (output_items (length outputs)) ++ flat_map item_symbols (wire_items (length gates)))

  abbrev rest_symbols : List Symbol
  rest_symbols = flat_map item_symbols (items_from instance_item 0 gates)
      ++ (flat_map item_symbols (items_from assign_item 0 outputs) ++ Symbol.other lexeme.Endmodule ∷ [])

  chip_gives : Gives (chip_text gates outputs)
      (framed (flat_map port_symbols (range_with_len 0 (length outputs)) ++ header_end) ++ (names_symbols ++ rest_symbols))
  unfolding chip_text word_of
  chip_gives =
      let few = are.few in
      let fewer = are.few_outputs in
      gives_both (header_text (length outputs)) _
      (framed (flat_map port_symbols (range_with_len 0 (length outputs)) ++ header_end)) _
      (header_give (length outputs) (omega (arith, few, fewer)))
      (gives_both (names_text (length outputs) (length gates)) _ names_symbols _
      (names_give (length outputs) (length gates) (omega (arith, few, fewer)) (omega (arith, few)))
      (gives_both (listed_from instance_line 0 gates) _ (flat_map item_symbols (items_from instance_item 0 gates)) _
      (listed_give instance_line instance_item (IsWithin (INPUTS + length gates)) 0 (length gates) gates (omega arith) are.within
      (λ k it lt within. gate_line k it (INPUTS + length gates) (omega (arith, few)) (omega (arith, few, lt)) within))
      (gives_both (listed_from assign_line 0 outputs) _ (flat_map item_symbols (items_from assign_item 0 outputs)) _
      (listed_give assign_line assign_item (λ k. k < length gates) 0 (length outputs) outputs (omega arith) are.driven
      (λ j k lt below. join_line j k (omega (arith, few, fewer, lt)) (omega (arith, few, below))))
      (gives_word (codes "endmodule") 10 [] (Symbol.other lexeme.Endmodule) [] endmodule_word refl refl newline))))

  abbrev listed_outputs : List Symbol
  listed_outputs = flat_map (λ part. Symbol.other lexeme.Comma ∷ part)
      (map name_symbols (map (numbered (codes "o")) (range_with_len 0 (length outputs))))

  abbrev body : List Symbol
  body = flat_map item_symbols (tree_of gates outputs).items ++ Symbol.other lexeme.Endmodule ∷ []

  tree_symbols : framed ((listed_outputs ++ Symbol.other lexeme.Close ∷ []) ++ Symbol.other lexeme.Semicolon ∷ body)
      ≡ module_symbols (tree_of gates outputs)
  tree_symbols =
      ap framed (sym (append_assoc (listed_outputs ++ Symbol.other lexeme.Close ∷ [])
      (Symbol.other lexeme.Semicolon ∷ flat_map item_symbols (tree_of gates outputs).items)
      (Symbol.other lexeme.Endmodule ∷ [])))

  -- these are the symbols of the tree
  symbols_are : framed (flat_map port_symbols (range_with_len 0 (length outputs)) ++ header_end) ++ (names_symbols ++ rest_symbols)
      ≡ module_symbols (tree_of gates outputs)
  symbols_are =
      ap framed
      (append_assoc (flat_map port_symbols (range_with_len 0 (length outputs))) header_end (names_symbols ++ rest_symbols)
      ∙ ap (λ (s : List Symbol). flat_map port_symbols (range_with_len 0 (length outputs)) ++ (header_end ++ s))
      (sym (parted input_items (output_items (length outputs)) (wire_items (length gates))
      (items_from instance_item 0 gates) (items_from assign_item 0 outputs) (Symbol.other lexeme.Endmodule ∷ [])))
      ∙ ap (λ (s : List Symbol). s ++ (header_end ++ body)) (listed_ports (range_with_len 0 (length outputs)))
      ∙ sym (append_assoc listed_outputs (Symbol.other lexeme.Close ∷ []) (Symbol.other lexeme.Semicolon ∷ body)))
      ∙ tree_symbols

  pub chip_spelled : IsTextOf (chip_text gates outputs) (tree_of gates outputs)
  chip_spelled =
      let text = chip_text gates outputs in
      let symbols = module_symbols (tree_of gates outputs) in
      let over : Spells [] (text ++ []) (symbols ++ []) =
      (same_symbols text _ symbols symbols_are chip_gives).over [] [] [] (end_spelled text) in
      let whole : IsSpelled text (scan_from true 0 0 text) symbols =
      subst (Spells [] text) (append-nil symbols)
      (subst (λ (t : List ℕ). Spells [] t (symbols ++ [])) (append-nil text) over) true in
      record { whole = whole.whole; spelled = whole.spelled }
