-- The example is read, by computation.
use Rattle.std.proofs.Common.{◌≡◌, ℕ, ◌≤◌, List, [], ◌∷◌, map, true, None, Ok, arith, refl, ap, ◌∙◌}
use Rattle.std.specs.Prelude.{codes}
use Rattle.std.specs.List.{All}
use Rattle.std.proofs.lemmas.List.Elements.{All-nil, All-cons}
use Rattle.ca_token.specs.Piece.{piece_of, slash_piece, open_piece, number_piece, constant_piece}
use Rattle.ca_token.specs.Scan.{scan_from, scan_of}
use Rattle.ca_names.specs.Names.{repeats}
use Rattle.ca_verilog.specs.declared.netlist.TheConstants.{MOST_BITS}
use Rattle.ca_verilog.specs.declared.raw.RawNetlist.{RawNetlist}
use Rattle.ca_verilog.specs.Lexeme.{word_of, sign_of, lexeme_of}
use Rattle.ca_verilog.specs.Text.{netlist_of}
use Rattle.ca_syntax.specs.Tree.{Connection, declarations, ports_of}
use Rattle.ca_syntax.specs.Symbols.{symbol_at, module_symbols, IsTextOf}
use Rattle.ca_syntax.specs.Names.{is_directed}
use Rattle.ca_syntax.specs.Rules.{IsRight, IsRightDeclared, IsRightItem, IsRightValue}
use Rattle.ca_syntax.specs.TreeNetlist.{tree_netlist}
use Rattle.ca_syntax.specs.Laws.{tree_bits, IsTreeOf}
use Rattle.ca_syntax.specs.Example.{example_text, example_tree, example_netlist}
use Rattle.ca_syntax.proofs.AfterLemmas.{OneByOne, each_after}
use Rattle.ca_syntax.proofs.NetlistLemmas.{right_read}

text_whole : (scan_of example_text).flaw ≡ None
unfolding scan_from piece_of slash_piece open_piece number_piece constant_piece
text_whole = refl

text_spelled : map (symbol_at example_text) (scan_of example_text).tokens ≡ module_symbols example_tree
unfolding scan_from piece_of slash_piece open_piece number_piece constant_piece word_of sign_of lexeme_of
text_spelled = refl

declared_right : OneByOne (IsRightDeclared (ports_of example_tree)) [] (declarations example_tree.items)
declared_right = (
  record { of_header = λ outer. refl; once = refl; same_range = λ before. absurd cc },
  (
    record { of_header = λ outer. refl; once = refl; same_range = λ before. absurd cc },
    (record { of_header = λ outer. absurd cc; once = refl; same_range = λ before. absurd cc }, tt),
  ),
)

abbrev IsRightOn : Connection → Type 0
IsRightOn on = IsRightValue (declarations example_tree.items) on.value

values_right : (first second third : Connection) → IsRightOn first → IsRightOn second → IsRightOn third
    → All IsRightOn (first ∷ second ∷ third ∷ [])
values_right first second third one two three =
    All-cons IsRightOn first (second ∷ third ∷ []) one
    (All-cons IsRightOn second (third ∷ []) two (All-cons IsRightOn third [] three (All-nil IsRightOn)))

items_right : OneByOne IsRightItem [] example_tree.items
unfolding repeats
items_right = (
  tt,
  (
    tt,
    (
      tt,
      (
        record { left_side = refl; right_side = (refl, refl); same_width = refl },
        (record { different = refl; values = values_right _ _ _ (refl, refl) (refl, refl) tt }, tt),
      ),
    ),
  ),
)

abbrev IsDirected : List ℕ → Type 0
IsDirected name = is_directed name (declarations example_tree.items) ≡ true

tree_right : IsRight example_tree
unfolding repeats
tree_right = record {
  ports = refl;
  directed = All-cons IsDirected (codes "a") (codes "z" ∷ []) refl (All-cons IsDirected (codes "z") [] refl (All-nil IsDirected));
  declared = each_after (IsRightDeclared (ports_of example_tree)) (declarations example_tree.items) declared_right;
  items = each_after IsRightItem example_tree.items items_right;
  instances = refl;
}

netlist_is : tree_netlist example_tree ≡ example_netlist
netlist_is = refl

pub example_read : IsTreeOf example_text example_netlist example_tree × (netlist_of example_text ≡ Ok example_netlist)
example_read =
    let spelled : IsTextOf example_text example_tree = record { whole = text_whole; spelled = text_spelled } in
    let few : tree_bits example_tree ≤ MOST_BITS = omega arith in (
      record { spelled = spelled; right = tree_right; few_bits = few; same = netlist_is },
      right_read example_text example_tree spelled tree_right few ∙ ap (λ (raw : RawNetlist). Ok raw) netlist_is,
    )
