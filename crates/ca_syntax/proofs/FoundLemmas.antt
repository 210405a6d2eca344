-- A text that is read is the text of a right tree.
use Rattle.std.proofs.Common.{◌≡◌, ℕ, ◌-◌, ◌<◌, ◌≤◌, List, [], ◌∷◌, map, length, Bool, true, false, Option}
use Rattle.std.proofs.Common.{Some, None, Result, Ok, Err}
use Rattle.std.proofs.Common.{refl, sym, ap, ◌∙◌, subst}
use Rattle.std.specs.Prelude.{nat_lt}
use Rattle.std.proofs.lemmas.Bool.{ltb-true, ltb-false}
use Rattle.ca_lex.specs.declared.token.Token.{Token}
use Rattle.ca_lex.specs.FirstFault.{steps_from, located}
use Rattle.ca_lex.proofs.FirstFaultLemmas.{steps_from-cons, after_step}
use Rattle.ca_token.specs.declared.fault.Flaw.{Flaw}
use Rattle.ca_token.specs.Scan.{scan_of, line_at}
use Rattle.ca_verilog.specs.declared.fault.VerilogKind.TheVariants.{Syntax}
use Rattle.ca_verilog.specs.declared.fault.VerilogFault.{VerilogFault}
use Rattle.ca_verilog.specs.declared.fault.VerilogFault.TheVariants.{At, TooManyNets}
use Rattle.ca_verilog.specs.declared.netlist.TheConstants.{MOST_BITS}
use Rattle.ca_verilog.specs.declared.raw.RawNetlist.{RawNetlist}
use Rattle.ca_verilog.specs.declared.table.Place.{Place}
use Rattle.ca_verilog.specs.declared.table.Place.TheVariants as place
use Rattle.ca_verilog.specs.Module.{lexeme_at}
use Rattle.ca_verilog.specs.Path.{places_from}
use Rattle.ca_verilog.specs.Reading.{Reading, Step, nothing}
use Rattle.ca_verilog.specs.Text.{token_step, at_token, tokens_from, then_flaw, is_end, ended, reading_of}
use Rattle.ca_verilog.specs.Text.{limited_of, netlist_of}
use Rattle.ca_verilog.proofs.ModuleLemmas.{tokens_led}
use Rattle.ca_verilog.proofs.WayLemmas.{module_way}
use Rattle.ca_syntax.specs.Tree.{Module}
use Rattle.ca_syntax.specs.Symbols.{Symbol, IsTextOf}
use Rattle.ca_syntax.specs.Rules.{IsRight}
use Rattle.ca_syntax.specs.TreeNetlist.{tree_netlist}
use Rattle.ca_syntax.specs.Laws.{tree_bits, IsTreeOf, IsLargeTreeOf}
use Rattle.ca_syntax.proofs.ReadLemmas.{Reads, symbols_read}
use Rattle.ca_syntax.proofs.NetlistLemmas.{right_read, large_refused}
use Rattle.ca_syntax.proofs.ParseLemmas.{tree_parsed}
use Rattle.ca_syntax.proofs.TreeOnlyLemmas.{tree_only}

-- a whole text is read: nothing is left of it, and the reading is after `endmodule`
record IsReadAs (text : List ℕ) (last : Reading) : Type 0 where
  whole : (scan_of text).flaw ≡ None
  read : tokens_from text nothing (scan_of text).tokens ≡ Ok last
  over : is_end last.place ≡ true

value_same : (one other : Reading) → ◌≡◌ {A = Result Reading VerilogFault} (Ok one) (Ok other) → one ≡ other
value_same one other is = cc

-- the reading of a text that has one
read_as : (text : List ℕ) (last : Reading) → reading_of text ≡ Ok last → IsReadAs text last
read_as text last is = by_flaw (scan_of text).flaw (tokens_from text nothing (scan_of text).tokens) refl refl is
  where
    by_end : (it : Reading) (over : Bool) → is_end it.place ≡ over
        → elim over as (λ _. Result Reading VerilogFault) [ true ↦ Ok it | false ↦ Err (At (line_at (length text - 1) text) Syntax) ] ≡ Ok last
        → (it ≡ last) × (is_end it.place ≡ true)
    by_end it true reported is = (value_same it last is, reported)
    by_end it false reported is = absurd cc

    by_flaw : (flaw : Option Flaw) (given : Result Reading VerilogFault) → (scan_of text).flaw ≡ flaw
        → tokens_from text nothing (scan_of text).tokens ≡ given → ended text (then_flaw text flaw given) ≡ Ok last → IsReadAs text last
    by_flaw None (Ok it) whole reported is =
        let both = by_end it (is_end it.place) refl is in
        record {
          whole = whole;
          read = reported ∙ ap (λ (one : Reading). Ok one) both.0;
          over = ap (λ (one : Reading). is_end one.place) (sym both.0) ∙ both.1;
        }
    by_flaw (Some flaw) (Ok it) whole reported is = absurd cc
    by_flaw None (Err fault) whole reported is = absurd cc
    by_flaw (Some flaw) (Err fault) whole reported is = absurd cc

end_place : (at : Place) → is_end at ≡ true → at ≡ place.End
end_place place.End is = refl
end_place other is = absurd cc

-- a text that has a reading is that of a tree
tree_of : (text : List ℕ) (last : Reading) → IsReadAs text last → (tree : Module) × IsTextOf text tree
tree_of text last is =
    let leads : places_from place.Start (map (lexeme_at text) (scan_of text).tokens) ≡ Ok place.End =
    tokens_led text (scan_of text).tokens nothing last is.read ∙ ap (λ (at : Place). Ok at) (end_place last.place is.over) in
    let parsed = tree_parsed text (scan_of text).tokens (module_way (map (lexeme_at text) (scan_of text).tokens) leads) in
    (parsed.0, record { whole = is.whole; spelled = parsed.1 })

-- and each tree whose text it is is right
right_of : (text : List ℕ) (last : Reading) (tree : Module) → IsReadAs text last → IsTextOf text tree → IsRight tree
right_of text last tree is of_tree =
    tree_only tree last
    (subst (λ (symbols : List Symbol). Reads nothing symbols last) of_tree.spelled (symbols_read text (scan_of text).tokens nothing last is.read))

-- a netlist is that of a reading
netlist_read : (text : List ℕ) (raw : RawNetlist) → netlist_of text ≡ Ok raw → (last : Reading) × IsReadAs text last
netlist_read text raw is = by (reading_of text) refl is
  where
    by : (given : Result Reading VerilogFault) → reading_of text ≡ given → limited_of given ≡ Ok raw → (last : Reading) × IsReadAs text last
    by (Ok last) reported read = (last, read_as text last reported)
    by (Err fault) reported read = absurd cc

-- a tree whose text is read is right
pub tree_right : (text : List ℕ) (tree : Module) (raw : RawNetlist) → IsTextOf text tree → netlist_of text ≡ Ok raw → IsRight tree
tree_right text tree raw of_tree is =
    let read = netlist_read text raw is in
    right_of text read.0 tree read.1 of_tree

netlist_of_tree : (text : List ℕ) (tree : Module) (raw : RawNetlist) → IsTextOf text tree → IsRight tree → netlist_of text ≡ Ok raw
    → IsTreeOf text raw tree
netlist_of_tree text tree raw of_tree right is = by (nat_lt MOST_BITS (tree_bits tree)) refl
  where
    same_netlist : (one other : RawNetlist) → ◌≡◌ {A = Result RawNetlist VerilogFault} (Ok one) (Ok other) → one ≡ other
    same_netlist one other reported = cc

    never : (fault : VerilogFault) → ◌≡◌ {A = Result RawNetlist VerilogFault} (Err fault) (Ok raw) → ⊥
    never fault reported = cc

    by : (many : Bool) → nat_lt MOST_BITS (tree_bits tree) ≡ many → IsTreeOf text raw tree
    by true reported =
        absurd (never (TooManyNets (tree_bits tree)) (sym (large_refused text tree of_tree right (ltb-true MOST_BITS (tree_bits tree) reported)) ∙ is))
    by false reported =
        let few : tree_bits tree ≤ MOST_BITS = ltb-false MOST_BITS (tree_bits tree) reported in
        record {
          spelled = of_tree;
          right = right;
          few_bits = few;
          same = same_netlist (tree_netlist tree) raw (sym (right_read text tree of_tree right few) ∙ is);
        }

-- a text that is read is the text of a right tree
pub text_has_tree : (text : List ℕ) (raw : RawNetlist) → netlist_of text ≡ Ok raw → (tree : Module) × IsTreeOf text raw tree
text_has_tree text raw is =
    let read = netlist_read text raw is in
    let tree = tree_of text read.0 read.1 in
    (tree.0, netlist_of_tree text tree.0 raw tree.1 (right_of text read.0 tree.0 read.1 tree.1) is)

-- a token's fault is reported on its line
no_count : (text : List ℕ) (tokens : List Token) (it : Reading) (count : ℕ) → tokens_from text it tokens ≡ Err (TooManyNets count) → ⊥
unfolding steps_from
no_count text [] it count is = absurd cc
no_count text (token ∷ tokens) it count is =
    by (token_step text token it) (λ next. no_count text tokens next count)
    (sym (steps_from-cons (located (at_token text) (token_step text)) it token tokens) ∙ is)
  where
    by : (given : Step) → ((next : Reading) → tokens_from text next tokens ≡ Err (TooManyNets count) → ⊥)
        → after_step (located (at_token text) (token_step text))
        (elim given as (λ _. Result Reading VerilogFault) [ Ok next ↦ Ok next | Err kind ↦ Err (at_token text token kind) ]) tokens ≡ Err (TooManyNets count)
        → ⊥
    by (Ok next) later reported = later next reported
    by (Err kind) later reported = absurd cc

reading_counts : (text : List ℕ) (count : ℕ) → reading_of text ≡ Err (TooManyNets count) → ⊥
reading_counts text count is = by_flaw (scan_of text).flaw (tokens_from text nothing (scan_of text).tokens) refl is
  where
    by_end : (it : Reading) (over : Bool)
        → elim over as (λ _. Result Reading VerilogFault) [ true ↦ Ok it | false ↦ Err (At (line_at (length text - 1) text) Syntax) ] ≡ Err (TooManyNets count)
        → ⊥
    by_end it true is = absurd cc
    by_end it false is = absurd cc

    inside : (fault : VerilogFault) → ◌≡◌ {A = Result Reading VerilogFault} (Err fault) (Err (TooManyNets count)) → fault ≡ TooManyNets count
    inside fault is = cc

    by_flaw : (flaw : Option Flaw) (given : Result Reading VerilogFault) → tokens_from text nothing (scan_of text).tokens ≡ given
        → ended text (then_flaw text flaw given) ≡ Err (TooManyNets count) → ⊥
    by_flaw None (Ok it) reported is = by_end it (is_end it.place) is
    by_flaw (Some flaw) (Ok it) reported is = absurd cc
    by_flaw None (Err fault) reported is =
        no_count text (scan_of text).tokens nothing count (reported ∙ ap (λ (one : VerilogFault). Err one) (inside fault is))
    by_flaw (Some flaw) (Err fault) reported is =
        no_count text (scan_of text).tokens nothing count (reported ∙ ap (λ (one : VerilogFault). Err one) (inside fault is))

count_read : (text : List ℕ) (count : ℕ) → netlist_of text ≡ Err (TooManyNets count) → (last : Reading) × IsReadAs text last
count_read text count is = by (reading_of text) refl is
  where
    inside : (fault : VerilogFault) → ◌≡◌ {A = Result RawNetlist VerilogFault} (Err fault) (Err (TooManyNets count)) → fault ≡ TooManyNets count
    inside fault is = cc

    by : (given : Result Reading VerilogFault) → reading_of text ≡ given → limited_of given ≡ Err (TooManyNets count) → (last : Reading) × IsReadAs text last
    by (Ok last) reported read = (last, read_as text last reported)
    by (Err fault) reported read = absurd (reading_counts text count (reported ∙ ap (λ (one : VerilogFault). Err one) (inside fault read)))

-- a tree whose text is refused for the number of its bits is right
pub large_right : (text : List ℕ) (tree : Module) (count : ℕ) → IsTextOf text tree → netlist_of text ≡ Err (TooManyNets count) → IsRight tree
large_right text tree count of_tree is =
    let read = count_read text count is in
    right_of text read.0 tree read.1 of_tree

large_tree : (text : List ℕ) (tree : Module) (count : ℕ) → IsTextOf text tree → IsRight tree → netlist_of text ≡ Err (TooManyNets count)
    → IsLargeTreeOf text count tree
large_tree text tree count of_tree right is = by (nat_lt MOST_BITS (tree_bits tree)) refl
  where
    same_count : (one other : ℕ) → ◌≡◌ {A = Result RawNetlist VerilogFault} (Err (TooManyNets one)) (Err (TooManyNets other)) → one ≡ other
    same_count one other reported = cc

    never : (raw : RawNetlist) → ◌≡◌ {A = Result RawNetlist VerilogFault} (Ok raw) (Err (TooManyNets count)) → ⊥
    never raw reported = cc

    by : (many : Bool) → nat_lt MOST_BITS (tree_bits tree) ≡ many → IsLargeTreeOf text count tree
    by true reported =
        let large : MOST_BITS < tree_bits tree = ltb-true MOST_BITS (tree_bits tree) reported in
        record {
          spelled = of_tree;
          right = right;
          many_bits = large;
          same = same_count (tree_bits tree) count (sym (large_refused text tree of_tree right large) ∙ is);
        }
    by false reported =
        absurd (never (tree_netlist tree)
        (sym (right_read text tree of_tree right (ltb-false MOST_BITS (tree_bits tree) reported)) ∙ is))

-- a text that is refused for the number of its bits is the text of a right tree
pub large_has_tree : (text : List ℕ) (count : ℕ) → netlist_of text ≡ Err (TooManyNets count) → (tree : Module) × IsLargeTreeOf text count tree
large_has_tree text count is =
    let read = count_read text count is in
    let tree = tree_of text read.0 read.1 in
    (tree.0, large_tree text tree.0 count tree.1 (right_of text read.0 tree.0 read.1 tree.1) is)
