-- Each token that is taken keeps what a reading keeps.
use Rattle.std.proofs.Common.{◌≡◌, ℕ, zero, suc, ◌<◌, List, Bool, true, false, not, ◌&&◌, ◌||◌, [], ◌∷◌, ◌++◌}
use Rattle.std.proofs.Common.{length, map}
use Rattle.std.proofs.Common.{Option, Some, None, Result, Ok, Err, cond, get_or, arith, refl, sym, ap, ◌∙◌}
use Rattle.std.proofs.Common.{subst}
use Rattle.std.specs.Prelude.{slice_get, slice_set, ◌==◌}
use Rattle.std.specs.List.{All, IsDistinct, list_all}
use Rattle.std.specs.Str.{bytes_eq}
use Rattle.std.proofs.Math.Seq.{map-set_same}
use Rattle.std.proofs.lemmas.Bool.{eqb-true}
use Rattle.std.proofs.lemmas.List.{map-append, length-map}
use Rattle.std.proofs.lemmas.List.Elements.{All-push, All-set, All-weaker, All-nil, All-head, All-tail}
use Rattle.std.proofs.lemmas.List.Folds.{list_any-append}
use Rattle.std.proofs.lemmas.List.Quantifiers.{position-Some}
use Rattle.std.proofs.lemmas.Slice.Eq.{bytes_eq-Decides}
use Rattle.ca_lex.specs.Reading.{unless}
use Rattle.ca_lex.specs.Words.{upper_case}
use Rattle.ca_names.specs.Names.{has_name, with_name}
use Rattle.ca_verilog.specs.declared.bus.Bus.{Bus}
use Rattle.ca_verilog.specs.declared.fault.VerilogKind.{VerilogKind}
use Rattle.ca_verilog.specs.declared.fault.VerilogKind.TheVariants.{Undeclared, DoubleName, BadRange}
use Rattle.ca_verilog.specs.declared.instance.Operand.{Operand}
use Rattle.ca_verilog.specs.declared.instance.Operand.TheVariants.{Whole, Bit, Constant}
use Rattle.ca_verilog.specs.declared.instance.Join.{Join}
use Rattle.ca_verilog.specs.declared.instance.Use.{Use}
use Rattle.ca_verilog.specs.declared.instance.Instance.{Instance}
use Rattle.ca_verilog.specs.declared.lexeme.Lexeme.{Lexeme}
use Rattle.ca_verilog.specs.declared.table.Direction.{Direction}
use Rattle.ca_verilog.specs.declared.table.Direction.TheVariants as direction
use Rattle.ca_verilog.specs.declared.table.Range.{Range}
use Rattle.ca_verilog.specs.declared.table.Place.{Place}
use Rattle.ca_verilog.specs.declared.table.Action.{Action}
use Rattle.ca_verilog.specs.declared.table.Action.TheVariants as action
use Rattle.ca_verilog.specs.Bus.{is_inner, has_direction, same_range, bus_of, is_twice, new_bus}
use Rattle.ca_verilog.specs.Bus.{declared_again, again_at, declare, range_at}
use Rattle.ca_verilog.specs.Instance.{has_pin, has_instance}
use Rattle.ca_verilog.specs.code.Kept.{IsIndexOf, IsOperand, IsUsed, IsJoin, AreUses, IsOfHeader, AreNames}
use Rattle.ca_verilog.specs.code.Kept.{in_instance, in_pin, IsNew, IsClosed, IsKept}
use Rattle.ca_verilog.specs.Text.{is_end}
use Rattle.ca_verilog.specs.Reading.{Hand, Reading, Step, act, given_buses, given_operand, has_index, bit_in}
use Rattle.ca_verilog.specs.Reading.{selected, width_of}
use Rattle.ca_verilog.specs.Reading.{with_operand, with_use, is_vector, end_instance, nothing, at_place}
use Rattle.ca_verilog.specs.Reading.{lexeme_step}
use Rattle.ca_verilog.specs.Table.{Move, row_of}
use Rattle.ca_verilog.proofs.DistinctLemmas.{distinct_grown, not_there}
use Rattle.ca_verilog.proofs.GrowLemmas.{Grows, pushed, set_again, joins_grown, instances_grown, hand_grown}
use Rattle.ca_verilog.proofs.ModuleLemmas.{act_place}
use Rattle.ca_verilog.proofs.RowLemmas.{Follows, row_follows}

-- a value that rules let through: none is broken
passed : {Value : Type 0} (broken : Bool) (kind : VerilogKind) (given : Result Value VerilogKind) (next : Value)
    → unless broken kind given ≡ Ok next → (broken ≡ false) × (given ≡ Ok next)
passed true kind given next is = absurd cc
passed false kind given next is = (refl, is)

inside : {Value : Type 0} (one other : Value) → ◌≡◌ {A = Result Value VerilogKind} (Ok one) (Ok other) → one ≡ other
inside one other is = cc

not_false : (x : Bool) → not x ≡ false → x ≡ true
not_false true is = refl
not_false false is = absurd cc

-- names
of_header_grown : (ports : List (List ℕ)) (name : List ℕ) (bus : Bus) → IsOfHeader ports bus → IsOfHeader (ports ++ name ∷ []) bus
of_header_grown ports name bus is directed =
    list_any-append (bytes_eq bus.name) ports (name ∷ []) ∙ ap (λ (found : Bool). found || (bytes_eq bus.name name || false)) (is directed)

port_added : (ports : List (List ℕ)) (buses : List Bus) (name : List ℕ) → AreNames ports buses → has_name name ports ≡ false
    → AreNames (with_name name ports) buses
port_added ports buses name are new =
    subst (λ (grown : List (List ℕ)). AreNames grown buses)
    (sym (ap (λ (found : Bool). cond found ports (ports ++ name ∷ [])) new)) (record {
      distinct_ports = distinct_grown ports name are.distinct_ports new;
      distinct_buses = are.distinct_buses;
      of_header = All-weaker (IsOfHeader ports) (IsOfHeader (ports ++ name ∷ [])) (of_header_grown ports name) buses are.of_header;
    })

-- what all have, one at a place has
pub all_at : {X : Type 0} (P : X → Type 0) (xs : List X) (place : ℕ) (x : X) → All P xs → slice_get xs place ≡ Some x → P x
all_at P [] place x all is = absurd cc
all_at P (first ∷ more) zero x all is =
    let same : first ≡ x = cc in
    subst P same (All-head P first more all)
all_at P (first ∷ more) (suc place) x all is = all_at P more place x (All-tail P first more all) is

pub got : {X : Type 0} (xs : List X) (place : ℕ) (x d : X) → slice_get xs place ≡ Some x → get_or xs place d ≡ x
got [] place x d is = absurd cc
got (first ∷ more) zero x d is = cc
got (first ∷ more) (suc place) x d is = got more place x d is

-- the name at the place of a declared name is this one
pub place_named : (name : List ℕ) (buses : List Bus) (place : ℕ) (bus : Bus) → bus_of name buses ≡ Some place → slice_get buses place ≡ Some bus
    → bus.name ≡ name
place_named name buses place bus found there =
    let at : slice_get (map (λ (bus : Bus). bus.name) buses) place ≡ Some bus.name = named_at buses place bus there in
    let reported : bytes_eq name (get_or (map (λ (bus : Bus). bus.name) buses) place []) ≡ true =
    (position-Some (bytes_eq name) (map (λ (bus : Bus). bus.name) buses) place [] found).1 in
    let equal : bytes_eq name bus.name ≡ true =
    subst (λ (other : List ℕ). bytes_eq name other ≡ true) (got (map (λ (bus : Bus). bus.name) buses) place bus.name [] at) reported in
    sym ((bytes_eq-Decides name bus.name).0 equal)
  where
    named_at : (buses : List Bus) (place : ℕ) (bus : Bus) → slice_get buses place ≡ Some bus
        → slice_get (map (λ (bus : Bus). bus.name) buses) place ≡ Some bus.name
    named_at [] place bus is = absurd cc
    named_at (first ∷ more) zero bus is =
        let same : first ≡ bus = cc in
        ap (λ (bus : Bus). Some bus.name) same
    named_at (first ∷ more) (suc place) bus is = named_at more place bus is

-- a declared name has a place among them
pub place_within : (name : List ℕ) (buses : List Bus) (place : ℕ) → bus_of name buses ≡ Some place → place < length buses
place_within name buses place found =
    omega (
      arith,
      (position-Some (bytes_eq name) (map (λ (bus : Bus). bus.name) buses) place [] found).0,
      length-map buses (λ (bus : Bus). bus.name),
    )

again_range : (direction : Direction) (bus : Bus) → (declared_again direction bus).range ≡ bus.range
again_range direction.Inner bus = refl
again_range direction.Input bus = refl
again_range direction.Output bus = refl

again_name : (direction : Direction) (bus : Bus) → (declared_again direction bus).name ≡ bus.name
again_name direction.Inner bus = refl
again_name direction.Input bus = refl
again_name direction.Output bus = refl

again_of_header : (direction : Direction) (ports : List (List ℕ)) (bus : Bus) → (is_inner direction ≡ false → has_name bus.name ports ≡ true)
    → IsOfHeader ports bus → IsOfHeader ports (declared_again direction bus)
again_of_header direction.Inner ports bus allowed is = is
again_of_header direction.Input ports bus allowed is = allowed
again_of_header direction.Output ports bus allowed is = allowed

-- declared names grow to these
abbrev Declares : List (List ℕ) → List Bus → List Bus → Type 0
Declares ports buses grown = Grows buses grown × AreNames ports grown

abbrev named_buses : List Bus → List (List ℕ)
named_buses buses = map (λ bus. bus.name) buses

again_kept : (direction : Direction) (range : Option Range) (name : List ℕ) (ports : List (List ℕ)) (buses grown : List Bus) (place : ℕ)
    (found : Option Bus) → slice_get buses place ≡ found → bus_of name buses ≡ Some place
    → (is_inner direction ≡ false → has_name name ports ≡ true) → AreNames ports buses
    → again_at direction range buses place found ≡ Ok grown → Declares ports buses grown
again_kept direction range name ports buses grown place None there at allowed are is = absurd cc
again_kept direction range name ports buses grown place (Some bus) there at allowed are is =
    let once : (is_twice direction bus ≡ false) × (unless (not (same_range range bus.range)) BadRange
    (Ok (slice_set buses place (declared_again direction bus))) ≡ Ok grown) =
    passed (is_twice direction bus) DoubleName _ grown is in
    let last : (not (same_range range bus.range) ≡ false) × (Ok (slice_set buses place (declared_again direction bus)) ≡ Ok grown) =
    passed (not (same_range range bus.range)) BadRange (Ok (slice_set buses place (declared_again direction bus))) grown once.1 in
    let same : bus.name ≡ name = place_named name buses place bus at there in
    subst (Declares ports buses) (inside (slice_set buses place (declared_again direction bus)) grown last.1) (
      set_again buses place bus (declared_again direction bus) there (again_range direction bus),
      record {
        distinct_ports = are.distinct_ports;
        distinct_buses = subst (IsDistinct bytes_eq)
            (sym (map-set_same (λ (bus : Bus). bus.name) buses place (declared_again direction bus) bus
            (again_name direction bus ∙ ap (λ (bus : Bus). bus.name) (sym (got buses place bus bus there))))) are.distinct_buses;
        of_header = All-set (IsOfHeader ports) buses place (declared_again direction bus)
            (again_of_header direction ports bus (λ inner. subst (λ (n : List ℕ). has_name n ports ≡ true) (sym same) (allowed inner))
            (all_at (IsOfHeader ports) buses place bus are.of_header there)) are.of_header;
      },
    )

pushed_kept : (direction : Direction) (range : Option Range) (name : List ℕ) (ports : List (List ℕ)) (buses grown : List Bus)
    → bus_of name buses ≡ None → (is_inner direction ≡ false → has_name name ports ≡ true) → AreNames ports buses
    → ◌≡◌ {A = Result (List Bus) VerilogKind} (Ok (buses ++ new_bus direction range name ∷ [])) (Ok grown) → Declares ports buses grown
pushed_kept direction range name ports buses grown none allowed are is =
    let new : Bus = new_bus direction range name in
    subst (Declares ports buses) (inside (buses ++ new ∷ []) grown is) (
      pushed buses new,
      record {
        distinct_ports = are.distinct_ports;
        distinct_buses = subst (IsDistinct bytes_eq) (sym (map-append (λ (bus : Bus). bus.name) buses (new ∷ [])))
            (distinct_grown (named_buses buses) name are.distinct_buses (not_there name (named_buses buses) none));
        of_header = All-push (IsOfHeader ports) buses new are.of_header allowed;
      },
    )

allowed_name : (inner known : Bool) → (not inner && not known) ≡ false → inner ≡ false → known ≡ true
allowed_name true known is inner = absurd cc
allowed_name false true is inner = refl
allowed_name false false is inner = absurd cc

declared : (direction : Direction) (range : Option Range) (name : List ℕ) (ports : List (List ℕ)) (buses grown : List Bus)
    → AreNames ports buses → declare direction range name ports buses ≡ Ok grown → Declares ports buses grown
unfolding declare
declared direction range name ports buses grown are is =
    let rules : ((not (is_inner direction) && not (has_name name ports)) ≡ false) × (given (bus_of name buses) ≡ Ok grown) =
    passed (not (is_inner direction) && not (has_name name ports)) Undeclared (given (bus_of name buses)) grown is in
    by (bus_of name buses) refl (allowed_name (is_inner direction) (has_name name ports) rules.0) rules.1
  where
    given : Option ℕ → Result (List Bus) VerilogKind
    given found = elim found as (λ _. Result (List Bus) VerilogKind) [
      | None ↦ Ok (buses ++ new_bus direction range name ∷ [])
      | Some place ↦ again_at direction range buses place (slice_get buses place)
    ]

    by : (found : Option ℕ) → bus_of name buses ≡ found → (is_inner direction ≡ false → has_name name ports ≡ true)
        → given found ≡ Ok grown → Declares ports buses grown
    by None none allowed reported = pushed_kept direction range name ports buses grown none allowed are reported
    by (Some place) at allowed reported =
        again_kept direction range name ports buses grown place (slice_get buses place) refl at allowed are reported

-- operands
selected_kept : (buses : List Bus) (operand chosen : Operand) (index : ℕ) → IsOperand buses operand → selected buses operand index ≡ Ok chosen
    → IsOperand buses chosen
selected_kept buses (Bit place at) chosen index is reported = absurd cc
selected_kept buses (Constant value) chosen index is reported = absurd cc
selected_kept buses (Whole place) chosen index is reported = by (range_at place buses) refl reported
  where
    by : (range : Option Range) → range_at place buses ≡ range → bit_in place index range ≡ Ok chosen → IsOperand buses chosen
    by None at reported = absurd cc
    by (Some range) at reported =
        let rule : (not (has_index index range) ≡ false) × (Ok (Bit place index) ≡ Ok chosen) =
        passed (not (has_index index range)) BadRange (Ok (Bit place index)) chosen reported in
        subst (IsOperand buses) (inside (Bit place index) chosen rule.1)
        (is, subst (IsIndexOf index) (sym at) (not_false (has_index index range) rule.0))

with_use_kept : (buses : List Bus) (uses : List Use) (pin : List ℕ) (on : Option Operand) → AreUses buses uses → has_pin pin uses ≡ false
    → IsUsed buses on → AreUses buses (uses ++ record { pin = pin; operand = on } ∷ [])
with_use_kept buses uses pin on are new is = record {
  distinct = subst (IsDistinct bytes_eq) (sym (map-append (λ (used : Use). used.pin) uses (record { pin = pin; operand = on } ∷ [])))
      (distinct_grown (map (λ (used : Use). used.pin) uses) pin are.distinct new);
  used = All-push (λ (used : Use). IsUsed buses used.operand) uses (record { pin = pin; operand = on }) are.used is;
}

no_uses : (buses : List Bus) → AreUses buses []
unfolding IsDistinct
no_uses buses = record { distinct = tt; used = All-nil (λ (used : Use). IsUsed buses used.operand) }

kept_as : (at : Place) (given next : Reading) → IsKept at given → ◌≡◌ {A = Step} (Ok given) (Ok next) → IsKept at next
kept_as at given next kept is =
    let same : given ≡ next = cc in
    subst (IsKept at) same kept

never : {X : Type 0} → false ≡ true → X
never is = absurd cc

-- what is in hand stays new where the action leaves it alone
abbrev Stays : Place → Place → Type 0
Stays from to = (in_instance to ≡ true → in_instance from ≡ true) × (in_pin to ≡ true → in_pin from ≡ true)

stays : (from to : Place) (hand : Hand) (instances : List Instance) → Stays from to → IsNew from hand instances → IsNew to hand instances
stays from to hand instances same new = record { name = λ at. new.name (same.0 at); pin = λ at. new.pin (same.1 at) }

-- the same reading at another place
moved : (from to : Place) (it : Reading) → Stays from to → IsClosed to it.ports it.buses → IsKept from it → IsKept to it
moved from to it same closed kept = record {
  names = kept.names;
  closed = closed;
  joins = kept.joins;
  instances = kept.instances;
  hand = kept.hand;
  new = stays from to it.hand it.instances same kept.new;
}

operand_kept : (from to : Place) (it : Reading) (operand : Operand) → Stays from to → (is_end to ≡ true → false ≡ true) → IsKept from it
    → IsOperand it.buses operand → IsKept to (with_operand operand it)
operand_kept from to it operand same early kept is = record {
  names = kept.names;
  closed = λ at. never (early at);
  joins = kept.joins;
  instances = kept.instances;
  hand = record { uses = kept.hand.uses; left_side = kept.hand.left_side; operand = is };
  new = record { name = λ at. kept.new.name (same.0 at); pin = λ at. kept.new.pin (same.1 at) };
}

use_kept : (from to : Place) (it next : Reading) (on : Option Operand) → (in_instance to ≡ true → in_instance from ≡ true)
    → (in_pin to ≡ true → false ≡ true) → in_pin from ≡ true → (is_end to ≡ true → false ≡ true) → IsKept from it → IsUsed it.buses on
    → ◌≡◌ {A = Step} (Ok (with_use on it)) (Ok next) → IsKept to next
use_kept from to it next on same none at early kept is = kept_as to (with_use on it) next (record {
  names = kept.names;
  closed = λ at. never (early at);
  joins = kept.joins;
  instances = kept.instances;
  hand = record {
    uses = with_use_kept it.buses it.hand.uses it.hand.pin on kept.hand.uses (kept.new.pin at) is;
    left_side = kept.hand.left_side;
    operand = kept.hand.operand;
  };
  new = record { name = λ there. kept.new.name (same there); pin = λ there. never (none there) };
})

buses_kept : (from to : Place) (it next : Reading) (given : Result (List Bus) VerilogKind) → Stays from to
    → (is_end to ≡ true → false ≡ true) → IsKept from it → ((grown : List Bus) → given ≡ Ok grown → Declares it.ports it.buses grown) → given_buses it given ≡ Ok next → IsKept to next
buses_kept from to it next (Err kind) same early kept declares is = absurd cc
buses_kept from to it next (Ok grown) same early kept declares is =
    let made : Declares it.ports it.buses grown = declares grown refl in
    kept_as to (record it { buses = grown }) next (record {
      names = made.1;
      closed = λ at. never (early at);
      joins = joins_grown it.buses grown made.0 it.joins kept.joins;
      instances = instances_grown it.buses grown made.0 it.instances kept.instances;
      hand = hand_grown it.buses grown made.0 it.hand kept.hand;
      new = stays from to it.hand it.instances same kept.new;
    }) is

chosen_kept : (from to : Place) (it next : Reading) (given : Result Operand VerilogKind) → Stays from to
    → (is_end to ≡ true → false ≡ true) → IsKept from it → ((operand : Operand) → given ≡ Ok operand → IsOperand it.buses operand) → given_operand it given ≡ Ok next → IsKept to next
chosen_kept from to it next (Err kind) same early kept chosen is = absurd cc
chosen_kept from to it next (Ok operand) same early kept chosen is =
    kept_as to (with_operand operand it) next (operand_kept from to it operand same early kept (chosen operand refl)) is

referred_kept : (from to : Place) (name : List ℕ) (it next : Reading) (found : Option ℕ) → bus_of name it.buses ≡ found → Stays from to
    → (is_end to ≡ true → false ≡ true) → IsKept from it
    → elim found as (λ _. Step) [ None ↦ Err Undeclared | Some place ↦ Ok (with_operand (Whole place) it) ] ≡ Ok next → IsKept to next
referred_kept from to name it next None at same early kept is = absurd cc
referred_kept from to name it next (Some place) at same early kept is =
    kept_as to (with_operand (Whole place) it) next
    (operand_kept from to it (Whole place) same early kept (place_within name it.buses place at)) is

-- each action keeps it, where it leads along a row
acted : (from : Place) (done : Action) (name : List ℕ) (it next : Reading) → Follows from done it.place → IsKept from it
    → act done name it ≡ Ok next → IsKept it.place next
unfolding act
acted from action.Nothing name it next follows kept is =
    kept_as it.place it next (moved from it.place it (follows.name, follows.pin) (λ at. never (follows.closed at)) kept) is
acted from action.AddPort name it next follows kept is =
    let rule : (has_name name it.ports ≡ false) × (Ok (record it { ports = with_name name it.ports }) ≡ Ok next) =
    passed (has_name name it.ports) DoubleName _ next is in
    kept_as it.place (record it { ports = with_name name it.ports }) next (record {
      names = port_added it.ports it.buses name kept.names rule.0;
      closed = λ at. never (follows.closed at);
      joins = kept.joins;
      instances = kept.instances;
      hand = kept.hand;
      new = stays from it.place it.hand it.instances (follows.name, follows.pin) kept.new;
    }) rule.1
acted from (action.Declare direction range) name it next follows kept is =
    buses_kept from it.place it next (declare direction range name it.ports it.buses) (follows.name, follows.pin) follows.closed kept
    (λ grown. declared direction range name it.ports it.buses grown kept.names) is
acted from action.Close name it next follows kept is =
    let rule : (not (list_all (has_direction it.buses) it.ports) ≡ false) × (Ok it ≡ Ok next) =
    passed (not (list_all (has_direction it.buses) it.ports)) Undeclared (Ok it) next is in
    kept_as it.place it next
    (moved from it.place it (follows.name, follows.pin) (λ at. not_false (list_all (has_direction it.buses) it.ports) rule.0) kept) rule.1
acted from action.TakeCell name it next follows kept is =
    kept_as it.place (record it { hand = record it.hand { cell = upper_case name } }) next (record {
      names = kept.names;
      closed = λ at. never (follows.closed at);
      joins = kept.joins;
      instances = kept.instances;
      hand = record { uses = kept.hand.uses; left_side = kept.hand.left_side; operand = kept.hand.operand };
      new = record { name = λ at. kept.new.name (follows.name at); pin = λ at. kept.new.pin (follows.pin at) };
    }) is
acted from action.TakeInstance name it next follows kept is =
    let rule : (has_instance name it.instances ≡ false) × (Ok (record it { hand = record it.hand { name = name; uses = [] } }) ≡ Ok next) =
    passed (has_instance name it.instances) DoubleName _ next is in
    kept_as it.place (record it { hand = record it.hand { name = name; uses = [] } }) next (record {
      names = kept.names;
      closed = λ at. never (follows.closed at);
      joins = kept.joins;
      instances = kept.instances;
      hand = record { uses = no_uses it.buses; left_side = kept.hand.left_side; operand = kept.hand.operand };
      new = record { name = λ at. rule.0; pin = λ at. never (follows.pin at) };
    }) rule.1
acted from action.TakePin name it next follows kept is =
    let rule : (has_pin (upper_case name) it.hand.uses ≡ false) × (Ok (record it { hand = record it.hand { pin = upper_case name } }) ≡ Ok next) =
    passed (has_pin (upper_case name) it.hand.uses) DoubleName _ next is in
    kept_as it.place (record it { hand = record it.hand { pin = upper_case name } }) next (record {
      names = kept.names;
      closed = λ at. never (follows.closed at);
      joins = kept.joins;
      instances = kept.instances;
      hand = record { uses = kept.hand.uses; left_side = kept.hand.left_side; operand = kept.hand.operand };
      new = record { name = λ at. kept.new.name (follows.name at); pin = λ at. rule.0 };
    }) rule.1
acted from action.Refer name it next follows kept is =
    referred_kept from it.place name it next (bus_of name it.buses) refl (follows.name, follows.pin) follows.closed kept is
acted from action.OpenIndex name it next follows kept is =
    kept_as it.place it next (moved from it.place it (follows.name, follows.pin) (λ at. never (follows.closed at)) kept) (passed _ BadRange (Ok it) next is).1
acted from (action.Select index) name it next follows kept is =
    chosen_kept from it.place it next (selected it.buses it.hand.operand index) (follows.name, follows.pin) follows.closed kept
    (λ chosen. selected_kept it.buses it.hand.operand chosen index kept.hand.operand) is
acted from (action.TakeConstant value) name it next follows kept is =
    kept_as it.place (with_operand (Constant value) it) next
    (operand_kept from it.place it (Constant value) (follows.name, follows.pin) follows.closed kept tt) is
acted from action.LeaveOpen name it next follows kept is =
    use_kept from it.place it next None follows.name follows.pin follows.pin_taken follows.closed kept tt is
acted from action.Connect name it next follows kept is =
    use_kept from it.place it next (Some it.hand.operand) follows.name follows.pin follows.pin_taken follows.closed kept kept.hand.operand
    (passed (is_vector it.buses it.hand.operand) BadRange (Ok (with_use (Some it.hand.operand) it)) next is).1
acted from action.KeepLeft name it next follows kept is =
    kept_as it.place (record it { hand = record it.hand { left = it.hand.operand } }) next (record {
      names = kept.names;
      closed = λ at. never (follows.closed at);
      joins = kept.joins;
      instances = kept.instances;
      hand = record { uses = kept.hand.uses; left_side = kept.hand.operand; operand = kept.hand.operand };
      new = record { name = λ at. kept.new.name (follows.name at); pin = λ at. kept.new.pin (follows.pin at) };
    }) is
acted from action.Join name it next follows kept is =
    let join : Join = record { left = it.hand.left; right = it.hand.operand } in
    let rule : (not (width_of it.buses it.hand.left == width_of it.buses it.hand.operand) ≡ false)
    × (Ok (record it { joins = it.joins ++ join ∷ [] }) ≡ Ok next) =
    passed (not (width_of it.buses it.hand.left == width_of it.buses it.hand.operand)) BadRange
    (Ok (record it { joins = it.joins ++ join ∷ [] })) next is in
    kept_as it.place (record it { joins = it.joins ++ join ∷ [] }) next (record {
      names = kept.names;
      closed = λ at. never (follows.closed at);
      joins = All-push (IsJoin it.buses) it.joins join kept.joins (record {
        left_side = kept.hand.left_side;
        right_side = kept.hand.operand;
        same_width = eqb-true (width_of it.buses it.hand.left) (width_of it.buses it.hand.operand) (not_false _ rule.0);
      });
      instances = kept.instances;
      hand = kept.hand;
      new = stays from it.place it.hand it.instances (follows.name, follows.pin) kept.new;
    }) rule.1
acted from action.EndInstance name it next follows kept is =
    let made : Instance = record { name = it.hand.name; cell = it.hand.cell; uses = it.hand.uses } in
    kept_as it.place (end_instance it) next (record {
      names = kept.names;
      closed = λ at. never (follows.closed at);
      joins = kept.joins;
      instances = record {
        distinct = subst (IsDistinct bytes_eq) (sym (map-append (λ (instance : Instance). instance.name) it.instances (made ∷ [])))
            (distinct_grown (map (λ (instance : Instance). instance.name) it.instances) it.hand.name kept.instances.distinct
            (kept.new.name follows.name_taken));
        each = All-push (λ (instance : Instance). AreUses it.buses instance.uses) it.instances made kept.instances.each kept.hand.uses;
      };
      hand = record { uses = no_uses it.buses; left_side = kept.hand.left_side; operand = kept.hand.operand };
      new = record { name = λ at. never (follows.name at); pin = λ at. never (follows.pin at) };
    }) is

-- it speaks of all but the reading's own place
led_to : (at place : Place) (it : Reading) → IsKept at it → IsKept at (at_place place it)
led_to at place it kept = record {
  names = kept.names;
  closed = kept.closed;
  joins = kept.joins;
  instances = kept.instances;
  hand = kept.hand;
  new = kept.new;
}

taken : (lexeme : Lexeme) (name : List ℕ) (it next : Reading) (move : Move) → row_of it.place lexeme ≡ move → IsKept it.place it
    → elim move as (λ _. Step) [ Err kind ↦ Err kind | Ok row ↦ act row.action name (at_place row.place it) ] ≡ Ok next
    → IsKept next.place next
taken lexeme name it next (Err kind) at kept is = absurd cc
taken lexeme name it next (Ok row) at kept is =
    subst (λ (place : Place). IsKept place next) (act_place row.action name (at_place row.place it) next is)
    (acted it.place row.action name (at_place row.place it) next (row_follows it.place lexeme row at) (led_to it.place row.place it kept) is)

-- a token that is taken keeps it
pub step_kept : (lexeme : Lexeme) (name : List ℕ) (it next : Reading) → IsKept it.place it → lexeme_step lexeme name it ≡ Ok next
    → IsKept next.place next
unfolding lexeme_step
step_kept lexeme name it next kept is = taken lexeme name it next (row_of it.place lexeme) refl kept is

-- before the first token there is nothing that could break it
pub nothing_kept : IsKept nothing.place nothing
unfolding IsDistinct
nothing_kept = record {
  closed = λ at. never at;
  names = record { distinct_ports = tt; distinct_buses = tt; of_header = All-nil (IsOfHeader []) };
  joins = All-nil (IsJoin []);
  instances = record { distinct = tt; each = All-nil (λ (instance : Instance). AreUses [] instance.uses) };
  hand = record { uses = no_uses []; left_side = tt; operand = tt };
  new = record { name = λ at. never at; pin = λ at. never at };
}
