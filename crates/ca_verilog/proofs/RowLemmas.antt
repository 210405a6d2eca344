-- Along each row of the table the name of the instance in hand stays new, and so does that of its pin.
use Rattle.std.proofs.Common.{◌≡◌, Bool, true, false, not, ◌&&◌, ◌||◌, refl, sym, ap, ◌∙◌, Ok, Err}
use Rattle.ca_verilog.specs.declared.lexeme.Lexeme.{Lexeme}
use Rattle.ca_verilog.specs.declared.lexeme.Lexeme.TheVariants as lexeme
use Rattle.ca_verilog.specs.declared.table.Side.TheVariants as side
use Rattle.ca_verilog.specs.declared.table.Place.{Place}
use Rattle.ca_verilog.specs.declared.table.Place.TheVariants as place
use Rattle.ca_verilog.specs.declared.table.Action.{Action}
use Rattle.ca_verilog.specs.declared.table.Action.TheVariants as action
use Rattle.ca_verilog.specs.declared.table.Row.{Row}
use Rattle.ca_verilog.specs.code.Kept.{in_instance, in_pin}
use Rattle.ca_verilog.specs.Table.{Move, row_of}
use Rattle.ca_verilog.specs.Text.{is_end}

-- the name in hand is new after the action, where it was before or not
abbrev pub name_after : Action → Bool → Bool
name_after action.TakeInstance was_new = true
name_after action.EndInstance was_new = false
name_after _ was_new = was_new

-- the pin in hand is new after the action
abbrev pub pin_after : Action → Bool → Bool
pin_after action.TakePin was_new = true
pin_after action.TakeInstance was_new = false
pin_after action.LeaveOpen was_new = false
pin_after action.Connect was_new = false
pin_after action.EndInstance was_new = false
pin_after _ was_new = was_new

-- the action may be done with this name in hand
abbrev pub takes_name : Action → Bool → Bool
takes_name action.EndInstance is_new = is_new
takes_name _ is_new = true

-- the action may be done with this pin in hand
abbrev pub takes_pin : Action → Bool → Bool
takes_pin action.LeaveOpen is_new = is_new
takes_pin action.Connect is_new = is_new
takes_pin _ is_new = true

-- the action sees to it that each name of the header has a direction
abbrev pub closes : Action → Bool
closes action.Close = true
closes _ = false

-- the action leads from one place to the other with a new name and a new pin in hand where they say so
pub record Follows (from : Place) (done : Action) (to : Place) : Type 0 where
  pub name : in_instance to ≡ true → name_after done (in_instance from) ≡ true
  pub pin : in_pin to ≡ true → pin_after done (in_pin from) ≡ true
  pub name_taken : takes_name done (in_instance from) ≡ true
  pub pin_taken : takes_pin done (in_pin from) ≡ true
  pub closed : is_end to ≡ true → closes done ≡ true

abbrev after_taken : Place → Action → Place → Bool
after_taken from done to = takes_pin done (in_pin from) && (not (is_end to) || closes done)

abbrev after_pin : Place → Action → Place → Bool
after_pin from done to = takes_name done (in_instance from) && after_taken from done to

abbrev after_name : Place → Action → Place → Bool
after_name from done to = (not (in_pin to) || pin_after done (in_pin from)) && after_pin from done to

abbrev pub follows : Place → Action → Place → Bool
follows from done to = (not (in_instance to) || name_after done (in_instance from)) && after_name from done to

abbrev moves : Place → Move → Bool
moves from (Err kind) = true
moves from (Ok row) = follows from row.action row.place

both_true : (x y : Bool) → (x && y) ≡ true → (x ≡ true) × (y ≡ true)
both_true true y is = (refl, is)
both_true false y is = absurd cc

implied : (x y : Bool) → (not x || y) ≡ true → x ≡ true → y ≡ true
implied true y is at = is
implied false y is at = absurd cc

pub followed : (from : Place) (done : Action) (to : Place) → follows from done to ≡ true → Follows from done to
followed from done to is =
    let one = both_true (not (in_instance to) || name_after done (in_instance from)) (after_name from done to) is in
    let two = both_true (not (in_pin to) || pin_after done (in_pin from)) (after_pin from done to) one.1 in
    let three = both_true (takes_name done (in_instance from)) (after_taken from done to) two.1 in
    let four = both_true (takes_pin done (in_pin from)) (not (is_end to) || closes done) three.1 in
    record {
      name = implied (in_instance to) (name_after done (in_instance from)) one.0;
      pin = implied (in_pin to) (pin_after done (in_pin from)) two.0;
      name_taken = three.0;
      pin_taken = four.0;
      closed = implied (is_end to) (closes done) four.1;
    }

rows_follow : (from : Place) (lexeme : Lexeme) → moves from (row_of from lexeme) ≡ true
unfolding row_of
rows_follow place.Start lexeme.Module = refl
rows_follow place.Start other = refl
rows_follow place.ModuleName lexeme.Name = refl
rows_follow place.ModuleName other = refl
rows_follow place.Header lexeme.Open = refl
rows_follow place.Header other = refl
rows_follow place.FirstPort lexeme.Close = refl
rows_follow place.FirstPort other = refl
rows_follow place.Port lexeme.Name = refl
rows_follow place.Port other = refl
rows_follow place.PortEnd lexeme.Comma = refl
rows_follow place.PortEnd other = refl
rows_follow place.HeaderEnd lexeme.Semicolon = refl
rows_follow place.HeaderEnd other = refl
rows_follow place.Item lexeme.Input = refl
rows_follow place.Item other = refl
rows_follow place.End lexeme.Module = refl
rows_follow place.End other = refl
rows_follow (place.Declaration direction) lexeme.Name = refl
rows_follow (place.Declaration direction) other = refl
rows_follow (place.RangeLeft direction) (lexeme.Number left) = refl
rows_follow (place.RangeLeft direction) other = refl
rows_follow (place.RangeColon direction left) lexeme.Colon = refl
rows_follow (place.RangeColon direction left) other = refl
rows_follow (place.RangeRight direction left) (lexeme.Number right) = refl
rows_follow (place.RangeRight direction left) other = refl
rows_follow (place.RangeEnd direction range) lexeme.CloseBracket = refl
rows_follow (place.RangeEnd direction range) other = refl
rows_follow (place.Declared direction range) lexeme.Name = refl
rows_follow (place.Declared direction range) other = refl
rows_follow (place.DeclaredEnd direction range) lexeme.Comma = refl
rows_follow (place.DeclaredEnd direction range) other = refl
rows_follow (place.Operand side.Left) lexeme.Name = refl
rows_follow (place.Operand side.Left) other = refl
rows_follow (place.Operand side.Right) lexeme.Name = refl
rows_follow (place.Operand side.Right) other = refl
rows_follow (place.Operand side.Pin) lexeme.Name = refl
rows_follow (place.Operand side.Pin) other = refl
rows_follow (place.NameEnd side.Left) lexeme.Equals = refl
rows_follow (place.NameEnd side.Left) other = refl
rows_follow (place.NameEnd side.Right) lexeme.Semicolon = refl
rows_follow (place.NameEnd side.Right) other = refl
rows_follow (place.NameEnd side.Pin) lexeme.Close = refl
rows_follow (place.NameEnd side.Pin) other = refl
rows_follow (place.Index side.Left) (lexeme.Number index) = refl
rows_follow (place.Index side.Left) other = refl
rows_follow (place.Index side.Right) (lexeme.Number index) = refl
rows_follow (place.Index side.Right) other = refl
rows_follow (place.Index side.Pin) (lexeme.Number index) = refl
rows_follow (place.Index side.Pin) other = refl
rows_follow (place.IndexEnd side.Left) lexeme.CloseBracket = refl
rows_follow (place.IndexEnd side.Left) other = refl
rows_follow (place.IndexEnd side.Right) lexeme.CloseBracket = refl
rows_follow (place.IndexEnd side.Right) other = refl
rows_follow (place.IndexEnd side.Pin) lexeme.CloseBracket = refl
rows_follow (place.IndexEnd side.Pin) other = refl
rows_follow (place.OperandEnd side.Left) lexeme.Equals = refl
rows_follow (place.OperandEnd side.Left) other = refl
rows_follow (place.OperandEnd side.Right) lexeme.Semicolon = refl
rows_follow (place.OperandEnd side.Right) other = refl
rows_follow (place.OperandEnd side.Pin) lexeme.Close = refl
rows_follow (place.OperandEnd side.Pin) other = refl
rows_follow place.InstanceName lexeme.Name = refl
rows_follow place.InstanceName other = refl
rows_follow place.Pins lexeme.Open = refl
rows_follow place.Pins other = refl
rows_follow place.FirstPin lexeme.Close = refl
rows_follow place.FirstPin other = refl
rows_follow place.NextPin lexeme.Dot = refl
rows_follow place.NextPin other = refl
rows_follow place.PinName lexeme.Name = refl
rows_follow place.PinName other = refl
rows_follow place.PinOpen lexeme.Open = refl
rows_follow place.PinOpen other = refl
rows_follow place.PinValue lexeme.Close = refl
rows_follow place.PinValue other = refl
rows_follow place.PinEnd lexeme.Comma = refl
rows_follow place.PinEnd other = refl
rows_follow place.InstanceEnd lexeme.Semicolon = refl
rows_follow place.InstanceEnd other = refl

-- a token's row keeps what its place says of what is in hand
pub row_follows : (from : Place) (lexeme : Lexeme) (row : Row) → row_of from lexeme ≡ Ok row → Follows from row.action row.place
row_follows from lexeme row is =
    followed from row.action row.place (sym (ap (moves from) is) ∙ rows_follow from lexeme)
